use Rattle.std.proofs.Common.{◌≤◌, length, arith, take_all}
use Rattle.qcow2_base.proofs.StorageLemmas.{image_of-padded}
use Rattle.qcow2_base.proofs.storage.memory.lengthen.Goals as goal

pub returns-in_ok-resize-clause-same : goal.returns-in_ok-resize-clause-same
returns-in_ok-resize-clause-same c =
    let old = c.args.bytes.now in
    let short : length old.items ≤ c.args.len = omega (arith, old.ok.0) in
    rw (c.in_ok-resize.ensures.items, take_all c.args.len old.items short) (image_of-padded _ _)
