use Rattle.std.proofs.Common.{◌≡◌, ◌+◌, ◌-◌, arith}
use Rattle.qcow2_metadata.specs.Header.{geometry}
use Rattle.qcow2_metadata.proofs.EntriesLemmas.{allocation_is}
use Rattle.qcow2_metadata.proofs.entries.l2_entry.L2Entry.allocation.Goals as goal

pub returns : goal.returns
returns c =
    let range = c.in_ok-start.ensures in
    let start = c.in_ok-start.start.0 in
    let len = c.in_ok-start.length in
    let last : start + len - 1 ≡ start + (len - 1) = omega (arith, range.length) in
    let is = rw (range.some, last) at (allocation_is (geometry c.args.cluster_bits c.args.external_data_file) c.args.self.now (omega (arith, c.requires.0))) in
    rw (c.cluster-first.ensures, c.cluster-last.ensures) is
