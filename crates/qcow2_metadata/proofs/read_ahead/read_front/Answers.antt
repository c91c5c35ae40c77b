use Rattle.std.proofs.Common.{◌≡◌, arith, length}
use Rattle.std.proofs.Math.Seq.{take-append_seam}
use Rattle.qcow2_metadata.proofs.read_ahead.read_front.Goals as goal

pub returns : goal.returns
returns g c =
    let count : length c.read.new.buf ≡ c.args.len = omega arith in
    rw (← count, take-append_seam c.read.new.buf) c.read.ensures
