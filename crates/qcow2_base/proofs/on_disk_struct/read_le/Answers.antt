use Rattle.std.proofs.Common.{arith}
use Rattle.qcow2_base.specs.OnDiskStruct.{Little}
use Rattle.qcow2_base.proofs.OnDiskStructLemmas.{HoldsLayout-between}
use Rattle.qcow2_base.proofs.on_disk_struct.read_le.Goals as goal

pub returns : goal.returns
returns g c =
    let end = g.met.T.OnDiskStruct.size_is_end Little c.unwrap.result in
    HoldsLayout-between c.args.bytes.now c.args.place _ _ (omega (arith, end, c.ON_DISK_SIZE.ensures))
    (rw c.unwrap.ensures at c.load_from_le.ensures.loaded)
