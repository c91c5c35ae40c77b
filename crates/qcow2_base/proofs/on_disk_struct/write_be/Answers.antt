use Rattle.std.proofs.Common.{◌≤◌, ◌+◌, length, arith}
use Rattle.std.proofs.lemmas.List.Edits.{length-between}
use Rattle.qcow2_base.specs.OnDiskStruct.{Big}
use Rattle.qcow2_base.proofs.OnDiskStructLemmas.{Stores-put_mid}
use Rattle.qcow2_base.proofs.on_disk_struct.write_be.Goals as goal

pub returns : goal.returns
returns g c =
    let end = g.met.T.OnDiskStruct.size_is_end Big c.args.value.now in
    let fits : c.args.place + c.ON_DISK_SIZE.result ≤ length c.args.bytes.now = omega (arith, c.requires, c.ON_DISK_SIZE.ensures) in
    let len = length-between c.args.bytes.now c.args.place _ fits in
    Stores-put_mid c.args.bytes.now c.store_to_be.new.bytes c.args.place _ _ (omega (arith, end, c.ON_DISK_SIZE.ensures)) fits
    (omega (arith, c.store_to_be.auto.bytes, len)) (rw c.unwrap.ensures at c.store_to_be.ensures.stored)
