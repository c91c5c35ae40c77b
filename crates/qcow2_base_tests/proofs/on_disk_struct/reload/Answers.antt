use Rattle.std.proofs.Common.{◌≡◌, Ok, Err, IfOk}
use Rattle.qcow2_base.specs.Storage.{image_of}
use Rattle.qcow2_base.specs.OnDiskStruct.{Big, HoldsLayout}
use Rattle.qcow2_base_tests.proofs.on_disk_struct.reload.Goals as goal

pub returns : goal.returns
returns g c =
    let value = c.args.value.now in
    let image = image_of c.store_to_be.new.bytes in
    let stored = c.in_ok-store_to_be.ensures.stored in
    let layout = g.T.OnDiskStruct.layout Big in
    elim c.load_from_be.result as (λ r. IfOk r (λ v. HoldsLayout image (layout v)) → IfOk r (λ v. v ≡ value)) [
      | Ok v ↦ λ held. g.met.T.OnDiskStruct.loads_back Big image v value held stored.placed
      | Err e ↦ λ held. tt
    ] c.load_from_be.ensures.loaded
