use Rattle.std.proofs.Common.{rules}
use Rattle.qcow2_base.proofs.OnDiskStructLemmas.{be_of_bytes}
use Rattle.qcow2_base.proofs.on_disk_struct.integers.U64OnDiskStruct.store_to_be.Goals as goal

pub returns-clause-stored : goal.returns-clause-stored
returns-clause-stored c =
    record { placed = (be_of_bytes 8 _ _ _ c.write_u64.ensures (search rules), tt); gaps = search rules }
