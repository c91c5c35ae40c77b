use Rattle.std.proofs.Common.{rules}
use Rattle.qcow2_base.proofs.OnDiskStructLemmas.{le_of_bytes}
use Rattle.qcow2_base.proofs.on_disk_struct.integers.U32OnDiskStruct.store_to_le.Goals as goal

pub returns-clause-stored : goal.returns-clause-stored
returns-clause-stored c =
    record { placed = (le_of_bytes 4 _ _ _ c.write_u32.ensures (search rules), tt); gaps = search rules }
