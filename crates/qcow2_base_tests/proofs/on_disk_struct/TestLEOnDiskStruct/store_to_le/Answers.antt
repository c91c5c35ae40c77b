use Rattle.std.proofs.Common.{lit≤}
use Rattle.qcow2_base.proofs.OnDiskStructLemmas.{Stores-more}
use Rattle.qcow2_base_tests.proofs.on_disk_struct.TestLEOnDiskStruct.store_to_le.Goals as goal

pub returns-clause-stored : goal.returns-clause-stored
returns-clause-stored c =
    Stores-more c.write_le.ensures c.write_le-2.ensures (lit≤ tt)
