use Rattle.std.proofs.Common.{lit≤}
use Rattle.qcow2_base.proofs.OnDiskStructLemmas.{Stores-more}
use Rattle.qcow2_base_tests.proofs.on_disk_struct.TestGapsOnDiskStruct.store_to_be.Goals as goal

pub returns-clause-stored : goal.returns-clause-stored
returns-clause-stored c =
    Stores-more c.write_be.ensures c.write_be-2.ensures (lit≤ tt)
