use Rattle.std.proofs.Common.{lit≤}
use Rattle.qcow2_base.proofs.OnDiskStructLemmas.{Stores-more}
use Rattle.qcow2_base.proofs.on_disk_struct.snapshot_header.SnapshotHeaderOnDiskStruct.store_to_be.Goals as goal

pub returns-clause-stored : goal.returns-clause-stored
returns-clause-stored c =
    let first_2 = Stores-more c.write_be.ensures c.write_be-2.ensures (lit≤ tt) in
    let first_3 = Stores-more first_2 c.write_be-3.ensures (lit≤ tt) in
    let first_4 = Stores-more first_3 c.write_be-4.ensures (lit≤ tt) in
    let first_5 = Stores-more first_4 c.write_be-5.ensures (lit≤ tt) in
    let first_6 = Stores-more first_5 c.write_be-6.ensures (lit≤ tt) in
    let first_7 = Stores-more first_6 c.write_be-7.ensures (lit≤ tt) in
    let first_8 = Stores-more first_7 c.write_be-8.ensures (lit≤ tt) in
    Stores-more first_8 c.write_be-9.ensures (lit≤ tt)
