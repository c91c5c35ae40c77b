use Rattle.std.proofs.Common.{◌/◌, length, arith}
use Rattle.qcow2_metadata.proofs.OneEntryLemmas.{written_entries}
use Rattle.qcow2_metadata.specs.Table.OneEntry.{EntryRange}
use Rattle.qcow2_metadata.proofs.table.one_entry.write_through.Goals as goal

pub returns-clause-written : goal.returns-clause-written
returns-clause-written g c = λ told.
    let range : EntryRange = record { first = c.args.first; count = length c.args.buffer.now / 8 } in
    written_entries (g.S.Storage.state c.write.new.self).byte_at c.args.offset.0 c.encode.new.bytes range _
    (omega (arith, c.encode.ensures.len)) (c.in_ok-write.ensures.written told) c.encode.ensures.written
