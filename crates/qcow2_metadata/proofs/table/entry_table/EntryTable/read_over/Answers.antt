use Rattle.std.proofs.Common.{◌≡◌, ◌++◌, drop, length, take, rules}
use Rattle.std.proofs.lemmas.List.{length-map}
use Rattle.std.proofs.Math.Seq.{take-append_seam}
use Rattle.qcow2_metadata.proofs.table.entry_table.EntryTable.read_over.Goals as goal

pub returns-clause-numbers : goal.returns-clause-numbers
returns-clause-numbers g c =
    let items = c.self.inside.entries.items in
    let new = c.read_over-read.new.entries in
    let rest = drop (length new) items in
    let len : c.self.inside.entries.len ≡ length new = search rules in
    let count : length c.args.self.now.numbers ≡ length items = rw (← c.self.view_is) (length-map items g.E.TableEntry.plain) in
    let back : take c.self.inside.entries.len (new ++ rest) ≡ new = rw len (take-append_seam new rest) in
    let had : length c.as_mut_slice.result.now ≡ length items = search rules in
    rw (back, count, ← had) c.read_over-read.ensures.numbers
