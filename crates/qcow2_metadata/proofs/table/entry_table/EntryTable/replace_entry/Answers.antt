use Rattle.std.proofs.Common.{◌^◌, ◌<◌, map, refl, arith, rules}
use Rattle.std.proofs.lemmas.List.Elements.{All-set}
use Rattle.std.proofs.lemmas.List.{length-set, map-set}
use Rattle.qcow2_metadata.proofs.TableLemmas.{first_fault-set}
use Rattle.qcow2_metadata.proofs.table.entry_table.EntryTable.replace_entry.Goals as goal
use Rattle.std.proofs.lemmas.Bool.Decides.{nat_tests}

pub invariant_of-self : goal.invariant_of-self
invariant_of-self g c =
    let plain = g.E.TableEntry.plain in
    let numbers = map plain c.self.inside.entries.items in
    let before = c.self.invariant in
    let edit = map-set plain c.self.inside.entries.items c.args.index c.replace.new.dest in
    let len = length-set numbers c.args.index (plain c.args.entry) in
    rw (edit, c.replace.ensures.after) (record {
      entries = record {
        bits = before.entries.bits;
        place = before.entries.place;
        valid = first_fault-set _ numbers c.args.index (plain c.args.entry) before.entries.valid (search rules);
        fits = All-set (λ v. v < 2 ^ 64) numbers c.args.index (plain c.args.entry) (omega arith) before.entries.fits;
        count = refl;
      };
      count = rw len before.count;
      bound = rw len before.bound;
    })

pub returns-clause-edit : goal.returns-clause-edit
returns-clause-edit g c = grind (arith, nat_tests, map-set)
