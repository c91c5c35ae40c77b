use Rattle.std.proofs.Common.{◌≡◌, ◌+◌, slice_index, true, ap, subst, sym, rules}
use Rattle.qcow2_metadata.specs.Entries.{is_copied}
use Rattle.qcow2_check.proofs.FlagsLemmas.{marks_more, table_is_clean}
use Rattle.qcow2_check.specs.Counters.{counter_of}
use Rattle.qcow2_check.specs.Flags.{AreMarksOf, MarksState}
use Rattle.qcow2_check.specs.Soles.{AreSoles}
use Rattle.qcow2_check.proofs.flags.marks.Marks.pass_table.Goals as goal

pub returns-then-has_right_flags : goal.returns-then-has_right_flags
returns-then-has_right_flags c = λ tables image l1 geometry named numbers are.
    let counter = counter_of tables.header tables.reftable image in
    let copied : is_copied (slice_index tables.l1 c.args.index) ≡ true = search rules in
    let sole : counter c.args.cluster.0 ≡ 1 = are.soles c.args.cluster.0 (search rules) in
    let soles : AreSoles counter c.self.inside.soles = subst (AreSoles counter) (sym (ap (λ (marks : MarksState). marks.soles) c.self.view_is)) are.soles in
    let none = rw (geometry, numbers) at (c.has_right_flags.ensures (search rules) counter c.args.index soles) in
    let clean = table_is_clean tables image c.args.index c.args.cluster named copied sole none in
    let index : c.args.index ≡ c.args.self.now.clean = search rules in
    let more = marks_more tables image c.args.self.now are (rw index at clean) in
    subst (λ (marks : MarksState). AreMarksOf tables image (record marks { clean = marks.clean + 1 })) (sym c.self.view_is) more
