use Rattle.std.proofs.Common.{◌≡◌, IsTrue, Ok, ap, arith, rules, sym, ◌∙◌}
use Rattle.std.proofs.KnownBytes.{Appends-nil}
use Rattle.std.specs.Io.KnownBytes.{Appends}
use Rattle.std.proofs.lemmas.Result.{err_from_is_err_and}
use Rattle.qcow2_metadata.specs.Header.{geometry_of}
use Rattle.qcow2_metadata.specs.Table.{loaded_l2_table}
use Rattle.qcow2_image.specs.BlankTables.{IsBlank}
use Rattle.qcow2_image.proofs.BlankTablesLemmas.{blank_more}
use Rattle.qcow2_session.proofs.ListingLemmas.{blank-printed, blank_lines, ended-printing, one-printed, texts-more}
use Rattle.qcow2_session.specs.Commands.Entries.{table_lines}
use Rattle.qcow2_session.specs.Commands.List.{texts_left}
use Rattle.qcow2_image.specs.L2Tables.{WalkState}
use Rattle.qcow2_session.specs.declared.commands.entries.Label.TheVariants.{Offset}
use Rattle.qcow2_session.proofs.commands.list.print_tables.Goals.{else-not-branch, then-not-branch+in_ok-print_entries}
use Rattle.qcow2_session.proofs.commands.list.print_tables.Goals as goal

pub loop-index-preserved-then-has : goal.loop-index-preserved-then-has
loop-index-preserved-then-has g c =
    let image = (g.S.Storage.state c.args.image.now).byte_at in
    let before = c.loop-index.invariant in
    let left = c.loop-index.tables in
    let next = c.pass.new.self in
    let header : next.header ≡ left.header = ap (λ (w : WalkState). w.header) {y = record left { index = next.index }} c.in-Some.ensures.walk.same in
    let own : left.header ≡ c.args.tables.now.header = ap (λ (w : WalkState). w.header) {y = record c.args.tables.now { index = left.index }} before.same in
    record {
      printed = λ told.
          let known = rw (← own) at (before.blank told c.in-Some.cluster (sym c.has.ensures ∙ c.if-has.true)) in
          blank-printed left next c.in-Some.index c.in-Some.cluster image _ _ _ header (c.in-Some.ensures.passed image) known (before.printed told);
      blank = before.blank;
      same = c.in-Some.ensures.walk.same ∙ ap (λ (w : WalkState). record w { index = next.index }) before.same;
      reads = before.reads;
    }

pub returns-in_err-print_entries-clause-prints : goal.returns-in_err-print_entries-clause-prints
returns-in_err-print_entries-clause-prints g c =
    let exit = err_from_is_err_and c.from_residual-in_err-print_entries.result c.from_residual-in_err-print_entries.ensures.1 in
    let image = (g.S.Storage.state c.args.image.now).byte_at in
    let before = c.loop-index.invariant in
    let left = c.loop-index.tables in
    let next = c.pass.new.self in
    let table = c.in_ok-table.table in
    let header : next.header ≡ left.header = ap (λ (w : WalkState). w.header) {y = record left { index = next.index }} c.in-Some.ensures.walk.same in
    let own : left.header ≡ c.args.header.now = ap (λ (w : WalkState). w.header) {y = record c.args.tables.now { index = left.index }} before.same ∙ c.requires in
    let is : table.geometry ≡ geometry_of left.header = rw own c.in_ok-table.ensures.loaded.geometry in
    rw (exit.1, exit.2) (record {
      lines = tt;
      refused = λ told.
          let printed = before.printed told in
          let loaded = rw (before.reads.bytes, ← own) at (c.in_ok-table.ensures.reads.exact (before.reads.device.tells ∙ told)) in
          let texts = texts-more left next c.in-Some.index table.numbers image header (rw loaded at (c.in-Some.ensures.passed image)) in
          ended-printing _ printed.0 (table_lines Offset (geometry_of left.header) c.in-Some.index table.numbers) (texts_left next image) (texts_left c.args.tables.now image) _ _ (rw texts at printed.1) printed.2
          (rw is at c.in_err-print_entries.ensures) (search rules);
    })

pub loop-index-preserved : goal.loop-index-preserved
loop-index-preserved g c =
    let image = (g.S.Storage.state c.args.image.now).byte_at in
    let before = c.loop-index.invariant in
    let left = c.loop-index.tables in
    let next = c.pass.new.self in
    let table = c.in_ok-table.table in
    let header : next.header ≡ left.header = ap (λ (w : WalkState). w.header) {y = record left { index = next.index }} c.in-Some.ensures.walk.same in
    let walk : left.header ≡ c.args.tables.now.header = ap (λ (w : WalkState). w.header) {y = record c.args.tables.now { index = left.index }} before.same in
    let own : left.header ≡ c.args.header.now = walk ∙ c.requires in
    let is : table.geometry ≡ geometry_of left.header = rw own c.in_ok-table.ensures.loaded.geometry in
    let loaded : IsTrue (g.S.Storage.state c.args.image.now).tells → loaded_l2_table (geometry_of left.header) c.in-Some.cluster image ≡ Ok table.numbers =
    λ told. rw (before.reads.bytes, ← own) at (c.in_ok-table.ensures.reads.exact (before.reads.device.tells ∙ told)) in
    let blank : IsTrue c.in_ok-note.field-0 → IsBlank (geometry_of left.header) table.numbers = λ found. rw is at (c.in_ok-note.ensures.blank found) in
    let here : Appends (g.O.Write.contents c.loop-index.out) (g.O.Write.contents c.if-not-branch.out) (table_lines Offset (geometry_of left.header) c.in-Some.index table.numbers) = elim c.if-not-branch.branch [
      | then-not-branch+in_ok-print_entries printed ↦ rw printed.out-is (rw is at printed.in_ok-print_entries.ensures.text)
      | else-not-branch none ↦ rw (none.out-is, blank_lines _ (geometry_of left.header) _ table.numbers (blank (grind (arith, none.if-not-branch)))) (Appends-nil (g.O.Write.contents c.loop-index.out))
    ] in
    record {
      printed = λ told.
          one-printed left next c.in-Some.index c.in-Some.cluster table.numbers image _ _ _ _ header (c.in-Some.ensures.passed image) (loaded told) (before.printed told) here;
      blank = λ told.
          rw walk at (blank_more (geometry_of left.header) image c.loop-index.blank c.note.new.self c.in_ok-note.field-0 c.in-Some.cluster table.numbers (rw (← walk) at (before.blank told)) c.in_ok-note.ensures.noted (loaded told) blank);
      same = c.in-Some.ensures.walk.same ∙ ap (λ (w : WalkState). record w { index = next.index }) before.same;
      reads = search rules;
    }
