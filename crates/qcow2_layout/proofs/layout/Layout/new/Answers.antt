use Rattle.std.proofs.Common.{◌≡◌, IsTrue, rules}
use Rattle.std.proofs.lemmas.Result.{err_from_is_err_and}
use Rattle.qcow2_check.proofs.FindingsLemmas.{refused_for, refused_opening, refused_tables}
use Rattle.qcow2_layout.specs.Layout.{layout_tables}
use Rattle.qcow2_layout.proofs.layout.Layout.new.Goals as goal

pub returns-in_err-l1_table-clause-uncounted : goal.returns-in_err-l1_table-clause-uncounted
returns-in_err-l1_table-clause-uncounted g c =
    let exit = err_from_is_err_and c.from_residual.result c.from_residual.ensures.1 in
    rw (exit.1, exit.2) (refused_for _ _ _ _ c.in_err-l1_table.ensures.uncounted)

pub returns-in_err-l1_table-clause-reads : goal.returns-in_err-l1_table-clause-reads
returns-in_err-l1_table-clause-reads g c =
    let exit = err_from_is_err_and c.from_residual.result c.from_residual.ensures.1 in
    rw (exit.1, exit.2) (refused_opening layout_tables c.args.header.now _ (g.S.Storage.state c.args.image.now) (g.S.Storage.state c.open_tables.new.image)
    c.in_err-l1_table.ensures.reads)

pub returns-in_err-window-clause-reads : goal.returns-in_err-window-clause-reads
returns-in_err-window-clause-reads g c =
    let exit = err_from_is_err_and c.from_residual-in_err-window.result c.from_residual-in_err-window.ensures.1 in
    rw (exit.1, exit.2) (refused_tables {A = Unit {0}} layout_tables c.args.header.now c.in_err-window.field-0.0
    (g.S.Storage.state c.args.image.now) (g.S.Storage.state c.open_tables.new.image) (g.S.Storage.state c.place.new.image)
    c.in_ok-l1_table.ensures.reads (search rules))

pub returns-clause-reader : goal.returns-clause-reader
returns-clause-reader g c = λ told. record {
  kept = search rules;
  placed =
      let bytes : (g.S.Storage.state c.open_tables.new.image).byte_at ≡ (g.S.Storage.state c.args.image.now).byte_at = search rules in
      let known : IsTrue (g.S.Storage.state c.open_tables.new.image).tells = search rules in
      rw (bytes, c.reftable.ensures.numbers) at (c.in_ok-window.ensures.placed known);
  loads = search rules;
}
