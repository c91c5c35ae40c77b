use Rattle.std.proofs.Common.{◌≡◌, IsTrue, ap, rules, arith}
use Rattle.std.proofs.lemmas.Result.{err_from_is_err_and}
use Rattle.qcow2_check.proofs.FindingsLemmas.{opened_before, refused_for, refused_opening, refused_tables}
use Rattle.qcow2_check.specs.Findings.{tables_of}
use Rattle.qcow2_check.specs.Flags.{MarksState}
use Rattle.qcow2_check.proofs.findings.Findings.new.Goals as goal

pub returns-in_err-l1_table-clause-uncounted : goal.returns-in_err-l1_table-clause-uncounted
returns-in_err-l1_table-clause-uncounted g c =
    let exit = err_from_is_err_and c.from_residual.result c.from_residual.ensures.1 in
    rw (exit.1, exit.2) (refused_for _ _ _ _ c.in_err-l1_table.ensures.uncounted)

pub returns-in_err-l1_table-clause-reads : goal.returns-in_err-l1_table-clause-reads
returns-in_err-l1_table-clause-reads g c =
    let exit = err_from_is_err_and c.from_residual.result c.from_residual.ensures.1 in
    rw (exit.1, exit.2) (refused_opening tables_of c.args.header.now _ (g.S.Storage.state c.args.image.now) (g.S.Storage.state c.open_tables.new.image)
    c.in_err-l1_table.ensures.reads)

pub returns-in_err-tally-clause-reads : goal.returns-in_err-tally-clause-reads
returns-in_err-tally-clause-reads g c =
    let exit = err_from_is_err_and c.from_residual-in_err-tally.result c.from_residual-in_err-tally.ensures.1 in
    let opened = opened_before _ c.in_ok-load.field-0 c.args.header.now (g.S.Storage.state c.args.image.now) (g.S.Storage.state c.open_tables.new.image)
    (g.S.Storage.state c.load.new.image) c.in_ok-l1_table.ensures.reads (search rules) in
    rw (exit.1, exit.2) (refused_tables tables_of c.args.header.now c.in_err-tally.field-0.0
    (g.S.Storage.state c.args.image.now) (g.S.Storage.state c.load.new.image) (g.S.Storage.state c.count_and_mark.new.image)
    opened c.in_err-tally.ensures.reads)

pub returns-clause-reader : goal.returns-clause-reader
returns-clause-reader g c = λ told.
    let bytes : (g.S.Storage.state c.load.new.image).byte_at ≡ (g.S.Storage.state c.args.image.now).byte_at = search rules in
    let known : IsTrue (g.S.Storage.state c.load.new.image).tells = search rules in
    let told_opened : IsTrue (g.S.Storage.state c.open_tables.new.image).tells = search rules in
    let header : c.in_ok-l1_table.field-0.counters.header ≡ c.args.header.now = search rules in
    let reftable : c.reftable.result.now.numbers ≡ c.in_ok-l1_table.field-0.counters.reftable = search rules in
    let loaded : c.new-marks.result.soles ≡ c.in_ok-load.field-0 = ap (λ (marks : MarksState). marks.soles) c.new-marks.ensures in
    let after : (g.S.Storage.state c.load.new.image).byte_at ≡ (g.S.Storage.state c.open_tables.new.image).byte_at = search rules in
    record {
      kept = search rules;
      counted = rw (bytes, c.reftable.ensures.numbers) at (c.in_ok-tally.ensures.counted known);
      marks = rw (bytes, c.reftable.ensures.numbers) at (c.in_ok-tally.ensures.marks known (record {
        soles = rw (loaded, reftable, after) (rw header at (c.in_ok-load.ensures.soles told_opened));
        clean = λ index below. absurd (omega (arith, below, ap (λ (marks : MarksState). marks.clean) c.new-marks.ensures));
      }));
      loads = search rules;
    }
