use Rattle.std.proofs.Common.{◌≡◌, IsTrue, rules, ap, ◌∙◌}
use Rattle.std.proofs.lemmas.Result.{err_from_is_err_and}
use Rattle.qcow2_check.specs.Uses.{ImageTables}
use Rattle.qcow2_repair.proofs.RefusalsLemmas.{checked-l1, nothing-found, refused-reads, repairable-found}
use Rattle.qcow2_repair.proofs.refusals.unrefused_tables.Goals as goal

pub returns-in_err-findings-clause-reads : goal.returns-in_err-findings-clause-reads
returns-in_err-findings-clause-reads g c =
    let exit = err_from_is_err_and c.from_residual-in_err-findings.result c.from_residual-in_err-findings.ensures.1 in
    let begun = c.in_ok-reader.ensures in
    rw (exit.1, exit.2) (refused-reads _ c.args.header.now c.in_ok-reader.reader c.in_ok-reader.reader c.in_err-findings.field-0.0
    (g.S.Storage.state c.args.image.now) (g.S.Storage.state c.new.new.image) (g.S.Storage.state c.check_all.new.image)
    begun.begun.0 begun.reads.exact begun.reads.storage c.in_err-findings.ensures.reads)

pub returns-clause-repairable : goal.returns-clause-repairable
returns-clause-repairable g c =
    let begun = c.in_ok-reader.ensures in
    let same = c.in_ok-findings.ensures.reader.0 in
    let header = ap (λ (t : ImageTables). t.header) same in
    let reftable = ap (λ (t : ImageTables). t.reftable) same in
    repairable-found c.args.header.now c.in_ok-reader.reader c.into_parts-l1_table.result.0.numbers c.into_parts-l1_table.result.1.numbers c.in_ok-reader.reader
    (g.S.Storage.state c.args.image.now) (g.S.Storage.state c.new.new.image)
    (search rules) (search rules) begun.begun.0
    (c.into_parts-l1_table.ensures.numbers.0 ∙ ap (λ (t : ImageTables). t.l1) same)
    (c.into_parts-l1_table.ensures.numbers.1 ∙ reftable)
    (rw (header, reftable) at c.into_parts-l1_table.ensures.placed)
    (g.met.S.Storage.byte_fits c.args.image.now) begun.reads.storage begun.reader c.in_ok-findings.ensures.reads.exact

pub returns-clause-l1_table : goal.returns-clause-l1_table
returns-clause-l1_table g c =
    let same = c.in_ok-findings.ensures.reader.0 in (
      record {
        numbers = λ told.
            c.into_parts-l1_table.ensures.numbers.0 ∙ ap (λ (t : ImageTables). t.l1) same
            ∙ checked-l1 c.args.header.now _ _ (c.in_ok-reader.ensures.reads.exact told);
        count = search rules;
        cluster = search rules;
        unmodified = search rules;
        geometry = search rules;
      },
      search rules,
    )

pub returns-clause-counted : goal.returns-clause-counted
returns-clause-counted g c = λ told.
    let bytes : (g.S.Storage.state c.new.new.image).byte_at ≡ (g.S.Storage.state c.args.image.now).byte_at = search rules in
    let known : IsTrue (g.S.Storage.state c.new.new.image).tells = search rules in
    let len : (g.S.Storage.state c.new.new.image).len ≡ (g.S.Storage.state c.args.image.now).len = search rules in
    let same = c.in_ok-findings.ensures.reader.0 in
    let begun = c.in_ok-reader.ensures.begun in
    let header = ap (λ (t : ImageTables). t.header) same ∙ begun.0 in
    let counted = rw bytes at (c.in_ok-findings.ensures.reader.1 known).counted in
    let parts = c.into_parts-l1_table.ensures.numbers in
    let found = c.into_parts-l1_table.result in (
      rw (parts.2, parts.0, parts.1) (rw header at counted),
      nothing-found c.args.header.now c.in_ok-reader.reader found.0.numbers found.1.numbers _ (g.S.Storage.state c.args.image.now).byte_at
          c.in_ok-findings.leaves_nothing begun.0 (parts.0 ∙ ap (λ (t : ImageTables). t.l1) same)
          (parts.1 ∙ ap (λ (t : ImageTables). t.reftable) same)
          (rw (bytes, len) at (c.in_ok-findings.ensures.nothing known)),
    )
