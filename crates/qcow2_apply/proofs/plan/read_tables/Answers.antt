use Rattle.std.proofs.Common.{◌≡◌, ◌∙◌, IsTrue, Ok, ap, inl, inr, subst, rules}
use Rattle.std.proofs.lemmas.Result.{err_from_is_err_and}
use Rattle.qcow2_check.proofs.FailuresLemmas.{refuses-as}
use Rattle.qcow2_check.specs.Counters.{CountersState, placed_reftable}
use Rattle.qcow2_check.specs.FileEnd.{tables_in_file}
use Rattle.qcow2_check.specs.NamedTables.{loaded_l1_table}
use Rattle.qcow2_metadata.specs.Results.{unless_refused}
use Rattle.qcow2_metadata.specs.Table.{TableState}
use Rattle.qcow2_apply.proofs.PlannedTablesLemmas.{unless-none}
use Rattle.qcow2_apply.specs.GuestEdits.{edits_refusal}
use Rattle.qcow2_apply.specs.Plan.{ByEnd, edits_within}
use Rattle.qcow2_apply.proofs.plan.read_tables.Goals as goal

pub returns-in_err-refuse_tables_past_end-clause-refused : goal.returns-in_err-refuse_tables_past_end-clause-refused
returns-in_err-refuse_tables_past_end-clause-refused g c =
    let exit = err_from_is_err_and c.from_residual-in_err-refuse_tables_past_end.result c.from_residual-in_err-refuse_tables_past_end.ensures.1 in
    let before = g.S.Storage.state c.args.image.now in
    let header = c.args.header.now in
    let edits = c.args.edits.now in
    let fit : unless_refused (edits_refusal header edits) (Ok (tt {0})) ≡ Ok tt = search rules in
    let made = ap (λ refusal. unless_refused refusal (tables_in_file before.len header before.byte_at)) (unless-none (edits_refusal header edits) fit) in
    rw (exit.1, exit.2) (λ told. elim (c.in_err-refuse_tables_past_end.ensures.reads.exact told) [
      | inl failed ↦ inl (inr failed)
      | inr (inl full) ↦ inl (inl full)
      | inr (inr is) ↦ inr (ByEnd before.len (made ∙ is))
    ])

pub returns-in_err-refuse_tables_past_end-clause-end : goal.returns-in_err-refuse_tables_past_end-clause-end
returns-in_err-refuse_tables_past_end-clause-end g c =
    let exit = err_from_is_err_and c.from_residual-in_err-refuse_tables_past_end.result c.from_residual-in_err-refuse_tables_past_end.ensures.1 in
    let before = g.S.Storage.state c.args.image.now in
    let header = c.args.header.now in
    let edits = c.args.edits.now in
    let fit : unless_refused (edits_refusal header edits) (Ok (tt {0})) ≡ Ok tt = search rules in
    let made = ap (λ refusal. unless_refused refusal (tables_in_file before.len header before.byte_at)) (unless-none (edits_refusal header edits) fit) in
    rw (exit.1, exit.2) (λ told. refuses-as (TableState × CountersState) (edits_within header edits before.len before.byte_at) c.in_err-refuse_tables_past_end.field-0.0 (elim (c.in_err-refuse_tables_past_end.ensures.reads.exact told) [
      | inl failed ↦ inl failed
      | inr (inl full) ↦ inr (inl full)
      | inr (inr is) ↦ inr (inr (made ∙ is))
    ]))

pub returns-clause-read : goal.returns-clause-read
returns-clause-read g c = λ told.
    let before = g.S.Storage.state c.args.image.now in
    let whole = g.S.Storage.state c.refuse_tables_past_end.new.image in
    let listed = g.S.Storage.state c.load_l1_table.new.image in
    let header = c.args.header.now in
    let still : IsTrue whole.tells = search rules in
    let known : IsTrue listed.tells = search rules in
    let same : whole.byte_at ≡ before.byte_at = search rules in
    let first : listed.byte_at ≡ before.byte_at = search rules in
    record {
      edits_fit = search rules;
      l1_is = subst (λ bytes. loaded_l1_table header bytes ≡ Ok c.in_ok-l1_table.l1_table.numbers) same (c.in_ok-l1_table.ensures.reads.exact still);
      reftable_is = subst (λ bytes. placed_reftable header bytes ≡ Ok c.in_ok-counters.counters.reftable) first (c.in_ok-counters.ensures.reads.exact known);
    }
