use Rattle.std.proofs.Common.{rules, ◌∙◌, ap, lit<, sym}
use Rattle.qcow2_base.specs.declared.fault.Field.TheVariants as field
use Rattle.qcow2_metadata.specs.Header.{HeaderRecord}
use Rattle.qcow2_metadata.specs.Header.Update.{with_size_and_tables}
use Rattle.qcow2_metadata.proofs.UpdateLemmas.{agreed-all, agreed-more, first_change-at, numbers, with_size_and_tables-agreed, with_size_and_tables-valid}
use Rattle.qcow2_metadata.proofs.header.Header.update.Goals as goal

pub returns-then-not-agrees_in-clause-agree : goal.returns-then-not-agrees_in-clause-agree
returns-then-not-agrees_in-clause-agree c =
    let fails = sym c.agrees_in.ensures ∙ c.if-not-agrees_in.true in
    first_change-at c.args.self.now c.args.other.now c.loop-field.field-index c.loop-field-test.true c.loop-field.invariant fails

pub loop-field-preserved : goal.loop-field-preserved
loop-field-preserved c =
    let holds = sym c.agrees_in.ensures ∙ c.if-not-agrees_in.false in
    agreed-more c.args.self.now c.args.other.now c.loop-field.field-index c.loop-field-test.true c.loop-field.invariant holds

pub invariant_of-self : goal.invariant_of-self
invariant_of-self c =
    let all = agreed-all c.args.self.now c.args.other.now c.loop-field.field-index c.loop-field-test.false c.loop-field.invariant in
    let cluster_bits = λ (header : HeaderRecord). header.v2.cluster_bits in
    let agree = numbers _ _ (all 4 field.Magic (lit< tt)) in
    with_size_and_tables-valid _ _ c.self-2.invariant c.other.invariant
    (ap cluster_bits c.self-2.view_is ∙ agree ∙ sym (ap cluster_bits c.other.view_is))

pub returns-clause-agree : goal.returns-clause-agree
returns-clause-agree c = search (rules, agreed-all)

pub returns-clause-follows : goal.returns-clause-follows
returns-clause-follows c =
    let all = agreed-all c.args.self.now c.args.other.now c.loop-field.field-index c.loop-field-test.false c.loop-field.invariant in
    (λ i. with_size_and_tables (c.self-2.view_is i) (c.other.view_is i)) ∙ with_size_and_tables-agreed _ _ all
