use Rattle.std.proofs.Common.{◌∙◌, rules, subst, sym}
use Rattle.qcow2_base.specs.Storage.{Holds}
use Rattle.qcow2_metadata.specs.Header.Text.{IsWrittenHeader}
use Rattle.qcow2_metadata.proofs.WriteLemmas.{chosen_text-placed, kept-fault, refused-writes, written-header}
use Rattle.qcow2_metadata.proofs.header.Header.write.Goals as goal

pub returns-in_err-layout-clause-storage : goal.returns-in_err-layout-clause-storage
returns-in_err-layout-clause-storage g c = search (rules, refused-writes, kept-fault)

pub returns-in_err-write-clause-storage : goal.returns-in_err-write-clause-storage
returns-in_err-write-clause-storage g c = search (rules, chosen_text-placed)

pub returns-clause-written : goal.returns-clause-written
returns-clause-written g c told =
    let image = (g.S.Storage.state c.write.new.self).byte_at in
    let text = c.deref.ensures.value ∙ c.in_ok-text.ensures.text in
    let held = subst (Holds image 0) text (c.in_ok-write.ensures.written told) in
    subst (IsWrittenHeader image) (sym c.take_over.ensures)
    (written-header image c.args.self.now c.in_ok-layout.layout c.in_ok-text.ensures.valid c.in_ok-layout.ensures.0
    c.in_ok-layout.ensures.1 c.in_ok-text.ensures.v2_fits c.in_ok-text.ensures.base_fits held)

pub returns-clause-storage : goal.returns-clause-storage
returns-clause-storage g c = search (rules, chosen_text-placed)
