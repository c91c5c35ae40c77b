use Rattle.qcow2_apply.proofs.CheckedLemmas.{done-apart}
use Rattle.qcow2_apply.proofs.FalseFlagsLemmas.{no-errors}
use Rattle.qcow2_apply.proofs.laws.edits_bring_no_errors.Goals as goal

pub returns : goal.returns
returns c header edits plan old new valid for of follows apart none =
    no-errors header edits plan old new (done-apart header edits plan old new valid for of follows apart none) none
