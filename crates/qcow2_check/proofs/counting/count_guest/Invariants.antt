use Rattle.qcow2_base.specs.Storage.{OnImage}
use Rattle.qcow2_metadata.specs.Header.{geometry_of}
use Rattle.qcow2_check.proofs.RepeatedLemmas.{repeated_uses}
use Rattle.qcow2_check.proofs.SinkLemmas.{AreWalked}
use Rattle.qcow2_check.specs.Flags.{AreMarksOf}
use Rattle.qcow2_check.specs.Walk.{CountsUses}
use Rattle.qcow2_check.proofs.counting.count_guest.Given as goal

-- the L2 tables that the entries before this one name can be loaded, and what they refer to is counted. The marks are still right
abbrev pub invariant-loop-index : goal.invariant-loop-index
invariant-loop-index g l =
    let old = g.S.Storage.state l.fn.image in
    let shape = geometry_of l.tables.header in
    record {
      counted : AreWalked CountsUses shape l.tables.l1 (repeated_uses shape l.repeats) l.index old (g.S.Storage.state l.image) l.fn.tally l.tally;
      marks : OnImage old (λ bytes. AreMarksOf l.tables bytes l.fn.marks → AreMarksOf l.tables bytes l.marks);
    }
