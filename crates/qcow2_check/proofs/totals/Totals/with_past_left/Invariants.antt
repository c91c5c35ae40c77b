use Rattle.std.proofs.Common.{◌≡◌, ◌+◌, ◌-◌, ℕ, Ok, length}
use Rattle.qcow2_base.specs.Format.{max_file_length}
use Rattle.qcow2_base.specs.Storage.{OnImage, OnlyReads}
use Rattle.qcow2_check.specs.Findings.{IsFindingsOf, MovesFindings, findings_left}
use Rattle.qcow2_check.specs.Totals.{with_past}
use Rattle.qcow2_check.proofs.totals.Totals.with_past_left.Given as goal

-- the clusters before those that are left are counted
abbrev pub invariant-loop-totals : goal.invariant-loop-totals
invariant-loop-totals g l =
    let old = g.S.Storage.state l.fn.image in
    record {
      counted : OnImage old (λ bytes. (count : ℕ)
          × (length (findings_left l.fn.past bytes) ≡ count + length (findings_left l.past bytes)) × (l.totals ≡ with_past l.fn.self count));
      kept : OnImage old (λ bytes. IsFindingsOf bytes l.past);
      reader : MovesFindings old l.fn.past l.past;
      storage : OnlyReads (Ok l.past.position) old (g.S.Storage.state l.image);
    }

abbrev pub decreases-loop-totals : goal.decreases-loop-totals
decreases-loop-totals g l = max_file_length - l.past.position
