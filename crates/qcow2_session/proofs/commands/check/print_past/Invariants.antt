use Rattle.std.proofs.Common.{◌≡◌, ◌++◌, List, Ok, flat_map}
use Rattle.std.specs.Io.KnownBytes.{Appends}
use Rattle.qcow2_base.specs.Storage.{OnImage, OnlyReads}
use Rattle.qcow2_check.specs.Findings.{IsFindingsOf, MovesFindings}
use Rattle.qcow2_check.specs.Totals.{with_past}
use Rattle.qcow2_session.proofs.RunsLemmas.{run_lengths}
use Rattle.qcow2_session.specs.Commands.Check.Lines.{past_line}
use Rattle.qcow2_session.specs.Commands.Check.Runs.{most_left, runs_left}
use Rattle.qcow2_session.specs.declared.commands.check.runs.FindingRun.{FindingRun}
use Rattle.qcow2_session.proofs.commands.check.print_past.Given as goal

-- the runs before those that are left are printed and counted
abbrev pub invariant-loop-run : goal.invariant-loop-run
invariant-loop-run g l =
    let old = g.S.Storage.state l.fn.image in
    record {
      printed : OnImage old (λ bytes. (printed : List FindingRun)
          × (runs_left l.fn.runs bytes ≡ printed ++ runs_left l.runs bytes)
          × Appends (g.O.Write.contents l.fn.out) (g.O.Write.contents l.out) (flat_map past_line printed)
          × (l.totals ≡ with_past l.fn.totals (run_lengths printed)));
      kept : OnImage old (λ bytes. IsFindingsOf bytes l.runs.findings);
      reader : MovesFindings old l.fn.runs.findings l.runs.findings;
      storage : OnlyReads (Ok l.runs.findings.position) old (g.S.Storage.state l.image);
    }

abbrev pub decreases-loop-run : goal.decreases-loop-run
decreases-loop-run g l = most_left l.runs
