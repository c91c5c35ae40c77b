use Rattle.std.proofs.Common.{◌≡◌, ◌-◌, ◌≤◌, List, Ok, flat_map}
use Rattle.std.specs.Io.KnownBytes.{Appends}
use Rattle.qcow2_base.specs.Storage.{OnImage, OnlyReads}
use Rattle.qcow2_summary.specs.ImageEnd.{most_clusters}
use Rattle.qcow2_layout.specs.Layout.{IsLayoutOf, layout_tables}
use Rattle.qcow2_layout.specs.Parts.{taken_end}
use Rattle.qcow2_layout.specs.declared.parts.Run.{Run}
use Rattle.qcow2_session.specs.Commands.Layout.{AreRunsOf, run_line}
use Rattle.qcow2_session.proofs.commands.layout.print_runs.Given as goal

-- the runs before the reader's cluster are printed
abbrev pub invariant-loop-run : goal.invariant-loop-run
invariant-loop-run g l =
    let old = g.S.Storage.state l.fn.image in
    let start = l.fn.layout in
    record {
      printed : OnImage old (λ bytes. (runs : List Run)
          × AreRunsOf (layout_tables start) bytes start.position runs l.layout.position
          × (l.layout.position ≤ taken_end (layout_tables start) bytes)
          × Appends (g.O.Write.contents l.fn.out) (g.O.Write.contents l.out) (flat_map run_line runs));
      kept : OnImage old (λ bytes. IsLayoutOf bytes l.layout);
      tables : layout_tables l.layout ≡ layout_tables start;
      storage : OnlyReads (Ok l.layout.position) old (g.S.Storage.state l.image);
    }

abbrev pub decreases-loop-run : goal.decreases-loop-run
decreases-loop-run g l = most_clusters l.layout.header - l.layout.position
