use Rattle.std.proofs.Common.{◌≡◌, ◌-◌, ◌≤◌, Ok}
use Rattle.qcow2_base.specs.Storage.{OnImage, OnlyReads}
use Rattle.qcow2_summary.specs.ImageEnd.{most_clusters}
use Rattle.qcow2_layout.specs.Layout.{IsLayoutOf, layout_tables}
use Rattle.qcow2_layout.specs.Parts.{taken_end}
use Rattle.qcow2_layout.specs.Picture.{IsWhole, Shows, shades_of}
use Rattle.qcow2_layout.proofs.painting.paint_runs.Given as goal

-- the clusters before the reader's are painted
abbrev pub invariant-loop-run : goal.invariant-loop-run
invariant-loop-run g l =
    let old = g.S.Storage.state l.fn.image in
    let start = l.fn.layout in
    record {
      painted : OnImage old (λ bytes. Shows (shades_of (layout_tables start) bytes) l.picture
          × (l.layout.position ≤ taken_end (layout_tables start) bytes));
      end : l.picture.end ≡ l.layout.position;
      whole : IsWhole l.picture;
      size : l.picture.size ≡ start.header.v2.size;
      kept : OnImage old (λ bytes. IsLayoutOf bytes l.layout);
      tables : layout_tables l.layout ≡ layout_tables start;
      storage : OnlyReads (Ok l.layout.position) old (g.S.Storage.state l.image);
    }

abbrev pub decreases-loop-run : goal.decreases-loop-run
decreases-loop-run g l = most_clusters l.layout.header - l.layout.position
