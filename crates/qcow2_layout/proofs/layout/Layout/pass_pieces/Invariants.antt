use Rattle.std.proofs.Common.{◌≡◌, ◌-◌, ◌<◌, ◌≤◌, Ok}
use Rattle.qcow2_base.specs.Storage.{OnImage, OnlyReads}
use Rattle.qcow2_summary.specs.ImageEnd.{most_clusters}
use Rattle.qcow2_layout.specs.Layout.{AreOne, MovesLayout, parts_for}
use Rattle.qcow2_layout.proofs.layout.Layout.pass_pieces.Given as goal

-- the clusters up to the end so far are one, and the reader reads the same image and is at the same cluster
abbrev pub invariant-loop-end : goal.invariant-loop-end
invariant-loop-end g l =
    let old = g.S.Storage.state l.fn.image in
    record {
      start : l.start ≡ l.fn.self.position;
      some : l.fn.self.position < l.end;
      within : l.end ≤ most_clusters l.fn.self.header;
      limit : l.limit ≡ most_clusters l.fn.self.header;
      one : OnImage old (λ bytes. AreOne l.fn.self.header.v2.cluster_bits (parts_for l.fn.self bytes) l.fn.self.position
          (l.end - l.fn.self.position) l.part);
      reader : MovesLayout old l.fn.self l.self;
      position : l.self.position ≡ l.fn.self.position;
      storage : OnlyReads (Ok l.end) old (g.S.Storage.state l.image);
    }

abbrev pub decreases-loop-end : goal.decreases-loop-end
decreases-loop-end g l = l.limit - l.end
