use Rattle.std.proofs.Common.{◌≡◌, ◌-◌, ◌≤◌}
use Rattle.qcow2_layout.specs.Picture.{HasRun, Shades, Shows}
use Rattle.qcow2_layout.proofs.picture.Picture.paint.Given as goal

-- the clusters of the run so far are shown too
abbrev pub invariant-loop-self : goal.invariant-loop-self
invariant-loop-self l = record {
  painted : (shades : Shades) → Shows shades l.fn.self → HasRun shades l.fn.self.size l.cluster_bits l.run → Shows shades l.self;
  begun : l.fn.self.end ≤ l.self.end;
  within : l.self.end ≤ l.end;
  size : l.self.size ≡ l.fn.self.size;
}

abbrev pub decreases-loop-self : goal.decreases-loop-self
decreases-loop-self l = l.end - l.self.end
