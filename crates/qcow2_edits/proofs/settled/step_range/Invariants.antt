use Rattle.std.proofs.Common.{◌≡◌, ◌≤◌, ◌⊎◌}
use Rattle.qcow2_edits.specs.Settled.{ChangesBlock, change_in, is_between}
use Rattle.qcow2_edits.proofs.settled.step_range.Given as goal
use Rattle.qcow2_metadata.specs.Table.L2Guards.{one_if}

-- the counters before this one are changed
abbrev pub invariant-loop-index : goal.invariant-loop-index
invariant-loop-index l = record {
  changed : ChangesBlock (change_in l.direction) (λ i. one_if (is_between l.start l.index i)) l.initial.block l.block;
  end : (l.index ≤ l.end) ⊎ (l.index ≡ l.start);
}
