use Rattle.std.proofs.Common.{◌≡◌, ◌⊎◌, ◌+◌, ◌-◌, ◌/◌, ◌≤◌, true}
use Rattle.qcow2_check.specs.Tally.{cell_at}
use Rattle.qcow2_repair.specs.Counters.{PassesBlock}
use Rattle.qcow2_repair.proofs.counters.pass_counters.Given as goal

-- the counters before this one are passed
abbrev pub invariant-loop-index : goal.invariant-loop-index
invariant-loop-index l = record {
  counters : PassesBlock l.pass (λ k. cell_at l.tally (l.part.first + k) / 8) l.part.from l.index l.fn.block.numbers l.block.numbers;
  same : l.block ≡ record l.fn.block { numbers = l.block.numbers; modified = l.block.modified };
  modified : (l.block ≡ l.fn.block) ⊎ (l.block.modified ≡ true);
  from : l.part.from ≤ l.index;
  to : l.index ≤ l.part.to;
}

abbrev pub decreases-loop-index : goal.decreases-loop-index
decreases-loop-index l = l.part.to - l.index
