use Rattle.std.proofs.Common.{◌≡◌, ◌⊎◌, ℕ, ◌+◌, ◌/◌, ◌<◌, ◌≤◌, true}
use Rattle.qcow2_check.specs.Tally.{cell_at}
use Rattle.qcow2_repair.specs.Counters.{PassesBlock}
use Rattle.qcow2_repair.proofs.counters.pass_each.Given as goal

-- the counters before this one are passed, and no cluster from here on to before the end that is kept has a use
abbrev pub invariant-loop-index : goal.invariant-loop-index
invariant-loop-index l = record {
  counters : PassesBlock l.pass (λ k. cell_at l.tally (l.part.first + k) / 8) l.part.from l.index l.initial.block.numbers l.block.numbers;
  same : l.block ≡ record l.initial.block { numbers = l.block.numbers; modified = l.block.modified };
  unused : (c : ℕ) → l.part.first + l.index ≤ c → c < l.unused_end → cell_at l.tally c ≡ 0;
  modified : (l.block ≡ l.initial.block) ⊎ (l.block.modified ≡ true);
}
