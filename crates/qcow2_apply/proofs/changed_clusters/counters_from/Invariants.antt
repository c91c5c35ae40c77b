use Rattle.std.proofs.Common.{◌≡◌, ℕ, ◌+◌, ◌<◌, length, slice_index}
use Rattle.qcow2_apply.proofs.changed_clusters.counters_from.Given as goal

-- the counters before this one are those of the block
abbrev pub invariant-loop-k : goal.invariant-loop-k
invariant-loop-k l = record {
  count : length l.counters ≡ 64;
  copied : (k : ℕ) → k < l.k → slice_index l.counters k ≡ slice_index l.block.numbers (l.index + k);
}
