use Rattle.std.proofs.Common.{◌≡◌, ℕ, ◌<◌, IsTrue, slice_index}
use Rattle.qcow2_apply.proofs.changed_clusters.are_same.Given as goal

-- the counters before this one are the same, where it says so
abbrev pub invariant-loop-k : goal.invariant-loop-k
invariant-loop-k l = IsTrue l.same → (k : ℕ) → k < l.k → slice_index l.after k ≡ slice_index l.before k
