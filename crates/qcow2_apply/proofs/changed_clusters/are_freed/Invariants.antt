use Rattle.std.proofs.Common.{◌≡◌, ℕ, ◌<◌, IsTrue, slice_index}
use Rattle.qcow2_apply.proofs.changed_clusters.are_freed.Given as goal

-- the counters before this one were lowered to 0, where it says so
abbrev pub invariant-loop-k : goal.invariant-loop-k
invariant-loop-k l = IsTrue l.freed → (k : ℕ) → k < l.k → (0 < slice_index l.risen k) × (slice_index l.after k ≡ 0)
