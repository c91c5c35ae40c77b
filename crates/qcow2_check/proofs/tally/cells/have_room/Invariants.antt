use Rattle.std.proofs.Common.{ℕ, ◌+◌, ◌^◌, ◌<◌, IsTrue, slice_index}
use Rattle.qcow2_check.proofs.tally.cells.have_room.Given as goal

-- the cells before this one have room, where it says so
abbrev pub invariant-loop-k : goal.invariant-loop-k
invariant-loop-k l = IsTrue l.room → (k : ℕ) → k < l.k → slice_index l.cells (l.first + k) + 12 < 2 ^ 32
