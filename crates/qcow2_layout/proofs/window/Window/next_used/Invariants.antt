use Rattle.std.proofs.Common.{◌≡◌, ℕ, ◌<◌, ◌≤◌}
use Rattle.qcow2_check.specs.Tally.{cell_at}
use Rattle.qcow2_layout.proofs.window.Window.next_used.Given as goal

-- no cluster before this one has a use
abbrev pub invariant-loop-cluster : goal.invariant-loop-cluster
invariant-loop-cluster l = (c : ℕ) → l.fn.from ≤ c → c < l.cluster → cell_at l.fn.self c ≡ 0
