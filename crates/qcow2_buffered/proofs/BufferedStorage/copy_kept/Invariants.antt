use Rattle.std.proofs.Common.{◌≡◌}
use Rattle.qcow2_buffered.proofs.BufferedStorage.copy_kept.Given as goal

-- nothing has changed
abbrev pub invariant-loop-index : goal.invariant-loop-index
invariant-loop-index g l = (l.self ≡ l.initial.self) × (l.buffer ≡ l.initial.buffer)
