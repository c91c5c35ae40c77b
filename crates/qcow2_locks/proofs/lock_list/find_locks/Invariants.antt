use Rattle.std.proofs.Common.{◌≤◌}
use Rattle.qcow2_locks.proofs.lock_list.find_locks.Given as goal

abbrev pub invariant-loop : goal.invariant-loop
invariant-loop g l = l.kept ≤ 4096
