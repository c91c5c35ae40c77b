use Rattle.std.proofs.Common.{◌≡◌, ◌⊎◌, ◌-◌, ◌≤◌, length, true}
use Rattle.qcow2_repair.proofs.FlagsLemmas.{MapsBefore}
use Rattle.qcow2_repair.specs.Flags.{pass_by, passed_l2}
use Rattle.qcow2_repair.proofs.flags.FlagPass.pass_l2.Given as goal

-- the entries before this one are passed
abbrev pub invariant-loop-index : goal.invariant-loop-index
invariant-loop-index l = record {
  numbers : MapsBefore (passed_l2 (pass_by l.self)) l.index l.fn.table.numbers l.table.numbers;
  same : l.table ≡ record l.fn.table { numbers = l.table.numbers; modified = l.table.modified };
  modified : (l.table ≡ l.fn.table) ⊎ (l.table.modified ≡ true);
  within : l.index ≤ length l.table.numbers;
}

abbrev pub decreases-loop-index : goal.decreases-loop-index
decreases-loop-index l = length l.table.numbers - l.index
