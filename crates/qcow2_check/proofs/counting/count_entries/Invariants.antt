use Rattle.std.proofs.Common.{◌-◌, ◌≤◌, flat_map, length, take}
use Rattle.qcow2_check.specs.Tally.{CountsMore}
use Rattle.qcow2_check.specs.Uses.{entry_uses}
use Rattle.qcow2_check.proofs.counting.count_entries.Given as goal

-- what the entries before this one refer to is counted
abbrev pub invariant-loop-index : goal.invariant-loop-index
invariant-loop-index l = record {
  counted : CountsMore (flat_map (entry_uses l.table.geometry) (take l.index l.table.numbers)) l.initial.tally l.tally;
  within : l.index ≤ length l.table.numbers;
}

abbrev pub decreases-loop-index : goal.decreases-loop-index
decreases-loop-index l = length l.table.numbers - l.index
