use Rattle.std.proofs.Common.{◌-◌, ◌≤◌, length, take}
use Rattle.qcow2_check.specs.Walk.{entries_list}
use Rattle.qcow2_check.proofs.use_sink.UseSink.take_table.Given as goal

-- what the entries before this one refer to is taken
abbrev pub invariant-loop-index : goal.invariant-loop-index
invariant-loop-index g l = record {
  within : l.index ≤ length l.table.numbers;
  taken : g.Self.UseSink.takes (entries_list l.table.geometry l.l1_index (take l.index l.table.numbers)) l.initial.self l.self;
}

abbrev pub decreases-loop-index : goal.decreases-loop-index
decreases-loop-index g l = length l.table.numbers - l.index
