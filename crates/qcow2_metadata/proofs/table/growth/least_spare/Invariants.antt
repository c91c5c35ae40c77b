use Rattle.std.proofs.Common.{◌-◌, ◌<◌, ◌≤◌}
use Rattle.qcow2_metadata.proofs.GrowthLemmas.{IsRoomy}
use Rattle.qcow2_metadata.specs.Table.Growth.{growth_of, least_spare}
use Rattle.qcow2_metadata.proofs.table.growth.least_spare.Given as goal

-- fewer were tried than this number, and no less than it is enough
abbrev pub invariant-loop-len : goal.invariant-loop-len
invariant-loop-len l = record {
  some : 1 ≤ l.spare;
  turns : l.turns.count < l.spare;
  least : l.spare ≤ least_spare (growth_of l.header l.len l.index);
  len : l.len ≤ 4194304;
  roomy : IsRoomy (growth_of l.header l.len l.index);
}

abbrev pub decreases-loop-len : goal.decreases-loop-len
decreases-loop-len l = least_spare (growth_of l.header l.len l.index) - l.spare
