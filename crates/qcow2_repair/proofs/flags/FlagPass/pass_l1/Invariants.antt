use Rattle.std.proofs.Common.{◌≡◌, ◌⊎◌, true}
use Rattle.qcow2_repair.proofs.FlagsLemmas.{MapsBefore}
use Rattle.qcow2_repair.specs.Flags.{pass_by, passed_l1}
use Rattle.qcow2_repair.proofs.flags.FlagPass.pass_l1.Given as goal

-- the entries before this one are passed
abbrev pub invariant-loop-index : goal.invariant-loop-index
invariant-loop-index l = record {
  numbers : MapsBefore (passed_l1 (pass_by l.self)) l.index l.initial.l1_table.numbers l.l1_table.numbers;
  same : l.l1_table ≡ record l.initial.l1_table { numbers = l.l1_table.numbers; modified = l.l1_table.modified };
  modified : (l.l1_table ≡ l.initial.l1_table) ⊎ (l.l1_table.modified ≡ true);
}
