use Rattle.std.proofs.Common.{◌≤◌, ◌-◌, Ok, IfSome}
use Rattle.qcow2_base.specs.Format.{max_file_length}
use Rattle.qcow2_base.specs.Storage.{OnImage, OnImages}
use Rattle.qcow2_check.specs.Findings.{CountsAll}
use Rattle.qcow2_check.specs.Uses.{image_tables}
use Rattle.qcow2_check.specs.Failures.{ReportsFailures}
use Rattle.qcow2_repair.specs.Flags.{IsL1TableOf, PassesFlags, pass_between}
use Rattle.qcow2_repair.proofs.flag_windows.pass_all_flags.Given as goal

-- the flags of entries whose clusters are before this one are passed
abbrev pub invariant-loop-first : goal.invariant-loop-first
invariant-loop-first g l = record {
  passed : OnImages (g.S.Storage.state l.fn.image) (g.S.Storage.state l.image) (λ before after.
      PassesFlags (pass_between (image_tables l.header l.fn.l1_table.numbers l.reftable.numbers) before l.flag 0 l.first) before after);
  l1_table : IsL1TableOf l.header (g.S.Storage.state l.image) l.l1_table;
  kept : OnImage (g.S.Storage.state l.image) (λ bytes.
      IfSome l.kept.tally (CountsAll (image_tables l.header l.l1_table.numbers l.reftable.numbers) bytes));
  within : l.first ≤ max_file_length;
  storage : ReportsFailures (Ok l.first) (g.S.Storage.state l.fn.image) (g.S.Storage.state l.image);
}

abbrev pub decreases-loop-first : goal.decreases-loop-first
decreases-loop-first g l = max_file_length - l.first
