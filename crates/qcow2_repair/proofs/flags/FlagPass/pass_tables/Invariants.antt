use Rattle.std.proofs.Common.{Ok}
use Rattle.qcow2_base.specs.Storage.{OnImages}
use Rattle.qcow2_repair.proofs.FlagsLemmas.{PassesSome}
use Rattle.qcow2_check.specs.Failures.{ReportsFailures}
use Rattle.qcow2_repair.specs.Flags.{pass_by}
use Rattle.qcow2_repair.proofs.flags.FlagPass.pass_tables.Given as goal

-- the tables that the entries before this one name are passed
abbrev pub invariant-loop-index : goal.invariant-loop-index
invariant-loop-index g l = record {
  passed : OnImages (g.S.Storage.state l.fn.image) (g.S.Storage.state l.image) (λ before after. PassesSome (pass_by l.self) l.l1_table.numbers l.index before after);
  storage : ReportsFailures (Ok l.index) (g.S.Storage.state l.fn.image) (g.S.Storage.state l.image);
}
