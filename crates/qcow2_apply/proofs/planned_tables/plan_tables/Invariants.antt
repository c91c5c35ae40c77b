use Rattle.std.proofs.Common.{◌≡◌, ◌≤◌, None, Ok}
use Rattle.std.specs.List.{range_with_len}
use Rattle.qcow2_base.specs.Storage.{OnImage, OnlyReads}
use Rattle.qcow2_check.specs.Counters.{IsSameButBlock}
use Rattle.qcow2_metadata.specs.Table.{first_fault}
use Rattle.qcow2_apply.specs.PlannedChanges.{StaySorted}
use Rattle.qcow2_apply.specs.PlannedTables.{IsPlanned, planning_tables, table_refusal}
use Rattle.qcow2_apply.proofs.planned_tables.plan_tables.Given as goal

-- what edits do of the tables before this one is planned
abbrev pub invariant-loop-index : goal.invariant-loop-index
invariant-loop-index g l =
    let old = g.S.Storage.state l.fn.image in
    let tables = planning_tables l.sources l.fn.counters in
    record {
      none : OnImage old (λ bytes. first_fault (table_refusal tables l.sources.edits.now bytes) (range_with_len 0 l.index) ≡ None);
      planned : OnImage old (λ bytes. IsPlanned tables l.sources.edits.now bytes l.index l.planned);
      sorted : StaySorted l.fn.planned l.planned;
      within : l.index ≤ l.end;
      reader : IsSameButBlock old l.fn.counters l.counters;
      storage : OnlyReads (Ok l.index) old (g.S.Storage.state l.image);
    }
