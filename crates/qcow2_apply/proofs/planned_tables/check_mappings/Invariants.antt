use Rattle.std.proofs.Common.{◌≡◌, None, Ok, take}
use Rattle.qcow2_base.specs.Storage.{OnImage, OnlyReads}
use Rattle.qcow2_check.specs.Counters.{IsSameButBlock}
use Rattle.qcow2_metadata.specs.Table.{first_fault}
use Rattle.qcow2_apply.specs.PlannedTables.{mapping_fault_in, planning_tables}
use Rattle.qcow2_apply.proofs.planned_tables.check_mappings.Given as goal

-- no edit at a position before this one maps what it can't
abbrev pub invariant-loop-position : goal.invariant-loop-position
invariant-loop-position g l =
    let old = g.S.Storage.state l.fn.image in
    record {
      none : OnImage old (λ bytes. first_fault (mapping_fault_in (planning_tables l.sources l.fn.counters) l.sources.edits.now bytes l.index)
          (take l.position-index l.positions) ≡ None);
      reader : IsSameButBlock old l.fn.counters l.counters;
      storage : OnlyReads (Ok l.position-index) old (g.S.Storage.state l.image);
    }
