use Rattle.std.proofs.Common.{◌≡◌, Ok}
use Rattle.qcow2_base.specs.Storage.{OnImages}
use Rattle.qcow2_check.specs.Failures.{ReportsFailures}
use Rattle.qcow2_metadata.specs.Refblock.{block_geometry_of}
use Rattle.qcow2_apply.specs.CounterTables.{BlockFollows}
use Rattle.qcow2_apply.specs.Blocks.{blocks}
use Rattle.qcow2_apply.specs.Passes.{ArePlacesApart, KeepsOutside, PassesBefore}
use Rattle.qcow2_apply.proofs.blocks.follow_changes.Given as goal

-- the blocks before this one followed
abbrev pub invariant-loop-index : goal.invariant-loop-index
invariant-loop-index g l = record {
  passed : ArePlacesApart (blocks l.tables) → OnImages (g.S.Storage.state l.fn.image) (g.S.Storage.state l.image)
      (λ before after. PassesBefore (blocks l.tables) (BlockFollows l.tables l.changes) l.index before after);
  others : OnImages (g.S.Storage.state l.fn.image) (g.S.Storage.state l.image) (KeepsOutside (blocks l.tables));
  block : l.block.geometry ≡ block_geometry_of l.tables.header;
  storage : ReportsFailures (Ok l.index) (g.S.Storage.state l.fn.image) (g.S.Storage.state l.image);
}
