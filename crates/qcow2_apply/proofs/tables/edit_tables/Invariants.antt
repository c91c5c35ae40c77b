use Rattle.std.proofs.Common.{Ok}
use Rattle.qcow2_base.specs.Storage.{OnImage, OnImages}
use Rattle.qcow2_check.specs.Failures.{ReportsFailures}
use Rattle.qcow2_apply.specs.Passes.{ArePlacesApart, KeepsOutside, PassesBefore}
use Rattle.qcow2_apply.specs.Tables.{IsEdited, IsL2TableOf, NoneFailsBefore, l2_tables}
use Rattle.qcow2_apply.proofs.tables.edit_tables.Given as goal

-- the tables before this one are edited
abbrev pub invariant-loop-index : goal.invariant-loop-index
invariant-loop-index g l = record {
  passed : ArePlacesApart (l2_tables l.header l.l1_table.numbers) → OnImages (g.S.Storage.state l.fn.image) (g.S.Storage.state l.image)
      (λ before after. PassesBefore (l2_tables l.header l.l1_table.numbers) (IsEdited l.header l.edits) l.index before after);
  loaded : ArePlacesApart (l2_tables l.header l.l1_table.numbers) → OnImage (g.S.Storage.state l.fn.image)
      (NoneFailsBefore l.header l.l1_table.numbers l.edits l.index);
  others : OnImages (g.S.Storage.state l.fn.image) (g.S.Storage.state l.image) (KeepsOutside (l2_tables l.header l.l1_table.numbers));
  table : IsL2TableOf l.header l.table;
  storage : ReportsFailures (Ok l.index) (g.S.Storage.state l.fn.image) (g.S.Storage.state l.image);
}
