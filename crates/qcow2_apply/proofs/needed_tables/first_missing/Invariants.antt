use Rattle.std.proofs.Common.{length, take}
use Rattle.qcow2_apply.specs.NeededTables.{IsFirstMissing, is_table_needed}
use Rattle.qcow2_apply.proofs.needed_tables.first_missing.Given as goal

-- what is missing for the edits before this one
abbrev pub invariant-loop-edit : goal.invariant-loop-edit
invariant-loop-edit l = IsFirstMissing l.header l.l1_table.numbers (is_table_needed l.header.v2.cluster_bits (take l.edit-index l.edits)) (length l.l1_table.numbers) l.first
