use Rattle.std.proofs.Common.{◌≡◌, IsSome, slice_index, ℕ}
use Rattle.std.specs.List.{filter, range_with_len}
use Rattle.qcow2_check.specs.NamedTables.{named_cluster}
use Rattle.qcow2_apply.specs.EditsByTable.{is_of_table, kept_positions}
use Rattle.qcow2_apply.proofs.edits_by_table.EditsByTable.of.Given as goal

-- the tables have the positions before this one
abbrev pub invariant-loop-position : goal.invariant-loop-position
invariant-loop-position l = let cb = l.header.v2.cluster_bits in (i : ℕ) → IsSome (named_cluster cb (slice_index l.l1_table.numbers i))
    → kept_positions l.by_table i ≡ filter (is_of_table cb i l.edits) (range_with_len 0 l.position)
