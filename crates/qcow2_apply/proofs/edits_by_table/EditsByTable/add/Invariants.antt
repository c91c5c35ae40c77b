use Rattle.std.proofs.Common.{◌≡◌, ◌⊎◌, ◌≤◌, ℕ, ◌++◌, ◌∷◌, [], ◌&&◌, if◌then◌else◌, nat_le, nat_lt, IsSome, slice_index, length, min}
use Rattle.qcow2_check.specs.NamedTables.{named_cluster}
use Rattle.qcow2_apply.specs.EditsByTable.{kept_positions}
use Rattle.qcow2_apply.proofs.edits_by_table.EditsByTable.add.Given as goal

-- the tables from the first one on and before this one have the position
abbrev pub invariant-loop-index : goal.invariant-loop-index
invariant-loop-index l = record {
  kept : (i : ℕ) → IsSome (named_cluster l.header.v2.cluster_bits (slice_index l.l1_table.numbers i))
      → kept_positions l.self i ≡ kept_positions l.initial.self i ++ (if nat_le l.first i && nat_lt i l.index then l.position ∷ [] else []);
  within : (l.index ≤ min l.end (length l.l1_table.numbers)) ⊎ (l.index ≡ l.first);
}
