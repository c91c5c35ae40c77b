-- What are the lines of an L2 table's entries?
use Rattle.std.specs.Prelude.{◌≡◌, ℕ, ◌+◌, ◌*◌, ◌^◌, ◌<◌, ◌≤◌, List, [], ◌∷◌, ◌++◌, codes}
use Rattle.std.specs.Fmt.{decimal}
use Rattle.qcow2_metadata.specs.Header.{Geometry}
use Rattle.qcow2_metadata.specs.Entries.L2Mapping.{Mapping, backing, mapping}
use Rattle.qcow2_metadata.specs.Table.{TableState, l2_entries, mapping_at, place_in_table}
use Rattle.qcow2_session.specs.Lines.{mapping_text, offset_text}
use Rattle.qcow2_session.specs.declared.commands.entries.Label.{Label}
use Rattle.qcow2_session.specs.declared.commands.entries.Label.TheVariants.{Index, Offset}

-- what the line of an entry begins with, by its guest cluster
abbrev pub label_text : Label → ℕ → ℕ → List ℕ
label_text Index cb cluster = decimal cluster
label_text Offset cb cluster = offset_text (cluster * 2 ^ cb)

-- the line of an entry: its label, a space and the text of its mapping, or none where the backing file is asked
abbrev pub entry_line : ℕ → List ℕ → Mapping → List ℕ
entry_line cb label (backing offset) = []
entry_line cb label found = label ++ codes " " ++ mapping_text cb found ++ codes "\n"

-- the lines of an L2 table's entries from a guest cluster on, each labelled by its guest cluster
abbrev pub entry_lines : (ℕ → List ℕ) → Geometry → ℕ → List ℕ → List ℕ
entry_lines label g cluster [] = []
entry_lines label g cluster (v ∷ vs) =
    entry_line g.cluster_bits (label cluster) (mapping g cluster v) ++ entry_lines label g (cluster + 1) vs

-- the lines of the L2 table of the L1 entry at an index
abbrev pub table_lines : Label → Geometry → ℕ → List ℕ → List ℕ
table_lines label g l1_index numbers =
    entry_lines (label_text label g.cluster_bits) g (l1_index * l2_entries g.cluster_bits) numbers

-- that many entries of a table from a guest cluster's on, one at least, have no line but that of the first
pub record IsTold (table : TableState) (first count : ℕ) : Type 0 where
  pub some : 1 ≤ count
  pub within : place_in_table table first + count ≤ l2_entries table.geometry.cluster_bits
  pub left : (k : ℕ) → 1 ≤ k → k < count →
      mapping_at table (first + k) ≡ backing ((first + k) * 2 ^ table.geometry.cluster_bits)
