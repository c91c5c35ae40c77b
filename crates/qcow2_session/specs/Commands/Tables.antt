-- What does the command `tables` print?
use Rattle.std.specs.Prelude.{◌≡◌, ℕ, ◌==◌, ◌*◌, ◌^◌, List, [], ◌∷◌, ◌++◌, flat_map, if◌then◌else◌, Result, codes}
use Rattle.std.specs.Fmt.{decimal}
use Rattle.qcow2_base.specs.Storage.{Image}
use Rattle.qcow2_base.specs.declared.fault.Fault.{Fault}
use Rattle.qcow2_base.specs.declared.types.GuestOffset.{GuestOffset}
use Rattle.qcow2_base.specs.declared.types.HostCluster.{HostCluster}
use Rattle.qcow2_check.specs.Counters.{counter_of, counters_each, placed_reftable}
use Rattle.qcow2_check.specs.NamedTables.{loaded_l1_table}
use Rattle.qcow2_check.specs.Uses.{ImageTables, image_tables}
use Rattle.qcow2_check.specs.Walk.{tables_list}
use Rattle.qcow2_check.specs.declared.uses.Use.{Use}
use Rattle.qcow2_check.specs.declared.uses.UseKind.{UseKind}
use Rattle.qcow2_check.specs.declared.uses.UseKind.TheVariants as kind
use Rattle.qcow2_metadata.specs.Header.{HeaderRecord, each_feature}
use Rattle.qcow2_metadata.specs.Results.{and_then, result_map}
use Rattle.qcow2_metadata.specs.Table.{l2_entries}
use Rattle.qcow2_session.specs.Commands.Facts.{CommandFacts, plain_facts}
use Rattle.qcow2_session.specs.Commands.Printing.{Prints}
use Rattle.qcow2_session.specs.Lines.{offset_text}
use Rattle.qcow2_session.specs.declared.commands.tables.TableLine.{TableLine}
use Rattle.qcow2_session.specs.declared.commands.tables.TableLine.TheVariants as line

-- two numbers in a line
abbrev pub pair_text : ℕ → ℕ → List ℕ
pair_text first second = decimal first ++ codes " " ++ decimal second

-- a guest offset and a length in a line
abbrev pub range_text : GuestOffset → ℕ → List ℕ
range_text start bytes = offset_text start.0 ++ codes " " ++ offset_text bytes

-- the line of where a table or a block lies
abbrev pub table_line : TableLine → List ℕ
table_line line.Header = codes "header 0 1\n"
table_line (line.L1Table first count) = codes "l1 " ++ pair_text first.0 count ++ codes "\n"
table_line (line.L2Table index cluster start mapped counter) = codes "l2 " ++ pair_text index cluster.0 ++ codes " "
    ++ range_text start mapped ++ codes " " ++ decimal counter ++ codes "\n"
table_line (line.EncryptionHeader first count) = codes "encryption-header " ++ pair_text first.0 count ++ codes "\n"
table_line (line.RefcountTable first count) = codes "refcount-table " ++ pair_text first.0 count ++ codes "\n"
table_line (line.RefcountBlock index cluster counted) =
    codes "refcount-block " ++ pair_text index cluster.0 ++ codes " " ++ decimal counted.0 ++ codes "\n"

-- the row of the L2 table of the L1 entry at an index: what it maps of the disk, and the counter of its cluster
abbrev pub l2_row : HeaderRecord → (ℕ → ℕ) → HostCluster → ℕ → TableLine
l2_row header counter cluster index =
    let each = l2_entries header.v2.cluster_bits in
    let size = 2 ^ header.v2.cluster_bits in
    line.L2Table index cluster (record { 0 = index * each * size }) (each * size) (counter cluster.0)

-- the row of the block of the refcount table entry at an index: the first cluster that it counts
abbrev pub block_row : HeaderRecord → HostCluster → ℕ → TableLine
block_row header cluster index = line.RefcountBlock index cluster (record { 0 = index * counters_each header })

-- the row of the encryption header, if it has clusters
abbrev pub key_rows : HostCluster → ℕ → List TableLine
key_rows first count = if count == 0 then [] else line.EncryptionHeader first count ∷ []

-- the row of a use as the header, the L1 table, the encryption header or an L2 table, by the counter of each cluster
abbrev pub mapping_row : HeaderRecord → (ℕ → ℕ) → Use → List TableLine
mapping_row header counter used = of_kind used.kind
  where
    of_kind : UseKind → List TableLine
    of_kind kind.Header = line.Header ∷ []
    of_kind kind.L1Table = line.L1Table used.clusters.first used.clusters.count.0 ∷ []
    of_kind kind.L2Table = l2_row header counter used.clusters.first used.owner ∷ []
    of_kind kind.EncryptionHeader = key_rows used.clusters.first used.clusters.count.0
    of_kind kind.RefcountTable = []
    of_kind kind.RefcountBlock = []
    of_kind kind.Data = []
    of_kind kind.Compressed = []

-- the row of a use as the refcount table or a block of it
abbrev pub counting_row : HeaderRecord → Use → List TableLine
counting_row header used = of_kind used.kind
  where
    of_kind : UseKind → List TableLine
    of_kind kind.Header = []
    of_kind kind.L1Table = []
    of_kind kind.L2Table = []
    of_kind kind.EncryptionHeader = []
    of_kind kind.RefcountTable = line.RefcountTable used.clusters.first used.clusters.count.0 ∷ []
    of_kind kind.RefcountBlock = block_row header used.clusters.first used.owner ∷ []
    of_kind kind.Data = []
    of_kind kind.Compressed = []

-- where everything lies in an image with these tables: first what maps the disk and keeps its keys, and then what counts clusters
abbrev pub rows_of : ImageTables → Image → List TableLine
rows_of tables image =
    flat_map (mapping_row tables.header (counter_of tables.header tables.reftable image)) (tables_list tables)
    ++ flat_map (counting_row tables.header) (tables_list tables)

-- where everything lies in an image with this header, or why its L1 table or its refcount table can't be loaded
abbrev pub image_rows : HeaderRecord → Image → Result (List TableLine) Fault
image_rows header image = and_then (loaded_l1_table header image) (λ l1.
    result_map (λ reftable. rows_of (image_tables header l1 reftable) image) (placed_reftable header image))

-- the rows that a sink has of an image with this header, in two lists
pub record RowsState : Type 0 where
  pub header : HeaderRecord
  pub mapping : List TableLine
  pub counting : List TableLine

-- it takes some uses, before counters are read
abbrev pub AddsRows : List Use → RowsState → RowsState → Type 0
AddsRows uses old new = new ≡ record {
  header = old.header;
  mapping = old.mapping ++ flat_map (mapping_row old.header (λ cluster. 0)) uses;
  counting = old.counting ++ flat_map (counting_row old.header) uses;
}

-- a row after the counter of its cluster was read, if it is an L2 table's
abbrev pub counted_row : (ℕ → ℕ) → TableLine → TableLine
counted_row counter (line.L2Table index cluster start mapped unread) =
    line.L2Table index cluster start mapped (counter cluster.0)
counted_row counter row = row

-- the lines of the command `tables`
abbrev pub tables_lines : HeaderRecord → Image → Result (List ℕ) Fault
tables_lines header image = result_map (flat_map table_line) (image_rows header image)

-- the facts of the command `tables`
abbrev pub tables_facts : CommandFacts
tables_facts = record (plain_facts (λ O header run. Prints run (tables_lines header))) { accepts = each_feature }
