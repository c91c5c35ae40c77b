-- Which tables are those of one image?
use Rattle.std.specs.Prelude.{◌≡◌, ◌≤◌, length, None, Result, option_map}
use Rattle.qcow2_base.specs.Format.{most_l1_entries, most_reftable_entries}
use Rattle.qcow2_base.specs.Storage.{Image, StorageState}
use Rattle.qcow2_base.specs.declared.fault.Fault.{Fault}
use Rattle.qcow2_base.specs.declared.fault.Fault.TheVariants.{Uncounted}
use Rattle.qcow2_metadata.specs.Header.{HeaderRecord, geometry_of, uncounted_part}
use Rattle.qcow2_metadata.specs.Placed.{IsLoaded, place_fault}
use Rattle.qcow2_metadata.specs.Results.{and_then, result_map, unless_refused}
use Rattle.qcow2_metadata.specs.Table.{TableState}
use Rattle.qcow2_check.specs.Counters.{blocks_fault, placed_reftable}
use Rattle.qcow2_check.specs.NamedTables.{l1_cluster, l1_layout, loaded_l1_table}
use Rattle.qcow2_check.specs.Uses.{ImageTables, image_tables}

-- an L1 table and a refcount table have the cluster size that a header says, and no more entries than the format allows
pub record AreTablesOf (header : HeaderRecord) (l1 reftable : TableState) : Type 0 where
  pub l1_geometry : l1.geometry ≡ geometry_of header
  pub l1_entries : length l1.numbers ≤ most_l1_entries
  pub reftable_geometry : reftable.geometry ≡ geometry_of header
  pub reftable_entries : length reftable.numbers ≤ most_reftable_entries

-- a refcount table has them too, and its blocks can all lie where it says
pub record IsPlacedReftable (header : HeaderRecord) (reftable : TableState) : Type 0 where
  pub geometry : reftable.geometry ≡ geometry_of header
  pub entries : length reftable.numbers ≤ most_reftable_entries
  pub placed : blocks_fault header reftable.numbers ≡ None

-- the tables of an image with this header that can be checked, before any L2 table is read, or the first fault
abbrev pub opened_tables : HeaderRecord → Image → Result ImageTables Fault
opened_tables header image = unless_refused (option_map Uncounted (uncounted_part header))
    (and_then (loaded_l1_table header image) (λ l1.
    result_map (λ reftable. image_tables header l1 reftable) (placed_reftable header image)))

-- a table is as it was loaded for the L1 table of an image with this header, which lies where a table can
pub record IsOpenedL1 (header : HeaderRecord) (image : StorageState) (table : TableState) : Type 0 where
  pub loaded : IsLoaded (l1_layout header) (geometry_of header) (l1_cluster header) image table
  pub entries : length table.numbers ≤ most_l1_entries
  pub placed : place_fault (l1_layout header) (l1_cluster header) ≡ None
