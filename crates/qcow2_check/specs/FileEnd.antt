-- Does the file of an image have the tables and refcount blocks that the image names?
use Rattle.std.specs.Prelude.{ℕ, ◌+◌, ◌^◌, nat_le, Bool, true, false, ◌==◌, ◌||◌, if◌then◌else◌, List, [], ◌∷◌, Option, Some, None, is_some, Result, Ok, Err}
use Rattle.std.specs.Int.{div_ceil}
use Rattle.qcow2_base.specs.Storage.{Image}
use Rattle.qcow2_base.specs.declared.fault.Fault.{Fault}
use Rattle.qcow2_base.specs.declared.fault.Fault.TheVariants.{TablePlace}
use Rattle.qcow2_metadata.specs.Header.{HeaderRecord}
use Rattle.qcow2_metadata.specs.Results.{and_then}
use Rattle.qcow2_metadata.specs.declared.entries.ClustersToFreeEntry.{ClustersToFreeEntry}
use Rattle.qcow2_check.specs.NamedTables.{loaded_l1_table, loaded_reftable}
use Rattle.qcow2_check.specs.Uses.{image_tables}
use Rattle.qcow2_check.specs.Walk.{tables_list}
use Rattle.qcow2_check.specs.declared.file_end.FileEnd.{FileEnd}
use Rattle.qcow2_check.specs.declared.uses.Use.{Use}
use Rattle.qcow2_check.specs.declared.uses.UseKind.{UseKind}
use Rattle.qcow2_check.specs.declared.uses.UseKind.TheVariants.{EncryptionHeader, Header}

-- how many clusters a file of this length has, of an image with this header. The last may be cut
abbrev pub file_clusters : ℕ → HeaderRecord → ℕ
file_clusters file_length header = div_ceil file_length (2 ^ header.v2.cluster_bits)

-- whether clusters are used as a header: the image's, which was read from the file, or the encryption header, which isn't read
abbrev pub is_header : UseKind → Bool
is_header Header = true
is_header EncryptionHeader = true
is_header kind = false

-- whether a file of that many clusters, the last of which may be cut, has these clusters
abbrev pub has_clusters : ℕ → ClustersToFreeEntry → Bool
has_clusters file clusters = clusters.count.0 == 0 || nat_le (clusters.first.0 + clusters.count.0) file

-- whether it has those of a use
abbrev pub has_use : ℕ → Use → Bool
has_use file one = is_header one.kind || has_clusters file one.clusters

-- the first of some uses whose clusters it doesn't have
abbrev pub missing_use : ℕ → List Use → Option Use
missing_use file [] = None
missing_use file (one ∷ uses) = if has_use file one then missing_use file uses else Some one

-- a file's end after one use more: the first that the file doesn't have stays
abbrev pub file_end_after : FileEnd → Use → FileEnd
file_end_after end one = if is_some end.missing || has_use end.clusters one then end else record end { missing = Some one }

-- why a file of this length doesn't have all tables of an image with this header, if it doesn't: the L1 table, the refcount
-- table, or a table or block that ends past the file's end
abbrev pub tables_in_file : ℕ → HeaderRecord → Image → Result (Unit {0}) Fault
tables_in_file file_length header image = and_then (loaded_l1_table header image) (λ l1.
    and_then (loaded_reftable header image) (λ reftable.
    elim (missing_use (file_clusters file_length header) (tables_list (image_tables header l1 reftable))) [
      | None ↦ Ok tt
      | Some one ↦ Err TablePlace
    ]))
