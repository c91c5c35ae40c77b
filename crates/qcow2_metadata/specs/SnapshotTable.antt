-- Which internal snapshots does an image have, and where do their L1 tables lie?
use Rattle.std.specs.Prelude.{◌≡◌, ℕ, zero, suc, Bool, ◌==◌, ◌&&◌, ◌||◌, ◌+◌, ◌-◌, ◌%◌, ◌^◌, nat_le, min, if◌then◌else◌, List, [], ◌∷◌, Result, Ok, Err}
use Rattle.std.specs.Int.{next_multiple_of}
use Rattle.qcow2_base.specs.Format.{max_file_length, most_snapshots}
use Rattle.qcow2_base.specs.Storage.{Image, be}
use Rattle.qcow2_base.specs.declared.fault.Fault.{Fault}
use Rattle.qcow2_base.specs.declared.fault.Fault.TheVariants.{Uncounted}
use Rattle.qcow2_base.specs.declared.fault.UncountedPart.TheVariants.{Snapshots}
use Rattle.qcow2_base.specs.declared.on_disk_struct.snapshot_header.SnapshotHeader.{SnapshotHeader}
use Rattle.qcow2_metadata.specs.Header.{HeaderRecord}
use Rattle.qcow2_metadata.specs.Results.{and_then, result_map}

-- how many bytes of extra data an entry may have
abbrev pub most_extra_bytes : ℕ
most_extra_bytes = 1024

-- how many bytes a snapshot table may have
abbrev pub most_table_bytes : ℕ
most_table_bytes = 2 ^ 26

-- the part of fixed length of the entry at an offset
abbrev pub snapshot_header_at : Image → ℕ → SnapshotHeader
snapshot_header_at image offset = record {
  l1_table_offset = be image offset 8;
  l1_size = be image (offset + 8) 4;
  id_str_size = be image (offset + 12) 2;
  name_size = be image (offset + 14) 2;
  date_sec = be image (offset + 16) 4;
  date_nsec = be image (offset + 20) 4;
  vm_clock_nsec = be image (offset + 24) 8;
  vm_state_size = be image (offset + 32) 4;
  extra_data_size = be image (offset + 36) 4;
}

-- where the entry at an offset ends: after its extra data, its id and its name
abbrev pub entry_end : ℕ → SnapshotHeader → ℕ
entry_end offset entry = offset + 40 + entry.extra_data_size + entry.id_str_size + entry.name_size

-- the fault of a snapshot table that can't be followed
abbrev pub no_snapshots : Fault
no_snapshots = Uncounted Snapshots

-- an entry at an offset, where its extra data aren't too many and it ends by a limit
abbrev pub accepted_entry : ℕ → ℕ → SnapshotHeader → Result SnapshotHeader Fault
accepted_entry limit offset entry =
    if nat_le entry.extra_data_size most_extra_bytes && nat_le (entry_end offset entry) limit then Ok entry
    else Err no_snapshots

-- the entry that an image has there
abbrev pub entry_at : ℕ → Image → ℕ → Result SnapshotHeader Fault
entry_at limit image offset = accepted_entry limit offset (snapshot_header_at image offset)

-- an entry before others, and where the last of them ends
abbrev pub before_others : SnapshotHeader → List SnapshotHeader × ℕ → List SnapshotHeader × ℕ
before_others entry others = (entry ∷ others.0, others.1)

-- that many entries from an offset on, each at the next multiple of 8 bytes, and where the last ends
abbrev pub entries_from : ℕ → Image → ℕ → ℕ → Result (List SnapshotHeader × ℕ) Fault
entries_from limit image offset zero = Ok ([], offset)
entries_from limit image offset (suc count) =
    let place = next_multiple_of offset 8 in
    and_then (entry_at limit image place) (λ entry.
    result_map (before_others entry) (entries_from limit image (entry_end place entry) count))

-- what a snapshot table says: its entries, and how many bytes it has, up to the last one's end
pub record SnapshotTableState : Type 0 where
  pub snapshots : List SnapshotHeader
  pub byte_count : ℕ

-- where the snapshot table of an image with this header ends at most
abbrev pub table_limit : HeaderRecord → ℕ
table_limit header = min (header.v2.snapshots_offset + most_table_bytes) max_file_length

-- whether there can be one as the header says: it begins with a cluster, and has no more entries than the format allows
abbrev pub has_table : HeaderRecord → Bool
has_table header = header.v2.snapshots_offset % 2 ^ header.v2.cluster_bits == 0
    && nat_le header.v2.snapshots_offset max_file_length && nat_le header.v2.nb_snapshots most_snapshots

-- the snapshot table of an image with this header, which says where it lies only where there are snapshots
abbrev pub loaded_snapshots : HeaderRecord → Image → Result SnapshotTableState Fault
loaded_snapshots header image =
    if header.v2.nb_snapshots == 0 || has_table header
    then result_map (λ found. record { snapshots = found.0; byte_count = found.1 - header.v2.snapshots_offset })
    (entries_from (table_limit header) image header.v2.snapshots_offset header.v2.nb_snapshots)
    else Err no_snapshots
