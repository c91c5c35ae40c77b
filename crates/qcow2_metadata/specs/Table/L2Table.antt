-- Where does an L2 table have compressed data, and how many guest clusters read on as one?
use Rattle.std.specs.Prelude.{◌≡◌, ℕ, ◌+◌, ◌<◌, ◌≤◌, Option, Some, None, true, false}
use Rattle.qcow2_metadata.specs.Entries.L2Mapping.{Mapping, compressed}
use Rattle.qcow2_metadata.specs.Entries.Runs.{reads_on}
use Rattle.qcow2_metadata.specs.Table.{TableState, l2_entries, mapping_at, place_in_table}

-- where a mapping's data begins, and how many bytes it takes at most, where it is compressed data
abbrev pub compressed_range : Mapping → Option (ℕ × ℕ)
compressed_range (compressed offset length) = Some (offset, length)
compressed_range _ = None

-- that many guest clusters from one on, one at least, read on from that one by a table. All are in the part of
-- the disk that the table is for, and the next one of that part, if there is one, doesn't read on
pub record IsMappedRun (table : TableState) (first count : ℕ) : Type 0 where
  pub some : 1 ≤ count
  pub within : place_in_table table first + count ≤ l2_entries table.geometry.cluster_bits
  pub each : (k : ℕ) → k < count → reads_on k (mapping_at table first) (mapping_at table (first + k)) ≡ true
  pub ends : place_in_table table first + count < l2_entries table.geometry.cluster_bits →
      reads_on count (mapping_at table first) (mapping_at table (first + count)) ≡ false
