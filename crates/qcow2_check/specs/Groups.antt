-- Which entries of an L2 table, one after another, refer to clusters one after another?
use Rattle.std.specs.Prelude.{◌≡◌, ℕ, ◌+◌, ◌/◌, ◌^◌, ◌<◌, false, true, List, None, slice_index}
use Rattle.qcow2_metadata.specs.Entries.{is_copied, offset_field}
use Rattle.qcow2_metadata.specs.Entries.L2Entry.{is_compressed, l2_fault}

-- an entry is a valid standard one that is copied and names cluster c
pub record IsInRow (cb v c : ℕ) : Type 0 where
  pub valid : l2_fault cb v ≡ None
  pub copied : is_copied v ≡ true
  pub standard : is_compressed v ≡ false
  pub cluster : offset_field v / 2 ^ cb ≡ c

-- the 16 entries from an index on name the clusters from a first one on, which isn't that of the header
pub record IsRow (cb : ℕ) (numbers : List ℕ) (first start : ℕ) : Type 0 where
  pub some : 0 < start
  pub each : (k : ℕ) → k < 16 → IsInRow cb (slice_index numbers (first + k)) (start + k)
