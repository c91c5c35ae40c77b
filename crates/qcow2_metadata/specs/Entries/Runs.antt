-- Which guest clusters read on from one another, and which entries follow a pattern?
use Rattle.std.specs.Prelude.{◌≡◌, ℕ, Bool, true, false, ◌==◌, ◌+◌, ◌*◌, ◌^◌, ◌<◌, ◌≤◌, List, length, slice_index, Some, None, bit_and}
use Rattle.qcow2_base.specs.Format.{most_l2_entries}
use Rattle.qcow2_metadata.specs.Entries.L2Entry.{l2_fault}
use Rattle.qcow2_metadata.specs.Entries.L2Mapping.{Mapping, backing, compressed, data_file, mapping, zeros}
use Rattle.qcow2_metadata.specs.Header.{Geometry}
use Rattle.qcow2_metadata.specs.declared.entries.runs.RunPattern.{RunPattern}

-- a guest cluster reads on from the one a distance before it. It is data or zeros in the host cluster that distance
-- further on, zeros without a cluster, compressed data, or what the backing file has. Unlike for mappings that are
-- consecutive, the copied flag makes no difference
abbrev pub reads_on : ℕ → Mapping → Mapping → Bool
reads_on distance (data_file before was_copied) (data_file cluster copied) = cluster == before + distance
reads_on distance (backing before) (backing offset) = true
reads_on distance (zeros (Some before) was_copied) (zeros (Some cluster) copied) = cluster == before + distance
reads_on distance (zeros None was_copied) (zeros None copied) = true
reads_on distance (compressed before before_length) (compressed offset length) = true
reads_on distance before after = false

-- the bits of an entry that a pattern looks at are those that the pattern has that many entries further on
abbrev pub follows : RunPattern → ℕ → ℕ → Bool
follows pattern distance v = bit_and v pattern.mask == pattern.value + distance * pattern.step

-- the pattern of the entries that go on from one: a valid entry a distance further on follows it just where it reads on
-- from that one
abbrev pub IsPatternOf : Geometry → ℕ → RunPattern → Type 0
IsPatternOf g entry pattern = (k v c other : ℕ) → 1 ≤ k → k ≤ most_l2_entries → v < 2 ^ 64 → l2_fault g.cluster_bits v ≡ None
    → follows pattern k v ≡ reads_on k (mapping g c entry) (mapping g other v)

-- of the entries that come after the first of a pattern that many follow it, and not the next one
pub record FollowJust (pattern : RunPattern) (entries : List ℕ) (count : ℕ) : Type 0 where
  pub within : count ≤ length entries
  pub each : (k : ℕ) → k < count → follows pattern (k + 1) (slice_index entries k) ≡ true
  pub ends : count < length entries → follows pattern (count + 1) (slice_index entries count) ≡ false
