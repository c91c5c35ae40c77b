-- Which limits does the format set, and how far does a table in memory go?
use Rattle.std.specs.Prelude.{ℕ, ◌-◌, ◌^◌}

-- where an image ends at most, in bytes: offsets in tables have 56 bits
abbrev pub max_file_length : ℕ
max_file_length = 2 ^ 56

-- the greatest offset of a cluster: one of 512 bytes there ends where an image ends at most
abbrev pub max_offset : ℕ
max_offset = 2 ^ 56 - 512

-- how many bytes the backing file's name may have
abbrev pub max_backing_filename : ℕ
max_backing_filename = 1023

-- how many entries an L1 table may have: 32 MiB of them
abbrev pub most_l1_entries : ℕ
most_l1_entries = 4194304

-- how many an L2 table may have, in clusters of 2 MiB
abbrev pub most_l2_entries : ℕ
most_l2_entries = 262144

-- how many a refcount table may have: 32 MiB of them
abbrev pub most_reftable_entries : ℕ
most_reftable_entries = 4194304

-- how many snapshots an image may have
abbrev pub most_snapshots : ℕ
most_snapshots = 65536

-- how many entries a table in memory may have: no memory holds more
abbrev pub most_entries_in_memory : ℕ
most_entries_in_memory = 2 ^ 48

-- the number of the incompatible feature bit that says that guest data lies in an external data file
abbrev pub external_data_file_bit : ℕ
external_data_file_bit = 2
