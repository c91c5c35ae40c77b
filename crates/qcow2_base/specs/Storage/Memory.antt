-- What is a storage in memory, and what is known of it?
use Rattle.std.specs.Prelude.{ℕ, true, List, length}
use Rattle.qcow2_base.specs.Storage.{StorageState, image_of}
use Rattle.qcow2_base.specs.declared.storage.memory.MemStorage.{MemStorage}

-- the bytes up to the end
abbrev pub memory_bytes : MemStorage → List ℕ
memory_bytes m = m.bytes.items

-- both alignments
abbrev pub alignment : MemStorage → ℕ
alignment m = m.align

-- what is known of it as a storage
abbrev pub memory_state : MemStorage → StorageState
memory_state m = record {
  tells = true;
  byte_at = image_of (memory_bytes m);
  len = length (memory_bytes m);
  failures = m.failures;
  mem_align = alignment m;
  req_align = alignment m;
}
