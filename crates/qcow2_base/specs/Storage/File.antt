-- What is a storage in a file, and what is known of it?
use Rattle.std.specs.Prelude.{ℕ}
use Rattle.qcow2_base.specs.Storage.{StorageState}
use Rattle.qcow2_base.specs.Storage.ImageFile.{FileContent}
use Rattle.qcow2_base.specs.declared.storage.file.FileStorage.{FileStorage}

-- the open file
abbrev pub file_of : {F : Type 0} → FileStorage F → F
file_of storage = storage.file

-- how many of its calls have failed, modulo 2^64
abbrev pub failures_of : {F : Type 0} → FileStorage F → ℕ
failures_of storage = storage.failures

-- the state of a storage over a file of which this is known, after that many failures
abbrev pub state_over : FileContent → ℕ → StorageState
state_over content failures = record {
  tells = content.tells;
  byte_at = content.byte_at;
  len = content.len;
  failures = failures;
  mem_align = 1;
  req_align = 1;
}

-- what is known of it as a storage: what is known of its file
abbrev pub file_state : {F : Type 0} → (F → FileContent) → FileStorage F → StorageState
file_state content storage = state_over (content (file_of storage)) (failures_of storage)
