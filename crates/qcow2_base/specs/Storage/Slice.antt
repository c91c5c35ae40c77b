-- What is known of a storage over bytes that somebody else has?
use Rattle.std.specs.Prelude.{true, ◌+◌, length}
use Rattle.qcow2_base.specs.Storage.{StorageState, image_from}
use Rattle.qcow2_base.specs.declared.storage.slice.SliceStorage.{SliceStorage}

-- what is known of it as a storage
abbrev pub slice_state : SliceStorage → StorageState
slice_state s = record {
  tells = true;
  byte_at = image_from s.start s.bytes.now;
  len = s.start + length s.bytes.now;
  failures = s.failures;
  mem_align = 1;
  req_align = 1;
}
