use Rattle.std.proofs.Common.{◌≡◌, ℕ, IsTrue, Result, Ok, ◌∙◌}
use Rattle.qcow2_base.specs.Storage.{OnImage, OnlyReads, StorageState}
use Rattle.qcow2_base.specs.declared.fault.Fault.{Fault}
use Rattle.qcow2_metadata.specs.Header.{HeaderRecord}
use Rattle.qcow2_metadata.specs.Results.{Answers}
use Rattle.qcow2_bytes.specs.Header.{any_header_of}
use Rattle.qcow2_bytes.specs.Images.{fields_at, fields_in}
use Rattle.qcow2_bytes.specs.declared.entries.EntryMapping.{EntryMapping}

-- what is looked up after the header was read is what the image says
pub looked_up : (header : HeaderRecord) (offset : ℕ) (answer : Result EntryMapping Fault) (old new : StorageState)
    → (IsTrue old.tells → any_header_of old.byte_at ≡ Ok header)
    → OnlyReads {T = HeaderRecord} (Ok header) old new
    → OnImage new (λ bytes. Answers (λ mapping. mapping) answer (fields_in header offset bytes))
    → OnImage old (λ bytes. Answers (λ mapping. mapping) answer (fields_at offset bytes))
looked_up header offset answer old new loaded reads exact = λ told.
    rw (loaded told) (rw reads.bytes at (exact (reads.device.tells ∙ told)))
