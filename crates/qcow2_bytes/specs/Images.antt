-- What does a whole image in memory say?
pub mod Check
pub mod Extents
use Rattle.std.specs.Prelude.{ℕ, Result}
use Rattle.qcow2_base.specs.Storage.{Image}
use Rattle.qcow2_base.specs.declared.fault.Fault.{Fault}
use Rattle.qcow2_image.specs.Lookups.{mapping_in}
use Rattle.qcow2_metadata.specs.Results.{and_then, result_map}
use Rattle.qcow2_metadata.specs.Header.{HeaderRecord}
use Rattle.qcow2_bytes.specs.Entries.{mapping_fields}
use Rattle.qcow2_bytes.specs.Header.{any_header_of}
use Rattle.qcow2_bytes.specs.declared.entries.EntryMapping.{EntryMapping}

-- what the cluster of a guest offset reads as, in fields, in an image with this header
abbrev pub fields_in : HeaderRecord → ℕ → Image → Result EntryMapping Fault
fields_in header offset image = result_map (mapping_fields header.v2.cluster_bits) (mapping_in header offset image)

-- the same by an image's bytes alone
abbrev pub fields_at : ℕ → Image → Result EntryMapping Fault
fields_at offset image = and_then (any_header_of image) (λ header. fields_in header offset image)
