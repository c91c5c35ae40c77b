-- Which clusters hold an image's encryption header, which keeps the keys of LUKS?
use Rattle.std.specs.Prelude.{ℕ, ◌==◌, ◌&&◌, ◌+◌, ◌/◌, ◌%◌, ◌^◌, nat_le, if◌then◌else◌, List, [], ◌∷◌, length, Option, Some, None}
use Rattle.std.specs.Int.{div_ceil}
use Rattle.std.specs.List.{list_any}
use Rattle.qcow2_base.specs.Format.{max_file_length}
use Rattle.qcow2_base.specs.Storage.{be, image_of}
use Rattle.qcow2_base.specs.declared.types.ClusterCount.{ClusterCount}
use Rattle.qcow2_base.specs.declared.types.HostCluster.{HostCluster}
use Rattle.qcow2_metadata.specs.Header.Extensions.{Extension, Unknown, is_unknown}

-- the type of the extension that says where it lies
abbrev pub encryption_type : ℕ
encryption_type = 0x0537be77

-- the most bytes that it can have
abbrev pub most_encryption_bytes : ℕ
most_encryption_bytes = 2 ^ 25

-- the clusters of 2 ^ cb bytes that an offset and a length name: the first and how many, where the offset begins a cluster, the
-- length isn't too great, and they end by the greatest end
abbrev pub encryption_at : ℕ → ℕ → ℕ → Option (HostCluster × ClusterCount)
encryption_at cb offset len =
    if offset % 2 ^ cb == 0 && (nat_le len most_encryption_bytes && nat_le (offset + len) max_file_length)
    then Some (record { 0 = offset / 2 ^ cb }, record { 0 = div_ceil len (2 ^ cb) }) else None

-- those that an extension names, if it is of the type: its data are 16 bytes, an offset and a length
abbrev pub encryption_in : ℕ → Extension → Option (HostCluster × ClusterCount)
encryption_in cb (Unknown number content) = if number == encryption_type && length content == 16
    then encryption_at cb (be (image_of content) 0 8) (be (image_of content) 8 8) else None
encryption_in cb extension = None

-- those that the one extension of the type names: nothing where there is none, or more than one
abbrev pub encryption_by : ℕ → List Extension → Option (HostCluster × ClusterCount)
encryption_by cb [] = None
encryption_by cb (extension ∷ extensions) =
    if is_unknown encryption_type extension
    then (if list_any (is_unknown encryption_type) extensions then None else encryption_in cb extension)
    else encryption_by cb extensions
