-- What is known of files in memory?
use Rattle.std.specs.Prelude.{true, List, ℕ, length}
use Rattle.qcow2_base.specs.Storage.{image_of}
use Rattle.qcow2_base.specs.Storage.ImageFile.{FileContent}
use Rattle.qcow2_base.specs.Storage.ImageFiles.{PathFile}
use Rattle.qcow2_base.specs.Storage.Memory.{memory_bytes}
use Rattle.qcow2_testing.specs.declared.known_files.KnownFile.{KnownFile}
use Rattle.qcow2_testing.specs.declared.known_files.KnownFiles.{KnownFiles}

-- a file of these bytes
abbrev pub content_of : List ℕ → FileContent
content_of bytes = record { tells = true; byte_at = image_of bytes; len = length bytes }

-- what is known of one in memory
abbrev pub known_content : KnownFile → FileContent
known_content file = content_of (memory_bytes file.image)

-- what is known of the file of any path, as all are names of one
abbrev pub known_file_at : KnownFiles → List ℕ → PathFile
known_file_at files path = record { content = content_of (memory_bytes files.image); failures = files.failures }
