use Rattle.std.proofs.Common.{◌≡◌, drop, map}
use Rattle.qcow2_metadata.specs.Header.EncryptionHeader.{encryption_by}
use Rattle.qcow2_metadata.specs.Header.Extensions.{extension_of}
use Rattle.qcow2_metadata.proofs.header.encryption_header.encryption_clusters.Given as goal

-- no extension so far is of the type
abbrev pub invariant-loop-index : goal.invariant-loop-index
invariant-loop-index l =
    encryption_by l.cluster_bits (map extension_of l.extensions) ≡ encryption_by l.cluster_bits (map extension_of (drop l.index l.extensions))
