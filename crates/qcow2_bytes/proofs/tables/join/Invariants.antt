use Rattle.std.proofs.Common.{◌-◌, length}
use Rattle.qcow2_metadata.specs.Header.{geometry}
use Rattle.qcow2_bytes.proofs.TablesLemmas.{JoinsSoFar}
use Rattle.qcow2_bytes.proofs.tables.join.Given as goal

-- the first places have the extents of the entries before this one
abbrev pub invariant-loop-index : goal.invariant-loop-index
invariant-loop-index l =
    JoinsSoFar (geometry l.cluster_bits l.external) l.first_guest_offset l.bytes l.initial.extents l.extents l.count l.index

-- what is left up to the last entry
abbrev pub decreases-loop-index : goal.decreases-loop-index
decreases-loop-index l = length l.bytes - l.index
