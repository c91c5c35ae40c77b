use Rattle.std.proofs.Common.{◌≡◌, ◌↔◌, IsTrue, None, take}
use Rattle.qcow2_metadata.specs.Table.{chunk_numbers, first_fault}
use Rattle.qcow2_metadata.proofs.table.pieces.are_lawful.Given as goal

-- whether the numbers so far are all entries
abbrev pub invariant-loop-chunk : goal.invariant-loop-chunk
invariant-loop-chunk g l =
    IsTrue l.lawful ↔ (first_fault (g.E.TableEntry.fault_of l.header.v2.cluster_bits) (chunk_numbers (take l.chunk-index l.chunks)) ≡ None)
