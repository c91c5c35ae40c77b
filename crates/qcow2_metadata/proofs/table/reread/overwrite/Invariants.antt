use Rattle.std.proofs.Common.{◌≡◌, ◌+◌, ◌++◌, None, length, map, take}
use Rattle.qcow2_metadata.specs.Table.{chunk_numbers, first_fault}
use Rattle.qcow2_metadata.proofs.table.reread.overwrite.Given as goal

-- the entries so far are in their places
abbrev pub invariant-loop-index : goal.invariant-loop-index
invariant-loop-index g l =
    let fault = g.E.TableEntry.fault_of l.header.v2.cluster_bits in
    let old = map g.E.TableEntry.plain l.initial.entries in
    let new = map g.E.TableEntry.plain l.entries in
    record {
      numbers : take (l.first + l.index) new ≡ take l.first old ++ chunk_numbers (take l.index l.chunks);
      valid : first_fault fault old ≡ None → first_fault fault new ≡ None;
      count : length l.entries ≡ length l.initial.entries;
    }
