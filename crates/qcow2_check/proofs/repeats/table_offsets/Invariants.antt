use Rattle.std.proofs.Common.{◌≡◌, ◌≤◌, length, take}
use Rattle.qcow2_check.proofs.repeats.table_offsets.Given as goal

-- the offsets of the entries before this one are there
abbrev pub invariant-loop-index : goal.invariant-loop-index
invariant-loop-index g l =
    let names = g.T.NamesOffsets.names l.table in
    record {
      offsets : l.offsets.items ≡ take l.index names;
      within : l.index ≤ length names;
    }
