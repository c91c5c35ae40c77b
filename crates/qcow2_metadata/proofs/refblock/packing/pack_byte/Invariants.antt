use Rattle.std.proofs.Common.{◌≡◌, ◌*◌, ◌^◌, ◌<◌, take}
use Rattle.qcow2_metadata.specs.Refblock.Packing.{from_digits, width}
use Rattle.qcow2_metadata.proofs.refblock.packing.pack_byte.Given as goal

-- the counters so far are in the byte's lowest bits
abbrev pub invariant-loop-index : goal.invariant-loop-index
invariant-loop-index g l = record {
  byte : l.byte ≡ from_digits (2 ^ width g.row.ORDER) (take l.index l.counters);
  small : l.byte < 2 ^ (width g.row.ORDER * l.index);
}
