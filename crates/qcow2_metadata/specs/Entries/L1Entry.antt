-- Which numbers are entries of an L1 table, and which one refers to an L2 table?
use Rattle.std.specs.Prelude.{ℕ, not, ◌==◌, ◌+◌, ◌*◌, ◌%◌, ◌^◌, Option}
use Rattle.qcow2_base.specs.Bits.{field}
use Rattle.qcow2_base.specs.declared.fault.Fault.{Fault}
use Rattle.qcow2_metadata.specs.Entries.{entry_fault, offset_field}

-- the bits that are reserved in an L1 entry, 0 to 8 and 56 to 62, at their places
abbrev pub l1_reserved_bits : ℕ → ℕ
l1_reserved_bits v = field v 0 9 + field v 56 7 * 2 ^ 56

-- the fault of a number that is no L1 entry, if it has one
abbrev pub l1_fault : ℕ → ℕ → Option Fault
l1_fault cb v = entry_fault (not (l1_reserved_bits v == 0)) (not (offset_field v % 2 ^ cb == 0))
