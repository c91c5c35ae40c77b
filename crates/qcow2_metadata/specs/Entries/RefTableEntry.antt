-- Which numbers are entries of a refcount table?
use Rattle.std.specs.Prelude.{ℕ, not, ◌==◌, ◌%◌, ◌^◌, Option}
use Rattle.qcow2_base.specs.Bits.{field}
use Rattle.qcow2_base.specs.declared.fault.Fault.{Fault}
use Rattle.qcow2_metadata.specs.Entries.{entry_fault}

-- the fault of a number that is no refcount table entry, if it has one: bits 0 to 8 are reserved
abbrev pub ref_fault : ℕ → ℕ → Option Fault
ref_fault cb v = entry_fault (not (field v 0 9 == 0)) (not (v % 2 ^ cb == 0))
