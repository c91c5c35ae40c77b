use Rattle.std.proofs.Common.{◌+◌, ◌≡◌, ◌≤◌, ◌++◌, false, drop, length}
use Rattle.std.specs.Fmt.{digits}
use Rattle.qcow2_session.proofs.lines.line_buffer.write_hex.Given as goal

abbrev pub invariant-loop-left : goal.invariant-loop-left
invariant-loop-left l =
    (length (digits 16 false l.left) ≤ l.start) × (l.start ≤ length l.bytes)
    × (l.start + length (digits 16 false l.number) ≡ l.end + length (digits 16 false l.left))
    × (digits 16 false l.left ++ drop l.start l.bytes ≡ digits 16 false l.number ++ drop l.end l.fn.bytes)

abbrev pub decreases-loop-left : goal.decreases-loop-left
decreases-loop-left l = l.left
