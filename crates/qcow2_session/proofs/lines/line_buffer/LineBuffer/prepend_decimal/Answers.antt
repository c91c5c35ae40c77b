use Rattle.std.proofs.Common.{ap, drop, length, arith, length-append, length-drop}
use Rattle.std.specs.Fmt.{decimal}
use Rattle.std.proofs.lemmas.Fmt.{length-decimal-le}
use Rattle.qcow2_session.proofs.lines.line_buffer.LineBuffer.prepend_decimal.Goals as goal

pub write_digits-self-inside-requires : goal.write_digits-self-inside-requires
write_digits-self-inside-requires c =
    let short = length-decimal-le 20 c.args.number (omega arith) (omega (arith, c.ranges.number.fits)) c.ranges.number.fits in
    let left = length-drop c.self.inside.start c.self.inside.bytes in
    (omega (arith, short, left, ap length c.self.view_is, c.requires, c.self.invariant), omega (arith, c.self.invariant))

pub returns-clause-bound : goal.returns-clause-bound
returns-clause-bound c =
    let short = length-decimal-le 20 c.args.number (omega arith) (omega (arith, c.ranges.number.fits)) c.ranges.number.fits in
    let joined = length-append (decimal c.args.number) (drop c.self.inside.start c.self.inside.bytes) in
    omega (arith, short, joined, ap length c.write_digits-self-inside.ensures.written, ap length c.self.view_is)
