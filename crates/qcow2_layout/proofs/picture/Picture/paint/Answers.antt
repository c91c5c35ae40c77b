use Rattle.std.proofs.Common.{arith, rules}
use Rattle.qcow2_layout.proofs.picture.Picture.paint.Goals as goal

pub loop-self-preserved : goal.loop-self-preserved
loop-self-preserved c =
    let kept = c.loop-self.invariant in
    record {
      painted = λ shades shown has. c.paint_square.ensures.painted shades (kept.painted shades shown has) (rw kept.size has);
      begun = omega (arith, kept.begun, c.paint_square.ensures.further.0);
      within = c.paint_square.ensures.further.1;
      size = search rules;
    }
