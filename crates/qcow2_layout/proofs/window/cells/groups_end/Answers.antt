use Rattle.std.proofs.Common.{refl, rules, arith}
use Rattle.qcow2_layout.proofs.WindowLemmas.{group_further}
use Rattle.qcow2_layout.proofs.window.cells.groups_end.Goals as goal

pub loop-end-preserved : goal.loop-end-preserved
loop-end-preserved c =
    let so_far = c.loop-end.invariant in
    record {
      some = omega (arith, so_far.some);
      within = search rules;
      one = group_further c.args.cells.now c.args.index c.loop-end.end so_far.some so_far.one (c.if-goes_on.ensures refl);
    }
