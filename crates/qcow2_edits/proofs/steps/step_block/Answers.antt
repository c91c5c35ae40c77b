use Rattle.std.proofs.Common.{◌≡◌, ◌++◌, [], ◌∷◌, ◌∙◌, None, length, length-append, ap, sym, arith, rules}
use Rattle.qcow2_edits.proofs.StepsLemmas.{all_in_bounds, each_in_bounds, part_way-end, part_way-next, run-counts}
use Rattle.qcow2_edits.specs.Steps.{first_unfit_step}
use Rattle.qcow2_edits.proofs.steps.step_block.Goals as goal
use Rattle.qcow2_metadata.specs.Refblock.{BlockState}

pub make-requires : goal.make-requires
make-requires c = grind (arith, each_in_bounds, all_in_bounds)

pub loop-step-preserved : goal.loop-step-preserved
loop-step-preserved c =
    let items : c.push.new.self.items ≡ c.loop-step.replies.items ++ c.make.result ∷ [] = search rules in
    record {
      way = rw items (part_way-next c.args.steps.now c.loop-step.step-index _ c.args.block.now c.loop-step.block c.make.new.block
          c.make.result c.loop-step.replies.items c.loop-step-test.true c.loop-step.invariant.way c.make.ensures);
      room = rw items (omega (arith, length-append c.loop-step.replies.items (c.make.result ∷ []), c.push.ensures.capacity, c.loop-step.invariant.room, c.loop-step-test.true));
    }

pub returns-clause-counts : goal.returns-clause-counts
returns-clause-counts c =
    let none : first_unfit_step (length c.args.block.now.numbers) c.args.steps.now ≡ None = sym c.first_unfit.ensures ∙ c.in_default.is in
    let order = ap (λ (block : BlockState). block.geometry.refcount_order) c.loop-step.invariant.way.block in
    run-counts c.args.steps.now c.loop-step.replies.items c.args.block.now c.loop-step.block none order
    (part_way-end c.args.steps.now c.loop-step.step-index c.args.block.now c.loop-step.block c.loop-step.replies.items (omega arith) c.loop-step.invariant.way)
