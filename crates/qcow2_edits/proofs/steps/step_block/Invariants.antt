use Rattle.std.proofs.Common.{◌+◌, ◌-◌, ◌≤◌, length}
use Rattle.std.specs.Vec.{vec_capacity}
use Rattle.qcow2_edits.proofs.StepsLemmas.{IsPartWay}
use Rattle.qcow2_edits.proofs.steps.step_block.Given as goal

-- the steps before this one are made, and there is room for the replies to the others
abbrev pub invariant-loop-step : goal.invariant-loop-step
invariant-loop-step l = record {
  way : IsPartWay l.steps l.step-index l.initial.block l.block l.replies.items;
  room : length l.replies.items + (length l.steps - l.step-index) ≤ vec_capacity l.replies;
}
