-- What do steps leave of a refcount block's counters, and what comes of each?
use Rattle.std.specs.Prelude.{◌≡◌, ℕ, Bool, true, false, not, ◌+◌, ◌||◌, ◌&&◌, ◌==◌, nat_lt, slice_get, slice_index, List, [], ◌∷◌, length, Option, Some, None, option_map, Result, Ok, if◌then◌else◌}
use Rattle.std.specs.List.{position}
use Rattle.qcow2_base.specs.declared.fault.Fault.{Fault}
use Rattle.qcow2_base.specs.declared.fault.Fault.TheVariants.{BadStep}
use Rattle.qcow2_edits.specs.declared.steps.Step.{Step}
use Rattle.qcow2_edits.specs.declared.steps.Step.TheVariants.{Dec, Inc}
use Rattle.qcow2_edits.specs.declared.steps.StepReply.{StepReply}
use Rattle.qcow2_edits.specs.declared.steps.StepReply.TheVariants.{Done, Refused}
use Rattle.qcow2_metadata.specs.Results.{unless_refused}
use Rattle.qcow2_metadata.specs.Refblock.{BlockState}
use Rattle.qcow2_metadata.specs.Refblock.Guard.{Decrement, Increment, CounterChange, after_change, counter_after}
use Rattle.qcow2_metadata.specs.Refblock.Packing.{counter_bytes}

-- the index of a step's counter
abbrev pub index_of : Step → ℕ
index_of (Inc index) = index
index_of (Dec index) = index

-- the change of a counter that a step is
abbrev pub change_of : Step → CounterChange
change_of (Inc index) = Increment
change_of (Dec index) = Decrement

-- what comes of a step: the number before it, or a refusal
abbrev pub reply_of : Option ℕ → ℕ → StepReply
reply_of None before = Refused
reply_of (Some after) before = Done before

-- the position of the first step whose index is past the end of a block with that many counters, if there is one
abbrev pub first_unfit_step : ℕ → List Step → Option ℕ
first_unfit_step entries steps = position (λ step. not (nat_lt (index_of step) entries)) steps

-- what steps leave: the block's counters, and in order what came of each
pub record StepsEnd : Type 0 where
  pub counters : List ℕ
  pub replies : List StepReply

-- what steps leave of counters, one after the other
abbrev pub run_of_steps : ℕ → List Step → List ℕ → StepsEnd
run_of_steps order [] counters = record { counters = counters; replies = [] }
run_of_steps order (step ∷ steps) counters =
    let before = slice_index counters (index_of step) in
    let after = counter_after order (change_of step) before in
    let rest = run_of_steps order steps (after_change counters (index_of step) after) in
    record { counters = rest.counters; replies = reply_of after before ∷ rest.replies }

-- what steps leave of the block, or the refusal of the first whose index is past its end
abbrev pub steps_or_refusal : BlockState → List Step → Result StepsEnd Fault
steps_or_refusal block steps = unless_refused (option_map BadStep (first_unfit_step (length block.numbers) steps))
    (Ok (run_of_steps block.geometry.refcount_order steps block.numbers))

-- what a block and the replies to its steps say that they left
abbrev pub steps_left : BlockState → List StepReply → StepsEnd
steps_left block replies = record { counters = block.numbers; replies = replies }

-- whether the step was made
abbrev pub is_done : StepReply → Bool
is_done (Done before) = true
is_done Refused = false

-- whether one of the steps was made
abbrev pub are_some_done : List StepReply → Bool
are_some_done [] = false
are_some_done (reply ∷ replies) = is_done reply || are_some_done replies

-- the block with the counters that steps left; it counts as modified if one of them was made
abbrev pub block_left : List StepReply → BlockState → List ℕ → BlockState
block_left replies block counters = record block { numbers = counters; modified = are_some_done replies || block.modified }

-- a step of the block that this came of
pub record MakesStep (step : Step) (reply : StepReply) (old new : BlockState) : Type 0 where
  pub replies : reply ≡ reply_of (counter_after old.geometry.refcount_order (change_of step) (slice_index old.numbers (index_of step)))
      (slice_index old.numbers (index_of step))
  pub block : new ≡ block_left (reply ∷ []) old (after_change old.numbers (index_of step)
      (counter_after old.geometry.refcount_order (change_of step) (slice_index old.numbers (index_of step))))

-- how many of the steps that were made are of this kind, of the counter at an index
abbrev pub times_made : (Step → Bool) → List Step → List StepReply → ℕ
times_made is_one (step ∷ steps) (reply ∷ replies) = (if is_one step && is_done reply then 1 else 0) + times_made is_one steps replies
times_made is_one _ _ = 0

-- whether a step is that change of the counter at an index
abbrev pub is_step : CounterChange → ℕ → Step → Bool
is_step Increment at (Inc index) = index == at
is_step Decrement at (Dec index) = index == at
is_step _ at _ = false

-- what steps of a block, of which these replies came, do to its counters. Each is as before, plus the increments that
-- were made, minus the decrements that were. Where a decrement comes right after an increment that was made, it was made
-- too, and the block takes the same bytes in an image as before
pub record Counts (steps : List Step) (replies : List StepReply) (old new : BlockState) : Type 0 where
  pub balance : (index : ℕ) →
      slice_index new.numbers index + times_made (is_step Decrement index) steps replies
      ≡ slice_index old.numbers index + times_made (is_step Increment index) steps replies
  pub undone : (index before : ℕ) → steps ≡ Inc index ∷ Dec index ∷ [] → slice_get replies 0 ≡ Some (Done before) →
      (replies ≡ Done before ∷ Done (before + 1) ∷ [])
      × (counter_bytes new.geometry.refcount_order new.numbers ≡ counter_bytes old.geometry.refcount_order old.numbers)
