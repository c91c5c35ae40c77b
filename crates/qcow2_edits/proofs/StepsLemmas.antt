use Rattle.std.proofs.Common.{◌≡◌, ℕ, suc, Bool, true, false, ◌&&◌, ◌||◌, ◌==◌, nat_lt, ◌+◌, ◌-◌, ◌<◌, ◌≤◌, if◌then◌else◌, Option, Some, None, List, [], ◌∷◌, ◌++◌, length, drop, get_or, get_or-set_same, get_or-set_other, slice_get, slice_index, append_assoc, append-nil, ap, refl, ◌∙◌, arith}
use Rattle.std.proofs.Math.Bool.{or_assoc}
use Rattle.std.proofs.Math.Seq.{drop-cons}
use Rattle.std.proofs.lemmas.Bool.Decides.{nat_tests}
use Rattle.std.proofs.lemmas.List.{drop_all, length-set, set-get_or, set-set}
use Rattle.std.proofs.lemmas.List.Sums.{AllPass-from_list_all}
use Rattle.std.specs.List.{list_all}
use Rattle.qcow2_edits.proofs.EditsLemmas.{all_pass}
use Rattle.qcow2_edits.specs.Steps.{Counts, MakesStep, StepsEnd, are_some_done, change_of, steps_left, first_unfit_step, index_of, is_step, is_done, block_left, reply_of, run_of_steps, times_made}
use Rattle.qcow2_edits.specs.declared.steps.Step.{Step}
use Rattle.qcow2_edits.specs.declared.steps.StepReply.{StepReply}
use Rattle.qcow2_edits.specs.declared.steps.StepReply.TheVariants.{Done}
use Rattle.qcow2_metadata.specs.Refblock.{BlockState, greatest_counter}
use Rattle.qcow2_metadata.specs.Refblock.Guard.{Decrement, Increment, after_change, counter_after}

-- what came of steps before, and then what a run left
abbrev pub joined : List StepReply → StepsEnd → StepsEnd
joined replies rest = record { counters = rest.counters; replies = replies ++ rest.replies }

-- that many of the steps are made, and those that are left lead from the block as it is to the end of all
pub record IsPartWay (steps : List Step) (made : ℕ) (before now : BlockState) (replies : List StepReply) : Type 0 where
  pub run : joined replies (run_of_steps before.geometry.refcount_order (drop made steps) now.numbers)
      ≡ run_of_steps before.geometry.refcount_order steps before.numbers
  pub block : now ≡ block_left replies before now.numbers
  pub entries : length now.numbers ≡ length before.numbers

length-after_change : (counters : List ℕ) (index : ℕ) (after : Option ℕ) → length (after_change counters index after) ≡ length counters
length-after_change counters index after = grind (arith, length-set {A = ℕ})

done-more : (replies : List StepReply) (reply : StepReply) → are_some_done (replies ++ reply ∷ []) ≡ (are_some_done (reply ∷ []) || are_some_done replies)
done-more [] reply = grind arith
done-more (first ∷ replies) reply = grind (arith, done-more replies reply)

-- one more step is made
pub part_way-next : (steps : List Step) (made : ℕ) (default : Step) (before now next : BlockState) (reply : StepReply) (replies : List StepReply) → made < length steps → IsPartWay steps made before now replies → MakesStep (get_or steps made default) reply now next → IsPartWay steps (made + 1) before next (replies ++ reply ∷ [])
part_way-next steps made default before now next reply replies below way makes =
    let step : Step = get_or steps made default in
    let one_more : made + 1 ≡ suc made = omega arith in
    let order : now.geometry.refcount_order ≡ before.geometry.refcount_order = ap (λ (block : BlockState). block.geometry.refcount_order) way.block in
    let left : drop made steps ≡ get_or steps made default ∷ drop (suc made) steps = drop-cons steps made default below in
    let after = counter_after now.geometry.refcount_order (change_of step) (slice_index now.numbers (index_of step)) in
    let changed : next.numbers ≡ after_change now.numbers (index_of step) after = ap (λ (block : BlockState). block.numbers) makes.block in
    let run : joined replies (run_of_steps before.geometry.refcount_order (step ∷ drop (suc made) steps) now.numbers) ≡ run_of_steps before.geometry.refcount_order steps before.numbers = rw left at way.run in
    record {
      run = rw (append_assoc replies (reply ∷ []), changed, makes.replies, order, one_more) run;
      block = grind (arith, makes.block, way.block, done-more, or_assoc);
      entries = ap length changed ∙ length-after_change now.numbers (index_of step) _ ∙ way.entries;
    }

-- all steps are made
pub part_way-end : (steps : List Step) (made : ℕ) (before now : BlockState) (replies : List StepReply) → length steps ≤ made → IsPartWay steps made before now replies → steps_left now replies ≡ run_of_steps before.geometry.refcount_order steps before.numbers
part_way-end steps made before now replies all way = grind (arith, drop_all, append-nil, way.run)

-- where no index is the first out of bounds, all are in bounds
abbrev in_bounds : ℕ → Step → Bool
in_bounds entries step = nat_lt (index_of step) entries

pub all_in_bounds : (entries : ℕ) (steps : List Step) → first_unfit_step entries steps ≡ None → list_all (in_bounds entries) steps ≡ true
all_in_bounds entries steps none = all_pass (in_bounds entries) steps none

-- and so is each of them
pub each_in_bounds : (entries : ℕ) (steps : List Step) (i : ℕ) (default : Step) → list_all (in_bounds entries) steps ≡ true → i < length steps → index_of (get_or steps i default) < entries
each_in_bounds entries steps i default all below =
    grind (arith, nat_tests, AllPass-from_list_all (in_bounds entries) steps all i default below)

-- what a step does to each counter
counted : (order : ℕ) (step : Step) (counters : List ℕ) (index : ℕ) → index_of step < length counters → let before = slice_index counters (index_of step) in let after = counter_after order (change_of step) before in slice_index (after_change counters (index_of step) after) index + (if is_step Decrement index step && is_done (reply_of after before) then 1 else 0) ≡ slice_index counters index + (if is_step Increment index step && is_done (reply_of after before) then 1 else 0)
counted order step counters index below = grind (arith, nat_tests, get_or-set_same {A = ℕ}, get_or-set_other {A = ℕ})

-- each counter after a run is as before it, plus the increments that were made, minus the decrements
pub run_counts : (order : ℕ) (steps : List Step) (counters : List ℕ) (index : ℕ) → list_all (in_bounds (length counters)) steps ≡ true → slice_index (run_of_steps order steps counters).counters index + times_made (is_step Decrement index) steps (run_of_steps order steps counters).replies ≡ slice_index counters index + times_made (is_step Increment index) steps (run_of_steps order steps counters).replies
run_counts order [] counters index all = refl
run_counts order (step ∷ steps) counters index all =
    let before = slice_index counters (index_of step) in
    let after = counter_after order (change_of step) before in
    let rest = run_counts order steps (after_change counters (index_of step) after) index in
    grind (arith, nat_tests, all, counted order step counters index, length-after_change counters (index_of step) after, rest)

-- an increment that was made, as the first reply says, is undone by a decrement right after it
undone_first : (counters : List ℕ) (i before : ℕ) (full : Bool) → i < length counters →
    let first : Option ℕ = if full then None else Some (slice_index counters i + 1) in
    let between = after_change counters i first in
    let second : Option ℕ = if slice_index between i == 0 then None else Some (slice_index between i - 1) in
    let end : StepsEnd = record { counters = after_change between i second; replies = reply_of first (slice_index counters i) ∷ reply_of second (slice_index between i) ∷ [] } in
    slice_get end.replies 0 ≡ Some (Done before) → end ≡ record { counters = counters; replies = Done before ∷ Done (before + 1) ∷ [] }
undone_first counters i before true below made = cc
undone_first counters i before false below made =
    grind (arith, nat_tests, get_or-set_same {A = ℕ}, set-set {A = ℕ}, set-get_or {A = ℕ})

-- a block that a run led to
pub run-counts : (steps : List Step) (replies : List StepReply) (old new : BlockState) → first_unfit_step (length old.numbers) steps ≡ None → new.geometry.refcount_order ≡ old.geometry.refcount_order → steps_left new replies ≡ run_of_steps old.geometry.refcount_order steps old.numbers → Counts steps replies old new
run-counts steps replies old new none order run =
    let all = all_in_bounds (length old.numbers) steps none in
    record {
      balance = λ index. grind (arith, run, run_counts old.geometry.refcount_order steps old.numbers index all);
      undone = λ index before is made.
          let is_full = slice_index old.numbers index == greatest_counter old.geometry.refcount_order in
          grind (arith, nat_tests, is, made, undone_first old.numbers index before is_full);
    }

-- blocks of the same counters
pub counts-same : (steps : List Step) (replies : List StepReply) (old new before after : BlockState) → Counts steps replies old new → before.numbers ≡ old.numbers → after.numbers ≡ new.numbers → before.geometry.refcount_order ≡ old.geometry.refcount_order → after.geometry.refcount_order ≡ new.geometry.refcount_order → Counts steps replies before after
counts-same steps replies old new before after counts same_old same_new order_old order_new =
    grind (arith, nat_tests)

-- where no step is made, the counters stay
pub run-idle : (order : ℕ) (steps : List Step) (counters : List ℕ) → are_some_done (run_of_steps order steps counters).replies ≡ false → (run_of_steps order steps counters).counters ≡ counters
run-idle order [] counters idle = refl
run-idle order (step ∷ steps) counters idle = grind (arith, nat_tests, idle, run-idle order steps counters)

-- and so do those of a block that isn't modified
pub block-idle : (steps : List Step) (replies : List StepReply) (old new : BlockState) → steps_left new replies ≡ run_of_steps old.geometry.refcount_order steps old.numbers → new ≡ block_left replies old new.numbers → new.modified ≡ false → new.numbers ≡ old.numbers
block-idle steps replies old new run left unmodified = grind (arith, nat_tests, run-idle)
