-- What may be changed of a refcount block, and what does a step of a counter do?
use Rattle.std.specs.Prelude.{◌≡◌, ◌==◌, nat_le, MatchOption, Result, Ok, Err, ℕ, ◌+◌, ◌-◌, if◌then◌else◌, List, slice_index, slice_set, Option, Some, None}
use Rattle.std.specs.Borrow.{MutBor}
use Rattle.qcow2_metadata.specs.Placed.{with_number}
use Rattle.qcow2_metadata.specs.Refblock.{BlockState, greatest_counter}
use Rattle.qcow2_metadata.specs.declared.refblock.guard.RefBlockWriteGuard.{RefBlockWriteGuard}
use Rattle.qcow2_base.specs.declared.fault.Fault.{Fault}
use Rattle.qcow2_base.specs.declared.fault.Fault.TheVariants.{CounterRange}

-- the block that a guard has permission to change
abbrev pub guarded_block : RefBlockWriteGuard → BlockState
guarded_block guard = guard.block.now

-- two guards of one block
abbrev pub IsSameBlock : RefBlockWriteGuard → RefBlockWriteGuard → Type 0
IsSameBlock old new = new.block.ghost_name ≡ old.block.ghost_name

-- a guard that begins with a block as it is lent, and ends with what the block is afterwards
pub record IsBlockGuard (lent : MutBor BlockState) (guard : RefBlockWriteGuard) : Type 0 where
  pub block : guarded_block guard ≡ lent.now
  pub same : guard.block.ghost_name ≡ lent.ghost_name

-- a change of a counter: one more reference, or one less
pub data CounterChange : Type 0 where
  Increment : CounterChange
  Decrement : CounterChange

-- the counter after a change, where that can be made
abbrev pub counter_after : ℕ → CounterChange → ℕ → Option ℕ
counter_after order Increment counter = if counter == greatest_counter order then None else Some (counter + 1)
counter_after order Decrement counter = if counter == 0 then None else Some (counter - 1)

-- the counters after a change of the one at an index, which became this if the change was made
abbrev pub after_change : List ℕ → ℕ → Option ℕ → List ℕ
after_change counters index None = counters
after_change counters index (Some counter) = slice_set counters index counter

-- this number as a counter, where one of the order holds it
abbrev pub as_counter : ℕ → ℕ → Option ℕ
as_counter order number = if nat_le number (greatest_counter order) then Some number else None

-- a change of the counter at an index to this one, which returned the number before it. Or there is none to change it to:
-- it was refused and changed nothing
pub record Changes (index : ℕ) (after : Option ℕ) (answer : Result ℕ Fault) (old new : BlockState) : Type 0 where
  pub answers : MatchOption after (answer ≡ Err CounterRange) (λ _. answer ≡ Ok (slice_index old.numbers index))
  pub block : MatchOption after (new ≡ old) (λ counter. new ≡ with_number old index counter)

-- a step of the counter at an index
abbrev pub Steps : CounterChange → ℕ → Result ℕ Fault → BlockState → BlockState → Type 0
Steps change index answer old new =
    Changes index (counter_after old.geometry.refcount_order change (slice_index old.numbers index)) answer old new
