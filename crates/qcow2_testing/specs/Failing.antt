-- What does a storage do that fails at a planned call?
use Rattle.std.specs.Prelude.{◌≡◌, ℕ, zero, suc, [], ◌∷◌, ◌++◌, Option, None, Some, Result, IsErr, OnOk}
use Rattle.qcow2_testing.specs.declared.failing.FailingStorage.{FailingStorage}
use Rattle.qcow2_base.specs.Storage.{StorageState}
use Rattle.qcow2_testing.specs.declared.failing.StorageCall.{StorageCall}

-- what it says as a storage: the same as the other, but for its own count of failures
abbrev pub seen_as : {S : Type 0} → (S → StorageState) → FailingStorage S → StorageState
seen_as state storage = record (state storage.inner) { failures = storage.failures }

-- the plan after one more call
abbrev pub plan_after : Option ℕ → Option ℕ
plan_after None = None
plan_after (Some zero) = None
plan_after (Some (suc passes)) = Some passes

-- a call that ended in this answer: it moves the plan on, fails where that was planned, and then leaves
-- the other storage; where it passes it is recorded
pub record FollowsPlan {S T E : Type 0} (answer : Result T E) (call : StorageCall) (old new : FailingStorage S) : Type 0 where
  pub plan : new.plan ≡ plan_after old.plan
  pub planned : old.plan ≡ Some 0 → IsErr answer × (new.inner ≡ old.inner)
  pub recorded : OnOk answer (new.calls.items ≡ old.calls.items ++ call ∷ [])
