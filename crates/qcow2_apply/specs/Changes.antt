-- How often does each cluster gain and lose a reference?
use Rattle.std.specs.Prelude.{◌≡◌, ℕ, ◌+◌, ◌/◌, ◌^◌, ◌≤◌, List, Option, Some, None}
use Rattle.std.specs.BTreeMap.{get}
use Rattle.std.specs.Ordering.{nat_cmp}
use Rattle.qcow2_edits.specs.Edits.{cluster_numbers}
use Rattle.qcow2_edits.specs.declared.edits.Outcome.{Outcome}
use Rattle.std.specs.List.{Any}
use Rattle.qcow2_metadata.specs.Table.L2Guards.{handed_back, times_gained}
use Rattle.qcow2_metadata.specs.declared.entries.ClustersToFreeEntry.{ClustersToFreeEntry}
use Rattle.qcow2_apply.specs.declared.changes.Changes.{Changes}

-- how often cluster c gains a reference by an outcome, if there is one
abbrev pub gained_by : Option Outcome → ℕ → ℕ
gained_by None c = 0
gained_by (Some outcome) c = times_gained (cluster_numbers outcome.gained.items) c

-- how often it loses one
abbrev pub lost_by : Option Outcome → ℕ → ℕ
lost_by None c = 0
lost_by (Some outcome) c = handed_back outcome.freed.items c

-- how often a cluster gains a reference by changes
abbrev pub gains_of : Changes → ℕ → ℕ
gains_of changes c = gained_by (get nat_cmp changes.blocks (c / 2 ^ changes.rb_bits)) c

-- how often it loses one
abbrev pub losses_of : Changes → ℕ → ℕ
losses_of changes c = lost_by (get nat_cmp changes.blocks (c / 2 ^ changes.rb_bits)) c

-- clusters gained and lost more references
pub record AddsChanges (gains losses : ℕ → ℕ) (old new : Changes) : Type 0 where
  pub bits : new.rb_bits ≡ old.rb_bits
  pub gained_is : (c : ℕ) → gains_of new c ≡ gains_of old c + gains c
  pub lost_is : (c : ℕ) → losses_of new c ≡ losses_of old c + losses c

-- no cluster gained or lost a reference
abbrev pub HasNone : Changes → Type 0
HasNone changes = (c : ℕ) → (gains_of changes c ≡ 0) × (losses_of changes c ≡ 0)

-- the block at an index of the refcount table counts cluster c
abbrev pub IsOfBlock : Changes → ℕ → ℕ → Type 0
IsOfBlock changes index c = c / 2 ^ changes.rb_bits ≡ index

-- the clusters of the block at an index gained and lost references by this outcome, or none
abbrev pub IsOutcomeOf : Changes → ℕ → Option Outcome → Type 0
IsOutcomeOf changes index outcome = (c : ℕ) → IsOfBlock changes index c →
    (gains_of changes c ≡ gained_by outcome c) × (losses_of changes c ≡ lost_by outcome c)

-- all other clusters gained and lost what they did
pub record KeepsOthers (index : ℕ) (old new : Changes) : Type 0 where
  pub bits : new.rb_bits ≡ old.rb_bits
  pub gained_is : (c : ℕ) → (IsOfBlock old index c → ⊥) → gains_of new c ≡ gains_of old c
  pub lost_is : (c : ℕ) → (IsOfBlock old index c → ⊥) → losses_of new c ≡ losses_of old c

-- the outcome of a block was taken out, or put in
pub record TakesOutcome (index : ℕ) (outcome : Outcome) (old new : Changes) : Type 0 where
  pub taken : IsOutcomeOf old index (Some outcome)
  pub others : KeepsOthers index old new

pub record PutsOutcome (index : ℕ) (outcome : Outcome) (old new : Changes) : Type 0 where
  pub put : IsOutcomeOf new index (Some outcome)
  pub others : KeepsOthers index old new

-- clusters end where 64 bits don't count them
abbrev pub EndsLate : ClustersToFreeEntry → Type 0
EndsLate clusters = 2 ^ 64 ≤ clusters.first.0 + clusters.count.0

-- some of a list do
abbrev pub SomeEndsLate : List ClustersToFreeEntry → Type 0
SomeEndsLate list = Any EndsLate list
