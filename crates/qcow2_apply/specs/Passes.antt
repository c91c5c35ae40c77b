-- What does a pass over tables or blocks of an image change, each of which fills one cluster?
use Rattle.std.specs.Prelude.{◌≡◌, ◌≢◌, ◌⊎◌, ℕ, ◌*◌, ◌/◌, ◌^◌, ◌<◌, ◌≤◌, List, Option, Some}
use Rattle.qcow2_base.specs.Storage.{Image, SameOutside}
use Rattle.qcow2_base.specs.declared.fault.Fault.{Fault}
use Rattle.qcow2_base.specs.declared.types.HostCluster.{HostCluster}
use Rattle.qcow2_check.specs.Failures.{TearsAtMost}

-- tables or blocks that entries at indices name: the cluster of each, if there is one, and the numbers that are read there
pub record Places : Type 0 where
  pub cluster_bits : ℕ
  pub place : ℕ → Option HostCluster
  pub numbers : HostCluster → Image → List ℕ

-- no two entries name one of them
abbrev pub ArePlacesApart : Places → Type 0
ArePlacesApart places = (i j : ℕ) (cluster : HostCluster) → places.place i ≡ Some cluster → places.place j ≡ Some cluster → i ≡ j

-- the byte at an offset is in none of them
abbrev pub IsOutside : Places → ℕ → Type 0
IsOutside places o = (i : ℕ) (cluster : HostCluster) → places.place i ≡ Some cluster → o / 2 ^ places.cluster_bits ≢ cluster.0

-- no byte outside them changed
abbrev pub KeepsOutside : Places → Image → Image → Type 0
KeepsOutside places old new = (o : ℕ) → IsOutside places o → new o ≡ old o

-- a step of a pass changes the numbers of the table at an index; those of all others stay, and all other bytes
pub record StepsAt (places : Places) (Step : ℕ → List ℕ → List ℕ → Type 0) (index : ℕ) (old new : Image) : Type 0 where
  pub changed : (cluster : HostCluster) → places.place index ≡ Some cluster → Step index (places.numbers cluster old) (places.numbers cluster new)
  pub elsewhere : (i : ℕ) (cluster : HostCluster) → i ≢ index → places.place i ≡ Some cluster → places.numbers cluster new ≡ places.numbers cluster old
  pub others : (o : ℕ) → IsOutside places o → new o ≡ old o

-- a pass over those before an index
pub record PassesBefore (places : Places) (Step : ℕ → List ℕ → List ℕ → Type 0) (index : ℕ) (old new : Image) : Type 0 where
  pub changed : (i : ℕ) (cluster : HostCluster) → i < index → places.place i ≡ Some cluster → Step i (places.numbers cluster old) (places.numbers cluster new)
  pub after : (i : ℕ) (cluster : HostCluster) → index ≤ i → places.place i ≡ Some cluster → places.numbers cluster new ≡ places.numbers cluster old
  pub others : (o : ℕ) → IsOutside places o → new o ≡ old o

-- a pass over all of them
pub record Passes (places : Places) (Step : ℕ → List ℕ → List ℕ → Type 0) (old new : Image) : Type 0 where
  pub changed : (i : ℕ) (cluster : HostCluster) → places.place i ≡ Some cluster → Step i (places.numbers cluster old) (places.numbers cluster new)
  pub others : (o : ℕ) → IsOutside places o → new o ≡ old o

-- a part of it: the numbers of each are as they were, or the pass changed them
pub record PassesSome (places : Places) (Step : ℕ → List ℕ → List ℕ → Type 0) (old new : Image) : Type 0 where
  pub each : (i : ℕ) (cluster : HostCluster) → places.place i ≡ Some cluster →
      (places.numbers cluster new ≡ places.numbers cluster old) ⊎ Step i (places.numbers cluster old) (places.numbers cluster new)
  pub others : (o : ℕ) → IsOutside places o → new o ≡ old o

-- a write of one of them was torn: no byte outside it changed
abbrev pub TearsOne : Places → Image → Image → Type 0
TearsOne places old new = let size = 2 ^ places.cluster_bits in
    (i : ℕ) × (cluster : HostCluster) × (places.place i ≡ Some cluster) × SameOutside (cluster.0 * size) size old new

-- a pass ended in this fault before its time: a part of it was done, and after that one write was torn at most
abbrev pub PassBreaksOff : Places → (ℕ → List ℕ → List ℕ → Type 0) → Fault → Image → Image → Type 0
PassBreaksOff places Step fault old new = (mid : Image) × PassesSome places Step old mid × TearsAtMost fault (TearsOne places) mid new
