use Rattle.std.proofs.lemmas.Bool.Decides.{nat_tests}
use Rattle.std.proofs.Common.{◌≡◌, ◌⊎◌, ℕ, ◌*◌, ◌/◌, ◌^◌, ◌<◌, Result, Ok, arith}
use Rattle.std.proofs.Math.Nat.{div-mul-le_self}
use Rattle.qcow2_base.specs.Storage.{OnlyReads, ReadsFor, StorageState}
use Rattle.qcow2_base.specs.declared.fault.Fault.{Fault}
use Rattle.qcow2_base.specs.declared.fault.Fault.TheVariants.{NoMemory, Storage}

-- the cluster of an offset that fits 64 bits begins at one that does
pub cluster_fits : (offset cluster cb other : ℕ) → offset < 2 ^ 64 → cluster ≡ offset / 2 ^ cb → other ≡ cb → cluster * 2 ^ other < 2 ^ 64
cluster_fits offset cluster cb other fits is same =
    rw (is, same) (omega (arith, div-mul-le_self offset (2 ^ cb), fits))

-- reads one after the other, of which the first succeeded, are reads
pub reads-then : {A B : Type 0} (value : A) (answer : Result B Fault) (first second third : StorageState) →
    OnlyReads (Ok value) first second → OnlyReads answer second third → OnlyReads answer first third
reads-then value answer first second third one other = grind (arith, nat_tests)

-- reads that returned a value, and then calls that only read
pub reads-then_for : {A told : Type 0} (value : A) (first second third : StorageState) →
    OnlyReads (Ok value) first second → ReadsFor told second third → ReadsFor told first third
reads-then_for value first second third one other = grind (arith, nat_tests)

-- why a call is refused, where one reason leads to another
pub refused-as : {P Q : Type 0} (fault : Fault) → (P → Q) → (fault ≡ Storage) ⊎ (fault ≡ NoMemory) ⊎ P → (fault ≡ Storage) ⊎ (fault ≡ NoMemory) ⊎ Q
refused-as fault leads why = grind (arith, leads)
