use Rattle.std.proofs.Common.{◌≡◌, ◌⊎◌, Result, Ok, Err, arith}
use Rattle.std.proofs.lemmas.Bool.Decides.{nat_tests}
use Rattle.qcow2_base.specs.Storage.{OnlyReads, StorageState}
use Rattle.qcow2_base.specs.declared.fault.Fault.{Fault}
use Rattle.qcow2_base.specs.declared.fault.Fault.TheVariants.{NoMemory, Storage}
use Rattle.qcow2_check.specs.Failures.{RefusesAs}

-- calls that only read and didn't fail leave a storage as it was
pub unmoved : {T : Type 0} (value : T) (old new : StorageState) → OnlyReads (Ok value) old new → new ≡ old
unmoved value old new reads =
    let failures : new.failures ≡ old.failures = grind (arith, nat_tests, reads.told) in
    grind (arith, reads.device, reads.bytes, reads.len, failures)

-- where reads mean a refusal, they ended in that, unless their fault came from outside
pub refuses-as : (T : Type 0) {V : Type 0} (meaning : Result V Fault) (fault : Fault) → (fault ≡ Storage) ⊎ (fault ≡ NoMemory) ⊎ (meaning ≡ Err fault)
    → RefusesAs {T = T} meaning (Err fault)
refuses-as T (Ok value) fault ends = tt
refuses-as T (Err refusal) fault ends = grind (arith, ends)

-- what isn't refused is refused by no later answer
pub refuses-no-more : {T U V : Type 0} (meaning : Result V Fault) (value : T) (later : Result U Fault) → RefusesAs meaning (Ok value) → RefusesAs meaning later
refuses-no-more (Ok value) first later refuses = tt
refuses-no-more (Err refusal) first later refuses = absurd refuses
