-- What comes of results one after another, and when is an answer the expected one?
use Rattle.std.specs.Prelude.{◌≡◌, ◌⊎◌, Bool, IfErr, List, [], ◌∷◌, if◌then◌else◌, Option, Some, None, Result, Ok, Err, IsOk, MatchResult}
use Rattle.qcow2_base.specs.Storage.{Image, OnImage, OnlyReads, StorageState}
use Rattle.qcow2_base.specs.declared.fault.Fault.{Fault}
use Rattle.qcow2_base.specs.declared.fault.Fault.TheVariants.{NoMemory, Storage}

-- what comes of an answer: its fault, or else the next step's answer
abbrev pub and_then : {A B : Type 0} → Result A Fault → (A → Result B Fault) → Result B Fault
and_then (Ok value) next = next value
and_then (Err fault) next = Err fault

-- the answer with its value changed
abbrev pub result_map : {A B : Type 0} → (A → B) → Result A Fault → Result B Fault
result_map f (Ok value) = Ok (f value)
result_map f (Err fault) = Err fault

-- the fault of the first condition that doesn't hold, if there is one
abbrev pub first_failed : List (Bool × Fault) → Option Fault
first_failed [] = None
first_failed (condition ∷ conditions) = if condition.0 then first_failed conditions else Some condition.1

-- what comes after conditions: the fault of the first that doesn't hold, or else the next step's answer
abbrev pub after_conditions : {T : Type 0} → List (Bool × Fault) → (Unit {0} → Result T Fault) → Result T Fault
after_conditions {T} conditions next = unless (first_failed conditions)
  where
    unless : Option Fault → Result T Fault
    unless None = next tt
    unless (Some fault) = Err fault

-- a refusal, if there is one, else the answer
abbrev pub unless_refused : {T : Type 0} → Option Fault → Result T Fault → Result T Fault
unless_refused None answer = answer
unless_refused (Some fault) answer = Err fault

-- the answer is the expected one, unless memory ran out
abbrev pub Computes : {T V : Type 0} → (T → V) → Result T Fault → Result V Fault → Type 0
Computes view answer expected =
    MatchResult answer (λ value. expected ≡ Ok (view value)) (λ fault. (fault ≡ NoMemory) ⊎ (expected ≡ Err fault))

-- the answer is the expected one, unless the storage failed or memory ran out
abbrev pub Answers : {T V : Type 0} → (T → V) → Result T Fault → Result V Fault → Type 0
Answers view answer expected =
    MatchResult answer (λ value. expected ≡ Ok (view value)) (λ fault. (fault ≡ Storage) ⊎ (fault ≡ NoMemory) ⊎ (expected ≡ Err fault))

-- the answer is the expected one: a refusal whatever the storage and the memory do, and a value unless the storage
-- failed or memory ran out
abbrev pub RefusesFirst : {T V : Type 0} → (T → V) → Result T Fault → Result V Fault → Type 0
RefusesFirst view answer expected =
    MatchResult answer (λ value. expected ≡ Ok (view value)) (λ fault. (expected ≡ Err fault)
    ⊎ (((fault ≡ Storage) ⊎ (fault ≡ NoMemory)) × IsOk expected))

-- the faults from outside: memory ran out, or the storage failed
abbrev pub IsFromOutside : Fault → Type 0
IsFromOutside fault = (fault ≡ NoMemory) ⊎ (fault ≡ Storage)

-- a call that only reads ended in this answer: where the storage's bytes are known it is what they mean, unless a fault came
-- from outside. Each fault came from there, or is one of the refusals. No byte changed
pub record Reads {T V : Type 0} (view : T → V) (answer : Result T Fault) (meaning : Image → Result V Fault) (IsRefusal : Fault → Type 0) (old new : StorageState) : Type 0 where
  pub exact : OnImage old (λ bytes. Answers view answer (meaning bytes))
  pub faults : IfErr answer (λ fault. IsRefusal fault ⊎ IsFromOutside fault)
  pub storage : OnlyReads answer old new
