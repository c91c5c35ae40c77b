-- What is known of a storage's bytes, and what do reads and writes of it change?
pub mod Alignment
pub mod File
pub mod Growth
pub mod ImageFile
pub mod ImageFiles
pub mod Memory
pub mod Slice
use Rattle.std.specs.Prelude.{◌≡◌, ◌≢◌, ℕ, zero, suc, ◌+◌, ◌-◌, ◌*◌, ◌^◌, ◌%◌, ◌<◌, ◌≤◌, ◌↔◌, Bool, IsTrue, List, Option, Some, IfSome, Result, MatchResult, OnOk, IfOk, IfErr, IsErrOf, length, nat_lt, if◌then◌else◌, slice_index, refl}
use Rattle.qcow2_base.specs.declared.fault.Fault.{Fault}
use Rattle.qcow2_base.specs.declared.fault.Fault.TheVariants.{Storage as StorageFailed}

-- an image: the byte at each offset, 0 past the end
abbrev pub Image : Type 0
Image = ℕ → ℕ

-- the image that a list of bytes is
abbrev pub image_of : List ℕ → Image
image_of bytes offset = slice_index bytes offset

-- the image that has these bytes from an offset on, and zeros before and after them
abbrev pub image_from : ℕ → List ℕ → Image
image_from start bytes offset = if nat_lt offset start then 0 else slice_index bytes (offset - start)

-- the image has these bytes from the offset on
pub record Holds (image : Image) (offset : ℕ) (bytes : List ℕ) : Type 0 where
  pub each : (i : ℕ) → i < length bytes → slice_index bytes i ≡ image (offset + i)

-- the two images agree before the range of that many bytes and after it
pub record SameOutside (offset len : ℕ) (old new : Image) : Type 0 where
  pub before : (o : ℕ) → o < offset → new o ≡ old o
  pub after : (o : ℕ) → offset + len ≤ o → new o ≡ old o

-- what is known of a storage: whether its bytes are known, these bytes, how many there are, how many calls have failed
-- modulo 2^64, and its alignments
pub record StorageState : Type 0 where
  pub tells : Bool
  pub byte_at : Image
  pub len : ℕ
  pub failures : ℕ
  pub mem_align : ℕ
  pub req_align : ℕ

-- where a storage's bytes are known, this fact holds of them
abbrev pub OnImage : StorageState → (Image → Type 0) → Type 0
OnImage state Fact = IsTrue state.tells → Fact state.byte_at

-- where a storage's bytes are known, this fact holds of those before and those after
abbrev pub OnImages : StorageState → StorageState → (Image → Image → Type 0) → Type 0
OnImages old new Fact = IsTrue old.tells → Fact old.byte_at new.byte_at

-- one more failed call is counted exactly where the answer is an error
abbrev pub CountsFailure : {T E : Type 0} → Result T E → StorageState → StorageState → Type 0
CountsFailure answer old new =
    MatchResult answer (λ _. new.failures ≡ old.failures) (λ _. new.failures ≡ (old.failures + 1) % 2 ^ 64)

-- the storage's bytes are known exactly where they were before, and it is aligned as before
pub record SameDevice (old new : StorageState) : Type 0 where
  pub tells : new.tells ≡ old.tells
  pub mem_align : new.mem_align ≡ old.mem_align
  pub req_align : new.req_align ≡ old.req_align

-- a read from an offset on that ended in this answer, and filled the buffer with these bytes
pub record ReadsBytes {T E : Type 0} (answer : Result T E) (offset : ℕ) (bytes : List ℕ) (old new : StorageState) : Type 0 where
  pub read : OnOk answer (OnImage old (λ image. Holds image offset bytes))
  pub unchanged : new.byte_at ≡ old.byte_at
  pub len : new.len ≡ old.len
  pub failures : CountsFailure answer old new
  pub device : SameDevice old new

-- a write of these bytes from an offset on that ended in this answer: no byte outside its range changes
pub record WritesBytes {T E : Type 0} (answer : Result T E) (offset : ℕ) (bytes : List ℕ) (old new : StorageState) : Type 0 where
  pub written : OnOk answer (OnImages old new (λ _ after. Holds after offset bytes))
  pub others : OnImages old new (λ before after. SameOutside offset (length bytes) before after)
  pub failures : CountsFailure answer old new
  pub device : SameDevice old new

-- a call that ended in this answer and changes no byte
pub record ChangesNoByte {T E : Type 0} (answer : Result T E) (old new : StorageState) : Type 0 where
  pub unchanged : new.byte_at ≡ old.byte_at
  pub len : new.len ≡ old.len
  pub failures : CountsFailure answer old new
  pub device : SameDevice old new

-- a question for the length of the image that ended in this answer: none where it has no end that is known
pub record TellsEnd {E : Type 0} (answer : Result (Option ℕ) E) (old new : StorageState) : Type 0 where
  pub end : IfOk answer (λ found. OnImage old (λ _. found ≡ Some old.len))
  pub unchanged : ChangesNoByte answer old new

-- calls that ended in this answer and only read: the storage fault is returned exactly where one of
-- them failed, and nothing but the count of failures may differ
pub record OnlyReads {T : Type 0} (answer : Result T Fault) (old new : StorageState) : Type 0 where
  pub told : IsErrOf answer StorageFailed ↔ (new.failures ≢ old.failures)
  pub bytes : new.byte_at ≡ old.byte_at
  pub len : new.len ≡ old.len
  pub device : SameDevice old new

-- calls that only read: where one failed, this fact holds, and nothing but the count of failures may differ
pub record ReadsFor (told : Type 0) (old new : StorageState) : Type 0 where
  pub failed : new.failures ≢ old.failures → told
  pub bytes : new.byte_at ≡ old.byte_at
  pub len : new.len ≡ old.len
  pub device : SameDevice old new

-- the same of calls that only write, and only these bytes from a place on: where no call of the storage
-- failed, an error changed none of them
pub record OnlyWrites {T : Type 0} (answer : Result T Fault) (place : Option ℕ) (len : ℕ) (old new : StorageState) : Type 0 where
  pub told : IsErrOf answer StorageFailed ↔ (new.failures ≢ old.failures)
  pub others : OnImages old new (λ before after. IfSome place (λ offset. SameOutside offset len before after))
  pub refused : IfErr answer (λ fault. fault ≢ StorageFailed → new.byte_at ≡ old.byte_at)
  pub device : SameDevice old new

-- from an end on the image is zero
abbrev pub EndsBy : ℕ → Image → Type 0
EndsBy end image = (o : ℕ) → end ≤ o → image o ≡ 0

-- the big-endian number of n bytes: each byte times 256 to the power of how many follow it
unfoldable pub be : Image → ℕ → ℕ → ℕ
be image offset zero = 0
be image offset (suc n) = image offset * 256 ^ n + be image (offset + 1) n

-- n is a power of two
abbrev pub IsPowerOfTwo : ℕ → Type 0
IsPowerOfTwo n = (k : ℕ) × (n ≡ 2 ^ k)

-- bytes are below 256
abbrev pub IsBytes : Image → Type 0
IsBytes image = (offset : ℕ) → image offset < 256
