-- What is known of a file that an image lies in, and what do reads and writes of it change?
use Rattle.std.specs.Prelude.{◌≡◌, ℕ, zero, ◌+◌, ◌<◌, ◌≤◌, Bool, false, IsTrue, List, length, max, take, Option, Some, Result, Ok, Err, IfOk}
use Rattle.qcow2_base.specs.Storage.{Holds, Image, SameOutside}

-- what is known of a file: whether its bytes are known, these bytes, 0 past its end, and how many there are
pub record FileContent : Type 0 where
  pub tells : Bool
  pub byte_at : Image
  pub len : ℕ

-- what is known of a file whose bytes aren't
abbrev pub unknown_content : FileContent
unknown_content = record { tells = false; byte_at = λ _. 0; len = 0 }

-- where a file's bytes are known, this fact holds
abbrev pub OnFile : FileContent → Type 0 → Type 0
OnFile file Fact = IsTrue file.tells → Fact

-- a read of a file from an offset on that ended in this answer, and left these bytes in the buffer: it gave the first of
-- them, and none of them only past the file's end
pub record ReadsSome {E : Type 0} (answer : Result ℕ E) (offset : ℕ) (buffer : List ℕ) (old new : FileContent) : Type 0 where
  pub count : IfOk answer (λ count. count ≤ length buffer)
  pub read : IfOk answer (λ count. OnFile old (Holds old.byte_at offset (take count buffer)))
  pub end : IfOk answer (λ count. count ≡ 0 → 0 < length buffer → OnFile old (old.len ≤ offset))
  pub unchanged : new ≡ old

-- how many bytes from its offset on a write of that many may have changed that ended in this answer
abbrev pub reach : {E : Type 0} → Result ℕ E → ℕ → ℕ
reach (Ok count) len = count
reach (Err _) len = len

-- where a file of this length ends after a write took this many bytes from an offset on
abbrev pub end_after : ℕ → ℕ → ℕ → ℕ
end_after len offset zero = len
end_after len offset count = max len (offset + count)

-- a write of these bytes from an offset on that ended in this answer: it took the first of them, and no other byte changes.
-- After a failure any bytes may be where all of them were to be. Where it took any, the file ends after them, or where it did
pub record WritesSome {E : Type 0} (answer : Result ℕ E) (offset : ℕ) (bytes : List ℕ) (old new : FileContent) : Type 0 where
  pub count : IfOk answer (λ count. count ≤ length bytes)
  pub written : IfOk answer (λ count. OnFile old (Holds new.byte_at offset (take count bytes)))
  pub others : OnFile old (SameOutside offset (reach answer (length bytes)) old.byte_at new.byte_at)
  pub len : IfOk answer (λ count. OnFile old (new.len ≡ end_after old.len offset count))
  pub tells : new.tells ≡ old.tells

-- a question for the file's length that ended in this answer: none where it has no end that is known
pub record TellsLength {E : Type 0} (answer : Result (Option ℕ) E) (old new : FileContent) : Type 0 where
  pub len : IfOk answer (λ found. OnFile old (found ≡ Some old.len))
  pub unchanged : new ≡ old
