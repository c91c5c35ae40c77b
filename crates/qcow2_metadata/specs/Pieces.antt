-- What does a write of bytes in pieces leave, and what where a piece fails?
use Rattle.std.specs.Prelude.{◌≡◌, ℕ, ◌+◌, ◌-◌, ◌*◌, ◌/◌, ◌%◌, ◌^◌, ◌<◌, ◌≤◌, List, slice_index, Result, OnOk, OnErr}
use Rattle.qcow2_base.specs.Storage.{CountsFailure, Image, OnImages, SameDevice, SameOutside, StorageState}

-- how many bytes of a table or a block are read or written at once
abbrev pub piece_size : ℕ
piece_size = 4096

-- the first len bytes are in an image from an offset on
abbrev pub Stand : Image → ℕ → Image → ℕ → Type 0
Stand bytes len image offset = (i : ℕ) → i < len → image (offset + i) ≡ bytes i

-- the bytes of numbers one after another, width bytes for each, the most significant one first
abbrev pub big_endian_bytes : ℕ → List ℕ → Image
big_endian_bytes width numbers j = slice_index numbers (j / width) / 256 ^ (width - 1 - j % width) % 256

-- a write of bytes from an offset on, in pieces, that failed at a piece. The bytes before that
-- piece are written, and after it each byte is the old one
pub record IsTornAtPiece (piece : ℕ) (bytes : Image) (len offset : ℕ) (old new : Image) : Type 0 where
  pub within : piece_size * piece < len
  pub before : Stand bytes (piece_size * piece) new offset
  pub after : (o : ℕ) → offset + piece_size * (piece + 1) ≤ o → new o ≡ old o

-- a write of len bytes from an offset on, in pieces, that ended in this answer
pub record WritesInPieces {T E : Type 0} (answer : Result T E) (offset : ℕ) (bytes : Image) (len : ℕ) (old new : StorageState) : Type 0 where
  pub written : OnOk answer (OnImages old new (λ _ after. Stand bytes len after offset))
  pub torn : OnErr answer (OnImages old new (λ before after. (piece : ℕ) × IsTornAtPiece piece bytes len offset before after))
  pub others : OnImages old new (λ before after. SameOutside offset len before after)
  pub failures : CountsFailure answer old new
  pub device : SameDevice old new
