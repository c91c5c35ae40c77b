use Rattle.std.proofs.Common.{◌≡◌, ℕ, ◌+◌, ◌-◌, ◌*◌, ◌<◌, ◌≤◌, min, List, length, slice_index, sym, ◌∙◌, ap, inl, inr, arith}
use Rattle.std.proofs.lemmas.Bool.{cases_lt}
use Rattle.qcow2_base.specs.Storage.{Holds, Image, SameOutside}
use Rattle.qcow2_metadata.specs.Pieces.{IsTornAtPiece}
use Rattle.std.proofs.lemmas.Bool.Decides.{nat_tests}

-- the pieces before one are written, and after them each byte is the old one
pub record IsWrittenUpTo (piece : ℕ) (bytes : Image) (len offset : ℕ) (old new : Image) : Type 0 where
  pub stand : (i : ℕ) → i < 4096 * piece → i < len → new (offset + i) ≡ bytes i
  pub after : (o : ℕ) → offset + 4096 * piece ≤ o → new o ≡ old o
  pub others : SameOutside offset len old new

-- a write of a piece, or of some of its bytes, leaves what was written before it
stand_before : (piece : ℕ) (bytes : Image) (len offset n : ℕ) (old mid new : Image) → IsWrittenUpTo piece bytes len offset old mid → SameOutside (offset + 4096 * piece) n mid new → (i : ℕ) → i < 4096 * piece → i < len → new (offset + i) ≡ bytes i
stand_before piece bytes len offset n old mid new so_far outside i below within = grind (arith, nat_tests)

after_piece : (piece : ℕ) (bytes : Image) (len offset n : ℕ) (old mid new : Image) → n ≤ 4096 → IsWrittenUpTo piece bytes len offset old mid → SameOutside (offset + 4096 * piece) n mid new → (o : ℕ) → offset + 4096 * (piece + 1) ≤ o → new o ≡ old o
after_piece piece bytes len offset n old mid new short so_far outside o h = grind (arith, nat_tests)

pub others_kept : (piece : ℕ) (bytes : Image) (len offset n : ℕ) (old mid new : Image) → 4096 * piece + n ≤ len → IsWrittenUpTo piece bytes len offset old mid → SameOutside (offset + 4096 * piece) n mid new → SameOutside offset len old new
others_kept piece bytes len offset n old mid new fits so_far outside = grind (arith)

-- one piece more
pub IsWrittenUpTo-more : (piece : ℕ) (bytes : Image) (len offset : ℕ) (old mid new : Image) (buffer : List ℕ) → 4096 * piece < len → length buffer ≡ min (len - 4096 * piece) 4096 → ((i : ℕ) → i < length buffer → slice_index buffer i ≡ bytes (4096 * piece + i)) → IsWrittenUpTo piece bytes len offset old mid → Holds new (offset + 4096 * piece) buffer → SameOutside (offset + 4096 * piece) (length buffer) mid new → IsWrittenUpTo (piece + 1) bytes len offset old new
IsWrittenUpTo-more piece bytes len offset old mid new buffer some count packed so_far held outside = record {
  stand = λ i below within. elim (cases_lt i (4096 * piece)) [
    | inl before ↦ stand_before piece bytes len offset (length buffer) old mid new so_far outside i before within
    | inr from ↦
        let j = i - 4096 * piece in
        let whole : 4096 * piece + j ≡ i = omega arith in
        let place : offset + 4096 * piece + j ≡ offset + i = omega arith in
        let small : j < length buffer = omega arith in
        rw (← place) (sym (held.each j small)) ∙ packed j small ∙ ap bytes whole
  ];
  after = after_piece piece bytes len offset (length buffer) old mid new (omega arith) so_far outside;
  others = others_kept piece bytes len offset (length buffer) old mid new (omega arith) so_far outside;
}

-- a write that failed at a piece
pub IsTornAtPiece-at : (piece : ℕ) (bytes : Image) (len offset n : ℕ) (old mid new : Image) → 4096 * piece < len → n ≤ 4096 → IsWrittenUpTo piece bytes len offset old mid → SameOutside (offset + 4096 * piece) n mid new → (p : ℕ) × IsTornAtPiece p bytes len offset old new
IsTornAtPiece-at piece bytes len offset n old mid new some short so_far outside = (
  piece,
  record {
    within = some;
    before = λ i below. stand_before piece bytes len offset n old mid new so_far outside i below (omega arith);
    after = after_piece piece bytes len offset n old mid new short so_far outside;
  },
)
