use Rattle.std.proofs.Common.{◌≡◌, ℕ, zero, suc, Result, Ok, Err, IfOk, ◌+◌, ◌-◌, ◌^◌, ◌<◌, ◌≤◌, List, [], ◌∷◌, ◌++◌, drop, take, length, replicate, slice_index, refl, sym, ap, ◌∙◌, add-zero, add_assoc, arith, inl, inr, lit<, length-append, length-drop, length-take-le}
use Rattle.std.proofs.lemmas.Bool.{cases_lt}
use Rattle.std.proofs.lemmas.List.{get_or_append_left, get_or-append_right}
use Rattle.std.proofs.lemmas.Nat.{mul-add-lt, same_from_place}
use Rattle.std.proofs.Math.Nat.{pow-suc}
use mathlib.Core.Path.{fun_ext}
use lib.Seq.{take-add}
use Rattle.qcow2_base.specs.Storage.{Holds, Image, IsBytes, SameOutside, be, image_of}
use Rattle.qcow2_base.specs.Storage.ImageFile.{FileContent, OnFile, reach}

-- two images that agree over n bytes have the same number there
pub be_of_same : (f g : Image) (n o p : ℕ) → ((k : ℕ) → k < n → f (o + k) ≡ g (p + k)) → be f o n ≡ be g p n
unfolding be
be_of_same f g zero o p same = refl
be_of_same f g (suc n) o p same =
    let first : f o ≡ g p = simp add-zero at (same 0 (omega arith)) in
    let rest = be_of_same f g n (o + 1) (p + 1) (λ k h. rw (add_assoc o 1 k, add_assoc p 1 k) (same (1 + k) (omega arith))) in
    rw (first, rest) refl

-- a number of n bytes is below 256 ^ n
pub be_fits : (image : Image) (o n : ℕ) → IsBytes image → be image o n < 256 ^ n
unfolding be
be_fits image o zero small = lit< tt
be_fits image o (suc n) small =
    let rest = be_fits image (o + 1) n small in
    rw pow-suc (mul-add-lt (image o) (256 ^ n) (be image (o + 1) n) 256 (small o) rest)

-- a number determines its bytes: images that have the same number have the same bytes there
pub be_determines : (f g : Image) (n o p : ℕ) → IsBytes f → IsBytes g → be f o n ≡ be g p n → (k : ℕ) → k < n → f (o + k) ≡ g (p + k)
unfolding be
be_determines f g zero o p small small' same k below = absurd (omega arith)
be_determines f g (suc n) o p small small' same zero below =
    let parts = same_from_place (f o) (be f (o + 1) n) (g p) (be g (p + 1) n) (256 ^ n) (be_fits f (o + 1) n small) (be_fits g (p + 1) n small') same in
    simp add-zero parts.0
be_determines f g (suc n) o p small small' same (suc k) below =
    let parts = same_from_place (f o) (be f (o + 1) n) (g p) (be g (p + 1) n) (256 ^ n) (be_fits f (o + 1) n small) (be_fits g (p + 1) n small') same in
    let left : o + suc k ≡ o + 1 + k = omega arith in
    let right : p + suc k ≡ p + 1 + k = omega arith in
    rw (left, right) (be_determines f g n (o + 1) (p + 1) small small' parts.1 k (omega arith))

zeros_read : (n o : ℕ) → slice_index (replicate n 0) o ≡ 0
zeros_read zero o = refl
zeros_read (suc n) zero = refl
zeros_read (suc n) (suc o) = zeros_read n o

padded_read : (bytes : List ℕ) (n o : ℕ) → slice_index (bytes ++ replicate n 0) o ≡ slice_index bytes o
padded_read [] n o = zeros_read n o
padded_read (b ∷ bytes) n zero = refl
padded_read (b ∷ bytes) n (suc o) = padded_read bytes n o

-- zeros at the end are what is there already
pub image_of-padded : (bytes : List ℕ) (n : ℕ) → image_of (bytes ++ replicate n 0) ≡ image_of bytes
image_of-padded bytes n = fun_ext (padded_read bytes n)

-- an image that has some bytes, and then others, has both one after the other
pub held_together : (image : Image) (offset : ℕ) (front rest : List ℕ) →
    Holds image offset front → Holds image (offset + length front) rest → Holds image offset (front ++ rest)
held_together image offset front rest has also = record {
  each = λ i below. elim (cases_lt i (length front)) [
    | inl first ↦ get_or_append_left front rest 0 i first ∙ has.each i first
    | inr past ↦
        let inside : i - length front < length rest = omega (arith, below, past, length-append front rest) in
        let place : offset + length front + (i - length front) ≡ offset + i = omega (arith, past) in
        get_or-append_right front rest (length front) i 0 refl past ∙ also.each (i - length front) inside ∙ ap image place
  ];
}

-- past its end an image has zeros
pub zeros_past_end : (image : Image) (end offset n : ℕ) → ((o : ℕ) → end ≤ o → image o ≡ 0) → end ≤ offset →
    Holds image offset (replicate n 0)
zeros_past_end image end offset n zeros past = record {
  each = λ i below. zeros_read n i ∙ sym (zeros (offset + i) (omega (arith, past)));
}

-- bytes before a range in which an image changes stay
kept_before : (old new : Image) (offset len : ℕ) (front : List ℕ) → SameOutside (offset + length front) len old new →
    Holds old offset front → Holds new offset front
kept_before old new offset len front same has = record {
  each = λ i below. has.each i below ∙ sym (same.before (offset + i) (omega (arith, below)));
}

-- a write of at most that many bytes changes no byte outside the range of all of them
pub within_reach : {E : Type 0} (answer : Result ℕ E) (file : FileContent) (offset len : ℕ) (old new : Image) →
    IfOk answer (λ count. count ≤ len) → OnFile file (SameOutside offset (reach answer len) old new) →
    OnFile file (SameOutside offset len old new)
within_reach (Ok count) file offset len old new most same = λ tells. record {
  before = (same tells).before;
  after = λ o late. (same tells).after o (omega (arith, most, late));
}
within_reach (Err error) file offset len old new most same = same

-- a write of the rest of some bytes to a file that may be known leaves what was written before, and changes no byte
-- outside the range of all
pub written_so_far : (old now new : FileContent) (offset count : ℕ) (bytes : List ℕ) → count ≤ length bytes →
    now.tells ≡ old.tells →
    OnFile old (Holds now.byte_at offset (take count bytes)) →
    OnFile old (SameOutside offset (length bytes) old.byte_at now.byte_at) →
    OnFile now (SameOutside (offset + count) (length (drop count bytes)) now.byte_at new.byte_at) →
    OnFile old (Holds new.byte_at offset (take count bytes) × SameOutside offset (length bytes) old.byte_at new.byte_at)
written_so_far old now new offset count bytes within known has same changes = λ tells.
    let front = length-take-le count bytes within in
    let left : count + length (drop count bytes) ≡ length bytes = omega (arith, within, length-drop count bytes) in
    let others = changes (rw known tells) in (
      kept_before now.byte_at new.byte_at offset (length (drop count bytes)) (take count bytes) (rw front others) (has tells),
      record {
        before = λ o early. others.before o (omega (arith, early)) ∙ (same tells).before o early;
        after = λ o late. others.after o (omega (arith, left, late)) ∙ (same tells).after o late;
      },
    )

-- and one that took more of them leaves these too
pub written_further : (new : Image) (offset count more : ℕ) (bytes : List ℕ) → count ≤ length bytes →
    Holds new offset (take count bytes) → Holds new (offset + count) (take more (drop count bytes)) →
    Holds new offset (take (count + more) bytes)
written_further new offset count more bytes within has also =
    let front = length-take-le count bytes within in
    rw (take-add count more bytes) (held_together new offset (take count bytes) (take more (drop count bytes)) has (rw front also))
