use Rattle.std.proofs.Common.{◌≡◌, ℕ, zero, suc, ◌+◌, ◌-◌, ◌*◌, ◌^◌, ◌<◌, ◌≤◌, List, [], ◌∷◌, ◌++◌, length, slice_index, slice_range, refl, ap, sym, ◌∙◌, add-one, add-zero, add_assoc, inl, inr, arith, rules}
use Rattle.std.proofs.lemmas.List.Edits.{get_or-between}
use Rattle.std.proofs.lemmas.List.{places}
use Rattle.std.proofs.lemmas.Bool.{cases_lt}
use borrow.Rule.Slice.PartMut.{put_mid}
use Rattle.byteorder.specs.Endian.{big_from, little_from, big_bytes, little_bytes}
use Rattle.byteorder.specs.Numbers.{big_number-reads_back, little_number-reads_back}
use Rattle.qcow2_base.specs.Storage.{Image, image_of, be}
use Rattle.qcow2_base.proofs.StorageLemmas.{be_of_same}
use Rattle.qcow2_base.specs.OnDiskStruct.{le, Order, Big, Little, number_in, LayoutField, HoldsLayout, IsGap, layout_end, fields_moved_by, Stores}

-- a list's numbers by byteorder's words
pub be_of_list : (i n : ℕ) (xs : List ℕ) → be (image_of xs) i n ≡ big_from i n xs
unfolding be
be_of_list i zero xs = refl
be_of_list i (suc n) xs =
    let rest = be_of_list (suc i) n xs in
    rw (add-one i) (ap (λ m. slice_index xs i * 256 ^ n + m) rest)

pub le_of_list : (i n : ℕ) (xs : List ℕ) → le (image_of xs) i n ≡ little_from i n xs
unfolding le
le_of_list i zero xs = refl
le_of_list i (suc n) xs =
    let rest = le_of_list (suc i) n xs in
    rw (add-one i) (ap (λ m. slice_index xs i + 256 * m) rest)

-- the number at the start of a list that begins with the number's bytes
pub be_of_bytes : (n x : ℕ) (xs rest : List ℕ) → xs ≡ big_bytes n x ++ rest → x < 256 ^ n
    → be (image_of xs) 0 n ≡ x
be_of_bytes n x xs rest e fits = be_of_list 0 n xs ∙ rw e (big_number-reads_back n x rest fits)

pub le_of_bytes : (n x : ℕ) (xs rest : List ℕ) → xs ≡ little_bytes n x ++ rest → x < 256 ^ n
    → le (image_of xs) 0 n ≡ x
le_of_bytes n x xs rest e fits = le_of_list 0 n xs ∙ rw e (little_number-reads_back n x rest fits)

-- f has from place o on the n bytes that g has from place p on
abbrev SameBytes : Image → ℕ → Image → ℕ → ℕ → Type 0
SameBytes f o g p n = (k : ℕ) → k < n → f (o + k) ≡ g (p + k)

-- the same bytes are the same number
le_of_same : (f g : Image) (n o p : ℕ) → SameBytes f o g p n → le f o n ≡ le g p n
unfolding le
le_of_same f g zero o p same = refl
le_of_same f g (suc n) o p same =
    let first : f o ≡ g p = simp add-zero at (same 0 (omega arith)) in
    let rest = le_of_same f g n (o + 1) (p + 1) (λ k h. rw (add_assoc o 1 k, add_assoc p 1 k) (same (1 + k) (omega arith))) in
    rw (first, rest) refl

pub number_of_same : (order : Order) (f g : Image) (n o p : ℕ) → SameBytes f o g p n
    → number_in order f o n ≡ number_in order g p n
number_of_same Big = be_of_same
number_of_same Little = le_of_same

-- what an image has, another one has further on, where it has the same bytes there
pub HoldsLayout-moved : (f g : Image) (by size : ℕ) (fields : List LayoutField)
    → ((k : ℕ) → k < size → f k ≡ g (by + k)) → layout_end fields ≤ size
    → HoldsLayout f fields → HoldsLayout g (fields_moved_by by fields)
HoldsLayout-moved f g by size [] same within held = tt
HoldsLayout-moved f g by size (x ∷ fields) same within held =
    let bytes : SameBytes f x.place g (by + x.place) x.size =
    λ k h. rw (add_assoc by x.place k) (same (x.place + k) (omega arith)) in
    let number = number_of_same x.order f g x.size x.place (by + x.place) bytes in
    (sym number ∙ held.0, HoldsLayout-moved f g by size fields same (omega arith) held.1)

-- what a part of a list has
pub HoldsLayout-between : (xs : List ℕ) (place size : ℕ) (fields : List LayoutField) → layout_end fields ≤ size
    → HoldsLayout (image_of (slice_range xs place (place + size))) fields
    → HoldsLayout (image_of xs) (fields_moved_by place fields)
HoldsLayout-between xs place size fields within held =
    HoldsLayout-moved (image_of (slice_range xs place (place + size))) (image_of xs) place size fields
    (λ k h. get_or-between xs place (place + size) k 0 (omega arith)) within held

-- a gap further on was a gap
IsGap-moved : (by k : ℕ) (fields : List LayoutField) → IsGap (fields_moved_by by fields) (by + k) → IsGap fields k
IsGap-moved by k [] gap = tt
IsGap-moved by k (x ∷ fields) gap =
    let rest = IsGap-moved by k fields gap.1 in
    elim gap.0 [
      | inl before ↦ (inl (omega (arith, before)), rest)
      | inr after ↦ (inr (omega (arith, after)), rest)
    ]

-- what a part of a list stored
pub Stores-put_mid : (xs ys : List ℕ) (place size : ℕ) (fields : List LayoutField) → layout_end fields ≤ size
    → place + size ≤ length xs → length ys ≡ size
    → Stores fields (image_of (slice_range xs place (place + size))) (image_of ys)
    → Stores (fields_moved_by place fields) (image_of xs) (image_of (put_mid place (place + size - place) xs ys))
Stores-put_mid xs ys place size fields within fits same stored =
    let k = place + size - place in
    let part = slice_range xs place (place + size) in
    record {
      placed =
          HoldsLayout-moved (image_of ys) (image_of (put_mid place k xs ys)) place size fields
          (λ o h. search (rules, places)) within stored.placed;
      gaps = λ o gap. elim (cases_lt o place) [
        | inl before ↦ search (rules, places)
        | inr from ↦ elim (cases_lt o (place + size)) [
          | inl inside ↦
              let i = o - place in
              let there : place + i ≡ o = omega arith in
              let new : slice_index ys i ≡ slice_index (put_mid place k xs ys) (place + i) = search (rules, places) in
              let old : slice_index part i ≡ slice_index xs (place + i) =
              get_or-between xs place (place + size) i 0 (omega arith) in
              let kept = stored.gaps i (IsGap-moved place i fields (rw there gap)) in
              rw there at (sym new ∙ kept ∙ old)
          | inr after ↦ search (rules, places)
        ]
      ];
    }

-- what ends before the bytes that change stays
HoldsLayout-kept : (fields : List LayoutField) (old new : Image) (end : ℕ) → layout_end fields ≤ end
    → ((offset : ℕ) → offset < end → new offset ≡ old offset)
    → HoldsLayout old fields → HoldsLayout new fields
HoldsLayout-kept [] old new end within same held = tt
HoldsLayout-kept (x ∷ fields) old new end within same held =
    let bytes : SameBytes new x.place old x.place x.size = λ k h. same (x.place + k) (omega arith) in
    let number = number_of_same x.order new old x.size x.place x.place bytes in
    (number ∙ held.0, HoldsLayout-kept fields old new end (omega arith) same held.1)

HoldsLayout-append : (fields : List LayoutField) (x : LayoutField) (image : Image)
    → HoldsLayout image fields → HoldsLayout image (x ∷ []) → HoldsLayout image (fields ++ x ∷ [])
HoldsLayout-append [] x image held last = last
HoldsLayout-append (y ∷ fields) x image held last =
    (held.0, HoldsLayout-append fields x image held.1 last)

IsGap-append : (fields : List LayoutField) (x : LayoutField) (offset : ℕ)
    → IsGap (fields ++ x ∷ []) offset → IsGap fields offset × IsGap (x ∷ []) offset
IsGap-append [] x offset gap = (tt, gap)
IsGap-append (y ∷ fields) x offset gap =
    let rest = IsGap-append fields x offset gap.1 in
    ((gap.0, rest.0), rest.1)

-- one more field is stored, after the others
pub Stores-more : {fields : List LayoutField} {x : LayoutField} {old mid new : Image}
    → Stores fields old mid → Stores (x ∷ []) mid new → layout_end fields ≤ x.place
    → Stores (fields ++ x ∷ []) old new
Stores-more {fields} {x} {old} {mid} {new} before last after =
    let kept = HoldsLayout-kept fields mid new x.place after (λ offset h. last.gaps offset (inl h, tt)) before.placed in
    record {
      placed = HoldsLayout-append fields x new kept last.placed;
      gaps = λ offset gap.
          let parts = IsGap-append fields x offset gap in
          last.gaps offset parts.1 ∙ before.gaps offset parts.0;
    }
