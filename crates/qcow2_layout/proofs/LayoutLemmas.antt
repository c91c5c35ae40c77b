use Rattle.std.proofs.Common.{◌≡◌, ℕ, Bool, true, false, not, ◌+◌, ◌-◌, ◌*◌, ◌/◌, ◌^◌, ◌<◌, ◌≤◌, List, [], ◌∷◌, Option, Some, None, nat_lt, Ok, inl, inr, add-zero, refl, sym, ap, subst, ◌∙◌, arith}
use Rattle.std.proofs.lemmas.Bool.{cases_lt, false≢true, true≢false}
use Rattle.std.proofs.Math.Nat.{add-mul, le-div_iff_mul-le, zero-mul}
use Rattle.std.proofs.lemmas.Nat.{mul-le, pow_pos}
use Rattle.qcow2_base.specs.Format.{max_file_length}
use Rattle.qcow2_base.specs.Storage.{Image, OnImage, OnlyReads, StorageState}
use Rattle.qcow2_check.specs.Counters.{unused_counter}
use Rattle.qcow2_summary.specs.ImageEnd.{most_clusters}
use Rattle.qcow2_check.specs.Tally.{TallyState, cell_at}
use Rattle.qcow2_check.specs.Uses.{ImageTables}
use Rattle.qcow2_check.specs.Walk.{IsOwned, use_list}
use Rattle.qcow2_check.specs.declared.uses.Use.{Use}
use Rattle.qcow2_summary.proofs.ImageEndLemmas.{IsEnd, end_of-is}
use Rattle.qcow2_layout.proofs.PartsLemmas.{at-encoded, at-none, at-use, code-some, decoded, encoded, first-owned, further-decoded, further-encoded, part_decoded}
use Rattle.qcow2_layout.specs.Layout.{AreOne, AreRuns, IsLayoutOf, IsStretch, IsRun, IsWholeRun, LayoutState, MovesLayout, Parts, moved_part, parts_for, layout_tables}
use Rattle.qcow2_layout.specs.Parts.{is_free, taken_end, part_at, unused_part, use_in, used_part}
use Rattle.qcow2_layout.specs.Window.{PlacesAll, cell_further, cell_of, code_of}
use Rattle.qcow2_layout.specs.declared.parts.Part.{Part}
use Rattle.qcow2_layout.specs.declared.parts.Part.TheVariants.{Compressed, Data, EncryptionHeader, Free, Header, L1Table, L2Table, Leaked, RefcountBlock, RefcountTable}
use Rattle.qcow2_layout.specs.declared.parts.Run.{Run}

-- a part moves on by no bytes, and by the sum of two steps
moved-none : (part : Part) → moved_part 0 part ≡ part
moved-none Header = refl
moved-none L1Table = refl
moved-none RefcountTable = refl
moved-none EncryptionHeader = refl
moved-none RefcountBlock = refl
moved-none L2Table = refl
moved-none Compressed = refl
moved-none Leaked = refl
moved-none Free = refl
moved-none (Data offset) = grind arith

moved-twice : (a b : ℕ) (part : Part) → moved_part b (moved_part a part) ≡ moved_part (a + b) part
moved-twice a b Header = refl
moved-twice a b L1Table = refl
moved-twice a b RefcountTable = refl
moved-twice a b EncryptionHeader = refl
moved-twice a b RefcountBlock = refl
moved-twice a b L2Table = refl
moved-twice a b Compressed = refl
moved-twice a b Leaked = refl
moved-twice a b Free = refl
moved-twice a b (Data offset) = grind arith

-- a cell of 0 has no use
no-use : (found : Option Use) (cell : ℕ) → cell ≡ cell_of found → cell ≡ 0 → found ≡ None
no-use None cell is none = refl
no-use (Some used) cell is none = absurd (omega (arith, is, none, code-some used.kind used.owner))

-- one cluster is a piece
one-piece : (cb : ℕ) (parts : Parts) (from : ℕ) (part : Part) → parts from ≡ part → IsStretch cb parts from (part, from + 1)
one-piece cb parts from part is = (
  omega arith,
  λ k below.
      let none : 0 ≡ k = omega (arith, below) in
      let here : parts (from + 0) ≡ moved_part (0 * 2 ^ cb) part = rw (add-zero from, zero-mul (2 ^ cb)) (is ∙ sym (moved-none part)) in
      subst (λ n. parts (from + n) ≡ moved_part (n * 2 ^ cb) part) none here,
)

-- a cell further on in a run isn't 0
further-some : (cell count : ℕ) → 0 < cell → cell_further cell count ≡ 0 → ⊥
further-some cell count some none = by_test (nat_lt cell 8) refl
  where
    by_test : (small : Bool) → nat_lt cell 8 ≡ small → ⊥
    by_test true is = omega (arith, some, rw is at none)
    by_test false is = omega (arith, some, rw is at none)

-- the part of a cluster with this cell, as one further on from that of a first use
part-further : (tables : ImageTables) (image : Image) (c cell : ℕ) (first : Use) (count : ℕ) → cell ≡ cell_of (use_in (use_list tables image) c)
    → cell ≡ cell_further (code_of first.kind first.owner) count
    → part_at tables image c ≡ moved_part (count * 2 ^ tables.header.v2.cluster_bits) (used_part tables.header.v2.cluster_bits first)
part-further tables image c cell first count is further = by_use (use_in (use_list tables image) c) refl
  where
    cb : ℕ
    cb = tables.header.v2.cluster_bits

    by_use : (found : Option Use) → use_in (use_list tables image) c ≡ found
        → part_at tables image c ≡ moved_part (count * 2 ^ cb) (used_part cb first)
    by_use None none =
        let zero_cell : cell ≡ 0 = rw none at is in
        let some = code-some first.kind first.owner in
        absurd (further-some (code_of first.kind first.owner) count some (sym further ∙ zero_cell))
    by_use (Some used) has =
        let code : cell ≡ code_of used.kind used.owner = rw has at is in
        at-use tables image c used has ∙ part_decoded cb used.kind used.owner ∙ ap (decoded cb) (sym code ∙ further)
        ∙ further-decoded cb first.kind first.owner count

-- clusters whose cells are one run are one
pub used-stretch : (reader : LayoutState) (window : TallyState) (image : Image) (from to : ℕ) (part : Part) → reader.window ≡ Some window → IsLayoutOf image reader
    → window.first ≤ from → from < to → to ≤ window.end → (cell_at window from ≡ 0 → ⊥)
    → ((used : Use) → IsOwned used → cell_at window from ≡ code_of used.kind used.owner → Some part ≡ Some (used_part reader.header.v2.cluster_bits used))
    → ((k : ℕ) → from + k < to → cell_at window (from + k) ≡ cell_further (cell_at window from) k)
    → IsStretch reader.header.v2.cluster_bits (parts_for reader image) from (part, to)
used-stretch reader window image from to part has reads first some end used is one = by_use (use_in uses from) refl
  where
    tables : ImageTables
    tables = layout_tables reader

    uses : List Use
    uses = use_list tables image

    placed : PlacesAll tables image window
    placed = rw has at reads.placed

    by_use : (found : Option Use) → use_in uses from ≡ found → IsStretch reader.header.v2.cluster_bits (parts_for reader image) from (part, to)
    by_use None none = absurd (used (placed.cells from first (omega (arith, some, end)) ∙ ap cell_of none))
    by_use (Some found) here =
        let code : cell_at window from ≡ code_of found.kind found.owner = placed.cells from first (omega (arith, some, end)) ∙ ap cell_of here in
        let owned : IsOwned found = rw here at (first-owned uses from placed.owned) in
        let same : part ≡ used_part reader.header.v2.cluster_bits found = let both = is found owned code in cc in (
          some,
          λ k below.
              let within : from + k < to = omega (arith, below, some) in
              let cell = placed.cells (from + k) (omega (arith, first)) (omega (arith, within, end)) in
              let further = one k within ∙ ap (λ n. cell_further n k) code in
              part-further tables image (from + k) (cell_at window (from + k)) found k cell further ∙ ap (λ p. moved_part (k * 2 ^ reader.header.v2.cluster_bits) p) (sym same),
        )

-- and a whole run where the next cell doesn't go on from them
pub used-run : (reader : LayoutState) (window : TallyState) (image : Image) (limit from to : ℕ) (part : Part) → reader.window ≡ Some window → IsLayoutOf image reader
    → window.first ≤ from → from < to → to < window.end → (cell_at window from ≡ 0 → ⊥)
    → ((used : Use) → IsOwned used → cell_at window from ≡ code_of used.kind used.owner → Some part ≡ Some (used_part reader.header.v2.cluster_bits used))
    → ((k : ℕ) → from + k < to → cell_at window (from + k) ≡ cell_further (cell_at window from) k)
    → (cell_at window to ≡ cell_further (cell_at window from) (to - from) → ⊥)
    → IsWholeRun reader.header.v2.cluster_bits (parts_for reader image) limit from (part, to)
used-run reader window image limit from to part has reads first some end used is one differs = (
  used-stretch reader window image from to part has reads first some (omega (arith, end)) used is one,
  λ before same. by_use (use_in uses from) refl same,
)
  where
    tables : ImageTables
    tables = layout_tables reader

    cb : ℕ
    cb = reader.header.v2.cluster_bits

    uses : List Use
    uses = use_list tables image

    placed : PlacesAll tables image window
    placed = rw has at reads.placed

    by_use : (found : Option Use) → use_in uses from ≡ found → parts_for reader image to ≡ moved_part ((to - from) * 2 ^ cb) part → ⊥
    by_use None none same = used (placed.cells from first (omega (arith, some, end)) ∙ ap cell_of none)
    by_use (Some found) here same =
        let code : cell_at window from ≡ code_of found.kind found.owner = placed.cells from first (omega (arith, some, end)) ∙ ap cell_of here in
        let owned : IsOwned found = rw here at (first-owned uses from placed.owned) in
        let first_part : part ≡ used_part cb found = let both = is found owned code in cc in
        let next : cell_at window to ≡ encoded cb (parts_for reader image to) = placed.cells to (omega (arith, first, some)) end ∙ sym (at-encoded tables image to) in
        differs (next ∙ ap (encoded cb) (same ∙ ap (moved_part ((to - from) * 2 ^ cb)) first_part)
        ∙ further-encoded cb found.kind found.owner (to - from) ∙ ap (λ n. cell_further n (to - from)) (sym code))

-- a cluster that has no use is free or leaked
pub counted-piece : (reader : LayoutState) (window : TallyState) (image : Image) (from counter : ℕ) (part : Part) → reader.window ≡ Some window → IsLayoutOf image reader
    → window.first ≤ from → from < window.end → cell_at window from ≡ 0
    → counter ≡ unused_counter reader.header reader.counters.reftable image from → part ≡ unused_part counter
    → IsStretch reader.header.v2.cluster_bits (parts_for reader image) from (part, from + 1)
counted-piece reader window image from counter part has reads first end none counts says =
    let placed : PlacesAll (layout_tables reader) image window = rw has at reads.placed in
    let found = no-use _ _ (placed.cells from first end) none in
    one-piece reader.header.v2.cluster_bits (parts_for reader image) from part
    (at-none (layout_tables reader) image from found ∙ ap unused_part (sym counts) ∙ sym says)

-- and clusters that have none are free where their counters are 0
pub free-piece : (reader : LayoutState) (window : TallyState) (image : Image) (from to : ℕ) → reader.window ≡ Some window → IsLayoutOf image reader
    → window.first ≤ from → from < to → to ≤ window.end → cell_at window from ≡ 0
    → ((c : ℕ) → from + 1 ≤ c → c < to → cell_at window c ≡ 0)
    → unused_counter reader.header reader.counters.reftable image from ≡ 0
    → ((c : ℕ) → from + 1 ≤ c → c < to → unused_counter reader.header reader.counters.reftable image c ≡ 0)
    → IsStretch reader.header.v2.cluster_bits (parts_for reader image) from (Free, to)
free-piece reader window image from to has reads first some end none unused zero zeros = (
  some,
  λ k below.
      let uses = use_list (layout_tables reader) image in
      let placed : PlacesAll (layout_tables reader) image window = rw has at reads.placed in
      let within : from + k < to = omega (arith, below, some) in
      elim (cases_lt from (from + k)) [
        | inl after ↦
            let found : use_in uses (from + k) ≡ None =
            no-use (use_in uses (from + k)) (cell_at window (from + k)) (placed.cells (from + k) (omega (arith, first)) (omega (arith, within, end)))
            (unused (from + k) (omega (arith, after)) within) in
            at-none (layout_tables reader) image (from + k) found ∙ ap unused_part (zeros (from + k) (omega (arith, after)) within)
        | inr here ↦
            let same : from ≡ from + k = omega (arith, here) in
            let found = no-use _ _ (placed.cells from first (omega (arith, some, end))) none in
            let free : parts_for reader image from ≡ Free = at-none (layout_tables reader) image from found ∙ ap unused_part zero in
            subst (λ c. parts_for reader image c ≡ Free) same free
      ],
)

-- pieces one after another, the second of which goes on from the first
pub pieces-join : (cb : ℕ) (parts : Parts) (from end to bytes : ℕ) (part next : Part) → from < end → end < to
    → AreOne cb parts from (end - from) part → bytes ≡ (end - from) * 2 ^ cb → next ≡ moved_part bytes part → AreOne cb parts end (to - end) next
    → AreOne cb parts from (to - from) part
pieces-join cb parts from end to bytes part next some more one size goes other = λ k below.
    elim (cases_lt k (end - from)) [
      | inl less ↦ one k less
      | inr past ↦
          let m = end - from in
          let j = k - m in
          let place : end + j ≡ from + k = omega (arith, some, past) in
          let sum : m + j ≡ k = omega (arith, past) in
          let here : parts (from + k) ≡ moved_part (j * 2 ^ cb) next = rw place at (other j (omega (arith, below, past, some, more))) in
          let far : m * 2 ^ cb + j * 2 ^ cb ≡ k * 2 ^ cb = sym (add-mul m j (2 ^ cb)) ∙ ap (λ n. n * 2 ^ cb) sum in
          here ∙ ap (λ p. moved_part (j * 2 ^ cb) p) (goes ∙ ap (λ b. moved_part b part) size) ∙ moved-twice (m * 2 ^ cb) (j * 2 ^ cb) part
          ∙ ap (λ b. moved_part b part) far
    ]

-- the first cluster of a piece
piece-first : (cb : ℕ) (parts : Parts) (from to : ℕ) (part : Part) → IsStretch cb parts from (part, to) → parts from ≡ part
piece-first cb parts from to part is =
    let here : parts (from + 0) ≡ moved_part (0 * 2 ^ cb) part = is.1 0 (omega (arith, is.0)) in
    ap parts (sym (add-zero from)) ∙ here ∙ ap (λ b. moved_part b part) (zero-mul (2 ^ cb)) ∙ moved-none part

-- clusters that are one are a whole run where the next piece doesn't go on from them, or where they end by the limit
pub run-that-ends : (cb : ℕ) (parts : Parts) (limit from end to bytes : ℕ) (part next : Part) → from < end
    → AreOne cb parts from (end - from) part → bytes ≡ (end - from) * 2 ^ cb → IsStretch cb parts end (next, to) → (next ≡ moved_part bytes part → ⊥)
    → IsWholeRun cb parts limit from (part, end)
run-that-ends cb parts limit from end to bytes part next some one size piece differs =
    ((some, one), λ before same. differs (sym (piece-first cb parts end to next piece) ∙ same ∙ ap (λ b. moved_part b part) (sym size)))

pub run-at-limit : (cb : ℕ) (parts : Parts) (limit from end : ℕ) (part : Part) → from < end → limit ≤ end
    → AreOne cb parts from (end - from) part → IsWholeRun cb parts limit from (part, end)
run-at-limit cb parts limit from end part some last one = ((some, one), λ before. absurd (omega (arith, before, last)))

-- the clusters of a run have no more bytes than an image
pub run-fits : (cb start end : ℕ) → end ≤ max_file_length / 2 ^ cb → (end - start) * 2 ^ cb < 2 ^ 64
run-fits cb start end within =
    let all : end * 2 ^ cb ≤ max_file_length = (le-div_iff_mul-le (pow_pos cb)).0 within in
    let some : (end - start) * 2 ^ cb ≤ end * 2 ^ cb = mul-le _ _ _ _ (omega arith) (omega arith) in
    omega (arith, all, some)

-- a part that is free, and one that moves on as free
free-is : (part : Part) → not (is_free part) ≡ false → part ≡ Free
free-is Header is = absurd (true≢false is)
free-is L1Table is = absurd (true≢false is)
free-is RefcountTable is = absurd (true≢false is)
free-is EncryptionHeader is = absurd (true≢false is)
free-is RefcountBlock is = absurd (true≢false is)
free-is L2Table is = absurd (true≢false is)
free-is Compressed is = absurd (true≢false is)
free-is Leaked is = absurd (true≢false is)
free-is Free is = refl
free-is (Data offset) is = absurd (true≢false is)

moved-free : (bytes : ℕ) (part : Part) → not (is_free (moved_part bytes part)) ≡ false → part ≡ Free
moved-free bytes Header is = absurd (true≢false is)
moved-free bytes L1Table is = absurd (true≢false is)
moved-free bytes RefcountTable is = absurd (true≢false is)
moved-free bytes EncryptionHeader is = absurd (true≢false is)
moved-free bytes RefcountBlock is = absurd (true≢false is)
moved-free bytes L2Table is = absurd (true≢false is)
moved-free bytes Compressed is = absurd (true≢false is)
moved-free bytes Leaked is = absurd (true≢false is)
moved-free bytes Free is = refl
moved-free bytes (Data offset) is = absurd (true≢false is)

-- whether a cluster isn't free
abbrev pub is-taken : ImageTables → Image → ℕ → Bool
is-taken tables image c = not (is_free (part_at tables image c))

-- the image ends after a whole run, unless it is free up to the limit
run-within : (tables : ImageTables) (image : Image) (cb from to : ℕ) (part : Part)
    → IsWholeRun cb (part_at tables image) (most_clusters tables.header) from (part, to) → to ≤ most_clusters tables.header
    → (part ≡ Free → to ≡ most_clusters tables.header → ⊥) → to ≤ taken_end tables image
run-within tables image cb from to part is within unless =
    let most = most_clusters tables.header in
    let end = taken_end tables image in
    let ends : IsEnd (is-taken tables image) most end = end_of-is (is-taken tables image) most in
    elim (cases_lt end to) [
      | inr after ↦ after
      | inl before ↦
          let k = to - 1 - from in
          let some : from < to = is.0.0 in
          let place : from + k ≡ to - 1 = omega (arith, some) in
          let last : part_at tables image (from + k) ≡ moved_part (k * 2 ^ cb) part = is.0.1 k (omega (arith, some)) in
          let rest : is-taken tables image (from + k) ≡ false = ends.rest (from + k) (omega (arith, before, place)) (omega (arith, place, some, within)) in
          let free : part ≡ Free = moved-free (k * 2 ^ cb) part (subst (λ p. not (is_free p) ≡ false) last rest) in
          elim (cases_lt to most) [
            | inr all ↦ absurd (unless free (omega (arith, all, within)))
            | inl more ↦
                let next : part_at tables image to ≡ Free = free-is (part_at tables image to) (ends.rest to (omega (arith, before)) more) in
                let moved : moved_part ((to - from) * 2 ^ cb) part ≡ Free = ap (λ p. moved_part ((to - from) * 2 ^ cb) p) free in
                absurd (is.1 more (next ∙ sym moved))
          ]
    ]

-- so it is a run of the image
pub run-of-image : (tables : ImageTables) (image : Image) (cb from to : ℕ) (part : Part) (run : Run)
    → IsWholeRun cb (part_at tables image) (most_clusters tables.header) from (part, to) → to ≤ most_clusters tables.header
    → (part ≡ Free → to ≡ most_clusters tables.header → ⊥) → run ≡ record { first = record { 0 = from }; count = to - from; part = part }
    → IsRun cb (part_at tables image) (taken_end tables image) from run
run-of-image tables image cb from to part run is within unless same =
    let some : from < to = is.0.0 in
    let place : from + (to - from) ≡ to = omega (arith, some) in
    let inside : to ≤ taken_end tables image = run-within tables image cb from to part is within unless in
    let ends : IsEnd (is-taken tables image) (most_clusters tables.header) (taken_end tables image) = end_of-is (is-taken tables image) (most_clusters tables.header) in
    rw same (record {
      first = refl;
      some = omega (arith, some);
      within = omega (arith, place, inside);
      one = is.0.1;
      ends = λ more equal. is.1 (omega (arith, place, more, ends.within)) (ap (part_at tables image) (sym place) ∙ equal);
    })

-- and the image ends before clusters that are free up to the limit
pub free-to-limit : (tables : ImageTables) (image : Image) (cb from to : ℕ) (part : Part) → IsStretch cb (part_at tables image) from (part, to)
    → part ≡ Free → most_clusters tables.header ≤ to → taken_end tables image ≤ from
free-to-limit tables image cb from to part is free last =
    let most = most_clusters tables.header in
    let end = taken_end tables image in
    let ends : IsEnd (is-taken tables image) most end = end_of-is (is-taken tables image) most in
    elim (cases_lt from end) [
      | inr before ↦ before
      | inl after ↦
          let k = end - 1 - from in
          let place : from + k ≡ end - 1 = omega (arith, after) in
          let here : part_at tables image (from + k) ≡ moved_part (k * 2 ^ cb) part = is.1 k (omega (arith, after, ends.within, last)) in
          let free-here : part_at tables image (from + k) ≡ Free = here ∙ ap (λ p. moved_part (k * 2 ^ cb) p) free in
          let taken : is-taken tables image (from + k) ≡ true = ends.last (from + k) (omega (arith, place, after)) in
          absurd (false≢true (sym (ap (λ p. not (is_free p)) free-here) ∙ taken))
    ]

-- the image ends by the limit
pub ends-by-limit : (tables : ImageTables) (image : Image) → taken_end tables image ≤ most_clusters tables.header
ends-by-limit tables image = (end_of-is (is-taken tables image) (most_clusters tables.header)).within

-- a reader that moves twice
pub moves-twice : {A : Type 0} (x : A) (old now : StorageState) (a b c : LayoutState) → OnlyReads (Ok x) old now → MovesLayout old a b → MovesLayout now b c
    → MovesLayout old a c
moves-twice x old now a b c reads one other = record {
  same = rw (other.same, one.same) refl;
  kept = λ told. rw reads.bytes at (other.kept (rw reads.device.tells told));
}

-- what is known later of the image and the tables that a reader reads was so first
pub same-tables : {A : Type 0} (x : A) (Fact : ImageTables → Image → Type 0) (old now : StorageState) (first later : LayoutState) → OnlyReads (Ok x) old now
    → MovesLayout old first later → OnImage now (λ bytes. Fact (layout_tables later) bytes) → OnImage old (λ bytes. Fact (layout_tables first) bytes)
same-tables x Fact old now first later reads moves fact = λ told.
    let tables : layout_tables later ≡ layout_tables first = ap layout_tables moves.same in
    let known : Fact (layout_tables later) now.byte_at = fact (rw reads.device.tells told) in
    subst (λ t. Fact t old.byte_at) tables (subst (λ image. Fact (layout_tables later) image) reads.bytes known)

-- runs are determined by where they begin
no-shorter : (cb : ℕ) (parts : Parts) (end from : ℕ) (one other : Run) → IsRun cb parts end from one → IsRun cb parts end from other → one.count < other.count → ⊥
no-shorter cb parts end from one other is also less =
    let first : parts from ≡ one.part = piece-first cb parts from (from + one.count) one.part (omega (arith, is.some), subst (λ n. AreOne cb parts from n one.part) (omega arith) is.one) in
    let second : parts from ≡ other.part = piece-first cb parts from (from + other.count) other.part (omega (arith, also.some), subst (λ n. AreOne cb parts from n other.part) (omega arith) also.one) in
    let here : parts (from + one.count) ≡ moved_part (one.count * 2 ^ cb) other.part = also.one one.count less in
    is.ends (omega (arith, also.within, less)) (here ∙ ap (λ p. moved_part (one.count * 2 ^ cb) p) (sym second ∙ first))

run-once : (cb : ℕ) (parts : Parts) (end from : ℕ) (one other : Run) → IsRun cb parts end from one → IsRun cb parts end from other → one ≡ other
run-once cb parts end from one other is also =
    let first : parts from ≡ one.part = piece-first cb parts from (from + one.count) one.part (omega (arith, is.some), subst (λ n. AreOne cb parts from n one.part) (omega arith) is.one) in
    let second : parts from ≡ other.part = piece-first cb parts from (from + other.count) other.part (omega (arith, also.some), subst (λ n. AreOne cb parts from n other.part) (omega arith) also.one) in
    let part : one.part ≡ other.part = sym first ∙ second in
    let count : one.count ≡ other.count = elim (cases_lt one.count other.count) [
      | inl less ↦ absurd (no-shorter cb parts end from one other is also less)
      | inr more ↦ elim (cases_lt other.count one.count) [
        | inl less ↦ absurd (no-shorter cb parts end from other one also is less)
        | inr same ↦ omega (arith, more, same)
      ]
    ] in
    grind (arith, part, count, is.first, also.first)

-- an image has one list of runs
pub runs-once : (cb : ℕ) (parts : Parts) (end from : ℕ) (xs ys : List Run) → AreRuns cb parts end from xs → AreRuns cb parts end from ys → xs ≡ ys
runs-once cb parts end from [] [] one other = refl
runs-once cb parts end from [] (y ∷ ys) one other = absurd (omega (arith, one, other.0.some, other.0.within))
runs-once cb parts end from (x ∷ xs) [] one other = absurd (omega (arith, other, one.0.some, one.0.within))
runs-once cb parts end from (x ∷ xs) (y ∷ ys) one other =
    let same : x ≡ y = run-once cb parts end from x y one.0 other.0 in
    let rest : AreRuns cb parts end (from + x.count) ys = subst (λ (r : Run). AreRuns cb parts end (from + r.count) ys) (sym same) other.1 in
    ap (λ r. r ∷ xs) same ∙ ap (λ rs. y ∷ rs) (runs-once cb parts end (from + x.count) xs ys one.1 rest)
