use Rattle.std.proofs.Common.{◌≡◌, ℕ, zero, suc, Bool, true, false, not, ◌||◌, ◌+◌, ◌*◌, ◌^◌, ◌≤◌, List, [], ◌∷◌, map, nat_lt, Option, Some, None, refl, sym, ap, ◌∙◌, arith}
use Rattle.std.specs.Prelude.{is_some}
use Rattle.std.proofs.lemmas.Bool.{true≢false}
use Rattle.std.proofs.lemmas.Bool.Decides.{nat_tests}
use Rattle.std.proofs.lemmas.Nat.{mul-le}
use Rattle.qcow2_summary.proofs.ImageEndLemmas.{end_of-is}
use Rattle.std.proofs.lemmas.List.Sums.{sum_by-cons}
use Rattle.qcow2_base.specs.Storage.{Image}
use Rattle.qcow2_metadata.specs.Entries.{is_among}
use Rattle.qcow2_metadata.specs.Table.L2Guards.{one_if}
use Rattle.qcow2_check.proofs.CountingLemmas.{walked_uses}
use Rattle.qcow2_check.specs.Counters.{counter_of, is_counted_again, unused_counter}
use Rattle.qcow2_summary.specs.ImageEnd.{end_of, image_end, is_counted, is_in_use, most_clusters}
use Rattle.qcow2_check.specs.Tally.{ClusterUse}
use Rattle.qcow2_check.specs.Uses.{ImageTables, image_uses, uses_of}
use Rattle.qcow2_check.specs.Walk.{counted_use, use_list}
use Rattle.qcow2_check.specs.declared.uses.Use.{Use}
use Rattle.qcow2_check.specs.declared.uses.UseKind.{UseKind}
use Rattle.qcow2_check.specs.declared.uses.UseKind.TheVariants as kind
use Rattle.qcow2_layout.proofs.PartsLemmas.{at-none, at-use}
use Rattle.qcow2_layout.specs.Parts.{is_free, taken_end, part_at, part_of, unused_part, use_in}
use Rattle.qcow2_layout.specs.declared.parts.Part.TheVariants.{Free, Leaked}

-- whether some uses have cluster c, of either kind of list
abbrev used : List ClusterUse → ℕ → Bool
used [] c = false
used (u ∷ us) c = is_among u.clusters c || used us c

abbrev placed : List Use → ℕ → Bool
placed [] c = false
placed (u ∷ us) c = is_among u.clusters c || placed us c

some-sum : (one : Bool) (n : ℕ) → nat_lt 0 (one_if one + n) ≡ one || nat_lt 0 n
some-sum true n = grind (arith, nat_tests)
some-sum false n = grind (arith, nat_tests)

used-is : (us : List ClusterUse) (c : ℕ) → nat_lt 0 (uses_of us c) ≡ used us c
used-is [] c = refl
used-is (u ∷ us) c =
    ap (λ n. nat_lt 0 n) (sum_by-cons (λ (w : ClusterUse). one_if (is_among w.clusters c)) u us)
    ∙ some-sum (is_among u.clusters c) (uses_of us c) ∙ ap (λ b. is_among u.clusters c || b) (used-is us c)

placed-is : (us : List Use) (c : ℕ) → is_some (use_in us c) ≡ placed us c
placed-is [] c = refl
placed-is (u ∷ us) c = by_use (is_among u.clusters c) refl (placed-is us c)
  where
    by_use : (has : Bool) → is_among u.clusters c ≡ has → is_some (use_in us c) ≡ placed us c → is_some (use_in (u ∷ us) c) ≡ placed (u ∷ us) c
    by_use true is rest = rw is refl
    by_use false is rest = rw is rest

or-true : (b : Bool) → b || true ≡ true
or-true true = refl
or-true false = refl

-- the same clusters have uses as parts and as a tally counts them
same-uses : (uses : List Use) (c : ℕ) → placed uses c ≡ used (map counted_use uses) c
same-uses [] c = refl
same-uses (u ∷ us) c = ap (λ b. is_among u.clusters c || b) (same-uses us c)

-- no use is one as free clusters, so a cluster with a use isn't free
taken-part : (cb : ℕ) (k : UseKind) (owner : ℕ) → is_free (part_of cb k owner) ≡ false
taken-part cb kind.Header owner = refl
taken-part cb kind.L1Table owner = refl
taken-part cb kind.RefcountTable owner = refl
taken-part cb kind.EncryptionHeader owner = refl
taken-part cb kind.RefcountBlock owner = refl
taken-part cb kind.L2Table owner = refl
taken-part cb kind.Data owner = refl
taken-part cb kind.Compressed owner = refl

-- whether cluster c, where nothing uses it, has a counter that isn't reported as 0
abbrev is_leaked_at : ImageTables → Image → ℕ → Bool
is_leaked_at tables image c = nat_lt 0 (unused_counter tables.header tables.reftable image c)

-- a cluster isn't free just where it has such a counter or a use
taken-is : (tables : ImageTables) (image : Image) (c : ℕ)
    → not (is_free (part_at tables image c)) ≡ is_leaked_at tables image c || is_some (use_in (use_list tables image) c)
taken-is tables image c = by_use (use_in (use_list tables image) c) refl (is_leaked_at tables image c) refl
  where
    by_use : (found : Option Use) → use_in (use_list tables image) c ≡ found → (counted : Bool) → is_leaked_at tables image c ≡ counted
        → not (is_free (part_at tables image c)) ≡ is_leaked_at tables image c || is_some (use_in (use_list tables image) c)
    by_use (Some u) is counted says =
        let taken = taken-part tables.header.v2.cluster_bits u.kind u.owner in
        let first : not (is_free (part_at tables image c)) ≡ true = ap (λ p. not (is_free p)) (at-use tables image c u is) ∙ ap not taken in
        rw (is, says) (first ∙ sym (or-true counted))
    by_use None is true says =
        let here : part_at tables image c ≡ unused_part (unused_counter tables.header tables.reftable image c) = at-none tables image c is in
        let leaked : unused_part (unused_counter tables.header tables.reftable image c) ≡ Leaked = grind (arith, nat_tests, says) in
        rw (is, says) (ap (λ p. not (is_free p)) (here ∙ leaked))
    by_use None is false says =
        let here : part_at tables image c ≡ unused_part (unused_counter tables.header tables.reftable image c) = at-none tables image c is in
        let free : unused_part (unused_counter tables.header tables.reftable image c) ≡ Free = grind (arith, nat_tests, says) in
        rw (is, says) (ap (λ p. not (is_free p)) (here ∙ free))

-- so it is by the uses that a tally counts
taken-where : (tables : ImageTables) (image : Image) (c : ℕ)
    → not (is_free (part_at tables image c)) ≡ is_leaked_at tables image c || nat_lt 0 (uses_of (image_uses tables image) c)
taken-where tables image c =
    let uses = use_list tables image in
    taken-is tables image c ∙ ap (λ b. is_leaked_at tables image c || b) (placed-is uses c ∙ same-uses uses c
    ∙ sym (used-is (map counted_use uses) c) ∙ ap (λ n. nat_lt 0 n) (walked_uses tables image c))

-- ends of tests that agree
end-same : (one other : ℕ → Bool) (n : ℕ) → ((c : ℕ) → one c ≡ other c) → end_of one n ≡ end_of other n
unfolding end_of
end-same one other zero same = refl
end-same one other (suc n) same = rw (same n, end-same one other n same) refl

-- and of tests of which one holds wherever the other does
end-below : (one other : ℕ → Bool) (n : ℕ) → ((c : ℕ) → one c ≡ true → other c ≡ true) → end_of one n ≤ end_of other n
unfolding end_of
end-below one other zero follows = omega arith
end-below one other (suc n) follows = by_tests (one n) refl (other n) refl (end-below one other n follows) (end_of-is other n).within
  where
    by_tests : (first : Bool) → one n ≡ first → (second : Bool) → other n ≡ second → end_of one n ≤ end_of other n → end_of other n ≤ n
        → end_of one (suc n) ≤ end_of other (suc n)
    by_tests true is true so before within = rw (is, so) (omega arith)
    by_tests true is false so before within = absurd (true≢false (sym (follows n is) ∙ so))
    by_tests false is true so before within = rw (is, so) (omega (arith, before, within))
    by_tests false is false so before within = rw (is, so) before

-- what is reported of a cluster is its counter, or nothing
leaked-counted : (tables : ImageTables) (image : Image) (c : ℕ) → is_leaked_at tables image c ≡ true → is_counted tables.header tables.reftable image c ≡ true
leaked-counted tables image c leaked = by_test (is_counted_again tables.header tables.reftable c) refl
  where
    by_test : (again : Bool) → is_counted_again tables.header tables.reftable c ≡ again → is_counted tables.header tables.reftable image c ≡ true
    by_test true is =
        let none : unused_counter tables.header tables.reftable image c ≡ 0 = rw is refl in
        absurd (grind (arith, nat_tests, none, leaked))
    by_test false is =
        let same : unused_counter tables.header tables.reftable image c ≡ counter_of tables.header tables.reftable image c = rw is refl in
        grind (arith, nat_tests, same, leaked)

or-first : (a b c : Bool) → (a ≡ true → c ≡ true) → a || b ≡ true → c || b ≡ true
or-first true b c follows both = rw (follows refl) refl
or-first false b true follows both = refl
or-first false b false follows both = both

-- a layout ends where the image does, where no block is named twice
pub same-end : (tables : ImageTables) (image : Image) → ((c : ℕ) → is_counted_again tables.header tables.reftable c ≡ false)
    → taken_end tables image * 2 ^ tables.header.v2.cluster_bits ≡ image_end tables image
same-end tables image once =
    let same = λ (c : ℕ). let all : unused_counter tables.header tables.reftable image c ≡ counter_of tables.header tables.reftable image c = rw (once c) refl in all in
    let each = λ (c : ℕ). taken-where tables image c ∙ ap (λ n. nat_lt 0 n || nat_lt 0 (uses_of (image_uses tables image) c)) (same c) in
    ap (λ n. n * 2 ^ tables.header.v2.cluster_bits)
    (end-same (λ c. not (is_free (part_at tables image c))) (is_in_use tables image) (most_clusters tables.header) each)

-- and never after it
pub end-within : (tables : ImageTables) (image : Image) → taken_end tables image * 2 ^ tables.header.v2.cluster_bits ≤ image_end tables image
end-within tables image =
    let size = 2 ^ tables.header.v2.cluster_bits in
    let below = end-below (λ c. not (is_free (part_at tables image c))) (is_in_use tables image) (most_clusters tables.header)
    (λ c taken. or-first (is_leaked_at tables image c) (nat_lt 0 (uses_of (image_uses tables image) c)) (is_counted tables.header tables.reftable image c)
    (leaked-counted tables image c) (sym (taken-where tables image c) ∙ taken)) in
    mul-le _ size _ size below (omega arith)
