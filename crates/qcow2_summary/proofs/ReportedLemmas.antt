use Rattle.std.proofs.Common.{◌≡◌, ℕ, zero, suc, Bool, true, false, ◌&&◌, ◌==◌, ◌+◌, ◌/◌, ◌<◌, ◌≤◌, List, [], ◌∷◌, ◌++◌, flat_map, length, nat_lt, slice_index, None, Some, Option, option_map, option_to_list, refl, sym, ap, ◌∙◌, inl, inr, arith}
use Rattle.std.proofs.Math.Nat.{div-le_self}
use Rattle.std.proofs.lemmas.Bool.{cases_eq, cases_lt}
use Rattle.std.proofs.lemmas.Bool.Decides.{nat_tests}
use Rattle.qcow2_base.specs.Format.{max_file_length}
use Rattle.qcow2_base.specs.Storage.{Image}
use Rattle.qcow2_base.specs.declared.types.HostCluster.{HostCluster}
use Rattle.qcow2_metadata.specs.Header.{geometry_of}
use Rattle.qcow2_check.proofs.CountersLemmas.{free_unused, names_inside}
use Rattle.qcow2_check.proofs.FindingsLemmas.{excludes, kind-cons, uses_by_kind}
use Rattle.qcow2_check.proofs.RepeatsLemmas.{again_where}
use Rattle.qcow2_check.specs.Counters.{block_of_cluster, counter_of, counters_each, is_counted_again, unused_counter}
use Rattle.qcow2_check.specs.Findings.{AreRight, finding_at, is_shared, reported_counter, uses_of_kind}
use Rattle.qcow2_check.specs.NamedTables.{named_block}
use Rattle.qcow2_check.specs.Repeats.{is_again}
use Rattle.qcow2_check.specs.Tally.{used_clusters}
use Rattle.qcow2_check.specs.Uses.{ImageTables, block_uses, header_uses, image_uses, l1_entry_uses, uses_of}
use Rattle.qcow2_check.specs.declared.tally.TallyKind.TheVariants.{Fixed}
use Rattle.qcow2_summary.proofs.ApartLemmas.{kind-append, right-apart}

-- a refcount table entry uses the block that it names
entry-uses : (cb v : ℕ) (block : HostCluster) → named_block cb v ≡ Some block → uses_of_kind Fixed (block_uses cb v) block.0 ≡ 1
entry-uses cb v block names =
    ap (λ found. uses_of_kind Fixed (option_to_list (option_map (λ (cluster : HostCluster). used_clusters Fixed cluster 1) found)) block.0) names
    ∙ grind (arith, nat_tests, kind-cons Fixed (used_clusters Fixed block 1) [] block.0)

-- and so do entries of which one names it
pub once-used : (cb : ℕ) (reftable : List ℕ) (k : ℕ) (block : HostCluster) → named_block cb (slice_index reftable k) ≡ Some block
    → 1 ≤ uses_of_kind Fixed (flat_map (block_uses cb) reftable) block.0
once-used cb [] k block names = absurd (grind (arith, nat_tests, names))
once-used cb (v ∷ vs) zero block names = omega (arith, kind-append Fixed (block_uses cb v) (flat_map (block_uses cb) vs) block.0, entry-uses cb v block names)
once-used cb (v ∷ vs) (suc k) block names =
    omega (arith, kind-append Fixed (block_uses cb v) (flat_map (block_uses cb) vs) block.0, once-used cb vs k block names)

-- twice, where two name it
pub twice-used : (cb : ℕ) (reftable : List ℕ) (i j : ℕ) (block : HostCluster) → i < j → named_block cb (slice_index reftable i) ≡ Some block
    → named_block cb (slice_index reftable j) ≡ Some block → 2 ≤ uses_of_kind Fixed (flat_map (block_uses cb) reftable) block.0
twice-used cb [] i j block less first second = absurd (grind (arith, nat_tests, first))
twice-used cb (v ∷ vs) zero zero block less first second = absurd (omega (arith, less))
twice-used cb (v ∷ vs) zero (suc j) block less first second =
    omega (arith, kind-append Fixed (block_uses cb v) (flat_map (block_uses cb) vs) block.0, entry-uses cb v block first, once-used cb vs j block second)
twice-used cb (v ∷ vs) (suc i) zero block less first second = absurd (omega (arith, less))
twice-used cb (v ∷ vs) (suc i) (suc j) block less first second =
    omega (arith, kind-append Fixed (block_uses cb v) (flat_map (block_uses cb) vs) block.0, twice-used cb vs i j block (omega (arith, less)) first second)

-- no cluster of an image has uses that exclude each other
abbrev pub AreUnshared : ImageTables → Image → Type 0
AreUnshared tables image = (c : ℕ) → c < max_file_length → is_shared (image_uses tables image) c ≡ false

-- so it is where nothing is found
pub right-unshared : (tables : ImageTables) (image : Image) → AreRight tables image 0 max_file_length → AreUnshared tables image
right-unshared tables image right = λ c below. right-apart (finding_at tables image c) (right c (omega arith) below)

-- no two entries of the refcount table name one block that lies below the greatest end
abbrev pub AreNamedOnce : ImageTables → Type 0
AreNamedOnce tables = (i j : ℕ) (block : HostCluster) → block.0 < max_file_length → i < j
    → named_block tables.header.v2.cluster_bits (slice_index tables.reftable i) ≡ Some block
    → named_block tables.header.v2.cluster_bits (slice_index tables.reftable j) ≡ Some block → ⊥

-- so it is where no uses exclude each other
unshared-once : (tables : ImageTables) (image : Image) → AreUnshared tables image → AreNamedOnce tables
unshared-once tables image unshared i j block below less first second =
    let cb = tables.header.v2.cluster_bits in
    let uses = image_uses tables image in
    let blocks = flat_map (block_uses cb) tables.reftable in
    let last = flat_map (l1_entry_uses (geometry_of tables.header) image) tables.l1 in
    let twice = twice-used cb tables.reftable i j block less first second in
    let parts = kind-append Fixed (header_uses tables.header) (blocks ++ last) block.0 in
    let more = kind-append Fixed blocks last block.0 in
    let apart = excludes uses block.0 (unshared block.0 below) in
    let one : uses_of uses block.0 ≡ 1 = apart.0 (omega (arith, twice, parts, more)) in
    omega (arith, twice, parts, more, uses_by_kind uses block.0, one)

-- then no block is counted again
never-again : (tables : ImageTables) (c : ℕ) → AreNamedOnce tables
    → (block : HostCluster) → block_of_cluster tables.header tables.reftable c ≡ Some block
    → is_counted_again tables.header tables.reftable c ≡ true → ⊥
never-again tables c once block names again =
    let cb = tables.header.v2.cluster_bits in
    let index = c / counters_each tables.header in
    let inside = names_inside cb tables.reftable index block names in
    let both : (is_again tables.reftable index ≡ true) × (slice_index tables.reftable index < max_file_length) = grind (arith, nat_tests, again) in
    let earlier = again_where tables.reftable index inside.0 both.0 in
    let first : named_block cb (slice_index tables.reftable earlier.0) ≡ Some block = ap (λ v. named_block cb v) earlier.2 ∙ names in
    let is : block.0 ≤ slice_index tables.reftable index = grind (arith, nat_tests, names, inside.1, div-le_self) in
    once earlier.0 index block (omega (arith, is, both.1)) earlier.1 first names

-- and each counter is reported
pub once-reported : (tables : ImageTables) (image : Image) (c : ℕ) → AreNamedOnce tables
    → reported_counter tables image c ≡ counter_of tables.header tables.reftable image c
once-reported tables image c once = by_block (block_of_cluster tables.header tables.reftable c) refl
  where
    same : unused_counter tables.header tables.reftable image c ≡ counter_of tables.header tables.reftable image c
        → reported_counter tables image c ≡ counter_of tables.header tables.reftable image c
    same unused = elim (cases_eq (uses_of (image_uses tables image) c) 0) [
      | inl none ↦ grind (arith, nat_tests, none, unused)
      | inr some ↦ grind (arith, nat_tests, some)
    ]

    by_test : (block : HostCluster) → block_of_cluster tables.header tables.reftable c ≡ Some block → (again : Bool)
        → is_counted_again tables.header tables.reftable c ≡ again → reported_counter tables image c ≡ counter_of tables.header tables.reftable image c
    by_test block names true is = absurd (never-again tables c once block names is)
    by_test block names false is = same (rw is refl)

    by_block : (found : Option HostCluster) → block_of_cluster tables.header tables.reftable c ≡ found
        → reported_counter tables image c ≡ counter_of tables.header tables.reftable image c
    by_block None none =
        let free : counter_of tables.header tables.reftable image c ≡ 0 = rw (none, counter_of) refl in
        same (free_unused tables.header tables.reftable image c free ∙ sym free)
    by_block (Some block) names = by_test block names (is_counted_again tables.header tables.reftable c) refl

pub unshared-reported : (tables : ImageTables) (image : Image) (c : ℕ) → AreUnshared tables image
    → reported_counter tables image c ≡ counter_of tables.header tables.reftable image c
unshared-reported tables image c unshared = once-reported tables image c (unshared-once tables image unshared)

-- so each is the number of uses where nothing is found
pub counters-right : (tables : ImageTables) (image : Image) (c : ℕ) → AreRight tables image 0 max_file_length → c < max_file_length
    → counter_of tables.header tables.reftable image c ≡ uses_of (image_uses tables image) c
counters-right tables image c right below =
    let is : reported_counter tables image c ≡ uses_of (image_uses tables image) c = grind (arith, nat_tests, right c (omega arith) below) in
    sym (unshared-reported tables image c (right-unshared tables image right)) ∙ is

-- none is reported as more than it is
pub reported-within : (tables : ImageTables) (image : Image) (c : ℕ)
    → reported_counter tables image c ≤ counter_of tables.header tables.reftable image c
reported-within tables image c = by_tests (uses_of (image_uses tables image) c == 0) refl (is_counted_again tables.header tables.reftable c) refl
  where
    by_tests : (none : Bool) → (uses_of (image_uses tables image) c == 0) ≡ none → (again : Bool) → is_counted_again tables.header tables.reftable c ≡ again
        → reported_counter tables image c ≤ counter_of tables.header tables.reftable image c
    by_tests false is again so = rw is (omega arith)
    by_tests true is true so = rw (is, so) (omega arith)
    by_tests true is false so = rw (is, so) (omega arith)
