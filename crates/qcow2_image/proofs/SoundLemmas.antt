use Rattle.std.proofs.Common.{◌≡◌, ◌≢◌, ℕ, zero, suc, ◌*◌, ◌/◌, ◌%◌, ◌^◌, ◌<◌, ◌≤◌, List, [], ◌∷◌, map, slice_get, slice_index, Option, Some, None, Result, Ok, Err, unwrap_or, ap, refl, subst, sym, ◌∙◌, arith}
use Rattle.std.proofs.Math.Nat.{lt_of_mul-lt-mul_right}
use Rattle.std.proofs.lemmas.Bool.Decides.{nat_tests}
use Rattle.std.proofs.lemmas.Grind.{div_ceil_times}
use Rattle.std.proofs.lemmas.Nat.{pow_pos}
use Rattle.std.proofs.lemmas.Option.{none-some}
use Rattle.std.specs.Int.{div_ceil}
use Rattle.qcow2_base.specs.Format.{max_file_length}
use Rattle.qcow2_base.specs.Storage.{Image}
use Rattle.qcow2_base.specs.declared.fault.Fault.{Fault}
use Rattle.qcow2_base.specs.declared.types.HostCluster.{HostCluster}
use Rattle.qcow2_metadata.proofs.GrammarLemmas.{header_of-is}
use Rattle.qcow2_metadata.specs.Entries.L2Entry.{ByteRange}
use Rattle.qcow2_metadata.specs.Entries.L2Mapping.{Mapping, mapping}
use Rattle.qcow2_metadata.specs.Header.{Geometry, HeaderRecord, geometry_of}
use Rattle.qcow2_metadata.specs.Header.Grammar.{header_of}
use Rattle.qcow2_metadata.specs.Table.{l2_entries, loaded_l2_table}
use Rattle.qcow2_summary.proofs.ApartLemmas.{header-once, l1-first-used}
use Rattle.qcow2_check.specs.Findings.{AreRight, checked_tables}
use Rattle.qcow2_check.specs.NamedTables.{l1_cluster, l1_layout, loaded_l1_table, named_cluster}
use Rattle.qcow2_check.specs.Uses.{ImageTables, all_load, l1_entry_loads}
use Rattle.qcow2_image.proofs.ApartLemmas.{apart-where-right}
use Rattle.qcow2_image.proofs.WholeImageLemmas.{l2-apart}
use Rattle.qcow2_image.specs.Lookups.{mapping_by}
use Rattle.qcow2_image.specs.WholeImage.{AreApart, IsSoundImage, ShareNoByte, bytes_of_tables, first_cluster_bytes, l2_bytes, l2_clusters, table_bytes}

-- each L2 table is named by an L1 entry
named-by : (cb : ℕ) (l1 : List ℕ) (j : ℕ) (cluster : HostCluster) → slice_get (l2_clusters cb l1) j ≡ Some cluster
    → (k : ℕ) × (named_cluster cb (slice_index l1 k) ≡ Some cluster)
named-by cb [] j cluster found = absurd (none-some cluster found)
named-by cb (v ∷ vs) j cluster found = by_entry (λ i. named-by cb vs i cluster) (named_cluster cb v) refl j found
  where
    by_entry : ((i : ℕ) → slice_get (l2_clusters cb vs) i ≡ Some cluster → (k : ℕ) × (named_cluster cb (slice_index vs k) ≡ Some cluster))
        → (named : Option HostCluster) → named_cluster cb v ≡ named
        → (j : ℕ) → slice_get (l2_clusters cb (v ∷ vs)) j ≡ Some cluster → (k : ℕ) × (named_cluster cb (slice_index (v ∷ vs) k) ≡ Some cluster)
    by_entry next None is j found = let there = next j (rw is at found) in (suc there.0, there.1)
    by_entry next (Some c) is zero found = (zero, is ∙ (rw is at found))
    by_entry next (Some c) is (suc j) found = let there = next j (rw is at found) in (suc there.0, there.1)

-- an element of a list that a function gives is given of one there
given-by : (f : HostCluster → ByteRange) (clusters : List HostCluster) (j : ℕ) (range : ByteRange) → slice_get (map f clusters) j ≡ Some range
    → (cluster : HostCluster) × (slice_get clusters j ≡ Some cluster) × (f cluster ≡ range)
given-by f [] j range found = absurd (none-some range found)
given-by f (c ∷ cs) zero range found = (c, refl, ap (λ one. unwrap_or one (f c)) found)
given-by f (c ∷ cs) (suc j) range found = given-by f cs j range found

-- the L1 table and the first cluster share no byte where nothing is found of the image
first-l1-apart : (tables : ImageTables) (image : Image) → AreRight tables image 0 max_file_length
    → ShareNoByte (first_cluster_bytes tables.header) (table_bytes (l1_layout tables.header) (l1_cluster tables.header))
first-l1-apart tables image right = λ o in_first in_l1.
    let header = tables.header in
    let size = 2 ^ header.v2.cluster_bits in
    let first = (l1_cluster header).0 in
    let count = div_ceil (8 * header.v2.l1_size) size in
    let fits : 8 * header.v2.l1_size ≤ count * size = (div_ceil_times (8 * header.v2.l1_size) size (pow_pos _)).0 in
    let low : first < 1 = lt_of_mul-lt-mul_right size (omega (arith, in_l1.0, in_first.1)) in
    let some : 0 < count = lt_of_mul-lt-mul_right size (omega (arith, in_l1.0, in_l1.1, fits)) in
    omega (arith, header-once tables image 0 right (omega arith), l1-first-used header (omega (arith, low)) some)

-- all L2 tables that L1 entries name can be loaded, so one can
load-one : (g : Geometry) (image : Image) (l1 : List ℕ) (k : ℕ) → all_load g l1 image ≡ Ok tt → l1_entry_loads g image (slice_index l1 k) ≡ Ok tt
load-one g image [] k loads = grind (arith, nat_tests)
load-one g image (v ∷ vs) zero loads = grind (arith, loads)
load-one g image (v ∷ vs) (suc k) loads = load-one g image vs k (grind (arith, loads))

-- what a guest cluster reads as by it
reads-as : (g : Geometry) (v guest_cluster : ℕ) (image : Image) → l1_entry_loads g image v ≡ Ok tt
    → (found : Mapping) × (mapping_by g (named_cluster g.cluster_bits v) guest_cluster image ≡ Ok found)
reads-as g v guest_cluster image loads = by_name (named_cluster g.cluster_bits v) refl
  where
    by_table : (cluster : HostCluster) → named_cluster g.cluster_bits v ≡ Some cluster → (table : Result (List ℕ) Fault) → loaded_l2_table g cluster image ≡ table
        → (found : Mapping) × (mapping_by g (Some cluster) guest_cluster image ≡ Ok found)
    by_table cluster names (Ok numbers) is = (mapping g guest_cluster (slice_index numbers (guest_cluster % l2_entries g.cluster_bits)), rw is refl)
    by_table cluster names (Err fault) is = absurd (grind (arith, loads, names, is))

    by_name : (named : Option HostCluster) → named_cluster g.cluster_bits v ≡ named
        → (found : Mapping) × (mapping_by g named guest_cluster image ≡ Ok found)
    by_name None is = (_, refl)
    by_name (Some cluster) is = by_table cluster is (loaded_l2_table g cluster image) refl

-- no table of an image is named twice
abbrev pub AreNamedOnce : HeaderRecord → List ℕ → Type 0
AreNamedOnce header l1 = (i j : ℕ) (table : HostCluster) → slice_get (l2_clusters header.v2.cluster_bits l1) i ≡ Some table
    → slice_get (l2_clusters header.v2.cluster_bits l1) j ≡ Some table → i ≡ j

-- no two tables share a byte where nothing is found of an image, and no L2 table is named twice
tables-apart : (tables : ImageTables) (image : Image) → header_of image ≡ Ok tables.header → AreRight tables image 0 max_file_length
    → AreNamedOnce tables.header tables.l1 → AreApart (bytes_of_tables tables.header tables.l1)
tables-apart tables image is right once = apart
  where
    g : Geometry
    g = geometry_of tables.header

    clusters : List HostCluster
    clusters = l2_clusters tables.header.v2.cluster_bits tables.l1

    same : {one : ByteRange} (other : ByteRange) → Some one ≡ Some other → one ≡ other
    same {one} other is_same = ap (λ range. unwrap_or range one) is_same

    turned : {one other : ByteRange} → ShareNoByte one other → ShareNoByte other one
    turned share = λ o in_other in_one. share o in_one in_other

    carried : {a b one other : ByteRange} → a ≡ one → b ≡ other → ShareNoByte a b → ShareNoByte one other
    carried {a} {b} {one} {other} first second share = subst (λ range. ShareNoByte range other) first (subst (λ range. ShareNoByte a range) second share)

    fixed : (j : ℕ) (range : ByteRange) → slice_get (map (l2_bytes g) clusters) j ≡ Some range
        → ShareNoByte (first_cluster_bytes tables.header) range × ShareNoByte (table_bytes (l1_layout tables.header) (l1_cluster tables.header)) range
    fixed j range found =
        let given = given-by (l2_bytes g) clusters j range found in
        let named = named-by tables.header.v2.cluster_bits tables.l1 j given.0 given.1 in
        let has = apart-where-right tables image named.0 given.0 is right named.1 in
        (carried refl given.2 has.first_cluster, carried refl given.2 has.l1_table)

    others : (i j : ℕ) (one other : ByteRange) → i ≢ j → slice_get (map (l2_bytes g) clusters) i ≡ Some one
        → slice_get (map (l2_bytes g) clusters) j ≡ Some other → ShareNoByte one other
    others i j one other differ at_i at_j =
        let first = given-by (l2_bytes g) clusters i one at_i in
        let second = given-by (l2_bytes g) clusters j other at_j in
        let apart = l2-apart g first.0 second.0 (header_of-is image tables.header is).cluster_bits.0 (λ same.
        let back = sym same in
        let tables_same : second.0 ≡ first.0 = λ i. record { 0 = back i } in
        differ (once i j first.0 first.1 (second.1 ∙ ap Some tables_same))) in
        carried first.2 second.2 apart

    apart : (i j : ℕ) (one other : ByteRange) → i ≢ j → slice_get (bytes_of_tables tables.header tables.l1) i ≡ Some one
        → slice_get (bytes_of_tables tables.header tables.l1) j ≡ Some other → ShareNoByte one other
    apart zero zero one other differ at_i at_j = absurd (differ refl)
    apart zero (suc zero) one other differ at_i at_j = carried (same one at_i) (same other at_j) (first-l1-apart tables image right)
    apart zero (suc (suc j)) one other differ at_i at_j = carried (same one at_i) refl (fixed j other at_j).0
    apart (suc zero) zero one other differ at_i at_j = carried (same one at_i) (same other at_j) (turned (first-l1-apart tables image right))
    apart (suc zero) (suc zero) one other differ at_i at_j = absurd (differ refl)
    apart (suc zero) (suc (suc j)) one other differ at_i at_j = carried (same one at_i) refl (fixed j other at_j).1
    apart (suc (suc i)) zero one other differ at_i at_j = carried refl (same other at_j) (turned (fixed i one at_i).0)
    apart (suc (suc i)) (suc zero) one other differ at_i at_j = carried refl (same other at_j) (turned (fixed i one at_i).1)
    apart (suc (suc i)) (suc (suc j)) one other differ at_i at_j = others i j one other (λ is_same. differ (ap (λ n. suc (suc n)) is_same)) at_i at_j

-- the L1 table of an image that can be checked, whose L2 tables can all be loaded
checked-parts : (tables : ImageTables) (image : Image) → checked_tables tables.header image ≡ Ok tables
    → (loaded_l1_table tables.header image ≡ Ok tables.l1) × (all_load (geometry_of tables.header) tables.l1 image ≡ Ok tt)
checked-parts tables image checked = (grind (arith, nat_tests, checked), grind (arith, nat_tests, checked))

-- an image that can be checked is sound where nothing is found of it, and no L2 table is named twice
pub sound-where-right : (tables : ImageTables) (image : Image) → header_of image ≡ Ok tables.header → checked_tables tables.header image ≡ Ok tables
    → AreRight tables image 0 max_file_length → AreNamedOnce tables.header tables.l1 → IsSoundImage image tables.header tables.l1
sound-where-right tables image is checked right once =
    let parts = checked-parts tables image checked in
    let g = geometry_of tables.header in
    record {
      begins = is;
      l1_table = parts.0;
      readable = λ offset.
          let guest_cluster = offset / 2 ^ g.cluster_bits in
          let entry = guest_cluster / l2_entries g.cluster_bits in
          let found = reads-as g (slice_index tables.l1 entry) guest_cluster image (load-one g image tables.l1 entry parts.1) in
          (found.0, rw (is, parts.0) found.1);
      apart = tables-apart tables image is right once;
    }
