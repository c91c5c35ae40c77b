use Rattle.std.proofs.lemmas.Bool.Decides.{nat_tests}
use Rattle.std.proofs.Common.{◌≡◌, ◌≢◌, ℕ, zero, suc, ◌+◌, ◌-◌, ◌*◌, ◌/◌, ◌^◌, ◌<◌, ◌≤◌, List, [], ◌∷◌, slice_get, Option, Some, None, Result, Ok, Err, ap, refl, sym, ◌∙◌, inl, inr, arith}
use Rattle.std.proofs.lemmas.Bool.{cases_eq}
use Rattle.std.proofs.lemmas.List.Sums.{sum_by-cons}
use Rattle.std.proofs.lemmas.Nat.{div-mul-add}
use Rattle.std.proofs.lemmas.Option.{none-some, slice_get-map}
use Rattle.std.specs.List.{sum_by}
use Rattle.qcow2_base.specs.Storage.{Image, SameOutside}
use Rattle.qcow2_base.specs.declared.fault.Fault.{Fault}
use Rattle.qcow2_base.specs.declared.types.HostCluster.{HostCluster}
use Rattle.qcow2_edits.specs.Edits.{cluster_numbers}
use Rattle.qcow2_edits.specs.declared.edits.Outcome.{Outcome}
use Rattle.qcow2_image.specs.WholeImage.{AreApart, BalancesImage, ChangesOwnLookups, HasTableApart, IsSoundImage, IsWithin, KeepsImageSound, ShareNoByte, first_cluster_bytes, l2_bytes, l2_cluster_in, l2_clusters, table_bytes, bytes_of_tables}
use Rattle.qcow2_metadata.specs.Table.L2Guards.{handed_back, references, times_gained}
use Rattle.qcow2_metadata.specs.Entries.L2Entry.{ByteRange}
use Rattle.qcow2_metadata.specs.Entries.L2Mapping.{Mapping}
use Rattle.qcow2_metadata.specs.Header.{Geometry, HeaderRecord, geometry_of}
use Rattle.qcow2_metadata.specs.Header.Grammar.{header_of}
use Rattle.qcow2_check.specs.NamedTables.{l1_cluster, loaded_l1_table}
use Rattle.qcow2_image.specs.Lookups.{image_mapping, l2_cluster, mapping_by}
use Rattle.qcow2_metadata.specs.Table.{Kind, l1_kind, l2_entries, l2_kind, l2_layout, loaded_l2_table, table_layout, table_numbers}
use Rattle.qcow2_metadata.specs.Placed.{numbers_at, offset_of}
use Rattle.qcow2_metadata.proofs.LawsLemmas.{first-cluster-kept}
use Rattle.qcow2_metadata.proofs.GrammarLemmas.{header_of-is}
use Rattle.qcow2_metadata.proofs.TableLemmas.{full_cluster, table_numbers_same}

-- two images agree but in the L2 table at a cluster
abbrev pub SameOutsideTable : Geometry → HostCluster → Image → Image → Type 0
SameOutsideTable g cluster old new = SameOutside (offset_of (l2_layout g) cluster) (l2_layout g).byte_count old new

-- only the L2 table at a cluster was changed, which shares no byte with the first cluster and the L1 table
pub record ChangesL2Table (header : HeaderRecord) (cluster : HostCluster) (old new : Image) : Type 0 where
  pub apart : HasTableApart (geometry_of header) cluster header old
  pub same : SameOutsideTable (geometry_of header) cluster old new

-- the new image has the old one's bytes in a range
abbrev Keeps : ByteRange → Image → Image → Type 0
Keeps range old new = (o : ℕ) → IsWithin range o → new o ≡ old o

-- the same numbers are at a cluster where a table's bytes are kept
numbers-kept : (kind : Kind) (cb n : ℕ) (cluster : HostCluster) (old new : Image) → Keeps (table_bytes (table_layout kind cb n) cluster) old new
    → table_numbers new (cluster.0 * 2 ^ cb) n ≡ table_numbers old (cluster.0 * 2 ^ cb) n
numbers-kept kind cb n cluster old new kept = table_numbers_same new old (cluster.0 * 2 ^ cb) (cluster.0 * 2 ^ cb) n
    (λ k below. kept (cluster.0 * 2 ^ cb + k) (omega arith, omega (arith, below)))

-- and the same header
pub header-kept : (header : HeaderRecord) (old new : Image) → header_of old ≡ Ok header
    → Keeps (first_cluster_bytes header) old new → header_of new ≡ header_of old
header-kept header old new is kept = first-cluster-kept header old new is (λ o below. kept o (omega arith, below)) ∙ sym is

-- what shares no byte with the table that is changed is kept
kept : (header : HeaderRecord) (cluster : HostCluster) (old new : Image) → ChangesL2Table header cluster old new
    → (range : ByteRange) → ShareNoByte range (l2_bytes (geometry_of header) cluster) → Keeps range old new
kept header cluster old new change range apart = λ o within.
    grind (arith, change.same.before o, change.same.after o, apart o within)

-- the header and the L1 table are
tables-kept : (header : HeaderRecord) (cluster : HostCluster) (old new : Image) → ChangesL2Table header cluster old new
    → (header_of new ≡ Ok header) × (loaded_l1_table header new ≡ loaded_l1_table header old)
tables-kept header cluster old new change =
    let is = change.apart.begins in (
      header-kept header old new is (kept header cluster old new change _ change.apart.first_cluster) ∙ is,
      rw (numbers-kept l1_kind header.v2.cluster_bits header.v2.l1_size (l1_cluster header) old new (kept header cluster old new change _ change.apart.l1_table)) refl,
    )

-- what a guest cluster reads as is kept with its L2 table
mapping-kept : (g : Geometry) (found : Option HostCluster) (guest_cluster : ℕ) (old new : Image)
    → ((cluster : HostCluster) → found ≡ Some cluster → Keeps (l2_bytes g cluster) old new)
    → mapping_by g found guest_cluster new ≡ mapping_by g found guest_cluster old
mapping-kept g None guest_cluster old new kept = refl
mapping-kept g (Some cluster) guest_cluster old new kept = rw (numbers-kept l2_kind g.cluster_bits (l2_entries g.cluster_bits) cluster old new (kept cluster refl)) refl

-- the offsets of other L2 tables read as before
lookup-kept : (header : HeaderRecord) (cluster : HostCluster) (old new : Image) → ChangesL2Table header cluster old new → (offset : ℕ)
    → ((other : HostCluster) → l2_cluster_in offset old ≡ Ok (Some other)
    → ShareNoByte (l2_bytes (geometry_of header) other) (l2_bytes (geometry_of header) cluster))
    → image_mapping offset new ≡ image_mapping offset old
lookup-kept header cluster old new change offset apart = by_answer (loaded_l1_table header old) refl
  where
    by_answer : (answer : Result (List ℕ) Fault) → loaded_l1_table header old ≡ answer
        → image_mapping offset new ≡ image_mapping offset old
    by_answer (Err fault) refusal = let tables = tables-kept header cluster old new change in rw (tables.0, change.apart.begins, tables.1, refusal) refl
    by_answer (Ok l1) there =
        let tables = tables-kept header cluster old new change in
        rw (tables.0, change.apart.begins, tables.1, there) (mapping-kept (geometry_of header) _ _ old new
        (λ other names. kept header cluster old new change _ (apart other (rw (change.apart.begins, there) (ap Ok names)))))

-- the offsets of the table read as it says now
lookup-own : (header : HeaderRecord) (cluster : HostCluster) (old new : Image) → ChangesL2Table header cluster old new → (offset : ℕ) → l2_cluster_in offset old ≡ Ok (Some cluster)
    → image_mapping offset new ≡ mapping_by (geometry_of header) (Some cluster) (offset / 2 ^ header.v2.cluster_bits) new
lookup-own header cluster old new change offset names =
    grind (arith, nat_tests, names, change.apart.begins, tables-kept header cluster old new change)

-- a change of an L2 table reaches the lookups of its own offsets alone
pub keeps-other-lookups : (g : Geometry) (cluster : HostCluster) (old new : Image) → SameOutsideTable g cluster old new
    → (header : HeaderRecord) → HasTableApart g cluster header old → ChangesOwnLookups header cluster old new
keeps-other-lookups g cluster old new outside header has =
    let change : ChangesL2Table header cluster old new = grind (arith, nat_tests, has, outside) in
    record { others = lookup-kept header cluster old new change; own = lookup-own header cluster old new change }

-- L2 tables of two clusters share no byte
pub l2-apart : (g : Geometry) (a b : HostCluster) → 9 ≤ g.cluster_bits → a.0 ≢ b.0 → ShareNoByte (l2_bytes g a) (l2_bytes g b)
l2-apart g a b least differ = λ o in_a in_b. differ (sym (of_byte a o in_a) ∙ of_byte b o in_b)
  where
    of_byte : (c : HostCluster) (o : ℕ) → IsWithin (l2_bytes g c) o → o / 2 ^ g.cluster_bits ≡ c.0
    of_byte c o within =
        let rest : o - c.0 * 2 ^ g.cluster_bits < 2 ^ g.cluster_bits = omega (arith, within.1, full_cluster g.cluster_bits least) in
        let whole : o ≡ c.0 * 2 ^ g.cluster_bits + (o - c.0 * 2 ^ g.cluster_bits) = omega (arith, within.0) in
        rw whole (div-mul-add c.0 (2 ^ g.cluster_bits) _ rest)

-- a sum of the same terms
sum-same : (f h : HostCluster → ℕ) (xs : List HostCluster)
    → ((j : ℕ) (y : HostCluster) → slice_get xs j ≡ Some y → h y ≡ f y) → sum_by h xs ≡ sum_by f xs
sum-same f h [] same = refl
sum-same f h (y ∷ ys) same = omega (arith, sum_by-cons h y ys, sum_by-cons f y ys, same 0 y refl, sum-same f h ys (λ j. same (suc j)))

-- a sum in which one term alone changes
sum-one : (f h : HostCluster → ℕ) (xs : List HostCluster) (k : ℕ) (x : HostCluster) (a b : ℕ)
    → slice_get xs k ≡ Some x → h x + a ≡ f x + b
    → ((j : ℕ) (y : HostCluster) → j ≢ k → slice_get xs j ≡ Some y → h y ≡ f y)
    → sum_by h xs + a ≡ sum_by f xs + b
sum-one f h [] k x a b found change others = absurd (none-some x found)
sum-one f h (y ∷ ys) zero x a b found change others =
    grind (arith, nat_tests, sum_by-cons, sum-same f h ys (λ j z. others (suc j) z (λ is. omega (arith, is))))
sum-one f h (y ∷ ys) (suc k) x a b found change others =
    let first = others 0 y (λ is. omega (arith, is)) refl in
    let rest = sum-one f h ys k x a b found change (λ j z differs. others (suc j) z (λ is. differs (omega (arith, is)))) in
    grind (arith, nat_tests, sum_by-cons, first, rest)

-- the bytes of an L2 table, among those of all tables
table-bytes : (header : HeaderRecord) (l1 : List ℕ) (cluster : HostCluster) (k : ℕ)
    → slice_get (l2_clusters header.v2.cluster_bits l1) k ≡ Some cluster
    → slice_get (bytes_of_tables header l1) (suc (suc k)) ≡ Some (l2_bytes (geometry_of header) cluster)
table-bytes header l1 cluster k found = grind (arith, nat_tests, slice_get-map)

-- references in the L2 table at a cluster
abbrev BalancesTable : Geometry → HostCluster → Outcome → Image → Image → Type 0
BalancesTable g cluster outcome old new = (c : ℕ) →
    references g (numbers_at (l2_layout g) cluster new) c + handed_back outcome.freed.items c
    ≡ references g (numbers_at (l2_layout g) cluster old) c + times_gained (cluster_numbers outcome.gained.items) c

-- what one L2 table loses and gains, the image does
balances-image : (header : HeaderRecord) (l1 : List ℕ) (cluster : HostCluster) (k : ℕ) (outcome : Outcome) (old new : Image)
    → AreApart (bytes_of_tables header l1) → slice_get (l2_clusters header.v2.cluster_bits l1) k ≡ Some cluster
    → ChangesL2Table header cluster old new
    → BalancesTable (geometry_of header) cluster outcome old new → BalancesImage (geometry_of header) l1 outcome old new
balances-image header l1 cluster k outcome old new apart found change balance = λ c.
    let g = geometry_of header in
    sum-one (λ table. references g (numbers_at (l2_layout g) table old) c) (λ table. references g (numbers_at (l2_layout g) table new) c)
    (l2_clusters g.cluster_bits l1) k cluster (handed_back outcome.freed.items c) (times_gained (cluster_numbers outcome.gained.items) c) found (balance c)
    (λ j table differs there. ap (λ numbers. references g numbers c) (numbers-kept l2_kind g.cluster_bits (l2_entries g.cluster_bits) table old new
    (kept header cluster old new change _ (apart (suc (suc j)) (suc (suc k)) _ _ (λ is. differs (omega (arith, is)))
    (table-bytes header l1 table j there) (table-bytes header l1 cluster k found)))))

-- an image in which all can be read is such an image after a change of an L2 table to one that can be read
stays-sound : (header : HeaderRecord) (l1 : List ℕ) (cluster : HostCluster) (numbers : List ℕ) (old new : Image)
    → IsSoundImage old header l1 → ChangesL2Table header cluster old new
    → loaded_l2_table (geometry_of header) cluster new ≡ Ok numbers → IsSoundImage new header l1
stays-sound header l1 cluster numbers old new sound change loads = record {
  begins = tables.0;
  l1_table = tables.1 ∙ sound.l1_table;
  readable = λ offset. read offset (l2_cluster header.v2.cluster_bits l1 (offset / 2 ^ header.v2.cluster_bits)) refl;
  apart = sound.apart;
}
  where
    tables : (header_of new ≡ Ok header) × (loaded_l1_table header new ≡ loaded_l1_table header old)
    tables = tables-kept header cluster old new change

    reads : (offset : ℕ) → image_mapping offset new
        ≡ mapping_by (geometry_of header) (l2_cluster header.v2.cluster_bits l1 (offset / 2 ^ header.v2.cluster_bits)) (offset / 2 ^ header.v2.cluster_bits) new
    reads offset = rw (tables.0, tables.1, sound.l1_table) refl

    read : (offset : ℕ) (found : Option HostCluster) → l2_cluster header.v2.cluster_bits l1 (offset / 2 ^ header.v2.cluster_bits) ≡ found
        → (mapping : Mapping) × (image_mapping offset new ≡ Ok mapping)
    read offset None is = (_, rw is at (reads offset))
    read offset (Some other) is = elim (cases_eq other.0 cluster.0) [
      | inl same ↦ let own : other ≡ cluster = λ i. record { 0 = same i } in (_, rw (is, own, loads) at (reads offset))
      | inr differs ↦
          let before = sound.readable offset in (
            before.0,
            lookup-kept header cluster old new change offset (λ table names.
                let named : Ok (Some other) ≡ Ok (Some table) = rw (sound.begins, sound.l1_table, is) at names in
                l2-apart (geometry_of header) table cluster (header_of-is old header change.apart.begins).cluster_bits.0 (λ is_cluster. differs (cc))) ∙ before.1,
          )
    ]

-- a write of one of its L2 tables keeps an image sound
sound-after : (header : HeaderRecord) (l1 : List ℕ) (cluster : HostCluster) (outcome : Outcome) (numbers : List ℕ) (old new : Image)
    → IsSoundImage old header l1 → (k : ℕ) × (slice_get (l2_clusters header.v2.cluster_bits l1) k ≡ Some cluster) → SameOutsideTable (geometry_of header) cluster old new
    → loaded_l2_table (geometry_of header) cluster new ≡ Ok numbers → BalancesTable (geometry_of header) cluster outcome old new
    → IsSoundImage new header l1 × BalancesImage (geometry_of header) l1 outcome old new
sound-after header l1 cluster outcome numbers old new sound found outside loads balance =
    let at = table-bytes header l1 cluster found.0 found.1 in
    let change : ChangesL2Table header cluster old new = record {
      apart = record {
        begins = sound.begins;
        geometry = refl;
        first_cluster = sound.apart 0 (suc (suc found.0)) _ _ (λ is. omega (arith, is)) refl at;
        l1_table = sound.apart 1 (suc (suc found.0)) _ _ (λ is. omega (arith, is)) refl at;
      };
      same = outside;
    } in (
      stays-sound header l1 cluster numbers old new sound change loads,
      balances-image header l1 cluster found.0 outcome old new sound.apart found.1 change balance,
    )

pub keeps-image-sound : (g : Geometry) (cluster : HostCluster) (outcome : Outcome) (numbers : List ℕ) (old new : Image)
    → SameOutsideTable g cluster old new → loaded_l2_table g cluster new ≡ Ok numbers
    → BalancesTable g cluster outcome old new → KeepsImageSound g cluster outcome old new
keeps-image-sound g cluster outcome numbers old new outside loads balance = λ header l1 k sound same found.
    rw (← same) (sound-after header l1 cluster outcome numbers old new sound (k, found)
    (rw (← same) at outside) (rw (← same) at loads) (rw (← same) at balance))
