use Rattle.std.proofs.Common.{ap, ◌≡◌, ℕ, Bool, true, false, ◌&&◌, ◌==◌, if◌then◌else◌, ◌+◌, ◌-◌, ◌*◌, ◌/◌, ◌^◌, ◌<◌, ◌≤◌, ◌↔◌, Option, Some, None, option_map, unwrap_or, option_to_list, IfSome, List, [], ◌∷◌, length, slice_index, refl, arith, length-set, ◌≢◌, ◌++◌, All, sym, ◌∙◌}
use Rattle.std.proofs.lemmas.Nat.{div-mul-add, mul-le, pow_pos}
use Rattle.std.proofs.Math.Nat.{mul-div_cancel}
use Rattle.std.proofs.lemmas.Bool.Decides.{nat_tests}
use Rattle.std.proofs.lemmas.List.{append_assoc, get_or-set_other, get_or-set_same}
use Rattle.std.proofs.lemmas.List.Elements.{All-head, All-tail}
use Rattle.std.proofs.lemmas.List.Sums.{sum_by-append, sum_by-set}
use Rattle.std.specs.List.{list_all}
use Rattle.qcow2_base.specs.Bits.{field}
use Rattle.qcow2_base.specs.Types.{IsClusterBits}
use Rattle.qcow2_metadata.specs.Header.{Geometry}
use Rattle.qcow2_metadata.specs.declared.entries.ClustersToFreeEntry.{ClustersToFreeEntry}
use Rattle.qcow2_metadata.specs.Entries.L2Entry.{ByteRange, Meets, allocation, byte_range, clusters_met, has_host_cluster, is_compressed, meets, with_zero_flag, l2_fault}
use Rattle.qcow2_metadata.specs.Entries.L2Mapping.{data_file, entry_of}
use Rattle.qcow2_metadata.specs.Entries.{is_among, offset_field}
use Rattle.qcow2_metadata.proofs.EntriesLemmas.{allocation_is, meets_is_met, offset_in_sectors}
use Rattle.qcow2_metadata.specs.Table.L2Guards.{EntryEdit, GivesUp, TableEdit, after_edit, can_be_made, entry_after, clusters_freed_by, fits_table, cluster_gained_by, handed_back, is_just, is_mappable, keeps_clusters, one_if, references, run_of, times_gained, to_data, to_nothing, to_zeros}

-- an entry of data in a host cluster at an offset: it is standard and copied, with no reserved bit
record IsDataAt (v offset : ℕ) : Type 0 where
  standard : field v 62 1 ≡ 0
  at : offset_field v ≡ offset
  copied : field v 63 1 ≡ 1
  high : field v 56 6 ≡ 0

data_entry_is_data : (g : Geometry) (cluster : ℕ) → IsClusterBits g.cluster_bits → is_mappable g cluster ≡ true → IsDataAt (entry_of g.cluster_bits (data_file cluster true)) (cluster * 2 ^ g.cluster_bits)
data_entry_is_data g cluster bits mappable = grind (arith, nat_tests, offset_in_sectors)

second_holds : (a b : Bool) → (a && b) ≡ true → b ≡ true
second_holds a b both = grind arith

-- the bytes of one cluster
abbrev bytes_of_cluster : ℕ → ℕ → ByteRange
bytes_of_cluster cb cluster = record { start = cluster * 2 ^ cb; end = cluster * 2 ^ cb + 2 ^ cb }

data_range : (g : Geometry) (cluster : ℕ) → IsClusterBits g.cluster_bits → is_mappable g cluster ≡ true → byte_range g (entry_of g.cluster_bits (data_file cluster true)) ≡ Some (bytes_of_cluster g.cluster_bits cluster)
data_range g cluster bits mappable = grind (arith, nat_tests, data_entry_is_data, mul-le, pow_pos)

-- these clusters are the one alone
abbrev pub just : ℕ → ClustersToFreeEntry
just cluster = record { first = record { 0 = cluster }; count = record { 0 = 1 } }

clusters_of_one : (cb cluster : ℕ) → clusters_met cb (bytes_of_cluster cb cluster) ≡ just cluster
clusters_of_one cb cluster =
    let positive = pow_pos cb in
    let first : cluster * 2 ^ cb / 2 ^ cb ≡ cluster = mul-div_cancel cluster positive in
    let within : cluster * 2 ^ cb + 2 ^ cb - 1 ≡ cluster * 2 ^ cb + (2 ^ cb - 1) = omega arith in
    let last : (cluster * 2 ^ cb + 2 ^ cb - 1) / 2 ^ cb ≡ cluster = rw within (div-mul-add cluster (2 ^ cb) (2 ^ cb - 1) (omega arith)) in
    let count : (clusters_met cb (bytes_of_cluster cb cluster)).count.0 ≡ 1 = omega (arith, last, first) in
    rw (count, first) refl

-- a data entry refers to its host cluster, and no other
pub data_entry-allocation : (g : Geometry) (cluster : ℕ) → IsClusterBits g.cluster_bits → is_mappable g cluster ≡ true → allocation g (entry_of g.cluster_bits (data_file cluster true)) ≡ Some (just cluster)
data_entry-allocation g cluster bits mappable =
    rw (data_range g cluster bits mappable, clusters_of_one g.cluster_bits cluster) refl

-- whether these clusters, if there are any, have this one among them
abbrev refer : Option ClustersToFreeEntry → ℕ → Bool
refer found c = unwrap_or (option_map (λ clusters. is_among clusters c) found) false

pub data_entry-meets : (g : Geometry) (cluster c : ℕ) → IsClusterBits g.cluster_bits → is_mappable g cluster ≡ true → meets g (entry_of g.cluster_bits (data_file cluster true)) c ≡ (cluster == c)
data_entry-meets g cluster c bits mappable = rw (data_entry-allocation g cluster bits mappable) (grind (arith, nat_tests))

pub standard_if_host_cluster : (g : Geometry) (v : ℕ) → has_host_cluster g v ≡ true → is_compressed v ≡ false
standard_if_host_cluster g v has = grind arith

-- an entry that has a host cluster refers to the same with the zero flag
pub with_zero_flag-allocation : (g : Geometry) (v : ℕ) → has_host_cluster g v ≡ true → allocation g (with_zero_flag v) ≡ allocation g v
with_zero_flag-allocation g v has =
    let standard = standard_if_host_cluster g v has in
    let same : byte_range g (with_zero_flag v) ≡ byte_range g v = grind arith in
    rw same refl

-- zeros with no host cluster, and an entry that is cleared, refer to nothing
pub allocation-one : (g : Geometry) → allocation g 1 ≡ None
allocation-one g = grind arith

pub allocation-zero : (g : Geometry) → allocation g 0 ≡ None
allocation-zero g = grind arith

-- clusters one after another are the one alone just where they have it among them and no other
just_is_all : (cluster : ℕ) (found : Option ClustersToFreeEntry) → IfSome found (λ some. 1 ≤ some.count.0) → (is_just cluster found ≡ true) ↔ ((refer found cluster ≡ true) × ((c : ℕ) → refer found c ≡ true → c ≡ cluster))
just_is_all cluster None some = (λ just. cc, λ both. cc)
just_is_all cluster (Some clusters) some = (
  λ just. (grind (arith, nat_tests), λ c among. grind (arith, nat_tests)),
  λ both.
      let first = both.1 clusters.first.0 (grind (arith, nat_tests)) in
      let second = both.1 (clusters.first.0 + 1) in
      grind (arith, nat_tests, second),
)

some_clusters : (cb : ℕ) (found : Option ByteRange) → IfSome (option_map (clusters_met cb) found) (λ some. 1 ≤ some.count.0)
some_clusters cb found = grind arith

-- an entry goes on referring to all that it refers to just where that is the cluster that it is mapped to
pub keeps-just : (g : Geometry) (cluster v : ℕ) → (keeps_clusters g (to_data cluster) v ≡ true) ↔ (Meets g v cluster × ((c : ℕ) → Meets g v c → c ≡ cluster))
keeps-just g cluster v =
    let just = just_is_all cluster (allocation g v) (some_clusters g.cluster_bits (byte_range g v)) in (
      λ keeps_clusters. let both = just.0 keeps_clusters in ((meets_is_met g v cluster).0 both.0, λ c met. both.1 c ((meets_is_met g v c).1 met)),
      λ both. just.1 ((meets_is_met g v cluster).1 both.0, λ c meets. both.1 c ((meets_is_met g v c).0 meets)),
    )

-- so an entry that is mapped to a cluster gives up what the change drops
pub gives_up : (g : Geometry) (v cluster : ℕ) → IsClusterBits g.cluster_bits → GivesUp g v cluster (clusters_freed_by g (to_data cluster) v)
gives_up g v cluster bits = record {
  same = λ just. ap (λ (kept : Bool). if kept then None else allocation g v) ((keeps-just g cluster v).1 just);
  others = λ differs. rw (not_kept (keeps_clusters g (to_data cluster) v) (λ kept. differs ((keeps-just g cluster v).0 kept))) (allocation_is g v (omega (arith, bits.0)));
}
  where
    not_kept : (kept : Bool) → (kept ≡ true → ⊥) → kept ≡ false
    not_kept true never = absurd (never refl)
    not_kept false never = refl

handed_back-option : (found : Option ClustersToFreeEntry) (c : ℕ) → handed_back (option_to_list found) c ≡ one_if (refer found c)
handed_back-option found c = grind arith

mapped_balances : (cluster : ℕ) (found : Option ClustersToFreeEntry) (c : ℕ) (kept : Bool) → is_just cluster found ≡ kept → one_if (cluster == c) + handed_back (option_to_list (if kept then None else found)) c ≡ one_if (refer found c) + times_gained (option_to_list (if kept then None else Some cluster)) c
mapped_balances cluster found c kept just = grind (arith, nat_tests, handed_back-option found c)

zeros_balance : (g : Geometry) (v c : ℕ) (kept : Bool) → (kept ≡ true → has_host_cluster g v ≡ true) → one_if (meets g (if kept then with_zero_flag v else 1) c) + handed_back (option_to_list (if kept then None else allocation g v)) c ≡ one_if (meets g v c) + times_gained [] c
zeros_balance g v c true has = rw (with_zero_flag-allocation g v (has refl)) refl
zeros_balance g v c false has = rw (allocation-one g, handed_back-option (allocation g v) c) (omega arith)

-- a change hands back as many references to a cluster as the entry loses, and gains as many as it is given
pub balance-entry : (g : Geometry) (edit : EntryEdit) (v c : ℕ) → IsClusterBits g.cluster_bits → can_be_made g edit ≡ true → one_if (meets g (entry_after g edit v) c) + handed_back (option_to_list (clusters_freed_by g edit v)) c ≡ one_if (meets g v c) + times_gained (option_to_list (cluster_gained_by g edit v)) c
balance-entry g (to_data cluster) v c bits can =
    rw (data_entry-meets g cluster c bits can) (mapped_balances cluster (allocation g v) c (is_just cluster (allocation g v)) refl)
balance-entry g (to_zeros keep) v c bits can =
    zeros_balance g v c (keep && has_host_cluster g v) (second_holds keep (has_host_cluster g v))
balance-entry g to_nothing v c bits can = rw (allocation-zero g, handed_back-option (allocation g v) c) (omega arith)

after_edit-length : (g : Geometry) (e : TableEdit) (numbers : List ℕ) → length (after_edit g e numbers) ≡ length numbers
after_edit-length g e numbers = length-set numbers e.index (entry_after g e.edit (slice_index numbers e.index))

-- the first of some edits that all fit a table fits it, and the others fit the table after that
first_fits : (g : Geometry) (e : TableEdit) (edits : List TableEdit) (numbers : List ℕ) → list_all (fits_table g (length numbers)) (e ∷ edits) ≡ true → (e.index < length numbers) × (can_be_made g e.edit ≡ true) × (list_all (fits_table g (length (after_edit g e numbers))) edits ≡ true)
first_fits g e edits numbers fit = rw (after_edit-length g e numbers) (grind (arith, nat_tests))

-- a run hands back as many references to a cluster as the table loses, and gains as many as it is given
pub balance-run : (g : Geometry) (edits : List TableEdit) (numbers : List ℕ) (c : ℕ) → IsClusterBits g.cluster_bits → list_all (fits_table g (length numbers)) edits ≡ true → references g (run_of g edits numbers).numbers c + handed_back (run_of g edits numbers).freed c ≡ references g numbers c + times_gained (run_of g edits numbers).gained c
balance-run g [] numbers c bits fit = refl
balance-run g (e ∷ edits) numbers c bits fit =
    let v = slice_index numbers e.index in
    let rest = run_of g edits (after_edit g e numbers) in
    let first = first_fits g e edits numbers fit in
    let entry = balance-entry g e.edit v c bits first.1 in
    let table = sum_by-set (λ (w : ℕ). one_if (meets g w c)) numbers e.index (entry_after g e.edit v) 0 first.0 in
    let more = balance-run g edits (after_edit g e numbers) c bits first.2 in
    let freed = sum_by-append (λ (clusters : ClustersToFreeEntry). one_if (is_among clusters c)) (option_to_list (clusters_freed_by g e.edit v)) rest.freed in
    let gains = sum_by-append (λ (d : ℕ). one_if (d == c)) (option_to_list (cluster_gained_by g e.edit v)) rest.gained in
    rw (freed, gains) (omega (arith, entry, table, more))

-- an entry that refers to a host cluster is valid with the zero flag
pub zeros-lawful : (g : Geometry) (v : ℕ) → has_host_cluster g v ≡ true
    → l2_fault g.cluster_bits v ≡ None → l2_fault g.cluster_bits (with_zero_flag v) ≡ None
zeros-lawful g v has lawful = grind (arith, nat_tests, standard_if_host_cluster)

pub run_of-length : (g : Geometry) (edits : List TableEdit) (numbers : List ℕ) → length (run_of g edits numbers).numbers ≡ length numbers
run_of-length g [] numbers = refl
run_of-length g (e ∷ edits) numbers = run_of-length g edits (after_edit g e numbers) ∙ after_edit-length g e numbers

-- an entry that no edit names stays
pub run_of_others : (g : Geometry) (edits : List TableEdit) (numbers : List ℕ) (index : ℕ) → All (λ (e : TableEdit). e.index ≢ index) edits → slice_index (run_of g edits numbers).numbers index ≡ slice_index numbers index
run_of_others g [] numbers index others = refl
run_of_others g (e ∷ edits) numbers index others =
    let differs = All-head (λ (e : TableEdit). e.index ≢ index) e edits others in
    run_of_others g edits (after_edit g e numbers) index (All-tail (λ (e : TableEdit). e.index ≢ index) e edits others)
    ∙ get_or-set_other numbers e.index index (entry_after g e.edit (slice_index numbers e.index)) 0 (λ same. differs (sym same))

-- the numbers that edits leave after others
pub run_of-numbers : (g : Geometry) (before later : List TableEdit) (numbers : List ℕ) → (run_of g (before ++ later) numbers).numbers ≡ (run_of g later (run_of g before numbers).numbers).numbers
run_of-numbers g [] later numbers = refl
run_of-numbers g (e ∷ before) later numbers = run_of-numbers g before later (after_edit g e numbers)

-- and what they hand back
pub run_of_freed : (g : Geometry) (before later : List TableEdit) (numbers : List ℕ) → (run_of g (before ++ later) numbers).freed ≡ (run_of g before numbers).freed ++ (run_of g later (run_of g before numbers).numbers).freed
run_of_freed g [] later numbers = refl
run_of_freed g (e ∷ before) later numbers =
    let own = option_to_list (clusters_freed_by g e.edit (slice_index numbers e.index)) in
    let first = run_of g before (after_edit g e numbers) in
    ap (λ (freed : List ClustersToFreeEntry). own ++ freed) (run_of_freed g before later (after_edit g e numbers))
    ∙ sym (append_assoc own first.freed (run_of g later first.numbers).freed)

-- the last edit of an entry decides it
pub run_of_last : (g : Geometry) (before later : List TableEdit) (e : TableEdit) (numbers : List ℕ) → e.index < length numbers → All (λ (other : TableEdit). other.index ≢ e.index) later
    → slice_index (run_of g (before ++ (e ∷ later)) numbers).numbers e.index ≡ entry_after g e.edit (slice_index (run_of g before numbers).numbers e.index)
run_of_last g before later e numbers within others =
    let left = (run_of g before numbers).numbers in
    ap (λ (xs : List ℕ). slice_index xs e.index) (run_of-numbers g before (e ∷ later) numbers)
    ∙ run_of_others g later (after_edit g e left) e.index others
    ∙ get_or-set_same left e.index (entry_after g e.edit (slice_index left e.index)) 0 (omega (arith, run_of-length g before numbers, within))
