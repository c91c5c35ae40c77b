use Rattle.std.proofs.Common.{◌≡◌, ℕ, zero, suc, true, false, if◌then◌else◌, ◌+◌, ◌<◌, List, [], ◌∷◌, ◌++◌, flat_map, slice_index, Option, Some, None, refl, arith}
use Rattle.std.proofs.lemmas.Bool.Decides.{nat_tests}
use Rattle.std.proofs.lemmas.List.Elements.{All-append, All-cons, All-nil}
use Rattle.std.proofs.lemmas.List.Sums.{sum_by-append}
use Rattle.std.proofs.lemmas.Nat.{pow_pos}
use Rattle.std.specs.List.{All}
use Rattle.std.specs.Prelude.{option_to_list}
use Rattle.qcow2_base.specs.Storage.{Image}
use Rattle.qcow2_base.specs.declared.types.HostCluster.{HostCluster}
use Rattle.qcow2_metadata.specs.Header.{Geometry, HeaderRecord, geometry_of}
use Rattle.qcow2_metadata.specs.Placed.{numbers_at}
use Rattle.qcow2_metadata.specs.Table.{l2_layout}
use Rattle.qcow2_check.proofs.FindingsLemmas.{all-cons}
use Rattle.qcow2_check.specs.Counters.{counter_of}
use Rattle.qcow2_check.specs.Flags.{first_flags, flagged_cluster, image_flags, l1_flag, l1_flags, l2_flag, l2_flags, table_flags}
use Rattle.qcow2_check.specs.NamedTables.{named_cluster}
use Rattle.qcow2_check.specs.Repeats.{is_again, table_names}
use Rattle.qcow2_check.specs.Tally.{ClusterUse, used_clusters}
use Rattle.qcow2_check.specs.Uses.{ImageTables, block_uses, entry_uses, header_uses, image_uses, l1_entry_uses, table_uses, uses_of}
use Rattle.qcow2_check.specs.declared.flags.WrongFlag.{WrongFlag}
use Rattle.qcow2_check.specs.declared.tally.TallyKind.TheVariants.{L2Table}
use Rattle.qcow2_repair.specs.Flags.{NamesTable, l2_in}

-- uses of a cluster in one list and in another
uses-append : (one other : List ClusterUse) (c : ℕ) → uses_of (one ++ other) c ≡ uses_of one c + uses_of other c
uses-append one other c = sum_by-append _ one other

-- an L2 entry uses the cluster that it names
entry-used : (g : Geometry) (v : ℕ) (cluster : HostCluster) → g.external_data_file ≡ false → flagged_cluster g v ≡ Some cluster
    → 0 < uses_of (entry_uses g v) cluster.0
entry-used g v cluster inside names = grind (arith, nat_tests, inside, names, all-cons, pow_pos)

-- an entry 0 names none
none-by-zero : (g : Geometry) → g.external_data_file ≡ false → flagged_cluster g 0 ≡ None
none-by-zero g inside = grind (arith, nat_tests, inside)

entries-used : (g : Geometry) (vs : List ℕ) (k : ℕ) (cluster : HostCluster) → g.external_data_file ≡ false → flagged_cluster g (slice_index vs k) ≡ Some cluster
    → 0 < uses_of (flat_map (entry_uses g) vs) cluster.0
entries-used g [] k cluster inside names = absurd (grind (arith, names, none-by-zero g inside))
entries-used g (v ∷ vs) zero cluster inside names =
    omega (arith, uses-append (entry_uses g v) (flat_map (entry_uses g) vs) cluster.0, entry-used g v cluster inside names)
entries-used g (v ∷ vs) (suc k) cluster inside names =
    omega (arith, uses-append (entry_uses g v) (flat_map (entry_uses g) vs) cluster.0, entries-used g vs k cluster inside names)

-- and so does the table that it is of
table-used : (g : Geometry) (table : HostCluster) (image : Image) (k : ℕ) (cluster : HostCluster) → g.external_data_file ≡ false
    → flagged_cluster g (slice_index (numbers_at (l2_layout g) table image) k) ≡ Some cluster → 0 < uses_of (table_uses g table image) cluster.0
table-used g table image k cluster inside names = omega (
  arith,
  all-cons (used_clusters L2Table table 1) (flat_map (entry_uses g) (numbers_at (l2_layout g) table image)) cluster.0,
  entries-used g (numbers_at (l2_layout g) table image) k cluster inside names,
)

l1-entries-used : (g : Geometry) (l1 : List ℕ) (image : Image) (i : ℕ) (table : HostCluster) (k : ℕ) (cluster : HostCluster) → g.external_data_file ≡ false
    → named_cluster g.cluster_bits (slice_index l1 i) ≡ Some table
    → flagged_cluster g (slice_index (numbers_at (l2_layout g) table image) k) ≡ Some cluster → 0 < uses_of (flat_map (l1_entry_uses g image) l1) cluster.0
l1-entries-used g [] image i table k cluster inside names_table names = grind (arith, nat_tests, names_table)
l1-entries-used g (v ∷ vs) image zero table k cluster inside names_table names =
    let here : 0 < uses_of (l1_entry_uses g image v) cluster.0 = rw (names_table, l1_entry_uses) (table-used g table image k cluster inside names) in
    omega (arith, uses-append (l1_entry_uses g image v) (flat_map (l1_entry_uses g image) vs) cluster.0, here)
l1-entries-used g (v ∷ vs) image (suc i) table k cluster inside names_table names =
    omega (arith, uses-append (l1_entry_uses g image v) (flat_map (l1_entry_uses g image) vs) cluster.0, l1-entries-used g vs image i table k cluster inside names_table names)

-- so an image uses the clusters that the entries of its L2 tables name
pub flagged-used : (tables : ImageTables) (image : Image) (table : HostCluster) (k : ℕ) (cluster : HostCluster) → (geometry_of tables.header).external_data_file ≡ false
    → NamesTable tables.header tables.l1 table → flagged_cluster (geometry_of tables.header) (slice_index (l2_in tables.header table image) k) ≡ Some cluster
    → 0 < uses_of (image_uses tables image) cluster.0
flagged-used tables image table k cluster inside names_table names =
    let first = header_uses tables.header in
    let blocks = flat_map (block_uses tables.header.v2.cluster_bits) tables.reftable in
    let last = flat_map (l1_entry_uses (geometry_of tables.header) image) tables.l1 in
    omega (
      arith,
      uses-append first (blocks ++ last) cluster.0,
      uses-append blocks last cluster.0,
      l1-entries-used (geometry_of tables.header) tables.l1 image names_table.0 table k cluster inside names_table.1 names,
    )

-- what holds of each wrong flag holds of all
found-all : (P : WrongFlag → Type 0) (found : Option WrongFlag) → ((flag : WrongFlag) → found ≡ Some flag → P flag) → All P (option_to_list found)
found-all P None each = All-nil P
found-all P (Some flag) each = All-cons P flag [] (each flag refl) (All-nil P)

l2-flags-all : (P : WrongFlag → Type 0) (header : HeaderRecord) (reftable : List ℕ) (image : Image) (guest : ℕ) (vs : List ℕ)
    → ((k at : ℕ) (flag : WrongFlag) → l2_flag (geometry_of header) (counter_of header reftable image) at (slice_index vs k) ≡ Some flag → P flag) → All P (l2_flags (geometry_of header) (counter_of header reftable image) guest vs)
l2-flags-all P header reftable image guest [] each = All-nil P
l2-flags-all P header reftable image guest (v ∷ vs) each = All-append P (option_to_list (l2_flag (geometry_of header) (counter_of header reftable image) guest v)) (l2_flags (geometry_of header) (counter_of header reftable image) (guest + 1) vs)
    (found-all P (l2_flag (geometry_of header) (counter_of header reftable image) guest v) (each 0 guest))
    (l2-flags-all P header reftable image (guest + 1) vs (λ k. each (suc k)))

table-flags-all : (P : WrongFlag → Type 0) (header : HeaderRecord) (reftable : List ℕ) (image : Image) (index v : ℕ) (found : Option HostCluster)
    → named_cluster header.v2.cluster_bits v ≡ found
    → ((table : HostCluster) (k at : ℕ) (flag : WrongFlag) → found ≡ Some table
    → l2_flag (geometry_of header) (counter_of header reftable image) at (slice_index (l2_in header table image) k) ≡ Some flag → P flag) → All P (table_flags header reftable image index v)
table-flags-all P header reftable image index v None names each = rw (names, table_flags) (All-nil P)
table-flags-all P header reftable image index v (Some table) names each =
    rw (names, table_flags) (l2-flags-all P header reftable image _ (l2_in header table image) (λ k at flag. each table k at flag refl))

first-flags-all : (P : WrongFlag → Type 0) (tables : ImageTables) (image : Image) (index v : ℕ)
    → All P (table_flags tables.header tables.reftable image index v) → All P (first_flags tables image index v)
first-flags-all P tables image index v all = elim (is_again (table_names tables.l1) index)
    as (λ again. All P (if again then [] else table_flags tables.header tables.reftable image index v)) [
      | true ↦ All-nil P
      | false ↦ all
    ]

l1-flags-all : (P : WrongFlag → Type 0) (tables : ImageTables) (image : Image) (index : ℕ) (vs : List ℕ)
    → ((k at : ℕ) (flag : WrongFlag) → l1_flag tables.header tables.reftable image at (slice_index vs k) ≡ Some flag → P flag)
    → ((i : ℕ) (table : HostCluster) (k at : ℕ) (flag : WrongFlag) → named_cluster tables.header.v2.cluster_bits (slice_index vs i) ≡ Some table
    → l2_flag (geometry_of tables.header) (counter_of tables.header tables.reftable image) at (slice_index (l2_in tables.header table image) k) ≡ Some flag → P flag)
    → All P (l1_flags tables image index vs)
l1-flags-all P tables image index [] one other = All-nil P
l1-flags-all P tables image index (v ∷ vs) one other =
    let header = tables.header in
    let own = option_to_list (l1_flag header tables.reftable image index v) in
    let entries = first_flags tables image index v in
    All-append P (own ++ entries) (l1_flags tables image (index + 1) vs)
    (All-append P own entries
    (found-all P (l1_flag header tables.reftable image index v) (one 0 index))
    (first-flags-all P tables image index v (table-flags-all P header tables.reftable image index v (named_cluster header.v2.cluster_bits v) refl
    (λ table k at flag names. other 0 table k at flag names))))
    (l1-flags-all P tables image (index + 1) vs (λ k. one (suc k)) (λ i. other (suc i)))

pub image-flags-all : (P : WrongFlag → Type 0) (tables : ImageTables) (image : Image)
    → ((k at : ℕ) (flag : WrongFlag) → l1_flag tables.header tables.reftable image at (slice_index tables.l1 k) ≡ Some flag → P flag)
    → ((table : HostCluster) (k at : ℕ) (flag : WrongFlag) → NamesTable tables.header tables.l1 table
    → l2_flag (geometry_of tables.header) (counter_of tables.header tables.reftable image) at (slice_index (l2_in tables.header table image) k) ≡ Some flag → P flag) → All P (image_flags tables image)
image-flags-all P tables image one other =
    l1-flags-all P tables image 0 tables.l1 one (λ i table k at flag names. other table k at flag (i, names))
