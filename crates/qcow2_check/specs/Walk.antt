-- What does an image use, in which order, and what refers to it?
use Rattle.std.specs.Prelude.{◌≡◌, ℕ, zero, suc, ◌==◌, ◌+◌, ◌*◌, ◌^◌, ◌<◌, List, [], ◌∷◌, ◌++◌, if◌then◌else◌, map, take, option_map, option_to_list, Some, None}
use Rattle.std.specs.Int.{div_ceil}
use Rattle.qcow2_base.specs.Format.{most_l1_entries, most_reftable_entries}
use Rattle.qcow2_base.specs.Storage.{Image, OnImage, StorageState}
use Rattle.qcow2_base.specs.declared.types.HostCluster.{HostCluster}
use Rattle.qcow2_metadata.specs.Entries.L2Entry.{allocation, is_compressed}
use Rattle.qcow2_metadata.specs.Header.{Geometry, HeaderRecord, geometry_of}
use Rattle.qcow2_metadata.specs.Placed.{numbers_at}
use Rattle.qcow2_metadata.specs.Table.{l2_entries, l2_layout}
use Rattle.qcow2_check.specs.NamedTables.{l1_cluster, named_block, named_cluster, reftable_cluster}
use Rattle.qcow2_check.specs.Repeats.{times_at}
use Rattle.qcow2_check.specs.Tally.{ClusterUse, CountsMore, TallyState, repetition}
use Rattle.qcow2_check.specs.Uses.{ImageTables, key_clusters}
use Rattle.qcow2_check.specs.declared.tally.TallyKind.{TallyKind}
use Rattle.qcow2_check.specs.declared.tally.TallyKind.TheVariants as tally
use Rattle.qcow2_check.specs.declared.uses.Use.{Use}
use Rattle.qcow2_check.specs.declared.uses.UseKind.{UseKind}
use Rattle.qcow2_check.specs.declared.uses.UseKind.TheVariants.{Compressed, Data, EncryptionHeader, Header, L1Table, L2Table, RefcountBlock, RefcountTable}

-- that many clusters from one on, used in this way by this owner
abbrev pub one_use : UseKind → HostCluster → ℕ → ℕ → Use
one_use kind first count owner = record { kind = kind; clusters = record { first = first; count = record { 0 = count } }; owner = owner }

-- the header's cluster, the clusters that the L1 table's bytes are in, those of the refcount table, and those of the encryption
-- header
abbrev pub header_list : HeaderRecord → List Use
header_list header = one_use Header (record { 0 = 0 }) 1 0
    ∷ one_use L1Table (l1_cluster header) (div_ceil (8 * header.v2.l1_size) (2 ^ header.v2.cluster_bits)) 0
    ∷ one_use RefcountTable (reftable_cluster header) header.v2.refcount_table_clusters 0
    ∷ one_use EncryptionHeader (key_clusters header).0 (key_clusters header).1.0 0 ∷ []

-- the block that the refcount table entry at an index names
abbrev pub block_list : ℕ → ℕ → ℕ → List Use
block_list cb index v = option_to_list (option_map (λ cluster. one_use RefcountBlock cluster 1 index) (named_block cb v))

-- what the L2 entry of a guest cluster refers to
abbrev pub entry_kind : ℕ → UseKind
entry_kind v = if is_compressed v then Compressed else Data

abbrev pub entry_list : Geometry → ℕ → ℕ → List Use
entry_list g guest v = if g.external_data_file then []
    else option_to_list (option_map (λ clusters. record { kind = entry_kind v; clusters = clusters; owner = guest }) (allocation g v))

-- the uses by numbers one after another, each by its place too, from a place on
abbrev pub list_from : (ℕ → ℕ → List Use) → ℕ → List ℕ → List Use
list_from uses place [] = []
list_from uses place (v ∷ vs) = uses place v ++ list_from uses (place + 1) vs

-- what the entries of the L2 table of the L1 entry at an index refer to
abbrev pub entries_list : Geometry → ℕ → List ℕ → List Use
entries_list g index numbers = list_from (entry_list g) (index * l2_entries g.cluster_bits) numbers

-- guest data in that many clusters from one on, of guest clusters from one on
abbrev pub row_list : ℕ → ℕ → ℕ → List Use
row_list first guest zero = []
row_list first guest (suc count) = one_use Data (record { 0 = first }) 1 guest ∷ row_list (first + 1) (guest + 1) count

-- a sink that took what the entries of a table before an index refer to then takes that of the entries before another
abbrev pub TakesEntries : {Sink : Type 0} → (List Use → Sink → Sink → Type 0) → Geometry → ℕ → List ℕ → ℕ → ℕ → Sink → Sink → Type 0
TakesEntries {Sink} takes g index numbers from to old new = (start : Sink) → takes (entries_list g index (take from numbers)) start old
    → takes (entries_list g index (take to numbers)) start new

-- the L2 table that the L1 entry at an index names
abbrev pub table_list : ℕ → ℕ → ℕ → List Use
table_list cb index v = option_to_list (option_map (λ cluster. one_use L2Table cluster 1 index) (named_cluster cb v))

-- what the entries refer to of the L2 table that the L1 entry at an index names, if it names one
abbrev pub l1_list : Geometry → Image → ℕ → ℕ → List Use
l1_list g image index v = elim (named_cluster g.cluster_bits v) [
  | None ↦ []
  | Some cluster ↦ entries_list g index (numbers_at (l2_layout g) cluster image)
]

-- what tables use themselves, in order: the header's cluster, the L1 table, the refcount table, the encryption header, the
-- refcount blocks, and the L2 tables
abbrev pub tables_list : ImageTables → List Use
tables_list tables = header_list tables.header
    ++ list_from (block_list tables.header.v2.cluster_bits) 0 tables.reftable
    ++ list_from (table_list tables.header.v2.cluster_bits) 0 tables.l1

-- what the guest's disk uses, in its order
abbrev pub guest_list : ImageTables → Image → List Use
guest_list tables image = list_from (l1_list (geometry_of tables.header) image) 0 tables.l1

-- the same, where what the L2 table of each L1 entry refers to counts that often
abbrev pub repeated_list : ImageTables → List ℕ → Image → List Use
repeated_list tables times image =
    list_from (λ index v. repetition (times_at times index) (l1_list (geometry_of tables.header) image index v)) 0 tables.l1

-- the same, where the L2 table of an L1 entry that counts 0 times refers to nothing, and those of others count once
abbrev pub unrepeated_list : ImageTables → List ℕ → Image → List Use
unrepeated_list tables times image =
    list_from (λ index v. if times_at times index == 0 then [] else l1_list (geometry_of tables.header) image index v) 0 tables.l1

-- all that an image with these tables uses, in order
abbrev pub use_list : ImageTables → Image → List Use
use_list tables image = tables_list tables ++ guest_list tables image

-- how many guest clusters can have an entry: of 2 ^ 22 L2 tables with 2 ^ 18 entries each
abbrev pub most_guest_clusters : ℕ
most_guest_clusters = 2 ^ 40

-- how many owners there can be of a kind: the header alone, entries of the refcount table, entries of the L1 table, or guest
-- clusters
abbrev pub most_owners : UseKind → ℕ
most_owners Header = 1
most_owners L1Table = 1
most_owners RefcountTable = 1
most_owners EncryptionHeader = 1
most_owners RefcountBlock = most_reftable_entries
most_owners L2Table = most_l1_entries
most_owners Data = most_guest_clusters
most_owners Compressed = most_guest_clusters

-- a use's owner is one of those of its kind
abbrev pub IsOwned : Use → Type 0
IsOwned one = one.owner < most_owners one.kind

-- the kind that a tally counts it as
abbrev pub tally_kind : UseKind → TallyKind
tally_kind L2Table = tally.L2Table
tally_kind Data = tally.Guest
tally_kind Compressed = tally.Guest
tally_kind Header = tally.Fixed
tally_kind L1Table = tally.Fixed
tally_kind RefcountTable = tally.Fixed
tally_kind EncryptionHeader = tally.Fixed
tally_kind RefcountBlock = tally.Fixed

-- a use as a tally counts it
abbrev pub counted_use : Use → ClusterUse
counted_use one = record { kind = tally_kind one.kind; clusters = one.clusters }

-- a tally counted these uses, one after another
abbrev pub CountsUses : List Use → TallyState → TallyState → Type 0
CountsUses uses old new = CountsMore (map counted_use uses) old new

-- a sink took some uses, by its own relation: these ones, where the storage's bytes are known
pub record Took {Sink : Type 0} (takes : List Use → Sink → Sink → Type 0) (image : StorageState) (meaning : Image → List Use) (old new : Sink) : Type 0 where
  pub uses : List Use
  pub taken : takes uses old new
  pub known : OnImage image (λ bytes. uses ≡ meaning bytes)
