-- Which entries of an image say wrongly that they are the only one to refer to a cluster, or don't say it?
use Rattle.std.specs.Prelude.{◌≡◌, ℕ, Bool, true, not, ◌==◌, ◌+◌, ◌-◌, ◌*◌, ◌/◌, ◌^◌, ◌<◌, ◌≤◌, if◌then◌else◌, List, [], ◌∷◌, ◌++◌, drop, length, slice_index, Option, Some, None, option_map, option_to_list, Result, Ok, Err}
use Rattle.qcow2_base.specs.Storage.{Image, OnImage, StorageState}
use Rattle.qcow2_base.specs.declared.fault.Fault.{Fault}
use Rattle.qcow2_base.specs.declared.types.HostCluster.{HostCluster}
use Rattle.qcow2_metadata.specs.Entries.{is_copied}
use Rattle.qcow2_metadata.specs.Entries.L2Entry.{host_offset, is_compressed}
use Rattle.qcow2_metadata.specs.Header.{Geometry, HeaderRecord, geometry_of}
use Rattle.qcow2_metadata.specs.Placed.{numbers_at}
use Rattle.qcow2_metadata.specs.Table.{TableState, l2_entries, l2_layout}
use Rattle.qcow2_check.specs.Counters.{CountersState, IsKeptBlockOf, counter_of}
use Rattle.qcow2_check.specs.NamedTables.{named_cluster}
use Rattle.qcow2_check.specs.Repeats.{is_again, table_names}
use Rattle.qcow2_check.specs.Soles.{AreSoles}
use Rattle.qcow2_check.specs.Uses.{ImageTables, all_load}
use Rattle.qcow2_check.specs.declared.flags.FlagPlace.{FlagPlace}
use Rattle.qcow2_check.specs.declared.flags.FlagPlace.TheVariants.{L1Index, Offset}
use Rattle.qcow2_check.specs.declared.flags.WrongFlag.{WrongFlag}

-- whether an entry may say that no other refers to its cluster, by the cluster's counter: that is 1, or there is none, as of
-- clusters of an external data file
abbrev pub is_sole : Option ℕ → Bool
is_sole None = true
is_sole (Some counter) = counter == 1

-- the flag of the entry at a place, which names a cluster of this counter, where the flag is wrong
abbrev pub wrong_flag : FlagPlace → HostCluster → Option ℕ → Bool → Option WrongFlag
wrong_flag place cluster counter is_set =
    let is_right = if is_set then is_sole counter else not (is_sole counter) in
    if is_right then None
    else Some (record { place = place; cluster = cluster; counter = counter; is_set = is_set })

-- the flag of the L1 entry at an index, where it names an L2 table and the flag is wrong
abbrev pub l1_flag : HeaderRecord → List ℕ → Image → ℕ → ℕ → Option WrongFlag
l1_flag header reftable image index v = elim (named_cluster header.v2.cluster_bits v) [
  | None ↦ None
  | Some cluster ↦
      wrong_flag (L1Index index) cluster (Some (counter_of header reftable image cluster.0)) (is_copied v)
]

-- the cluster that a standard L2 entry names, if it names one. A compressed entry has no flag
abbrev pub flagged_cluster : Geometry → ℕ → Option HostCluster
flagged_cluster g v = if is_compressed v then None
    else option_map (λ offset. record { 0 = offset.0 / 2 ^ g.cluster_bits }) (host_offset g.external_data_file v)

-- the counter of a cluster of guest data, which has none in an external data file
abbrev pub data_counter : Geometry → (ℕ → ℕ) → HostCluster → Option ℕ
data_counter g counter cluster = if g.external_data_file then None else Some (counter cluster.0)

-- the flag of the L2 entry of a guest cluster, where it names a cluster and the flag is wrong by the counter of each cluster
abbrev pub l2_flag : Geometry → (ℕ → ℕ) → ℕ → ℕ → Option WrongFlag
l2_flag g counter guest v = elim (flagged_cluster g v) [
  | None ↦ None
  | Some cluster ↦ wrong_flag (Offset (record { 0 = guest * 2 ^ g.cluster_bits })) cluster (data_counter g counter cluster) (is_copied v)
]

-- an entry of an L2 table has no wrong flag by counters that marks agree with, of whatever guest cluster it is
abbrev pub HasNoFlag : Geometry → List ℕ → ℕ → Type 0
HasNoFlag g soles v = (counter : ℕ → ℕ) (guest : ℕ) → AreSoles counter soles → l2_flag g counter guest v ≡ None

-- the wrong flags of L2 entries, from a guest cluster on
abbrev pub l2_flags : Geometry → (ℕ → ℕ) → ℕ → List ℕ → List WrongFlag
l2_flags g counter guest [] = []
l2_flags g counter guest (v ∷ vs) = option_to_list (l2_flag g counter guest v) ++ l2_flags g counter (guest + 1) vs

-- the wrong flags of the L2 table of the L1 entry at an index, from the entry at a position on
abbrev pub l2_flags_from : Geometry → (ℕ → ℕ) → ℕ → List ℕ → ℕ → List WrongFlag
l2_flags_from g counter index numbers position =
    l2_flags g counter (index * l2_entries g.cluster_bits + position) (drop position numbers)

-- the wrong flags of the L2 table that the L1 entry at an index names, if it names one
abbrev pub table_flags : HeaderRecord → List ℕ → Image → ℕ → ℕ → List WrongFlag
table_flags header reftable image index v = elim (named_cluster header.v2.cluster_bits v) [
  | None ↦ []
  | Some cluster ↦ let g = geometry_of header in
      l2_flags_from g (counter_of header reftable image) index (numbers_at (l2_layout g) cluster image) 0
]

-- the same, unless an L1 entry before it names that table too
abbrev pub first_flags : ImageTables → Image → ℕ → ℕ → List WrongFlag
first_flags tables image index v =
    if is_again (table_names tables.l1) index then [] else table_flags tables.header tables.reftable image index v

-- the wrong flags of L1 entries from an index on, each followed by those of its L2 table
abbrev pub l1_flags : ImageTables → Image → ℕ → List ℕ → List WrongFlag
l1_flags tables image index [] = []
l1_flags tables image index (v ∷ vs) = option_to_list (l1_flag tables.header tables.reftable image index v)
    ++ first_flags tables image index v ++ l1_flags tables image (index + 1) vs

-- all wrong flags of an image with these tables, those of an L2 table once, as entries of the first L1 entry that names it
abbrev pub image_flags : ImageTables → Image → List WrongFlag
image_flags tables image = l1_flags tables image 0 tables.l1

-- the L1 entry at an index has no wrong flag, nor has any entry of its L2 table
abbrev pub IsClean : ImageTables → Image → ℕ → Type 0
IsClean tables image index = let v = slice_index tables.l1 index in
    (l1_flag tables.header tables.reftable image index v ≡ None) × (table_flags tables.header tables.reftable image index v ≡ [])

-- what is known of copied flags before they are tested one by one: marks of clusters whose counter is 1, and how many L1 entries
-- are clean, of the first ones
pub record MarksState : Type 0 where
  pub soles : List ℕ
  pub clean : ℕ

-- that is so of an image with these tables
pub record AreMarksOf (tables : ImageTables) (image : Image) (marks : MarksState) : Type 0 where
  pub soles : AreSoles (counter_of tables.header tables.reftable image) marks.soles
  pub clean : (index : ℕ) → index < marks.clean → IsClean tables image index

-- marks that are right by an image stay so
abbrev pub KeepsMarks : ImageTables → StorageState → MarksState → MarksState → Type 0
KeepsMarks tables image old new = OnImage image (λ bytes. AreMarksOf tables bytes old → AreMarksOf tables bytes new)

-- what a reader of flags has: the image's header, its L1 table and its counters, what is known of its flags, the index of
-- the L1 entry that it has come to, and where that entry's flag was looked at, the L2 table that it names and the index of the
-- entry there
pub record FlagsState : Type 0 where
  pub header : HeaderRecord
  pub l1 : List ℕ
  pub counters : CountersState
  pub marks : MarksState
  pub index : ℕ
  pub table : Option TableState
  pub position : ℕ

-- the tables of the image that a reader of flags reads
abbrev pub flag_tables : FlagsState → ImageTables
flag_tables reader = record { header = reader.header; l1 = reader.l1; reftable = reader.counters.reftable }

-- the wrong flags that a reader comes to yet
abbrev pub flags_left : FlagsState → Image → List WrongFlag
flags_left reader image = elim reader.table [
  | None ↦
      l1_flags (flag_tables reader) image reader.index (drop reader.index reader.l1)
  | Some table ↦
      l2_flags_from (geometry_of reader.header) (counter_of reader.header reader.counters.reftable image) reader.index
      table.numbers reader.position
      ++ l1_flags (flag_tables reader) image (reader.index + 1) (drop (reader.index + 1) reader.l1)
]

-- how many steps a reader needs yet at most: for each L1 entry one to its L2 table, one for each entry there, and one past it
abbrev pub flag_steps : FlagsState → ℕ
flag_steps reader = let each = l2_entries reader.header.v2.cluster_bits + 2 in elim reader.table [
  | None ↦ (length reader.l1 - reader.index) * each
  | Some table ↦ (length reader.l1 - (reader.index + 1)) * each + (length table.numbers - reader.position + 1)
]

-- a reader of flags reads this image: the block that it keeps is the same as there, what it knows of the flags is so, and all
-- L2 tables can be loaded
pub record IsFlagsOf (image : Image) (reader : FlagsState) : Type 0 where
  pub kept : IsKeptBlockOf reader.header image reader.counters.block
  pub marks : AreMarksOf (flag_tables reader) image reader.marks
  pub loads : all_load (geometry_of reader.header) reader.l1 image ≡ Ok (tt {0})

-- a reader of flags reads the same tables as before
pub record MovesFlags (image : StorageState) (old new : FlagsState) : Type 0 where
  pub tables : flag_tables new ≡ flag_tables old
  pub kept : OnImage image (λ bytes. IsFlagsOf bytes new)

-- how far a reader of flags goes: it needs fewer steps after it has returned one, and none after it has returned nothing
abbrev pub GoesFurther : Result (Option WrongFlag) Fault → FlagsState → FlagsState → Type 0
GoesFurther (Ok None) old new = flag_steps new ≡ 0
GoesFurther (Ok (Some flag)) old new = flag_steps new < flag_steps old
GoesFurther (Err fault) old new = flag_steps new ≤ flag_steps old

-- and by one step: it needs fewer after any answer but a fault
abbrev pub StepsFurther : Result (Option WrongFlag) Fault → FlagsState → FlagsState → Type 0
StepsFurther (Ok found) old new = flag_steps new < flag_steps old
StepsFurther (Err fault) old new = flag_steps new ≤ flag_steps old

-- what a reader of flags returns: the first of those that are left, or nothing where none is. After a fault all are left
abbrev pub TakesFlag : List WrongFlag → List WrongFlag → Result (Option WrongFlag) Fault → Type 0
TakesFlag before after (Ok None) = (before ≡ []) × (after ≡ [])
TakesFlag before after (Ok (Some flag)) = before ≡ flag ∷ after
TakesFlag before after (Err fault) = before ≡ after

-- what a step of a reader returns: what it finds comes before those that are left. After a fault all are left
abbrev pub PassesFlag : List WrongFlag → List WrongFlag → Result (Option WrongFlag) Fault → Type 0
PassesFlag before after (Ok found) = before ≡ option_to_list found ++ after
PassesFlag before after (Err fault) = before ≡ after
