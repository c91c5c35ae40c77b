-- Where do an image's counters differ from its uses of clusters, and which clusters have uses that exclude each other?
use Rattle.std.specs.Prelude.{◌≡◌, ◌⊎◌, ℕ, zero, suc, Bool, true, false, not, ◌&&◌, ◌||◌, ◌==◌, ◌+◌, ◌-◌, ◌<◌, ◌≤◌, nat_lt, if◌then◌else◌, List, [], ◌∷◌, Option, Some, None, option_map, Result, Ok, Err, IfSome}
use Rattle.std.specs.List.{fold, sum_by}
use Rattle.qcow2_base.specs.Format.{max_file_length}
use Rattle.qcow2_base.specs.Storage.{Image, OnImage, StorageState}
use Rattle.qcow2_base.specs.declared.fault.Fault.{Fault}
use Rattle.qcow2_base.specs.declared.fault.Fault.TheVariants.{Uncounted}
use Rattle.qcow2_metadata.specs.Entries.{is_among}
use Rattle.qcow2_metadata.specs.Header.{HeaderRecord, geometry_of, uncounted_part}
use Rattle.qcow2_metadata.specs.Results.{IsFromOutside, and_then, result_map, unless_refused}
use Rattle.qcow2_metadata.specs.Table.{IsContentFault}
use Rattle.qcow2_metadata.specs.Table.L2Guards.{one_if}
use Rattle.qcow2_check.specs.Counters.{CountersState, IsKeptBlockOf, IsTablesFault, counter_of, placed_reftable, unused_counter}
use Rattle.qcow2_check.specs.Flags.{AreMarksOf, MarksState}
use Rattle.qcow2_check.specs.NamedTables.{loaded_l1_table}
use Rattle.qcow2_check.specs.Tally.{TallyState, ClusterUse, cell_at, cell_with, mark_of}
use Rattle.qcow2_check.specs.Uses.{ImageTables, all_load, image_uses, uses_of}
use Rattle.qcow2_check.specs.declared.findings.Finding.{Finding}
use Rattle.qcow2_check.specs.declared.findings.Sought.{Sought}
use Rattle.qcow2_check.specs.declared.findings.Sought.TheVariants.{Used, Wrong}
use Rattle.qcow2_check.specs.declared.tally.TallyKind.{TallyKind}
use Rattle.qcow2_check.specs.declared.tally.TallyKind.TheVariants.{Fixed, L2Table}

-- how many of some uses are those of cluster c of one kind
abbrev pub uses_of_kind : TallyKind → List ClusterUse → ℕ → ℕ
uses_of_kind kind uses c =
    sum_by (λ (used : ClusterUse). one_if (mark_of used.kind == mark_of kind && is_among used.clusters c)) uses

-- whether cluster c has uses that exclude each other: one that must be its only use, and others; or it is an L2 table, and
-- more than that
abbrev pub is_shared : List ClusterUse → ℕ → Bool
is_shared uses c = (nat_lt 0 (uses_of_kind Fixed uses c) && nat_lt 1 (uses_of uses c))
    || (nat_lt 0 (uses_of_kind L2Table uses c) && not (uses_of_kind L2Table uses c == uses_of uses c))

-- the counter of cluster c as it is reported
abbrev pub reported_counter : ImageTables → Image → ℕ → ℕ
reported_counter tables image c = if uses_of (image_uses tables image) c == 0
    then unused_counter tables.header tables.reftable image c else counter_of tables.header tables.reftable image c

-- what is found at cluster c of an image with these tables
abbrev pub finding_at : ImageTables → Image → ℕ → Finding
finding_at tables image c = record {
  cluster = record { 0 = c };
  counter = reported_counter tables image c;
  uses = uses_of (image_uses tables image) c;
  shared = is_shared (image_uses tables image) c;
}

-- whether that is worth telling: the counter isn't the number of uses, or these exclude each other
abbrev pub is_wrong : Finding → Bool
is_wrong finding = not (finding.counter == finding.uses) || finding.shared

-- whether the counter of a cluster is greater than its number of uses
abbrev pub is_leaked : Finding → Bool
is_leaked finding = nat_lt finding.uses finding.counter

-- whether it is smaller
abbrev pub is_missing : Finding → Bool
is_missing finding = nat_lt finding.counter finding.uses

-- whether that is what a reader seeks: a cluster that something is wrong with, or one that is used
abbrev pub is_sought : Sought → Finding → Bool
is_sought Wrong finding = is_wrong finding
is_sought Used finding = nat_lt 0 finding.uses

-- what a reader of findings has: the image's header, its L1 table and its counters, the uses of the clusters of a part of
-- the image where they are counted, what their count found out about copied flags, the cluster that it has come to, and
-- which ones it seeks
pub record FindingsState : Type 0 where
  pub header : HeaderRecord
  pub l1 : List ℕ
  pub counters : CountersState
  pub tally : Option TallyState
  pub marks : MarksState
  pub position : ℕ
  pub sought : Sought

-- the tables of the image that a reader reads
abbrev pub tables_of : FindingsState → ImageTables
tables_of reader = record { header = reader.header; l1 = reader.l1; reftable = reader.counters.reftable }

-- a tally has counted all uses of its clusters
abbrev pub CountsAll : ImageTables → Image → TallyState → Type 0
CountsAll tables image tally = (c : ℕ) → tally.first ≤ c → c < tally.end →
    cell_at tally c ≡ fold (cell_with c) 0 (image_uses tables image)

-- a reader reads this image: what it keeps of it is the same as there, and all L2 tables can be loaded
pub record IsFindingsOf (image : Image) (reader : FindingsState) : Type 0 where
  pub kept : IsKeptBlockOf reader.header image reader.counters.block
  pub counted : IfSome reader.tally (CountsAll (tables_of reader) image)
  pub marks : AreMarksOf (tables_of reader) image reader.marks
  pub loads : all_load (geometry_of reader.header) reader.l1 image ≡ Ok (tt {0})

-- a reader stays as it is, but for the cluster that it has come to, the block that it keeps and what it has counted
pub record MovesFindings (image : StorageState) (old new : FindingsState) : Type 0 where
  pub same : new ≡ record old {
    counters = record old.counters { block = new.counters.block };
    tally = new.tally;
    position = new.position;
  }
  pub kept : OnImage image (λ bytes. IsFindingsOf bytes new)

-- a reader of findings is before the first
abbrev pub IsBegun : FindingsState → Type 0
IsBegun reader = (reader.position ≡ 0) × (reader.sought ≡ Wrong)

-- none of the clusters from one on to before another is sought
abbrev pub NoneSought : Sought → ImageTables → Image → ℕ → ℕ → Type 0
NoneSought sought tables image from to =
    (c : ℕ) → from ≤ c → c < to → is_sought sought (finding_at tables image c) ≡ false

-- nothing is wrong with them
abbrev pub AreRight : ImageTables → Image → ℕ → ℕ → Type 0
AreRight tables image from to = NoneSought Wrong tables image from to

-- what is found at the clusters that are sought among that many from one on, in their order
unfoldable pub sought_from : Sought → ImageTables → Image → ℕ → ℕ → List Finding
sought_from sought tables image from zero = []
sought_from sought tables image from (suc count) =
    let finding = finding_at tables image from in
    let rest = sought_from sought tables image (from + 1) count in
    if is_sought sought finding then finding ∷ rest else rest

-- the findings among them
abbrev pub findings_from : ImageTables → Image → ℕ → ℕ → List Finding
findings_from tables image from count = sought_from Wrong tables image from count

-- all findings of an image with these tables
abbrev pub image_findings : ImageTables → Image → List Finding
image_findings tables image = findings_from tables image 0 max_file_length

-- what is found at the used clusters past the end of a file of that many clusters
abbrev pub past_findings : ℕ → ImageTables → Image → List Finding
past_findings file tables image = sought_from Used tables image file (max_file_length - file)

-- no cluster past that end is used
abbrev pub EndsWithin : ℕ → ImageTables → Image → Type 0
EndsWithin file tables image = (c : ℕ) → file ≤ c → c < max_file_length → uses_of (image_uses tables image) c ≡ 0

-- what a reader finds yet
abbrev pub findings_left : FindingsState → Image → List Finding
findings_left reader image =
    sought_from reader.sought (tables_of reader) image reader.position (max_file_length - reader.position)

-- what a reader returns of what it finds yet: the first, or nothing where there is none. After a fault all are left
abbrev pub TakesFinding : List Finding → List Finding → Result (Option Finding) Fault → Type 0
TakesFinding before after (Ok None) = before ≡ []
TakesFinding before after (Ok (Some finding)) = before ≡ finding ∷ after
TakesFinding before after (Err fault) = before ≡ after

-- how far a reader goes by what it returns, from a cluster to another: past the one that it finds, or to the end
abbrev pub GoesPast : ℕ → Result (Option Finding) Fault → ℕ → Type 0
GoesPast from (Ok (Some finding)) to = (from ≤ finding.cluster.0) × (to ≡ finding.cluster.0 + 1) × (to ≤ max_file_length)
GoesPast from (Ok None) to = (from ≤ to) × (to ≡ max_file_length)
GoesPast from (Err fault) to = from ≤ to

-- what a reader returns, and the cluster that it comes to: it seeks none of the clusters that it passes, but that the last of
-- them is what it finds
abbrev pub PassesFinding : StorageState → FindingsState → Result (Option Finding) Fault → ℕ → Type 0
PassesFinding image reader (Ok (Some finding)) to = (reader.position ≤ finding.cluster.0) × (to ≡ finding.cluster.0 + 1)
    × OnImage image (λ bytes. (finding ≡ finding_at (tables_of reader) bytes finding.cluster.0)
    × (is_sought reader.sought finding ≡ true)
    × NoneSought reader.sought (tables_of reader) bytes reader.position finding.cluster.0)
PassesFinding image reader answer to = (reader.position ≤ to)
    × OnImage image (λ bytes. NoneSought reader.sought (tables_of reader) bytes reader.position to)

-- the tables of an image with this header that can be checked, or the first fault: a part that isn't read here, or that of the
-- L1 table, of the refcount table, of the place of a block, or of an L2 table
abbrev pub checked_tables : HeaderRecord → Image → Result ImageTables Fault
checked_tables header image = unless_refused (option_map Uncounted (uncounted_part header))
    (and_then (loaded_l1_table header image) (λ l1.
    and_then (placed_reftable header image) (λ reftable.
    result_map (λ _. record { header = header; l1 = l1; reftable = reftable }) (all_load (geometry_of header) l1 image))))

-- these refusals
abbrev pub IsCheckFault : HeaderRecord → Fault → Type 0
IsCheckFault header fault = (option_map Uncounted (uncounted_part header) ≡ Some fault) ⊎ IsTablesFault header fault

-- a fault after these are refused: it is from outside where the image's bytes are known
abbrev pub IsLaterFault : StorageState → Fault → Type 0
IsLaterFault image fault = IsContentFault fault × OnImage image (λ _. IsFromOutside fault)
