-- Which images can be repaired, and what does a repair change of their counters and flags?
use Rattle.std.specs.Prelude.{◌≡◌, ◌⊎◌, ℕ, Bool, true, false, ◌<◌, ◌≤◌, List, length, None, Result, Ok, Err, IfErr, IsOk, IsSome, MatchResult}
use Rattle.qcow2_base.specs.Format.{max_file_length}
use Rattle.qcow2_base.specs.Storage.{Holds, Image, OnImage, OnImages, SameOutside, StorageState, be}
use Rattle.qcow2_base.specs.Types.{IsClusterBits}
use Rattle.qcow2_base.specs.declared.fault.Fault.{Fault}
use Rattle.qcow2_base.specs.declared.fault.Fault.TheVariants.{CounterRange}
use Rattle.qcow2_metadata.specs.Header.{HeaderRecord, geometry_of}
use Rattle.qcow2_metadata.specs.Header.Marks.{is_marked, without_marks}
use Rattle.qcow2_metadata.specs.Header.Open.{IsWritableFault, header_after_load, opened_text}
use Rattle.qcow2_metadata.specs.Refblock.{greatest_counter}
use Rattle.qcow2_metadata.specs.Results.{IsFromOutside}
use Rattle.qcow2_metadata.specs.Table.{IsContentFault, IsTableFault}
use Rattle.qcow2_check.specs.Counters.{block_of_cluster, blocks_fault}
use Rattle.qcow2_check.specs.FileEnd.{file_clusters}
use Rattle.qcow2_check.specs.Findings.{is_shared}
use Rattle.qcow2_check.specs.NamedTables.{l1_cluster, l1_layout}
use Rattle.qcow2_check.specs.Uses.{ImageTables, all_load, image_tables, image_uses, uses_of}
use Rattle.qcow2_repair.specs.Counters.{BreaksOff, PassesCounters}
use Rattle.qcow2_repair.specs.Flags.{BreaksOffFlags, PassesFlags, l1_in, pass_all}
use Rattle.qcow2_repair.specs.Refusals.{IsRepairRefusal, leaves_nothing, repair_within, repairable_tables}
use Rattle.qcow2_check.specs.Failures.{ReportsFailures, TearsAtMost}
use Rattle.qcow2_repair.specs.declared.counters.CounterPass.TheVariants.{Fall, Rise}

-- the uses of cluster c in an image with these tables
abbrev pub image_uses_of : ImageTables → Image → ℕ → ℕ
image_uses_of tables image c = uses_of (image_uses tables image) c

-- an image whose counters and flags can be made right: its tables load, no cluster has uses that exclude each other, and each
-- counter can hold the uses of its cluster
pub record IsRepairable (tables : ImageTables) (image : Image) : Type 0 where
  pub bits : IsClusterBits tables.header.v2.cluster_bits
  pub orders : tables.header.base.refcount_order ≤ 6
  pub placed : blocks_fault tables.header tables.reftable ≡ None
  pub loads : all_load (geometry_of tables.header) tables.l1 image ≡ Ok (tt {0})
  pub apart : (c : ℕ) → c < max_file_length → is_shared (image_uses tables image) c ≡ false
  pub fits : (c : ℕ) → c < max_file_length → IsSome (block_of_cluster tables.header tables.reftable c) →
      image_uses_of tables image c ≤ greatest_counter tables.header.base.refcount_order

-- a fault of a pass over an image that can be repaired: it is from outside where the image's bytes are known
abbrev pub IsRepairFault : StorageState → Fault → Type 0
IsRepairFault image fault = (IsContentFault fault ⊎ (fault ≡ CounterRange)) × OnImage image (λ _. IsFromOutside fault)

-- the tables of an image with this header and this refcount table
abbrev pub tables_in : HeaderRecord → List ℕ → Image → ImageTables
tables_in header reftable image = image_tables header (l1_in header image) reftable

-- the flags of clusters that don't have one use are cleared, or those of clusters that have one are set
abbrev pub Clears : HeaderRecord → List ℕ → Image → Image → Type 0
Clears header reftable old new = PassesFlags (pass_all (tables_in header reftable old) old false) old new

abbrev pub Sets : HeaderRecord → List ℕ → Image → Image → Type 0
Sets header reftable old new = PassesFlags (pass_all (tables_in header reftable old) old true) old new

-- the counters of an image that are less than the uses of their clusters rise to these, or those that are greater fall to them
abbrev pub Raises : HeaderRecord → List ℕ → Image → Image → Type 0
Raises header reftable old new = PassesCounters (tables_in header reftable old) Rise old new

abbrev pub Lowers : HeaderRecord → List ℕ → Image → Image → Type 0
Lowers header reftable old new = PassesCounters (tables_in header reftable old) Fall old new

-- a repair of an image, in this order
pub record Repairs (header : HeaderRecord) (reftable : List ℕ) (old new : Image) : Type 0 where
  pub cleared : Image
  pub raised : Image
  pub lowered : Image
  pub clears : Clears header reftable old cleared
  pub raises : Raises header reftable cleared raised
  pub lowers : Lowers header reftable raised lowered
  pub sets : Sets header reftable lowered new

-- counters rise and then fall, and one of both passes ended in this fault before its time
abbrev pub BreaksOffCounters : HeaderRecord → List ℕ → Fault → Image → Image → Type 0
BreaksOffCounters header reftable fault old new =
    BreaksOff (tables_in header reftable old) Rise fault old new
    ⊎ ((raised : Image) × Raises header reftable old raised × BreaksOff (tables_in header reftable raised) Fall fault raised new)

-- a repair that ended in this fault before its time: in one of its passes, with all before it done
abbrev pub BreaksOffRepair : HeaderRecord → List ℕ → Fault → Image → Image → Type 0
BreaksOffRepair header reftable fault old new =
    BreaksOffFlags (pass_all (tables_in header reftable old) old false) fault old new
    ⊎ ((cleared : Image) × Clears header reftable old cleared × BreaksOffCounters header reftable fault cleared new)
    ⊎ ((cleared : Image) × (raised : Image) × (lowered : Image) × Clears header reftable old cleared × Raises header reftable cleared raised
    × Lowers header reftable raised lowered × BreaksOffFlags (pass_all (tables_in header reftable lowered) lowered true) fault lowered new)

-- a header was made one whose image may be written, as a load for writing makes it: its text was placed, where it had to be, and no
-- byte past it changed
pub record MakesWritable (header written : HeaderRecord) (old new : Image) : Type 0 where
  pub becomes : header_after_load true (Ok header) ≡ Ok written
  pub text : Holds new 0 (opened_text true (Ok header))
  pub others : SameOutside 0 (length (opened_text true (Ok header))) old new

-- a repair of an image with this header and these tables made the header this, and all its passes
abbrev pub HasPassed : HeaderRecord → HeaderRecord → ImageTables → Image → Image → Type 0
HasPassed header written tables old new = (mid : Image) × (repairable_tables header old ≡ Ok tables)
    × MakesWritable header written old mid × Repairs written tables.reftable mid new

-- the marks of a header were cleared, and it became this: its field in the image was written where it had any
pub record ClearsMarks (header left : HeaderRecord) (old new : Image) : Type 0 where
  pub becomes : left ≡ without_marks header
  pub idle : is_marked header ≡ false → new ≡ old
  pub field : is_marked header ≡ true → be new 72 8 ≡ left.base.incompatible_features
  pub others : SameOutside 72 8 old new

-- the end of a repair: the marks are cleared where it leaves nothing wrong
abbrev pub EndsMarks : Bool → HeaderRecord → HeaderRecord → Image → Image → Type 0
EndsMarks true header left old new = ClearsMarks header left old new
EndsMarks false header left old new = (left ≡ header) × (new ≡ old)

-- a repair of an image with this header, in a file of that many clusters, that was done, and in which the header became this
abbrev pub IsRepaired : ℕ → HeaderRecord → HeaderRecord → Image → Image → Type 0
IsRepaired file header left old new = (written : HeaderRecord) × (tables : ImageTables) × (passed : Image)
    × HasPassed header written tables old passed × EndsMarks (leaves_nothing file tables old) written left passed new

-- a repair made its passes, and tells which header that left, and whether it left nothing wrong
abbrev pub TellsPassed : ℕ → HeaderRecord → HeaderRecord × Bool → Image → Image → Type 0
TellsPassed file header told old new = (tables : ImageTables)
    × HasPassed header told.0 tables old new × (told.1 ≡ leaves_nothing file tables old)

-- the write of the header's text was torn, of an image that can be repaired
abbrev pub TearsText : HeaderRecord → Image → Image → Type 0
TearsText header old new = IsOk (repairable_tables header old) × SameOutside 0 (length (opened_text true (Ok header))) old new

-- a repair that broke off in this fault: before its passes, in one of them, or in the write of its marks, which was torn
abbrev pub BreaksOffAt : ℕ → HeaderRecord → Fault → Image → Image → Type 0
BreaksOffAt file header fault old new = TearsAtMost fault (TearsText header) old new
    ⊎ ((written : HeaderRecord) × (tables : ImageTables) × (mid : Image) × (repairable_tables header old ≡ Ok tables)
    × MakesWritable header written old mid × BreaksOffRepair written tables.reftable fault mid new)
    ⊎ ((written : HeaderRecord) × (tables : ImageTables) × (passed : Image) × HasPassed header written tables old passed
    × (leaves_nothing file tables old ≡ true) × TearsAtMost fault (SameOutside 72 8) passed new)

-- the faults of its passes, whatever is known of the image's bytes
abbrev pub IsPassFault : HeaderRecord → Fault → Type 0
IsPassFault header fault =
    IsTableFault (l1_layout header) (l1_cluster header) fault ⊎ (fault ≡ CounterRange) ⊎ IsFromOutside fault

-- a repair of an image with this header ended in this answer, with all done that a value says of a file with that number of
-- clusters. After a fault that isn't from outside no byte changed: the image can't be repaired, or its header has no room
pub record EndsRepair {T : Type 0} (header : HeaderRecord) (IsDone : ℕ → T → Image → Image → Type 0) (answer : Result T Fault) (old new : StorageState) : Type 0 where
  pub repairs : OnImages old new (λ before after. MatchResult answer
      (λ value. IsDone (file_clusters old.len header) value before after)
      (λ fault. BreaksOffAt (file_clusters old.len header) header fault before after))
  pub refused : IfErr answer (λ fault. OnImages old new (λ before after. IsFromOutside fault ⊎ ((after ≡ before)
      × ((repairable_tables header before ≡ Err fault) ⊎ (header_after_load true (Ok header) ≡ Err fault)
      ⊎ (repair_within header old.len before ≡ Err fault)))))
  pub faults : IfErr answer (λ fault. IsRepairRefusal header fault ⊎ IsWritableFault header fault)
  pub storage : ReportsFailures answer old new

-- the same of a whole repair, with the marks
abbrev pub RepairsImage : HeaderRecord → Result HeaderRecord Fault → StorageState → StorageState → Type 0
RepairsImage header = EndsRepair header (λ file. IsRepaired file header)
