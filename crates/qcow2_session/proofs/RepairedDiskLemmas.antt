use Rattle.std.proofs.Common.{◌≡◌, ℕ, zero, suc, Bool, true, false, ◌*◌, ◌/◌, ◌%◌, ◌^◌, List, [], ◌∷◌, map, slice_index, Option, Some, None, Ok, ap, refl, subst, sym, ◌∙◌, inl, inr, arith}
use Rattle.std.proofs.lemmas.Bool.Decides.{nat_tests}
use Rattle.qcow2_base.specs.Storage.{Image, IsBytes}
use Rattle.qcow2_base.specs.declared.fault.Fault.{Fault}
use Rattle.qcow2_base.specs.declared.types.HostCluster.{HostCluster}
use Rattle.qcow2_metadata.proofs.CopiedLemmas.{is_compressed-with_copied, is_copied-with_copied, is_zero-with_copied, offset_field-with_copied}
use Rattle.qcow2_metadata.proofs.MarksLemmas.{unmarked-geometry}
use Rattle.qcow2_metadata.proofs.WritableLemmas.{writable-same}
use Rattle.qcow2_metadata.specs.Entries.{is_copied, with_copied}
use Rattle.qcow2_metadata.specs.Entries.L2Entry.{is_allocated, is_compressed, is_zero, l2_fault}
use Rattle.qcow2_metadata.specs.Entries.L2Mapping.{host_cluster, mapping, standard_mapping}
use Rattle.qcow2_metadata.specs.Header.{Geometry, HeaderRecord, IsValidHeader, geometry_of}
use Rattle.qcow2_metadata.specs.Header.Marks.{without_marks}
use Rattle.qcow2_metadata.specs.Header.Open.{SaysSame}
use Rattle.qcow2_metadata.specs.Placed.{place_fault}
use Rattle.qcow2_metadata.specs.Results.{result_map, unless_refused}
use Rattle.qcow2_metadata.specs.Table.{first_fault, l2_entries, l2_layout, loaded_l2_table}
use Rattle.qcow2_check.specs.Flags.{flagged_cluster}
use Rattle.qcow2_check.specs.NamedTables.{loaded_l1_table, named_cluster}
use Rattle.qcow2_check.specs.Uses.{ImageTables, all_load, image_tables, l1_entry_loads}
use Rattle.qcow2_image.specs.Lookups.{guest_mapping, mapping_in}
use Rattle.qcow2_repair.proofs.CheckableLemmas.{checkable-repaired}
use Rattle.qcow2_repair.proofs.FlagWindowsLemmas.{names-same}
use Rattle.qcow2_repair.proofs.FlagsLemmas.{passed_cases}
use Rattle.qcow2_repair.proofs.FoundLemmas.{checked-parts, found-repairable, repairable-found-written}
use Rattle.qcow2_repair.proofs.HeaderLemmas.{first-l1-stays, geometry-said, l2-past-first, repairable-l1, repairable-written, text-fits}
use Rattle.qcow2_repair.proofs.MarksLemmas.{field-fits, repairable-cleared, within-first}
use Rattle.qcow2_repair.proofs.OrderLemmas.{l1-stays}
use Rattle.qcow2_repair.proofs.RepairLemmas.{entry-loads, table-stays}
use Rattle.qcow2_repair.proofs.StagesLemmas.{counters-step, flags-step, stages}
use Rattle.qcow2_repair.specs.Counters.{IsOutsideBlocks}
use Rattle.qcow2_repair.specs.Flags.{FlagPassState, NamesTable, PassesFlags, l1_in, l2_due, l2_in, pass_all, passed_l2, with_due}
use Rattle.qcow2_repair.specs.Refusals.{leaves_nothing, repairable_tables}
use Rattle.qcow2_repair.specs.Repair.{ClearsMarks, EndsMarks, IsRepairable, IsRepaired, MakesWritable, Repairs, tables_in}
use Rattle.qcow2_session.specs.RepairedDisk.{ReadSame, without_flag}

-- the flag says nothing of what a standard entry reads as
unflagged : (zero : Bool) (cluster : Option ℕ) (one other : Bool) (offset : ℕ)
    → without_flag (standard_mapping zero cluster one offset) ≡ without_flag (standard_mapping zero cluster other offset)
unflagged true None one other offset = refl
unflagged true (Some cluster) one other offset = refl
unflagged false None one other offset = refl
unflagged false (Some cluster) one other offset = refl

-- with another flag a standard entry reads as the same, if it refers to a cluster as before
reads-with_copied : (g : Geometry) (flag : Bool) (guest v : ℕ) → is_compressed v ≡ false
    → is_allocated g.external_data_file (with_copied flag v) ≡ is_allocated g.external_data_file v
    → without_flag (mapping g guest (with_copied flag v)) ≡ without_flag (mapping g guest v)
reads-with_copied g flag guest v standard refers =
    let after : is_compressed (with_copied flag v) ≡ false = is_compressed-with_copied flag v ∙ standard in
    let cluster : host_cluster g (with_copied flag v) ≡ host_cluster g v = rw (refers, offset_field-with_copied flag v) refl in
    rw (after, standard, is_zero-with_copied flag v, cluster)
    (unflagged (is_zero v) (host_cluster g v) (is_copied (with_copied flag v)) (is_copied v) (guest * 2 ^ g.cluster_bits))

-- an entry that refers to a cluster does so with the flag that a pass gives it. In an external data file it is given no other
-- flag than that of a cluster with one use
refers-passed : (external flag : Bool) (due : Option Bool) (v : ℕ) → (external ≡ true → due ≡ Some true) → with_due flag due v ≡ with_copied flag v
    → is_allocated external v ≡ true → is_allocated external (with_copied flag v) ≡ is_allocated external v
refers-passed false flag due v outside turned refers = rw (offset_field-with_copied flag v) refl
refers-passed true true due v outside turned refers = grind (arith, nat_tests, refers, is_copied-with_copied true v)
refers-passed true false due v outside turned refers = ap (is_allocated true) (sym (rw (outside refl) at turned))

-- so each L2 entry reads as the same after a pass
entry-reads : (pass : FlagPassState) (guest v : ℕ)
    → without_flag (mapping (geometry_of pass.header) guest (passed_l2 pass v)) ≡ without_flag (mapping (geometry_of pass.header) guest v)
entry-reads pass guest v = by_cluster (flagged_cluster (geometry_of pass.header) v) refl
  where
    g : Geometry
    g = geometry_of pass.header

    by_cluster : (found : Option HostCluster) → flagged_cluster g v ≡ found → without_flag (mapping g guest (passed_l2 pass v)) ≡ without_flag (mapping g guest v)
    by_cluster None names =
        let due : l2_due pass v ≡ None = grind (arith, names) in
        ap (λ due. without_flag (mapping g guest (with_due pass.flag due v))) due
    by_cluster (Some cluster) names = elim (passed_cases pass.flag (l2_due pass v) v) [
      | inl same ↦ ap (λ w. without_flag (mapping g guest w)) same
      | inr turned ↦
          let standard : is_compressed v ≡ false = grind (arith, nat_tests, names) in
          let refers : is_allocated g.external_data_file v ≡ true = grind (arith, nat_tests, names) in
          let due : g.external_data_file ≡ true → l2_due pass v ≡ Some true = λ external. grind (arith, names, external) in
          ap (λ w. without_flag (mapping g guest w)) turned
          ∙ reads-with_copied g pass.flag guest v standard (refers-passed g.external_data_file pass.flag (l2_due pass v) v due turned refers)
    ]

-- and so does each of a table
numbers-read : (pass : FlagPassState) (guest : ℕ) (vs : List ℕ) (k : ℕ)
    → without_flag (mapping (geometry_of pass.header) guest (slice_index (map (passed_l2 pass) vs) k))
    ≡ without_flag (mapping (geometry_of pass.header) guest (slice_index vs k))
numbers-read pass guest [] k = refl
numbers-read pass guest (v ∷ vs) zero = entry-reads pass guest v
numbers-read pass guest (v ∷ vs) (suc k) = numbers-read pass guest vs k

-- a table that loads has these numbers
loads-as : (place fault : Option Fault) (numbers : List ℕ) → result_map (λ _. tt {0}) (unless_refused place (unless_refused fault (Ok numbers))) ≡ Ok tt
    → unless_refused place (unless_refused fault (Ok numbers)) ≡ Ok numbers
loads-as None None numbers loads = refl
loads-as None (Some fault) numbers loads = absurd (grind (arith, loads))
loads-as (Some place) fault numbers loads = absurd (grind (arith, loads))

table-loads : (header : HeaderRecord) (l1 : List ℕ) (i : ℕ) (table : HostCluster) (image : Image) → all_load (geometry_of header) l1 image ≡ Ok tt
    → named_cluster header.v2.cluster_bits (slice_index l1 i) ≡ Some table → loaded_l2_table (geometry_of header) table image ≡ Ok (l2_in header table image)
table-loads header l1 i table image loads names =
    let g = geometry_of header in
    let here : result_map (λ _. tt {0}) (loaded_l2_table g table image) ≡ Ok tt = rw (names, l1_entry_loads) at (entry-loads g l1 i image loads) in
    loads-as (place_fault (l2_layout g) table) (first_fault (l2_fault header.v2.cluster_bits) (l2_in header table image)) (l2_in header table image) here

-- a guest offset reads as the same by two L1 tables whose entries name the same L2 tables, where all load, and their entries read
-- as the same
tables-read : (header : HeaderRecord) (l1 later : List ℕ) (old new : Image) → all_load (geometry_of header) l1 old ≡ Ok tt → all_load (geometry_of header) later new ≡ Ok tt
    → ((k : ℕ) → named_cluster header.v2.cluster_bits (slice_index later k) ≡ named_cluster header.v2.cluster_bits (slice_index l1 k))
    → ((table : HostCluster) → NamesTable header l1 table → (guest k : ℕ) → without_flag (mapping (geometry_of header) guest (slice_index (l2_in header table new) k))
    ≡ without_flag (mapping (geometry_of header) guest (slice_index (l2_in header table old) k)))
    → (o : ℕ) → ReadSame (guest_mapping (geometry_of header) later o new) (guest_mapping (geometry_of header) l1 o old)
tables-read header l1 later old new loads_old loads_new names same o = by_table (named_cluster header.v2.cluster_bits (slice_index l1 i)) refl
  where
    guest : ℕ
    guest = o / 2 ^ header.v2.cluster_bits

    i : ℕ
    i = guest / l2_entries header.v2.cluster_bits

    by_table : (found : Option HostCluster) → named_cluster header.v2.cluster_bits (slice_index l1 i) ≡ found
        → ReadSame (guest_mapping (geometry_of header) later o new) (guest_mapping (geometry_of header) l1 o old)
    by_table None none = rw (names i ∙ none, none) refl
    by_table (Some table) is =
        let before = table-loads header l1 i table old loads_old is in
        let after = table-loads header later i table new loads_new (names i ∙ is) in
        rw (names i ∙ is, is, before, after) (ap Ok (same table (i, is) guest (guest % l2_entries header.v2.cluster_bits)))

-- the guest offsets of an image with this header read as before, by its own L1 table
abbrev KeepsReads : HeaderRecord → Image → Image → Type 0
KeepsReads header old new = (o : ℕ)
    → ReadSame (guest_mapping (geometry_of header) (l1_in header new) o new) (guest_mapping (geometry_of header) (l1_in header old) o old)

-- so it is after a pass over flags
flags-read : (header : HeaderRecord) (reftable : List ℕ) (flag : Bool) (old new : Image) → IsRepairable (tables_in header reftable old) old
    → PassesFlags (pass_all (tables_in header reftable old) old flag) old new → KeepsReads header old new
flags-read header reftable flag old new is passes =
    let pass = pass_all (tables_in header reftable old) old flag in
    tables-read header (l1_in header old) (l1_in header new) old new is.loads (flags-step header reftable flag old new is passes).is.loads
    (λ k. ap (λ l1. named_cluster header.v2.cluster_bits (slice_index l1 k)) passes.l1_table ∙ names-same pass (l1_in header old) k)
    (λ table names guest k. ap (λ numbers. without_flag (mapping (geometry_of header) guest (slice_index numbers k))) (passes.l2_tables table names)
    ∙ numbers-read pass guest (l2_in header table old) k)

-- and after one over counters
counters-read : (header : HeaderRecord) (reftable : List ℕ) (old new : Image) → IsRepairable (tables_in header reftable old) old
    → ((o : ℕ) → IsOutsideBlocks (tables_in header reftable old) o → new o ≡ old o) → KeepsReads header old new
counters-read header reftable old new is others =
    let tables = tables_in header reftable old in
    tables-read header (l1_in header old) (l1_in header new) old new is.loads (counters-step header reftable old new is others).is.loads
    (λ k. ap (λ l1. named_cluster header.v2.cluster_bits (slice_index l1 k)) (l1-stays tables old new is others))
    (λ table names guest k. ap (λ numbers. without_flag (mapping (geometry_of header) guest (slice_index numbers k)))
    (table-stays tables old new names.0 table is others names.1))

-- after all passes of a repair
passes-read : (header : HeaderRecord) (reftable : List ℕ) (old new : Image) → IsRepairable (tables_in header reftable old) old
    → Repairs header reftable old new → KeepsReads header old new
passes-read header reftable old new is repair o =
    let all = stages header reftable old new repair is in
    flags-read header reftable true repair.lowered new all.three.is repair.sets o
    ∙ counters-read header reftable repair.raised repair.lowered all.two.is repair.lowers.others o
    ∙ counters-read header reftable repair.cleared repair.raised all.one.is repair.raises.others o
    ∙ flags-read header reftable false old repair.cleared is repair.clears o

-- and after the header is made writable
written-reads : (header written : HeaderRecord) (tables : ImageTables) (old mid : Image) → IsValidHeader header → IsBytes old
    → repairable_tables header old ≡ Ok tables → MakesWritable header written old mid → (o : ℕ)
    → ReadSame (guest_mapping (geometry_of written) (l1_in written mid) o mid) (guest_mapping (geometry_of header) (l1_in header old) o old)
written-reads header written tables old mid valid bytes is makes o =
    let here = found-repairable header old tables valid.cluster_bits valid.refcount_order bytes is in
    let says : SaysSame header written = writable-same header written makes.becomes in
    let same : tables.l1 ≡ l1_in header old = (repairable-l1 header tables old is).1 in
    let both = repairable-written header written tables.l1 tables.reftable _ old mid says here same makes.others (text-fits header) in
    let start = repairable-found-written header written tables old mid valid bytes is makes in
    let l1 : l1_in written mid ≡ l1_in header old = both.1 ∙ same in
    let geometry = geometry-said header written says in
    let loads : all_load (geometry_of header) (l1_in written mid) mid ≡ Ok tt = subst (λ g. all_load g (l1_in written mid) mid ≡ Ok tt) geometry start.loads in
    subst (λ g. ReadSame (guest_mapping g (l1_in written mid) o mid) (guest_mapping (geometry_of header) (l1_in header old) o old)) (sym geometry)
    (tables-read header (l1_in header old) (l1_in written mid) old mid (rw same at here.loads) loads
    (λ k. ap (λ l1. named_cluster header.v2.cluster_bits (slice_index l1 k)) l1)
    (λ table names guest k. ap (λ numbers. without_flag (mapping (geometry_of header) guest (slice_index numbers k)))
    (l2-past-first (image_tables header tables.l1 tables.reftable) old mid _ table here makes.others (text-fits header) (rw (sym same) at names)))
    o)

-- and after its marks are cleared
cleared-reads : (header left : HeaderRecord) (reftable : List ℕ) (old new : Image) → IsRepairable (tables_in header reftable old) old
    → ClearsMarks header left old new → (o : ℕ)
    → ReadSame (guest_mapping (geometry_of (without_marks header)) (l1_in header new) o new)
    (guest_mapping (geometry_of header) (l1_in header old) o old)
cleared-reads header left reftable old new is clears o =
    let tables = tables_in header reftable old in
    let outside = within-first old new clears.others in
    let fits = field-fits header.v2.cluster_bits is.bits in
    let l1 : l1_in header new ≡ l1_in header old = first-l1-stays tables old new 80 is outside fits in
    let geometry = unmarked-geometry header in
    let loads : all_load (geometry_of header) (l1_in header new) new ≡ Ok tt =
    subst (λ g. all_load g (l1_in header new) new ≡ Ok tt) geometry (repairable-cleared header left reftable old new is clears).loads in
    subst (λ g. ReadSame (guest_mapping g (l1_in header new) o new) (guest_mapping (geometry_of header) (l1_in header old) o old)) (sym geometry)
    (tables-read header (l1_in header old) (l1_in header new) old new is.loads loads
    (λ k. ap (λ l1. named_cluster header.v2.cluster_bits (slice_index l1 k)) l1)
    (λ table names guest k. ap (λ numbers. without_flag (mapping (geometry_of header) guest (slice_index numbers k)))
    (l2-past-first tables old new 80 table is outside fits names))
    o)

ended-reads : (nothing : Bool) (header left : HeaderRecord) (reftable : List ℕ) (old new : Image) → IsRepairable (tables_in header reftable old) old
    → EndsMarks nothing header left old new → (o : ℕ)
    → ReadSame (guest_mapping (geometry_of left) (l1_in left new) o new) (guest_mapping (geometry_of header) (l1_in header old) o old)
ended-reads false header left reftable old new is ends o = rw (ends.0, ends.1) refl
ended-reads true header left reftable old new is ends o = rw ends.becomes (cleared-reads header left reftable old new is ends o)

-- so a repair keeps what each guest offset reads as, but for its flag
pub repaired-reads : (file : ℕ) (header left : HeaderRecord) (old new : Image) → IsValidHeader header → IsBytes old → IsRepaired file header left old new → (o : ℕ)
    → ReadSame (mapping_in left o new) (mapping_in header o old)
repaired-reads file header left old new valid bytes (written, tables, passed, (mid, is, makes, repair), ends) o =
    let start = repairable-found-written header written tables old mid valid bytes is makes in
    let before : loaded_l1_table header old ≡ Ok (l1_in header old) = (repairable-l1 header tables old is).0 in
    let after : loaded_l1_table left new ≡ Ok (l1_in left new)
    = (checked-parts left new (tables_in left tables.reftable new)
    (checkable-repaired (leaves_nothing file tables old) header written left tables old passed new valid bytes (mid, is, makes, repair) ends)).l1 in
    rw (before, after) (ended-reads (leaves_nothing file tables old) written left tables.reftable passed new
    (stages written tables.reftable mid passed repair start).four.is ends o
    ∙ passes-read written tables.reftable mid passed start repair o ∙ written-reads header written tables old mid valid bytes is makes o)
