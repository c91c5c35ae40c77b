use Rattle.std.proofs.Common.{◌≡◌, ◌≢◌, ◌⊎◌, ◌+◌, ◌-◌, ◌%◌, ◌≤◌, ◌<◌, ℕ, zero, suc, List, [], ◌∷◌, ◌++◌, length, map, flat_map, get_or, take, true, false, Option, Some, None, IfSome, option_map, Result, Ok, Err, IsOk, OnOk, IsTrue, ap, inl, inr, refl, sym, subst, ◌∙◌, arith}
use Rattle.std.proofs.lemmas.List.{map-append}
use Rattle.std.proofs.lemmas.Bool.{cases_Bool}
use Rattle.std.specs.List.{range_with_len}
use Rattle.qcow2_base.specs.Storage.{Image, OnImage, OnImages, OnlyReads, OnlyWrites, SameOutside, StorageState}
use Rattle.qcow2_base.specs.declared.fault.Fault.{Fault}
use Rattle.qcow2_base.specs.declared.fault.Fault.TheVariants.{NoMemory, Storage}
use Rattle.qcow2_base.specs.declared.types.HostCluster.{HostCluster}
use Rattle.qcow2_check.proofs.FailuresLemmas.{unmoved}
use Rattle.qcow2_check.proofs.NamedTablesLemmas.{l2_table_fits}
use Rattle.qcow2_check.specs.NamedTables.{IsInImage}
use Rattle.qcow2_edits.specs.Edits.{Makes, edit_fits, table_edit}
use Rattle.qcow2_edits.specs.declared.edits.Change.{Change}
use Rattle.qcow2_edits.specs.declared.edits.Edit.{Edit}
use Rattle.qcow2_metadata.specs.Header.{Geometry, HeaderRecord, geometry_of}
use Rattle.qcow2_metadata.specs.Placed.{IsLoaded, IsWritten, Layout, Writes, numbers_at, offset_of, place_fault, valid_numbers_at}
use Rattle.qcow2_metadata.specs.Results.{IsFromOutside, unless_refused}
use Rattle.qcow2_metadata.specs.Table.{IsTableFault, TableState, l2_entries, l2_kind, l2_layout, layout_of_table, loaded_l2_table}
use Rattle.qcow2_metadata.proofs.L2GuardsLemmas.{run_of-length, run_of-numbers}
use Rattle.qcow2_metadata.specs.Table.L2Guards.{run_of}
use Rattle.qcow2_apply.proofs.EditsByTableLemmas.{edits_by_at, taken-next}
use Rattle.qcow2_apply.proofs.GuestEditsLemmas.{edits-all, edits-next}
use Rattle.qcow2_apply.proofs.TablesLemmas.{edit-made, unfit-none}
use Rattle.qcow2_apply.specs.EditsByTable.{positions_in}
use Rattle.qcow2_apply.specs.GuestEdits.{edit_at, edits_by, guest_edit_fits}
use Rattle.qcow2_apply.specs.declared.guest_edits.GuestEdit.{GuestEdit}
use Rattle.qcow2_apply.specs.Tables.{AllFit, EditsTable, IsHeldTable, IsLeftBy, IsRereadFault, IsL2TableOf, run_in}

-- no edits leave a table as it is
pub left-none : (header : HeaderRecord) (table : TableState) → IsLeftBy header [] table table
left-none header table = record { numbers = refl; same = refl; flag = inl refl }

-- a table that edits are made of is of the same image
pub left-of : (header : HeaderRecord) (edits : List Edit) (old new : TableState) → IsL2TableOf header old → IsLeftBy header edits old new → IsL2TableOf header new
left-of header edits old new of left = record {
  geometry = ap (λ (table : TableState). table.geometry) left.same ∙ of.geometry;
  count = ap length left.numbers ∙ run_of-length (geometry_of header) (map table_edit edits) old.numbers ∙ of.count;
}

-- edits and then others are both
pub left-join : (header : HeaderRecord) (before later : List Edit) (old mid new : TableState) → IsLeftBy header before old mid
    → IsLeftBy header later mid new → IsLeftBy header (before ++ later) old new
left-join header before later old mid new first second =
    let g = geometry_of header in
    let split = ap (λ edits. (run_of g edits old.numbers).numbers) (map-append table_edit before later)
    ∙ run_of-numbers g (map table_edit before) (map table_edit later) old.numbers in
    record {
      numbers = second.numbers ∙ ap (λ numbers. (run_in header later numbers).numbers) first.numbers ∙ sym split;
      same = second.same ∙ ap (λ (table : TableState). record table { numbers = new.numbers; modified = new.modified }) first.same;
      flag = flags first.flag second.flag;
    }
  where
    flags : (mid ≡ old) ⊎ (mid.modified ≡ true) → (new ≡ mid) ⊎ (new.modified ≡ true) → (new ≡ old) ⊎ (new.modified ≡ true)
    flags one (inr set) = inr set
    flags (inl none) (inl also) = inl (also ∙ none)
    flags (inr set) (inl also) = inr (ap (λ (table : TableState). table.modified) also ∙ set)

-- one edit that is made
pub left-one : (header : HeaderRecord) (edit : Edit) (change : Change) (old new : TableState) → old.geometry ≡ geometry_of header
    → Makes (table_edit edit) change old new → IsLeftBy header (edit ∷ []) old new
left-one header edit change old new g made = record {
  numbers = ap (λ (table : TableState). table.numbers) made.table ∙ ap (λ geometry. (run_of geometry (table_edit edit ∷ []) old.numbers).numbers) g;
  same = made.table ∙ ap (λ (table : TableState). record old { numbers = table.numbers; modified = table.modified }) (sym made.table);
  flag = inr (ap (λ (table : TableState). table.modified) made.table);
}

-- no guest clusters are no edits
pub range-none : (f : ℕ → Edit) (start : ℕ) → map f (range_with_len start (start - start)) ≡ []
range-none f start = let none : start - start ≡ 0 = omega arith in rw none refl

-- the edit of one guest cluster more
pub left-next : (header : HeaderRecord) (f : ℕ → Edit) (start at : ℕ) (edit : Edit) (change : Change) (old mid new : TableState) → start ≤ at → edit ≡ f at
    → IsL2TableOf header old → IsLeftBy header (map f (range_with_len start (at - start))) old mid → Makes (table_edit edit) change mid new
    → IsLeftBy header (map f (range_with_len start (at + 1 - start))) old new
left-next header f start at edit change old mid new from is of before made =
    let done = map f (range_with_len start (at - start)) in
    let now = left-of header done old mid of before in
    let one = left-one header (f at) change mid new now.geometry (subst (λ e. Makes (table_edit e) change mid new) is made) in
    subst (λ edits. IsLeftBy header edits old new) (edits-next f [] done (done ++ f at ∷ []) start at from refl refl)
    (left-join header done (f at ∷ []) old mid new before one)

-- the edits of all of them
pub left-all : (header : HeaderRecord) (f : ℕ → Edit) (start at end : ℕ) (old new : TableState) → end ≤ at → (at ≤ end) ⊎ (at ≡ start)
    → IsLeftBy header (map f (range_with_len start (at - start))) old new → IsLeftBy header (map f (range_with_len start (end - start))) old new
left-all header f start at end old new past reached made = subst (λ edits. IsLeftBy header edits old new)
    (edits-all f [] (map f (range_with_len start (at - start))) start at end past reached refl) made

-- the edit of one guest cluster can be made of a table that edits left
pub left-fits : (header : HeaderRecord) (guest : GuestEdit) (at : ℕ) (edit : Edit) (edits : List Edit) (old mid : TableState) → IsL2TableOf header old → IsLeftBy header edits old mid
    → guest_edit_fits header guest ≡ true → edit ≡ edit_at guest (at % l2_entries header.v2.cluster_bits) → edit_fits mid edit ≡ true
left-fits header guest at edit edits old mid of left fits is =
    let now = left-of header edits old mid of left in
    rw (is, now.geometry, now.count) (edit-made header guest at fits)

-- each of edits that all fit does
pub all-fit-at : (header : HeaderRecord) (edits : List GuestEdit) (i : ℕ) (d : GuestEdit) → AllFit header edits → i < length edits
    → guest_edit_fits header (get_or edits i d) ≡ true
all-fit-at header [] i d fit below = absurd (omega (arith, below))
all-fit-at header (edit ∷ edits) zero d fit below = (unfit-none (guest_edit_fits header) edit edits fit).0
all-fit-at header (edit ∷ edits) (suc i) d fit below = all-fit-at header edits i d (unfit-none (guest_edit_fits header) edit edits fit).1 (omega (arith, below))

-- one edit of the disk more
pub left-more : (header : HeaderRecord) (index : ℕ) (edits : List GuestEdit) (ps : List ℕ) (k at : ℕ) (d : GuestEdit) (old mid new : TableState)
    → ps ≡ positions_in header.v2.cluster_bits index edits → k < length ps
    → IsLeftBy header (flat_map (edits_by_at header.v2.cluster_bits index edits) (take k ps)) old mid
    → IsLeftBy header (edits_by header.v2.cluster_bits index (get_or edits (get_or ps k at) d)) mid new
    → IsLeftBy header (flat_map (edits_by_at header.v2.cluster_bits index edits) (take (k + 1) ps)) old new
left-more header index edits ps k at d old mid new is below before made =
    subst (λ all. IsLeftBy header all old new) (sym (taken-next header.v2.cluster_bits index edits ps k at d is below))
    (left-join header (flat_map (edits_by_at header.v2.cluster_bits index edits) (take k ps)) (edits_by header.v2.cluster_bits index (get_or edits (get_or ps k at) d))
    old mid new before made)

-- numbers that are read are those that are there
numbers-read : (layout : Layout) (cluster : HostCluster) (image : Image) (numbers : List ℕ) → valid_numbers_at layout cluster image ≡ Ok numbers
    → numbers_at layout cluster image ≡ numbers
numbers-read layout cluster image numbers read = by_fault (layout.fault_of_numbers (numbers_at layout cluster image)) read
  where
    by_fault : (fault : Option Fault) → unless_refused fault (Ok (numbers_at layout cluster image)) ≡ Ok numbers → numbers_at layout cluster image ≡ numbers
    by_fault None is = grind (arith, is)
    by_fault (Some fault) is = absurd (grind (arith, is))

-- a table that was loaded is one of a cluster still, when edits were made of it
pub left-held : (header : HeaderRecord) (edits : List Edit) (cluster : HostCluster) (image : StorageState) (loaded made : TableState)
    → place_fault (l2_layout (geometry_of header)) cluster ≡ None → IsLoaded (l2_layout (geometry_of header)) (geometry_of header) cluster image loaded
    → IsLeftBy header edits loaded made → IsHeldTable header cluster made
left-held header edits cluster image loaded made placed load left =
    let of = left-of header edits loaded made (record { geometry = load.geometry; count = load.count }) left in
    record {
      count = of.count;
      cluster = ap (λ (table : TableState). table.cluster) left.same ∙ load.cluster;
      geometry = of.geometry;
      placed = placed;
    }

-- where it is written, edits were made of the table of its cluster
pub edits-table : (header : HeaderRecord) (edits : List Edit) (cluster : HostCluster) (loaded made : TableState) (answer : Result (Unit {0}) Fault)
    (old read new : StorageState) → IsTrue old.tells → IsTrue read.tells → read.byte_at ≡ old.byte_at
    → IsLoaded (l2_layout (geometry_of header)) (geometry_of header) cluster old loaded
    → loaded_l2_table (geometry_of header) cluster old.byte_at ≡ Ok loaded.numbers → IsLeftBy header edits loaded made → IsHeldTable header cluster made
    → (made.modified ≡ false → new.byte_at ≡ read.byte_at)
    → (made.modified ≡ true → Writes (layout_of_table l2_kind made) made.numbers made.cluster answer read new)
    → OnOk answer (EditsTable header edits cluster old.byte_at new.byte_at)
edits-table header edits cluster loaded made (Err fault) old read new told known same load loads left held idle wrote = tt
edits-table header edits cluster loaded made (Ok done) old read new told known same load loads left held idle wrote =
    let layout = l2_layout (geometry_of header) in
    let before : numbers_at layout cluster old.byte_at ≡ loaded.numbers = sym (load.numbers told) in
    let run = left.numbers ∙ ap (λ numbers. (run_in header edits numbers).numbers) (sym before) in
    record {
      loads = loads ∙ ap Ok (sym before);
      numbers = elim (cases_Bool made.modified) [
        | inl is ↦
            let of : layout_of_table l2_kind made ≡ layout = rw (held.geometry, held.count) refl in
            let written = (wrote is).written known in
            let here : IsWritten layout made.numbers cluster read.byte_at new.byte_at =
            subst (λ there. IsWritten there made.numbers cluster read.byte_at new.byte_at) of
            (subst (λ place. IfSome place (λ c. IsWritten (layout_of_table l2_kind made) made.numbers c read.byte_at new.byte_at)) held.cluster written) in
            numbers-read layout cluster new.byte_at made.numbers here.decoded ∙ run
        | inr is ↦ elim left.flag [
          | inl none ↦ ap (λ bytes. numbers_at layout cluster bytes) (idle is ∙ same) ∙ before ∙ sym (ap (λ (table : TableState). table.numbers) none) ∙ run
          | inr set ↦ absurd (grind (arith, is, set))
        ]
      ];
    }

-- a table that was loaded, edited and written is of the same image
pub left-written : (header : HeaderRecord) (edits : List Edit) (loaded made written : TableState) → loaded.geometry ≡ geometry_of header
    → length loaded.numbers ≡ l2_entries header.v2.cluster_bits → IsLeftBy header edits loaded made → written ≡ record made { modified = written.modified }
    → IsL2TableOf header written
left-written header edits loaded made written g count left same =
    let of = left-of header edits loaded made (record { geometry = g; count = count }) left in
    record {
      geometry = ap (λ (table : TableState). table.geometry) same ∙ of.geometry;
      count = ap (λ (table : TableState). length table.numbers) same ∙ of.count;
    }

-- what holds of an answer where the bytes are known
pub where-told : {T : Type 0} (answer : Result T Fault) (Told Fact : Type 0) → (Told → OnOk answer Fact) → OnOk answer (Told → Fact)
where-told (Ok value) Told Fact fact = fact
where-told (Err fault) Told Fact fact = tt

-- the fault of a table that is read over another, at a place in the image
pub reread-fault : (g of : Geometry) (cluster : HostCluster) (image : StorageState) (fault : Fault) → g ≡ of → IsInImage of.cluster_bits cluster
    → IsTableFault (l2_layout g) cluster fault ⊎ IsFromOutside fault → fault ≢ NoMemory
    → OnImage image (λ bytes. (fault ≡ Storage) ⊎ (fault ≡ NoMemory) ⊎ (loaded_l2_table g cluster bytes ≡ Err fault))
    → IsRereadFault fault × OnImage image (λ bytes. (fault ≡ Storage) ⊎ (loaded_l2_table of cluster bytes ≡ Err fault))
reread-fault g of cluster image fault is within faults memory exact =
    let placed : place_fault (l2_layout g) cluster ≡ None = rw is (l2_table_fits of cluster within) in (
      elim faults [
        | inl (inl place) ↦ absurd (let never = sym placed ∙ place in grind (arith, never))
        | inl (inr entry) ↦ inl entry
        | inr (inl none) ↦ absurd (memory none)
        | inr (inr failed) ↦ inr failed
      ],
      λ told. elim (exact told) [
        | inl failed ↦ inl failed
        | inr (inl none) ↦ absurd (memory none)
        | inr (inr refused) ↦ inr (subst (λ geometry. loaded_l2_table geometry cluster image.byte_at ≡ Err fault) is refused)
      ],
    )

-- where nothing is written, no byte changes
idle-writes : {T : Type 0} (value : T) (place : Option ℕ) (len : ℕ) (state : StorageState) → OnlyWrites (Ok value) place len state state
idle-writes value place len state = record {
  told = grind (arith);
  others = λ told. outside place;
  refused = tt;
  device = record { tells = refl; mem_align = refl; req_align = refl };
}
  where
    outside : (place : Option ℕ) → IfSome place (λ offset. SameOutside offset len state.byte_at state.byte_at)
    outside None = tt
    outside (Some offset) = record { before = λ o below. refl; after = λ o past. refl }

-- a table that was read, edited and written changes no byte outside its cluster
pub written-alone : {T U : Type 0} (header : HeaderRecord) (cluster : HostCluster) (made : TableState) (value : U) (answer : Result T Fault)
    (old read new : StorageState) → OnlyReads (Ok value) old read → IsHeldTable header cluster made
    → (made.modified ≡ false → IsOk answer × (new ≡ read))
    → (made.modified ≡ true → Writes (layout_of_table l2_kind made) made.numbers made.cluster answer read new)
    → (let layout = l2_layout (geometry_of header) in OnlyWrites answer (Some (offset_of layout cluster)) layout.byte_count old new)
written-alone {T} header cluster made value answer old read new reads held idle wrote =
    let layout = l2_layout (geometry_of header) in
    let of : layout_of_table l2_kind made ≡ layout = rw (held.geometry, held.count) refl in
    subst (λ state. OnlyWrites answer (Some (offset_of layout cluster)) layout.byte_count state new) (unmoved value old read reads) (elim (cases_Bool made.modified) [
      | inl is ↦ subst (λ place. OnlyWrites answer (option_map (offset_of layout) place) layout.byte_count read new) held.cluster
          (subst (λ there. OnlyWrites answer (option_map (offset_of there) made.cluster) there.byte_count read new) of (wrote is).storage)
      | inr is ↦ by_answer answer (idle is)
    ])
  where
    by_answer : (answer : Result T Fault) → IsOk answer × (new ≡ read)
        → (let layout = l2_layout (geometry_of header) in OnlyWrites answer (Some (offset_of layout cluster)) layout.byte_count read new)
    by_answer (Ok done) (ok, same) = let layout = l2_layout (geometry_of header) in
        subst (λ state. OnlyWrites (Ok done) (Some (offset_of layout cluster)) layout.byte_count read state) (sym same) (idle-writes done _ _ read)
    by_answer (Err fault) (ok, same) = absurd (grind (arith, ok))

-- where edits were made of a table, it could be loaded
pub table-loads : (header : HeaderRecord) (edits : List Edit) (cluster : HostCluster) (answer : Result (Unit {0}) Fault) (old new : StorageState)
    → OnOk answer (OnImages old new (EditsTable header edits cluster)) → OnOk answer (OnImage old (λ bytes.
    loaded_l2_table (geometry_of header) cluster bytes ≡ Ok (numbers_at (l2_layout (geometry_of header)) cluster bytes)))
table-loads header edits cluster (Ok done) old new edited = λ told. (edited told).loads
table-loads header edits cluster (Err fault) old new edited = tt
