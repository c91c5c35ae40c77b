use Rattle.std.proofs.Common.{◌≡◌, ◌≢◌, ◌∙◌, ◌+◌, ◌⊎◌, ℕ, suc, ◌*◌, ◌%◌, ◌^◌, ◌<◌, Bool, true, false, not, List, [], ◌∷◌, length, slice_index, Some, None, Result, Ok, Err, IfErr, OnOk, IsOk, inl, inr, refl, subst, sym, mod-lt, arith}
use Rattle.std.proofs.lemmas.Bool.{cases_Bool, cases_eq, cases_lt}
use Rattle.std.proofs.lemmas.Bool.Decides.{nat_tests}
use Rattle.std.proofs.lemmas.List.{get_or_past}
use Rattle.std.proofs.lemmas.Nat.{pow_pos}
use Rattle.std.proofs.lemmas.List.Elements.{All-append, All-map}
use Rattle.std.specs.List.{All, position}
use Rattle.qcow2_base.specs.declared.fault.Fault.{Fault}
use Rattle.qcow2_base.specs.declared.fault.Fault.TheVariants.{Storage}
use Rattle.qcow2_base.specs.Storage.{Image, OnImage, SameOutside, StorageState}
use Rattle.qcow2_base.specs.Types.{IsClusterBits}
use Rattle.qcow2_base.specs.declared.types.HostCluster.{HostCluster}
use Rattle.qcow2_edits.specs.Edits.{first_unfit_edit, table_edit}
use Rattle.qcow2_edits.specs.declared.edits.Edit.{Edit}
use Rattle.qcow2_metadata.specs.Header.{HeaderRecord, geometry_of}
use Rattle.qcow2_metadata.proofs.TableLemmas.{full_cluster}
use Rattle.qcow2_metadata.specs.Placed.{Writes, numbers_at, offset_of, write_fault}
use Rattle.qcow2_metadata.specs.Table.{TableState, l2_entries, l2_kind, l2_layout, layout_of_table, loaded_l2_table}
use Rattle.qcow2_metadata.specs.Table.L2Guards.{fits_table}
use Rattle.qcow2_apply.specs.GuestEdits.{edit_at, edits_by, edits_in, guest_edit_fits}
use Rattle.qcow2_summary.proofs.ClustersLemmas.{table-same}
use Rattle.qcow2_check.specs.NamedTables.{named_cluster}
use Rattle.qcow2_apply.proofs.PassesLemmas.{AreOfClusters}
use Rattle.qcow2_apply.specs.Tables.{AllFit, AreMade, FailsAt, IsEdited, FirstFails, IsHeldTable, IsRereadFault, LoadsAt, NoneFailsBefore, l2_tables}
use Rattle.qcow2_apply.specs.Passes.{PassesBefore}
use Rattle.qcow2_apply.specs.declared.guest_edits.GuestEdit.{GuestEdit}
use Rattle.qcow2_apply.specs.declared.guest_edits.GuestEdit.TheVariants.{Discard, Map, Zero}

-- a list of which each passes a test has no first that doesn't
none-unfit : {A : Type 0} (test : A → Bool) (items : List A) → All (λ item. test item ≡ true) items → position (λ item. not (test item)) items ≡ None
none-unfit test [] all = refl
none-unfit test (item ∷ items) all = let first : test item ≡ true = all 0 item (omega arith) in
    grind (arith, first, none-unfit test items (λ k d below. all (suc k) d (omega (arith, below))))

-- edits that can be made of each table can be made of this one
pub none-refused : (header : HeaderRecord) (table : TableState) (edits : List Edit) → table.geometry ≡ geometry_of header
    → length table.numbers ≡ l2_entries header.v2.cluster_bits → AreMade header edits → first_unfit_edit table edits ≡ None
none-refused header table edits g full made =
    rw (g, full) (none-unfit (λ edit. fits_table (geometry_of header) (l2_entries header.v2.cluster_bits) (table_edit edit)) edits made)

-- an index of an L2 table
index-fits : (cb guest_cluster : ℕ) → guest_cluster % l2_entries cb < l2_entries cb
index-fits cb guest_cluster = mod-lt guest_cluster (pow_pos _)

-- an edit of the disk that fits is edits that can be made of each table
pub edit-made : (header : HeaderRecord) (edit : GuestEdit) (guest_cluster : ℕ) → guest_edit_fits header edit ≡ true
    → fits_table (geometry_of header) (l2_entries header.v2.cluster_bits) (table_edit (edit_at edit (guest_cluster % l2_entries header.v2.cluster_bits))) ≡ true
edit-made header (Map offset host_cluster) guest_cluster fits = grind (arith, nat_tests, index-fits header.v2.cluster_bits guest_cluster, fits)
edit-made header (Zero offset size keep_allocation) guest_cluster fits = grind (arith, nat_tests, index-fits header.v2.cluster_bits guest_cluster)
edit-made header (Discard offset size) guest_cluster fits = grind (arith, nat_tests, index-fits header.v2.cluster_bits guest_cluster)

-- each of them
edits-made-by : (header : HeaderRecord) (index : ℕ) (edit : GuestEdit) → guest_edit_fits header edit ≡ true
    → AreMade header (edits_by header.v2.cluster_bits index edit)
edits-made-by header index edit fits = All-map (λ made. fits_table (geometry_of header) (l2_entries header.v2.cluster_bits) (table_edit made) ≡ true) _ _
    (λ k d below. edit-made header edit _ fits)

-- where each of a list passes a test, its first does and the others do
pub unfit-none : {A : Type 0} (test : A → Bool) (item : A) (items : List A) → position (λ other. not (test other)) (item ∷ items) ≡ None
    → (test item ≡ true) × (position (λ other. not (test other)) items ≡ None)
unfit-none test item items none = elim (cases_Bool (test item)) [
  | inl passes ↦ (passes, grind (arith, passes, none))
  | inr fails ↦ absurd (grind (arith, fails, none))
]

-- and those of edits that all fit
pub edits-made : (header : HeaderRecord) (index : ℕ) (edits : List GuestEdit) → AllFit header edits → AreMade header (edits_in header.v2.cluster_bits index edits)
edits-made header index [] fit = λ k d below. absurd (omega (arith, below))
edits-made header index (edit ∷ edits) fit =
    let all = unfit-none (guest_edit_fits header) edit edits fit in
    All-append (λ made. fits_table (geometry_of header) (l2_entries header.v2.cluster_bits) (table_edit made) ≡ true)
    (edits_by header.v2.cluster_bits index edit) (edits_in header.v2.cluster_bits index edits)
    (edits-made-by header index edit all.0) (edits-made header index edits all.1)

-- the numbers of an L2 table are those of its cluster's bytes
pub are-of-clusters : (header : HeaderRecord) (l1 : List ℕ) → IsClusterBits header.v2.cluster_bits → AreOfClusters (l2_tables header l1)
are-of-clusters header l1 bits table old new same = table-same (geometry_of header) table old new bits.0 same

-- it fills the cluster
pub l2-outside : (header : HeaderRecord) (table : HostCluster) (old new : Image) → IsClusterBits header.v2.cluster_bits
    → SameOutside (offset_of (l2_layout (geometry_of header)) table) (l2_layout (geometry_of header)).byte_count old new
    → SameOutside (table.0 * 2 ^ header.v2.cluster_bits) (2 ^ header.v2.cluster_bits) old new
l2-outside header table old new bits outside = subst (λ size. SameOutside (table.0 * 2 ^ header.v2.cluster_bits) size old new) (full_cluster header.v2.cluster_bits bits.0) outside

-- without edits the numbers stay
pub no-edits : (header : HeaderRecord) (edits : List GuestEdit) (index : ℕ) (numbers : List ℕ) → edits_in header.v2.cluster_bits index edits ≡ []
    → IsEdited header edits index numbers numbers
no-edits header edits index numbers none = rw none refl

-- a failure of the storage is no table's
pub storage-fault : {T : Type 0} (state : StorageState) (Q : Fault → Image → Type 0) (answer : Result T Fault) → IfErr answer (λ fault. fault ≡ Storage)
    → IfErr answer (λ fault. IsRereadFault fault × OnImage state (λ bytes. (fault ≡ Storage) ⊎ Q fault bytes))
storage-fault state Q (Ok value) is = tt
storage-fault state Q (Err fault) is = (inr is, λ told. inl is)

-- a write of a table that is one of a cluster fails only where the storage does
pub write-fails : {T : Type 0} (header : HeaderRecord) (begin : HostCluster) (held : TableState) (answer : Result T Fault) (old new : StorageState)
    → IsHeldTable header begin held → (held.modified ≡ false → IsOk answer)
    → (held.modified ≡ true → Writes (layout_of_table l2_kind held) held.numbers held.cluster answer old new) → IfErr answer (λ fault. fault ≡ Storage)
write-fails header begin held answer old new of idle wrote = elim (cases_Bool held.modified) [
  | inl is ↦
      let left : IfErr answer (λ fault. (write_fault (layout_of_table l2_kind held) held.cluster ≡ Some fault) ⊎ (fault ≡ Storage)) = (wrote is).faults in
      let layout : layout_of_table l2_kind held ≡ l2_layout (geometry_of header) = rw (of.geometry, of.count) refl in
      let none : write_fault (layout_of_table l2_kind held) held.cluster ≡ None = subst (λ there. write_fault there held.cluster ≡ None) (sym layout)
      (subst (λ cluster. write_fault (l2_layout (geometry_of header)) cluster ≡ None) (sym of.cluster) of.placed) in
      grind (arith, left, none)
  | inr unmodified ↦ grind (arith, idle unmodified)
]

-- past the L1 table's end no table is named
pub named-below : (header : HeaderRecord) (l1 : List ℕ) (i : ℕ) (table : HostCluster) → (l2_tables header l1).place i ≡ Some table → i < length l1
named-below header l1 i table names = elim (cases_lt i (length l1)) [
  | inl below ↦ below
  | inr past ↦ absurd (let none = get_or_past l1 i 0 past in grind (arith, names, none))
]

-- a table that no step has come to can be loaded as before
fails-same : (header : HeaderRecord) (l1 : List ℕ) (edits : List GuestEdit) (i : ℕ) (fault : Fault) (a b : Image)
    → PassesBefore (l2_tables header l1) (IsEdited header edits) i a b → FailsAt header l1 edits i fault b → FailsAt header l1 edits i fault a
fails-same header l1 edits i fault a b before fails =
    let g = geometry_of header in
    let same : numbers_at (l2_layout g) fails.0 b ≡ numbers_at (l2_layout g) fails.0 a = before.after i fails.0 (omega arith) fails.1 in
    let loads : loaded_l2_table g fails.0 b ≡ loaded_l2_table g fails.0 a = rw same refl in
    (fails.0, fails.1, fails.2, rw loads at fails.3)

fails-later : (header : HeaderRecord) (l1 : List ℕ) (edits : List GuestEdit) (i : ℕ) (fault : Fault) (a b : Image)
    → PassesBefore (l2_tables header l1) (IsEdited header edits) i a b → FailsAt header l1 edits i fault a → FailsAt header l1 edits i fault b
fails-later header l1 edits i fault a b before fails =
    let g = geometry_of header in
    let same : numbers_at (l2_layout g) fails.0 a ≡ numbers_at (l2_layout g) fails.0 b = sym (before.after i fails.0 (omega arith) fails.1) in
    let loads : loaded_l2_table g fails.0 a ≡ loaded_l2_table g fails.0 b = rw same refl in
    (fails.0, fails.1, fails.2, rw loads at fails.3)

-- so the first that can't be loaded is the first before all steps
pub fails-first : (header : HeaderRecord) (l1 : List ℕ) (edits : List GuestEdit) (i : ℕ) (fault : Fault) (a b : Image)
    → PassesBefore (l2_tables header l1) (IsEdited header edits) i a b → NoneFailsBefore header l1 edits i a → FailsAt header l1 edits i fault b
    → FirstFails header l1 edits fault a
fails-first header l1 edits i fault a b before none fails = (i, fails-same header l1 edits i fault a b before fails, none)

pub none-fails-next : (header : HeaderRecord) (l1 : List ℕ) (edits : List GuestEdit) (i : ℕ) (a b : Image)
    → PassesBefore (l2_tables header l1) (IsEdited header edits) i a b → NoneFailsBefore header l1 edits i a
    → ((fault : Fault) → FailsAt header l1 edits i fault b → ⊥) → NoneFailsBefore header l1 edits (i + 1) a
none-fails-next header l1 edits i a b before none loads j fault below fails = elim (cases_eq j i) [
  | inl here ↦ loads fault (fails-later header l1 edits i fault a b before (subst (λ k. FailsAt header l1 edits k fault a) here fails))
  | inr differs ↦ none j fault (omega (arith, below, differs)) fails
]

-- how the edits of a table that is named ended says whether it could be loaded
pub loads-named : (header : HeaderRecord) (l1 : List ℕ) (edits : List GuestEdit) (index : ℕ) (cluster : HostCluster) (answer : Result (Unit {0}) Fault)
    (image : StorageState) → named_cluster header.v2.cluster_bits (slice_index l1 index) ≡ Some cluster → edits_in header.v2.cluster_bits index edits ≢ []
    → OnOk answer (OnImage image (λ bytes. loaded_l2_table (geometry_of header) cluster bytes ≡ Ok (numbers_at (l2_layout (geometry_of header)) cluster bytes)))
    → IfErr answer (λ fault. IsRereadFault fault × OnImage image (λ bytes. (fault ≡ Storage) ⊎ (loaded_l2_table (geometry_of header) cluster bytes ≡ Err fault)))
    → LoadsAt header l1 edits index answer image
loads-named header l1 edits index cluster (Ok done) image names some loads faults = record {
  loads = λ told fault (other, also, has, fails).
      let same : cluster ≡ other = grind (arith, names, also) in
      let refused = subst (λ place. loaded_l2_table (geometry_of header) place image.byte_at ≡ Err fault) (sym same) fails in
      absurd (let never = sym (loads told) ∙ refused in grind (arith, never));
  fault = tt;
}
loads-named header l1 edits index cluster (Err fault) image names some loads faults = record {
  loads = tt;
  fault = (
    faults.0,
    λ told. elim (faults.1 told) [
      | inl failed ↦ inl failed
      | inr fails ↦ inr (cluster, names, some, fails)
    ],
  );
}

-- and where none is named, or no edit is of it, there is none to be loaded
pub loads-none : (header : HeaderRecord) (l1 : List ℕ) (edits : List GuestEdit) (index : ℕ) (image : StorageState)
    → (named_cluster header.v2.cluster_bits (slice_index l1 index) ≡ None) ⊎ (edits_in header.v2.cluster_bits index edits ≡ [])
    → LoadsAt header l1 edits index (Ok tt) image
loads-none header l1 edits index image none = record {
  loads = λ told fault (other, names, has, fails). elim none [
    | inl missing ↦ absurd (let never = sym missing ∙ names in grind (arith, never))
    | inr idle ↦ has idle
  ];
  fault = tt;
}
