use Rattle.std.proofs.Common.{◌≡◌, ℕ, suc, Bool, true, false, not, ◌&&◌, ◌*◌, ◌/◌, ◌%◌, ◌^◌, ◌<◌, ◌≤◌, if◌then◌else◌, List, [], ◌∷◌, ◌++◌, length, slice_index, Option, Some, None, Result, Ok, Err, All, inl, inr, refl, ap, sym, ◌∙◌, arith}
use Rattle.std.proofs.lemmas.Bool.{cases_Bool, cases_lt}
use Rattle.std.proofs.lemmas.Bool.Decides.{nat_tests}
use Rattle.std.proofs.lemmas.Nat.{div-add-mod', mul-le}
use Rattle.std.specs.List.{list_any}
use Rattle.std.specs.Option.{option_or}
use Rattle.qcow2_base.specs.Storage.{Image}
use Rattle.qcow2_base.specs.Types.{IsClusterBits}
use Rattle.qcow2_base.specs.declared.fault.Fault.{Fault}
use Rattle.qcow2_base.specs.declared.fault.Fault.TheVariants.{NotPlaced}
use Rattle.qcow2_base.specs.declared.types.HostCluster.{HostCluster}
use Rattle.qcow2_metadata.proofs.TableLemmas.{length-table_numbers}
use Rattle.qcow2_metadata.specs.Entries.L2Entry.{l2_fault}
use Rattle.qcow2_metadata.specs.Entries.L2Mapping.{Mapping, backing, mapping}
use Rattle.qcow2_metadata.specs.Header.{HeaderRecord, IsValidHeader, geometry_of}
use Rattle.qcow2_metadata.specs.Placed.{numbers_at, place_fault}
use Rattle.qcow2_metadata.specs.Results.{result_map, unless_refused}
use Rattle.qcow2_metadata.specs.Table.{first_fault, l2_entries, l2_layout}
use Rattle.qcow2_check.specs.NamedTables.{named_cluster}
use Rattle.qcow2_check.specs.Uses.{ImageTables}
use Rattle.qcow2_image.specs.Lookups.{guest_mapping, mapping_by}
use Rattle.qcow2_apply.proofs.ApplyLemmas.{can-be-made, never-refused, table-left}
use Rattle.qcow2_apply.proofs.GuestEditsLemmas.{no-edits-in}
use Rattle.qcow2_apply.proofs.PlannedTablesLemmas.{none-refused-at}
use Rattle.qcow2_apply.proofs.TablesLemmas.{edits-made, named-below}
use Rattle.qcow2_apply.specs.Apply.{AreAllApart, FollowsPlan, plan_tables}
use Rattle.qcow2_apply.specs.GuestEdits.{cluster_end, edits_in, ends_after, guest_edit_fits, has_clusters_in, is_discard}
use Rattle.qcow2_apply.specs.Plan.{IsPlanFor, IsPlanOf}
use Rattle.qcow2_apply.specs.PlannedTables.{table_refusal, tables_refusal}
use Rattle.qcow2_apply.specs.NeededTables.{is_table_needed}
use Rattle.qcow2_apply.specs.Tables.{AllFit, IsEdited, run_in}
use Rattle.qcow2_apply.specs.declared.guest_edits.GuestEdit.{GuestEdit}
use Rattle.qcow2_apply.specs.declared.guest_edits.GuestEdit.TheVariants.{Discard, Map, Zero}
use Rattle.qcow2_apply.specs.declared.plan.Plan.{Plan}
use Rattle.qcow2_session.proofs.EditedDiskLemmas.{entry-reads, fit-first, in-edit}
use Rattle.qcow2_session.proofs.EditedTableLemmas.{run-lawful}
use Rattle.qcow2_session.specs.EditedDisk.{covers, mapping_after, mapping_left}

-- what is read of a table's numbers follows them, where the table can be loaded afterwards if it could before
reads-follow : (place : Option Fault) (fault : List ℕ → Option Fault) (before after : List ℕ) (read : List ℕ → Mapping) (change : Mapping → Mapping)
    → (fault before ≡ None → fault after ≡ None) → ((some : Fault) → fault before ≡ Some some → fault after ≡ Some some) → read after ≡ change (read before)
    → result_map read (unless_refused place (unless_refused (fault after) (Ok after)))
    ≡ result_map change (result_map read (unless_refused place (unless_refused (fault before) (Ok before))))
reads-follow (Some some) fault before after read change lawful bad same = refl
reads-follow None fault before after read change lawful bad same = by_fault (fault before) refl
  where
    by_fault : (found : Option Fault) → fault before ≡ found → result_map read (unless_refused (fault after) (Ok after))
        ≡ result_map change (result_map read (unless_refused (fault before) (Ok before)))
    by_fault None is = rw (lawful is, is) (ap Ok same)
    by_fault (Some some) is = rw (bad some is, is) refl

-- what never fails isn't refused
never-fails : (place fault : Option Fault) (numbers : List ℕ) → ((some : Fault) → unless_refused place (unless_refused fault (Ok numbers)) ≡ Err some → ⊥)
    → (place ≡ None) × (fault ≡ None)
never-fails None None numbers never = (refl, refl)
never-fails (Some some) fault numbers never = absurd (never some refl)
never-fails None (Some some) numbers never = absurd (never some refl)

-- a table that edits which aren't refused have clusters of can be loaded
loads-if-edited : (tables : ImageTables) (edits : List GuestEdit) (image : Image) (i : ℕ) (table : HostCluster) → tables_refusal tables edits image ≡ None
    → named_cluster tables.header.v2.cluster_bits (slice_index tables.l1 i) ≡ Some table
    → list_any (has_clusters_in tables.header.v2.cluster_bits i) edits ≡ true
    → (place_fault (l2_layout (geometry_of tables.header)) table ≡ None)
    × (first_fault (l2_fault tables.header.v2.cluster_bits) (numbers_at (l2_layout (geometry_of tables.header)) table image) ≡ None)
loads-if-edited tables edits image i table none names has =
    let refusal = none-refused-at (table_refusal tables edits image) (length tables.l1) i _ none (named-below tables.header tables.l1 i table names) in
    never-fails _ _ (numbers_at (l2_layout (geometry_of tables.header)) table image)
    (λ fault fails. never-refused tables edits image i table fault has names fails refusal)

-- edits leave what is read by a table
by-table : (tables : ImageTables) (edits : List GuestEdit) (old new : Image) (o : ℕ) (table : HostCluster) → IsClusterBits tables.header.v2.cluster_bits
    → AllFit tables.header edits → tables_refusal tables edits old ≡ None → let cb = tables.header.v2.cluster_bits in let g = geometry_of tables.header in
    let at = o / 2 ^ cb in let i = at / l2_entries cb in
    named_cluster cb (slice_index tables.l1 i) ≡ Some table
    → IsEdited tables.header edits i (numbers_at (l2_layout g) table old) (numbers_at (l2_layout g) table new)
    → mapping_by g (Some table) at new ≡ result_map (mapping_left cb o edits) (mapping_by g (Some table) at old)
by-table tables edits old new o table bits fit none names edited =
    let cb = tables.header.v2.cluster_bits in
    let g = geometry_of tables.header in
    let at = o / 2 ^ cb in
    let i = at / l2_entries cb in
    let read : List ℕ → Mapping = λ numbers. mapping g at (slice_index numbers (at % l2_entries cb)) in
    let place = place_fault (l2_layout g) table in
    let fault = first_fault (l2_fault cb) in
    let before = numbers_at (l2_layout g) table old in
    let list = edits_in cb i edits in
    let full : length before ≡ l2_entries cb = length-table_numbers old _ (l2_entries cb) in
    ap (λ numbers. result_map read (unless_refused place (unless_refused (fault numbers) (Ok numbers)))) edited
    ∙ reads-follow place fault before (run_in tables.header list before).numbers read (mapping_left cb o edits)
    (run-lawful tables.header list before bits (edits-made tables.header i edits fit) full)
    (λ some is. elim (cases_Bool (list_any (has_clusters_in cb i) edits)) [
      | inl has ↦ absurd (grind (arith, is, (loads-if-edited tables edits old i table none names has).1))
      | inr has ↦ ap (λ edits. fault (run_in tables.header edits before).numbers) (no-edits-in cb i edits has) ∙ is
    ])
    (entry-reads tables.header edits o before bits fit full)

-- a guest cluster without a table reads as the backing file after edits that need none
stays-backing : (header : HeaderRecord) (edits : List GuestEdit) (o : ℕ) (test : GuestEdit → Bool) → AllFit header edits
    → ((edit : GuestEdit) → guest_edit_fits header edit ≡ true → covers header.v2.cluster_bits o edit ≡ true → test edit ≡ true)
    → list_any (λ edit. test edit && not (is_discard edit)) edits ≡ false
    → mapping_left header.v2.cluster_bits o edits (backing (o / 2 ^ header.v2.cluster_bits * 2 ^ header.v2.cluster_bits))
    ≡ backing (o / 2 ^ header.v2.cluster_bits * 2 ^ header.v2.cluster_bits)
stays-backing header [] o test fit tested none = refl
stays-backing header (edit ∷ edits) o test fit tested none =
    let cb = header.v2.cluster_bits in
    let each = fit-first header edit edits fit in
    let first : (test edit && not (is_discard edit)) ≡ false = grind (arith, none) in
    let others : list_any (λ edit. test edit && not (is_discard edit)) edits ≡ false = grind (arith, none) in
    ap (mapping_left cb o edits) (one edit (covers cb o edit) first (λ is. tested edit each.0 is))
    ∙ stays-backing header edits o test each.1 tested others
  where
    one : (edit : GuestEdit) (is : Bool) → (test edit && not (is_discard edit)) ≡ false → (is ≡ true → test edit ≡ true)
        → (if is then mapping_after header.v2.cluster_bits (o / 2 ^ header.v2.cluster_bits) edit (backing (o / 2 ^ header.v2.cluster_bits * 2 ^ header.v2.cluster_bits))
        else backing (o / 2 ^ header.v2.cluster_bits * 2 ^ header.v2.cluster_bits)) ≡ backing (o / 2 ^ header.v2.cluster_bits * 2 ^ header.v2.cluster_bits)
    one edit false first tested = refl
    one (Discard offset size) true first tested = refl
    one (Map offset host_cluster) true first tested = absurd (grind (arith, first, tested refl))
    one (Zero offset size keep_allocation) true first tested = absurd (grind (arith, first, tested refl))

-- an edit that covers a guest offset has clusters in its table, and some after those of each table before
has-clusters : (header : HeaderRecord) (edit : GuestEdit) (o : ℕ) → guest_edit_fits header edit ≡ true → covers header.v2.cluster_bits o edit ≡ true
    → has_clusters_in header.v2.cluster_bits (o / 2 ^ header.v2.cluster_bits / l2_entries header.v2.cluster_bits) edit ≡ true
has-clusters header edit o fits is = let within = in-edit header edit o fits is in grind (arith, nat_tests, within)

-- so edits of which one covers it have some in its table
pub some-have : (header : HeaderRecord) (edits : List GuestEdit) (o : ℕ) → AllFit header edits → list_any (covers header.v2.cluster_bits o) edits ≡ true
    → list_any (has_clusters_in header.v2.cluster_bits (o / 2 ^ header.v2.cluster_bits / l2_entries header.v2.cluster_bits)) edits ≡ true
some-have header [] o fit some = absurd (grind (arith, some))
some-have header (edit ∷ edits) o fit some =
    let each = fit-first header edit edits fit in
    elim (cases_Bool (covers header.v2.cluster_bits o edit)) [
      | inl is ↦ rw (has-clusters header edit o each.0 is) refl
      | inr off ↦ grind (arith, some-have header edits o each.1 (grind (arith, some, off)))
    ]

-- where edits that aren't refused have clusters of a table that isn't there, they only discard
no-table-needed : (tables : ImageTables) (edits : List GuestEdit) (image : Image) (i : ℕ) → tables_refusal tables edits image ≡ None → i < length tables.l1
    → named_cluster tables.header.v2.cluster_bits (slice_index tables.l1 i) ≡ None
    → list_any (has_clusters_in tables.header.v2.cluster_bits i) edits ≡ true → is_table_needed tables.header.v2.cluster_bits edits i ≡ false
no-table-needed tables edits image i none within missing has =
    let refusal : table_refusal tables edits image i ≡ None = none-refused-at (table_refusal tables edits image) (length tables.l1) i _ none within in
    let at = rw (has, missing) at refusal in
    elim (cases_Bool (is_table_needed tables.header.v2.cluster_bits edits i)) [
      | inl needed ↦ absurd (let never = rw needed at at in grind (arith, never))
      | inr not_needed ↦ not_needed
    ]

-- and of tables past the L1 table's end
no-more-needed : (needed : Bool) (first : Option Fault) → option_or first (if needed then Some NotPlaced else None) ≡ None → needed ≡ false
no-more-needed true None none = absurd (grind (arith, none))
no-more-needed true (Some fault) none = absurd (grind (arith, none))
no-more-needed false first none = refl

ends-past : (header : HeaderRecord) (count : ℕ) (edit : GuestEdit) (o : ℕ) → count ≤ o / 2 ^ header.v2.cluster_bits / l2_entries header.v2.cluster_bits
    → guest_edit_fits header edit ≡ true → covers header.v2.cluster_bits o edit ≡ true → ends_after header.v2.cluster_bits count edit ≡ true
ends-past header count edit o past fits is =
    let cb = header.v2.cluster_bits in
    let n = l2_entries cb in
    let at = o / 2 ^ cb in
    let within = in-edit header edit o fits is in
    let before : at < cluster_end cb edit = grind (arith, nat_tests, within.1) in
    let least : count * n ≤ at / n * n = mul-le count n (at / n) n past (omega arith) in
    let whole = div-add-mod' at n in
    grind (arith, nat_tests, before, least, whole)

-- edits leave what is read without a table
by-no-table : (tables : ImageTables) (edits : List GuestEdit) (old new : Image) (o : ℕ) → AllFit tables.header edits → tables_refusal tables edits old ≡ None
    → let cb = tables.header.v2.cluster_bits in let g = geometry_of tables.header in let at = o / 2 ^ cb in
    named_cluster cb (slice_index tables.l1 (at / l2_entries cb)) ≡ None
    → mapping_by g None at new ≡ result_map (mapping_left cb o edits) (mapping_by g None at old)
by-no-table tables edits old new o fit none missing =
    let header = tables.header in
    let cb = header.v2.cluster_bits in
    let i = o / 2 ^ cb / l2_entries cb in
    ap Ok (sym (elim (cases_lt i (length tables.l1)) [
      | inl within ↦ elim (cases_Bool (list_any (has_clusters_in cb i) edits)) [
        | inl has ↦ stays-backing header edits o (has_clusters_in cb i) fit (λ edit fits is. has-clusters header edit o fits is)
            (no-table-needed tables edits old i none within missing has)
        | inr off ↦ stays-backing header edits o (has_clusters_in cb i) fit (λ edit fits is. has-clusters header edit o fits is)
            (none-of-both (has_clusters_in cb i) edits off)
      ]
      | inr past ↦ stays-backing header edits o (ends_after cb (length tables.l1)) fit (λ edit fits is. ends-past header (length tables.l1) edit o past fits is)
          (no-more-needed _ _ none)
    ]))
  where
    none-of-both : (test : GuestEdit → Bool) (edits : List GuestEdit) → list_any test edits ≡ false → list_any (λ edit. test edit && not (is_discard edit)) edits ≡ false
    none-of-both test [] off = refl
    none-of-both test (edit ∷ edits) off = grind (arith, off, none-of-both test edits (grind (arith, off)))

-- what is read of an image by an L1 table, by the table that the L1 entry names
by-named : (header : HeaderRecord) (l1 : List ℕ) (o : ℕ) (image : Image) (found : Option HostCluster)
    → named_cluster header.v2.cluster_bits (slice_index l1 (o / 2 ^ header.v2.cluster_bits / l2_entries header.v2.cluster_bits)) ≡ found
    → guest_mapping (geometry_of header) l1 o image ≡ mapping_by (geometry_of header) found (o / 2 ^ header.v2.cluster_bits) image
by-named header l1 o image found is = ap (λ table. mapping_by (geometry_of header) table (o / 2 ^ header.v2.cluster_bits) image) is

-- so each guest offset reads as edits leave it
pub reads-as-left : (header : HeaderRecord) (edits : List GuestEdit) (plan : Plan) (old new : Image) → IsValidHeader header → IsPlanFor header edits plan
    → IsPlanOf header edits old plan → FollowsPlan header edits plan (Ok tt) old new → AreAllApart (plan_tables header plan) → (o : ℕ)
    → guest_mapping (geometry_of header) plan.l1_table.numbers o new
    ≡ result_map (mapping_left header.v2.cluster_bits o edits) (guest_mapping (geometry_of header) plan.l1_table.numbers o old)
reads-as-left header edits plan old new valid for of follows apart o =
    by_found (named_cluster cb (slice_index l1 (o / 2 ^ cb / l2_entries cb))) refl
  where
    cb : ℕ
    cb = header.v2.cluster_bits

    l1 : List ℕ
    l1 = plan.l1_table.numbers

    none : tables_refusal (plan_tables header plan) edits old ≡ None
    none = (can-be-made header edits plan old of).tables_allow

    by_found : (found : Option HostCluster) → named_cluster cb (slice_index l1 (o / 2 ^ cb / l2_entries cb)) ≡ found
        → guest_mapping (geometry_of header) l1 o new ≡ result_map (mapping_left cb o edits) (guest_mapping (geometry_of header) l1 o old)
    by_found None is = by-named header l1 o new None is
        ∙ by-no-table (plan_tables header plan) edits old new o for.fit none is
        ∙ ap (result_map (mapping_left cb o edits)) (sym (by-named header l1 o old None is))
    by_found (Some table) is = by-named header l1 o new (Some table) is
        ∙ by-table (plan_tables header plan) edits old new o table valid.cluster_bits for.fit none is
        (table-left (plan_tables header plan) edits plan.gains plan.losses old follows.cleared new (o / 2 ^ cb / l2_entries cb) table
        valid.cluster_bits apart follows.clears (follows.ends apart) is)
        ∙ ap (result_map (mapping_left cb o edits)) (sym (by-named header l1 o old (Some table) is))

-- an offset that no edit covers reads as before
uncovered : (cb o : ℕ) (edits : List GuestEdit) (before : Mapping) → All (λ edit. covers cb o edit ≡ false) edits → mapping_left cb o edits before ≡ before
uncovered cb o [] before none = refl
uncovered cb o (edit ∷ edits) before none =
    let first : covers cb o edit ≡ false = none 0 edit (omega arith) in
    rw first (uncovered cb o edits before (λ k d below. none (suc k) d (omega (arith, below))))

pub reads-as-before : (header : HeaderRecord) (edits : List GuestEdit) (plan : Plan) (old new : Image) → IsValidHeader header → IsPlanFor header edits plan
    → IsPlanOf header edits old plan → FollowsPlan header edits plan (Ok tt) old new → AreAllApart (plan_tables header plan) → (o : ℕ)
    → All (λ edit. covers header.v2.cluster_bits o edit ≡ false) edits
    → guest_mapping (geometry_of header) plan.l1_table.numbers o new ≡ guest_mapping (geometry_of header) plan.l1_table.numbers o old
reads-as-before header edits plan old new valid for of follows apart o none =
    reads-as-left header edits plan old new valid for of follows apart o ∙ by_answer (guest_mapping (geometry_of header) plan.l1_table.numbers o old)
  where
    by_answer : (answer : Result Mapping Fault) → result_map (mapping_left header.v2.cluster_bits o edits) answer ≡ answer
    by_answer (Ok before) = ap Ok (uncovered header.v2.cluster_bits o edits before none)
    by_answer (Err fault) = refl

-- what an edit covers is known
known-if-covered : (tables : ImageTables) (edits : List GuestEdit) (image : Image) (o : ℕ) → AllFit tables.header edits → tables_refusal tables edits image ≡ None
    → list_any (covers tables.header.v2.cluster_bits o) edits ≡ true
    → (before : Mapping) × (guest_mapping (geometry_of tables.header) tables.l1 o image ≡ Ok before)
known-if-covered tables edits image o fit none some = by_found (named_cluster cb (slice_index tables.l1 i)) refl
  where
    cb : ℕ
    cb = tables.header.v2.cluster_bits

    i : ℕ
    i = o / 2 ^ cb / l2_entries cb

    by_found : (found : Option HostCluster) → named_cluster cb (slice_index tables.l1 i) ≡ found
        → (before : Mapping) × (guest_mapping (geometry_of tables.header) tables.l1 o image ≡ Ok before)
    by_found None is = (backing (o / 2 ^ cb * 2 ^ cb), by-named tables.header tables.l1 o image None is)
    by_found (Some table) is =
        let loads = loads-if-edited tables edits image i table none is (some-have tables.header edits o fit some) in
        let numbers = numbers_at (l2_layout (geometry_of tables.header)) table image in (
          mapping (geometry_of tables.header) (o / 2 ^ cb) (slice_index numbers (o / 2 ^ cb % l2_entries cb)),
          by-named tables.header tables.l1 o image (Some table) is ∙ rw (loads.0, loads.1) refl,
        )

-- so what edits cover reads as they leave it
pub covered-reads : (header : HeaderRecord) (edits : List GuestEdit) (plan : Plan) (old new : Image) → IsValidHeader header → IsPlanFor header edits plan
    → IsPlanOf header edits old plan → FollowsPlan header edits plan (Ok tt) old new → AreAllApart (plan_tables header plan) → (o : ℕ)
    → list_any (covers header.v2.cluster_bits o) edits ≡ true
    → (before : Mapping) × (guest_mapping (geometry_of header) plan.l1_table.numbers o old ≡ Ok before)
    × (guest_mapping (geometry_of header) plan.l1_table.numbers o new ≡ Ok (mapping_left header.v2.cluster_bits o edits before))
covered-reads header edits plan old new valid for of follows apart o some =
    let known = known-if-covered (plan_tables header plan) edits old o for.fit (can-be-made header edits plan old of).tables_allow some in (
      known.0,
      known.1,
      reads-as-left header edits plan old new valid for of follows apart o ∙ ap (result_map (mapping_left header.v2.cluster_bits o edits)) known.1,
    )

-- the last edit that covers an offset decides
pub last-decides : (cb o : ℕ) (before later : List GuestEdit) (edit : GuestEdit) (first : Mapping) → covers cb o edit ≡ true
    → All (λ other. covers cb o other ≡ false) later
    → mapping_left cb o (before ++ edit ∷ later) first ≡ mapping_after cb (o / 2 ^ cb) edit (mapping_left cb o before first)
last-decides cb o [] later edit first is none =
    ap (λ (test : Bool). mapping_left cb o later (if test then mapping_after cb (o / 2 ^ cb) edit first else first)) is
    ∙ uncovered cb o later (mapping_after cb (o / 2 ^ cb) edit first) none
last-decides cb o (other ∷ before) later edit first is none = last-decides cb o before later edit _ is none
