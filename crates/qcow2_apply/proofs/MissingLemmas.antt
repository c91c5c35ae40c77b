use Rattle.std.proofs.Common.{◌≡◌, ◌⊎◌, ℕ, zero, suc, true, false, ◌+◌, ◌<◌, List, [], ◌∷◌, length, get_or, take, slice_get, slice_index, if◌then◌else◌, Option, None, Some, Ok, Err, ap, refl, sym, ◌∙◌, inl, inr, arith}
use Rattle.std.proofs.lemmas.Bool.{cases_Bool}
use Rattle.std.proofs.lemmas.List.{take_more}
use Rattle.std.specs.List.{list_any, range_with_len}
use Rattle.std.specs.Option.{option_or}
use Rattle.qcow2_base.specs.Storage.{Image}
use Rattle.qcow2_base.specs.declared.fault.Fault.{Fault}
use Rattle.qcow2_base.specs.declared.fault.Fault.TheVariants.{NoMemory, NotPlaced, Storage}
use Rattle.qcow2_base.specs.declared.types.HostCluster.{HostCluster}
use Rattle.qcow2_check.specs.NamedTables.{named_cluster}
use Rattle.qcow2_check.specs.Uses.{ImageTables}
use Rattle.qcow2_metadata.proofs.TableLemmas.{first_fault-append, first_fault_more}
use Rattle.qcow2_metadata.specs.Results.{unless_refused}
use Rattle.qcow2_metadata.specs.Table.{first_fault}
use Rattle.qcow2_apply.proofs.EditsByTableLemmas.{first-kept}
use Rattle.qcow2_apply.proofs.NeededTablesLemmas.{needed-any}
use Rattle.qcow2_apply.proofs.PlannedTablesLemmas.{first-refused, more-refused, unless-none, unless-some}
use Rattle.qcow2_apply.specs.EditsByTable.{is_of_table, is_one_in, positions_in}
use Rattle.qcow2_apply.specs.GuestEdits.{has_clusters_in}
use Rattle.qcow2_apply.specs.PlannedTables.{mapping_fault, mapping_fault_in, mappings_fault, named_table_refusal, table_refusal}
use Rattle.qcow2_apply.specs.NeededTables.{IsFirstMissing, is_table_needed}
use Rattle.qcow2_apply.specs.declared.guest_edits.GuestEdit.{GuestEdit}

-- where nothing is refused at the numbers of a list before one, and it isn't, nothing is before the next
pub taken-none-next : (refusal : ℕ → Option Fault) (ns : List ℕ) (k d : ℕ) (found : Option Fault) → k < length ns → first_fault refusal (take k ns) ≡ None
    → found ≡ refusal (get_or ns k d) → unless_refused found (Ok (tt {0})) ≡ Ok tt → first_fault refusal (take (k + 1) ns) ≡ None
taken-none-next refusal ns k d found below none is passes = ap (first_fault refusal) (take_more ns k d below)
    ∙ first_fault_more refusal (take k ns) (get_or ns k d) none (sym is ∙ unless-none found passes)

-- the first of some of them is that of all
first-of-taken : (refusal : ℕ → Option Fault) (ns : List ℕ) (k : ℕ) (fault : Fault) → first_fault refusal (take k ns) ≡ Some fault → first_fault refusal ns ≡ Some fault
first-of-taken refusal [] zero fault is = is
first-of-taken refusal [] (suc k) fault is = is
first-of-taken refusal (n ∷ ns) zero fault is = absurd (grind (arith, is))
first-of-taken refusal (n ∷ ns) (suc k) fault is = by_first (refusal n) (first-of-taken refusal ns k fault) is
  where
    by_first : (first : Option Fault) → (first_fault refusal (take k ns) ≡ Some fault → first_fault refusal ns ≡ Some fault)
        → option_or first (first_fault refusal (take k ns)) ≡ Some fault → option_or first (first_fault refusal ns) ≡ Some fault
    by_first None more rest = more rest
    by_first (Some found) more rest = rest

pub taken-refused : (refusal : ℕ → Option Fault) (ns : List ℕ) (k d : ℕ) (found : Option Fault) (fault : Fault) → k < length ns
    → first_fault refusal (take k ns) ≡ None → found ≡ refusal (get_or ns k d)
    → (fault ≡ Storage) ⊎ (fault ≡ NoMemory) ⊎ (unless_refused found (Ok (tt {0})) ≡ Err fault)
    → (fault ≡ Storage) ⊎ (fault ≡ NoMemory) ⊎ (unless_refused (first_fault refusal ns) (Ok (tt {0})) ≡ Err fault)
taken-refused refusal ns k d found fault below none is (inl failed) = inl failed
taken-refused refusal ns k d found fault below none is (inr (inl memory)) = inr (inl memory)
taken-refused refusal ns k d found fault below none is (inr (inr refused)) =
    let here : refusal (get_or ns k d) ≡ Some fault = sym is ∙ unless-some found fault refused in
    let one : option_or (refusal (get_or ns k d)) None ≡ Some fault = ap (λ first. option_or first None) here in
    let taken : first_fault refusal (take (k + 1) ns) ≡ Some fault = ap (first_fault refusal) (take_more ns k d below)
    ∙ first_fault-append refusal (take k ns) (get_or ns k d ∷ []) none ∙ one in
    let all = first-of-taken refusal ns (k + 1) fault taken in
    inr (inr (ap (λ first. unless_refused first (Ok (tt {0}))) all))

-- edits that aren't of a table map nothing in it
pub mappings-kept : (tables : ImageTables) (edits : List GuestEdit) (image : Image) (i : ℕ) (ps : List ℕ) → ps ≡ positions_in tables.header.v2.cluster_bits i edits
    → first_fault (mapping_fault_in tables edits image i) ps ≡ mappings_fault tables edits image i
mappings-kept tables edits image i ps is = let cb = tables.header.v2.cluster_bits in
    ap (first_fault (mapping_fault_in tables edits image i)) is
    ∙ first-kept (is_of_table cb i edits) (mapping_fault_in tables edits image i) (λ at none. idle at (slice_get edits at) none) (range_with_len 0 (length edits))
  where
    idle : (at : ℕ) (found : Option GuestEdit) → is_one_in tables.header.v2.cluster_bits i found ≡ false → ◌≡◌ {A = Option Fault} (elim found [
      | None ↦ None
      | Some edit ↦ if has_clusters_in tables.header.v2.cluster_bits i edit then mapping_fault tables edits image at edit else None
    ]) None
    idle at None none = refl
    idle at (Some edit) none = ap (λ t. if t then mapping_fault tables edits image at edit else None) none

-- what is refused where there is no table, and where there is one
pub refused-missing : (tables : ImageTables) (edits : List GuestEdit) (image : Image) (i : ℕ) → named_cluster tables.header.v2.cluster_bits (slice_index tables.l1 i) ≡ None
    → is_table_needed tables.header.v2.cluster_bits edits i ≡ true → table_refusal tables edits image i ≡ Some NotPlaced
refused-missing tables edits image i missing needed = rw (needed-any tables.header.v2.cluster_bits i edits needed, missing, needed) refl

pub refused-unneeded : (tables : ImageTables) (edits : List GuestEdit) (image : Image) (i : ℕ) → named_cluster tables.header.v2.cluster_bits (slice_index tables.l1 i) ≡ None
    → is_table_needed tables.header.v2.cluster_bits edits i ≡ false → table_refusal tables edits image i ≡ None
refused-unneeded tables edits image i missing unneeded = elim (cases_Bool (list_any (has_clusters_in tables.header.v2.cluster_bits i) edits)) [
  | inl is ↦ rw (is, missing, unneeded) refl
  | inr none ↦ rw none refl
]

pub refused-untouched : (tables : ImageTables) (edits : List GuestEdit) (image : Image) (i : ℕ)
    → list_any (has_clusters_in tables.header.v2.cluster_bits i) edits ≡ false → table_refusal tables edits image i ≡ None
refused-untouched tables edits image i none = rw none refl

pub refused-named : (tables : ImageTables) (edits : List GuestEdit) (image : Image) (i : ℕ) (table : HostCluster)
    → list_any (has_clusters_in tables.header.v2.cluster_bits i) edits ≡ true → named_cluster tables.header.v2.cluster_bits (slice_index tables.l1 i) ≡ Some table
    → table_refusal tables edits image i ≡ named_table_refusal tables edits image i table
refused-named tables edits image i table some names = rw (some, names) refl

-- tables are refused where one is missing
pub missing-refused : (tables : ImageTables) (edits : List GuestEdit) (image : Image) (first : ℕ) (after : Option Fault)
    → IsFirstMissing tables.header tables.l1 (is_table_needed tables.header.v2.cluster_bits edits) (length tables.l1) first → first < length tables.l1
    → first_fault (table_refusal tables edits image) (range_with_len 0 first) ≡ None
    → (NotPlaced ≡ Storage) ⊎ (NotPlaced ≡ NoMemory) ⊎ (unless_refused (option_or (first_fault (table_refusal tables edits image) (range_with_len 0 (length tables.l1))) after)
    (Ok (tt {0})) ≡ Err NotPlaced)
missing-refused tables edits image first after missing below none =
    let found = missing.here below in
    more-refused (first_fault (table_refusal tables edits image) (range_with_len 0 (length tables.l1))) after NotPlaced
    (first-refused (table_refusal tables edits image) first (length tables.l1) (Some NotPlaced) NotPlaced below none
    (sym (refused-missing tables edits image first found.0 found.1)) (inr (inr refl)))
