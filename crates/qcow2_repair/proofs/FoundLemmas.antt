use Rattle.std.proofs.Common.{◌≡◌, ℕ, ◌≤◌, List, Option, Some, None, option_map, Result, Ok, Err, refl, sym, subst, ◌∙◌, arith}
use Rattle.qcow2_base.specs.Storage.{Image, IsBytes}
use Rattle.qcow2_base.specs.Types.{IsClusterBits}
use Rattle.qcow2_base.specs.declared.fault.Fault.{Fault}
use Rattle.qcow2_base.specs.declared.fault.Fault.TheVariants.{Uncounted}
use Rattle.qcow2_metadata.proofs.WritableLemmas.{writable-same}
use Rattle.qcow2_metadata.specs.Header.{HeaderRecord, IsValidHeader, geometry_of, uncounted_part}
use Rattle.qcow2_metadata.specs.Results.{and_then, result_map, unless_refused}
use Rattle.qcow2_check.specs.Counters.{blocks_fault, counter_of, placed_reftable}
use Rattle.qcow2_check.specs.Findings.{checked_tables, image_findings}
use Rattle.qcow2_check.specs.NamedTables.{loaded_l1_table, loaded_reftable}
use Rattle.qcow2_check.specs.Uses.{ImageTables, all_load, image_tables, image_uses}
use Rattle.qcow2_repair.proofs.HeaderLemmas.{kept-written, repairable-l1, repairable-written, text-fits}
use Rattle.qcow2_repair.proofs.RefusalsLemmas.{repairable-unless_refused}
use Rattle.qcow2_repair.specs.Repair.{IsRepairable, MakesWritable, tables_in}
use Rattle.qcow2_repair.specs.Refusals.{findings_refusal, header_refusal, repairable_tables, unrefused_tables}

-- where a chain of steps isn't refused, none of them is
then-parts : {A B : Type 0} (answer : Result A Fault) (next : A → Result B Fault) (value : B) → and_then answer next ≡ Ok value
    → (a : A) × (answer ≡ Ok a) × (next a ≡ Ok value)
then-parts (Ok a) next value is = (a, refl, is)
then-parts (Err fault) next value is = absurd (grind (arith, is))

pub fine-parts : {T : Type 0} (refusal : Option Fault) (answer : Result T Fault) (value : T) → unless_refused refusal answer ≡ Ok value
    → (refusal ≡ None) × (answer ≡ Ok value)
fine-parts None answer value is = (refl, is)
fine-parts (Some fault) answer value is = absurd (grind (arith, is))

pub ok-same : {T : Type 0} (x y : T) → (let one : Result T Fault = Ok x in one ≡ Ok y) → x ≡ y
ok-same x y same = grind (arith, same)

map-parts : {A B : Type 0} (f : A → B) (answer : Result A Fault) (value : B) → result_map f answer ≡ Ok value
    → (a : A) × (answer ≡ Ok a) × (f a ≡ value)
map-parts f (Ok a) value is = (a, refl, ok-same (f a) value is)
map-parts f (Err fault) value is = absurd (grind (arith, is))

-- the refcount table of an image whose blocks can lie where it says
placed-parts : (header : HeaderRecord) (image : Image) (reftable : List ℕ) → placed_reftable header image ≡ Ok reftable
    → (loaded_reftable header image ≡ Ok reftable) × (blocks_fault header reftable ≡ None)
placed-parts header image reftable is =
    let loaded = then-parts (loaded_reftable header image) (λ numbers. unless_refused (blocks_fault header numbers) (Ok numbers)) reftable is in
    let fine = fine-parts (blocks_fault header loaded.0) (Ok loaded.0) reftable loaded.2 in
    subst (λ numbers. (loaded_reftable header image ≡ Ok numbers) × (blocks_fault header numbers ≡ None)) (ok-same loaded.0 reftable fine.1) (loaded.1, fine.0)

-- the tables of an image that can be checked: they load, their blocks can lie where they say, and all L2 tables load
pub record AreChecked (header : HeaderRecord) (image : Image) (tables : ImageTables) : Type 0 where
  pub same : tables.header ≡ header
  pub counted : option_map Uncounted (uncounted_part header) ≡ None
  pub l1 : loaded_l1_table header image ≡ Ok tables.l1
  pub reftable : loaded_reftable header image ≡ Ok tables.reftable
  pub placed : blocks_fault tables.header tables.reftable ≡ None
  pub loads : all_load (geometry_of tables.header) tables.l1 image ≡ Ok (tt {0})

pub checked-parts : (header : HeaderRecord) (image : Image) (tables : ImageTables) → checked_tables header image ≡ Ok tables → AreChecked header image tables
checked-parts header image tables is =
    let rest : List ℕ → Result ImageTables Fault = λ l1. and_then (placed_reftable header image) (λ reftable.
    result_map (λ _. image_tables header l1 reftable) (all_load (geometry_of header) l1 image)) in
    let counted = fine-parts (option_map Uncounted (uncounted_part header)) (and_then (loaded_l1_table header image) rest) tables is in
    let l1 = then-parts (loaded_l1_table header image) rest tables counted.1 in
    let reftable = then-parts (placed_reftable header image) (λ reftable. result_map (λ _. image_tables header l1.0 reftable) (all_load (geometry_of header) l1.0 image)) tables l1.2 in
    let loads = map-parts (λ _. image_tables header l1.0 reftable.0) (all_load (geometry_of header) l1.0 image) tables reftable.2 in
    let placed = placed-parts header image reftable.0 reftable.1 in
    subst (AreChecked header image) loads.2
    (record { same = refl; counted = counted.0; l1 = l1.1; reftable = placed.0; placed = placed.1; loads = loads.1 })

-- and so are those of one that isn't refused
pub checked-found : (header : HeaderRecord) (image : Image) (tables : ImageTables) → repairable_tables header image ≡ Ok tables → AreChecked header image tables
checked-found header image tables is =
    let unrefused = (fine-parts (header_refusal header) (unrefused_tables header image) tables is).1 in
    let found = then-parts (checked_tables header image) (λ tables. unless_refused (findings_refusal header tables.reftable (image_findings tables image)) (Ok tables)) tables unrefused in
    let fine = fine-parts (findings_refusal header found.0.reftable (image_findings found.0 image)) (Ok found.0) tables found.2 in
    subst (AreChecked header image) (ok-same found.0 tables fine.1) (checked-parts header image found.0 found.1)

-- so an image that isn't refused can be repaired
pub found-repairable : (header : HeaderRecord) (image : Image) (tables : ImageTables) → IsClusterBits header.v2.cluster_bits → header.base.refcount_order ≤ 6
    → IsBytes image → repairable_tables header image ≡ Ok tables → IsRepairable (image_tables header tables.l1 tables.reftable) image
found-repairable header image tables bits orders bytes is =
    let unrefused = (fine-parts (header_refusal header) (unrefused_tables header image) tables is).1 in
    let found = then-parts (checked_tables header image) (λ tables. unless_refused (findings_refusal header tables.reftable (image_findings tables image)) (Ok tables)) tables unrefused in
    let fine = fine-parts (findings_refusal header found.0.reftable (image_findings found.0 image)) (Ok found.0) tables found.2 in
    let checked = checked-parts header image found.0 found.1 in
    subst (λ tables. IsRepairable (image_tables header tables.l1 tables.reftable) image) (ok-same found.0 tables fine.1)
    (by_header found.0 checked.same checked fine.0)
  where
    by_header : (found : ImageTables) → found.header ≡ header → AreChecked header image found
        → findings_refusal header found.reftable (image_findings found image) ≡ None → IsRepairable (image_tables header found.l1 found.reftable) image
    by_header found same checked none =
        let tables = image_tables header found.l1 found.reftable in
        let here : tables ≡ found = subst (λ other. image_tables other found.l1 found.reftable ≡ found) same refl in
        let parts : AreChecked header image tables = subst (AreChecked header image) (sym here) checked in
        repairable-unless_refused tables image bits orders parts.placed parts.loads bytes
        (subst (λ other. findings_refusal header other.reftable (image_findings other image) ≡ None) (sym here) none)

-- also after its header is made writable
pub repairable-found-written : (header written : HeaderRecord) (tables : ImageTables) (old mid : Image) → IsValidHeader header → IsBytes old
    → repairable_tables header old ≡ Ok tables → MakesWritable header written old mid → IsRepairable (tables_in written tables.reftable mid) mid
repairable-found-written header written tables old mid valid bytes is makes =
    let here = found-repairable header old tables valid.cluster_bits valid.refcount_order bytes is in
    let says = writable-same header written makes.becomes in
    let both = repairable-written header written tables.l1 tables.reftable _ old mid says here
    (repairable-l1 header tables old is).1 makes.others (text-fits header) in
    rw both.1 both.0

-- uses and counters are the same then
pub kept-found-written : (header written : HeaderRecord) (tables : ImageTables) (old mid : Image) → IsValidHeader header → IsBytes old
    → repairable_tables header old ≡ Ok tables → MakesWritable header written old mid
    → (image_uses (tables_in written tables.reftable mid) mid ≡ image_uses tables old)
    × ((c : ℕ) → counter_of written tables.reftable mid c ≡ counter_of header tables.reftable old c)
kept-found-written header written tables old mid valid bytes is makes =
    let here = found-repairable header old tables valid.cluster_bits valid.refcount_order bytes is in
    let says = writable-same header written makes.becomes in
    let kept = kept-written header written tables.l1 tables.reftable _ old mid says here
    (repairable-l1 header tables old is).1 makes.others (text-fits header) in
    let own : image_uses (image_tables header tables.l1 tables.reftable) old ≡ image_uses tables old
    = subst (λ other. image_uses (image_tables other tables.l1 tables.reftable) old ≡ image_uses tables old) (checked-found header old tables is).same refl in
    (kept.0 ∙ own, kept.1)
