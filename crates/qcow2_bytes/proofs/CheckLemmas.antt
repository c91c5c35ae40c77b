use Rattle.std.proofs.lemmas.Bool.Decides.{nat_tests}
use Rattle.std.proofs.Common.{◌≡◌, ◌≢◌, ◌⊎◌, ◌≤◌, ◌*◌, ℕ, ◌+◌, List, [], ◌∷◌, ◌++◌, drop, length, map, set, take, IsTrue, Option, Some, None, option_map, Result, Ok, Err, inl, inr, refl, sym, ap, subst, ◌∙◌, append-nil, append_assoc, arith}
use Rattle.std.proofs.lemmas.List.{length-map, length_push, map-append}
use Rattle.qcow2_base.specs.Fault.{fault_number}
use Rattle.qcow2_base.specs.Storage.{Image, OnImage, OnlyReads, StorageState}
use Rattle.qcow2_base.specs.declared.fault.Fault.{Fault}
use Rattle.qcow2_base.specs.declared.fault.Fault.TheVariants.{NoMemory, Storage, Uncounted}
use Rattle.qcow2_base.specs.declared.fault.UncountedPart.{UncountedPart}
use Rattle.qcow2_base.specs.declared.types.HostCluster.{HostCluster}
use Rattle.qcow2_check.proofs.TotalsLemmas.{items-more, totals-finding}
use Rattle.qcow2_check.specs.Findings.{FindingsState, IsBegun, IsCheckFault, checked_tables, findings_left, image_findings, tables_of}
use Rattle.qcow2_check.specs.NamedTables.{l1_cluster, reftable_cluster, reftable_kind}
use Rattle.qcow2_check.specs.Totals.{finding_totals, with_clusters}
use Rattle.qcow2_check.specs.Uses.{ImageTables}
use Rattle.qcow2_check.specs.declared.findings.Finding.{Finding}
use Rattle.qcow2_check.specs.declared.totals.Totals.{Totals}
use Rattle.qcow2_metadata.specs.Header.{HeaderRecord, uncounted_part}
use Rattle.qcow2_metadata.specs.Results.{IsFromOutside}
use Rattle.qcow2_metadata.specs.Table.{IsTableFault, Kind, l1_kind, l2_entries, table_layout}
use Rattle.qcow2_bytes.specs.Header.{any_header_of}
use Rattle.qcow2_bytes.specs.Images.Check.{AreFirstPut, IsCheckRefusal, PutsFindings, finding_fields, tables_at}
use Rattle.qcow2_bytes.specs.declared.images.check.CheckTotals.{CheckTotals}
use Rattle.qcow2_bytes.specs.declared.images.check.FindingFields.{FindingFields}

-- one item more is put, if there is room
pub first-put-more : {T : Type 0} (items old new : List T) (item : T) → AreFirstPut items old new
    → AreFirstPut (items ++ item ∷ []) old (set new (length items) item)
first-put-more {T} items old new item put = rw put (by_items items old)
  where
    by_items : (items old : List T) → set (take (length old) items ++ drop (length (take (length old) items)) old) (length items) item
        ≡ take (length old) (items ++ item ∷ []) ++ drop (length (take (length old) (items ++ item ∷ []))) old
    by_items [] [] = refl
    by_items [] (x ∷ []) = refl
    by_items [] (x ∷ y ∷ ys) = refl
    by_items (i ∷ is) [] = refl
    by_items (i ∷ is) (x ∷ xs) = ap (λ rest. i ∷ rest) (by_items is xs)

-- what was counted of some findings: how many they are, and how many of each kind
abbrev pub Counted : List Finding → ℕ → Totals → Type 0
Counted findings count totals = (count ≡ length findings) × (totals ≡ finding_totals findings)

-- one finding more is counted and put
pub findings-more : (all counted left later : List Finding) (finding : Finding) (count sum : ℕ) (was is : Totals) (old new list : List FindingFields)
    → all ≡ counted ++ left → left ≡ finding ∷ later → Counted counted count was → sum ≡ count + 1 → is ≡ with_clusters was finding 1
    → AreFirstPut (map finding_fields counted) old new → list ≡ set new count (finding_fields finding)
    → (more : List Finding) × (all ≡ more ++ later) × Counted more sum is × AreFirstPut (map finding_fields more) old list
findings-more all counted left later finding count sum was is old new list are first same one next put stored =
    let more = first-put-more (map finding_fields counted) old new (finding_fields finding) put in (
      counted ++ finding ∷ [],
      items-more all counted left later finding are first,
      (one ∙ ap (λ n. n + 1) same.0 ∙ sym (length_push counted finding), next ∙ ap (λ totals. with_clusters totals finding 1) same.1 ∙ totals-finding counted finding),
      rw (stored, same.0, map-append finding_fields counted (finding ∷ [])) (rw (length-map counted finding_fields) at more),
    )

-- all are counted and put
pub all-counted : (reader : FindingsState) (image : Image) (counted left : List Finding) (count : ℕ) (totals : Totals) (old new : List FindingFields)
    → IsBegun reader → left ≡ [] → findings_left reader image ≡ counted ++ left → Counted counted count totals
    → AreFirstPut (map finding_fields counted) old new
    → (count ≡ length (image_findings (tables_of reader) image)) × (totals ≡ finding_totals (image_findings (tables_of reader) image))
    × AreFirstPut (map finding_fields (image_findings (tables_of reader) image)) old new
all-counted reader image counted left count totals old new begun none are same put =
    let all : findings_left reader image ≡ image_findings (tables_of reader) image = rw (begun.0, begun.1) refl in
    let whole : image_findings (tables_of reader) image ≡ counted = sym all ∙ are ∙ ap (λ rest. counted ++ rest) none ∙ append-nil counted in
    rw whole (same.0, same.1, put)

-- what is found after the header was read is what is found of the image
pub checked-after : (header : HeaderRecord) (before after : List FindingFields) (answer : Result CheckTotals Fault) (old new : StorageState)
    → (IsTrue old.tells → any_header_of old.byte_at ≡ Ok header)
    → OnlyReads {T = HeaderRecord} (Ok header) old new
    → OnImage new (λ bytes. PutsFindings (checked_tables header bytes) bytes before after answer)
    → OnImage old (λ bytes. PutsFindings (tables_at bytes) bytes before after answer)
checked-after header before after answer old new loaded reads checks = λ told.
    rw (loaded told) (rw reads.bytes at (checks (reads.device.tells ∙ told)))

-- a refusal that no storage makes
pub kept-refusal : (tables : Result ImageTables Fault) (image : Image) (before after : List FindingFields) (fault result : Fault)
    → (result ≡ NoMemory) ⊎ ((result ≡ fault) × (fault ≢ Storage)) → PutsFindings tables image before after (Err fault)
    → PutsFindings tables image before after (Err result)
kept-refusal tables image before after fault result (inr same) put = rw same.0 put
kept-refusal (Ok tables) image before after fault result (inl memory) put = inl memory
kept-refusal (Err refusal) image before after fault result (inl memory) put = (put.0, inl (inl memory))

-- the refusals of a check have their numbers
table-number : (kind : Kind) (cb n : ℕ) (cluster : HostCluster) (fault : Fault) → IsTableFault (table_layout kind cb n) cluster fault
    → fault_number fault ≤ 21
table-number kind cb n cluster fault is = grind (arith, nat_tests)

uncounted-number : (part : Option UncountedPart) (fault : Fault) → option_map Uncounted part ≡ Some fault → fault_number fault ≡ 37
uncounted-number None fault is = cc
uncounted-number (Some part) fault is = grind (arith, nat_tests)

pub refused-check : (header : HeaderRecord) (fault : Fault) → IsCheckFault header fault ⊎ IsFromOutside fault
    → IsFromOutside fault ⊎ IsCheckRefusal fault
refused-check header fault (inr outside) = inl outside
refused-check header fault (inl (inl uncounted)) = inr (inr (uncounted-number (uncounted_part header) fault uncounted))
refused-check header fault (inl (inr (inl l1))) = inr (inl (table-number l1_kind header.v2.cluster_bits header.v2.l1_size (l1_cluster header) fault l1))
refused-check header fault (inl (inr (inr (inl table)))) = inr (inl (table-number reftable_kind header.v2.cluster_bits (header.v2.refcount_table_clusters * l2_entries header.v2.cluster_bits) (reftable_cluster header) fault table))
refused-check header fault (inl (inr (inr (inr place)))) = inr (inl (rw place (omega arith)))
