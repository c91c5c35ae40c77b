use Rattle.std.proofs.Common.{◌≡◌, ◌≢◌, ◌⊎◌, ℕ, Bool, IsTrue, true, false, ◌+◌, ◌*◌, ◌/◌, ◌^◌, ◌<◌, ◌≤◌, List, [], ◌∷◌, ◌++◌, flat_map, length, slice_index, unwrap_or, IsSome, Option, Some, None, Result, Ok, Err, ap, refl, sym, subst, ◌∙◌, inl, inr, arith}
use Rattle.std.proofs.lemmas.Bool.{cases_lt}
use Rattle.std.proofs.lemmas.Bool.Decides.{nat_tests}
use Rattle.std.proofs.lemmas.Grind.{div_ceil_times}
use Rattle.std.proofs.lemmas.Nat.{pow_pos}
use Rattle.std.proofs.Math.Nat.{div-eq_of_lt, le-div_iff_mul-le}
use Rattle.std.specs.Int.{div_ceil}
use Rattle.qcow2_base.specs.Format.{max_file_length}
use Rattle.qcow2_base.specs.Storage.{Image, OnImage, OnlyReads, OnlyWrites, SameOutside, StorageState}
use Rattle.qcow2_base.specs.declared.fault.Fault.{Fault}
use Rattle.qcow2_base.specs.declared.types.ClusterCount.{ClusterCount}
use Rattle.qcow2_base.specs.declared.types.HostCluster.{HostCluster}
use Rattle.qcow2_metadata.proofs.TableLemmas.{table_numbers_same}
use Rattle.qcow2_metadata.proofs.WritableLemmas.{encryption_clusters-same}
use Rattle.qcow2_metadata.proofs.WriteLemmas.{header_text-placed}
use Rattle.qcow2_metadata.specs.Header.{HeaderRecord, geometry_of}
use Rattle.qcow2_metadata.specs.Header.Open.{BecomesWritable, IsWritableFault, SaysSame, is_rewritten, opened_text, without_autoclear}
use Rattle.qcow2_metadata.specs.Placed.{place_fault}
use Rattle.qcow2_metadata.specs.Refblock.{greatest_counter}
use Rattle.qcow2_metadata.specs.Results.{IsFromOutside}
use Rattle.qcow2_metadata.specs.Table.{IsTableFault, TableState}
use Rattle.qcow2_metadata.specs.Header.Text.{chosen_text, header_after_write, header_text, header_to_write}
use Rattle.qcow2_summary.proofs.ApartLemmas.{first-used, header-used, kind-append, l1-first-used, named-below, named-used}
use Rattle.qcow2_check.proofs.FindingsLemmas.{excludes, uses_by_kind}
use Rattle.qcow2_check.specs.Findings.{is_shared, uses_of_kind}
use Rattle.qcow2_check.specs.NamedTables.{l1_cluster, l1_layout, loaded_l1_table, named_block, named_cluster, reftable_cluster}
use Rattle.qcow2_check.specs.Counters.{block_of_cluster, blocks_fault, counter_of}
use Rattle.qcow2_check.specs.Tally.{ClusterUse, used_clusters}
use Rattle.qcow2_check.specs.Uses.{ImageTables, block_uses, entry_uses, header_uses, image_tables, image_uses, key_clusters, l1_entry_uses, uses_of}
use Rattle.qcow2_check.specs.declared.tally.TallyKind.TheVariants.{Fixed, L2Table}
use Rattle.qcow2_repair.proofs.CountersLemmas.{block-same}
use Rattle.qcow2_repair.proofs.OrderLemmas.{fixed-both}
use Rattle.qcow2_repair.proofs.RepairLemmas.{all-load-same, blocks-used, flat_map-same}
use Rattle.qcow2_summary.proofs.ClustersLemmas.{table-same}
use Rattle.qcow2_repair.proofs.FlagWindowsLemmas.{loads-by}
use Rattle.qcow2_repair.specs.Repair.{IsPassFault, IsRepairable, MakesWritable, tables_in}
use Rattle.qcow2_check.specs.Failures.{ReportsFailures}
use Rattle.qcow2_repair.specs.Refusals.{IsRepairRefusal, repairable_tables}
use Rattle.qcow2_repair.specs.Flags.{IsL1TableOf, NamesTable, l1_in, l2_in}

-- a header's text is written only where it fits the first cluster
written-fits : (header written : HeaderRecord) → header_after_write header ≡ Ok written → length (header_text written) ≤ 2 ^ header.v2.cluster_bits
unfolding header_after_write
written-fits header written is = grind (arith, nat_tests, header_text-placed header, header_text-placed (header_to_write false header))

chosen-fits : (header : HeaderRecord) (answer : Result HeaderRecord Fault) → header_after_write header ≡ answer
    → length (chosen_text header) ≤ 2 ^ header.v2.cluster_bits
chosen-fits header (Ok written) is = rw (is, chosen_text) (written-fits header written is)
chosen-fits header (Err fault) is = rw (is, chosen_text) (omega arith)

-- and so does the text that is placed when a header is made writable
pub text-fits : (header : HeaderRecord) → length (opened_text true (Ok header)) ≤ 2 ^ header.v2.cluster_bits
text-fits header = by_autoclear (is_rewritten true header) refl
  where
    by_autoclear : (test : Bool) → is_rewritten true header ≡ test → length (opened_text true (Ok header)) ≤ 2 ^ header.v2.cluster_bits
    by_autoclear true rewritten =
        let some : opened_text true (Ok header) ≡ chosen_text (without_autoclear header) = grind (arith, nat_tests, rewritten) in
        subst (λ text. length text ≤ 2 ^ header.v2.cluster_bits) (sym some)
        (chosen-fits (without_autoclear header) (header_after_write (without_autoclear header)) refl)
    by_autoclear false stays =
        let none : opened_text true (Ok header) ≡ [] = grind (arith, nat_tests, stays) in
        subst (λ text. length text ≤ 2 ^ header.v2.cluster_bits) (sym none) (omega arith)

-- bytes in other clusters than the first stay where only those of a part of it change
pub past-first : (w len o : ℕ) (old new : Image) → len ≤ w → SameOutside 0 len old new → o / w ≢ 0 → new o ≡ old o
past-first w len o old new fits outside past = elim (cases_lt o w) [
  | inl within ↦ absurd (past (div-eq_of_lt within))
  | inr more ↦ outside.after o (omega (arith, more, fits))
]

-- no L2 table begins with the first cluster, where no uses exclude each other
table-past-first : (tables : ImageTables) (image : Image) (table : HostCluster) → IsRepairable tables image
    → NamesTable tables.header tables.l1 table → table.0 ≢ 0
table-past-first tables image table is names first =
    let uses = image_uses tables image in
    let apart : is_shared uses table.0 ≡ false = is.apart table.0 (named-below _ _ table names.1) in
    let fixed : 0 < uses_of_kind Fixed uses table.0 =
    subst (λ c. 0 < uses_of_kind Fixed (image_uses tables image) c) (sym first) (header-used tables image 0 (first-used tables.header)) in
    grind (arith, nat_tests, excludes uses table.0 apart, uses_by_kind uses table.0, named-used tables image names.0 table names.1, fixed)

-- nor does the L1 table, where it has a byte
l1-past-first : (tables : ImageTables) (image : Image) (k : ℕ) → IsRepairable tables image → k < 8 * tables.header.v2.l1_size
    → (l1_cluster tables.header).0 ≢ 0
l1-past-first tables image k is below first =
    let header = tables.header in
    let uses = image_uses tables image in
    let w = 2 ^ header.v2.cluster_bits in
    let count = div_ceil (8 * header.v2.l1_size) w in
    let blocks = flat_map (block_uses header.v2.cluster_bits) tables.reftable in
    let last = flat_map (l1_entry_uses (geometry_of header) image) tables.l1 in
    let fits : 8 * header.v2.l1_size ≤ count * w = (div_ceil_times (8 * header.v2.l1_size) w (pow_pos _)).0 in
    let some : 0 < count = elim (cases_lt 0 count) [
      | inl more ↦ more
      | inr less ↦
          let none : count ≡ 0 = omega (arith, less) in
          let few : 8 * header.v2.l1_size ≤ 0 * w = subst (λ n. 8 * header.v2.l1_size ≤ n * w) none fits in
          let never : ⊥ = omega (arith, few, below) in
          elim never [ ]
    ] in
    let apart : is_shared uses 0 ≡ false = is.apart 0 (omega arith) in
    let fixed : 1 < uses_of_kind Fixed uses 0 = omega (arith, l1-first-used header first some, kind-append Fixed (header_uses header) (blocks ++ last) 0) in
    omega (arith, fixed, (excludes uses 0 apart).0 (omega (arith, fixed)), uses_by_kind uses 0)

-- so the L2 tables stay where only bytes of the first cluster change
pub l2-past-first : (tables : ImageTables) (old new : Image) (len : ℕ) (table : HostCluster) → IsRepairable tables old → SameOutside 0 len old new
    → len ≤ 2 ^ tables.header.v2.cluster_bits → NamesTable tables.header tables.l1 table
    → l2_in tables.header table new ≡ l2_in tables.header table old
l2-past-first tables old new len table is outside fits names = table-same (geometry_of tables.header) table old new is.bits.0
    (λ o here. past-first (2 ^ tables.header.v2.cluster_bits) len o old new fits outside (λ first. table-past-first tables old table is names (sym here ∙ first)))

-- and so does the L1 table
pub first-l1-stays : (tables : ImageTables) (old new : Image) (len : ℕ) → IsRepairable tables old → SameOutside 0 len old new
    → len ≤ 2 ^ tables.header.v2.cluster_bits → l1_in tables.header new ≡ l1_in tables.header old
first-l1-stays tables old new len is outside fits = table_numbers_same new old _ _ tables.header.v2.l1_size (λ k below. at k below)
  where
    w : ℕ
    w = 2 ^ tables.header.v2.cluster_bits

    at : (k : ℕ) → k < 8 * tables.header.v2.l1_size → new ((l1_cluster tables.header).0 * w + k) ≡ old ((l1_cluster tables.header).0 * w + k)
    at k below =
        let first = (l1_cluster tables.header).0 in
        let reached : first ≤ (first * w + k) / w = (le-div_iff_mul-le (pow_pos tables.header.v2.cluster_bits)).1 (omega arith) in
        past-first w len (first * w + k) old new fits outside (λ none. l1-past-first tables old k is below (omega (arith, reached, none)))

-- what an L1 entry uses stays where the L2 table does that it names
uses-by : (tables : ImageTables) (old new : Image) (v : ℕ) (found : Option HostCluster) → named_cluster tables.header.v2.cluster_bits v ≡ found
    → ((table : HostCluster) → found ≡ Some table → l2_in tables.header table new ≡ l2_in tables.header table old)
    → l1_entry_uses (geometry_of tables.header) new v ≡ l1_entry_uses (geometry_of tables.header) old v
uses-by tables old new v None names same = rw (names, l1_entry_uses) refl
uses-by tables old new v (Some table) names same =
    rw (names, l1_entry_uses) (ap (λ numbers. used_clusters L2Table table 1 ∷ flat_map (entry_uses (geometry_of tables.header)) numbers) (same table refl))

-- an image uses the same clusters where its L2 tables stay
uses-kept : (tables : ImageTables) (old new : Image)
    → ((table : HostCluster) → NamesTable tables.header tables.l1 table → l2_in tables.header table new ≡ l2_in tables.header table old)
    → image_uses tables new ≡ image_uses tables old
uses-kept tables old new stays =
    let g = geometry_of tables.header in
    let last : flat_map (l1_entry_uses g new) tables.l1 ≡ flat_map (l1_entry_uses g old) tables.l1 = flat_map-same _ _ tables.l1
    (λ k. uses-by tables old new _ (named_cluster g.cluster_bits (slice_index tables.l1 k)) refl (λ table names. stays table (k, names))) in
    rw last refl

-- and can be repaired as before
repairable-by : (tables : ImageTables) (old new : Image) → IsRepairable tables old
    → ((table : HostCluster) → NamesTable tables.header tables.l1 table → l2_in tables.header table new ≡ l2_in tables.header table old)
    → IsRepairable tables new
repairable-by tables old new is stays =
    let g = geometry_of tables.header in
    let same : image_uses tables new ≡ image_uses tables old = uses-kept tables old new stays in
    record {
      bits = is.bits;
      orders = is.orders;
      placed = is.placed;
      loads = all-load-same g tables.l1 old new (λ k.
          loads-by g _ _ old new (named_cluster g.cluster_bits (slice_index tables.l1 k)) refl refl
          (λ table names. rw (stays table (k, names)) refl)) ∙ is.loads;
      apart = rw same is.apart;
      fits = rw same is.fits;
    }

-- a header that says the same names the same encryption header
keys-said : (header written : HeaderRecord) → SaysSame header written → key_clusters written ≡ key_clusters header
unfolding key_clusters
keys-said header written says =
    ap (λ named. unwrap_or named (record { 0 = 0 }, record { 0 = 0 })) (encryption_clusters-same header written says)

-- what an image uses by a header and the clusters of an encryption header
abbrev uses-with : HostCluster × ClusterCount → HeaderRecord → List ℕ → List ℕ → Image → List ClusterUse
uses-with keys header l1 reftable image = (
    used_clusters Fixed (record { 0 = 0 }) 1
    ∷ used_clusters Fixed (l1_cluster header) (div_ceil (8 * header.v2.l1_size) (2 ^ header.v2.cluster_bits))
    ∷ used_clusters Fixed (reftable_cluster header) header.v2.refcount_table_clusters
    ∷ used_clusters Fixed keys.0 keys.1.0 ∷ []
    ) ++ flat_map (block_uses header.v2.cluster_bits) reftable ++ flat_map (l1_entry_uses (geometry_of header) image) l1

-- and an image can be repaired by a header that says the same
repairable-said : (header written : HeaderRecord) (l1 reftable : List ℕ) (image : Image) → SaysSame header written
    → IsRepairable (image_tables header l1 reftable) image → IsRepairable (image_tables written l1 reftable) image
repairable-said header written l1 reftable image says is =
    let v2 = record header.v2 { backing_file_offset = written.v2.backing_file_offset; backing_file_size = written.v2.backing_file_size } in
    let base = record header.base { autoclear_features = written.base.autoclear_features; header_length = written.base.header_length } in
    let twin : HeaderRecord = record written { v2 = v2; base = base } in
    let says_twin : SaysSame header twin = record {
      v2 = refl;
      base = refl;
      autoclear = says.autoclear;
      backing_filename = says.backing_filename;
      extensions = says.extensions;
    } in
    let same : image_uses (image_tables header l1 reftable) image ≡ image_uses (image_tables twin l1 reftable) image =
    ap (λ keys. uses-with keys header l1 reftable image) (sym (keys-said header twin says_twin)) in
    let here : IsRepairable (image_tables twin l1 reftable) image = record {
      bits = is.bits;
      orders = is.orders;
      placed = is.placed;
      loads = is.loads;
      apart = subst (λ uses. (c : ℕ) → c < max_file_length → is_shared uses c ≡ false) same is.apart;
      fits = subst (λ uses. (c : ℕ) → c < max_file_length → IsSome (block_of_cluster header reftable c)
          → uses_of uses c ≤ greatest_counter header.base.refcount_order) same is.fits;
    } in
    subst (λ part. IsRepairable (image_tables (record written { v2 = part }) l1 reftable) image) (sym says.v2)
    (subst (λ part. IsRepairable (image_tables (record written { v2 = v2; base = part }) l1 reftable) image) (sym says.base) here)

-- a header that says the same has the same L1 table
l1-said : (header written : HeaderRecord) (image : Image) → SaysSame header written → l1_in written image ≡ l1_in header image
l1-said header written image says =
    subst (λ part. l1_in (record written { v2 = part }) image ≡ l1_in header image) (sym says.v2) refl

-- and so are the faults of that
pub l1-fault-said : (header written : HeaderRecord) (fault : Fault) → SaysSame header written → IsTableFault (l1_layout written) (l1_cluster written) fault
    → IsTableFault (l1_layout header) (l1_cluster header) fault
l1-fault-said header written fault says = subst (λ part. IsTableFault (l1_layout (record written { v2 = part })) (l1_cluster (record written { v2 = part })) fault
    → IsTableFault (l1_layout header) (l1_cluster header) fault) (sym says.v2) (λ is. is)

-- a fault before the header is written
pub found-fault : (header : HeaderRecord) (fault : Fault) → IsRepairRefusal header fault ⊎ IsFromOutside fault
    → IsRepairRefusal header fault ⊎ IsWritableFault header fault
found-fault header fault (inl refusal) = inl refusal
found-fault header fault (inr outside) = inr (inr (inr outside))

-- a fault of the passes is one of the image with the header before
pub pass-fault-said : (header written : HeaderRecord) (fault : Fault) → SaysSame header written → IsPassFault written fault
    → IsRepairRefusal header fault ⊎ IsWritableFault header fault
pass-fault-said header written fault says (inl table) = inl (inl (inr (inl (l1-fault-said header written fault says table))))
pass-fault-said header written fault says (inr (inl range)) = inl (inr (inr (inl range)))
pass-fault-said header written fault says (inr (inr outside)) = inr (inr (inr outside))

-- an image can be repaired as before after its header is written, which says the same
pub repairable-written : (header written : HeaderRecord) (l1 reftable : List ℕ) (len : ℕ) (before mid : Image) → SaysSame header written
    → IsRepairable (image_tables header l1 reftable) before → l1 ≡ l1_in header before → SameOutside 0 len before mid
    → len ≤ 2 ^ header.v2.cluster_bits → IsRepairable (image_tables written l1 reftable) mid × (l1_in written mid ≡ l1)
repairable-written header written l1 reftable len before mid says is numbers outside fits =
    let tables = image_tables header l1 reftable in (
      repairable-said header written l1 reftable mid says
          (repairable-by tables before mid is (λ table names. l2-past-first tables before mid len table is outside fits names)),
      l1-said header written mid says ∙ first-l1-stays tables before mid len is outside fits ∙ sym numbers,
    )

-- an image uses the same clusters by a header that says the same, and has the same counters
uses-said : (header written : HeaderRecord) (l1 reftable : List ℕ) (image : Image) → SaysSame header written
    → image_uses (image_tables written l1 reftable) image ≡ image_uses (image_tables header l1 reftable) image
uses-said header written l1 reftable image says =
    let uses = uses-with (key_clusters header) in
    ap (λ keys. uses-with keys written l1 reftable image) (keys-said header written says)
    ∙ subst (λ base. uses (record written { base = base }) l1 reftable image ≡ uses header l1 reftable image) (sym says.base)
    (subst (λ v2. uses (record written { v2 = v2; base = record header.base { autoclear_features = written.base.autoclear_features; header_length = written.base.header_length } }) l1 reftable image ≡ uses header l1 reftable image) (sym says.v2) refl)

counter-said : (header written : HeaderRecord) (reftable : List ℕ) (image : Image) (c : ℕ) → SaysSame header written
    → counter_of written reftable image c ≡ counter_of header reftable image c
counter-said header written reftable image c says =
    subst (λ base. counter_of (record written { base = base }) reftable image c ≡ counter_of header reftable image c) (sym says.base)
    (subst (λ v2. counter_of (record written { v2 = v2; base = record header.base { autoclear_features = written.base.autoclear_features; header_length = written.base.header_length } }) reftable image c ≡ counter_of header reftable image c) (sym says.v2) refl)

-- no block begins with the first cluster, where no uses exclude each other
block-past-first : (tables : ImageTables) (image : Image) (i : ℕ) (block : HostCluster) → IsRepairable tables image
    → named_block tables.header.v2.cluster_bits (slice_index tables.reftable i) ≡ Some block → block.0 ≢ 0
block-past-first tables image i block is names first =
    let uses = image_uses tables image in
    let apart : is_shared uses 0 ≡ false = is.apart 0 (omega arith) in
    let one = first-used tables.header in
    let other = rw first at (blocks-used tables.header.v2.cluster_bits tables.reftable i block names) in
    omega (arith, one, other, fixed-both tables image 0, (excludes uses 0 apart).0 (omega (arith, one, fixed-both tables image 0)), uses_by_kind uses 0)

-- so each counter stays where only bytes of the first cluster change
counter-past-first : (tables : ImageTables) (old new : Image) (len c : ℕ) → IsRepairable tables old → SameOutside 0 len old new
    → len ≤ 2 ^ tables.header.v2.cluster_bits → counter_of tables.header tables.reftable new c ≡ counter_of tables.header tables.reftable old c
counter-past-first tables old new len c is outside fits = by_block (block_of_cluster tables.header tables.reftable c) refl
  where
    by_block : (found : Option HostCluster) → block_of_cluster tables.header tables.reftable c ≡ found
        → counter_of tables.header tables.reftable new c ≡ counter_of tables.header tables.reftable old c
    by_block None none = grind (arith, none)
    by_block (Some block) there =
        let kept = block-same tables old block old new is (λ o here. past-first (2 ^ tables.header.v2.cluster_bits) len o old new fits outside
        (λ first. block-past-first tables old _ block is there (sym here ∙ first))) in
        grind (arith, there, kept)

-- uses and counters stay after a header is written that says the same
pub kept-written : (header written : HeaderRecord) (l1 reftable : List ℕ) (len : ℕ) (before mid : Image) → SaysSame header written
    → IsRepairable (image_tables header l1 reftable) before → l1 ≡ l1_in header before → SameOutside 0 len before mid → len ≤ 2 ^ header.v2.cluster_bits
    → (image_uses (tables_in written reftable mid) mid ≡ image_uses (image_tables header l1 reftable) before)
    × ((c : ℕ) → counter_of written reftable mid c ≡ counter_of header reftable before c)
kept-written header written l1 reftable len before mid says is numbers outside fits =
    let tables = image_tables header l1 reftable in
    let now : l1_in written mid ≡ l1 = (repairable-written header written l1 reftable len before mid says is numbers outside fits).1 in (
      ap (λ numbers. image_uses (image_tables written numbers reftable) mid) now ∙ uses-said header written l1 reftable mid says
          ∙ uses-kept tables before mid (λ table names. l2-past-first tables before mid len table is outside fits names),
      λ c. counter-said header written reftable mid c says ∙ counter-past-first tables before mid len c is outside fits,
    )

-- a header that says the same has the same geometry, and the same blocks can lie where they say
pub geometry-said : (header written : HeaderRecord) → SaysSame header written → geometry_of written ≡ geometry_of header
geometry-said header written says = subst (λ base. geometry_of (record written { base = base }) ≡ geometry_of header) (sym says.base)
    (subst (λ v2. geometry_of (record written { v2 = v2; base = record header.base { autoclear_features = written.base.autoclear_features; header_length = written.base.header_length } }) ≡ geometry_of header) (sym says.v2) refl)

pub blocks-said : (header written : HeaderRecord) (reftable : List ℕ) → SaysSame header written → blocks_fault written reftable ≡ blocks_fault header reftable
blocks-said header written reftable says = subst (λ base. blocks_fault (record written { base = base }) reftable ≡ blocks_fault header reftable) (sym says.base)
    (subst (λ v2. blocks_fault (record written { v2 = v2; base = record header.base { autoclear_features = written.base.autoclear_features; header_length = written.base.header_length } }) reftable ≡ blocks_fault header reftable) (sym says.v2) refl)

-- where the tables of an image can be repaired, its L1 table loads, and is this
pub repairable-l1 : (header : HeaderRecord) (tables : ImageTables) (image : Image) → repairable_tables header image ≡ Ok tables
    → loaded_l1_table header image ≡ Ok (l1_in header image) × (tables.l1 ≡ l1_in header image)
repairable-l1 header tables image is = by_l1 (loaded_l1_table header image) refl
  where
    by_l1 : (answer : Result (List ℕ) Fault) → loaded_l1_table header image ≡ answer → loaded_l1_table header image ≡ Ok (l1_in header image) × (tables.l1 ≡ l1_in header image)
    by_l1 (Err fault) refused = absurd (grind (arith, nat_tests, refused, is))
    by_l1 (Ok l1) there =
        let numbers : l1 ≡ l1_in header image = grind (arith, nat_tests, there) in
        let same : tables.l1 ≡ l1 = grind (arith, nat_tests, there, is) in
        (there ∙ ap Ok numbers, same ∙ numbers)

-- the L1 table loads after the header is written
pub loads-written : (header written : HeaderRecord) (tables : ImageTables) (len : ℕ) (before mid : Image) → SaysSame header written
    → repairable_tables header before ≡ Ok tables → IsRepairable (image_tables header tables.l1 tables.reftable) before → SameOutside 0 len before mid
    → len ≤ 2 ^ header.v2.cluster_bits → loaded_l1_table written mid ≡ Ok (l1_in written mid)
loads-written header written tables len before mid says found is outside fits =
    let l1 = repairable-l1 header tables before found in
    let here : loaded_l1_table header mid ≡ Ok (l1_in header mid) =
    let kept : l1_in header mid ≡ l1_in header before = first-l1-stays (image_tables header tables.l1 tables.reftable) before mid len is outside fits in
    rw kept l1.0 in
    subst (λ v2. loaded_l1_table (record written { v2 = v2 }) mid ≡ Ok (l1_in (record written { v2 = v2 }) mid)) (sym says.v2) here

-- the L1 table of the image that can be repaired is that by a header that says the same, once this is written
pub l1-table-written : (header written : HeaderRecord) (table : TableState) (reftable : List ℕ) (len : ℕ) (before after : StorageState) → SaysSame header written
    → (IsTrue after.tells → IsTrue before.tells) → OnImage before (IsRepairable (image_tables header table.numbers reftable))
    → (IsTrue after.tells → SameOutside 0 len before.byte_at after.byte_at) → len ≤ 2 ^ header.v2.cluster_bits
    → IsL1TableOf header before table → IsL1TableOf written after table
l1-table-written header written table reftable len before after says known is outside fits of = record {
  numbers = λ told.
      let start = known told in
      sym (repairable-written header written table.numbers reftable len before.byte_at after.byte_at says (is start) (of.numbers start) (outside told) fits).1;
  count = subst (λ v2. length table.numbers ≡ (l1_layout (record written { v2 = v2 })).count) (sym says.v2) of.count;
  cluster = subst (λ v2. table.cluster ≡ Some (l1_cluster (record written { v2 = v2 }))) (sym says.v2) of.cluster;
  unmodified = of.unmodified;
  geometry = of.geometry ∙ sym (geometry-said header written says);
}

-- and can lie where that says
pub l1-place-said : (header written : HeaderRecord) → SaysSame header written → place_fault (l1_layout header) (l1_cluster header) ≡ None
    → place_fault (l1_layout written) (l1_cluster written) ≡ None
l1-place-said header written says = subst (λ v2. place_fault (l1_layout header) (l1_cluster header) ≡ None
    → place_fault (l1_layout (record written { v2 = v2 })) (l1_cluster (record written { v2 = v2 })) ≡ None) (sym says.v2) (λ placed. placed)

-- calls that read, and calls that write, of which none failed
pub reports-none : {A B C : Type 0} (x : A) (y : B) (z : C) (place : Option ℕ) (len : ℕ) (a b c d : StorageState)
    → OnlyReads (Ok x) a b → OnlyWrites (Ok y) place len b c → ReportsFailures {T = Unit {0}} (Ok tt) c d → ReportsFailures {T = C} (Ok z) a d
reports-none x y z place len a b c d reads writes reports =
    record { failed = grind (arith, nat_tests, reads.told, writes.told, reports.failed); device = grind (arith, reads.device, writes.device, reports.device) }

-- where a header became one whose image may be written, and the bytes are known, that is what was done to these
pub makes-writable : (header written : HeaderRecord) (old new : StorageState) → BecomesWritable header (Ok written) old new → IsTrue old.tells
    → MakesWritable header written old.byte_at new.byte_at
makes-writable header written old new becomes told =
    record { becomes = becomes.exact; text = becomes.placed told; others = becomes.storage.others told }
