use Rattle.std.proofs.Common.{◌≡◌, ◌≢◌, ℕ, Bool, true, false, ◌+◌, ◌*◌, ◌/◌, ◌^◌, ◌<◌, ◌≤◌, List, [], ◌∷◌, map, length, option_map, None, Ok, ap, refl, sym, subst, ◌∙◌, inl, inr, arith}
use Rattle.std.proofs.lemmas.Bool.{cases_lt}
use Rattle.std.proofs.lemmas.Bool.Decides.{nat_tests}
use Rattle.std.proofs.lemmas.Grind.{div_ceil_times}
use Rattle.std.proofs.lemmas.Nat.{pow_pos}
use Rattle.std.proofs.Math.Nat.{div-le_self, div-lt_iff_lt-mul, le-div_iff_mul-le, mul_left_comm}
use Rattle.std.specs.Int.{div_ceil}
use Rattle.qcow2_base.specs.Format.{max_file_length}
use Rattle.qcow2_base.specs.Storage.{Image, IsBytes}
use Rattle.qcow2_base.specs.declared.fault.Fault.TheVariants.{Uncounted}
use Rattle.qcow2_base.specs.declared.types.HostCluster.{HostCluster}
use Rattle.qcow2_metadata.proofs.CopiedLemmas.{l1_fault-with_copied}
use Rattle.qcow2_metadata.proofs.TableLemmas.{full_cluster, no_fault_at_all, table_numbers_same}
use Rattle.qcow2_metadata.proofs.WritableLemmas.{uncounted-none, writable-same}
use Rattle.qcow2_metadata.specs.Entries.L1Entry.{l1_fault}
use Rattle.qcow2_metadata.specs.Header.{HeaderRecord, IsValidHeader, uncounted_part}
use Rattle.qcow2_metadata.specs.Header.Marks.{without_marks}
use Rattle.qcow2_metadata.specs.Header.Open.{SaysSame, opened_text}
use Rattle.qcow2_metadata.specs.Placed.{Layout, loaded_numbers, numbers_at, offset_of, place_fault, valid_numbers_at}
use Rattle.qcow2_metadata.specs.Table.{first_fault, l2_entries}
use Rattle.qcow2_summary.proofs.ApartLemmas.{header-used, named-used, named-below}
use Rattle.qcow2_check.proofs.FindingsLemmas.{excludes, kind-cons, uses_by_kind}
use Rattle.qcow2_check.specs.Findings.{checked_tables, is_shared, uses_of_kind}
use Rattle.qcow2_check.specs.NamedTables.{l1_cluster, l1_layout, loaded_l1_table, loaded_reftable, reftable_cluster, reftable_layout}
use Rattle.qcow2_check.specs.Uses.{ImageTables, header_uses, image_tables, image_uses}
use Rattle.qcow2_check.specs.declared.tally.TallyKind.TheVariants.{Fixed}
use Rattle.qcow2_repair.proofs.FlagsLemmas.{passed_cases}
use Rattle.qcow2_repair.proofs.FoundLemmas.{checked-found, fine-parts, found-repairable, ok-same, repairable-found-written}
use Rattle.qcow2_repair.proofs.HeaderLemmas.{first-l1-stays, loads-written, past-first, text-fits}
use Rattle.qcow2_repair.proofs.MarksLemmas.{field-fits, repairable-cleared, within-first}
use Rattle.qcow2_repair.proofs.RepairLemmas.{blocks-used}
use Rattle.qcow2_repair.proofs.OrderLemmas.{fixed-both, l1-stays, named-block-below}
use Rattle.qcow2_repair.proofs.StagesLemmas.{stages}
use Rattle.qcow2_repair.specs.Repair.{ClearsMarks, EndsMarks, HasPassed, IsRepairable, MakesWritable, Repairs, tables_in}
use Rattle.qcow2_repair.specs.Counters.{IsOutsideBlocks}
use Rattle.qcow2_repair.specs.Flags.{FlagPassState, IsOutsideL2Tables, IsOutsideTables, PassesFlags, l1_due, l1_in, pass_all, passed_l1}
use Rattle.qcow2_repair.specs.Refusals.{repairable_tables}

-- an L1 entry stays valid after a pass
l1-passed-valid : (pass : FlagPassState) (v : ℕ) → l1_fault pass.header.v2.cluster_bits v ≡ None → l1_fault pass.header.v2.cluster_bits (passed_l1 pass v) ≡ None
l1-passed-valid pass v valid = elim (passed_cases pass.flag (l1_due pass v) v) [
  | inl same ↦ ap (l1_fault pass.header.v2.cluster_bits) same ∙ valid
  | inr turned ↦ ap (l1_fault pass.header.v2.cluster_bits) turned ∙ l1_fault-with_copied pass.flag pass.header.v2.cluster_bits v ∙ valid
]

-- and so do all entries of a table
l1-valid : (pass : FlagPassState) (vs : List ℕ) → first_fault (l1_fault pass.header.v2.cluster_bits) vs ≡ None
    → first_fault (l1_fault pass.header.v2.cluster_bits) (map (passed_l1 pass) vs) ≡ None
l1-valid pass [] valid = refl
l1-valid pass (v ∷ vs) valid =
    let parts = no_fault_at_all (l1_fault pass.header.v2.cluster_bits v) (first_fault (l1_fault pass.header.v2.cluster_bits) vs) valid in
    rw (l1-passed-valid pass v parts.0) (l1-valid pass vs parts.1)

-- numbers that load can lie at their place, none of them is refused, and they are those of the image
record AreLoaded (layout : Layout) (cluster : HostCluster) (image : Image) (numbers : List ℕ) : Type 0 where
  place : place_fault layout cluster ≡ None
  valid : layout.fault_of_numbers (numbers_at layout cluster image) ≡ None
  are : numbers_at layout cluster image ≡ numbers

loaded-parts : (layout : Layout) (cluster : HostCluster) (image : Image) (numbers : List ℕ) → loaded_numbers layout cluster image ≡ Ok numbers
    → AreLoaded layout cluster image numbers
loaded-parts layout cluster image numbers is =
    let placed = fine-parts (place_fault layout cluster) (valid_numbers_at layout cluster image) numbers is in
    let fine = fine-parts (layout.fault_of_numbers (numbers_at layout cluster image)) (Ok (numbers_at layout cluster image)) numbers placed.1 in
    record { place = placed.0; valid = fine.0; are = ok-same (numbers_at layout cluster image) numbers fine.1 }

-- and where that is so they load
parts-loaded : (layout : Layout) (cluster : HostCluster) (image : Image) (numbers : List ℕ) → AreLoaded layout cluster image numbers
    → loaded_numbers layout cluster image ≡ Ok numbers
parts-loaded layout cluster image numbers is = rw (is.place, is.valid) (ap Ok is.are)

-- the byte at an offset is one of the refcount table
record IsInReftable (header : HeaderRecord) (o : ℕ) : Type 0 where
  from : offset_of (reftable_layout header) (reftable_cluster header) ≤ o
  before : o < offset_of (reftable_layout header) (reftable_cluster header) + (reftable_layout header).byte_count

-- a cluster is one of its clusters
record IsOfReftable (header : HeaderRecord) (c : ℕ) : Type 0 where
  from : (reftable_cluster header).0 ≤ c
  before : c < (reftable_cluster header).0 + header.v2.refcount_table_clusters

-- its bytes are in its clusters
cluster-of-reftable : (header : HeaderRecord) (o : ℕ) → 9 ≤ header.v2.cluster_bits → IsInReftable header o
    → IsOfReftable header (o / 2 ^ header.v2.cluster_bits)
cluster-of-reftable header o least within =
    let w = 2 ^ header.v2.cluster_bits in
    let count = header.v2.refcount_table_clusters in
    let entries = l2_entries header.v2.cluster_bits in
    let regroup = mul_left_comm 8 count entries in
    let whole : 8 * (count * entries) ≡ count * w = regroup ∙ ap (λ n. count * n) (full_cluster header.v2.cluster_bits least) in
    record {
      from = (le-div_iff_mul-le (pow_pos header.v2.cluster_bits)).1 within.from;
      before = (div-lt_iff_lt-mul (pow_pos header.v2.cluster_bits)).1 (omega (arith, within.before, whole));
    }

-- the image uses them
reftable-used : (header : HeaderRecord) (c : ℕ) → IsOfReftable header c → 0 < uses_of_kind Fixed (header_uses header) c
reftable-used header c is = grind (arith, nat_tests, kind-cons, is.from, is.before)

-- once more where the L1 table's bytes are in them
l1-reftable-used : (header : HeaderRecord) (c : ℕ) → IsOfReftable header c → (l1_cluster header).0 ≤ c
    → c < (l1_cluster header).0 + div_ceil (8 * header.v2.l1_size) (2 ^ header.v2.cluster_bits)
    → 1 < uses_of_kind Fixed (header_uses header) c
l1-reftable-used header c is from before = grind (arith, nat_tests, kind-cons, is.from, is.before, from, before)

-- and where the first cluster is one of them
first-reftable-used : (header : HeaderRecord) → IsOfReftable header 0 → 1 < uses_of_kind Fixed (header_uses header) 0
first-reftable-used header is = grind (arith, nat_tests, kind-cons, is.from, is.before)

-- a cluster has one fixed use at most where no uses exclude each other
fixed-once : (tables : ImageTables) (image : Image) (c : ℕ) → IsRepairable tables image → c < max_file_length
    → 1 < uses_of_kind Fixed (image_uses tables image) c → ⊥
fixed-once tables image c is below twice =
    let uses = image_uses tables image in
    let apart : is_shared uses c ≡ false = is.apart c below in
    omega (arith, twice, (excludes uses c apart).0 (omega (arith, twice)), uses_by_kind uses c)

-- so the refcount table lies in no L2 table
reftable-outside-l2 : (tables : ImageTables) (image : Image) (o : ℕ) → IsRepairable tables image → IsInReftable tables.header o
    → IsOutsideL2Tables tables.header tables.l1 o
reftable-outside-l2 tables image o is within table names here =
    let uses = image_uses tables image in
    let apart : is_shared uses table.0 ≡ false = is.apart table.0 (named-below _ _ table names.1) in
    let of_table = rw here at (cluster-of-reftable tables.header o is.bits.0 within) in
    let fixed = header-used tables image table.0 (reftable-used tables.header table.0 of_table) in
    grind (arith, nat_tests, excludes uses table.0 apart, uses_by_kind uses table.0, named-used tables image names.0 table names.1, fixed)

-- in no block
reftable-outside-blocks : (tables : ImageTables) (image : Image) (o : ℕ) → IsRepairable tables image → IsInReftable tables.header o → IsOutsideBlocks tables o
reftable-outside-blocks tables image o is within i block names here =
    let of_table = rw here at (cluster-of-reftable tables.header o is.bits.0 within) in
    let one = reftable-used tables.header block.0 of_table in
    let other = blocks-used tables.header.v2.cluster_bits tables.reftable i block names in
    fixed-once tables image block.0 is (named-block-below tables i block is.placed names) (omega (arith, one, other, fixed-both tables image block.0))

-- not in the L1 table
reftable-outside-tables : (tables : ImageTables) (image : Image) (o : ℕ) → IsRepairable tables image → IsInReftable tables.header o → o < max_file_length
    → IsOutsideTables tables.header tables.l1 o
reftable-outside-tables tables image o is within below = record {
  l1_table = elim (cases_lt o (first * w)) [
    | inl less ↦ inl less
    | inr from ↦ elim (cases_lt o (first * w + 8 * header.v2.l1_size)) [
      | inl before ↦ absurd (both from before)
      | inr past ↦ inr past
    ]
  ];
  l2_tables = reftable-outside-l2 tables image o is within;
}
  where
    header : HeaderRecord
    header = tables.header

    w : ℕ
    w = 2 ^ tables.header.v2.cluster_bits

    first : ℕ
    first = (l1_cluster tables.header).0

    both : first * w ≤ o → o < first * w + 8 * tables.header.v2.l1_size → ⊥
    both from before =
        let c = o / 2 ^ tables.header.v2.cluster_bits in
        let count = div_ceil (8 * tables.header.v2.l1_size) w in
        let fits : 8 * tables.header.v2.l1_size ≤ count * w = (div_ceil_times (8 * tables.header.v2.l1_size) w (pow_pos tables.header.v2.cluster_bits)).0 in
        let low : first ≤ c = (le-div_iff_mul-le (pow_pos tables.header.v2.cluster_bits)).1 from in
        let high : c < first + count = (div-lt_iff_lt-mul (pow_pos tables.header.v2.cluster_bits)).1 (omega (arith, before, fits)) in
        let twice = l1-reftable-used tables.header c (cluster-of-reftable tables.header o is.bits.0 within) low high in
        fixed-once tables image c is (omega (arith, below, div-le_self o w)) (omega (arith, twice, fixed-both tables image c))

-- and not in the first cluster
reftable-past-first : (tables : ImageTables) (image : Image) (o : ℕ) → IsRepairable tables image → IsInReftable tables.header o
    → o / 2 ^ tables.header.v2.cluster_bits ≢ 0
reftable-past-first tables image o is within first =
    let of_table = rw first at (cluster-of-reftable tables.header o is.bits.0 within) in
    let twice = first-reftable-used tables.header of_table in
    fixed-once tables image 0 is (omega arith) (omega (arith, twice, fixed-both tables image 0))

-- a refcount table that loads ends by the greatest end
reftable-below : (header : HeaderRecord) (o : ℕ) → place_fault (reftable_layout header) (reftable_cluster header) ≡ None → IsInReftable header o → o < max_file_length
reftable-below header o place within = grind (arith, nat_tests, place, within.before)

-- it loads where its bytes stay
reftable-stays : (header : HeaderRecord) (reftable : List ℕ) (old new : Image) → loaded_reftable header old ≡ Ok reftable
    → ((o : ℕ) → IsInReftable header o → o < max_file_length → new o ≡ old o) → loaded_reftable header new ≡ Ok reftable
reftable-stays header reftable old new loads stay =
    let layout = reftable_layout header in
    let cluster = reftable_cluster header in
    let is = loaded-parts layout cluster old reftable loads in
    let same : numbers_at layout cluster new ≡ numbers_at layout cluster old = table_numbers_same new old _ _ layout.count (λ k below.
    let within : IsInReftable header (offset_of layout cluster + k) = record { from = omega arith; before = omega (arith, below) } in
    stay (offset_of layout cluster + k) within (reftable-below header _ is.place within)) in
    parts-loaded layout cluster new reftable (record { place = is.place; valid = rw same is.valid; are = same ∙ is.are })

-- the L1 table of an image loads, and its refcount table is this
record TablesLoad (header : HeaderRecord) (reftable : List ℕ) (image : Image) : Type 0 where
  l1_loads : loaded_l1_table header image ≡ Ok (l1_in header image)
  reftable_loads : loaded_reftable header image ≡ Ok reftable

-- so it is after a pass over flags
flags-load : (header : HeaderRecord) (reftable : List ℕ) (flag : Bool) (old new : Image) → IsRepairable (tables_in header reftable old) old
    → PassesFlags (pass_all (tables_in header reftable old) old flag) old new → TablesLoad header reftable old → TablesLoad header reftable new
flags-load header reftable flag old new is passes loads =
    let tables = tables_in header reftable old in
    let old_l1 = loaded-parts (l1_layout header) (l1_cluster header) old (l1_in header old) loads.l1_loads in
    let valid : first_fault (l1_fault header.v2.cluster_bits) (l1_in header new) ≡ None =
    ap (first_fault (l1_fault header.v2.cluster_bits)) passes.l1_table ∙ l1-valid (pass_all tables old flag) (l1_in header old) old_l1.valid in
    record {
      l1_loads = parts-loaded (l1_layout header) (l1_cluster header) new (l1_in header new) (record { place = old_l1.place; valid = valid; are = refl });
      reftable_loads = reftable-stays header reftable old new loads.reftable_loads (λ o within below. passes.others o (reftable-outside-tables tables old o is within below));
    }

-- after one over counters
counters-load : (header : HeaderRecord) (reftable : List ℕ) (old new : Image) → IsRepairable (tables_in header reftable old) old
    → ((o : ℕ) → IsOutsideBlocks (tables_in header reftable old) o → new o ≡ old o) → TablesLoad header reftable old → TablesLoad header reftable new
counters-load header reftable old new is others loads =
    let tables = tables_in header reftable old in
    let l1 : l1_in header new ≡ l1_in header old = l1-stays tables old new is others in
    record {
      l1_loads = rw l1 loads.l1_loads;
      reftable_loads = reftable-stays header reftable old new loads.reftable_loads (λ o within below. others o (reftable-outside-blocks tables old o is within));
    }

-- after the header is made writable
written-load : (header written : HeaderRecord) (tables : ImageTables) (old mid : Image) → IsValidHeader header → IsBytes old
    → repairable_tables header old ≡ Ok tables → MakesWritable header written old mid → TablesLoad written tables.reftable mid
written-load header written tables old mid valid bytes is makes =
    let here = found-repairable header old tables valid.cluster_bits valid.refcount_order bytes is in
    let says : SaysSame header written = writable-same header written makes.becomes in
    let found = checked-found header old tables is in
    let kept : loaded_reftable header mid ≡ Ok tables.reftable = reftable-stays header tables.reftable old mid found.reftable
    (λ o within below. past-first (2 ^ header.v2.cluster_bits) (length (opened_text true (Ok header))) o old mid (text-fits header) makes.others
    (reftable-past-first (image_tables header tables.l1 tables.reftable) old o here within)) in
    record {
      l1_loads = loads-written header written tables _ old mid says is here makes.others (text-fits header);
      reftable_loads = subst (λ v2. loaded_reftable (record written { v2 = v2 }) mid ≡ Ok tables.reftable) (sym says.v2) kept;
    }

-- and after all passes
repaired-load : (header : HeaderRecord) (reftable : List ℕ) (old new : Image) → IsRepairable (tables_in header reftable old) old
    → Repairs header reftable old new → TablesLoad header reftable old → TablesLoad header reftable new
repaired-load header reftable old new is repair loads =
    let all = stages header reftable old new repair is in
    flags-load header reftable true repair.lowered new all.three.is repair.sets
    (counters-load header reftable repair.raised repair.lowered all.two.is repair.lowers.others
    (counters-load header reftable repair.cleared repair.raised all.one.is repair.raises.others
    (flags-load header reftable false old repair.cleared is repair.clears loads)))

-- tables that load, and whose blocks and L2 tables do, can be checked
load-checked : (header : HeaderRecord) (reftable : List ℕ) (image : Image) → option_map Uncounted (uncounted_part header) ≡ None
    → IsRepairable (tables_in header reftable image) image → TablesLoad header reftable image → checked_tables header image ≡ Ok (tables_in header reftable image)
load-checked header reftable image counted is loads = rw (counted, loads.l1_loads, loads.reftable_loads, is.placed, is.loads) refl

-- also after marks are cleared
cleared-load : (header left : HeaderRecord) (reftable : List ℕ) (old new : Image) → IsRepairable (tables_in header reftable old) old
    → ClearsMarks header left old new → TablesLoad header reftable old → TablesLoad (without_marks header) reftable new
cleared-load header left reftable old new is clears loads =
    let tables = tables_in header reftable old in
    let outside = within-first old new clears.others in
    let fits = field-fits header.v2.cluster_bits is.bits in
    let old_l1 = loaded-parts (l1_layout header) (l1_cluster header) old (l1_in header old) loads.l1_loads in
    let l1 : l1_in header new ≡ l1_in header old = first-l1-stays tables old new 80 is outside fits in
    let valid : first_fault (l1_fault header.v2.cluster_bits) (l1_in header new) ≡ None =
    ap (first_fault (l1_fault header.v2.cluster_bits)) l1 ∙ old_l1.valid in
    record {
      l1_loads = parts-loaded (l1_layout header) (l1_cluster header) new (l1_in header new) (record { place = old_l1.place; valid = valid; are = refl });
      reftable_loads = reftable-stays header reftable old new loads.reftable_loads (λ o within below.
          past-first (2 ^ header.v2.cluster_bits) 80 o old new fits outside (reftable-past-first tables old o is within));
    }

-- a header without marks has the same part that isn't counted
uncounted-unmarked : (header : HeaderRecord) → uncounted_part (without_marks header) ≡ uncounted_part header
unfolding uncounted_part
uncounted-unmarked header = refl

-- an image that can be checked before the end of a repair can be after it
ended-checked : (nothing : Bool) (header left : HeaderRecord) (reftable : List ℕ) (old new : Image) → option_map Uncounted (uncounted_part header) ≡ None
    → IsRepairable (tables_in header reftable old) old → TablesLoad header reftable old → EndsMarks nothing header left old new
    → checked_tables left new ≡ Ok (tables_in left reftable new)
ended-checked false header left reftable old new counted is loads ends = rw (ends.0, ends.1) (load-checked header reftable old counted is loads)
ended-checked true header left reftable old new counted is loads ends =
    rw ends.becomes (load-checked (without_marks header) reftable new (ap (option_map Uncounted) (uncounted-unmarked header) ∙ counted) (repairable-cleared header left reftable old new is ends)
    (cleared-load header left reftable old new is ends loads))

-- a repaired image can be checked
pub checkable-repaired : (nothing : Bool) (header written left : HeaderRecord) (tables : ImageTables) (old passed new : Image) → IsValidHeader header
    → IsBytes old → HasPassed header written tables old passed → EndsMarks nothing written left passed new
    → checked_tables left new ≡ Ok (tables_in left tables.reftable new)
checkable-repaired nothing header written left tables old passed new valid bytes has ends =
    let mid = has.0 in
    let is = has.1 in
    let makes = has.2 in
    let repair = has.3 in
    let start = repairable-found-written header written tables old mid valid bytes is makes in
    let says : SaysSame header written = writable-same header written makes.becomes in
    let counted = uncounted-none header written says (checked-found header old tables is).counted in
    ended-checked nothing written left tables.reftable passed new counted (stages written tables.reftable mid passed repair start).four.is
    (repaired-load written tables.reftable mid passed start repair (written-load header written tables old mid valid bytes is makes)) ends
