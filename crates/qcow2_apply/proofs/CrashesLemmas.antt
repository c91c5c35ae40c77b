use Rattle.std.proofs.Common.{◌≡◌, ◌⊎◌, ◌==◌, ℕ, false, true, ◌+◌, ◌-◌, ◌*◌, ◌/◌, ◌%◌, ◌^◌, ◌<◌, ◌≤◌, List, [], ◌∷◌, length, map, slice_index, slice_set, Option, None, Some, option_to_list, ap, le-leb, length-set, mod-lt, pow-add, pow_pos, refl, subst, sym, ◌∙◌, inl, inr, arith}
use Rattle.std.proofs.Math.Nat.{div-div-eq-div-mul}
use Rattle.std.proofs.lemmas.Bool.{cases_eq, cases_lt, lt-leb}
use Rattle.std.proofs.lemmas.Bool.Decides.{nat_tests}
use Rattle.std.proofs.lemmas.Grind.{same_number_lists}
use Rattle.std.proofs.lemmas.List.{get_or-set_other, get_or-set_same, get_or_past}
use Rattle.std.proofs.lemmas.List.FromFn.{get_or-map-range_with_len}
use Rattle.std.proofs.lemmas.List.Sums.{sum_by-append, sum_by-set}
use Rattle.std.proofs.lemmas.Nat.{div-mul-add}
use Rattle.std.specs.List.{list_all}
use Rattle.qcow2_base.proofs.StorageLemmas.{be_of_same}
use Rattle.qcow2_base.specs.Bits.{field}
use Rattle.qcow2_base.specs.Storage.{Image, SameOutside, be}
use Rattle.qcow2_base.specs.Types.{IsClusterBits}
use Rattle.qcow2_base.specs.declared.types.HostCluster.{HostCluster}
use Rattle.qcow2_edits.specs.Edits.{table_edit}
use Rattle.qcow2_metadata.proofs.L2GuardsLemmas.{balance-entry}
use Rattle.qcow2_metadata.proofs.TableLemmas.{full_cluster, length-table_numbers}
use Rattle.qcow2_metadata.specs.Header.{Geometry, HeaderRecord, IsValidHeader, geometry_of, uses_external_data}
use Rattle.qcow2_metadata.specs.Placed.{numbers_at}
use Rattle.qcow2_metadata.specs.Refblock.Packing.{bytes_each, counter_at, per_byte, width}
use Rattle.qcow2_metadata.specs.Table.{l2_entries, l2_layout}
use Rattle.qcow2_metadata.specs.Table.L2Guards.{TableEdit, after_edit, can_be_made, cluster_gained_by, entry_after, fits_table, one_if, references, run_of, times_gained}
use Rattle.qcow2_metadata.specs.Entries.L2Entry.{meets}
use Rattle.qcow2_check.specs.Counters.{counters_each}
use Rattle.qcow2_check.specs.NamedTables.{named_cluster}
use Rattle.qcow2_check.specs.Uses.{ImageTables, l1_entry_uses, uses_of}
use Rattle.qcow2_apply.proofs.ApplyLemmas.{counters-cleared, table-cleared}
use Rattle.qcow2_apply.proofs.CounterTablesLemmas.{block-of, counter-here}
use Rattle.qcow2_apply.proofs.BooksLemmas.{fit-mapped, l1-entry-is, table-refers, uses-same, uses-within}
use Rattle.qcow2_apply.proofs.BrokenLemmas.{BeginsPlan, gains-keep, losses-keep, table-before, tables-keep}
use Rattle.qcow2_apply.proofs.PlannedTablesLemmas.{run-at}
use Rattle.qcow2_apply.proofs.TablesLemmas.{edits-made}
use Rattle.qcow2_apply.specs.Apply.{AreAllApart, KeepDistance, plan_tables}
use Rattle.qcow2_apply.specs.CounterTables.{CounterTablesState, Follows, HasCounter, counter_of_cluster}
use Rattle.qcow2_apply.specs.Blocks.{FollowsSome}
use Rattle.qcow2_apply.specs.Crashes.{CrashesApplying, CrashesInPlan, IsSameSector, MixesSectors, WhileGainsAreCounted, WhileLossesAreCounted, WhileTablesAreEdited}
use Rattle.qcow2_apply.specs.GuestEdits.{edits_in}
use Rattle.qcow2_apply.specs.Plan.{IsPlanFor, IsPlanOf}
use Rattle.qcow2_apply.specs.PlannedTables.{counter_tables, gained_at, run_gains}
use Rattle.qcow2_apply.specs.Tables.{AllFit, IsEdited, run_in}
use Rattle.qcow2_apply.specs.declared.changes.Changes.{Changes}
use Rattle.qcow2_apply.specs.declared.guest_edits.GuestEdit.{GuestEdit}
use Rattle.qcow2_apply.specs.declared.plan.Plan.{Plan}

-- the bytes of a unit, of which several fill a sector, lie in one sector
unit-sector : (w m q j : ℕ) → w * m ≡ 512 → j < w → (q * w + j) / 512 ≡ q / m
unit-sector w m q j whole below =
    ap (λ size. (q * w + j) / size) (sym whole) ∙ sym (div-div-eq-div-mul (q * w + j) w m) ∙ ap (λ n. n / m) (div-mul-add q w j below)

-- what is read of an image is read of one sector
record IsOfSector (read : Image → ℕ) : Type 0 where
  sector : ℕ
  same : (a b : Image) → IsSameSector sector a b → read b ≡ read a

-- so of sectors of two images it is what is read of one or of the other
either-read : (read : Image → ℕ) (old new mixed : Image) → IsOfSector read → MixesSectors old new mixed
    → (read mixed ≡ read old) ⊎ (read mixed ≡ read new)
either-read read old new mixed of mixes = elim (mixes of.sector) [
  | inl same ↦ inl (of.same old mixed same)
  | inr same ↦ inr (of.same new mixed same)
]

-- what is read in another way
read-as : (read other : Image → ℕ) → ((image : Image) → read image ≡ other image) → IsOfSector other → IsOfSector read
read-as read other is of = record { sector = of.sector; same = λ a b same. is b ∙ of.same a b same ∙ sym (is a) }

-- a byte, or a part of it
byte-of-sector : (part : ℕ → ℕ) (at : ℕ) → IsOfSector (λ image. part (image at))
byte-of-sector part at = record { sector = at / 512; same = λ a b same. ap part (same at refl) }

-- a big-endian number, of which several fill a sector
number-of-sector : (w m q : ℕ) → w * m ≡ 512 → IsOfSector (λ image. be image (q * w) w)
number-of-sector w m q whole = record {
  sector = q / m;
  same = λ a b same. be_of_same b a w (q * w) (q * w) (λ k below. same (q * w + k) (unit-sector w m q k whole below));
}

-- an entry of a table, which is 0 past its end
entry-of-sector : (g : Geometry) (table : HostCluster) (k : ℕ) → 9 ≤ g.cluster_bits
    → IsOfSector (λ image. slice_index (numbers_at (l2_layout g) table image) k)
entry-of-sector g table k least =
    let n = l2_entries g.cluster_bits in
    let begin = table.0 * 2 ^ g.cluster_bits in
    elim (cases_lt k n) [
      | inl below ↦
          let full = ap (λ size. table.0 * size) (full_cluster g.cluster_bits least) in
          let at : begin + 8 * k ≡ (table.0 * n + k) * 8 = omega (arith, full) in
          read-as _ (λ image. be image ((table.0 * n + k) * 8) 8)
          (λ image. get_or-map-range_with_len (λ i. be image (begin + 8 * i) 8) 0 n k k 0 below (omega arith) ∙ ap (λ o. be image o 8) at)
          (number-of-sector 8 64 (table.0 * n + k) refl)
      | inr past ↦ read-as _ (λ image. 0)
          (λ image. get_or_past (numbers_at (l2_layout g) table image) k 0 (omega (arith, length-table_numbers image begin n, past)))
          (record { sector = 0; same = λ a b same. refl })
    ]

-- a counter of a block
packed-of-sector : (order cb block k : ℕ) → 9 ≤ cb → order ≤ 6 → IsOfSector (λ image. counter_at order image (block * 2 ^ cb) k)
packed-of-sector order cb block k least orders = elim (cases_lt order 4) [
  | inl less ↦
      let digit = λ (byte : ℕ). field byte (width order * (k % per_byte order)) (width order) in
      read-as _ (λ image. digit (image (block * 2 ^ cb + k / per_byte order))) (λ image. rw (le-leb order 3 (omega (arith, less))) refl)
      (byte-of-sector digit (block * 2 ^ cb + k / per_byte order))
  | inr wide ↦
      let w = bytes_each order in
      let t = 2 ^ (cb - (order - 3)) in
      let sum : order - 3 + (9 - (order - 3)) ≡ 9 = omega (arith, orders) in
      let sum' : order - 3 + (cb - (order - 3)) ≡ cb = omega (arith, orders, least) in
      let whole : w * 2 ^ (9 - (order - 3)) ≡ 512 = sym (pow-add 2 (order - 3) (9 - (order - 3))) ∙ ap (λ n. 2 ^ n) sum in
      let cut : w * t ≡ 2 ^ cb = sym (pow-add 2 (order - 3) (cb - (order - 3))) ∙ ap (λ n. 2 ^ n) sum' in
      let full = ap (λ size. block * size) cut in
      let at : block * 2 ^ cb + w * k ≡ (block * t + k) * w = omega (arith, full) in
      read-as _ (λ image. be image ((block * t + k) * w) w) (λ image. rw (lt-leb order 3 wide) (ap (λ o. be image o w) at))
      (number-of-sector w (2 ^ (9 - (order - 3))) (block * t + k) whole)
]

-- the counter of a cluster
counter-of-sector : (tables : CounterTablesState) (c : ℕ) → IsClusterBits tables.header.v2.cluster_bits → tables.header.base.refcount_order ≤ 6
    → HasCounter tables c → IsOfSector (λ image. counter_of_cluster tables image c)
counter-of-sector tables c bits orders has =
    let cb = tables.header.v2.cluster_bits in
    let order = tables.header.base.refcount_order in
    let n = counters_each tables.header in
    let found = block-of tables c has in
    let below : c % n < n = mod-lt c (pow_pos _) in
    read-as _ (λ image. counter_at order image (found.0.0 * 2 ^ cb) (c % n))
    (λ image. counter-here tables found.0 image c found.1
    ∙ get_or-map-range_with_len (counter_at order image (found.0.0 * 2 ^ cb)) 0 n (c % n) (c % n) 0 below (omega arith))
    (packed-of-sector order cb found.0.0 (c % n) bits.0 orders)

-- a byte that is in both images is in a mix of their sectors
mix-keeps : (old new mixed : Image) (o : ℕ) → MixesSectors old new mixed → new o ≡ old o → mixed o ≡ old o
mix-keeps old new mixed o mixes same = elim (either-read (λ image. image o) old new mixed (byte-of-sector (λ byte. byte) o) mixes) [
  | inl kept ↦ kept
  | inr other ↦ other ∙ same
]

-- so of sectors from before and after some counters followed changes, some counters did
mix-follows : (tables : CounterTablesState) (changes : Changes) (old new mixed : Image) → IsClusterBits tables.header.v2.cluster_bits
    → tables.header.base.refcount_order ≤ 6 → FollowsSome tables changes old new → MixesSectors old new mixed → FollowsSome tables changes old mixed
mix-follows tables changes old new mixed bits orders some mixes = record {
  counters = λ c has. elim (either-read (λ image. counter_of_cluster tables image c) old new mixed (counter-of-sector tables c bits orders has) mixes) [
    | inl same ↦ inl same
    | inr same ↦ elim (some.counters c has) [
      | inl kept ↦ inl (same ∙ kept)
      | inr followed ↦ inr (subst (λ counter. Follows changes c (counter_of_cluster tables old c) counter) (sym same) followed)
    ]
  ];
  others = λ o outside. mix-keeps old new mixed o mixes (some.others o outside);
}

-- the first of some edits that all fit a table can be made of it, and so can the others
first-fits : (g : Geometry) (count : ℕ) (e : TableEdit) (edits : List TableEdit) → list_all (fits_table g count) (e ∷ edits) ≡ true
    → (e.index < count) × (can_be_made g e.edit ≡ true) × (list_all (fits_table g count) edits ≡ true)
first-fits g count e edits fit = grind (arith, nat_tests)

-- where a list takes some entries from what edits leave, each in the place of the number that they begin with there, it refers to a
-- cluster more often by what they give at most
pub part-of-run : (g : Geometry) (count : ℕ) (edits : List TableEdit) (numbers begun part : List ℕ) (c : ℕ) → IsClusterBits g.cluster_bits
    → list_all (fits_table g count) edits ≡ true → length numbers ≡ count → length begun ≡ count → length part ≡ count
    → ((k : ℕ) → (slice_index part k ≡ slice_index begun k)
    ⊎ ((slice_index begun k ≡ slice_index numbers k) × (slice_index part k ≡ slice_index (run_of g edits numbers).numbers k)))
    → references g part c ≤ references g begun c + times_gained (run_of g edits numbers).gained c
part-of-run g count [] numbers begun part c bits fit full long whole each =
    let same : part ≡ begun = same_number_lists part begun (whole ∙ sym long) (λ k below. elim (each k) [
      | inl kept ↦ kept
      | inr both ↦ both.1 ∙ sym both.0
    ]) in
    omega (arith, ap (λ list. references g list c) same)
part-of-run g count (e ∷ edits) numbers begun part c bits fit full long whole each =
    let v = slice_index numbers e.index in
    let w = entry_after g e.edit v in
    let next = after_edit g e numbers in
    let rest = run_of g edits next in
    let first = first-fits g count e edits fit in
    let length-next : length next ≡ count = length-set numbers e.index w ∙ full in
    let gains = sum_by-append (λ (d : ℕ). one_if (d == c)) (option_to_list (cluster_gained_by g e.edit v)) rest.gained in
    elim (each e.index) [
      | inl kept ↦
          let more = part-of-run g count edits next begun part c bits first.2 length-next long whole (λ k. elim (cases_eq k e.index) [
            | inl here ↦ inl (subst (λ j. slice_index part j ≡ slice_index begun j) (sym here) kept)
            | inr differs ↦ elim (each k) [
              | inl same ↦ inl same
              | inr both ↦ inr (both.0 ∙ sym (get_or-set_other numbers e.index k w 0 differs), both.1)
            ]
          ]) in
          omega (arith, more, gains)
      | inr taken ↦
          let begun' = slice_set begun e.index w in
          let more = part-of-run g count edits next begun' part c bits first.2 length-next (length-set begun e.index w ∙ long) whole (λ k. elim (cases_eq k e.index) [
            | inl here ↦ inr (
              subst (λ j. slice_index begun' j ≡ slice_index next j) (sym here)
                  (get_or-set_same begun e.index w 0 (omega (arith, first.0, long)) ∙ sym (get_or-set_same numbers e.index w 0 (omega (arith, first.0, full)))),
              subst (λ j. slice_index part j ≡ slice_index rest.numbers j) (sym here) taken.1,
            )
            | inr differs ↦ elim (each k) [
              | inl same ↦ inl (same ∙ sym (get_or-set_other begun e.index k w 0 differs))
              | inr both ↦ inr (get_or-set_other begun e.index k w 0 differs ∙ both.0 ∙ sym (get_or-set_other numbers e.index k w 0 differs), both.1)
            ]
          ]) in
          let entry = balance-entry g e.edit v c bits first.1 in
          let table = sum_by-set (λ (x : ℕ). one_if (meets g x c)) begun e.index w 0 (omega (arith, first.0, long)) in
          let was = ap (λ x. one_if (meets g x c)) taken.0 in
          omega (arith, more, gains, entry, table, was)
    ]

-- each entry of a table is the old one or the one that edits leave
abbrev pub HasOldOrNewEntries : HeaderRecord → List GuestEdit → ℕ → List ℕ → List ℕ → Type 0
HasOldOrNewEntries header edits i old mixed = (k : ℕ) → (slice_index mixed k ≡ slice_index old k)
    ⊎ (slice_index mixed k ≡ slice_index (run_in header (edits_in header.v2.cluster_bits i edits) old).numbers k)

-- then its L1 entry uses a cluster at most as often as before and as edits give
entry-mixed : (tables : ImageTables) (edits : List GuestEdit) (old mixed : Image) (c i : ℕ) → IsClusterBits tables.header.v2.cluster_bits
    → uses_external_data tables.header ≡ false → AllFit tables.header edits
    → ((table : HostCluster) → named_cluster tables.header.v2.cluster_bits (slice_index tables.l1 i) ≡ Some table
    → HasOldOrNewEntries tables.header edits i (numbers_at (l2_layout (geometry_of tables.header)) table old) (numbers_at (l2_layout (geometry_of tables.header)) table mixed))
    → uses_of (l1_entry_uses (geometry_of tables.header) mixed (slice_index tables.l1 i)) c
    ≤ uses_of (l1_entry_uses (geometry_of tables.header) old (slice_index tables.l1 i)) c + gained_at tables edits old c i
entry-mixed tables edits old mixed c i bits own fit either = by_table (named_cluster tables.header.v2.cluster_bits (slice_index tables.l1 i)) refl
  where
    g : Geometry
    g = geometry_of tables.header

    by_table : (found : Option HostCluster) → named_cluster tables.header.v2.cluster_bits (slice_index tables.l1 i) ≡ found
        → uses_of (l1_entry_uses g mixed (slice_index tables.l1 i)) c ≤ uses_of (l1_entry_uses g old (slice_index tables.l1 i)) c + gained_at tables edits old c i
    by_table None is = omega (
      arith,
      ap (λ uses. uses_of uses c) (l1-entry-is g mixed (slice_index tables.l1 i) None is),
      ap (λ uses. uses_of uses c) (l1-entry-is g old (slice_index tables.l1 i) None is),
    )
    by_table (Some table) is =
        let header = tables.header in
        let list = edits_in header.v2.cluster_bits i edits in
        let n = l2_entries header.v2.cluster_bits in
        let before = numbers_at (l2_layout g) table old in
        let after = numbers_at (l2_layout g) table mixed in
        let full : length before ≡ n = length-table_numbers old _ n in
        let part = part-of-run g n (map table_edit list) before before after c bits (fit-mapped header n list refl (edits-made header i edits fit))
        full full (length-table_numbers mixed _ n) (λ k. elim (either table is k) [ inl same ↦ inl same | inr edited ↦ inr (refl, edited) ]) in
        omega (
          arith,
          part,
          ap (λ end. run_gains end c) (run-at tables edits old i (Some table) is),
          ap (λ uses. uses_of uses c) (l1-entry-is g old (slice_index tables.l1 i) (Some table) is),
          ap (λ uses. uses_of uses c) (l1-entry-is g mixed (slice_index tables.l1 i) (Some table) is),
          table-refers g table old c own,
          table-refers g table mixed c own,
        )

-- a crash while edits are made leaves each counter at least as far above the uses of its cluster as before
crash-keeps : (header : HeaderRecord) (edits : List GuestEdit) (plan : Plan) (old cleared crashed : Image) → BeginsPlan header edits plan old cleared
    → CrashesApplying (plan_tables header plan) edits plan.gains plan.losses cleared crashed → KeepDistance (plan_tables header plan) old crashed
crash-keeps header edits plan old cleared crashed is (WhileGainsAreCounted counted some mixes) =
    gains-keep header edits plan old cleared crashed is
    (mix-follows (counter_tables (plan_tables header plan)) plan.gains cleared counted crashed is.valid.cluster_bits is.valid.refcount_order some mixes)
crash-keeps header edits plan old cleared crashed is (WhileTablesAreEdited gained edited first second mixes) =
    let tables = plan_tables header plan in
    let g = geometry_of tables.header in
    tables-keep header edits plan old cleared gained crashed is first
    (λ o outside. mix-keeps gained edited crashed o mixes (second.others o outside))
    (λ c. uses-within tables edits old crashed c (λ i. entry-mixed tables edits old crashed c i is.valid.cluster_bits is.fits.no_data_file is.fits.fit
    (λ table names k.
    let before = table-before header edits plan old cleared gained i table is first.others names in
    elim (either-read (λ image. slice_index (numbers_at (l2_layout g) table image) k) gained edited crashed (entry-of-sector g table k is.valid.cluster_bits.0) mixes) [
      | inl same ↦ inl (same ∙ ap (λ list. slice_index list k) before)
      | inr same ↦ elim (second.each i table names) [
        | inl kept ↦ inl (same ∙ ap (λ list. slice_index list k) (kept ∙ before))
        | inr changed ↦
            let left = subst (λ list. IsEdited tables.header edits i list (numbers_at (l2_layout g) table edited)) before changed in
            inr (same ∙ ap (λ list. slice_index list k) left)
      ]
    ])))
crash-keeps header edits plan old cleared crashed is (WhileLossesAreCounted gained edited counted first second some mixes) =
    losses-keep header edits plan old cleared gained edited crashed is first second
    (mix-follows (counter_tables (plan_tables header plan)) plan.losses edited counted crashed is.valid.cluster_bits is.valid.refcount_order some mixes)

-- and so does one before that
pub crash-keeps-distance : (header : HeaderRecord) (edits : List GuestEdit) (plan : Plan) (old crashed : Image) → IsValidHeader header
    → IsPlanFor header edits plan → IsPlanOf header edits old plan → CrashesInPlan header edits plan old crashed → AreAllApart (plan_tables header plan)
    → KeepDistance (plan_tables header plan) old crashed
crash-keeps-distance header edits plan old crashed valid for of crash apart = elim crash.leaves [
  | inl mixes ↦ λ c has.
      let tables = plan_tables header plan in
      let clears : SameOutside 88 8 old crashed = record {
        before = λ o before. mix-keeps old crash.cleared crashed o mixes (crash.clears.before o before);
        after = λ o after. mix-keeps old crash.cleared crashed o mixes (crash.clears.after o after);
      } in
      let uses = uses-same tables old crashed c (λ i table names. table-cleared tables old crashed i table valid.cluster_bits apart clears names) in
      let counter = counters-cleared tables old crashed valid.cluster_bits valid.refcount_order apart clears c has in
      omega (arith, uses, counter)
  | inr begun ↦ crash-keeps header edits plan old crash.cleared crashed
      (record { valid = valid; fits = for; plans = of; apart = apart; clears = crash.clears }) begun
]
