use Rattle.std.proofs.Common.{◌≡◌, ◌≢◌, ◌⊎◌, ℕ, Bool, true, false, suc, ◌*◌, ◌/◌, ◌<◌, ◌≤◌, List, [], ◌∷◌, flat_map, length, slice_index, Option, Some, None, ap, refl, sym, ◌∙◌, inl, inr, add-zero, arith}
use Rattle.std.proofs.lemmas.Bool.Decides.{nat_tests}
use Rattle.std.proofs.lemmas.Nat.{div-mul-add, pow_pos}
use Rattle.qcow2_base.specs.Format.{max_file_length}
use Rattle.qcow2_base.specs.Storage.{Image}
use Rattle.qcow2_base.specs.Types.{IsClusterBits}
use Rattle.qcow2_base.specs.declared.fault.Fault.{Fault}
use Rattle.qcow2_base.specs.declared.fault.Fault.TheVariants.{Storage}
use Rattle.qcow2_base.specs.declared.types.HostCluster.{HostCluster}
use Rattle.qcow2_metadata.specs.Header.{HeaderRecord, geometry_of}
use Rattle.qcow2_check.specs.Counters.{block_of_cluster, counters_each}
use Rattle.qcow2_check.specs.NamedTables.{named_cluster}
use Rattle.qcow2_check.specs.Tally.{ClusterUse, used_clusters}
use Rattle.qcow2_check.specs.Uses.{ImageTables, entry_uses, image_uses, l1_entry_uses, uses_of}
use Rattle.qcow2_check.specs.declared.tally.TallyKind.TheVariants.{L2Table}
use Rattle.qcow2_repair.proofs.CountersLemmas.{ChangesBlock, changes-block, counter-elsewhere, others-stay}
use Rattle.qcow2_repair.proofs.FlagWindowsLemmas.{named-passed}
use Rattle.qcow2_repair.proofs.FlagsLemmas.{outside-stays}
use Rattle.qcow2_repair.proofs.RepairLemmas.{repairable-stays}
use Rattle.qcow2_repair.proofs.PassesLemmas.{entry-uses-passed, uses-by}
use Rattle.qcow2_repair.proofs.StagesLemmas.{KeepsUses, counters-kept, counters-step, flags-step, stages, uncounted-none}
use Rattle.qcow2_repair.specs.Repair.{BreaksOffCounters, BreaksOffRepair, Clears, IsRepairable, Repairs, tables_in}
use Rattle.qcow2_repair.specs.Counters.{BreaksOff, IsEitherCounter, IsOutsideBlocks, PassesCounters, TearsBlock, counter_in, counter_towards}
use Rattle.qcow2_repair.specs.Flags.{BreaksOffFlags, FlagPassState, IsBetween, IsOutsideTables, PassesSomeFlags, TearsTable, l1_in, l2_in, pass_all, passed_l1, passed_l2}
use Rattle.qcow2_repair.specs.Left.{IsHighEnough, LeavesCounterWhole, LeavesWhole, MakesNoneTooLow, MakesNoneTooLowBeside}
use Rattle.qcow2_repair.specs.declared.counters.CounterPass.{CounterPass}
use Rattle.qcow2_repair.specs.declared.counters.CounterPass.TheVariants.{Fall, Rise}

-- a counter that was high enough is so after a pass
enough-after : (pass : CounterPass) (uses counter : ℕ) → uses ≤ counter → uses ≤ counter_towards pass uses counter
enough-after Rise uses counter enough = grind (arith, nat_tests, enough)
enough-after Fall uses counter enough = grind (arith, nat_tests, enough)

still : (u v n m : ℕ) → v ≡ u → m ≡ n → u ≤ n → v ≤ m
still u v n m uses counter enough = omega (arith, uses, counter, enough)

-- it stays high enough where the uses stay, and it is the old one or that after a pass
enough-still : (header : HeaderRecord) (reftable : List ℕ) (pass : CounterPass) (old new : Image) (c : ℕ)
    → image_uses (tables_in header reftable new) new ≡ image_uses (tables_in header reftable old) old
    → IsEitherCounter (tables_in header reftable old) pass c old new → IsHighEnough header reftable c old → IsHighEnough header reftable c new
enough-still header reftable pass old new c kept (inl same) enough = still _ _ _ _ (ap (λ uses. uses_of uses c) kept) same enough
enough-still header reftable pass old new c kept (inr passed) enough = still _ _ _ _ (ap (λ uses. uses_of uses c) kept) passed (enough-after pass _ _ enough)

-- so it does over a pass over counters
counters-enough : (header : HeaderRecord) (reftable : List ℕ) (pass : CounterPass) (old new : Image) → IsRepairable (tables_in header reftable old) old
    → PassesCounters (tables_in header reftable old) pass old new → MakesNoneTooLow header reftable old new
counters-enough header reftable pass old new is passes c below enough = by_block (block_of_cluster header reftable c) refl
  where
    kept : KeepsUses header reftable old new
    kept = counters-step header reftable old new is passes.others

    by_block : (found : Option HostCluster) → block_of_cluster header reftable c ≡ found → IsHighEnough header reftable c new
    by_block None none = enough-still header reftable pass old new c kept.uses
        (inl (uncounted-none (tables_in header reftable old) new c none ∙ sym (uncounted-none (tables_in header reftable old) old c none))) enough
    by_block (Some block) there = enough-still header reftable pass old new c kept.uses (inr (passes.passed c (omega arith) below (grind (arith, there)))) enough

-- and over one over flags
flags-enough : (header : HeaderRecord) (reftable : List ℕ) (old new : Image)
    → image_uses (tables_in header reftable new) new ≡ image_uses (tables_in header reftable old) old
    → ((c : ℕ) → counter_in (tables_in header reftable old) new c ≡ counter_in (tables_in header reftable old) old c)
    → MakesNoneTooLow header reftable old new
flags-enough header reftable old new kept same c below enough = enough-still header reftable Rise old new c kept (inl (same c)) enough

cleared-enough : (header : HeaderRecord) (reftable : List ℕ) (old new : Image) → IsRepairable (tables_in header reftable old) old
    → Clears header reftable old new → MakesNoneTooLow header reftable old new
cleared-enough header reftable old new is clears = flags-enough header reftable old new (flags-step header reftable false old new is clears).uses
    (λ c. counters-kept (tables_in header reftable old) old new c is clears.others)

pub enough-repaired : (header : HeaderRecord) (reftable : List ℕ) (old new : Image) (repair : Repairs header reftable old new)
    → IsRepairable (tables_in header reftable old) old
    → MakesNoneTooLow header reftable old repair.cleared × MakesNoneTooLow header reftable old repair.raised
    × MakesNoneTooLow header reftable old repair.lowered × MakesNoneTooLow header reftable old new
enough-repaired header reftable old new repair is =
    let all = stages header reftable old new repair is in
    let one = cleared-enough header reftable old repair.cleared is repair.clears in
    let two = counters-enough header reftable Rise repair.cleared repair.raised all.one.is repair.raises in
    let three = counters-enough header reftable Fall repair.raised repair.lowered all.two.is repair.lowers in
    let four = flags-enough header reftable repair.lowered new all.four.uses
    (λ c. counters-kept (tables_in header reftable repair.lowered) repair.lowered new c all.three.is repair.sets.others) in (
      one,
      λ c below enough. two c below (one c below enough),
      λ c below enough. three c below (two c below (one c below enough)),
      λ c below enough. four c below (three c below (two c below (one c below enough))),
    )

-- the same lists one after another
flat_map-each : (f h : ℕ → List ClusterUse) (xs ys : List ℕ) → length xs ≡ length ys
    → ((k : ℕ) → f (slice_index xs k) ≡ h (slice_index ys k)) → flat_map f xs ≡ flat_map h ys
flat_map-each f h [] [] count same = refl
flat_map-each f h [] (y ∷ ys) count same = absurd (omega (arith, count))
flat_map-each f h (x ∷ xs) [] count same = absurd (omega (arith, count))
flat_map-each f h (x ∷ xs) (y ∷ ys) count same = rw (same 0, flat_map-each f h xs ys (omega (arith, count)) (λ k. same (suc k))) refl

-- a table uses the same clusters where each of its entries is the old one or the passed one
table-uses-between : (pass : FlagPassState) (old new : List ℕ) → IsClusterBits pass.header.v2.cluster_bits → IsBetween (passed_l2 pass) old new
    → flat_map (entry_uses (geometry_of pass.header)) new ≡ flat_map (entry_uses (geometry_of pass.header)) old
table-uses-between pass old new bits between =
    flat_map-each (entry_uses (geometry_of pass.header)) (entry_uses (geometry_of pass.header)) new old between.count (λ k. at k (between.each k))
  where
    at : (k : ℕ) → (slice_index new k ≡ slice_index old k) ⊎ (slice_index new k ≡ passed_l2 pass (slice_index old k))
        → entry_uses (geometry_of pass.header) (slice_index new k) ≡ entry_uses (geometry_of pass.header) (slice_index old k)
    at k (inl same) = ap (entry_uses (geometry_of pass.header)) same
    at k (inr passed) = ap (entry_uses (geometry_of pass.header)) passed ∙ entry-uses-passed pass (slice_index old k) bits

names-between : (pass : FlagPassState) (v w : ℕ) → (w ≡ v) ⊎ (w ≡ passed_l1 pass v) → named_cluster pass.header.v2.cluster_bits w ≡ named_cluster pass.header.v2.cluster_bits v
names-between pass v w (inl same) = ap (named_cluster pass.header.v2.cluster_bits) same
names-between pass v w (inr passed) = ap (named_cluster pass.header.v2.cluster_bits) passed ∙ named-passed pass v

-- so the image uses the same clusters
uses-between : (header : HeaderRecord) (reftable : List ℕ) (flag : Bool) (old new : Image) → IsClusterBits header.v2.cluster_bits
    → PassesSomeFlags (pass_all (tables_in header reftable old) old flag) old new
    → image_uses (tables_in header reftable new) new ≡ image_uses (tables_in header reftable old) old
uses-between header reftable flag old new bits between =
    let pass = pass_all (tables_in header reftable old) old flag in
    let g = geometry_of header in
    let entry : (k : ℕ) → l1_entry_uses g new (slice_index (l1_in header new) k) ≡ l1_entry_uses g old (slice_index (l1_in header old) k) = λ k.
    let found = named_cluster header.v2.cluster_bits (slice_index (l1_in header old) k) in
    let now = names-between pass (slice_index (l1_in header old) k) (slice_index (l1_in header new) k) (between.l1_table.each k) in
    uses-by g _ _ old new found now refl (λ table names.
    let after : named_cluster header.v2.cluster_bits (slice_index (l1_in header new) k) ≡ Some table = now ∙ names in
    rw (l1_entry_uses, after, names) (ap (λ uses. used_clusters L2Table table 1 ∷ uses)
    (table-uses-between pass (l2_in header table old) (l2_in header table new) bits (between.l2_tables table (k, names))))) in
    let all : flat_map (l1_entry_uses g new) (l1_in header new) ≡ flat_map (l1_entry_uses g old) (l1_in header old)
    = flat_map-each (l1_entry_uses g new) (l1_entry_uses g old) (l1_in header new) (l1_in header old) between.l1_table.count entry in
    rw all refl

-- a part of a pass over flags makes no counter too low
flags-whole : (header : HeaderRecord) (reftable : List ℕ) (flag : Bool) (old new : Image) → IsRepairable (tables_in header reftable old) old
    → PassesSomeFlags (pass_all (tables_in header reftable old) old flag) old new → MakesNoneTooLow header reftable old new
flags-whole header reftable flag old new is some = flags-enough header reftable old new
    (uses-between header reftable flag old new is.bits some)
    (λ c. counters-kept (tables_in header reftable old) old new c is some.others)

-- nor does one over counters, of a cluster whose counter it left whole
counter-whole : (header : HeaderRecord) (reftable : List ℕ) (pass : CounterPass) (c : ℕ) (old new : Image) → IsRepairable (tables_in header reftable old) old
    → LeavesCounterWhole (tables_in header reftable old) pass c old new → IsHighEnough header reftable c old → IsHighEnough header reftable c new
counter-whole header reftable pass c old new is whole enough =
    enough-still header reftable pass old new c (counters-step header reftable old new is whole.1).uses whole.0 enough

-- nor does a part of a repair
pub enough-whole : (header : HeaderRecord) (reftable : List ℕ) (old new : Image) (c : ℕ) → c < max_file_length
    → IsRepairable (tables_in header reftable old) old → LeavesWhole header reftable c old new
    → IsHighEnough header reftable c old → IsHighEnough header reftable c new
enough-whole header reftable old new c below is (inl flags) enough = flags-whole header reftable false old new is flags c below enough
enough-whole header reftable old new c below is (inr (inl rise)) enough =
    let one = flags-step header reftable false old rise.0 is rise.1 in
    counter-whole header reftable Rise c rise.0 new one.is rise.2 (cleared-enough header reftable old rise.0 is rise.1 c below enough)
enough-whole header reftable old new c below is (inr (inr (inl fall))) enough =
    let one = flags-step header reftable false old fall.0 is fall.2 in
    let two = counters-step header reftable fall.0 fall.1 one.is fall.3.others in
    let risen = counters-enough header reftable Rise fall.0 fall.1 one.is fall.3 c below (cleared-enough header reftable old fall.0 is fall.2 c below enough) in
    counter-whole header reftable Fall c fall.1 new two.is fall.4 risen
enough-whole header reftable old new c below is (inr (inr (inr last))) enough =
    let one = flags-step header reftable false old last.0 is last.3 in
    let two = counters-step header reftable last.0 last.1 one.is last.4.others in
    let three = counters-step header reftable last.1 last.2 two.is last.5.others in
    let risen = counters-enough header reftable Rise last.0 last.1 one.is last.4 c below (cleared-enough header reftable old last.0 is last.3 c below enough) in
    let fallen = counters-enough header reftable Fall last.1 last.2 two.is last.5 c below risen in
    flags-whole header reftable true last.2 new three.is last.6 c below fallen

-- where the storage didn't fail, a pass that broke off left all flags whole
flags-left : (pass : FlagPassState) (fault : Fault) (old new : Image) → BreaksOffFlags pass fault old new → fault ≢ Storage → PassesSomeFlags pass old new
flags-left pass fault old new breaks other = rw (breaks.2.whole other) breaks.1

-- or all counters
counter-left : (tables : ImageTables) (pass : CounterPass) (fault : Fault) (c : ℕ) (old new : Image) → BreaksOff tables pass fault old new → fault ≢ Storage
    → LeavesCounterWhole tables pass c old new
counter-left tables pass fault c old new breaks other = rw (breaks.2.whole other) (breaks.1.counters c, breaks.1.others)

-- so a repair that broke off left all whole
pub whole-left : (header : HeaderRecord) (reftable : List ℕ) (fault : Fault) (old new : Image) → BreaksOffRepair header reftable fault old new → fault ≢ Storage
    → (c : ℕ) → LeavesWhole header reftable c old new
whole-left header reftable fault old new (inl flags) other c = inl (flags-left _ fault old new flags other)
whole-left header reftable fault old new (inr (inl counters)) other c = by_pass counters.2
  where
    by_pass : BreaksOffCounters header reftable fault counters.0 new → LeavesWhole header reftable c old new
    by_pass (inl rise) = inr (inl (counters.0, counters.1, counter-left _ Rise fault c counters.0 new rise other))
    by_pass (inr fall) = inr (inr (inl (counters.0, fall.0, counters.1, fall.1, counter-left _ Fall fault c fall.0 new fall.2 other)))
whole-left header reftable fault old new (inr (inr last)) other c =
    inr (inr (inr (last.0, last.1, last.2, last.3, last.4, last.5, flags-left _ fault last.2 new last.6 other)))

-- and made no counter too low
pub enough-left : (header : HeaderRecord) (reftable : List ℕ) (fault : Fault) (old new : Image) → IsRepairable (tables_in header reftable old) old
    → BreaksOffRepair header reftable fault old new → fault ≢ Storage → MakesNoneTooLow header reftable old new
enough-left header reftable fault old new is breaks other c below enough =
    enough-whole header reftable old new c below is (whole-left header reftable fault old new breaks other c) enough

-- a torn write changes nothing outside the tables
torn-outside : (header : HeaderRecord) (l1 : List ℕ) (old new : Image) (o : ℕ) → IsClusterBits header.v2.cluster_bits → TearsTable header l1 old new
    → IsOutsideTables header l1 o → new o ≡ old o
torn-outside header l1 old new o bits (inl tears) outside = elim outside.l1_table [
  | inl less ↦ tears.before o less
  | inr more ↦ tears.after o more
]
torn-outside header l1 old new o bits (inr tears) outside =
    outside-stays header l1 tears.1.0 tears.0 old new (record { least = bits.0; names = tears.1.1; outside = tears.2 }) o outside.l2_tables

flags-outside : (pass : FlagPassState) (fault : Fault) (old new : Image) (o : ℕ) → IsClusterBits pass.header.v2.cluster_bits → BreaksOffFlags pass fault old new
    → IsOutsideTables pass.header (l1_in pass.header old) o → new o ≡ old o
flags-outside pass fault old new o bits breaks outside = by_torn breaks.2.torn ∙ breaks.1.others o outside
  where
    by_torn : (new ≡ breaks.0) ⊎ TearsTable pass.header (l1_in pass.header old) breaks.0 new → new o ≡ breaks.0 o
    by_torn (inl same) = rw same refl
    by_torn (inr tears) = torn-outside pass.header (l1_in pass.header old) breaks.0 new o bits tears outside

-- so no counter
flags-torn : (header : HeaderRecord) (reftable : List ℕ) (flag : Bool) (fault : Fault) (old new : Image) → IsRepairable (tables_in header reftable old) old
    → BreaksOffFlags (pass_all (tables_in header reftable old) old flag) fault old new
    → image_uses (tables_in header reftable new) new ≡ image_uses (tables_in header reftable old) old → MakesNoneTooLow header reftable old new
flags-torn header reftable flag fault old new is breaks kept = flags-enough header reftable old new kept
    (λ c. counters-kept (tables_in header reftable old) old new c is
    (λ o outside. flags-outside (pass_all (tables_in header reftable old) old flag) fault old new o is.bits breaks outside))

-- a pass over counters that broke off makes counters of one block too low at most
counters-torn : (header : HeaderRecord) (reftable : List ℕ) (pass : CounterPass) (fault : Fault) (first old new : Image) → IsRepairable (tables_in header reftable old) old
    → BreaksOff (tables_in header reftable old) pass fault old new → MakesNoneTooLow header reftable first old
    → (block : HostCluster) × MakesNoneTooLowBeside header reftable block first new
counters-torn header reftable pass fault first old new is breaks before = by_torn breaks.2.torn
  where
    tables : ImageTables
    tables = tables_in header reftable old

    mid : Image
    mid = breaks.0

    by_torn : (new ≡ mid) ⊎ TearsBlock tables mid new → (block : HostCluster) × MakesNoneTooLowBeside header reftable block first new
    by_torn (inl same) = (
      record { 0 = 0 },
      λ c below elsewhere enough. rw same (enough-still header reftable pass old mid c (counters-step header reftable old mid is breaks.1.others).uses (breaks.1.counters c) (before c below enough)),
    )
    by_torn (inr torn) =
        let n = counters_each header in
        let i = torn.0 in
        let block = torn.1 in
        let at : i ≡ i * n / n = sym (ap (λ x. x / n) (sym (add-zero (i * n))) ∙ div-mul-add i n 0 (pow_pos _)) in
        let change : ChangesBlock tables i block mid new = changes-block tables i (i * n) block mid new (repairable-stays tables old mid is breaks.1.others) at torn.2 torn.3 in
        let others : (o : ℕ) → IsOutsideBlocks tables o → new o ≡ old o = λ o outside. others-stay tables i block mid new change o outside ∙ breaks.1.others o outside in
        let kept = (counters-step header reftable old new is others).uses in (
          block,
          λ c below elsewhere enough. enough-still header reftable pass old new c kept
              (same-either c (counter-elsewhere tables i block mid new c change (λ here. elsewhere (rw here torn.2))) (breaks.1.counters c)) (before c below enough),
        )
      where
        same-either : (c : ℕ) → counter_in tables new c ≡ counter_in tables mid c → IsEitherCounter tables pass c old mid → IsEitherCounter tables pass c old new
        same-either c same (inl as_before) = inl (same ∙ as_before)
        same-either c same (inr passed) = inr (same ∙ passed)

-- and so does a repair, if the image uses the same clusters
pub one-block-too-low : (header : HeaderRecord) (reftable : List ℕ) (fault : Fault) (old new : Image) → IsRepairable (tables_in header reftable old) old
    → BreaksOffRepair header reftable fault old new
    → image_uses (tables_in header reftable new) new ≡ image_uses (tables_in header reftable old) old
    → (block : HostCluster) × MakesNoneTooLowBeside header reftable block old new
one-block-too-low header reftable fault old new is (inl flags) kept =
    (record { 0 = 0 }, λ c below elsewhere enough. flags-torn header reftable false fault old new is flags kept c below enough)
one-block-too-low header reftable fault old new is (inr (inl counters)) kept =
    by_pass counters.2 (flags-step header reftable false old counters.0 is counters.1) (cleared-enough header reftable old counters.0 is counters.1)
  where
    by_pass : BreaksOffCounters header reftable fault counters.0 new → KeepsUses header reftable old counters.0 → MakesNoneTooLow header reftable old counters.0
        → (block : HostCluster) × MakesNoneTooLowBeside header reftable block old new
    by_pass (inl rise) one before = counters-torn header reftable Rise fault old counters.0 new one.is rise before
    by_pass (inr fall) one before =
        let two = counters-step header reftable counters.0 fall.0 one.is fall.1.others in
        let risen = counters-enough header reftable Rise counters.0 fall.0 one.is fall.1 in
        counters-torn header reftable Fall fault old fall.0 new two.is fall.2 (λ c below enough. risen c below (before c below enough))
one-block-too-low header reftable fault old new is (inr (inr last)) kept =
    let one = flags-step header reftable false old last.0 is last.3 in
    let two = counters-step header reftable last.0 last.1 one.is last.4.others in
    let three = counters-step header reftable last.1 last.2 two.is last.5.others in
    let cleared = cleared-enough header reftable old last.0 is last.3 in
    let risen = counters-enough header reftable Rise last.0 last.1 one.is last.4 in
    let fallen = counters-enough header reftable Fall last.1 last.2 two.is last.5 in
    let now = flags-torn header reftable true fault last.2 new three.is last.6 (kept ∙ sym (three.uses ∙ two.uses ∙ one.uses)) in
    (record { 0 = 0 }, λ c below elsewhere enough. now c below (fallen c below (risen c below (cleared c below enough))))
