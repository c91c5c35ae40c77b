use Rattle.std.proofs.Common.{◌≡◌, ◌⊎◌, ℕ, zero, suc, Bool, true, false, ◌&&◌, ◌==◌, if◌then◌else◌, ◌+◌, ◌<◌, ◌≤◌, List, [], ◌∷◌, ◌++◌, flat_map, length, option_to_list, option_map, Option, None, Some, Ok, refl, subst, sym, ◌∙◌, inl, inr, arith}
use Rattle.std.proofs.lemmas.Bool.{cases_Bool, cases_lt}
use Rattle.std.proofs.lemmas.Bool.Decides.{nat_tests}
use Rattle.std.proofs.lemmas.List.Elements.{All-cons, All-head, All-nil, All-same, All-tail}
use Rattle.std.specs.List.{All}
use Rattle.qcow2_base.specs.Format.{max_file_length}
use Rattle.qcow2_base.specs.Storage.{Image}
use Rattle.qcow2_base.specs.declared.types.HostCluster.{HostCluster}
use Rattle.qcow2_metadata.specs.Entries.{is_among}
use Rattle.qcow2_metadata.specs.Entries.L2Entry.{allocation}
use Rattle.qcow2_metadata.specs.Header.{Geometry, HeaderRecord, IsValidHeader, geometry_of}
use Rattle.qcow2_metadata.specs.Placed.{numbers_at}
use Rattle.qcow2_metadata.specs.Table.{l2_layout}
use Rattle.qcow2_metadata.specs.Table.L2Guards.{one_if}
use Rattle.qcow2_metadata.specs.declared.entries.ClustersToFreeEntry.{ClustersToFreeEntry}
use Rattle.qcow2_summary.proofs.ApartLemmas.{kind-append}
use Rattle.qcow2_summary.proofs.ReportedLemmas.{once-reported, unshared-reported}
use Rattle.qcow2_check.proofs.FindingsLemmas.{excludes, kind-cons, uses_by_kind}
use Rattle.qcow2_check.proofs.FindingsListLemmas.{no-more, pass-one, take-one}
use Rattle.qcow2_check.specs.Counters.{block_of_cluster, counter_of}
use Rattle.qcow2_check.specs.Findings.{finding_at, findings_from, image_findings, is_shared, is_wrong, reported_counter, uses_of_kind}
use Rattle.qcow2_check.specs.NamedTables.{named_cluster}
use Rattle.qcow2_check.specs.Tally.{ClusterUse, mark_of, used_clusters}
use Rattle.qcow2_check.specs.Uses.{ImageTables, block_uses, entry_uses, header_uses, image_uses, l1_entry_uses, table_uses, uses_of}
use Rattle.qcow2_check.specs.declared.findings.Finding.{Finding}
use Rattle.qcow2_check.specs.declared.tally.TallyKind.{TallyKind}
use Rattle.qcow2_check.specs.declared.tally.TallyKind.TheVariants.{Fixed, Guest, L2Table}
use Rattle.qcow2_apply.proofs.ApplyLemmas.{can-be-made, table-left}
use Rattle.qcow2_apply.proofs.BooksLemmas.{books, uses-balance}
use Rattle.qcow2_apply.proofs.GainsLemmas.{IsFree, gained-once, gains-free}
use Rattle.qcow2_apply.specs.Apply.{AreAllApart, FollowsPlan, plan_tables}
use Rattle.qcow2_apply.specs.CounterTables.{HasCounter, counter_of_cluster}
use Rattle.qcow2_apply.specs.Errors.{HasNoErrors, HasNoLeaks, IsNoError, IsNoLeak}
use Rattle.qcow2_apply.specs.MappedClusters.{times_mapped}
use Rattle.qcow2_apply.specs.Plan.{IsPlanFor, IsPlanOf}
use Rattle.qcow2_apply.specs.PlannedTables.{counter_tables, gained_before}
use Rattle.qcow2_apply.specs.declared.guest_edits.GuestEdit.{GuestEdit}
use Rattle.qcow2_apply.specs.declared.plan.Plan.{Plan}

-- edits of a disk were made by a plan, in an image whose tables and blocks are apart
pub record AreDone (header : HeaderRecord) (edits : List GuestEdit) (plan : Plan) (old new : Image) : Type 0 where
  pub valid : IsValidHeader header
  pub for : IsPlanFor header edits plan
  pub of : IsPlanOf header edits old plan
  pub follows : FollowsPlan header edits plan (Ok tt) old new
  pub apart : AreAllApart (plan_tables header plan)

-- what they did to the uses and the counter of cluster c
pub record FollowAt (tables : ImageTables) (edits : List GuestEdit) (old new : Image) (c : ℕ) : Type 0 where
  pub uses : uses_of (image_uses tables new) c ≤ uses_of (image_uses tables old) c + gained_before tables edits old (length tables.l1) c
  pub counter : HasCounter (counter_tables tables) c → counter_of_cluster (counter_tables tables) new c + uses_of (image_uses tables old) c
      ≡ counter_of_cluster (counter_tables tables) old c + uses_of (image_uses tables new) c
  pub free : 0 < gained_before tables edits old (length tables.l1) c → IsFree tables edits old c
  pub once : gained_before tables edits old (length tables.l1) c ≤ times_mapped edits c

pub follow-at : (header : HeaderRecord) (edits : List GuestEdit) (plan : Plan) (old new : Image) (c : ℕ) → AreDone header edits plan old new
    → FollowAt (plan_tables header plan) edits old new c
follow-at header edits plan old new c done =
    let tables = plan_tables header plan in
    let applied = done.follows.ends done.apart in
    let balance = uses-balance tables edits old new c done.valid.cluster_bits done.for.no_data_file done.for.fit
    (λ i table names. table-left tables edits plan.gains plan.losses old done.follows.cleared new i table done.valid.cluster_bits done.apart
    done.follows.clears applied names) in
    record {
      uses = omega (arith, balance);
      counter = λ has. books header edits plan old new c done.valid done.for done.of done.follows done.apart has;
      free = λ some. gains-free tables edits old (length tables.l1) c (can-be-made header edits plan old done.of).tables_allow some;
      once = gained-once tables edits old (length tables.l1) c;
    }

-- a cluster without a block has counter 0
uncounted : (tables : ImageTables) (image : Image) (c : ℕ) → block_of_cluster tables.header tables.reftable c ≡ None
    → counter_of tables.header tables.reftable image c ≡ 0
uncounted tables image c none = grind (arith, none)

-- where a cluster isn't missing, its counter follows its uses whether or not a block counts it
pub follows-all : (tables : ImageTables) (edits : List GuestEdit) (old new : Image) (c : ℕ) → FollowAt tables edits old new c
    → uses_of (image_uses tables old) c ≤ counter_of tables.header tables.reftable old c
    → counter_of tables.header tables.reftable new c + uses_of (image_uses tables old) c
    ≡ counter_of tables.header tables.reftable old c + uses_of (image_uses tables new) c
follows-all tables edits old new c follow enough = by_block (block_of_cluster tables.header tables.reftable c) refl
  where
    by_block : (found : Option HostCluster) → block_of_cluster tables.header tables.reftable c ≡ found
        → counter_of tables.header tables.reftable new c + uses_of (image_uses tables old) c
        ≡ counter_of tables.header tables.reftable old c + uses_of (image_uses tables new) c
    by_block None none = elim (cases_lt 0 (gained_before tables edits old (length tables.l1) c)) [
      | inl some ↦ absurd (grind (arith, nat_tests, none, (follow.free some).counted))
      | inr nothing ↦ omega (arith, uncounted tables old c none, uncounted tables new c none, follow.uses, nothing, enough)
    ]
    by_block (Some block) some = follow.counter (grind (arith, some))

-- what holds of all findings holds of each
findings-each : (P : Finding → Type 0) (tables : ImageTables) (image : Image) (from count : ℕ) → All P (findings_from tables image from count)
    → (c : ℕ) → from ≤ c → c < from + count → is_wrong (finding_at tables image c) ≡ true → P (finding_at tables image c)
findings-each P tables image from zero all = λ c after before wrong. absurd (omega (arith, after, before))
findings-each P tables image from (suc count) all = with_rest (findings-each P tables image (from + 1) count)
  where
    Rest : Type 0
    Rest = (c : ℕ) → from + 1 ≤ c → c < from + 1 + count → is_wrong (finding_at tables image c) ≡ true → P (finding_at tables image c)

    goes_on : Rest → P (finding_at tables image from) ⊎ (is_wrong (finding_at tables image from) ≡ false)
        → (c : ℕ) → from ≤ c → c < from + suc count → is_wrong (finding_at tables image c) ≡ true → P (finding_at tables image c)
    goes_on rest here c after before wrong = elim (cases_lt from c) [
      | inl later ↦ rest c (omega (arith, later)) (omega (arith, before)) wrong
      | inr same ↦
          let is : from ≡ c = omega (arith, same, after) in
          elim here [
            | inl first ↦ subst (λ k. P (finding_at tables image k)) is first
            | inr right ↦ absurd (grind (arith, wrong, subst (λ k. is_wrong (finding_at tables image k) ≡ false) is right))
          ]
    ]

    with_rest : (All P (findings_from tables image (from + 1) count) → Rest)
        → (c : ℕ) → from ≤ c → c < from + suc count → is_wrong (finding_at tables image c) ≡ true → P (finding_at tables image c)
    with_rest rest = elim (cases_Bool (is_wrong (finding_at tables image from))) [
      | inl wrong ↦
          let list = All-same P (finding_at tables image from ∷ findings_from tables image (from + 1) count) (findings_from tables image from (suc count))
          (sym (take-one tables image from count wrong)) all in
          goes_on (rest (All-tail P (finding_at tables image from) (findings_from tables image (from + 1) count) list))
          (inl (All-head P (finding_at tables image from) (findings_from tables image (from + 1) count) list))
      | inr right ↦ goes_on
          (rest (All-same P (findings_from tables image (from + 1) count) (findings_from tables image from (suc count))
          (sym (pass-one tables image from count right)) all))
          (inr right)
    ]

-- and what holds of each holds of all
pub findings-all : (P : Finding → Type 0) (tables : ImageTables) (image : Image) (from count : ℕ)
    → ((c : ℕ) → from ≤ c → c < from + count → P (finding_at tables image c)) → All P (findings_from tables image from count)
findings-all P tables image from zero each = All-same P (findings_from tables image from zero) [] (no-more tables image from) (All-nil P)
findings-all P tables image from (suc count) each =
    with_rest (findings-all P tables image (from + 1) count (λ c after before. each c (omega (arith, after)) (omega (arith, before))))
  where
    with_rest : All P (findings_from tables image (from + 1) count) → All P (findings_from tables image from (suc count))
    with_rest rest = elim (cases_Bool (is_wrong (finding_at tables image from))) [
      | inl wrong ↦ All-same P (findings_from tables image from (suc count)) (finding_at tables image from ∷ findings_from tables image (from + 1) count)
          (take-one tables image from count wrong)
          (All-cons P (finding_at tables image from) (findings_from tables image (from + 1) count) (each from (omega arith) (omega arith)) rest)
      | inr right ↦ All-same P (findings_from tables image from (suc count)) (findings_from tables image (from + 1) count)
          (pass-one tables image from count right) rest
    ]

-- nothing is wrong with a cluster that isn't found, or it is found
each-at : (P : Finding → Type 0) (tables : ImageTables) (image : Image) → ((finding : Finding) → is_wrong finding ≡ false → P finding)
    → All P (image_findings tables image) → (c : ℕ) → c < max_file_length → P (finding_at tables image c)
each-at P tables image fine all c below = elim (cases_Bool (is_wrong (finding_at tables image c))) [
  | inl wrong ↦ findings-each P tables image 0 max_file_length all c (omega arith) (omega (arith, below)) wrong
  | inr right ↦ fine (finding_at tables image c) right
]

fine-no-error : (finding : Finding) → is_wrong finding ≡ false → IsNoError finding
fine-no-error finding right =
    let same : finding.counter ≡ finding.uses = grind (arith, nat_tests, right) in (omega (arith, same), grind (arith, nat_tests, right))

fine-no-leak : (finding : Finding) → is_wrong finding ≡ false → IsNoLeak finding
fine-no-leak finding right =
    let same : finding.counter ≡ finding.uses = grind (arith, nat_tests, right) in omega (arith, same)

-- no cluster of an image without errors is missing or shared
pub no-error-at : (tables : ImageTables) (image : Image) → HasNoErrors tables image → (c : ℕ) → c < max_file_length → IsNoError (finding_at tables image c)
no-error-at tables image none c below = each-at IsNoError tables image fine-no-error none.findings c below

-- and none of one without leaks is leaked
pub no-leak-at : (tables : ImageTables) (image : Image) → HasNoLeaks tables image → (c : ℕ) → c < max_file_length → IsNoLeak (finding_at tables image c)
no-leak-at tables image none c below = each-at IsNoLeak tables image fine-no-leak none c below

-- tables that are all apart name no block twice
pub apart-reported : (tables : ImageTables) (image : Image) (c : ℕ) → AreAllApart tables
    → reported_counter tables image c ≡ counter_of tables.header tables.reftable image c
apart-reported tables image c apart =
    once-reported tables image c (λ i j block below less first second. omega (arith, less, apart.blocks_apart i j block first second))

-- and no cluster of an image without errors has a counter below its uses
pub enough-at : (tables : ImageTables) (image : Image) → HasNoErrors tables image → (c : ℕ) → c < max_file_length
    → uses_of (image_uses tables image) c ≤ counter_of tables.header tables.reftable image c
enough-at tables image none c below =
    omega (arith, (no-error-at tables image none c below).0, unshared-reported tables image c (λ other inside. (no-error-at tables image none other inside).1))

-- edits leak no cluster
pub no-leaks : (header : HeaderRecord) (edits : List GuestEdit) (plan : Plan) (old new : Image) → AreDone header edits plan old new
    → HasNoLeaks (plan_tables header plan) old → HasNoLeaks (plan_tables header plan) new
no-leaks header edits plan old new done none = findings-all IsNoLeak tables new 0 max_file_length
    (λ c after before. at c (omega (arith, before)) (block_of_cluster tables.header tables.reftable c) refl)
  where
    tables : ImageTables
    tables = plan_tables header plan

    at : (c : ℕ) → c < max_file_length → (found : Option HostCluster) → block_of_cluster tables.header tables.reftable c ≡ found → IsNoLeak (finding_at tables new c)
    at c below None uncounted_is = omega (arith, uncounted tables new c uncounted_is, apart-reported tables new c done.apart)
    at c below (Some block) some =
        let before = no-leak-at tables old none c below in
        let counter = (follow-at header edits plan old new c done).counter (grind (arith, some)) in
        omega (arith, before, counter, apart-reported tables old c done.apart, apart-reported tables new c done.apart)

-- L2 entries use clusters for guest data alone
entry-kind : (kind : TallyKind) (g : Geometry) (v c : ℕ) → (mark_of Guest == mark_of kind) ≡ false → uses_of_kind kind (entry_uses g v) c ≡ 0
entry-kind kind g v c other = by_parts g.external_data_file (allocation g v)
  where
    by_parts : (external : Bool) (found : Option ClustersToFreeEntry)
        → uses_of_kind kind (if external then [] else option_to_list (option_map (λ clusters. record { kind = Guest; clusters = clusters }) found)) c ≡ 0
    by_parts true found = refl
    by_parts false None = refl
    by_parts false (Some clusters) = grind (arith, nat_tests, other, kind-cons kind (record { kind = Guest; clusters = clusters }) [] c)

entries-kind : (kind : TallyKind) (g : Geometry) (numbers : List ℕ) (c : ℕ) → (mark_of Guest == mark_of kind) ≡ false
    → uses_of_kind kind (flat_map (entry_uses g) numbers) c ≡ 0
entries-kind kind g [] c other = refl
entries-kind kind g (v ∷ numbers) c other =
    omega (arith, kind-append kind (entry_uses g v) (flat_map (entry_uses g) numbers) c, entry-kind kind g v c other, entries-kind kind g numbers c other)

-- so an L1 entry has the same uses of another kind, whatever its table's entries are
l1-entry-kind : (kind : TallyKind) (g : Geometry) (old new : Image) (v c : ℕ) → (mark_of Guest == mark_of kind) ≡ false
    → uses_of_kind kind (l1_entry_uses g new v) c ≡ uses_of_kind kind (l1_entry_uses g old v) c
l1-entry-kind kind g old new v c other = by_table (named_cluster g.cluster_bits v) refl
  where
    in_table : (cluster : HostCluster) (image : Image) → uses_of_kind kind (table_uses g cluster image) c
        ≡ one_if (mark_of L2Table == mark_of kind && is_among (used_clusters L2Table cluster 1).clusters c)
    in_table cluster image = omega (
      arith,
      kind-cons kind (used_clusters L2Table cluster 1) (flat_map (entry_uses g) (numbers_at (l2_layout g) cluster image)) c,
      entries-kind kind g (numbers_at (l2_layout g) cluster image) c other,
    )

    by_table : (found : Option HostCluster) → named_cluster g.cluster_bits v ≡ found
        → uses_of_kind kind (l1_entry_uses g new v) c ≡ uses_of_kind kind (l1_entry_uses g old v) c
    by_table None is = rw (is, l1_entry_uses) refl
    by_table (Some cluster) is = rw (is, l1_entry_uses) (in_table cluster new ∙ sym (in_table cluster old))

l1-kind : (kind : TallyKind) (g : Geometry) (old new : Image) (l1 : List ℕ) (c : ℕ) → (mark_of Guest == mark_of kind) ≡ false
    → uses_of_kind kind (flat_map (l1_entry_uses g new) l1) c ≡ uses_of_kind kind (flat_map (l1_entry_uses g old) l1) c
l1-kind kind g old new [] c other = refl
l1-kind kind g old new (v ∷ vs) c other = omega (
  arith,
  kind-append kind (l1_entry_uses g new v) (flat_map (l1_entry_uses g new) vs) c,
  kind-append kind (l1_entry_uses g old v) (flat_map (l1_entry_uses g old) vs) c,
  l1-entry-kind kind g old new v c other,
  l1-kind kind g old new vs c other,
)

-- and so has an image
image-kind : (kind : TallyKind) (tables : ImageTables) (old new : Image) (c : ℕ) → (mark_of Guest == mark_of kind) ≡ false
    → uses_of_kind kind (image_uses tables new) c ≡ uses_of_kind kind (image_uses tables old) c
image-kind kind tables old new c other =
    let g = geometry_of tables.header in
    let first = header_uses tables.header in
    let blocks = flat_map (block_uses tables.header.v2.cluster_bits) tables.reftable in
    omega (
      arith,
      kind-append kind first (blocks ++ flat_map (l1_entry_uses g new) tables.l1) c,
      kind-append kind blocks (flat_map (l1_entry_uses g new) tables.l1) c,
      kind-append kind first (blocks ++ flat_map (l1_entry_uses g old) tables.l1) c,
      kind-append kind blocks (flat_map (l1_entry_uses g old) tables.l1) c,
      l1-kind kind g old new tables.l1 c other,
    )

-- uses that exclude no others still don't where only guest data's change, and aren't more, or there were none
stays-apart : (old new : List ClusterUse) (c : ℕ) → uses_of_kind Fixed new c ≡ uses_of_kind Fixed old c → uses_of_kind L2Table new c ≡ uses_of_kind L2Table old c
    → (uses_of new c ≤ uses_of old c) ⊎ (uses_of old c ≡ 0) → is_shared old c ≡ false → is_shared new c ≡ false
stays-apart old new c fixed tables (inl fewer) apart =
    grind (arith, nat_tests, fixed, tables, fewer, excludes old c apart, uses_by_kind old c, uses_by_kind new c)
stays-apart old new c fixed tables (inr none) apart = grind (arith, nat_tests, fixed, tables, none, uses_by_kind old c)

-- a cluster that is neither missing nor shared is neither after edits
error-free : (tables : ImageTables) (edits : List GuestEdit) (old new : Image) (c : ℕ) → FollowAt tables edits old new c → AreAllApart tables
    → IsNoError (finding_at tables old c) → IsNoError (finding_at tables new c)
error-free tables edits old new c follow apart none =
    let enough : uses_of (image_uses tables old) c ≤ counter_of tables.header tables.reftable old c = omega (arith, none.0, apart-reported tables old c apart) in
    let counter = follows-all tables edits old new c follow enough in
    let fewer : (uses_of (image_uses tables new) c ≤ uses_of (image_uses tables old) c) ⊎ (uses_of (image_uses tables old) c ≡ 0) =
    elim (cases_lt 0 (gained_before tables edits old (length tables.l1) c)) [
      | inl some ↦ inr (omega (arith, enough, (follow.free some).free))
      | inr nothing ↦ inl (omega (arith, nothing, follow.uses))
    ] in (
      omega (arith, counter, enough, apart-reported tables new c apart),
      stays-apart (image_uses tables old) (image_uses tables new) c (image-kind Fixed tables old new c refl) (image-kind L2Table tables old new c refl) fewer none.1,
    )

-- so edits leave none that is
pub findings-left : (header : HeaderRecord) (edits : List GuestEdit) (plan : Plan) (old new : Image) → AreDone header edits plan old new
    → HasNoErrors (plan_tables header plan) old → All IsNoError (image_findings (plan_tables header plan) new)
findings-left header edits plan old new done none =
    let tables = plan_tables header plan in
    findings-all IsNoError tables new 0 max_file_length (λ c after before.
    error-free tables edits old new c (follow-at header edits plan old new c done) done.apart (no-error-at tables old none c (omega (arith, before))))
