use Rattle.std.proofs.Common.{◌≡◌, ◌+◌, ◌≤◌, ℕ, List, length, Some, Err, subst, ◌∙◌, inl, inr, arith}
use Rattle.qcow2_base.specs.Storage.{Image, SameOutside}
use Rattle.qcow2_base.specs.declared.fault.Fault.{Fault}
use Rattle.qcow2_base.specs.declared.types.HostCluster.{HostCluster}
use Rattle.qcow2_metadata.specs.Header.{HeaderRecord, IsValidHeader, geometry_of}
use Rattle.qcow2_metadata.specs.Placed.{numbers_at}
use Rattle.qcow2_metadata.specs.Table.{l2_layout}
use Rattle.qcow2_check.specs.Failures.{TearsAtMost}
use Rattle.qcow2_check.specs.Uses.{ImageTables, image_uses, uses_of}
use Rattle.qcow2_apply.proofs.ApplyLemmas.{counters-cleared, counters-stay, table-cleared, table-outside-blocks}
use Rattle.qcow2_apply.proofs.BooksLemmas.{uses-at-most, uses-balance, uses-same}
use Rattle.qcow2_apply.specs.Apply.{AreAllApart, BreaksOffApplying, FollowsPlan, InGains, InLosses, InTables, KeepDistance, TearsTableOrBlock, l2_tables_of, plan_tables, refblocks_of}
use Rattle.qcow2_apply.specs.Blocks.{FollowsChanges, FollowsSome}
use Rattle.qcow2_apply.specs.Passes.{IsOutside, Passes, TearsOne}
use Rattle.qcow2_apply.specs.Plan.{IsPlanFor, IsPlanOf}
use Rattle.qcow2_apply.specs.PlannedTables.{counter_tables, gained_before}
use Rattle.qcow2_apply.specs.Tables.{IsEdited}
use Rattle.qcow2_apply.specs.declared.guest_edits.GuestEdit.{GuestEdit}
use Rattle.qcow2_apply.specs.declared.plan.Plan.{Plan}

-- a write that was torn is one of a table or of a block
tears-block : (tables : ImageTables) (fault : Fault) (old new : Image) → TearsAtMost fault (TearsOne (refblocks_of tables)) old new
    → TearsAtMost fault (TearsTableOrBlock tables) old new
tears-block tables fault old new tears = record { whole = tears.whole; torn = elim tears.torn [ inl same ↦ inl same | inr torn ↦ inr (inr torn) ] }

tears-table : (tables : ImageTables) (fault : Fault) (old new : Image) → TearsAtMost fault (TearsOne (l2_tables_of tables)) old new
    → TearsAtMost fault (TearsTableOrBlock tables) old new
tears-table tables fault old new tears = record { whole = tears.whole; torn = elim tears.torn [ inl same ↦ inl same | inr torn ↦ inr (inl torn) ] }

-- what the lemmas below are given: a header and a plan of edits that fit, of an image, and where only the field of autoclear
-- features changed first
pub record BeginsPlan (header : HeaderRecord) (edits : List GuestEdit) (plan : Plan) (old cleared : Image) : Type 0 where
  pub valid : IsValidHeader header
  pub fits : IsPlanFor header edits plan
  pub plans : IsPlanOf header edits old plan
  pub apart : AreAllApart (plan_tables header plan)
  pub clears : SameOutside 88 8 old cleared

-- a table is as at first until tables are edited
pub table-before : (header : HeaderRecord) (edits : List GuestEdit) (plan : Plan) (old cleared gained : Image) (i : ℕ) (table : HostCluster)
    → BeginsPlan header edits plan old cleared → ((o : ℕ) → IsOutside (refblocks_of (plan_tables header plan)) o → gained o ≡ cleared o)
    → (l2_tables_of (plan_tables header plan)).place i ≡ Some table
    → numbers_at (l2_layout (geometry_of (plan_tables header plan).header)) table gained ≡ numbers_at (l2_layout (geometry_of (plan_tables header plan).header)) table old
table-before header edits plan old cleared gained i table is others names =
    table-outside-blocks (plan_tables header plan) cleared gained i table is.valid.cluster_bits is.apart others names
    ∙ table-cleared (plan_tables header plan) old cleared i table is.valid.cluster_bits is.apart is.clears names

-- where some counters followed what clusters gain, they keep their distance from the uses
pub gains-keep : (header : HeaderRecord) (edits : List GuestEdit) (plan : Plan) (old cleared mid : Image) → BeginsPlan header edits plan old cleared
    → FollowsSome (counter_tables (plan_tables header plan)) plan.gains cleared mid → KeepDistance (plan_tables header plan) old mid
gains-keep header edits plan old cleared mid is some c has =
    let tables = plan_tables header plan in
    let uses = uses-same tables old mid c (λ i table names. table-before header edits plan old cleared mid i table is some.others names) in
    let counter = counters-cleared tables old cleared is.valid.cluster_bits is.valid.refcount_order is.apart is.clears c has in
    elim (some.counters c has) [
      | inl same ↦ omega (arith, uses, counter, same)
      | inr followed ↦ omega (arith, uses, counter, followed, is.fits.changes.no_loss c)
    ]

-- where all did, and tables changed, clusters may be used as often more as they gain references
pub tables-keep : (header : HeaderRecord) (edits : List GuestEdit) (plan : Plan) (old cleared gained mid : Image) → BeginsPlan header edits plan old cleared
    → FollowsChanges (counter_tables (plan_tables header plan)) plan.gains cleared gained
    → ((o : ℕ) → IsOutside (l2_tables_of (plan_tables header plan)) o → mid o ≡ gained o)
    → (let tables = plan_tables header plan in (c : ℕ)
    → uses_of (image_uses tables mid) c ≤ uses_of (image_uses tables old) c + gained_before tables edits old (length tables.l1) c)
    → KeepDistance (plan_tables header plan) old mid
tables-keep header edits plan old cleared gained mid is first others uses c has =
    let tables = plan_tables header plan in
    let counter = counters-cleared tables old cleared is.valid.cluster_bits is.valid.refcount_order is.apart is.clears c has in
    let same = counters-stay tables gained mid is.valid.cluster_bits is.valid.refcount_order is.apart others c has in
    omega (arith, uses c, counter, same, first.followed c has, is.fits.changes.no_loss c, is.plans.changes.gained_is c)

-- and where all were edited, some counters may have followed what clusters lose
pub losses-keep : (header : HeaderRecord) (edits : List GuestEdit) (plan : Plan) (old cleared gained edited mid : Image) → BeginsPlan header edits plan old cleared
    → FollowsChanges (counter_tables (plan_tables header plan)) plan.gains cleared gained
    → Passes (l2_tables_of (plan_tables header plan)) (IsEdited (plan_tables header plan).header edits) gained edited
    → FollowsSome (counter_tables (plan_tables header plan)) plan.losses edited mid → KeepDistance (plan_tables header plan) old mid
losses-keep header edits plan old cleared gained edited mid is first second some c has =
    let tables = plan_tables header plan in
    let numbers = λ (table : HostCluster) (image : Image). numbers_at (l2_layout (geometry_of tables.header)) table image in
    let uses = uses-balance tables edits old mid c is.valid.cluster_bits is.fits.no_data_file is.fits.fit (λ i table names.
    let before = table-before header edits plan old cleared gained i table is first.others names in
    let after = table-outside-blocks tables edited mid i table is.valid.cluster_bits is.apart some.others names in
    subst (λ list. IsEdited tables.header edits i list (numbers table mid)) before (after ∙ second.changed i table names)) in
    let counter = counters-cleared tables old cleared is.valid.cluster_bits is.valid.refcount_order is.apart is.clears c has in
    let same = counters-stay tables gained edited is.valid.cluster_bits is.valid.refcount_order is.apart second.others c has in
    let gains = first.followed c has in
    elim (some.counters c has) [
      | inl kept ↦ omega (arith, uses, counter, same, gains, kept, is.fits.changes.no_loss c, is.plans.changes.gained_is c, is.plans.changes.lost_is c)
      | inr followed ↦ omega (arith, uses, counter, same, gains, followed, is.fits.changes.no_loss c, is.fits.changes.no_gain c, is.plans.changes.gained_is c, is.plans.changes.lost_is c)
    ]

-- where edits of a disk broke off, but for a torn write counters keep their distance from the uses
pub keep-distance : (header : HeaderRecord) (edits : List GuestEdit) (plan : Plan) (fault : Fault) (old new : Image) → IsValidHeader header
    → IsPlanFor header edits plan → IsPlanOf header edits old plan → FollowsPlan header edits plan (Err fault) old new → AreAllApart (plan_tables header plan)
    → (mid : Image) × TearsAtMost fault (TearsTableOrBlock (plan_tables header plan)) mid new × KeepDistance (plan_tables header plan) old mid
keep-distance header edits plan fault old new valid for of follows apart = by_part (follows.ends apart)
  where
    tables : ImageTables
    tables = plan_tables header plan

    is : BeginsPlan header edits plan old follows.cleared
    is = record { valid = valid; fits = for; plans = of; apart = apart; clears = follows.clears }

    numbers : HostCluster → Image → List ℕ
    numbers table image = numbers_at (l2_layout (geometry_of tables.header)) table image

    by_part : BreaksOffApplying (plan_tables header plan) edits plan.gains plan.losses fault follows.cleared new
        → (mid : Image) × TearsAtMost fault (TearsTableOrBlock (plan_tables header plan)) mid new × KeepDistance (plan_tables header plan) old mid
    by_part (InGains (mid, some, tears)) = (mid, tears-block tables fault mid new tears, gains-keep header edits plan old follows.cleared mid is some)
    by_part (InTables gained first (mid, some, tears)) = (
      mid,
      tears-table tables fault mid new tears,
      tables-keep header edits plan old follows.cleared gained mid is first some.others (λ c. uses-at-most tables edits old mid c valid.cluster_bits for.no_data_file for.fit (λ i table names.
          let before = table-before header edits plan old follows.cleared gained i table is first.others names in
          elim (some.each i table names) [
            | inl same ↦ inl (same ∙ before)
            | inr edited ↦ inr (subst (λ list. IsEdited tables.header edits i list (numbers table mid)) before edited)
          ])),
    )
    by_part (InLosses gained edited first second (mid, some, tears)) = (
      mid,
      tears-block tables fault mid new tears,
      losses-keep header edits plan old follows.cleared gained edited mid is first second some,
    )
