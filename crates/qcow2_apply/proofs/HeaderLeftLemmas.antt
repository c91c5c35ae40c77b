use Rattle.std.proofs.Common.{◌≡◌, ◌≢◌, ◌==◌, Bool, true, false, ℕ, ◌/◌, ◌^◌, ◌<◌, List, Ok, inl, inr, ap, refl, subst, sym, ◌∙◌, arith}
use Rattle.std.proofs.Math.Nat.{div-lt_iff_lt-mul}
use Rattle.std.proofs.lemmas.Bool.Decides.{nat_tests}
use Rattle.std.proofs.lemmas.Nat.{pow_pos}
use Rattle.qcow2_base.specs.Storage.{Image}
use Rattle.qcow2_metadata.proofs.ClearedLemmas.{cleared-header}
use Rattle.qcow2_metadata.proofs.GrammarLemmas.{header_of-is}
use Rattle.qcow2_metadata.proofs.LawsLemmas.{first-cluster-kept}
use Rattle.qcow2_metadata.specs.Header.{HeaderRecord, IsValidHeader}
use Rattle.qcow2_metadata.specs.Header.Grammar.{IsHeader, header_of}
use Rattle.qcow2_metadata.specs.Header.Open.{without_autoclear}
use Rattle.qcow2_metadata.specs.Header.Pointers.{HasNameElsewhere}
use Rattle.qcow2_check.specs.Findings.{checked_tables}
use Rattle.qcow2_check.specs.Uses.{ImageTables}
use Rattle.qcow2_apply.proofs.CheckedLemmas.{checked-planned, done-apart, left-no-errors}
use Rattle.qcow2_apply.specs.Apply.{AreAllApart, FollowsPlan, IsElsewhere, LosesNoName, l2_tables_of, plan_tables, tables_by}
use Rattle.qcow2_apply.specs.Errors.{HasNoErrors}
use Rattle.qcow2_apply.specs.Passes.{ArePlacesApart}
use Rattle.qcow2_apply.specs.Plan.{IsPlanFor, IsPlanOf}
use Rattle.qcow2_apply.specs.declared.guest_edits.GuestEdit.{GuestEdit}
use Rattle.qcow2_apply.specs.declared.plan.Plan.{Plan}

-- no byte of the first cluster is in a table or a block
pub first-elsewhere : (tables : ImageTables) (o : ℕ) → AreAllApart tables → o < 2 ^ tables.header.v2.cluster_bits → IsElsewhere tables o
first-elsewhere tables o apart below =
    let first : o / 2 ^ tables.header.v2.cluster_bits < 1 = (div-lt_iff_lt-mul (pow_pos tables.header.v2.cluster_bits)).1 (omega (arith, below)) in (
      λ i table names here. absurd (omega (arith, first, here, apart.tables_after i table names)),
      λ i block names here. absurd (omega (arith, first, here, apart.blocks_after i block names)),
    )

-- a header without autoclear features is what it is without them
none-to-clear : (header : HeaderRecord) → header.base.autoclear_features ≡ 0 → without_autoclear header ≡ header
none-to-clear header none = ap (λ features. record header { base = record header.base { autoclear_features = features } }) (sym none)

-- a header with autoclear features is of version 3
some-newer : (header : HeaderRecord) (image : Image) → IsHeader image header → header.base.autoclear_features ≢ 0 → header.v2.version ≡ 3
some-newer header image is some = elim is.version [
  | inl older ↦ absurd (some (ap (λ base. base.autoclear_features) (is.base.version_2 older)))
  | inr newer ↦ newer
]

-- an image whose autoclear features were cleared before edits has the header that it had, without them
cleared-left : (header : HeaderRecord) (edits : List GuestEdit) (plan : Plan) (old new : Image) (follows : FollowsPlan header edits plan (Ok tt) old new)
    → header_of old ≡ Ok header → LosesNoName header → header_of follows.cleared ≡ Ok (without_autoclear header)
cleared-left header edits plan old new follows is keeps = by_test (header.base.autoclear_features == 0) refl
  where
    by_none : header.base.autoclear_features ≡ 0 → header_of follows.cleared ≡ Ok (without_autoclear header)
    by_none none = ap header_of (follows.idle none) ∙ is ∙ ap Ok (sym (none-to-clear header none))

    by_some : header.base.autoclear_features ≢ 0 → HasNameElsewhere header → header_of follows.cleared ≡ Ok (without_autoclear header)
    by_some some elsewhere = cleared-header header old follows.cleared is (some-newer header old (header_of-is old header is) some)
        follows.clears (follows.wiped some refl) elsewhere

    by_test : (none : Bool) → (header.base.autoclear_features == 0) ≡ none → header_of follows.cleared ≡ Ok (without_autoclear header)
    by_test true none = by_none (grind (arith, nat_tests, none))
    by_test false some = elim keeps [
      | inl none ↦ by_none none
      | inr elsewhere ↦ by_some (λ none. grind (arith, nat_tests, some, none)) elsewhere
    ]

-- and so has the image that edits leave, where tables and blocks are apart
pub header-left : (header : HeaderRecord) (edits : List GuestEdit) (plan : Plan) (old new : Image) → header_of old ≡ Ok header
    → LosesNoName header → FollowsPlan header edits plan (Ok tt) old new → AreAllApart (plan_tables header plan) → header_of new ≡ Ok (without_autoclear header)
header-left header edits plan old new is keeps follows apart =
    first-cluster-kept (without_autoclear header) follows.cleared new (cleared-left header edits plan old new follows is keeps)
    (λ o below. follows.others o (first-elsewhere (plan_tables header plan) o apart below))

-- so it has where a check found no errors before, and no two L1 entries name one L2 table
pub header-left-by-check : (header : HeaderRecord) (edits : List GuestEdit) (plan : Plan) (old new : Image) (tables : ImageTables) → IsValidHeader header
    → IsPlanFor header edits plan → IsPlanOf header edits old plan → FollowsPlan header edits plan (Ok tt) old new → checked_tables header old ≡ Ok tables
    → ArePlacesApart (l2_tables_of tables) → HasNoErrors tables old → header_of old ≡ Ok header → LosesNoName header → header_of new ≡ Ok (without_autoclear header)
header-left-by-check header edits plan old new tables valid for of follows checked apart none is keeps =
    header-left header edits plan old new is keeps follows
    (done-apart header edits plan old new valid for of follows by_plan.0 (left-no-errors header plan old by_plan.1)).apart
  where
    by_plan : ArePlacesApart (l2_tables_of (tables_by header plan)) × HasNoErrors (tables_by header plan) old
    by_plan = subst (λ tables. ArePlacesApart (l2_tables_of tables) × HasNoErrors tables old)
        (sym (checked-planned header edits plan old tables of checked)) (apart, none)
