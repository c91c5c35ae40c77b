use Rattle.std.proofs.Common.{◌≡◌, ℕ, Bool, true, false, not, ◌+◌, List, [], ◌∷◌, ◌++◌, cond, sym, ap, subst, ◌∙◌, append_assoc, refl, arith}
use Rattle.std.proofs.lemmas.List.Elements.{All-cons, All-head, All-nil, All-tail}
use Rattle.std.proofs.lemmas.List.Sums.{sum_by-cons, sum_by_push}
use Rattle.std.specs.List.{All, sum_by}
use Rattle.qcow2_base.specs.Storage.{Image, OnImage, StorageState}
use Rattle.qcow2_metadata.specs.Table.L2Guards.{one_if}
use Rattle.qcow2_check.specs.Findings.{is_leaked, is_missing}
use Rattle.qcow2_check.specs.Totals.{finding_totals, with_clusters, with_flag, with_flags, with_past}
use Rattle.qcow2_check.specs.declared.findings.Finding.{Finding}
use Rattle.qcow2_check.specs.declared.flags.WrongFlag.{WrongFlag}
use Rattle.qcow2_check.specs.declared.totals.Totals.{Totals}

-- what is known of an image's bytes after reads is known of those before
pub known-before : (Fact : Image → Type 0) (old now : StorageState) → now.tells ≡ old.tells → now.byte_at ≡ old.byte_at → OnImage now Fact → OnImage old Fact
known-before Fact old now tells bytes fact = λ told. subst Fact bytes (fact (rw tells told))

-- one item more of a list
pub items-more : {T : Type 0} (all done left later : List T) (item : T) → all ≡ done ++ left → left ≡ item ∷ later → all ≡ (done ++ item ∷ []) ++ later
items-more all done left later item are is = are ∙ ap (λ rest. done ++ rest) is ∙ sym (append_assoc done (item ∷ []) later)

-- the totals of one finding more
pub totals-finding : (counted : List Finding) (finding : Finding) → with_clusters (finding_totals counted) finding 1 ≡ finding_totals (counted ++ finding ∷ [])
totals-finding counted finding =
    let leaked = sum_by_push (λ (f : Finding). one_if (is_leaked f)) counted finding in
    let missing = sum_by_push (λ (f : Finding). one_if (is_missing f)) counted finding in
    let shared = sum_by_push (λ (f : Finding). one_if f.shared) counted finding in
    rw (leaked, missing, shared) refl

-- the totals of more clusters past the end of a file
pub totals-past : (totals : Totals) (m n k : ℕ) → k ≡ m + n → with_past (with_past totals m) n ≡ with_past totals k
totals-past totals m n k is = ap (λ past. record totals { past = past }) (omega (arith, is))

-- the totals of one flag more
pub totals-flag : (totals : Totals) (counted : List WrongFlag) (flag : WrongFlag) → with_flag (with_flags totals counted) flag ≡ with_flags totals (counted ++ flag ∷ [])
totals-flag totals counted flag =
    let set_flags = sum_by_push (λ (f : WrongFlag). one_if f.is_set) counted flag in
    let unset = sum_by_push (λ (f : WrongFlag). one_if (not f.is_set)) counted flag in
    grind (arith, set_flags, unset)

-- a test that adds nothing fails
fails : (test : Bool) (rest : ℕ) → cond test 1 0 + rest ≡ 0 → test ≡ false
fails true rest none = absurd (omega (arith, none))
fails false rest none = refl

-- where no item is counted that passes a test, none passes it
pub none-counted : {X : Type 0} (test : X → Bool) (items : List X) → sum_by (λ item. one_if (test item)) items ≡ 0 → All (λ item. test item ≡ false) items
none-counted test [] none = All-nil (λ item. test item ≡ false)
none-counted test (item ∷ items) none =
    let both : cond (test item) 1 0 + sum_by (λ x. one_if (test x)) items ≡ 0 = sym (sum_by-cons (λ x. one_if (test x)) item items) ∙ none in
    All-cons (λ x. test x ≡ false) item items (fails (test item) _ both) (none-counted test items (omega (arith, both)))

-- and the other way around
pub counts-none : {X : Type 0} (test : X → Bool) (items : List X) → All (λ item. test item ≡ false) items → sum_by (λ item. one_if (test item)) items ≡ 0
counts-none test [] none = refl
counts-none test (item ∷ items) none =
    let first : test item ≡ false = All-head (λ x. test x ≡ false) item items none in
    let rest = counts-none test items (All-tail (λ x. test x ≡ false) item items none) in
    sum_by-cons (λ x. one_if (test x)) item items ∙ grind (arith, first, rest)
