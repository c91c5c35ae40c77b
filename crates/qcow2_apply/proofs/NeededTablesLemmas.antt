use Rattle.std.proofs.Common.{◌≡◌, ℕ, Bool, true, false, not, ◌&&◌, ◌||◌, ◌+◌, ◌<◌, List, [], ◌∷◌, length, get_or, take, slice_index, None, ap, refl, subst, sym, ◌∙◌, inl, inr, arith}
use Rattle.std.proofs.lemmas.Bool.{cases_Bool, cases_lt}
use Rattle.std.proofs.lemmas.List.Folds.{list_any_more}
use Rattle.std.specs.List.{list_any}
use Rattle.qcow2_check.specs.NamedTables.{named_cluster}
use Rattle.qcow2_metadata.specs.Header.{HeaderRecord}
use Rattle.qcow2_apply.specs.GuestEdits.{has_clusters_in, is_discard}
use Rattle.qcow2_apply.specs.NeededTables.{IsFirstMissing, is_table_needed}
use Rattle.qcow2_apply.specs.declared.guest_edits.GuestEdit.{GuestEdit}

-- an edit that needs a table is of it
pub needed-any : (cb i : ℕ) (edits : List GuestEdit) → is_table_needed cb edits i ≡ true → list_any (has_clusters_in cb i) edits ≡ true
needed-any cb i [] needed = needed
needed-any cb i (edit ∷ edits) needed = elim (cases_Bool (has_clusters_in cb i edit)) [
  | inl has ↦ rw has refl
  | inr none ↦ rw none (needed-any cb i edits (rw none at needed))
]

-- of one edit more
pub missing-next : (header : HeaderRecord) (l1 : List ℕ) (needed has both : ℕ → Bool) (end first new : ℕ) → IsFirstMissing header l1 needed end first
    → IsFirstMissing header l1 has first new → ((i : ℕ) → both i ≡ (needed i || has i)) → IsFirstMissing header l1 both end new
missing-next header l1 needed has both end first new before here is = record {
  within = omega (arith, before.within, here.within);
  earlier = λ i below none. is i ∙ grind (arith, before.earlier i (omega (arith, below, here.within)) none, here.earlier i below none);
  here = λ below. elim (cases_lt new first) [
    | inl less ↦ let found = here.here less in (found.0, is new ∙ grind (arith, found.1))
    | inr more ↦
        let same : new ≡ first = omega (arith, more, here.within) in
        let found = before.here (omega (arith, below, same)) in
        subst (λ k. (named_cluster header.v2.cluster_bits (slice_index l1 k) ≡ None) × (both k ≡ true)) (sym same) (found.0, is first ∙ grind (arith, found.1))
  ];
}

pub missing-same : (header : HeaderRecord) (l1 : List ℕ) (needed other : ℕ → Bool) (end first : ℕ) → IsFirstMissing header l1 needed end first
    → ((i : ℕ) → other i ≡ needed i) → IsFirstMissing header l1 other end first
missing-same header l1 needed other end first before is = record {
  within = before.within;
  earlier = λ i below none. is i ∙ before.earlier i below none;
  here = λ below. let found = before.here below in (found.0, is first ∙ found.1);
}

-- an end that is reached, before which nothing is missing
pub missing-none : (header : HeaderRecord) (l1 : List ℕ) (needed : ℕ → Bool) (end : ℕ)
    → ((i : ℕ) → i < end → named_cluster header.v2.cluster_bits (slice_index l1 i) ≡ None → needed i ≡ false) → IsFirstMissing header l1 needed end end
missing-none header l1 needed end none = record {
  within = omega arith;
  earlier = none;
  here = λ below. absurd (omega (arith, below));
}

-- what one edit more needs
pub needed-more : (cb i : ℕ) (edits : List GuestEdit) (k : ℕ) (d : GuestEdit) → k < length edits → is_discard (get_or edits k d) ≡ false
    → is_table_needed cb (take (k + 1) edits) i ≡ (is_table_needed cb (take k edits) i || has_clusters_in cb i (get_or edits k d))
needed-more cb i edits k d below kind =
    let here : (has_clusters_in cb i (get_or edits k d) && not (is_discard (get_or edits k d))) ≡ has_clusters_in cb i (get_or edits k d) = grind (arith, kind) in
    list_any_more (λ edit. has_clusters_in cb i edit && not (is_discard edit)) edits k d below ∙ ap (λ t. is_table_needed cb (take k edits) i || t) here

pub needed-same : (cb i : ℕ) (edits : List GuestEdit) (k : ℕ) (d : GuestEdit) → k < length edits → is_discard (get_or edits k d) ≡ true
    → is_table_needed cb (take (k + 1) edits) i ≡ is_table_needed cb (take k edits) i
needed-same cb i edits k d below kind = list_any_more (λ edit. has_clusters_in cb i edit && not (is_discard edit)) edits k d below ∙ grind (arith, kind)
