use Rattle.std.proofs.Common.{◌≡◌, ◌⊎◌, ℕ, ◌+◌, ◌-◌, ◌*◌, ◌/◌, ◌%◌, ◌^◌, ◌<◌, ◌≤◌, inl, inr, refl, sym, ap, ◌∙◌, mod-lt, div-add-mod', arith}
use Rattle.std.proofs.lemmas.Nat.{div-mul-add, pow_pos}
use Rattle.std.proofs.lemmas.Bool.{cases_eq}
use Rattle.std.proofs.lemmas.Bool.Decides.{nat_tests}
use Rattle.qcow2_edits.specs.Settled.{is_between}
use Rattle.qcow2_edits.specs.declared.edits.Outcome.{Outcome}
use Rattle.qcow2_metadata.specs.Entries.{is_among}
use Rattle.qcow2_metadata.specs.Table.L2Guards.{handed_back, one_if}
use Rattle.qcow2_metadata.specs.declared.entries.ClustersToFreeEntry.{ClustersToFreeEntry}
use Rattle.qcow2_apply.specs.Changes.{AddsChanges, PutsOutcome, TakesOutcome}
use Rattle.qcow2_apply.specs.declared.changes.Changes.{Changes}

-- clusters that one block counts were added to what its clusters lost
pub part-added : (index first next : ℕ) (clusters : ClustersToFreeEntry) (before after : Outcome) (a b d : Changes)
    → TakesOutcome index before a b → PutsOutcome index after b d → after.gained ≡ before.gained
    → ((c : ℕ) → handed_back after.freed.items c ≡ handed_back before.freed.items c + one_if (is_among clusters c))
    → clusters.first.0 ≡ first → clusters.first.0 + clusters.count.0 ≡ next
    → ((c : ℕ) → first ≤ c → c < next → c / 2 ^ a.rb_bits ≡ index)
    → AddsChanges (λ c. 0) (λ c. one_if (is_between first next c)) a d
part-added index first next clusters before after a b d takes puts gains losses from to of_block = record {
  bits = grind (arith, takes.others.bits, puts.others.bits);
  gained_is = λ c. elim (cases_eq (c / 2 ^ a.rb_bits) index) [
    | inl here ↦ grind (arith, takes.taken c, puts.put c, gains, here, takes.others.bits, puts.others.bits)
    | inr differs ↦ grind (arith, takes.others.gained_is c, puts.others.gained_is c, differs, takes.others.bits, puts.others.bits)
  ];
  lost_is = λ c. elim (cases_eq (c / 2 ^ a.rb_bits) index) [
    | inl here ↦ grind (arith, nat_tests, takes.taken c, puts.put c, losses c, from, to, here, takes.others.bits, puts.others.bits)
    | inr differs ↦ grind (arith, nat_tests, takes.others.lost_is c, puts.others.lost_is c, of_block c, differs, takes.others.bits, puts.others.bits)
  ];
}

-- clusters of the next part
pub parts-added : (first mid next : ℕ) (a b d : Changes) → first ≤ mid → mid < next → AddsChanges (λ c. 0) (λ c. one_if (is_between first mid c)) a b
    → AddsChanges (λ c. 0) (λ c. one_if (is_between mid next c)) b d → AddsChanges (λ c. 0) (λ c. one_if (is_between first next c)) a d
parts-added first mid next a b d from further one other = record {
  bits = grind (arith, one.bits, other.bits);
  gained_is = λ c. grind (arith, one.gained_is c, other.gained_is c);
  lost_is = λ c. grind (arith, nat_tests, one.lost_is c, other.lost_is c, from, further);
}

-- no clusters, and all
pub none-added : (first : ℕ) (a : Changes) → AddsChanges (λ c. 0) (λ c. one_if (is_between first first c)) a a
none-added first a = record {
  bits = refl;
  gained_is = λ c. grind (arith);
  lost_is = λ c. grind (arith, nat_tests);
}

pub all-added : (clusters : ClustersToFreeEntry) (first end : ℕ) (a b : Changes) → end ≡ clusters.first.0 + clusters.count.0 → end ≤ first
    → (first ≤ end) ⊎ (first ≡ clusters.first.0) → AddsChanges (λ c. 0) (λ c. one_if (is_between clusters.first.0 first c)) a b
    → AddsChanges (λ c. 0) (λ c. one_if (is_among clusters c)) a b
all-added clusters first end a b is past within added = record {
  bits = added.bits;
  gained_is = added.gained_is;
  lost_is = λ c. grind (arith, nat_tests, added.lost_is c, is, past, within);
}

-- clusters up to the end of those that a block counts are the block's
pub within-block : (bits first count index at : ℕ) → index ≡ first / 2 ^ bits → at ≡ first % 2 ^ bits → count ≤ 2 ^ bits - at
    → (c : ℕ) → first ≤ c → c < first + count → c / 2 ^ bits ≡ index
within-block bits first count index at is at_is few c from before =
    let n = 2 ^ bits in
    let parts : first / n * n + first % n ≡ first = div-add-mod' first n in
    let small : first % n < n = mod-lt first (pow_pos _) in
    let sum : c ≡ first / n * n + (c - first / n * n) = omega (arith, parts, from) in
    let rest : c - first / n * n < n = omega (arith, parts, small, few, at_is, from, before) in
    ap (λ x. x / n) sum ∙ div-mul-add (first / n) n (c - first / n * n) rest ∙ sym is
