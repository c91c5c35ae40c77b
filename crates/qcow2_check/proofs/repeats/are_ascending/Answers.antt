use Rattle.std.proofs.Common.{◌≡◌, ◌<◌, false, length, slice_index, inl, inr, arith, subst}
use Rattle.std.proofs.lemmas.Bool.{cases_lt}
use Rattle.qcow2_check.proofs.RepeatsLemmas.{not_again}
use Rattle.qcow2_check.specs.Repeats.{is_again}
use Rattle.qcow2_check.proofs.repeats.are_ascending.Goals as goal

pub loop-index-preserved : goal.loop-index-preserved
loop-index-preserved g c =
    let offsets = g.T.NamesOffsets.names c.args.table.now in
    let inside : c.loop-index.index < length offsets = omega (arith, c.loop-index-test.true, c.count-index-end.ensures) in
    let here = c.offset_at-offset.ensures in
    let so_far = c.loop-index.invariant in
    let index = c.loop-index.index in
    let last = c.loop-index.last in
    let greatest = c.max-last.ensures in
    record {
      last = λ i before. elim (cases_lt i index) [
        | inl sooner ↦ let low = so_far.last i sooner in grind (arith, low, greatest, here)
        | inr later ↦
            let same : i ≡ index = omega (arith, before, later) in
            grind (arith, same, greatest, here)
      ];
      once = λ i before some. elim (cases_lt i index) [
        | inl sooner ↦ so_far.once i sooner some
        | inr later ↦
            let same : index ≡ i = omega (arith, before, later) in
            let here : 0 < slice_index offsets index → is_again offsets index ≡ false = λ more.
            not_again offsets index last inside so_far.last (grind (arith, c.else-offset-ne0.either, here, more)) in
            subst (λ k. 0 < slice_index offsets k → is_again offsets k ≡ false) same here some
      ];
    }
