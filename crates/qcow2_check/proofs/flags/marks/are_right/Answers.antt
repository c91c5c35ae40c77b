use Rattle.std.proofs.lemmas.Bool.{cases_lt}
use Rattle.std.proofs.lemmas.Bool.Decides.{nat_tests}
use Rattle.std.proofs.Common.{◌≡◌, false, IsTrue, arith, inl, inr}
use Rattle.qcow2_metadata.specs.Header.{geometry}
use Rattle.qcow2_check.proofs.FlagsLemmas.{inside_only}
use Rattle.qcow2_check.proofs.flags.marks.are_right.Goals as goal

pub loop-k-preserved : goal.loop-k-preserved
loop-k-preserved c = λ right inside j below.
    let before : IsTrue c.loop-k.right = grind (arith, nat_tests, right) in
    let this : IsTrue c.is_right-right.result = grind (arith, nat_tests, right) in
    let table = c.args.table.now in
    let same_table : geometry c.cluster_bits-cluster_bits.result false ≡ table.geometry =
    rw c.cluster_bits-cluster_bits.ensures.value (inside_only table.geometry inside) in
    elim (cases_lt j c.loop-k.k) [
      | inl sooner ↦ c.loop-k.invariant before inside j sooner
      | inr later ↦
          let last : j ≡ c.loop-k.k = omega (arith, below, later) in
          rw last (rw (same_table, c.entry_at.ensures.number) at (c.is_right-right.ensures this))
    ]
