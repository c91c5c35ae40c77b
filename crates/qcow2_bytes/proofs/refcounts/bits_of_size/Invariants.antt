use Rattle.std.proofs.Common.{◌≡◌, ◌≤◌}
use Rattle.qcow2_bytes.specs.Refcounts.{bits_of_size}
use Rattle.qcow2_bytes.proofs.RefcountsLemmas.{bits_from}
use Rattle.qcow2_bytes.proofs.refcounts.bits_of_size.Given as goal

-- the cluster bits are none of those before
abbrev pub invariant-loop-bits : goal.invariant-loop-bits
invariant-loop-bits l = record {
  least : 9 ≤ l.bits;
  left : bits_of_size l.size ≡ bits_from l.size l.bits;
}
