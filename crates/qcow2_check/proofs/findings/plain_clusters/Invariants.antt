use Rattle.std.proofs.Common.{ℕ, ◌*◌, ◌<◌}
use Rattle.qcow2_check.proofs.FindingsLemmas.{IsRightAt}
use Rattle.qcow2_check.proofs.findings.plain_clusters.Given as goal

-- nothing is wrong with the clusters before this chunk
abbrev pub invariant-loop-chunk : goal.invariant-loop-chunk
invariant-loop-chunk l = (k : ℕ) → k < 64 * l.chunk → IsRightAt l.block.numbers l.tally l.index l.first k
