use Rattle.std.proofs.Common.{◌≡◌, ℕ, take}
use Rattle.qcow2_metadata.specs.Table.L2Guards.{handed_back}
use Rattle.qcow2_apply.proofs.changes.adding.joined_ranges.Given as goal

-- the ranges have the clusters before these
abbrev pub invariant-loop-clusters : goal.invariant-loop-clusters
invariant-loop-clusters l = (c : ℕ) → handed_back l.joined.items c ≡ handed_back (take l.clusters-index l.list) c
