use Rattle.qcow2_check.proofs.RepeatsLemmas.{AreGathered}
use Rattle.qcow2_check.proofs.repeats.gather.Given as goal

-- the counts of the places before this one in order are gathered
abbrev pub invariant-loop-place : goal.invariant-loop-place
invariant-loop-place l = AreGathered l.offsets l.order l.times l.place l.first
