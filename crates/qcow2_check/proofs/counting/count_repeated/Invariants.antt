use Rattle.std.proofs.Common.{flat_map, take}
use Rattle.qcow2_check.specs.Tally.{CountsMore, repetition}
use Rattle.qcow2_check.specs.Uses.{entry_uses}
use Rattle.qcow2_check.proofs.counting.count_repeated.Given as goal

-- what the entries before this one refer to is counted that many times
abbrev pub invariant-loop-index : goal.invariant-loop-index
invariant-loop-index l = CountsMore (flat_map (λ v. repetition l.times (entry_uses l.table.geometry v)) (take l.index l.table.numbers)) l.initial.tally l.tally
