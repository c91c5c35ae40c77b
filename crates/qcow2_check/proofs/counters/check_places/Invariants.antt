use Rattle.std.proofs.Common.{◌≡◌, None, take}
use Rattle.qcow2_check.specs.Counters.{blocks_fault}
use Rattle.qcow2_check.proofs.counters.check_places.Given as goal

-- the blocks of the entries before this one can lie where they say
abbrev pub invariant-loop-index : goal.invariant-loop-index
invariant-loop-index l = blocks_fault l.header (take l.index l.reftable.numbers) ≡ None
