use Rattle.std.proofs.Common.{arith}
use Rattle.std.proofs.lemmas.Bool.Decides.{nat_tests}
use Rattle.qcow2_metadata.proofs.RefblockLemmas.{narrow_end}
use Rattle.qcow2_metadata.proofs.refblock.counters.Counters.unpack.Goals as goal

pub slice_bounds-unpack_narrow-end : goal.slice_bounds-unpack_narrow-end
slice_bounds-unpack_narrow-end c = grind (arith, nat_tests, narrow_end)
