use Rattle.std.proofs.Common.{arith}
use Rattle.qcow2_metadata.proofs.RefblockLemmas.{piece_in_eights, piece-fits, piece-within}
use Rattle.qcow2_metadata.proofs.refblock.RefBlockPacked.pack.Goals as goal
use Rattle.std.proofs.lemmas.Bool.Decides.{nat_tests}

pub pack-requires-clause-within : goal.pack-requires-clause-within
pack-requires-clause-within c = grind (arith, nat_tests, piece-within)

pub pack-requires-clause-whole : goal.pack-requires-clause-whole
pack-requires-clause-whole c = grind (arith, nat_tests, piece_in_eights)

pub pack-requires-clause-piece : goal.pack-requires-clause-piece
pack-requires-clause-piece c =
    piece-fits c.self.inside.cluster_bits c.args.piece c.self.invariant.1.numbers.bits (rw (← c.self.view_is) at c.requires.piece)
