use Rattle.std.proofs.Common.{arith, refl, rules}
use Rattle.qcow2_metadata.proofs.EntriesLemmas.{l2_is_lawful}
use Rattle.qcow2_metadata.proofs.entries.l2_entry.L2EntryTableEntry.is_lawful.Goals as goal

pub returns : goal.returns
returns c =
    rw (c.reserved_bits.ensures, c.is_compressed-is_compressed.ensures)
    (l2_is_lawful c.args.header.now.v2.cluster_bits c.args.value _ _ _ (omega arith) (omega arith) refl (search rules) (search rules))
