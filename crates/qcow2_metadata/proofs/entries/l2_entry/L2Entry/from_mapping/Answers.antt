use Rattle.std.proofs.lemmas.Bool.Decides.{nat_tests}
use Rattle.std.proofs.Common.{arith}
use Rattle.qcow2_metadata.proofs.L2MappingLemmas.{entry_is_lawful, entry_reads_back}
use Rattle.qcow2_metadata.proofs.entries.l2_entry.L2Entry.from_mapping.Goals as goal

pub returns-clause-number : goal.returns-clause-number
returns-clause-number c = grind (arith, nat_tests)

pub returns-clause-lawful : goal.returns-clause-lawful
returns-clause-lawful c = rw (returns-clause-number c) (entry_is_lawful c.args.cluster_bits c.args.mapping c.requires.placed c.requires.fits)

pub returns-clause-reads_back : goal.returns-clause-reads_back
returns-clause-reads_back c = rw (returns-clause-number c) (λ guest_cluster external. entry_reads_back c.args.cluster_bits c.args.mapping guest_cluster external c.requires.placed c.requires.fits)
