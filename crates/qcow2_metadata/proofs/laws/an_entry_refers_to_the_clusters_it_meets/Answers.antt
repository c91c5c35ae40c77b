use Rattle.std.proofs.Common.{arith}
use Rattle.qcow2_metadata.proofs.EntriesLemmas.{allocation_is}
use Rattle.qcow2_metadata.proofs.laws.an_entry_refers_to_the_clusters_it_meets.Goals as goal

pub returns : goal.returns
returns c = λ g entry bits. allocation_is g entry (omega (arith, bits.0))
