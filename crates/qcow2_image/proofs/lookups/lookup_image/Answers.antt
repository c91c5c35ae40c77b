use Rattle.std.proofs.Common.{arith, rules}
use Rattle.std.proofs.lemmas.Grind.{common_steps}
use Rattle.qcow2_image.proofs.LookupsLemmas.{reads-then}
use Rattle.qcow2_image.proofs.lookups.lookup_image.Goals as goal

pub returns : goal.returns
returns g c = record {
  exact = grind (arith, common_steps);
  faults = search rules;
  storage = reads-then c.in_ok-header.header c.lookup_with_header.result _ _ _ (search rules) c.lookup_with_header.ensures.reads.storage;
}
