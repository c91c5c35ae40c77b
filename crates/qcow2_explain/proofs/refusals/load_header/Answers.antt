use Rattle.std.proofs.Common.{refl}
use Rattle.qcow2_explain.proofs.ReadsLemmas.{reads-again}
use Rattle.qcow2_explain.proofs.refusals.load_header.Goals as goal

pub returns-in-Incompatible : goal.returns-in-Incompatible
returns-in-Incompatible g c = record {
  storage = reads-again _ _ _ _ _ (c.in_ok-header.ensures.storage.reads refl) (c.load.ensures.storage.reads refl);
}
