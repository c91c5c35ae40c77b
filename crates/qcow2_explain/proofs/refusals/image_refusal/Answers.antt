use Rattle.std.proofs.Common.{rules}
use Rattle.qcow2_explain.proofs.ReadsLemmas.{reads-other, reads-then}
use Rattle.qcow2_explain.proofs.refusals.image_refusal.Goals as goal

pub returns-in-Err : goal.returns-in-Err
returns-in-Err g c =
    record { storage = reads-then _ _ _ (reads-other c.in-Err.fault _ _ (search rules) c.in-Err.ensures.storage) c.plain_refusal.ensures.storage }
