use Rattle.std.proofs.lemmas.Result.{err_from_is_err_and}
use Rattle.qcow2_explain.proofs.ReadsLemmas.{reads-fault, reads-found, reads-ok, reads-spared, reads-then}
use Rattle.qcow2_explain.proofs.clusters.cluster_refusal.Goals as goal

pub returns-in_err-finding : goal.returns-in_err-finding
returns-in_err-finding g c =
    let exit = err_from_is_err_and c.from_residual-in_err-finding.result c.from_residual-in_err-finding.ensures.1 in
    record {
      storage = rw (exit.1, exit.2) (reads-then _ _ _
          (reads-ok c.in_ok-findings.findings _ _ c.in_ok-findings.ensures.reads.storage)
          (reads-fault c.in_err-finding.field-0.0 _ _ c.in_err-finding.ensures.storage));
    }

pub returns-in-Some : goal.returns-in-Some
returns-in-Some g c = record {
  storage = reads-then _ _ _
      (reads-ok c.in_ok-findings.findings _ _ c.in_ok-findings.ensures.reads.storage)
      (reads-found _ _ _ _ c.in_ok-finding.ensures.storage);
}

pub returns-in_err-at-in-Some : goal.returns-in_err-at-in-Some
returns-in_err-at-in-Some g c = record {
  storage = reads-then _ _ _
      (reads-ok c.in_ok-findings.findings _ _ c.in_ok-findings.ensures.reads.storage)
      (reads-spared _ _ _ c.in_ok-finding.ensures.storage);
}
