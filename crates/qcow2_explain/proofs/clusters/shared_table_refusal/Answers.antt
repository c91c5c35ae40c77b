use Rattle.std.proofs.lemmas.Result.{err_from_is_err_and}
use Rattle.qcow2_explain.proofs.ReadsLemmas.{reads-fault, reads-ok, reads-then}
use Rattle.qcow2_explain.proofs.clusters.shared_table_refusal.Goals as goal

pub returns-in_err-l1_index : goal.returns-in_err-l1_index
returns-in_err-l1_index g c =
    let exit = err_from_is_err_and c.from_residual-in_err-l1_index.result c.from_residual-in_err-l1_index.ensures.1 in
    record {
      storage = rw (exit.1, exit.2) (reads-then _ _ _
          (reads-ok c.in_ok-l1_table.l1_table _ _ c.in_ok-l1_table.ensures.reads.storage)
          (reads-then _ _ _
          (reads-ok c.in_ok-counters.counters _ _ c.in_ok-counters.ensures.reads.storage)
          (reads-fault c.in_err-l1_index.field-0.0 _ _ c.in_err-l1_index.ensures.storage)));
    }
