use Rattle.std.proofs.Common.{IsTrue, arith, rules}
use Rattle.std.proofs.lemmas.Result.{err_from_is_err_and}
use Rattle.qcow2_repair.proofs.CountersLemmas.{all-between, between-more, breaks-later, counters-done}
use Rattle.qcow2_repair.proofs.RepairLemmas.{repairable-stays}
use Rattle.qcow2_repair.proofs.counters.pass_all_counters.Goals as goal

pub returns-in_err-cluster-clause-passed : goal.returns-in_err-cluster-clause-passed
returns-in_err-cluster-clause-passed g c = λ told.
    let exit = err_from_is_err_and c.from_residual.result c.from_residual.ensures.1 in
    let known : IsTrue (g.S.Storage.state c.loop-cluster.image).tells = search rules in
    let broken = c.in_err-cluster.ensures.passed known in
    rw (exit.1, exit.2) (breaks-later c.args.tables.now c.args.pass c.loop-cluster.cluster c.in_err-cluster.field-0.0 (g.S.Storage.state c.args.image.now).byte_at
    (g.S.Storage.state c.loop-cluster.image).byte_at (g.S.Storage.state c.pass_from.new.image).byte_at (c.requires.repairable told) (c.loop-cluster.invariant.passed told) broken)

pub loop-cluster-preserved : goal.loop-cluster-preserved
loop-cluster-preserved g c = record {
  passed = λ told.
      let known : IsTrue (g.S.Storage.state c.loop-cluster.image).tells = search rules in
      between-more c.args.tables.now c.args.pass 0 c.loop-cluster.cluster c.in_ok-cluster.cluster (g.S.Storage.state c.args.image.now).byte_at
      (g.S.Storage.state c.loop-cluster.image).byte_at (g.S.Storage.state c.pass_from.new.image).byte_at (omega arith) (search rules) (c.requires.repairable told)
      (c.loop-cluster.invariant.passed told) (c.in_ok-cluster.ensures.passed known);
  kept = search rules;
  repairable = λ told.
      let known : IsTrue (g.S.Storage.state c.loop-cluster.image).tells = search rules in
      repairable-stays c.args.tables.now (g.S.Storage.state c.loop-cluster.image).byte_at (g.S.Storage.state c.pass_from.new.image).byte_at
      (c.loop-cluster.invariant.repairable known) (c.in_ok-cluster.ensures.passed known).others;
  within = search rules;
  storage = search rules;
}

pub returns-in_err-sync-clause-passed : goal.returns-in_err-sync-clause-passed
returns-in_err-sync-clause-passed g c = λ told.
    let exit = err_from_is_err_and c.from_residual-in_err-sync.result c.from_residual-in_err-sync.ensures.1 in
    let passes = all-between c.args.tables.now c.args.pass c.loop-cluster.cluster (g.S.Storage.state c.args.image.now).byte_at (g.S.Storage.state c.loop-cluster.image).byte_at
    (search rules) (search rules) (c.loop-cluster.invariant.passed told) in
    rw exit.1 (counters-done c.args.tables.now c.args.pass _ (g.S.Storage.state c.args.image.now).byte_at (g.S.Storage.state c.loop-cluster.image).byte_at
    (g.S.Storage.state c.sync.new.self).byte_at passes (search rules))
