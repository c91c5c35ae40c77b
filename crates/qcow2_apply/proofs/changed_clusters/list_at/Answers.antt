use Rattle.std.proofs.Common.{◌≡◌, IsTrue, arith, inr, inl, rules}
use Rattle.std.proofs.lemmas.Result.{err_from_is_err_and}
use Rattle.qcow2_check.specs.Counters.{counters_each}
use Rattle.qcow2_apply.proofs.ChangedClustersLemmas.{on-ok}
use Rattle.qcow2_apply.proofs.CounterTablesLemmas.{place-at}
use Rattle.qcow2_apply.proofs.OrderLemmas.{end-later, index-later}
use Rattle.qcow2_apply.proofs.changed_clusters.list_at.Goals as goal

pub returns-in_err-before-clause-fault : goal.returns-in_err-before-clause-fault
returns-in_err-before-clause-fault g c =
    let exit = err_from_is_err_and c.from_residual.result c.from_residual.ensures.1 in
    let place = place-at c.args.tables.now c.args.index c.in-Some.place (search rules) (search rules) in
    rw (exit.1, exit.2) (elim c.in_err-before.ensures.reads.faults [
      | inl refused ↦ absurd (grind (arith, place, refused))
      | inr outside ↦ inl outside
    ])

pub returns-then-is_none-2-clause-order : goal.returns-then-is_none-2-clause-order
returns-then-is_none-2-clause-order g c = end-later _ _ c.args.clusters.now (index-later c.args.index (counters_each c.args.tables.now.header))

pub returns-in_default-clause-order : goal.returns-in_default-clause-order
returns-in_default-clause-order g c = end-later _ _ c.args.clusters.now (index-later c.args.index (counters_each c.args.tables.now.header))

pub returns-clause-counts : goal.returns-clause-counts
returns-clause-counts g c = on-ok c.list_named.result _ _ (λ counts told.
    let known : IsTrue (g.S.Storage.state c.load.new.image).tells = search rules in
    let same : (g.S.Storage.state c.load.new.image).byte_at ≡ (g.S.Storage.state c.args.image.now).byte_at = search rules in
    rw same at (counts known)) c.list_named.ensures.counts
