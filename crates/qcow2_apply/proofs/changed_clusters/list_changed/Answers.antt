use Rattle.std.proofs.Common.{◌≡◌, Ok, ◌+◌, ◌*◌, ◌/◌, IsTrue, inl, inr, length, refl, subst, arith, rules}
use Rattle.std.proofs.lemmas.Result.{err_from_is_err_and}
use Rattle.qcow2_apply.proofs.ChangedClustersLemmas.{all-counted, listed-all, listed-next, listed-none, reads-no-more, reads-then}
use Rattle.qcow2_apply.proofs.PlannedChangesLemmas.{counts-next}
use Rattle.qcow2_check.proofs.FindingsLemmas.{reads_twice}
use Rattle.qcow2_apply.proofs.OrderLemmas.{end-later, in-order, none-in-order}
use Rattle.qcow2_check.specs.Counters.{counters_each}
use Rattle.qcow2_base.specs.Format.{max_file_length}
use Rattle.qcow2_apply.specs.ChangedClusters.{ListsBlock}
use Rattle.qcow2_apply.proofs.changed_clusters.list_changed.Goals as goal

pub loop-index-init : goal.loop-index-init
loop-index-init g c = record {
  listed = λ told. listed-none c.args.tables.now c.args.gains.now c.args.losses.now (g.S.Storage.state c.args.image.now).byte_at _ (search rules) (search rules) (search rules);
  order = end-later 0 (0 * counters_each c.args.tables.now.header) _ (omega arith) (none-in-order _ (search rules) (search rules) (search rules));
  counts = λ told cluster later below. absurd (omega (arith, below));
  storage = search rules;
}

pub returns-in_err-list_at-clause-fault : goal.returns-in_err-list_at-clause-fault
returns-in_err-list_at-clause-fault g c =
    let exit = err_from_is_err_and c.from_residual.result c.from_residual.ensures.1 in
    rw (exit.1, exit.2) (elim c.in_err-list_at.ensures.fault [
      | inl outside ↦ inl outside
      | inr cannot ↦ inr (
        cannot.0,
        λ told.
            let known : IsTrue (g.S.Storage.state c.loop-index.image).tells = search rules in
            let same : (g.S.Storage.state c.loop-index.image).byte_at ≡ (g.S.Storage.state c.args.image.now).byte_at = search rules in
            rw same at (cannot.1 known),
      )
    ])

pub returns-in_err-list_at-clause-storage : goal.returns-in_err-list_at-clause-storage
returns-in_err-list_at-clause-storage g c =
    let exit = err_from_is_err_and c.from_residual.result c.from_residual.ensures.1 in
    rw (exit.1, exit.2) (reads-then c.loop-index.index c.in_err-list_at.field-0.0 (g.S.Storage.state c.args.image.now) (g.S.Storage.state c.loop-index.image)
    (g.S.Storage.state c.list_at.new.image) c.loop-index.invariant.storage c.in_err-list_at.ensures.storage)

pub loop-index-preserved : goal.loop-index-preserved
loop-index-preserved g c = record {
  listed = λ told.
      let known : IsTrue (g.S.Storage.state c.loop-index.image).tells = search rules in
      let bytes : (g.S.Storage.state c.loop-index.image).byte_at ≡ (g.S.Storage.state c.args.image.now).byte_at = c.loop-index.invariant.storage.bytes in
      listed-next c.args.tables.now c.args.gains.now c.args.losses.now c.loop-index.index (g.S.Storage.state c.args.image.now).byte_at c.loop-index.clusters
      c.list_at.new.clusters (c.loop-index.invariant.listed told)
      (subst (λ there. ListsBlock c.args.tables.now c.args.gains.now c.args.losses.now c.loop-index.index there c.loop-index.clusters c.list_at.new.clusters) bytes
      (c.in_ok-list_at.ensures.listed known));
  order = c.in_ok-list_at.ensures.order c.loop-index.invariant.order;
  counts = λ told.
      let known : IsTrue (g.S.Storage.state c.loop-index.image).tells = search rules in
      let same : (g.S.Storage.state c.loop-index.image).byte_at ≡ (g.S.Storage.state c.args.image.now).byte_at = c.loop-index.invariant.storage.bytes in
      counts-next c.args.tables.now c.args.gains.now c.args.losses.now 0 c.loop-index.index (g.S.Storage.state c.args.image.now).byte_at
      (c.loop-index.invariant.counts told) (rw same at (c.in_ok-list_at.ensures.counts known));
  storage = reads_twice c.loop-index.index (tt {0}) (c.loop-index.index + 1) (g.S.Storage.state c.args.image.now) (g.S.Storage.state c.loop-index.image)
      (g.S.Storage.state c.list_at.new.image) c.loop-index.invariant.storage c.in_ok-list_at.ensures.storage;
}

pub list_at-requires-clause-index : goal.list_at-requires-clause-index
list_at-requires-clause-index g c = c.listed_blocks-index-end.ensures.fits c.loop-index.index (search rules)

pub returns-clause-listed : goal.returns-clause-listed
returns-clause-listed g c = λ told. listed-all c.args.tables.now c.args.gains.now c.args.losses.now c.loop-index.index (g.S.Storage.state c.args.image.now).byte_at
    c.loop-index.clusters (λ cluster. all-counted c.args.tables.now c.listed_blocks-index-end.result (length c.args.tables.now.reftable)
    (max_file_length / counters_each c.args.tables.now.header) c.loop-index.index cluster (search rules) (search rules) refl refl (search rules))
    (c.loop-index.invariant.listed told) (in-order _ c.loop-index.clusters c.loop-index.invariant.order)

pub returns-clause-counts : goal.returns-clause-counts
returns-clause-counts g c = λ told cluster later below. c.loop-index.invariant.counts told cluster later (omega (arith, below, c.listed_blocks-index-end.ensures.value, c.loop-index-test.false))

pub returns-clause-storage : goal.returns-clause-storage
returns-clause-storage g c = reads-no-more c.loop-index.index (Ok c.loop-index.clusters) (g.S.Storage.state c.args.image.now) (g.S.Storage.state c.loop-index.image)
    c.loop-index.invariant.storage tt
