use Rattle.std.proofs.Common.{◌≡◌, ◌++◌, [], ◌∷◌, ◌∙◌, IsTrue, ap, arith, rules}
use Rattle.std.proofs.lemmas.List.{take_all}
use Rattle.qcow2_check.specs.Counters.{CountersState}
use Rattle.qcow2_session.proofs.RefcountLemmas.{counted-all, counted-more}
use Rattle.qcow2_session.proofs.commands.refcount.counted_clusters.Goals as goal

pub loop-cluster-preserved : goal.loop-cluster-preserved
loop-cluster-preserved g c =
    let so_far = c.loop-cluster.invariant in
    record {
      counted = λ told.
          let items : c.push.new.self.items ≡ c.loop-cluster.counted.items ++ record { cluster = _; counter = c.in_ok-counter.counter } ∷ [] = search rules in
          items ∙ counted-more _ _ _ _ _ _ c.loop-cluster.cluster-index _ _ _ c.loop-cluster-test.true told so_far.storage so_far.reader
          c.in_ok-counter.ensures.reads.exact (so_far.counted told);
      reader = search rules;
      storage = search rules;
    }

pub returns : goal.returns
returns g c =
    let so_far = c.loop-cluster.invariant in
    let before = g.S.Storage.state c.args.image.now in
    let read = g.S.Storage.state c.new.new.image in
    let start = c.in_ok-counters.counters in
    let clusters = c.args.clusters.now in
    record {
      exact = λ told.
          let still : IsTrue read.tells = search rules in
          let same : read.byte_at ≡ before.byte_at = search rules in
          counted-all c.args.header.now start before.byte_at read.byte_at clusters _ c.loop-cluster.counted.items
          (c.in_ok-counters.ensures.reads.exact told) (ap (λ (reader : CountersState). reader.header) c.in_ok-counters.ensures.begun) same
          (take_all c.loop-cluster.cluster-index clusters (omega arith)) (so_far.counted still);
      faults = tt;
      storage = search rules;
    }
