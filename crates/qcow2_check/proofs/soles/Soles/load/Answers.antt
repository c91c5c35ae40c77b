use Rattle.std.proofs.Common.{◌≡◌, ◌+◌, ◌∙◌, IsTrue, ap, rules}
use Rattle.std.proofs.Math.Nat.{add-mod_right}
use Rattle.qcow2_check.specs.Counters.{CountersState, counters_each}
use Rattle.qcow2_check.proofs.soles.Soles.load.Goals as goal

pub loop-first-preserved : goal.loop-first-preserved
loop-first-preserved g c =
    let before = c.loop-first.invariant in
    let mid = g.S.Storage.state c.loop-first.image in
    let old = c.args.counters.now in
    let header : c.loop-first.counters.header ≡ old.header = ap (λ (s : CountersState). s.header) before.reader.same in
    let reftable : c.loop-first.counters.reftable ≡ old.reftable = ap (λ (s : CountersState). s.reftable) before.reader.same in
    record {
      soles = λ told.
          let known : IsTrue mid.tells = rw before.storage.device.tells told in
          rw (header, reftable, before.storage.bytes) at (c.mark_block.ensures.soles known) (before.soles told);
      len = search rules;
      first = λ below.
          let sum : c.saturating_add-first.result ≡ c.loop-first.first + counters_each old.header = search rules in
          rw sum (add-mod_right c.loop-first.first (counters_each old.header) ∙ before.first (search rules));
      reader = search rules;
      storage = search rules;
    }
