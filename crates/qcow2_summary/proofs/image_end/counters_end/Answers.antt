use Rattle.std.proofs.Common.{rules, ◌-◌, ◌≡◌, IsTrue, Ok, ap, inl, inr, refl, arith}
use Rattle.std.proofs.lemmas.Bool.{cases_lt}
use Rattle.qcow2_check.specs.Counters.{IsSameButBlock}
use Rattle.qcow2_check.proofs.FindingsLemmas.{reads_twice}
use Rattle.qcow2_summary.specs.ImageEnd.{is_counted}
use Rattle.qcow2_summary.proofs.ImageEndLemmas.{counter-read, end_of-unique, last-counted}
use Rattle.qcow2_summary.proofs.image_end.counters_end.Goals as goal

pub returns-then-branch-ne0-clause-reads : goal.returns-then-branch-ne0-clause-reads
returns-then-branch-ne0-clause-reads g c =
    let kept = c.loop-end.invariant in
    let counters = c.args.counters.now in
    let image = g.S.Storage.state c.args.image.now in
    record {
      exact = λ told. ap Ok (end_of-unique (is_counted counters.header counters.reftable image.byte_at) c.args.limit c.loop-end.end (record {
        within = kept.within;
        last = λ k is. last-counted counters.header counters.reftable image.byte_at c.loop-end.end c.in_ok-get_in_order.field-0 k
            (counter-read c.loop-end.end image _ counters c.loop-end.counters (c.loop-end.end - 1) c.in_ok-get_in_order.field-0 told kept.storage kept.reader c.in_ok-get_in_order.ensures.reads.exact) c.if-branch-ne0.true is;
        rest = kept.none told;
      }));
      faults = tt;
      storage = reads_twice c.loop-end.end c.in_ok-get_in_order.field-0 c.loop-end.end _ _ _ kept.storage (search rules);
    }

pub returns-clause-reads : goal.returns-clause-reads
returns-clause-reads g c =
    let kept = c.loop-end.invariant in
    let counters = c.args.counters.now in
    let image = g.S.Storage.state c.args.image.now in
    record {
      exact = λ told. ap Ok (end_of-unique (is_counted counters.header counters.reftable image.byte_at) c.args.limit 0 (record {
        within = omega arith;
        last = λ k is. absurd (omega (arith, is));
        rest = λ c' from to. kept.none told c' (omega (arith, c.loop-end-test)) to;
      }));
      faults = tt;
      storage = grind (arith, kept.storage);
    }

pub loop-end-preserved : goal.loop-end-preserved
loop-end-preserved g c =
    let kept = c.loop-end.invariant in
    let counters = c.args.counters.now in
    let now = c.get_in_order.new.self in
    let image = g.S.Storage.state c.args.image.now in
    let mid = g.S.Storage.state c.loop-end.image in
    let last = c.loop-end.end - 1 in
    let reader : IsSameButBlock image counters now = search rules in
    record {
      none = λ told k from to. elim (cases_lt k last) [
        | inl below ↦
            let known : IsTrue mid.tells = rw kept.storage.device.tells told in
            let zero = counter-read c.loop-end.end image mid counters now k 0 told kept.storage reader
            (λ it. ap Ok (c.free_start-end.ensures.free mid.byte_at (c.in_ok-get_in_order.ensures.reader.kept known) k from below)) in
            rw zero refl
        | inr above ↦ elim (cases_lt last k) [
          | inl after ↦ kept.none told k (omega (arith, after)) to
          | inr here ↦
              let same : last ≡ k = omega (arith, above, here) in
              let zero = counter-read c.loop-end.end image mid counters c.loop-end.counters last c.in_ok-get_in_order.field-0 told kept.storage kept.reader
              c.in_ok-get_in_order.ensures.reads.exact in
              rw (← same, zero, c.if-branch-ne0.false) refl
        ]
      ];
      within = omega (arith, kept.within, c.free_start-end.ensures.within);
      reader = reader;
      storage = reads_twice c.loop-end.end c.in_ok-get_in_order.field-0 c.free_start-end.result image mid (g.S.Storage.state c.get_in_order.new.image) kept.storage (search rules);
    }
