use Rattle.std.proofs.Common.{◌≡◌, ◌≤◌, ap, length, refl, rules}
use Rattle.qcow2_check.proofs.SolesLemmas.{word_counters}
use Rattle.qcow2_check.specs.Counters.{CountersState, counters_each}
use Rattle.qcow2_check.proofs.soles.Soles.mark_block.Goals as goal

pub returns-in-Some-clause-soles : goal.returns-in-Some-clause-soles
returns-in-Some-clause-soles g c = λ told before.
    let old = c.args.counters.now in
    let now = c.get_in_order.new.self in
    let reader = c.in_ok-get_in_order.ensures.reader in
    let block = c.in-Some.block.now in
    let header : now.header ≡ old.header = ap (λ (s : CountersState). s.header) reader.same in
    let reftable : now.reftable ≡ old.reftable = ap (λ (s : CountersState). s.reftable) reader.same in
    let place = rw (header, reftable) at c.in-Some.ensures.place in
    let kept = rw header at (reader.kept told) in
    let large : 64 ≤ counters_each old.header = search rules in
    let count : length block.numbers ≡ counters_each old.header = search rules in
    c.mark.ensures.soles _ (λ k below. word_counters old.header old.reftable (g.S.Storage.state c.args.image.now).byte_at now.block block c.args.first.0 _
    c.in-Some.ensures.kept place kept c.requires.first large refl k (rw count at below)) before
