use Rattle.std.proofs.Common.{◌≡◌, None, ◌*◌, ap, IsTrue, length, subst, inr, inl, rules}
use Rattle.std.proofs.lemmas.Result.{err_from_is_err_and}
use Rattle.qcow2_check.proofs.FindingsLemmas.{reads_twice}
use Rattle.qcow2_check.specs.Counters.{counters_each}
use Rattle.qcow2_apply.proofs.ChangedClustersLemmas.{lists-block, on-ok, reads-no-more}
use Rattle.qcow2_apply.proofs.CounterTablesLemmas.{idle-counters, place-at}
use Rattle.qcow2_apply.proofs.OrderLemmas.{stay-by-index}
use Rattle.qcow2_apply.proofs.PlannedChangesLemmas.{all-count, gains-stuck}
use Rattle.qcow2_apply.specs.ChangedClusters.{ListsCounters}
use Rattle.qcow2_apply.specs.Changes.{IsOutcomeOf}
use Rattle.qcow2_apply.specs.CounterTables.{BlockFollows, BlockIsStuck, block_numbers}
use Rattle.qcow2_apply.proofs.changed_clusters.list_named.Goals as goal

pub load_followed-requires-clause-place : goal.load_followed-requires-clause-place
load_followed-requires-clause-place g c = place-at c.args.tables.now c.args.index c.args.place (search rules) c.requires.place

pub returns-in_err-after-clause-fault : goal.returns-in_err-after-clause-fault
returns-in_err-after-clause-fault g c =
    let exit = err_from_is_err_and c.from_residual.result c.from_residual.ensures.1 in
    rw (exit.1, exit.2) c.in_err-after.ensures.fault

pub returns-in_err-risen-clause-fault : goal.returns-in_err-risen-clause-fault
returns-in_err-risen-clause-fault g c =
    let exit = err_from_is_err_and c.from_residual-in_err-risen.result c.from_residual-in_err-risen.ensures.1 in
    rw (exit.1, exit.2) (elim c.in_err-risen.ensures.fault [
      | inl outside ↦ inl outside
      | inr stuck ↦ inr (
        stuck.0,
        λ told.
            let before = g.S.Storage.state c.args.image.now in
            let once = g.S.Storage.state c.load_left.new.image in
            let known : IsTrue once.tells = search rules in
            let same : once.byte_at ≡ before.byte_at = search rules in
            gains-stuck c.args.tables.now c.args.gains.now c.args.losses.now c.args.index c.args.place before.byte_at
            c.requires.sorted (search rules) (search rules) (g.met.S.Storage.byte_fits c.args.image.now)
            (subst (λ bytes. BlockIsStuck c.args.tables.now c.args.gains.now c.args.index (block_numbers c.args.tables.now c.args.place bytes)) same (stuck.1 known)),
      )
    ])

pub returns-then-is_none-clause-listed : goal.returns-then-is_none-clause-listed
returns-then-is_none-clause-listed g c = on-ok c.list_block.result _ _ (λ lists told.
    let before = g.S.Storage.state c.args.image.now in
    let tables = c.args.tables.now in
    let numbers = c.args.before.now.numbers in
    let left = c.in_ok-after.ensures.left told in
    let none : IsOutcomeOf c.args.gains.now c.args.index None = search rules in
    let rises = subst (λ list. BlockFollows tables c.args.gains.now c.args.index list numbers) (c.requires.before.1 told)
    (idle-counters tables c.args.gains.now c.args.index numbers c.requires.sorted.gains_bits none c.requires.before.0.count) in
    let first_is : c.args.index * c.rb_entries.result ≡ c.args.index * counters_each tables.header = ap (λ n. c.args.index * n) (search rules) in
    lists-block tables c.args.gains.now c.args.losses.now c.args.index (length numbers) c.args.place before.byte_at numbers numbers
    left.risen c.in_ok-after.after.numbers c.args.clusters.now c.list_block.new.clusters c.requires.sorted c.requires.place (c.requires.before.1 told)
    rises left.gained left.lost (search rules)
    (subst (λ n. ListsCounters n (length numbers) numbers numbers c.in_ok-after.after.numbers c.args.clusters.now c.list_block.new.clusters)
    first_is lists)) c.list_block.ensures.listed

pub returns-then-is_none-clause-counts : goal.returns-then-is_none-clause-counts
returns-then-is_none-clause-counts g c = on-ok c.list_block.result _ _ (λ lists told.
    let left = c.in_ok-after.ensures.left told in
    all-count c.args.tables.now c.args.gains.now c.args.losses.now c.args.index c.args.place (g.S.Storage.state c.args.image.now).byte_at left.risen
    c.in_ok-after.after.numbers c.requires.sorted c.requires.place left.gained left.fits left.lost) c.list_block.ensures.listed

pub returns-then-is_none-clause-order : goal.returns-then-is_none-clause-order
returns-then-is_none-clause-order g c = on-ok c.list_block.result _ _ (stay-by-index c.args.index (counters_each c.args.tables.now.header) (c.args.index * c.rb_entries.result)
    (length c.args.before.now.numbers) c.args.clusters.now c.list_block.new.clusters (ap (λ n. c.args.index * n) (search rules)) c.requires.before.0.count)
    c.list_block.ensures.order

pub returns-then-is_none-clause-storage : goal.returns-then-is_none-clause-storage
returns-then-is_none-clause-storage g c =
    reads-no-more c.in_ok-after.after c.list_block.result (g.S.Storage.state c.args.image.now) (g.S.Storage.state c.load_left.new.image)
    (search rules) c.list_block.ensures.fault

pub returns-clause-listed : goal.returns-clause-listed
returns-clause-listed g c = on-ok c.list_block-2.result _ _ (λ lists told.
    let before = g.S.Storage.state c.args.image.now in
    let once = g.S.Storage.state c.load_left.new.image in
    let tables = c.args.tables.now in
    let numbers = c.args.before.now.numbers in
    let known : IsTrue once.tells = search rules in
    let same : once.byte_at ≡ before.byte_at = search rules in
    let left = c.in_ok-after.ensures.left told in
    let rises = subst (λ bytes. BlockFollows tables c.args.gains.now c.args.index (block_numbers tables c.args.place bytes)
    c.in_ok-risen.risen.numbers) same (c.in_ok-risen.ensures.followed known) in
    let first_is : c.args.index * c.rb_entries.result ≡ c.args.index * counters_each tables.header = ap (λ n. c.args.index * n) (search rules) in
    lists-block tables c.args.gains.now c.args.losses.now c.args.index (length numbers) c.args.place before.byte_at numbers c.in_ok-risen.risen.numbers
    left.risen c.in_ok-after.after.numbers c.args.clusters.now c.list_block-2.new.clusters c.requires.sorted c.requires.place (c.requires.before.1 told)
    rises left.gained left.lost (search rules)
    (subst (λ n. ListsCounters n (length numbers) numbers c.in_ok-risen.risen.numbers c.in_ok-after.after.numbers c.args.clusters.now c.list_block-2.new.clusters)
    first_is lists)) c.list_block-2.ensures.listed

pub returns-clause-counts : goal.returns-clause-counts
returns-clause-counts g c = on-ok c.list_block-2.result _ _ (λ lists told.
    let left = c.in_ok-after.ensures.left told in
    all-count c.args.tables.now c.args.gains.now c.args.losses.now c.args.index c.args.place (g.S.Storage.state c.args.image.now).byte_at left.risen
    c.in_ok-after.after.numbers c.requires.sorted c.requires.place left.gained left.fits left.lost) c.list_block-2.ensures.listed

pub returns-clause-order : goal.returns-clause-order
returns-clause-order g c = on-ok c.list_block-2.result _ _ (stay-by-index c.args.index (counters_each c.args.tables.now.header) (c.args.index * c.rb_entries.result)
    (length c.args.before.now.numbers) c.args.clusters.now c.list_block-2.new.clusters (ap (λ n. c.args.index * n) (search rules)) c.requires.before.0.count)
    c.list_block-2.ensures.order

pub returns-clause-storage : goal.returns-clause-storage
returns-clause-storage g c =
    let first = g.S.Storage.state c.args.image.now in
    let last = g.S.Storage.state c.load_followed.new.image in
    let twice = reads_twice c.in_ok-after.after c.in_ok-risen.risen c.in_ok-risen.risen first (g.S.Storage.state c.load_left.new.image) last
    (search rules) (search rules) in
    reads-no-more c.in_ok-risen.risen c.list_block-2.result first last twice c.list_block-2.ensures.fault
