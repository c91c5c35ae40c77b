use Rattle.std.proofs.Common.{◌≡◌, arith, flat_map, refl, rules}
use Rattle.std.proofs.lemmas.Result.{err_from_is_err_and}
use Rattle.std.proofs.lemmas.Grind.{common_steps}
use Rattle.qcow2_edits.specs.Steps.{StepsEnd, are_some_done}
use Rattle.qcow2_image.specs.Images.{steps_end}
use Rattle.qcow2_metadata.specs.Refblock.{block_geometry_of, block_layout}
use Rattle.qcow2_session.specs.Commands.Changing.{ChangeEnd}
use Rattle.qcow2_session.specs.Commands.Count.{end_of_steps, reply_line}
use Rattle.qcow2_session.proofs.ChangingLemmas.{block-keeps_bytes, block-some, change-printed, change-unconfirmed, loads-part, of-any, one-more, part-follows}
use Rattle.qcow2_session.proofs.commands.count.count_and_wait.Goals as goal

pub returns-in_err-replies-clause-counts : goal.returns-in_err-replies-clause-counts
returns-in_err-replies-clause-counts g c = grind (arith, common_steps)

pub returns-in_err-sync-clause-counts : goal.returns-in_err-sync-clause-counts
returns-in_err-sync-clause-counts g c =
    let exit = err_from_is_err_and c.from_residual-in_err-sync.result c.from_residual-in_err-sync.ensures.1 in
    let ran = c.in_ok-replies.ensures in
    let valid = c.every_header_is_valid.ensures in
    let header = c.args.header.now in
    let geometry = block_geometry_of header in
    let old = g.S.Storage.state c.args.image.now in
    let made = g.S.Storage.state c.step_image.new.image in
    let new = g.S.Storage.state c.sync.new.self in
    let bytes : new.byte_at ≡ made.byte_at = search rules in
    let calm : made.failures ≡ old.failures = search rules in
    let run = steps_end header c.args.cluster c.args.steps.now old.byte_at in
    let tell : StepsEnd → ChangeEnd = λ left. record {
      cluster = c.args.cluster;
      numbers = left.counters;
      is_written = are_some_done left.replies;
      lines = flat_map reply_line left.replies;
    } in
    rw (exit.1, exit.2) (change-unconfirmed (block_layout geometry) tell (end_of_steps c.args.cluster c.args.steps.now header) run
    (flat_map reply_line c.in_ok-replies.replies.items) _ old new _ _
    (λ _. refl)
    (λ told. let exact = ran.exact told in grind (arith, exact, part-follows))
    (λ told. let decoded = rw (← bytes) at (ran.changes.decoded told) in loads-part run (λ left. left.counters) _ decoded)
    (one-more old.failures made.failures new.failures calm c.in_err-sync.ensures.failures)
    (block-keeps_bytes geometry valid.cluster_bits valid.refcount_order) (g.met.S.Storage.byte_fits c.sync.new.self) (block-some geometry)
    (λ told. rw bytes (ran.idle told))
    (λ told. of-any run (λ left. rw (← bytes) at (ran.changes.storage.others told))))

pub returns-clause-counts : goal.returns-clause-counts
returns-clause-counts g c = grind (arith, change-printed, loads-part, of-any, part-follows)
