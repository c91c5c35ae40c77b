use Rattle.std.proofs.Common.{◌≡◌, ◌++◌, arith, flat_map, refl, rules, ◌∙◌}
use Rattle.std.proofs.lemmas.Result.{err_from_is_err_and}
use Rattle.qcow2_edits.specs.Edits.{cluster_numbers}
use Rattle.qcow2_session.proofs.ChangingLemmas.{change-printed, change-unconfirmed, change-unplaced, idle-edits, l2-keeps_bytes, l2-some, loads-part, of-any, one-more, part-follows}
use Rattle.qcow2_session.proofs.EditLemmas.{edits-refused}
use Rattle.qcow2_session.proofs.PrintingLemmas.{last-printed, last-unprinted}
use Rattle.qcow2_session.specs.Commands.Edit.{change_of_edits, end_of_edits, freed_line, gained_line}
use Rattle.qcow2_metadata.specs.Header.{geometry_of}
use Rattle.qcow2_metadata.specs.Table.{l2_layout}
use Rattle.qcow2_image.specs.Images.{edits_end}
use Rattle.qcow2_session.proofs.commands.edit.edit_and_wait.Goals as goal

pub returns-in_err-cluster-clause-edits : goal.returns-in_err-cluster-clause-edits
returns-in_err-cluster-clause-edits g c = grind (arith, change-unplaced)

pub returns-in_err-outcome-clause-edits : goal.returns-in_err-outcome-clause-edits
returns-in_err-outcome-clause-edits g c =
    let exit = err_from_is_err_and c.from_residual-in_err-outcome.result c.from_residual-in_err-outcome.ensures.1 in
    let named = c.in_ok-cluster.ensures in
    let ran = c.in_err-outcome.ensures in
    rw (exit.1, exit.2) (edits-refused c.args.header.now c.args.l1_index c.args.edits.now c.in_ok-cluster.cluster _ _ _ _ _ _ _
    named.exact named.storage ran.exact ran.changes ran.idle)

pub returns-in_err-sync-clause-edits : goal.returns-in_err-sync-clause-edits
returns-in_err-sync-clause-edits g c =
    let exit = err_from_is_err_and c.from_residual-in_err-sync.result c.from_residual-in_err-sync.ensures.1 in
    let named = c.in_ok-cluster.ensures in
    let ran = c.in_ok-outcome.ensures in
    let header = c.args.header.now in
    let cluster = c.in_ok-cluster.cluster in
    let edits = c.args.edits.now in
    let old = g.S.Storage.state c.args.image.now in
    let made = g.S.Storage.state c.edit_image.new.image in
    let new = g.S.Storage.state c.sync.new.self in
    let bytes : new.byte_at ≡ made.byte_at = search rules in
    let calm : made.failures ≡ old.failures = search rules in
    let run = edits_end header cluster edits old.byte_at in
    let lines = flat_map freed_line c.in_ok-outcome.outcome.freed.items ++ flat_map gained_line (cluster_numbers c.in_ok-outcome.outcome.gained.items) in
    rw (exit.1, exit.2) (change-unconfirmed (l2_layout (geometry_of header)) (change_of_edits cluster edits) (end_of_edits c.args.l1_index edits header) run lines _ old new _ _
    (λ told. rw (named.exact told) refl)
    (λ told. let exact = rw named.storage.bytes at (ran.exact (named.storage.device.tells ∙ told)) in grind (arith, exact, part-follows))
    (λ told. let decoded = rw (named.storage.bytes, ← bytes) at (ran.changes.decoded (named.storage.device.tells ∙ told)) in loads-part run (λ left. left.numbers) _ decoded)
    (one-more old.failures made.failures new.failures calm c.in_err-sync.ensures.failures)
    (l2-keeps_bytes (geometry_of header)) (g.met.S.Storage.byte_fits c.sync.new.self) (l2-some (geometry_of header))
    (λ told. idle-edits edits run old.byte_at new.byte_at (λ none. bytes ∙ ran.idle none ∙ named.storage.bytes))
    (λ told. of-any run (λ left. rw (named.storage.bytes, ← bytes) at (ran.changes.storage.others (named.storage.device.tells ∙ told)))))

pub returns-clause-edits : goal.returns-clause-edits
returns-clause-edits g c = grind (arith, change-printed, part-follows, loads-part, idle-edits, of-any)

pub returns-in_err-cluster-clause-last : goal.returns-in_err-cluster-clause-last
returns-in_err-cluster-clause-last g c = grind (arith, last-unprinted)

pub returns-in_err-outcome-clause-last : goal.returns-in_err-outcome-clause-last
returns-in_err-outcome-clause-last g c = grind (arith, last-unprinted)

pub returns-clause-last : goal.returns-clause-last
returns-clause-last g c = grind (arith, last-printed)
