use Rattle.std.proofs.Common.{◌++◌, [], ◌∷◌, ap, inl, inr, rules, subst, ◌∙◌}
use Rattle.std.proofs.KnownBytes.{Appends-trans}
use Rattle.std.proofs.lemmas.Result.{err_from_is_err_and}
use Rattle.qcow2_session.proofs.MapLemmas.{extents_text-more}
use Rattle.qcow2_session.proofs.OutputLemmas.{part-after}
use Rattle.qcow2_image.specs.Extents.{ExtentsState, IsExtent, RefusesExtent, contents_for}
use Rattle.qcow2_image.proofs.ExtentsLemmas.{extents_more}
use Rattle.qcow2_session.proofs.commands.map.print_all.Goals as goal

pub returns-in_err-extent-clause-prints : goal.returns-in_err-extent-clause-prints
returns-in_err-extent-clause-prints g c =
    let exit = err_from_is_err_and c.from_residual.result c.from_residual.ensures.1 in
    let image = (g.S.Storage.state c.args.image.now).byte_at in
    let before = c.loop-extent.invariant in
    let at = c.loop-extent.extents.position in
    let fault = c.in_err-extent.field-0.0 in
    rw (exit.1, exit.2) (record {
      extents = tt;
      refused = λ told.
          let printed = before.printed told in
          let here = rw before.reads.bytes at (c.in_err-extent.ensures.extent.2 (before.reads.device.tells ∙ told)) in
          let why = subst (λ (reader : ExtentsState). RefusesExtent (contents_for reader image) reader.header.v2.size at fault) before.same here in
          inr (printed.0, (at, printed.1, why), printed.2);
    })

pub returns-in_err-print_extent-clause-prints : goal.returns-in_err-print_extent-clause-prints
returns-in_err-print_extent-clause-prints g c =
    let exit = err_from_is_err_and c.from_residual-in_err-print_extent.result c.from_residual-in_err-print_extent.ensures.1 in
    let image = (g.S.Storage.state c.args.image.now).byte_at in
    let start = c.args.extents.now in
    let before = c.loop-extent.invariant in
    let at = c.loop-extent.extents.position in
    let extent = c.in-Some.extent in
    let comes = rw c.in-Some.is at c.in_ok-extent.ensures.extent in
    let failed = c.in_err-print_extent.ensures in
    rw (exit.1, exit.2) (record {
      extents = tt;
      refused = λ told.
          let printed = before.printed told in
          let here = rw before.reads.bytes at (comes.4 (before.reads.device.tells ∙ told)) in
          let is = subst (λ (reader : ExtentsState). IsExtent (contents_for reader image) reader.header.v2.size at extent) before.same here in
          inl (
            (failed.fault, search rules),
            printed.0 ++ (extent ∷ []),
            _,
            extents_more (contents_for start image) start.header.v2.size start.position at printed.0 extent printed.1 is,
            rw (extents_text-more c.args.format printed.0 extent) (part-after _ _ _ _ _ printed.2 failed.part),
          );
    })

pub loop-extent-preserved : goal.loop-extent-preserved
loop-extent-preserved g c =
    let image = (g.S.Storage.state c.args.image.now).byte_at in
    let start = c.args.extents.now in
    let before = c.loop-extent.invariant in
    let at = c.loop-extent.extents.position in
    let extent = c.in-Some.extent in
    let comes = rw c.in-Some.is at c.in_ok-extent.ensures.extent in
    let moves = c.in_ok-extent.ensures.reader in
    record {
      printed = λ told.
          let printed = before.printed told in
          let here = rw before.reads.bytes at (comes.4 (before.reads.device.tells ∙ told)) in
          let is = subst (λ (reader : ExtentsState). IsExtent (contents_for reader image) reader.header.v2.size at extent) before.same here in (
            printed.0 ++ (extent ∷ []),
            rw comes.2 (extents_more (contents_for start image) start.header.v2.size start.position at printed.0 extent printed.1 is),
            rw (extents_text-more c.args.format printed.0 extent) (Appends-trans _ _ _ _ _ printed.2 c.in_ok-print_extent.ensures.text),
          );
      same = moves.same ∙ ap (λ (reader : ExtentsState). record reader { position = c.next.new.self.position; table = c.next.new.self.table; ahead = c.next.new.self.ahead }) before.same;
      kept = λ told. rw before.reads.bytes at (moves.kept (before.reads.device.tells ∙ told));
      reads = search rules;
    }
