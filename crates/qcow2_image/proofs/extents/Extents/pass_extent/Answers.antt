use Rattle.std.proofs.Common.{ap, ◌≡◌, ◌∙◌, ◌<◌, Ok, refl, rules, arith}
use Rattle.std.proofs.lemmas.Result.{err_from_is_err_and}
use Rattle.qcow2_image.proofs.ExtentsLemmas.{extent_that_ends, pieces_join, reads_any, refused_at_end, refused_at_start, stays_twice}
use Rattle.qcow2_image.proofs.LookupsLemmas.{reads-then}
use Rattle.qcow2_image.specs.Extents.{Contents, ExtentsState, contents_for}
use Rattle.qcow2_image.proofs.extents.Extents.pass_extent.Goals as goal

pub returns-in_err-content-in-None-clause-extent : goal.returns-in_err-content-in-None-clause-extent
returns-in_err-content-in-None-clause-extent g c =
    let exit = err_from_is_err_and c.from_residual.result c.from_residual.ensures.1 in
    let position : c.self.inside.position ≡ c.args.self.now.position = ap (λ (state : ExtentsState). state.position) c.self.view_is in
    let contents : Contents = contents_for c.args.self.now (g.S.Storage.state c.args.image.now).byte_at in
    rw (exit.1, exit.2) (
      search rules,
      c.requires.within,
      λ told. refused_at_start contents _ _ _ c.requires.within (rw position at (c.in_err-content-in-None.ensures.told told)),
    )

pub returns-in_err-next-clause-extent : goal.returns-in_err-next-clause-extent
returns-in_err-next-clause-extent g c =
    let exit = err_from_is_err_and c.from_residual-in_err-next.result c.from_residual-in_err-next.ensures.1 in
    let kept = c.loop-end.invariant in
    let below : c.loop-end.end < c.args.self.now.header.v2.size = omega (arith, c.loop-end-test.true, kept.size) in
    let contents : Contents = contents_for c.args.self.now (g.S.Storage.state c.args.image.now).byte_at in
    rw (exit.1, exit.2) (
      search rules,
      c.requires.within,
      λ told.
          let why = rw (kept.reader.same, kept.storage.bytes) at (c.in_err-next.ensures.told (kept.storage.device.tells ∙ told)) in
          refused_at_end contents _ _ _ _ _ kept.some below (kept.reads told) why,
    )

pub returns-then-not-goes_on_as-clause-extent : goal.returns-then-not-goes_on_as-clause-extent
returns-then-not-goes_on_as-clause-extent g c =
    let position : c.self.inside.position ≡ c.args.self.now.position = ap (λ (state : ExtentsState). state.position) c.self.view_is in
    let kept = c.loop-end.invariant in (
      refl,
      omega (arith, kept.some),
      omega (arith, kept.some),
      kept.within,
      λ told.
          let piece = rw (kept.reader.same, kept.storage.bytes) at (c.in_ok-next.ensures.told (kept.storage.device.tells ∙ told)) in
          extent_that_ends _ _ _ (c.match-self.content.0, c.loop-end.end) (c.in_ok-next.next, c.in_ok-next.next_end) kept.some kept.within (kept.reads told) piece
          (λ same. let yes = c.goes_on_as.ensures.1 (rw position same) in cc),
    )

pub loop-end-preserved : goal.loop-end-preserved
loop-end-preserved g c =
    let position : c.self.inside.position ≡ c.args.self.now.position = ap (λ (state : ExtentsState). state.position) c.self.view_is in
    let kept = c.loop-end.invariant in
    let contents : Contents = contents_for c.args.self.now (g.S.Storage.state c.args.image.now).byte_at in
    let more = c.in_ok-next.ensures.within in
    record {
      start = kept.start;
      some = omega (arith, kept.some, more.0);
      within = omega (arith, more.1, ap (λ (reader : ExtentsState). reader.header.v2.size) kept.reader.same);
      size = kept.size;
      reads = λ told.
          let piece = rw (kept.reader.same, kept.storage.bytes) at (c.in_ok-next.ensures.told (kept.storage.device.tells ∙ told)) in
          pieces_join contents _ _ _ _ _ kept.some more.0 (kept.reads told) (rw position at (c.goes_on_as.ensures.0 c.if-not-goes_on_as.false)) piece.2;
      reader = stays_twice _ _ c.args.self.now c.loop-end.self _ (reads_any c.loop-end.end 0 _ _ kept.storage) kept.reader c.in_ok-next.ensures.reader;
      storage = reads_any (c.in_ok-next.next, c.in_ok-next.next_end) c.in_ok-next.next_end _ _ (reads-then c.loop-end.end (Ok _) _ _ _ kept.storage c.in_ok-next.ensures.storage);
    }
