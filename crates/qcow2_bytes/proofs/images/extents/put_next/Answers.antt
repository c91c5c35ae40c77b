use Rattle.std.proofs.Common.{ap, arith, inr, rules, subst, ◌∙◌}
use Rattle.qcow2_image.specs.Extents.{ExtentsState, IsExtent, RefusesExtent, contents_for}
use Rattle.qcow2_bytes.specs.Images.Extents.{disk_for}
use Rattle.qcow2_bytes.proofs.ExtentsLemmas.{listed-next}
use Rattle.qcow2_bytes.proofs.images.extents.put_next.Goals as goal

pub returns-in-Err-clause-put : goal.returns-in-Err-clause-put
returns-in-Err-clause-put g c =
    let image = (g.S.Storage.state c.args.image.now).byte_at in
    let before = c.loop-count.invariant in
    let at = c.loop-count.reader.position in
    λ told.
    let listed = before.listed told in
    let here = rw before.storage.bytes at (c.in-Err.ensures.extent.2 (before.storage.device.tells ∙ told)) in
    let why = subst (λ (reader : ExtentsState). RefusesExtent (contents_for reader image) reader.header.v2.size at c.in-Err.fault) before.same here in
    (listed.0, at, listed.1, listed.2, inr (omega (arith, c.loop-count-test.true, before.length)), why)

pub loop-count-preserved : goal.loop-count-preserved
loop-count-preserved g c =
    let image = (g.S.Storage.state c.args.image.now).byte_at in
    let start = c.args.reader.now in
    let before = c.loop-count.invariant in
    let at = c.loop-count.reader.position in
    let extent = c.in-Ok-Some.extent in
    let comes = rw c.in-Ok-Some.field-0-is at c.in-Ok-Some.ensures.extent in
    let moves = c.in-Ok-Some.ensures.reader in
    record {
      listed = λ told.
          let listed = before.listed told in
          let here = rw before.storage.bytes at (comes.4 (before.storage.device.tells ∙ told)) in
          let is = subst (λ (reader : ExtentsState). IsExtent (contents_for reader image) reader.header.v2.size at extent) before.same here in
          listed-next (disk_for start image) start.position at c.next.new.self.position c.loop-count.count listed.0 extent c.fields_of.result c.args.extents.now
          c.loop-count.extents listed.1 listed.2 (omega (arith, c.loop-count-test.true, before.length)) is comes.2 c.fields_of.ensures;
      length = search rules;
      same = moves.same ∙ ap (λ (reader : ExtentsState). record reader { position = c.next.new.self.position; table = c.next.new.self.table; ahead = c.next.new.self.ahead }) before.same;
      kept = λ told. rw before.storage.bytes at (moves.kept (before.storage.device.tells ∙ told));
      storage = search rules;
    }
