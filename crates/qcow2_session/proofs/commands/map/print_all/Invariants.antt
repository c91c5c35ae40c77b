use Rattle.std.proofs.Common.{◌≡◌, ◌-◌, IsTrue, List}
use Rattle.std.specs.Io.KnownBytes.{Appends}
use Rattle.qcow2_base.specs.Storage.{ReadsFor}
use Rattle.qcow2_session.specs.Commands.Map.{extents_text}
use Rattle.qcow2_image.specs.Extents.{AreExtents, IsReaderOf, contents_for}
use Rattle.qcow2_image.specs.declared.extents.Extent.{Extent}
use Rattle.qcow2_session.proofs.commands.map.print_all.Given as goal

-- the extents before the reader's offset are printed, and no call of the image has failed
abbrev pub invariant-loop-extent : goal.invariant-loop-extent
invariant-loop-extent g l =
    let old = g.S.Storage.state l.fn.image in
    let reader = l.fn.extents in
    record {
      printed : IsTrue old.tells → (extents : List Extent)
          × AreExtents (contents_for reader old.byte_at) reader.header.v2.size reader.position extents l.extents.position
          × Appends (g.O.Write.contents l.fn.out) (g.O.Write.contents l.out) (extents_text l.format extents);
      same : l.extents ≡ record reader { position = l.extents.position; table = l.extents.table; ahead = l.extents.ahead };
      kept : IsTrue old.tells → IsReaderOf old.byte_at l.extents;
      reads : ReadsFor ⊥ old (g.S.Storage.state l.image);
    }

abbrev pub decreases-loop-extent : goal.decreases-loop-extent
decreases-loop-extent g l = l.extents.header.v2.size - l.extents.position
