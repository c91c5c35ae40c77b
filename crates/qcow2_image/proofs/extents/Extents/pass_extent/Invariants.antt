use Rattle.std.proofs.Common.{◌≡◌, ◌-◌, ◌<◌, ◌≤◌, IsTrue, Ok}
use Rattle.qcow2_base.specs.Storage.{OnlyReads}
use Rattle.qcow2_image.specs.Extents.{ReadAsOne, StaysReader, contents_for}
use Rattle.qcow2_image.proofs.extents.Extents.pass_extent.Given as goal

-- the bytes up to the end so far read as one, and the reader and the image are as they were
abbrev pub invariant-loop-end : goal.invariant-loop-end
invariant-loop-end g l =
    let old = g.S.Storage.state l.fn.image in
    record {
      start : l.start ≡ l.fn.self.position;
      some : l.fn.self.position < l.end;
      within : l.end ≤ l.fn.self.header.v2.size;
      size : l.size ≡ l.fn.self.header.v2.size;
      reads : IsTrue old.tells → ReadAsOne (contents_for l.fn.self old.byte_at) l.fn.self.position (l.end - l.fn.self.position) l.content;
      reader : StaysReader old l.fn.self l.self;
      storage : OnlyReads (Ok l.end) old (g.S.Storage.state l.image);
    }

abbrev pub decreases-loop-end : goal.decreases-loop-end
decreases-loop-end g l = l.size - l.end
