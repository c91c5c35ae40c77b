use Rattle.std.proofs.Common.{◌≡◌, List, Ok, length}
use Rattle.qcow2_base.specs.Storage.{OnImage, OnlyReads}
use Rattle.qcow2_image.specs.Extents.{IsReaderOf}
use Rattle.qcow2_image.specs.declared.extents.Extent.{Extent}
use Rattle.qcow2_bytes.specs.Images.Extents.{AreListed, disk_for}
use Rattle.qcow2_bytes.proofs.images.extents.put_next.Given as goal

-- the extents before the reader's offset are listed
abbrev pub invariant-loop-count : goal.invariant-loop-count
invariant-loop-count g l =
    let old = g.S.Storage.state l.fn.image in
    let reader = l.fn.reader in
    record {
      listed : OnImage old (λ bytes. (extents : List Extent)
          × AreListed (disk_for reader bytes) reader.position l.reader.position extents l.fn.extents l.extents × (l.count ≡ length extents));
      length : length l.extents ≡ length l.fn.extents;
      same : l.reader ≡ record reader { position = l.reader.position; table = l.reader.table; ahead = l.reader.ahead };
      kept : OnImage old (λ bytes. IsReaderOf bytes l.reader);
      storage : OnlyReads (Ok l.count) old (g.S.Storage.state l.image);
    }
