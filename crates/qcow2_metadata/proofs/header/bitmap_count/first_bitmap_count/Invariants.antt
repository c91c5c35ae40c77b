use Rattle.std.proofs.Common.{◌≡◌, drop, map}
use Rattle.qcow2_metadata.specs.Header.BitmapCount.{first_bitmap_count}
use Rattle.qcow2_metadata.specs.Header.Extensions.{extension_of}
use Rattle.qcow2_metadata.proofs.header.bitmap_count.first_bitmap_count.Given as goal

-- no extension so far says a number of bitmaps
abbrev pub invariant-loop-extension : goal.invariant-loop-extension
invariant-loop-extension l =
    first_bitmap_count (map extension_of l.extensions) ≡ first_bitmap_count (map extension_of (drop l.extension-index l.extensions))
