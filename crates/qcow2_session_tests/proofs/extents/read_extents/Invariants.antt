use Rattle.std.proofs.Common.{◌+◌, ◌-◌, ◌≤◌, IsTrue, vec_len}
use Rattle.qcow2_image.specs.Extents.{IsReaderOf}
use Rattle.qcow2_session_tests.proofs.extents.read_extents.Given as goal

-- the reader is one of the image, and is no further than the disk's end
abbrev pub invariant-loop-extents : goal.invariant-loop-extents
invariant-loop-extents g l =
    let image = g.S.Storage.state l.image in
    record {
      kept : IsTrue image.tells → IsReaderOf image.byte_at l.extents;
      within : l.extents.position ≤ l.extents.header.v2.size;
    }

abbrev pub decreases-loop-extents : goal.decreases-loop-extents
decreases-loop-extents g l = (l.extents.header.v2.size - l.extents.position) + (2 - vec_len l.faults)
