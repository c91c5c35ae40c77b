use Rattle.std.proofs.Common.{◌≡◌, ◌≤◌, length, take}
use Rattle.qcow2_base.specs.Storage.{Holds, SameOutside}
use Rattle.qcow2_base.specs.Storage.ImageFile.{OnFile}
use Rattle.qcow2_base.proofs.storage.file.write_all.Given as goal

abbrev pub invariant-loop : goal.invariant-loop
invariant-loop g l =
    let old = g.F.ImageFile.content l.initial.file in
    let new = g.F.ImageFile.content l.file in
    (l.count ≤ length l.buf)
    × OnFile old (Holds new.byte_at l.offset (take l.count l.buf))
    × OnFile old (SameOutside l.offset (length l.buf) old.byte_at new.byte_at)
    × (new.tells ≡ old.tells)
