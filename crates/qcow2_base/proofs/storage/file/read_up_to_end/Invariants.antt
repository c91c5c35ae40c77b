use Rattle.std.proofs.Common.{◌≡◌, ◌≤◌, length, take}
use Rattle.qcow2_base.specs.Storage.{Holds}
use Rattle.qcow2_base.specs.Storage.ImageFile.{OnFile}
use Rattle.qcow2_base.proofs.storage.file.read_up_to_end.Given as goal

abbrev pub invariant-loop : goal.invariant-loop
invariant-loop g l =
    let content = g.F.ImageFile.content in
    (length l.buf ≡ length l.initial.buf)
    × (l.count ≤ length l.buf)
    × OnFile (content l.initial.file) (Holds (content l.initial.file).byte_at l.offset (take l.count l.buf))
    × (content l.file ≡ content l.initial.file)
