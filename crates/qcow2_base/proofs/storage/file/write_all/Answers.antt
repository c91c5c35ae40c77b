use Rattle.std.proofs.Common.{◌≡◌, ◌-◌, ◌≤◌, ◌∙◌, length, take, drop, take_all, length-drop, arith}
use Rattle.qcow2_base.proofs.StorageLemmas.{within_reach, written_further, written_so_far}
use Rattle.qcow2_base.proofs.storage.file.write_all.Goals as goal
use Rattle.qcow2_base.proofs.storage.file.write_all.Goals.{in-Ok, in-Err+else-ne}

pub loop-preserved : goal.loop-preserved
loop-preserved g c =
    let content = g.F.ImageFile.content in
    let count = c.loop.count in
    let bytes = c.args.buf.now in
    let before = c.loop.invariant in
    let within : count ≤ length bytes = before.0 in
    let rest : take (length bytes - count) (drop count bytes) ≡ drop count bytes = take_all _ _ (omega (arith, length-drop count bytes)) in
    let done = written_so_far (content c.args.file.now) (content c.loop.file) (content c.write_at.new.self) c.args.offset count bytes within
    before.3 before.1 before.2 (within_reach c.write_at.result (content c.loop.file) _ _ _ _ (rw rest at c.write_at.ensures.count) (rw rest at c.write_at.ensures.others)) in
    let known : (content c.write_at.new.self).tells ≡ (content c.args.file.now).tells = c.write_at.ensures.tells ∙ before.3 in
    elim c.match-write_at.branch [
      | in-Ok w ↦
          rw w.count-is (omega (arith, within, length-drop count bytes, rw rest at w.in-Ok.ensures.count), λ tells. written_further _ c.args.offset count w.in-Ok.more bytes within (done tells).0 (rw rest at (w.in-Ok.ensures.written (rw before.3 tells))), λ tells. (done tells).1, known)
      | in-Err+else-ne w ↦ rw w.count-is (within, λ tells. (done tells).0, λ tells. (done tells).1, known)
    ]
