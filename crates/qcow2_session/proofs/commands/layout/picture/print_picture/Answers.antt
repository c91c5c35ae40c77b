use Rattle.std.proofs.Common.{◌*◌, ◌^◌, ◌∙◌, ap, rules}
use Rattle.std.proofs.Math.Nat.{one-mul}
use Rattle.std.proofs.lemmas.Result.{err_from_is_err_and}
use Rattle.qcow2_session.proofs.PictureLemmas.{picture-printed, picture-refused, picture-text}
use Rattle.qcow2_session.proofs.PrintingLemmas.{reads-calm}
use Rattle.qcow2_session.proofs.commands.layout.picture.print_picture.Goals as goal

pub returns-in_err-picture-clause-prints : goal.returns-in_err-picture-clause-prints
returns-in_err-picture-clause-prints g c =
    let exit = err_from_is_err_and c.from_residual.result c.from_residual.ensures.1 in
    rw (exit.1, exit.2) (picture-refused _ c.args.header.now _ (g.S.Storage.state c.args.image.now) _ _ c.in_err-picture.ensures.fault (λ storage. search rules))

pub returns-clause-prints : goal.returns-clause-prints
returns-clause-prints g c =
    let reads = c.in_ok-picture.ensures.storage in
    picture-printed _ c.args.header.now c.in_ok-picture.picture _ (g.S.Storage.state c.args.image.now) _ _ _ c.in_ok-picture.ensures.picture
    (reads-calm c.in_ok-picture.picture _ _ reads)
    (picture-text _ _ _ _ _ _ c.args.header.now.v2.cluster_bits c.in_ok-picture.picture (c.as_slice.ensures.value ∙ c.in_ok-shapes.ensures) c.scale.ensures
    (c.byte_size-cluster_size.ensures ∙ ap (λ bits. 1 * 2 ^ bits) c.cluster_bits.ensures.value ∙ one-mul (2 ^ c.args.header.now.v2.cluster_bits))
    c.print_shapes.ensures)
