use Rattle.std.proofs.Common.{[], inl, inr, refl, ◌∙◌, arith}
use Rattle.std.proofs.KnownBytes.{Appends-trans}
use Rattle.std.proofs.lemmas.Result.{err_from_is_err_and}
use Rattle.qcow2_image.proofs.LookupsLemmas.{reads-then_for}
use Rattle.qcow2_session.proofs.MapLemmas.{map-closed, opening-part}
use Rattle.qcow2_session.proofs.OutputLemmas.{part-of_more}
use Rattle.qcow2_session.proofs.PrintingLemmas.{reads-calm}
use Rattle.qcow2_metadata.specs.Header.{geometry_of}
use Rattle.qcow2_session.specs.Commands.Map.{Disk, disk_of, extents_text, opening}
use Rattle.qcow2_image.specs.Extents.{contents_of}
use Rattle.qcow2_session.proofs.commands.map.print_extents.Goals as goal

pub returns-in_err-print_text-clause-prints : goal.returns-in_err-print_text-clause-prints
returns-in_err-print_text-clause-prints g c =
    let left = err_from_is_err_and c.from_residual-in_err-print_text.result c.from_residual-in_err-print_text.ensures.1 in
    let failed = rw c.opening.ensures at c.in_err-print_text.ensures in
    rw (left.1, left.2) (record {
      extents = tt;
      refused = λ told. inr (rw (c.in_ok-extents.ensures.reads.exact told) (inl (
        (failed.fault, reads-calm _ _ _ c.in_ok-extents.ensures.reads.storage),
        ([], 0, refl, part-of_more _ _ _ _ (part-of_more _ _ _ [] failed.part)),
      )));
    })

pub returns-in_err-print_all-clause-prints : goal.returns-in_err-print_all-clause-prints
returns-in_err-print_all-clause-prints g c =
    let left = err_from_is_err_and c.from_residual-in_err-print_all.result c.from_residual-in_err-print_all.ensures.1 in
    let reads = c.in_ok-extents.ensures.reads.storage in
    rw (left.1, left.2) (record {
      extents = tt;
      refused = λ told.
          let loaded = c.in_ok-extents.ensures.reads.exact told in
          let printed = rw (c.in_ok-extents.ensures.begun, reads.bytes) at (c.in_err-print_all.ensures.prints.refused (reads.device.tells ∙ told)) in
          inr (rw loaded (elim printed [
            | inl output ↦ inl (
              rw (reads-calm _ _ _ reads) at output.0,
              (output.1, output.2, output.3, opening-part c.args.format output.1 _ _ _ _ (rw c.opening.ensures at c.in_ok-print_text.ensures.text) output.4),
            )
            | inr rest ↦ inr (rest.0, rest.1, Appends-trans _ _ _ _ _ (rw c.opening.ensures at c.in_ok-print_text.ensures.text) rest.2)
          ]));
    })

pub returns-clause-prints : goal.returns-clause-prints
returns-clause-prints g c =
    let header = c.args.header.now in
    let state = g.S.Storage.state c.args.image.now in
    let reads = c.in_ok-extents.ensures.reads.storage in
    let disk : Disk = record { contents = contents_of (geometry_of header) c.in_ok-extents.extents.l1 state.byte_at; size = header.v2.size } in
    map-closed _ c.args.format (disk_of header) disk _ state _ _ _ _
    (λ told. rw (c.in_ok-extents.ensures.reads.exact told) refl)
    (λ told.
    let printed = rw (c.in_ok-extents.ensures.begun, reads.bytes) at (c.in_ok-print_all.ensures.prints.extents (reads.device.tells ∙ told)) in
    (printed.0, printed.1, Appends-trans _ _ (g.O.Write.contents c.print_all.new.out) (opening c.args.format) (extents_text c.args.format printed.0) (rw c.opening.ensures at c.in_ok-print_text.ensures.text) printed.2))
    (rw c.closing.ensures at c.print_text-2.ensures)
    (grind (arith, reads-calm))

pub returns-in_err-print_all-clause-storage : goal.returns-in_err-print_all-clause-storage
returns-in_err-print_all-clause-storage g c =
    let left = err_from_is_err_and c.from_residual-in_err-print_all.result c.from_residual-in_err-print_all.ensures.1 in
    rw (left.1, left.2) (reads-then_for c.in_ok-extents.extents _ _ _ c.in_ok-extents.ensures.reads.storage c.in_err-print_all.ensures.storage)
