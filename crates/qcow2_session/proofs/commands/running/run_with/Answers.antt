use Rattle.std.proofs.Common.{refl}
use Rattle.qcow2_session.proofs.PictureLemmas.{is-svg}
use Rattle.qcow2_session.proofs.VerdictLemmas.{fine-EndsApply, fine-Prints, fine-PrintsChange, fine-PrintsExtents, fine-PrintsLast, fine-PrintsLayout, fine-PrintsList, fine-PrintsText, fine-ReadsFor}
use Rattle.qcow2_session.proofs.commands.running.run_with.Goals as goal

pub returns-in-Info-clause-ends : goal.returns-in-Info-clause-ends
returns-in-Info-clause-ends g c =
    rw (c.in-Info.is, c.fine.ensures.answer) (refl, fine-PrintsText c.print_info.result _ _ _ c.print_info.ensures)

pub returns-in-List-clause-ends : goal.returns-in-List-clause-ends
returns-in-List-clause-ends g c =
    rw (c.in-List.is, c.fine-in-List.ensures.answer) (
      fine-PrintsList c.list_tables.result _ _ _ _ _ _ c.list_tables.ensures.prints,
      fine-ReadsFor c.list_tables.result _ _ c.list_tables.ensures.storage,
    )

pub returns-in-Map-clause-ends : goal.returns-in-Map-clause-ends
returns-in-Map-clause-ends g c =
    rw (c.in-Map.is, c.fine-in-Map.ensures.answer) (
      fine-PrintsExtents c.print_extents.result _ _ _ _ _ _ _ c.print_extents.ensures.prints,
      fine-ReadsFor c.print_extents.result _ _ c.print_extents.ensures.storage,
    )

pub returns-in-At-clause-ends : goal.returns-in-At-clause-ends
returns-in-At-clause-ends g c =
    rw (c.in-At.is, c.fine-in-At.ensures.answer) (fine-Prints c.print_mapping_at.result _ _ _ _ _ _ c.print_mapping_at.ensures.prints)

pub returns-in-At-clause-at_once : goal.returns-in-At-clause-at_once
returns-in-At-clause-at_once g c = λ silent.
    rw c.fine-in-At.ensures.answer (fine-PrintsLast c.print_mapping_at.result _ _ _ _ _ c.print_mapping_at.ensures.last)

pub returns-in-Tables-clause-ends : goal.returns-in-Tables-clause-ends
returns-in-Tables-clause-ends g c =
    rw (c.in-Tables.is, c.fine-in-Tables.ensures.answer) (fine-Prints c.print_tables.result _ _ _ _ _ _ c.print_tables.ensures.prints)

pub returns-in-Tables-clause-at_once : goal.returns-in-Tables-clause-at_once
returns-in-Tables-clause-at_once g c = λ silent.
    rw c.fine-in-Tables.ensures.answer (fine-PrintsLast c.print_tables.result _ _ _ _ _ c.print_tables.ensures.last)

pub returns-in-Layout-clause-ends : goal.returns-in-Layout-clause-ends
returns-in-Layout-clause-ends g c =
    rw (c.in-Layout.is, c.fine-in-Layout.ensures.answer) (
      fine-PrintsLayout c.print_layout.result _ _ _ _ _ _ _ c.print_layout.ensures.prints,
      fine-ReadsFor c.print_layout.result _ _ c.print_layout.ensures.storage,
    )

pub returns-in-Layout-clause-at_once : goal.returns-in-Layout-clause-at_once
returns-in-Layout-clause-at_once g c = λ silent.
    rw c.fine-in-Layout.ensures.answer (fine-PrintsLast c.print_layout.result _ _ _ _ _
    (c.print_layout.ensures.last (is-svg _ (rw c.in-Layout.is at silent))))

pub returns-in-Refcount-clause-ends : goal.returns-in-Refcount-clause-ends
returns-in-Refcount-clause-ends g c =
    rw (c.in-Refcount.is, c.fine-in-Refcount.ensures.answer)
    (fine-Prints c.print_counters.result _ _ _ _ _ _ (rw c.as_slice.ensures at c.print_counters.ensures.prints))

pub returns-in-Refcount-clause-at_once : goal.returns-in-Refcount-clause-at_once
returns-in-Refcount-clause-at_once g c = λ silent.
    rw c.fine-in-Refcount.ensures.answer (fine-PrintsLast c.print_counters.result _ _ _ _ _ c.print_counters.ensures.last)

pub returns-in-Check-clause-ends : goal.returns-in-Check-clause-ends
returns-in-Check-clause-ends g c =
    rw c.in-Check.is c.check_in_form.ensures.ends

pub returns-in-Check-clause-at_once : goal.returns-in-Check-clause-at_once
returns-in-Check-clause-at_once g c = λ silent.
    (c.check_in_form.ensures.last (rw c.in-Check.is at silent))

pub returns-in-Apply-clause-ends : goal.returns-in-Apply-clause-ends
returns-in-Apply-clause-ends g c =
    rw (c.in-Apply.is, c.fine-in-Apply.ensures.answer) (fine-EndsApply c.edit_disk.result _ _ _ g.O.Write.contents _ _ _ _ (rw c.as_slice-in-Apply.ensures at c.edit_disk.ensures.ends))

pub returns-in-Apply-clause-at_once : goal.returns-in-Apply-clause-at_once
returns-in-Apply-clause-at_once g c = λ silent.
    rw c.fine-in-Apply.ensures.answer (fine-PrintsLast c.edit_disk.result _ _ _ _ _ c.edit_disk.ensures.last)

pub returns-in-Edit-clause-ends : goal.returns-in-Edit-clause-ends
returns-in-Edit-clause-ends g c =
    rw (c.in-Edit.is, c.fine-in-Edit.ensures.answer)
    (fine-PrintsChange c.edit_and_wait.result _ _ _ _ _ _ _ (rw c.as_slice-in-Edit.ensures at c.edit_and_wait.ensures.edits))

pub returns-in-Edit-clause-at_once : goal.returns-in-Edit-clause-at_once
returns-in-Edit-clause-at_once g c = λ silent.
    rw c.fine-in-Edit.ensures.answer (fine-PrintsLast c.edit_and_wait.result _ _ _ _ _ c.edit_and_wait.ensures.last)

pub returns-in-Count-clause-ends : goal.returns-in-Count-clause-ends
returns-in-Count-clause-ends g c =
    rw (c.in-Count.is, c.fine-in-Count.ensures.answer)
    (fine-PrintsChange c.count_and_wait.result _ _ _ _ _ _ _ (rw c.as_slice-in-Count.ensures at c.count_and_wait.ensures.counts))

pub returns-in-Count-clause-at_once : goal.returns-in-Count-clause-at_once
returns-in-Count-clause-at_once g c = λ silent.
    rw c.fine-in-Count.ensures.answer (fine-PrintsLast c.count_and_wait.result _ _ _ _ _ c.count_and_wait.ensures.last)

pub returns-in-L2-clause-ends : goal.returns-in-L2-clause-ends
returns-in-L2-clause-ends g c =
    let found = rw c.in-L2.is at c.requires in
    (rw (c.in-L2.is, ← found, c.fine-in-L2.ensures.answer) (fine-Prints c.print_l2_table.result _ _ _ _ _ _ c.print_l2_table.ensures.prints))

pub returns-in-L2-clause-at_once : goal.returns-in-L2-clause-at_once
returns-in-L2-clause-at_once g c = λ silent.
    rw c.fine-in-L2.ensures.answer (fine-PrintsLast c.print_l2_table.result _ _ _ _ _ c.print_l2_table.ensures.last)
