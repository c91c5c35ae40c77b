use Rattle.qcow2_ffi.proofs.tables.zq_l2_edit.Goals as goal

pub returns : goal.returns
returns c = (c.edit_l2_table.result, c.edit_l2_table.ensures, c.hand_over_edits.ensures)
