use Rattle.std.proofs.Common.{◌+◌, get_or, length, take, rules}
use Rattle.qcow2_apply.proofs.MadeEditsLemmas.{all-fit-at}
use Rattle.qcow2_apply.proofs.NeededTablesLemmas.{missing-next, missing-same, needed-more, needed-same}
use Rattle.qcow2_apply.specs.GuestEdits.{has_clusters_in}
use Rattle.qcow2_apply.specs.NeededTables.{is_table_needed}
use Rattle.qcow2_apply.specs.declared.guest_edits.GuestEdit.{GuestEdit}
use Rattle.qcow2_apply.specs.declared.guest_edits.GuestEdit.TheVariants.{Map}
use Rattle.qcow2_apply.proofs.needed_tables.first_missing.Goals.{then-not-is_discard, else-not-is_discard}
use Rattle.qcow2_apply.proofs.needed_tables.first_missing.Goals as goal

pub first_missing_of-first-requires-clause-fits : goal.first_missing_of-first-requires-clause-fits
first_missing_of-first-requires-clause-fits c = all-fit-at c.args.header.now c.args.edits.now c.loop-edit.edit-index _ c.requires.fit c.loop-edit-test.true

pub loop-edit-preserved : goal.loop-edit-preserved
loop-edit-preserved c =
    let header = c.args.header.now in
    let cb = header.v2.cluster_bits in
    let l1 = c.args.l1_table.now.numbers in
    let edits = c.args.edits.now in
    let k = c.loop-edit.edit-index in
    let d : GuestEdit = Map (record { 0 = 0 }) (record { 0 = 0 }) in
    elim c.if-not-is_discard.branch [
      | then-not-is_discard w ↦ rw w.first-is (missing-next header l1 (is_table_needed cb (take k edits)) (λ i. has_clusters_in cb i (get_or edits k d))
          (is_table_needed cb (take (k + 1) edits)) (length l1) c.loop-edit.first w.first_missing_of-first.result c.loop-edit.invariant w.first_missing_of-first.ensures
          (λ i. needed-more cb i edits k d c.loop-edit-test.true (search rules)))
      | else-not-is_discard w ↦ rw w.first-is (missing-same header l1 (is_table_needed cb (take k edits)) (is_table_needed cb (take (k + 1) edits)) (length l1)
          c.loop-edit.first c.loop-edit.invariant (λ i. needed-same cb i edits k d c.loop-edit-test.true (search rules)))
    ]
