use Rattle.std.proofs.Common.{◌≡◌, ◌⊎◌, ℕ, List, [], Ok, Err, IsTrue, arith, refl, ◌∙◌}
use Rattle.qcow2_base.specs.Storage.{OnlyReads, StorageState}
use Rattle.qcow2_base.specs.declared.fault.Fault.{Fault}
use Rattle.qcow2_base.specs.declared.fault.Fault.TheVariants.{NoMemory, Storage}
use Rattle.qcow2_base.specs.declared.types.HostCluster.{HostCluster}
use Rattle.qcow2_edits.specs.declared.edits.Edit.{Edit}
use Rattle.qcow2_image.proofs.LookupsLemmas.{refused-as}
use Rattle.qcow2_image.specs.Images.{ChangesImage, edits_end, references_of}
use Rattle.qcow2_metadata.specs.Header.{HeaderRecord, geometry_of}
use Rattle.qcow2_metadata.specs.Table.{l2_layout}
use Rattle.qcow2_metadata.specs.Table.L2Guards.{RunEnd}
use Rattle.qcow2_session.proofs.ChangingLemmas.{change-refused, idle-edits, of-any, part-refused}
use Rattle.qcow2_session.proofs.PrintingLemmas.{run_between}
use Rattle.qcow2_session.specs.Commands.Changing.{PrintsChange}
use Rattle.qcow2_session.specs.Commands.Edit.{change_of_edits, end_of_edits, table_cluster}
use Rattle.qcow2_session.specs.Commands.Printing.{OutputBytes}

-- edits are refused after the table that an L1 entry names was found
pub edits-refused : {A O T : Type 0} (header : HeaderRecord) (l1_index : ℕ) (edits : List Edit) (cluster : HostCluster) (fault : Fault)
    (contents : O → OutputBytes) (old found new : StorageState) (a b : O)
    → (IsTrue old.tells → table_cluster header l1_index old.byte_at ≡ Ok cluster) → OnlyReads (Ok cluster) old found
    → (IsTrue found.tells → (fault ≡ Storage) ⊎ (fault ≡ NoMemory) ⊎ (references_of header cluster edits found.byte_at ≡ Err fault))
    → ChangesImage {T = T} (l2_layout (geometry_of header)) cluster (edits_end header cluster edits) (λ end. end.numbers) (Err fault) found new
    → (edits ≡ [] → new.byte_at ≡ found.byte_at)
    → PrintsChange {A = A} (run_between contents (Err fault) old new a b) (l2_layout (geometry_of header)) (end_of_edits l1_index edits header)
edits-refused header l1_index edits cluster fault contents old found new a b named reads exact ran idle =
    let run = edits_end header cluster edits old.byte_at in
    change-refused fault (l2_layout (geometry_of header)) (change_of_edits cluster edits) (end_of_edits l1_index edits header) run contents old new a b
    (λ told. rw (named told) refl)
    (λ told. refused-as fault (λ bad. part-refused run (λ (left : RunEnd). (left.freed, left.gained)) fault (rw reads.bytes at bad)) (exact (reads.device.tells ∙ told)))
    (λ storage. grind (arith, storage, reads.told, ran.storage.told))
    (λ other. ran.storage.refused other ∙ reads.bytes)
    (λ told failed. rw reads.bytes at (ran.torn (reads.device.tells ∙ told) (grind (arith, failed, reads.told, ran.storage.told))))
    (λ told. idle-edits edits run old.byte_at new.byte_at (λ none. idle none ∙ reads.bytes))
    (λ told. of-any run (λ left. rw reads.bytes at (ran.storage.others (reads.device.tells ∙ told))))
