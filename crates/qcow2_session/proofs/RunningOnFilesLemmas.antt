use Rattle.std.proofs.Common.{◌≡◌, ◌≢◌, ◌⊎◌, ℕ, Bool, List, false, Option, None, Some, Result, Ok, Err, inl, inr, refl, subst, sym, arith, IfSome}
use Rattle.std.specs.Bool.{IsTrue}
use Rattle.std.specs.Result.{IfErr, IsErr}
use Rattle.qcow2_base.specs.Storage.{OnImage, OnlyReads, StorageState}
use Rattle.qcow2_base.specs.Storage.File.{failures_of, file_of, file_state, state_over}
use Rattle.qcow2_base.specs.Storage.ImageFile.{FileContent, OnFile}
use Rattle.qcow2_base.specs.Storage.ImageFiles.{ChangesOne, ClosesImage, FailsFor, PathFile}
use Rattle.qcow2_base.specs.declared.fault.Fault.{Fault}
use Rattle.qcow2_base.specs.declared.fault.Fault.TheVariants.{NoMemory, Storage}
use Rattle.qcow2_base.specs.declared.storage.file.FileStorage.{FileStorage}
use Rattle.qcow2_metadata.specs.Header.{HeaderRecord}
use Rattle.qcow2_session.proofs.PrintingLemmas.{reads-calm, run_between}
use Rattle.qcow2_session.specs.Commands.{facts_of}
use Rattle.qcow2_session.specs.Commands.Apply.{maps_refusal}
use Rattle.qcow2_session.specs.Commands.Printing.{OutputBytes}
use Rattle.qcow2_session.specs.Commands.RunningOnFiles.{ComparesWithEnd, FitsEnd, IsRefusedByEnd, RefusesBy, RunsOnFile, StopsOrEnds, told_beside}
use Rattle.qcow2_session.specs.Commands.Running.{AfterHeader, EndsAndFlushes, FindsHeader}
use Rattle.qcow2_session.specs.Commands.Words.{Word}
use Rattle.qcow2_session.specs.declared.commands.Command.{Command}
use Rattle.qcow2_session.specs.declared.commands.Command.TheVariants.{Apply}
use Rattle.qcow2_session.specs.declared.commands.apply.ApplyForm.{ApplyForm}
use Rattle.qcow2_session.specs.declared.commands.apply.DiskEdit.{DiskEdit}
use Rattle.qcow2_check.specs.declared.verdict.Verdict.{Verdict}

-- a run found its header, and stopped before its command
pub stopped-before : {O : Type 0} (command : Command) (header : HeaderRecord) (fault : Fault) (contents : O → OutputBytes) (old left new : StorageState) (out : O)
    → FindsHeader (facts_of command) (Ok header) old left
    → ((fault ≡ NoMemory) × IsTrue (facts_of command).reads_all_tables) ⊎ IsRefusedByEnd command header left fault
    → OnlyReads {T = Verdict} (Err fault) left new
    → AfterHeader (facts_of command) (StopsOrEnds command) (run_between contents (Err fault) old new out out)
stopped-before command header fault contents old left new out finds why reads =
    (Ok header, left, finds, inl (record { fault = why; reads = reads; output = refl }))

-- calls that only read and didn't fail leave a storage as it was
pub unmoved : {T : Type 0} (value : T) (old new : StorageState) → OnlyReads (Ok value) old new → new ≡ old
unmoved value old new reads = grind (arith, reads.device, reads.bytes, reads.len, reads-calm value old new reads)

-- the fault of reads is that of what they were made for
pub same-reads : {A B : Type 0} (fault : Fault) (old new : StorageState) → OnlyReads {T = A} (Err fault) old new → OnlyReads {T = B} (Err fault) old new
same-reads fault old new reads = record { told = grind (arith, reads.told); bytes = reads.bytes; len = reads.len; device = reads.device }

-- no call was made
pub unread : {T : Type 0} (fault : Fault) (state : StorageState) → fault ≢ Storage → OnlyReads {T = T} (Err fault) state state
unread fault state other = record {
  told = grind (arith, other);
  bytes = refl;
  len = refl;
  device = record { tells = refl; mem_align = refl; req_align = refl };
}

-- edits were compared with the image's end
pub maps-compared : (form : ApplyForm) (edits : List DiskEdit) (header : HeaderRecord) (state : StorageState) (answer : Result (Unit {0}) Fault)
    → IfErr answer (λ fault. (fault ≡ Storage) ⊎ ((len : ℕ) × (maps_refusal edits header len ≡ Some fault)))
    → OnImage state (λ _. RefusesBy (maps_refusal edits header state.len) answer)
    → ComparesWithEnd (Apply form edits) header state answer
maps-compared form edits header state (Ok done) refusal known = known
maps-compared form edits header state (Err fault) refusal known = record { refusal = refusal; known = known }

-- what a run came to is a fault too once it is told beside other programs, if it was one
pub placed-beside : (Kept : Type 0) (found : Option Fault) (ran told : Result Verdict Fault) → (IsErr ran → IsErr told) → IfSome found (λ _. IsErr ran × Kept)
    → IfSome found (λ _. IsErr told × Kept)
placed-beside Kept None ran told errs held = tt
placed-beside Kept (Some fault) ran told errs held = (errs held.0, held.1)

-- or its command ran, over what the header left, and what it left is the image
pub ran-between : {O : Type 0} (command : Command) (header : HeaderRecord) (answer : Result Verdict Fault) (contents : O → OutputBytes)
    (old left begun ended new : StorageState) (before after : O)
    → FindsHeader (facts_of command) (Ok header) old left → FitsEnd command header left → begun ≡ left → new ≡ ended
    → EndsAndFlushes (facts_of command) header (run_between contents answer begun ended before after)
    → AfterHeader (facts_of command) (StopsOrEnds command) (run_between contents answer old new before after)
ran-between command header answer contents old left begun ended new before after finds fits same last ends =
    rw last (
      Ok header,
      left,
      finds,
      inr (fits, subst (λ (s : StorageState). EndsAndFlushes (facts_of command) header (run_between contents answer s ended before after)) same ends),
    )

-- the file of a path could not be opened
pub not-opened : {O : Type 0} (command : Command) (path : Word) (old new : Word → PathFile) (answer : Result Verdict Fault) (contents : O → OutputBytes) (out : O)
    → answer ≡ Err Storage → FailsFor path old new
    → RunsOnFile command (old path) (new path) answer contents out out
not-opened command path old new answer contents out is failed = inl (is, failed.content, failed.counted, refl)

-- what a run left in the open file of a path is in that once it is closed
pub closed-file : {F O : Type 0} (known : F → FileContent) (command : Command) (path : Word) (old opened new : Word → PathFile)
    (begun ended : FileStorage F) (ran answer : Result Verdict Fault) (in_use : Bool) (contents : O → OutputBytes) (before after : O)
    → known (file_of begun) ≡ (old path).content → failures_of begun ≡ 0
    → AfterHeader (facts_of command) (StopsOrEnds command) (run_between contents ran (file_state known begun) (file_state known ended) before after)
    → opened ≡ old → OnFile (opened path).content (in_use ≡ false) → answer ≡ told_beside in_use ran
    → ClosesImage known ended path opened new
    → RunsOnFile command (old path) (new path) answer contents before after
closed-file known command path old opened new begun ended ran answer in_use contents before after first none runs untouched alone told closes =
    let file = (old path).content in
    let Ran : FileContent → ℕ → FileContent → Type 0 = λ content failures left. AfterHeader (facts_of command) (StopsOrEnds command)
    (run_between contents ran (state_over content failures) (state_over left (failures_of ended)) before after) in
    let over = subst (λ (content : FileContent). Ran content (failures_of begun) (known (file_of ended))) first runs in
    let anew = subst (λ (failures : ℕ). Ran file failures (known (file_of ended))) none over in
    let left = subst (λ (content : FileContent). Ran file 0 content) (sym closes.content) anew in
    let alone = subst (λ (files : Word → PathFile). OnFile (files path).content (in_use ≡ false)) untouched alone in
    inr (ran, in_use, alone, told, failures_of ended, λ tells. sym (closes.failures (rw closes.content at tells)), left)

-- what changed after calls that changed nothing
pub changed-since : (path : Word) (old left new : Word → PathFile) → left ≡ old → ChangesOne path left new → ChangesOne path old new
changed-since path old left new same changes = subst (λ (files : Word → PathFile). ChangesOne path files new) same changes
