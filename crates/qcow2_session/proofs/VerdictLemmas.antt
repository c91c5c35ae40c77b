use Rattle.std.proofs.Common.{ℕ, List, Result, Ok, Err, ap, inl, inr, refl}
use Rattle.std.specs.Result.{IsErrOf, IsOkAnd}
use Rattle.qcow2_base.specs.Storage.{Image, ReadsFor, StorageState}
use Rattle.qcow2_base.specs.declared.fault.Fault.{Fault}
use Rattle.qcow2_base.specs.declared.fault.Fault.TheVariants.{Storage}
use Rattle.qcow2_metadata.specs.Header.{HeaderRecord}
use Rattle.qcow2_metadata.specs.Placed.{Layout}
use Rattle.qcow2_apply.specs.declared.changed_clusters.ChangedClusters.{ChangedClusters}
use Rattle.qcow2_session.proofs.PrintingLemmas.{run_between}
use Rattle.qcow2_session.specs.Commands.Apply.{EndsApply, PrintsChanges}
use Rattle.qcow2_session.specs.Commands.Changing.{ChangeEnd, PrintsChange}
use Rattle.qcow2_session.specs.Commands.Layout.{PrintsLayout}
use Rattle.qcow2_session.specs.Commands.List.{PrintsList, PrintsTablesBefore, TableTexts}
use Rattle.qcow2_session.specs.Commands.Map.{Disk, PrintsExtents}
use Rattle.qcow2_session.specs.Commands.Printing.{OutputBytes, Prints, PrintsLast, PrintsText}
use Rattle.qcow2_session.specs.Commands.Running.{fine_unless_failed}
use Rattle.qcow2_session.specs.declared.commands.apply.ApplyForm.{ApplyForm}
use Rattle.qcow2_session.specs.declared.commands.apply.DiskEdit.{DiskEdit}
use Rattle.qcow2_session.specs.declared.commands.layout.LayoutForm.{LayoutForm}
use Rattle.qcow2_session.specs.declared.commands.layout.LayoutForm.TheVariants.{Lines, Svg}
use Rattle.qcow2_session.specs.declared.commands.map.ExtentFormat.{ExtentFormat}

-- What holds of a run holds of it with a verdict too, that all is fine unless it failed.

-- a text was printed
pub fine-PrintsText : (ran : Result (Unit {0}) Fault) (before after : OutputBytes) (text : List ℕ)
    → PrintsText ran before after text → PrintsText (fine_unless_failed ran) before after text
fine-PrintsText (Ok done) before after text prints = record { fault = tt; text = prints.text; part = tt }
fine-PrintsText (Err fault) before after text prints = record { fault = prints.fault; text = tt; part = prints.part }

-- what the bytes mean was printed
pub fine-Prints : {O : Type 0} (ran : Result (Unit {0}) Fault) (meant : Image → Result (List ℕ) Fault) (contents : O → OutputBytes) (old new : StorageState) (a b : O)
    → Prints (run_between contents ran old new a b) meant → Prints (run_between contents (fine_unless_failed ran) old new a b) meant
fine-Prints (Ok done) meant contents old new a b prints = record { lines = prints.lines; refused = tt }
fine-Prints (Err fault) meant contents old new a b prints = record { lines = tt; refused = prints.refused }

-- it ended in a fault
fine-IsErrOf : (ran : Result (Unit {0}) Fault) (fault : Fault) → IsErrOf ran fault → IsErrOf (fine_unless_failed ran) fault
fine-IsErrOf ran fault failed = rw failed refl

-- nothing was printed before a fault
pub fine-PrintsLast : {O : Type 0} (ran : Result (Unit {0}) Fault) (contents : O → OutputBytes) (old new : StorageState) (a b : O)
    → PrintsLast (run_between contents ran old new a b) → PrintsLast (run_between contents (fine_unless_failed ran) old new a b)
fine-PrintsLast (Ok done) contents old new a b last = record { refused = tt; failed = λ moved. (fine-IsErrOf (Ok done) Storage (last.failed moved).0, (last.failed moved).1); device = last.device }
fine-PrintsLast (Err fault) contents old new a b last = record { refused = last.refused; failed = λ moved. (fine-IsErrOf (Err fault) Storage (last.failed moved).0, (last.failed moved).1); device = last.device }

-- a change was made and printed
pub fine-PrintsChange : {O : Type 0} (ran : Result (Unit {0}) Fault) (layout : Layout) (end : Image → Result ChangeEnd Fault) (contents : O → OutputBytes) (old new : StorageState) (a b : O)
    → PrintsChange (run_between contents ran old new a b) layout end → PrintsChange (run_between contents (fine_unless_failed ran) old new a b) layout end
fine-PrintsChange (Ok done) layout end contents old new a b change = record {
  lines = change.lines;
  refused = tt;
  written = change.written;
  unchanged = tt;
  idle = change.idle;
  others = change.others;
  torn = change.torn;
}
fine-PrintsChange (Err fault) layout end contents old new a b change = record {
  lines = tt;
  refused = change.refused;
  written = change.written;
  unchanged = change.unchanged;
  idle = change.idle;
  others = change.others;
  torn = change.torn;
}

-- the print of tables ended before all of them, whatever the run returned
any-PrintsTablesBefore : {A B O : Type 0} (one : Result A Fault) (other : Result B Fault) (fault : Fault) (tables : TableTexts) (contents : O → OutputBytes) (old new : StorageState) (a b : O)
    → PrintsTablesBefore fault (run_between contents one old new a b) tables → PrintsTablesBefore fault (run_between contents other old new a b) tables
any-PrintsTablesBefore one other fault tables contents old new a b ended = record {
  printed = ended.printed;
  table = ended.table;
  rest = ended.rest;
  are = ended.are;
  why = ended.why;
}

-- what holds of a value where one is meant
pub is_ok_and-weaker : {V : Type 0} (P Q : V → Type 0) (meant : Result V Fault) → ((value : V) → P value → Q value) → IsOkAnd meant P → IsOkAnd meant Q
is_ok_and-weaker P Q (Ok value) leads holds = leads value holds
is_ok_and-weaker P Q (Err fault) leads holds = absurd holds

-- the L2 tables were listed
pub fine-PrintsList : {O : Type 0} (ran : Result (Unit {0}) Fault) (tables : Image → Result TableTexts Fault) (contents : O → OutputBytes) (old new : StorageState) (a b : O)
    → PrintsList (run_between contents ran old new a b) tables → PrintsList (run_between contents (fine_unless_failed ran) old new a b) tables
fine-PrintsList (Ok done) tables contents old new a b prints = record { lines = prints.lines; refused = tt }
fine-PrintsList (Err fault) tables contents old new a b prints = record {
  lines = tt;
  refused = λ told. elim (prints.refused told) [
    | inl none ↦ inl none
    | inr some ↦ inr (is_ok_and-weaker _ _ (tables old.byte_at) (λ texts. any-PrintsTablesBefore _ _ fault texts contents old new a b) some)
  ];
}

-- the disk was mapped
pub fine-PrintsExtents : {O : Type 0} (ran : Result (Unit {0}) Fault) (format : ExtentFormat) (disk : Image → Result Disk Fault) (contents : O → OutputBytes) (old new : StorageState) (a b : O)
    → PrintsExtents (run_between contents ran old new a b) format disk → PrintsExtents (run_between contents (fine_unless_failed ran) old new a b) format disk
fine-PrintsExtents (Ok done) format disk contents old new a b prints = record { extents = prints.extents; refused = tt }
fine-PrintsExtents (Err fault) format disk contents old new a b prints = record { extents = tt; refused = prints.refused }

-- the layout of an image was printed
pub fine-PrintsLayout : {O : Type 0} (ran : Result (Unit {0}) Fault) (form : LayoutForm) (header : HeaderRecord) (contents : O → OutputBytes) (old new : StorageState) (a b : O)
    → PrintsLayout form (run_between contents ran old new a b) header → PrintsLayout form (run_between contents (fine_unless_failed ran) old new a b) header
fine-PrintsLayout (Ok done) Lines header contents old new a b prints = record { all = prints.all; refused = tt }
fine-PrintsLayout (Err fault) Lines header contents old new a b prints = record { all = tt; refused = prints.refused }
fine-PrintsLayout (Ok done) Svg header contents old new a b prints = record { all = prints.all; refused = tt }
fine-PrintsLayout (Err fault) Svg header contents old new a b prints = record { all = tt; refused = prints.refused }

-- a failed call of the image is the storage fault
pub fine-ReadsFor : (ran : Result (Unit {0}) Fault) (old new : StorageState) → ReadsFor (IsErrOf ran Storage) old new → ReadsFor (IsErrOf (fine_unless_failed ran) Storage) old new
fine-ReadsFor ran old new reads = record { failed = λ moved. fine-IsErrOf ran Storage (reads.failed moved); bytes = reads.bytes; len = reads.len; device = reads.device }

-- what becomes of clusters was printed
fine-PrintsChanges : {O : Type 0} (form : ApplyForm) (header : HeaderRecord) (done : Result ChangedClusters Fault) (ran : Result (Unit {0}) Fault) (contents : O → OutputBytes) (old new : StorageState) (a b : O)
    → PrintsChanges form header done (run_between contents ran old new a b) → PrintsChanges form header done (run_between contents (fine_unless_failed ran) old new a b)
fine-PrintsChanges form header (Ok clusters) ran contents old new a b prints = fine-PrintsText ran _ _ _ prints
fine-PrintsChanges form header (Err fault) ran contents old new a b refused = (ap fine_unless_failed refused.0, refused.1)

-- edits of a disk were made or planned
pub fine-EndsApply : {O : Type 0} (ran : Result (Unit {0}) Fault) (form : ApplyForm) (edits : List DiskEdit) (header : HeaderRecord) (contents : O → OutputBytes) (old new : StorageState) (a b : O)
    → EndsApply form edits header (run_between contents ran old new a b) → EndsApply form edits header (run_between contents (fine_unless_failed ran) old new a b)
fine-EndsApply ran form edits header contents old new a b (inl out) = inl (ap fine_unless_failed out.0, out.1, out.2)
fine-EndsApply ran form edits header contents old new a b (inr (done, ends, end, reports, prints)) = inr (done, ends, end, reports, fine-PrintsChanges form header done ran contents old new a b prints)
