-- What does a call from C on the bytes of an L2 table return, and what does it leave?
use Rattle.std.specs.Prelude.{◌≡◌, ℕ, List, Result, Ok, Err}
use Rattle.qcow2_base.specs.Fault.{fault_number}
use Rattle.qcow2_base.specs.declared.fault.Fault.{Fault}
use Rattle.qcow2_base.specs.declared.fault.Fault.TheVariants.{BadEdit, WrongLength}
use Rattle.qcow2_bytes.specs.Tables.{JoinsEntries}
use Rattle.qcow2_bytes.specs.Tables.Edit.{EditPlaces, EditsBytes}
use Rattle.qcow2_bytes.specs.declared.header.HeaderFields.{HeaderFields}
use Rattle.qcow2_bytes.specs.declared.images.extents.ExtentFields.{ExtentFields}
use Rattle.qcow2_bytes.specs.declared.tables.edit.EditCounts.{EditCounts}
use Rattle.qcow2_bytes.specs.declared.tables.edit.EditFields.{EditFields}
use Rattle.qcow2_bytes.specs.declared.tables.edit.EditRefusal.{EditRefusal}
use Rattle.qcow2_bytes.specs.declared.tables.edit.EditRefusal.TheVariants as why
use Rattle.qcow2_ffi.specs.Calls.{HandsOver}

-- a call hands over how many extents the entries in bytes are joined to, and leaves these in the new places
abbrev pub HandsOverExtents : HeaderFields → List ℕ → ℕ → List ExtentFields → List ExtentFields → ℕ → ℕ → ℕ → Type 0
HandsOverExtents fields bytes offset places_old places_new status old new =
    (answer : Result ℕ Fault) × JoinsEntries fields bytes offset places_old places_new answer × HandsOver answer status old new

-- what a call that makes edits leaves: how long both lists are, and where something bad is
pub record EditNumbers : Type 0 where
  pub freed : ℕ
  pub gained : ℕ
  pub bad : ℕ

-- the same with how long lists are
abbrev pub with_counts : EditCounts → EditNumbers → EditNumbers
with_counts counts numbers = record numbers { freed = counts.freed; gained = counts.gained }

-- where a fault says that something bad is, if it does
abbrev pub bad_by : Fault → ℕ → ℕ
bad_by (BadEdit at) bad = at
bad_by _ bad = bad

-- a call that makes edits returns 0, or the fault's number, and leaves the numbers of its answer. The others stay
abbrev pub HandsOverEdits : Result EditCounts EditRefusal → ℕ → EditNumbers → EditNumbers → Type 0
HandsOverEdits (Ok counts) status old new = (status ≡ 0) × (new ≡ with_counts counts old)
HandsOverEdits (Err (why.Edits fault)) status old new =
    (status ≡ fault_number fault) × (new ≡ record old { bad = bad_by fault old.bad })
HandsOverEdits (Err (why.Table bad)) status old new = (status ≡ fault_number bad.fault) × (new ≡ record old { bad = bad.index })
HandsOverEdits (Err (why.NoRoom counts)) status old new = (status ≡ fault_number WrongLength) × (new ≡ with_counts counts old)

-- the bytes of a table are edited by the fields of a header, and the answer is handed over
abbrev pub EditsTableFor : HeaderFields → List EditFields → EditPlaces → EditPlaces → ℕ → EditNumbers → EditNumbers → Type 0
EditsTableFor fields edits before after status old new =
    (answer : Result EditCounts EditRefusal) × EditsBytes fields edits before after answer × HandsOverEdits answer status old new
