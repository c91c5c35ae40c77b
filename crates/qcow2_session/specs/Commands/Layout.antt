-- What does the command `layout` print?
pub mod Picture
use Rattle.std.specs.Prelude.{◌≡◌, ◌⊎◌, ℕ, ◌+◌, true, false, List, [], ◌∷◌, ◌++◌, flat_map, if◌then◌else◌, Bool, Option, Some, None, Result, IfErr, IsErrOf, IsOkAnd, OnOk, bytes_eq, codes}
use Rattle.qcow2_base.specs.Storage.{Image, OnImage, ReadsFor}
use Rattle.qcow2_base.specs.declared.fault.Fault.{Fault}
use Rattle.qcow2_base.specs.declared.fault.Fault.TheVariants.{Storage}
use Rattle.qcow2_check.specs.Findings.{checked_tables}
use Rattle.qcow2_check.specs.Uses.{ImageTables}
use Rattle.qcow2_layout.specs.Layout.{AreRunsTo, LayoutState, layout_tables}
use Rattle.qcow2_layout.specs.Parts.{part_at, taken_end}
use Rattle.qcow2_layout.specs.declared.parts.Part.{Part}
use Rattle.qcow2_layout.specs.declared.parts.Part.TheVariants as part
use Rattle.qcow2_layout.specs.declared.parts.Run.{Run}
use Rattle.qcow2_metadata.specs.Header.{HeaderRecord, each_feature}
use Rattle.qcow2_metadata.specs.Results.{IsFromOutside}
use Rattle.qcow2_session.specs.Commands.Facts.{CommandFacts, plain_facts}
use Rattle.qcow2_session.specs.Commands.Printing.{IsOutputFault, IsReadFault, OutputGets, OutputGetsPart, Run as Printed}
use Rattle.qcow2_session.specs.Commands.Layout.Picture.{PrintsPicture}
use Rattle.qcow2_session.specs.Commands.Tables.{pair_text}
use Rattle.qcow2_session.specs.Commands.Words.{WordList}
use Rattle.qcow2_session.specs.Lines.{offset_text}
use Rattle.qcow2_session.specs.declared.commands.Command.{Command}
use Rattle.qcow2_session.specs.declared.commands.Command.TheVariants as command
use Rattle.qcow2_session.specs.declared.commands.layout.LayoutForm.{LayoutForm}
use Rattle.qcow2_session.specs.declared.commands.layout.LayoutForm.TheVariants.{Lines, Svg}

-- the command `layout` that the words after its image ask for
abbrev pub layout_command : WordList → Option Command
layout_command [] = Some (command.Layout Lines)
layout_command (form ∷ []) = if bytes_eq form (codes "svg") then Some (command.Layout Svg) else None
layout_command _ = None

-- what a line says of a part of an image
abbrev pub part_text : Part → List ℕ
part_text part.Header = codes "header"
part_text part.L1Table = codes "l1"
part_text part.L2Table = codes "l2"
part_text part.EncryptionHeader = codes "encryption-header"
part_text part.RefcountTable = codes "refcount-table"
part_text part.RefcountBlock = codes "refcount-block"
part_text (part.Data offset) = codes "data " ++ offset_text offset.0
part_text part.Compressed = codes "compressed"
part_text part.Leaked = codes "leaked"
part_text part.Free = codes "free"

-- the line of a run: its first cluster, how many it has, and what they are
abbrev pub run_line : Run → List ℕ
run_line run = pair_text run.first.0 run.count ++ codes " " ++ part_text run.part ++ codes "\n"

-- the runs of an image with these tables, from a cluster on up to another
abbrev pub AreRunsOf : ImageTables → Image → ℕ → List Run → ℕ → Type 0
AreRunsOf tables image = AreRunsTo tables.header.v2.cluster_bits (part_at tables image) (taken_end tables image)

-- a run prints an image's runs from a reader's cluster on: all of them after `Ok`. Else a call failed or memory ran out, and the
-- output got the lines of some; or it failed itself, and got a beginning of some lines
pub record PrintsRunsFrom {A O : Type 0} (printed : Printed A O) (reader : LayoutState) : Type 0 where
  pub all : OnOk printed.answer (OnImage printed.old (λ bytes. (runs : List Run)
      × AreRunsOf (layout_tables reader) bytes reader.position runs (taken_end (layout_tables reader) bytes)
      × OutputGets printed (flat_map run_line runs)))
  pub some : IfErr printed.answer (λ fault. OnImage printed.old (λ bytes. (runs : List Run) × (to : ℕ)
      × AreRunsOf (layout_tables reader) bytes reader.position runs to
      × ((IsFromOutside fault × OutputGets printed (flat_map run_line runs))
      ⊎ (IsOutputFault printed fault × OutputGetsPart printed (flat_map run_line runs)))))

-- the output got the lines of all runs of an image with these tables
abbrev pub PrintsAllRuns : {A O : Type 0} → Printed A O → Image → ImageTables → Type 0
PrintsAllRuns printed image tables = (runs : List Run) × AreRunsOf tables image 0 runs (taken_end tables image)
    × OutputGets printed (flat_map run_line runs)

-- the output got those of its first runs, where a call failed or memory ran out, or a beginning of them, where it failed itself
abbrev pub PrintsSomeRuns : {A O : Type 0} → Fault → Printed A O → Image → ImageTables → Type 0
PrintsSomeRuns fault printed image tables = (runs : List Run) × (to : ℕ) × AreRunsOf tables image 0 runs to
    × ((IsFromOutside fault × OutputGets printed (flat_map run_line runs))
    ⊎ (IsOutputFault printed fault × OutputGetsPart printed (flat_map run_line runs)))

-- a run prints the layout of an image with this header in lines: all its runs, or nothing where its tables can't be read, or some
pub record PrintsInLines {A O : Type 0} (printed : Printed A O) (header : HeaderRecord) : Type 0 where
  pub all : OnOk printed.answer (OnImage printed.old (λ bytes. IsOkAnd (checked_tables header bytes) (PrintsAllRuns printed bytes)))
  pub refused : IfErr printed.answer (λ fault. OnImage printed.old (λ bytes.
      (IsReadFault (checked_tables header bytes) printed fault × OutputGets printed [])
      ⊎ IsOkAnd (checked_tables header bytes) (PrintsSomeRuns fault printed bytes)))

-- a run prints a layout in this form
abbrev pub PrintsLayout : {A O : Type 0} → LayoutForm → Printed A O → HeaderRecord → Type 0
PrintsLayout Lines printed header = PrintsInLines printed header
PrintsLayout Svg printed header = PrintsPicture printed header

-- whether a form is printed run by run
abbrev pub is_printed_in_turn : LayoutForm → Bool
is_printed_in_turn Lines = true
is_printed_in_turn Svg = false

-- the facts of the command `layout`
abbrev pub layout_facts : LayoutForm → CommandFacts
layout_facts form = record (plain_facts (λ O header run. PrintsLayout form run header × ReadsFor (IsErrOf run.answer Storage) run.old run.new)) {
  accepts = each_feature;
  prints_before_faults = is_printed_in_turn form;
  reads_all_tables = true;
}
