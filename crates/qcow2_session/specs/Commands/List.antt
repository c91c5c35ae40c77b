-- What does the command `list` print?
use Rattle.std.specs.Prelude.{◌≡◌, ◌⊎◌, ℕ, true, List, [], ◌∷◌, ◌++◌, map, Result, Ok, IfErr, IsErrOf, IsOkAnd, OnOk}
use Rattle.std.specs.List.{concat}
use Rattle.qcow2_base.specs.Storage.{Image, OnImage, ReadsFor}
use Rattle.qcow2_base.specs.declared.fault.Fault.{Fault}
use Rattle.qcow2_base.specs.declared.fault.Fault.TheVariants.{Storage}
use Rattle.qcow2_metadata.specs.Results.{result_map}
use Rattle.qcow2_metadata.specs.Header.{Geometry, HeaderRecord, geometry_of}
use Rattle.qcow2_session.specs.Commands.Printing.{IsOutputFault, IsReadFault, OutputGets, OutputGetsPart, Run}
use Rattle.qcow2_session.specs.Commands.Entries.{table_lines}
use Rattle.qcow2_session.specs.Commands.Facts.{CommandFacts, plain_facts}
use Rattle.qcow2_image.specs.L2Tables.{NamedTables, WalkState, named_tables, tables_left}
use Rattle.qcow2_check.specs.NamedTables.{loaded_l1_table}
use Rattle.qcow2_session.specs.declared.commands.entries.Label.TheVariants.{Offset}

-- of tables one after another, the lines of each, or why it can't be loaded
abbrev pub TableTexts : Type 0
TableTexts = List (Result (List ℕ) Fault)

-- the text of tables, by what the L1 table names
abbrev pub texts_of : Geometry → NamedTables → TableTexts
texts_of g tables = map (λ table. result_map (table_lines Offset g table.0) table.1) tables

-- the text of the tables that a walk comes to yet
abbrev pub texts_left : WalkState → Image → TableTexts
texts_left walk image = texts_of (geometry_of walk.header) (tables_left walk image)

-- the text of the L2 tables of an image with this header, or why its L1 table can't be loaded
abbrev pub texts_of_tables : HeaderRecord → Image → Result TableTexts Fault
texts_of_tables header image =
    let g = geometry_of header in
    result_map (λ l1. texts_of g (named_tables g 0 l1 image)) (loaded_l1_table header image)

-- all tables can be loaded, and the output got their lines
abbrev pub PrintsAllTables : {A O : Type 0} → Run A O → TableTexts → Type 0
PrintsAllTables run tables = (printed : List (List ℕ)) × (tables ≡ map Ok printed) × OutputGets run (concat printed)

-- the print of tables ended in this fault at one of them, where all before it can be loaded: it can't be read, and the
-- output got the lines of those before it, or it can, and the output failed and got a beginning of these lines and its own
pub record PrintsTablesBefore {A O : Type 0} (fault : Fault) (run : Run A O) (tables : TableTexts) : Type 0 where
  pub printed : List (List ℕ)
  pub table : Result (List ℕ) Fault
  pub rest : TableTexts
  pub are : tables ≡ map Ok printed ++ table ∷ rest
  pub why : (IsReadFault table run fault × OutputGets run (concat printed))
      ⊎ (IsOutputFault run fault × IsOkAnd table (λ lines. OutputGetsPart run (concat printed ++ lines)))

-- a run prints tables: all of them, or those before the one at which it ended
pub record PrintsTables {A O : Type 0} (run : Run A O) (tables : Image → TableTexts) : Type 0 where
  pub lines : OnOk run.answer (OnImage run.old (λ bytes. PrintsAllTables run (tables bytes)))
  pub refused : IfErr run.answer (λ fault. OnImage run.old (λ bytes. PrintsTablesBefore fault run (tables bytes)))

-- a run lists the L2 tables of its image: it printed all of them, or it was refused. Where the L1 table can't be loaded
-- nothing is printed, else the lines of the tables before the one at which it ended
pub record PrintsList {A O : Type 0} (run : Run A O) (tables : Image → Result TableTexts Fault) : Type 0 where
  pub lines : OnOk run.answer (OnImage run.old (λ bytes. IsOkAnd (tables bytes) (PrintsAllTables run)))
  pub refused : IfErr run.answer (λ fault. OnImage run.old (λ bytes.
      (IsReadFault (tables bytes) run fault × OutputGets run [])
      ⊎ IsOkAnd (tables bytes) (PrintsTablesBefore fault run)))

-- the facts of the command `list`, which prints table by table
abbrev pub list_facts : CommandFacts
list_facts = record (plain_facts (λ O header run.
    PrintsList run (texts_of_tables header) × ReadsFor (IsErrOf run.answer Storage) run.old run.new)) {
      prints_before_faults = true;
      reads_all_tables = true;
    }
