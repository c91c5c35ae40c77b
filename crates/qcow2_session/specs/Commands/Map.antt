-- What does the command `map` print?
use Rattle.std.specs.Prelude.{◌⊎◌, ℕ, true, ◌==◌, if◌then◌else◌, List, [], ◌∷◌, ◌++◌, flat_map, Option, Some, None, Result, IfErr, IsErrOf, IsOkAnd, OnOk, bytes_eq, codes}
use Rattle.std.specs.Fmt.{decimal}
use Rattle.qcow2_base.specs.Storage.{Image, OnImage, ReadsFor}
use Rattle.qcow2_base.specs.declared.fault.Fault.{Fault}
use Rattle.qcow2_base.specs.declared.fault.Fault.TheVariants.{Storage}
use Rattle.qcow2_metadata.specs.Header.{HeaderRecord, each_feature, geometry_of}
use Rattle.qcow2_metadata.specs.Results.{result_map}
use Rattle.qcow2_image.specs.Extents.{AreExtents, AreExtentsBefore, Contents, ExtentsState, contents_for, contents_of}
use Rattle.qcow2_check.specs.NamedTables.{loaded_l1_table}
use Rattle.qcow2_session.specs.Commands.Facts.{CommandFacts, plain_facts}
use Rattle.qcow2_session.specs.Commands.Printing.{IsOutputFault, IsReadFault, OutputGets, OutputGetsPart, Run}
use Rattle.qcow2_session.specs.Commands.Words.{WordList}
use Rattle.qcow2_session.specs.Lines.{offset_text}
use Rattle.qcow2_session.specs.declared.commands.map.ExtentFormat.{ExtentFormat}
use Rattle.qcow2_session.specs.declared.commands.map.ExtentFormat.TheVariants.{Json, Lines}
use Rattle.qcow2_image.specs.declared.extents.Content.{Content}
use Rattle.qcow2_image.specs.declared.extents.Content.TheVariants.{Absent, AllocatedZeros, Compressed, Data, Zeros}
use Rattle.qcow2_image.specs.declared.extents.Extent.{Extent}
use Rattle.qcow2_session.specs.declared.commands.Command.{Command}
use Rattle.qcow2_session.specs.declared.commands.Command.TheVariants as command

-- the command `map` that the words after its image ask for
abbrev pub map_command : WordList → Option Command
map_command [] = Some (command.Map Lines)
map_command (format ∷ []) = if bytes_eq format (codes "json") then Some (command.Map Json) else None
map_command _ = None

-- what a line says of an extent's content
abbrev pub content_text : Content → List ℕ
content_text (Data offset) = codes "data " ++ offset_text offset.0
content_text Zeros = codes "zero"
content_text (AllocatedZeros offset) = codes "zero " ++ offset_text offset.0
content_text Compressed = codes "compressed"
content_text Absent = codes "backing"

-- the line of an extent: its guest offset, its length, and its content
abbrev pub extent_line : Extent → List ℕ
extent_line extent = offset_text extent.start.0 ++ codes " " ++ offset_text extent.length ++ codes " "
    ++ content_text extent.content ++ codes "\n"

-- what JSON says of a content: whether it is in the image, reads as zeros, and is data. Then where it lies, which is said
-- of clusters of its own alone
abbrev pub json_content : Content → List ℕ
json_content (Data offset) = codes ", \"depth\": 0, \"present\": true, \"zero\": false, \"data\": true, \"offset\": "
    ++ decimal offset.0 ++ codes "}"
json_content (AllocatedZeros offset) =
    codes ", \"depth\": 0, \"present\": true, \"zero\": true, \"data\": false, \"offset\": " ++ decimal offset.0 ++ codes "}"
json_content Zeros = codes ", \"depth\": 0, \"present\": true, \"zero\": true, \"data\": false}"
json_content Compressed = codes ", \"depth\": 0, \"present\": true, \"zero\": false, \"data\": true}"
json_content Absent = codes ", \"depth\": 0, \"present\": false, \"zero\": true, \"data\": false}"

-- an extent in a list of JSON, with what stands between it and the one before it; the first begins at 0
abbrev pub json_row : Extent → List ℕ
json_row extent = (if extent.start.0 == 0 then [] else codes ",\n") ++ (codes "{ \"start\": " ++ decimal extent.start.0
    ++ codes ", \"length\": " ++ decimal extent.length ++ json_content extent.content)

-- the text of an extent
abbrev pub extent_text : ExtentFormat → Extent → List ℕ
extent_text Lines extent = extent_line extent
extent_text Json extent = json_row extent

-- the text before the first extent
abbrev pub opening : ExtentFormat → List ℕ
opening Lines = []
opening Json = codes "["

-- the text after the last
abbrev pub closing : ExtentFormat → List ℕ
closing Lines = []
closing Json = codes "]\n"

-- the text of extents
abbrev pub extents_text : ExtentFormat → List Extent → List ℕ
extents_text format extents = flat_map (extent_text format) extents

-- a guest's disk: what each byte reads as, and how many they are
pub record Disk : Type 0 where
  pub contents : Contents
  pub size : ℕ

-- the disk of an image with this header, or why its L1 table can't be loaded
abbrev pub disk_of : HeaderRecord → Image → Result Disk Fault
disk_of header image = result_map (λ l1. record { contents = contents_of (geometry_of header) l1 image; size = header.v2.size })
    (loaded_l1_table header image)

-- the output got the text of all extents of a disk
abbrev pub PrintsMap : {A O : Type 0} → ExtentFormat → Run A O → Disk → Type 0
PrintsMap format run disk = (extents : List Extent) × AreExtents disk.contents disk.size 0 extents disk.size
    × OutputGets run (opening format ++ extents_text format extents ++ closing format)

-- the output got the text of the extents before one that can't be read for this fault
abbrev pub PrintsMapBefore : {A O : Type 0} → ExtentFormat → Fault → Run A O → Disk → Type 0
PrintsMapBefore format fault run disk = (extents : List Extent) × AreExtentsBefore disk.contents disk.size 0 extents fault
    × OutputGets run (opening format ++ extents_text format extents)

-- the output got a beginning of the text of a disk: of that of all its extents, or of the extents up to an offset
abbrev pub PrintsMapPart : {A O : Type 0} → ExtentFormat → Run A O → Disk → Type 0
PrintsMapPart format run disk = (extents : List Extent) × (to : ℕ) × AreExtents disk.contents disk.size 0 extents to
    × OutputGetsPart run (opening format ++ extents_text format extents ++ (if to == disk.size then closing format else []))

-- a run prints the extents from a reader's offset on: up to the disk's size after `Ok`, and after a fault up to the extent
-- that can't be read. An output that failed got a beginning of the text of extents up to an offset
pub record PrintsRest {A O : Type 0} (run : Run A O) (format : ExtentFormat) (reader : ExtentsState) : Type 0 where
  pub extents : OnOk run.answer (OnImage run.old (λ bytes. (extents : List Extent)
      × AreExtents (contents_for reader bytes) reader.header.v2.size reader.position extents reader.header.v2.size
      × OutputGets run (extents_text format extents)))
  pub refused : IfErr run.answer (λ fault. OnImage run.old (λ bytes.
      (IsOutputFault run fault × (extents : List Extent) × (to : ℕ)
      × AreExtents (contents_for reader bytes) reader.header.v2.size reader.position extents to
      × OutputGetsPart run (extents_text format extents))
      ⊎ ((extents : List Extent)
      × AreExtentsBefore (contents_for reader bytes) reader.header.v2.size reader.position extents fault
      × OutputGets run (extents_text format extents))))

-- a run maps a disk: it printed all extents, or it was refused. Where the L1 table can't be loaded nothing is printed, else
-- the extents before the one that can't be read. An output that failed got a beginning of the text
pub record PrintsExtents {A O : Type 0} (run : Run A O) (format : ExtentFormat) (disk : Image → Result Disk Fault) : Type 0 where
  pub extents : OnOk run.answer (OnImage run.old (λ bytes. IsOkAnd (disk bytes) (PrintsMap format run)))
  pub refused : IfErr run.answer (λ fault. OnImage run.old (λ bytes.
      (IsReadFault (disk bytes) run fault × OutputGets run [])
      ⊎ IsOkAnd (disk bytes) (λ read.
      (IsOutputFault run fault × PrintsMapPart format run read) ⊎ PrintsMapBefore format fault run read)))

-- the facts of the command `map`, which prints extent by extent
abbrev pub map_facts : ExtentFormat → CommandFacts
map_facts format = record (plain_facts (λ O header run.
    PrintsExtents run format (disk_of header) × ReadsFor (IsErrOf run.answer Storage) run.old run.new)) {
      accepts = each_feature;
      prints_before_faults = true;
      reads_all_tables = true;
    }
