-- Which text is the picture of a layout?
use Rattle.std.specs.Prelude.{◌⊎◌, ℕ, ◌/◌, ◌%◌, ◌^◌, List, ◌++◌, flat_map, IfErr, IsOkAnd, OnOk, codes}
use Rattle.std.specs.Fmt.{decimal}
use Rattle.qcow2_base.specs.Storage.{Image, OnImage}
use Rattle.qcow2_check.specs.Findings.{checked_tables}
use Rattle.qcow2_check.specs.Uses.{ImageTables}
use Rattle.qcow2_metadata.specs.Header.{HeaderRecord}
use Rattle.qcow2_layout.specs.Picture.{IsPictureOf, PictureState, shapes_of, shown_squares}
use Rattle.qcow2_layout.specs.declared.picture.Shape.{Shape}
use Rattle.qcow2_session.specs.declared.commands.layout.picture.TheConstants.{BEGIN, LEGEND}
use Rattle.qcow2_session.specs.Commands.Printing.{IsOutputFault, IsReadFault, OutputGets, OutputGetsPart, Run}

-- the line of a shape: a path around its squares, in rows of 64
abbrev pub shape_line : Shape → List ℕ
shape_line shape = codes "<path class='s" ++ decimal shape.shade ++ codes "' d='M" ++ decimal (shape.first % 64) ++ codes " "
    ++ decimal (shape.first / 64) ++ codes "h" ++ decimal shape.count ++ codes "v1h-" ++ decimal shape.count ++ codes "z'/>\n"

-- the shapes of a picture, and what stands before them
abbrev pub squares_text : List Shape → List ℕ
squares_text shapes = BEGIN.now ++ flat_map shape_line shapes

-- how many clusters a square stands for, their size, and the end of a picture
abbrev pub legend_end_text : ℕ → ℕ → List ℕ
legend_end_text scale cluster_size = decimal scale ++ codes "; bytes in a cluster: " ++ decimal cluster_size ++ codes "</text>\n</g>\n</svg>\n"

-- what stands after the shapes
abbrev pub legend_text : ℕ → ℕ → List ℕ
legend_text scale cluster_size = LEGEND.now ++ legend_end_text scale cluster_size

-- the picture of shapes whose squares stand for that many clusters of a size each
abbrev pub shapes_text : List Shape → ℕ → ℕ → List ℕ
shapes_text shapes scale cluster_size = squares_text shapes ++ legend_text scale cluster_size

-- the text of a picture under cluster_bits
abbrev pub picture_text : ℕ → PictureState → List ℕ
picture_text cb picture = shapes_text (shapes_of (shown_squares picture)) picture.scale (2 ^ cb)

-- the output got the picture of an image with these tables
abbrev pub PrintsWholePicture : {A O : Type 0} → ℕ → Run A O → Image → ImageTables → Type 0
PrintsWholePicture cb printed image tables = (picture : PictureState) × IsPictureOf tables image picture
    × OutputGets printed (picture_text cb picture)

-- or a beginning of it
abbrev pub PrintsPicturePart : {A O : Type 0} → ℕ → Run A O → Image → ImageTables → Type 0
PrintsPicturePart cb printed image tables = (picture : PictureState) × IsPictureOf tables image picture
    × OutputGetsPart printed (picture_text cb picture)

-- a run prints the picture of an image with this header, or it ended in the fault of what it read, or in that of its output, which
-- got a beginning of the picture
pub record PrintsPicture {A O : Type 0} (printed : Run A O) (header : HeaderRecord) : Type 0 where
  pub all : OnOk printed.answer (OnImage printed.old (λ bytes. IsOkAnd (checked_tables header bytes)
      (PrintsWholePicture header.v2.cluster_bits printed bytes)))
  pub refused : IfErr printed.answer (λ fault. OnImage printed.old (λ bytes. IsReadFault (checked_tables header bytes) printed fault
      ⊎ (IsOutputFault printed fault × IsOkAnd (checked_tables header bytes) (PrintsPicturePart header.v2.cluster_bits printed bytes))))
