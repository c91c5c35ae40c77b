use Rattle.std.proofs.lemmas.Bool.Decides.{nat_tests}
use Rattle.std.proofs.Common.{◌≡◌, ℕ, ◌==◌, List, [], ◌∷◌, ◌++◌, append-nil, if◌then◌else◌, Result, Ok, Err, IsTrue, inl, inr, refl, arith}
use Rattle.std.specs.Io.KnownBytes.{Appends}
use Rattle.std.proofs.KnownBytes.{Appends-trans}
use Rattle.std.proofs.lemmas.Grind.{flat_map-append}
use Rattle.qcow2_base.specs.Storage.{Image, StorageState}
use Rattle.qcow2_base.specs.declared.fault.Fault.{Fault}
use Rattle.qcow2_session.proofs.OutputLemmas.{part-after, part-of_more}
use Rattle.qcow2_session.proofs.PrintingLemmas.{run_between}
use Rattle.qcow2_session.specs.Commands.Map.{Disk, PrintsExtents, closing, extent_text, extents_text, opening}
use Rattle.qcow2_session.specs.Commands.Printing.{AppendsPart, OutputBytes, PrintsText}
use Rattle.qcow2_image.specs.Extents.{AreExtents}
use Rattle.qcow2_session.specs.declared.commands.map.ExtentFormat.{ExtentFormat}
use Rattle.qcow2_image.specs.declared.extents.Extent.{Extent}

-- the text of extents, and of one more
pub extents_text-more : (format : ExtentFormat) (extents : List Extent) (extent : Extent)
    → extents_text format (extents ++ (extent ∷ [])) ≡ extents_text format extents ++ extent_text format extent
extents_text-more format extents extent = rw (flat_map-append (extent_text format) extents (extent ∷ []), append-nil (extent_text format extent)) refl

-- what follows the extents that end with the disk
closing-there : (format : ExtentFormat) (size : ℕ) → (if size == size then closing format else []) ≡ closing format
closing-there format size = grind (arith, nat_tests)

-- what was printed before the extents, and then a beginning of their text
pub opening-part : (format : ExtentFormat) (extents : List Extent) (more : List ℕ) (a b c : OutputBytes) → Appends a b (opening format)
    → AppendsPart b c (extents_text format extents) → AppendsPart a c (opening format ++ extents_text format extents ++ more)
opening-part format extents more a b c first part = part-of_more a c _ more (part-after a b c _ _ first part)

-- all extents of a disk are printed, and then what follows them, if the output doesn't fail
pub map-closed : {A O : Type 0} (answer : Result A Fault) (format : ExtentFormat) (disk : Image → Result Disk Fault) (read : Disk) (contents : O → OutputBytes) (old new : StorageState) (a c : O) (b : OutputBytes)
    → (IsTrue old.tells → disk old.byte_at ≡ Ok read)
    → (IsTrue old.tells → (extents : List Extent) × AreExtents read.contents read.size 0 extents read.size × Appends (contents a) b (opening format ++ extents_text format extents))
    → PrintsText answer b (contents c) (closing format) → new.failures ≡ old.failures → PrintsExtents (run_between contents answer old new a c) format disk
map-closed (Ok done) format disk read contents old new a c b is printed closed calm = record {
  extents = λ told.
      let all = printed told in
      rw (is told) (all.0, all.1, Appends-trans _ b _ _ _ all.2 closed.text);
  refused = tt;
}
map-closed (Err fault) format disk read contents old new a c b is printed closed calm = record {
  extents = tt;
  refused = λ told.
      let all = printed told in
      let part = part-after _ b _ _ _ all.2 closed.part in
      inr (rw (is told) (inl ((closed.fault, calm), (all.0, read.size, all.1, rw (closing-there format read.size) part))));
}
