use Rattle.std.proofs.Common.{◌≡◌, ◌≢◌, ◌⊎◌, ℕ, ◌^◌, List, Result, Ok, Err, IsTrue, false, inl, inr, refl, subst, true≢false}
use Rattle.std.specs.Result.{IsOkAnd}
use Rattle.qcow2_base.specs.Storage.{StorageState}
use Rattle.qcow2_base.specs.declared.fault.Fault.{Fault}
use Rattle.qcow2_base.specs.declared.fault.Fault.TheVariants.{NoMemory, Storage}
use Rattle.qcow2_check.specs.Findings.{checked_tables}
use Rattle.qcow2_metadata.specs.Header.{HeaderRecord}
use Rattle.qcow2_layout.specs.Picture.{IsPictureOf, PictureState, shapes_of, shown_squares}
use Rattle.qcow2_layout.specs.declared.picture.Shape.{Shape}
use Rattle.qcow2_session.proofs.PrintingLemmas.{read_fault-of, run_between}
use Rattle.qcow2_session.proofs.VerdictLemmas.{is_ok_and-weaker}
use Rattle.qcow2_session.specs.Commands.Layout.{is_printed_in_turn}
use Rattle.qcow2_session.specs.Commands.Layout.Picture.{PrintsPicture, PrintsPicturePart, PrintsWholePicture, picture_text, shapes_text}
use Rattle.qcow2_session.specs.Commands.Printing.{OutputBytes, PrintsText}
use Rattle.qcow2_session.specs.declared.commands.layout.LayoutForm.{LayoutForm}
use Rattle.qcow2_session.specs.declared.commands.layout.LayoutForm.TheVariants.{Lines, Svg}

-- the form that isn't printed run by run is a picture
pub is-svg : (form : LayoutForm) → is_printed_in_turn form ≡ false → form ≡ Svg
is-svg Svg silent = refl
is-svg Lines silent = absurd (true≢false silent)

-- what is read of a picture is refused, and nothing is printed
pub picture-refused : {A O : Type 0} (fault : Fault) (header : HeaderRecord) (contents : O → OutputBytes) (old new : StorageState) (a : O)
    → (IsTrue old.tells → (checked_tables header old.byte_at ≡ Err fault) ⊎ (fault ≡ NoMemory) ⊎ (fault ≡ Storage)) → (fault ≡ Storage → new.failures ≢ old.failures)
    → PrintsPicture {A = A} (run_between contents (Err fault) old new a a) header
picture-refused {A = A} fault header contents old new a refused failed = record {
  all = tt;
  refused = λ told. inl (read_fault-of fault (checked_tables header old.byte_at) (run_between {A = A} contents (Err fault) old new a a) (in_order (refused told)) failed);
}
  where
    in_order : (checked_tables header old.byte_at ≡ Err fault) ⊎ (fault ≡ NoMemory) ⊎ (fault ≡ Storage)
        → (fault ≡ Storage) ⊎ (fault ≡ NoMemory) ⊎ (checked_tables header old.byte_at ≡ Err fault)
    in_order (inl meant) = inr (inr meant)
    in_order (inr (inl memory)) = inr (inl memory)
    in_order (inr (inr storage)) = inl storage

-- a picture is printed after it was read
pub picture-printed : {A O : Type 0} (answer : Result A Fault) (header : HeaderRecord) (picture : PictureState) (contents : O → OutputBytes) (old new : StorageState) (a b : O)
    → (IsTrue old.tells → IsOkAnd (checked_tables header old.byte_at) (λ tables. IsPictureOf tables old.byte_at picture)) → new.failures ≡ old.failures
    → PrintsText answer (contents a) (contents b) (picture_text header.v2.cluster_bits picture) → PrintsPicture (run_between contents answer old new a b) header
picture-printed {A = A} (Ok done) header picture contents old new a b read calm prints = record {
  all = λ told. is_ok_and-weaker (λ tables. IsPictureOf tables old.byte_at picture)
      (PrintsWholePicture header.v2.cluster_bits (run_between {A = A} contents (Ok done) old new a b) old.byte_at) (checked_tables header old.byte_at)
      (λ tables is. (picture, is, prints.text)) (read told);
  refused = tt;
}
picture-printed {A = A} (Err fault) header picture contents old new a b read calm prints = record {
  all = tt;
  refused = λ told. inr (
    (prints.fault, calm),
    is_ok_and-weaker (λ tables. IsPictureOf tables old.byte_at picture)
        (PrintsPicturePart header.v2.cluster_bits (run_between {A = A} contents (Err fault) old new a b) old.byte_at) (checked_tables header old.byte_at)
        (λ tables is. (picture, is, prints.part)) (read told),
  );
}

-- the picture of shapes that are those of a picture
pub picture-text : {T : Type 0} (answer : Result T Fault) (a b : OutputBytes) (shapes : List Shape) (scale size cb : ℕ) (picture : PictureState)
    → shapes ≡ shapes_of (shown_squares picture) → scale ≡ picture.scale → size ≡ 2 ^ cb → PrintsText answer a b (shapes_text shapes scale size)
    → PrintsText answer a b (picture_text cb picture)
picture-text answer a b shapes scale size cb picture same_shapes same_scale same_size prints =
    subst (λ (n : ℕ). PrintsText answer a b (shapes_text (shapes_of (shown_squares picture)) picture.scale n)) same_size
    (subst (λ (n : ℕ). PrintsText answer a b (shapes_text (shapes_of (shown_squares picture)) n size)) same_scale
    (subst (λ (list : List Shape). PrintsText answer a b (shapes_text list scale size)) same_shapes prints))
