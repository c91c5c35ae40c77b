use Rattle.std.proofs.Common.{◌≡◌, ℕ, Bool, true, false, List, [], ◌∷◌, Some, None, ap, refl, sym, ◌∙◌}
use Rattle.std.specs.List.{fold}
use Rattle.qcow2_check.specs.FileEnd.{file_end_after, has_use, missing_use}
use Rattle.qcow2_check.specs.declared.file_end.FileEnd.{FileEnd}
use Rattle.qcow2_check.specs.declared.uses.Use.{Use}

-- a file's end before any use, and one that found a use missing
abbrev pub begun : ℕ → FileEnd
begun file = record { clusters = file; missing = None }

abbrev pub found : ℕ → Use → FileEnd
found file one = record { clusters = file; missing = Some one }

-- the first that is found stays
found_stays : (file : ℕ) (one : Use) (uses : List Use) → fold file_end_after (found file one) uses ≡ found file one
found_stays file one [] = refl
found_stays file one (next ∷ uses) = found_stays file one uses

-- so what is found of some uses is the first that is missing
pub found_missing : (file : ℕ) (uses : List Use) → (fold file_end_after (begun file) uses).missing ≡ missing_use file uses
found_missing file [] = refl
found_missing file (one ∷ uses) = by_use (has_use file one) refl (found_missing file uses)
  where
    by_use : (has : Bool) → has_use file one ≡ has → (fold file_end_after (begun file) uses).missing ≡ missing_use file uses
        → (fold file_end_after (begun file) (one ∷ uses)).missing ≡ missing_use file (one ∷ uses)
    by_use true is rest =
        let step : file_end_after (begun file) one ≡ begun file = rw is refl in
        let here : missing_use file (one ∷ uses) ≡ missing_use file uses = rw is refl in
        ap (λ (end : FileEnd). (fold file_end_after end uses).missing) step ∙ rest ∙ sym here
    by_use false is rest =
        let step : file_end_after (begun file) one ≡ found file one = rw is refl in
        let here : missing_use file (one ∷ uses) ≡ Some one = rw is refl in
        ap (λ (end : FileEnd). (fold file_end_after end uses).missing) step ∙ ap (λ (end : FileEnd). end.missing) (found_stays file one uses) ∙ sym here
