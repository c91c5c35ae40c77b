use Rattle.std.proofs.Common.{◌≡◌, ℕ, true, false, List, [], ◌∷◌, refl}
use Rattle.qcow2_check.specs.Repeats.{is_again, times_at, worth_from}

-- of these three offsets the third is the first again
offsets : List ℕ
offsets = 327680 ∷ 393216 ∷ 327680 ∷ []

is_first : is_again offsets 0 ≡ false
unfolding offsets
is_first = refl

is_second : is_again offsets 1 ≡ false
unfolding offsets
is_second = refl

is_third : is_again offsets 2 ≡ true
unfolding offsets
is_third = refl

-- it counts twice at its first place: 2 * 327680 + 393216
all_worth : worth_from (times_at (2 ∷ 1 ∷ 0 ∷ [])) (λ offset. offset) 0 offsets ≡ 1048576
unfolding offsets
all_worth = refl
