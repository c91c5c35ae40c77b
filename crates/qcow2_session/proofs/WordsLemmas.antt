use Rattle.std.proofs.Common.{◌≡◌, ℕ, zero, suc, ◌+◌, ◌<◌, List, [], ◌∷◌, ◌++◌, get_or, length, length-append, map, take, Option, Some, None, add-one, ap, refl, arith}
use Rattle.std.specs.Option.{IsSome}
use Rattle.qcow2_session.specs.Commands.Words.{all_values, pair_by}

-- what was put together, by its parts
pair_by-parts : {T : Type 0} (one : Option T) (other : Option (List T)) (all : List T) → pair_by (λ first rest. first ∷ rest) one other ≡ Some all
    → (first : T) × (rest : List T) × (one ≡ Some first) × (other ≡ Some rest) × (all ≡ first ∷ rest)
pair_by-parts one other all is = grind arith

pair_by-more : {T : Type 0} (one : Option T) (other : Option (List T)) (first : T) (rest all : List T) (last : T) → one ≡ Some first → other ≡ Some (rest ++ last ∷ [])
    → all ≡ first ∷ rest → pair_by (λ first rest. first ∷ rest) one other ≡ Some (all ++ last ∷ [])
pair_by-more one other first rest all last is more whole = rw (is, more, whole) refl

pair_by-none : {A B C : Type 0} (join : A → B → C) (one : Option A) → pair_by join one None ≡ None
pair_by-none join one = grind arith

-- a word more says something
pub value-more : {X T : Type 0} (value_of : List ℕ → Option T) (bytes : X → List ℕ) (words : List X) (i : ℕ) (default : X) (items : List T) (found : T) → i < length words
    → all_values value_of (map bytes (take i words)) ≡ Some items → value_of (bytes (get_or words i default)) ≡ Some found
    → all_values value_of (map bytes (take (i + 1) words)) ≡ Some (items ++ found ∷ [])
value-more {X} {T} value_of bytes [] i default items found below before here = absurd (omega (arith, below))
value-more {X} {T} value_of bytes (x ∷ xs) zero default items found below before here =
    let none : items ≡ [] = cc in
    rw none (ap (λ (one : Option T). pair_by (λ first rest. first ∷ rest) one (Some [])) here)
value-more {X} {T} value_of bytes (x ∷ xs) (suc i) default items found below before here =
    let parts = pair_by-parts (value_of (bytes x)) (all_values value_of (map bytes (take i xs))) items before in
    let rest = value-more value_of bytes xs i default parts.1 found (omega (arith, below)) parts.3 here in
    let later : all_values value_of (map bytes (take (suc i) xs)) ≡ Some (parts.1 ++ found ∷ []) = rw add-one at rest in
    rw add-one (pair_by-more (value_of (bytes x)) (all_values value_of (map bytes (take (suc i) xs))) parts.0 parts.1 items found parts.2 later parts.4)

-- a word that says nothing
pub value-none : {X T : Type 0} (value_of : List ℕ → Option T) (bytes : X → List ℕ) (words : List X) (i : ℕ) (default : X) → i < length words
    → value_of (bytes (get_or words i default)) ≡ None → all_values value_of (map bytes words) ≡ None
value-none value_of bytes [] i default below here = absurd (omega (arith, below))
value-none value_of bytes (x ∷ xs) zero default below here = rw here refl
value-none value_of bytes (x ∷ xs) (suc i) default below here =
    grind (arith, pair_by-none, value-none value_of bytes xs i default (omega (arith, below)) here)

-- and where the list of what they say isn't known, they still say something
pub value-stays : {X T : Type 0} (value_of : List ℕ → Option T) (bytes : X → List ℕ) (words : List X) (i : ℕ) (default : X) (found : T) → i < length words
    → IsSome (all_values value_of (map bytes (take i words))) → value_of (bytes (get_or words i default)) ≡ Some found
    → IsSome (all_values value_of (map bytes (take (i + 1) words)))
value-stays {X} {T} value_of bytes words i default found below before here = stays-by (all_values value_of (map bytes (take i words))) refl before
  where
    stays-by : (items : Option (List T)) → all_values value_of (map bytes (take i words)) ≡ items → IsSome items → IsSome (all_values value_of (map bytes (take (i + 1) words)))
    stays-by (Some items) is some = rw (value-more value_of bytes words i default items found below is here) some
    stays-by None is some = cc

-- what the words so far say, and the next one
pub ruleset values_of_words = (value-stays, value-more, value-none, length-append)
