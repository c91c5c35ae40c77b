use Rattle.std.proofs.lemmas.Bool.Decides.{nat_tests}
use Rattle.std.proofs.Common.{◌≡◌, ℕ, zero, suc, ◌+◌, ◌^◌, ◌<◌, ◌≤◌, List, [], ◌∷◌, ◌++◌, length, get_or, take, drop, map, refl, ap, sym, append-nil, length-append, arith, Option, None, Some, Bool, true, false, not, nat_eq, ◌≢◌, option_map, Bor, String, string_bytes}
use Rattle.std.specs.Global.{Global}
use Rattle.std.specs.Cmp.Lexicographic.{pointwise}
use Rattle.std.specs.List.{list_all, slice_get}
use Rattle.std.specs.Option.{option_eq, option_to_list}
use Rattle.std.specs.Str.{bytes_eq}
use Rattle.std.proofs.Math.Pow.{pow_mono}
use Rattle.std.proofs.lemmas.List.{get_or_at}
use Rattle.std.proofs.lemmas.List.Folds.{list_all-append, list_all_at}
use Rattle.std.proofs.lemmas.Slice.Eq.{bytes_eq-Decides}
use Rattle.qcow2_metadata.specs.Header.{HeaderRecord, first_by, names_by, all_same}
use Rattle.qcow2_metadata.specs.Header.Extensions.{Extension, extension_of}
use Rattle.qcow2_metadata.specs.declared.header.extensions.HeaderExtension.{HeaderExtension}

-- a table or a block has 64 entries at least
pub some_entries : (bits : ℕ) → 6 ≤ bits → 64 ≤ 2 ^ bits
some_entries bits some = pow_mono some

-- the sizes of clusters, tables and blocks
pub ruleset powers = (pow_mono, some_entries)

-- what the extensions in memory say, as a slice of them
pub held_are : (inside header : HeaderRecord) (held items : List HeaderExtension) → inside ≡ header
    → inside.extensions ≡ map extension_of items → held ≡ items → map extension_of held ≡ header.extensions
held_are inside header held items same says is = grind (arith, nat_tests)

-- whether all names are this one, where it is one
abbrev pub all_are : Option (List ℕ) → List (List ℕ) → Bool
all_are None names = true
all_are (Some first) names = list_all (pointwise nat_eq first) names

-- the names of a list are those before a place, the one at it, and those after it
names_by-split : (name_in : Extension → Option (List ℕ)) (held : List HeaderExtension) (i : ℕ)
    (default : HeaderExtension) → i < length held
    → names_by name_in (map extension_of held)
    ≡ names_by name_in (map extension_of (take i held))
    ++ (option_to_list (name_in (extension_of (get_or held i default)))
    ++ names_by name_in (map extension_of (drop (suc i) held)))
names_by-split name_in [] i default below = absurd (omega arith)
names_by-split name_in (extension ∷ held) zero default below = refl
names_by-split name_in (extension ∷ held) (suc i) default below =
    grind (arith, nat_tests, names_by-split name_in held i default (omega arith))

-- one more extension puts what it says at the end of the names
names_by-more : (name_in : Extension → Option (List ℕ)) (held : List HeaderExtension) (i : ℕ)
    (default : HeaderExtension) → i < length held
    → names_by name_in (map extension_of (take (i + 1) held))
    ≡ names_by name_in (map extension_of (take i held))
    ++ option_to_list (name_in (extension_of (get_or held i default)))
names_by-more name_in [] i default below = absurd (omega arith)
names_by-more name_in (extension ∷ held) zero default below = append-nil _
names_by-more name_in (extension ∷ held) (suc i) default below =
    grind (arith, nat_tests, names_by-more name_in held i default (omega arith))

-- an extension that says no name leaves the names empty
pub no_name_more : (name_in : Extension → Option (List ℕ)) (held : List HeaderExtension) (i : ℕ)
    (extension : HeaderExtension) → i < length held → extension ≡ get_or held i extension
    → names_by name_in (map extension_of (take i held)) ≡ [] → name_in (extension_of extension) ≡ None
    → names_by name_in (map extension_of (take (i + 1) held)) ≡ []
no_name_more name_in held i extension below is none here = grind (arith, nat_tests, names_by-more)

-- a name after extensions that say none is the first
pub first_by_at : (name_in : Extension → Option (List ℕ)) (held : List HeaderExtension) (i : ℕ)
    (extension : HeaderExtension) (name : List ℕ) → i < length held → extension ≡ get_or held i extension
    → names_by name_in (map extension_of (take i held)) ≡ [] → name_in (extension_of extension) ≡ Some name
    → first_by name_in (map extension_of held) ≡ Some name
first_by_at name_in held i extension name below is none here =
    let split = names_by-split name_in held i extension below in
    let same : get_or held i extension ≡ extension = sym is in
    rw (split, none, same, here) refl

-- the name is the first one, where the test of the code says that it doesn't differ
pub is_first_name : (first : Option (Bor (String Global))) (name : Bor (String Global))
    → false ≡ not (option_eq (λ x y. bytes_eq (string_bytes x.now) (string_bytes y.now)) first (Some name))
    → option_map (λ found. string_bytes found.now) first ≡ Some (string_bytes name.now)
is_first_name None name test = cc
is_first_name (Some found) name test = grind (arith, nat_tests, bytes_eq-Decides, string_bytes)

-- and it isn't, where the test says that it does
pub is_other_name : (first : Option (Bor (String Global))) (name : Bor (String Global))
    → true ≡ not (option_eq (λ x y. bytes_eq (string_bytes x.now) (string_bytes y.now)) first (Some name))
    → option_map (λ found. string_bytes found.now) first ≢ Some (string_bytes name.now)
is_other_name None name test = λ is. cc
is_other_name (Some found) name test = grind (arith, nat_tests, string_bytes, bytes_eq-Decides)

-- an extension that says no name leaves all names the first one
pub same_with_no_name : (first : Option (List ℕ)) (name_in : Extension → Option (List ℕ))
    (held : List HeaderExtension) (i : ℕ) (extension : HeaderExtension) → i < length held
    → extension ≡ get_or held i extension
    → all_are first (names_by name_in (map extension_of (take i held))) ≡ true
    → name_in (extension_of extension) ≡ None
    → all_are first (names_by name_in (map extension_of (take (i + 1) held))) ≡ true
same_with_no_name first name_in held i extension below is same none =
    let more = names_by-more name_in held i extension below in
    let here : get_or held i extension ≡ extension = sym is in
    rw (more, here, none, append-nil) same

-- all names are the first one, with that name after them too
all_are_push : (first : List ℕ) (names : List (List ℕ)) → all_are (Some first) names ≡ true
    → all_are (Some first) (names ++ first ∷ []) ≡ true
all_are_push first names same = grind (arith, nat_tests, bytes_eq-Decides, list_all-append)

-- so does one that says that name
pub same_with_first : (first : Option (List ℕ)) (name_in : Extension → Option (List ℕ))
    (held : List HeaderExtension) (i : ℕ) (extension : HeaderExtension) → i < length held
    → extension ≡ get_or held i extension
    → all_are first (names_by name_in (map extension_of (take i held))) ≡ true
    → (name : List ℕ) → name_in (extension_of extension) ≡ Some name → first ≡ Some name
    → all_are first (names_by name_in (map extension_of (take (i + 1) held))) ≡ true
same_with_first first name_in held i extension below is same name extension_in_link first_is =
    let more = names_by-more name_in held i extension below in
    let here : get_or held i extension ≡ extension = sym is in
    rw (more, here, extension_in_link, first_is) (all_are_push name _ (rw first_is at same))

-- names with one that isn't the first aren't the same
differs_among : (names rest : List (List ℕ)) (name : List ℕ)
    → slice_get (names ++ (name ∷ rest)) 0 ≢ Some name → all_same (names ++ (name ∷ rest)) ≡ false
differs_among [] rest name differs = absurd (differs refl)
differs_among (first ∷ names) rest name differs =
    let apart : first ≢ name = λ is. differs (ap Some is) in
    let equal = (bytes_eq-Decides first name).0 in
    let fails : bytes_eq first name ≡ false = grind (arith, equal, apart) in
    list_all_at (bytes_eq first) (names ++ (name ∷ rest)) (length names) name
    (simp length-append (omega arith)) (rw get_or_at fails)

-- where an extension says another name than the first, the names aren't the same
pub differs_at : (name_in : Extension → Option (List ℕ)) (held : List HeaderExtension) (i : ℕ)
    (extension : HeaderExtension) (name : List ℕ) → i < length held → extension ≡ get_or held i extension
    → name_in (extension_of extension) ≡ Some name → first_by name_in (map extension_of held) ≢ Some name
    → all_same (names_by name_in (map extension_of held)) ≡ false
differs_at name_in held i extension name below is extension_in_link differs =
    let before = names_by name_in (map extension_of (take i held)) in
    let behind = names_by name_in (map extension_of (drop (suc i) held)) in
    let here : get_or held i extension ≡ extension = sym is in
    let split = rw (here, extension_in_link) at (names_by-split name_in held i extension below) in
    rw split (differs_among before behind name (rw split at differs))
