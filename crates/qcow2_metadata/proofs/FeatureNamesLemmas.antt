use Rattle.std.proofs.Common.{◌≡◌, ◌≢◌, ℕ, zero, suc, add-one, zero-add, ◌+◌, ◌*◌, ◌<◌, ◌≤◌, List, [], ◌∷◌, length, slice_index, take, drop, map, refl, ap, arith, true, if◌then◌else◌, Option, None, Some, unwrap_or, ◌-◌, ◌++◌, replicate, sym, ◌∙◌, subst, inl, inr, ◌==◌, false}
use Rattle.std.specs.Prelude.{Ok, Err, All}
use Rattle.std.specs.BTreeMap.{insert_entry}
use Rattle.std.specs.Map.{lookup, keys_of}
use Rattle.std.specs.Ordering.{is_eq, ordering_reverse}
use Rattle.std.specs.Str.Lossy.{utf8_lossy, replacement_bytes}
use Rattle.std.specs.declared.cmp.Ordering.{Ordering}
use Rattle.bstr.proofs.lemmas.LossyLemmas.{lossy_chars-utf8_lossy}
use Rattle.memchr.specs.Find.{IsFirstByte, is_byte}
use Rattle.qcow2_base.specs.declared.fault.Fault.{Fault}
use Rattle.std.proofs.lemmas.Bool.Decides.{nat_tests}
use Rattle.qcow2_metadata.specs.Header.Extensions.{FeatureKey, FeatureNameTable, FeatureNames, feature_name_in, key_cmp, names_of_chunks, until_zero, with_feature_name, Extension, IsStorable, TextOf, Unknown, feature_names, name_chunk, normal_extension, normal_name}
use Rattle.qcow2_metadata.specs.Results.{result_map}
use Rattle.qcow2_metadata.specs.Header.Features.{feature_type_number, feature_type_of}
use Rattle.qcow2_metadata.specs.declared.header.features.FeatureType.{FeatureType}
use Rattle.qcow2_metadata.specs.declared.header.features.FeatureType.TheVariants.{Autoclear, Compatible, Incompatible}
use Rattle.std.specs.Int.{div_ceil}
use Rattle.std.specs.List.{AllByRecursion, flat_map}
use Rattle.std.specs.List.Sorted.{IsStrictlySortedBy}
use Rattle.std.specs.Str.{IsUtf8}
use Rattle.std.specs.declared.cmp.Ordering.TheVariants.{Less, Greater}
use Rattle.std.proofs.lemmas.Cmp.{nat_cmp_total}
use Rattle.std.proofs.lemmas.List.{append_assoc, drop_at, drop-drop, length-append, length-replicate, length-take, length_push, append-nil, take-take, take-append-drop, take_all, take_at}
use Rattle.std.proofs.lemmas.List.Elements.{All-head, All-tail}
use Rattle.std.proofs.lemmas.Str.{utf8_lossy-IsUtf8}
use Rattle.std.proofs.Math.Seq.{take-append-add}
use Rattle.qcow2_metadata.proofs.FeatureNamesCutLemmas.{IsCutText, IsCutText-take, utf8_lossy-cut, utf8_lossy-replaced}
use Rattle.qcow2_metadata.proofs.ExtensionsLemmas.{ReadsBack, parsed-unknown, text-reads_back}
use Rattle.qcow2_metadata.specs.declared.header.extensions.HeaderExtensionType.TheVariants as kind

-- a list up to the first zero byte
until_zero-take : (bytes : List ℕ) (n : ℕ) → n ≤ length bytes → ((k : ℕ) → k < n → slice_index bytes k ≢ 0)
    → (n < length bytes → slice_index bytes n ≡ 0) → until_zero bytes ≡ take n bytes
until_zero-take [] zero few before at = refl
until_zero-take [] (suc n) few before at = refl
until_zero-take (byte ∷ bytes) zero few before at = grind (arith, at (omega arith))
until_zero-take (byte ∷ bytes) (suc n) few before at =
    let rest = until_zero-take bytes n (omega arith) (λ k below. before (suc k) (omega arith)) (λ below. at (omega arith)) in
    grind (arith, rest, before 0 (omega arith))

-- the first zero byte, or else the end, is where a search for it finds it
pub until_zero-found : (bytes : List ℕ) (found : Option ℕ) → IsFirstByte (is_byte 0) bytes found
    → until_zero bytes ≡ take (unwrap_or found (length bytes)) bytes
until_zero-found bytes None nowhere =
    until_zero-take bytes (length bytes) (omega arith) (λ k below zero. nowhere k (omega arith) below (grind (arith, zero))) (λ below. absurd (omega arith))
until_zero-found bytes (Some n) found =
    until_zero-take bytes n (omega (arith, found.0.high)) (λ k below zero. found.0.before k (omega arith) below (grind (arith, zero))) (λ below. grind (arith, found.1))

-- what a name is read as
pub ruleset names_read = (until_zero-found, lossy_chars-utf8_lossy)

feature_type_of-unknown : (number : ℕ) → ((kind : FeatureType) → feature_type_number kind ≢ number) → feature_type_of number ≡ None
feature_type_of-unknown number unknown = grind (arith, unknown Incompatible, unknown Compatible, unknown Autoclear)

-- what a chunk does that is of a type that isn't known, or of two bytes and more
pub with_feature_name-unknown : (names : FeatureNames) (chunk : List ℕ)
    → ((kind : FeatureType) → feature_type_number kind ≢ slice_index chunk 0) → with_feature_name names chunk ≡ Ok names
with_feature_name-unknown names chunk unknown = grind (arith, nat_tests, feature_type_of-unknown)

pub with_feature_name-named : (names : FeatureNames) (kind : FeatureType) (chunk : List ℕ) → 2 ≤ length chunk
    → feature_type_number kind ≡ slice_index chunk 0 → with_feature_name names chunk
    ≡ Ok (insert_entry key_cmp names (kind, slice_index chunk 1) (utf8_lossy (until_zero (drop 2 chunk))))
with_feature_name-named names kind chunk two known = grind (arith, nat_tests)

-- to set a value and then map all values is to map them and then set the value's image
pub insert_entry-map : {K X Y : Type 0} (f : X → Y) (cmp : K → K → Ordering) (entries : List (K × X))
    (key : K) (value : X) → map (λ other. (other.0, f other.1)) (insert_entry cmp entries key value)
    ≡ insert_entry cmp (map (λ other. (other.0, f other.1)) entries) key (f value)
insert_entry-map f cmp [] key value = refl
insert_entry-map f cmp (entry ∷ entries) key value = grind (arith, nat_tests, insert_entry-map f cmp entries key value)

-- a fault of the first chunks is the fault of more
pub names_of_chunks-fault : (bytes : List ℕ) (fault : Fault) (few more : ℕ) → names_of_chunks bytes few ≡ Err fault
    → names_of_chunks bytes (more + few) ≡ Err fault
names_of_chunks-fault bytes fault few zero bad = simp zero-add bad
names_of_chunks-fault bytes fault few (suc more) bad =
    let before = names_of_chunks-fault bytes fault few more bad in
    let count : suc more + few ≡ suc (more + few) = omega arith in
    rw (count, before) refl

-- one chunk more, after chunks that are valid
pub names_of_chunks-more : (bytes : List ℕ) (chunks : ℕ) (names : FeatureNames) → names_of_chunks bytes chunks ≡ Ok names
    → names_of_chunks bytes (chunks + 1) ≡ with_feature_name names (take 48 (drop (48 * chunks) bytes))
names_of_chunks-more bytes chunks names before = rw (add-one chunks, before) refl

-- keys that compare as equal are one
key_cmp-same : (a b : FeatureKey) → is_eq (key_cmp a b) ≡ true → a ≡ b
key_cmp-same (kind, m) (other, n) is = grind (arith, nat_tests)

-- the value of a key after one is set
lookup-set : {K X : Type 0} (cmp : K → K → Ordering) → ((a b : K) → is_eq (cmp a b) ≡ true → a ≡ b)
    → (entries : List (K × X)) (key other : K) (value : X)
    → lookup (λ k. is_eq (cmp other k)) (insert_entry cmp entries key value)
    ≡ (if is_eq (cmp other key) then Some value else lookup (λ k. is_eq (cmp other k)) entries)
lookup-set cmp same [] key other value = refl
lookup-set cmp same (entry ∷ entries) key other value =
    grind (arith, nat_tests, same, lookup-set cmp same entries key other value)

-- the names that features have after a chunk of two bytes and more
pub named-after_chunk : (names : FeatureNames) (kind : FeatureType) (bit : ℕ) (name : List ℕ) (other : FeatureKey)
    → result_map (λ after. feature_name_in other (FeatureNameTable after))
    (with_feature_name names (feature_type_number kind ∷ bit ∷ name))
    ≡ Ok (if is_eq (key_cmp other (kind, bit)) then Some (utf8_lossy (until_zero name))
    else feature_name_in other (FeatureNameTable names))
named-after_chunk names kind bit name other =
    rw (with_feature_name-named names kind (feature_type_number kind ∷ bit ∷ name) (omega arith) refl)
    (ap Ok (lookup-set key_cmp key_cmp-same names (kind, bit) other (utf8_lossy (until_zero name))))

-- a name and what it reads back as, by their key
abbrev pub normal_named : FeatureKey × List ℕ → FeatureKey × List ℕ
normal_named named = (named.0, normal_name named.1)

-- zeros after a name are no part of it
until_zero-zeros : (name : List ℕ) (n : ℕ) → until_zero (name ++ replicate n 0) ≡ until_zero name
until_zero-zeros [] zero = refl
until_zero-zeros [] (suc n) = refl
until_zero-zeros (byte ∷ name) n = grind (arith, nat_tests, until_zero-zeros name n)

-- a name's chunk has 48 bytes
length-name_chunk : (named : FeatureKey × List ℕ) → length (name_chunk named) ≡ 48
length-name_chunk named =
    let zeros : List ℕ = replicate (46 - length named.1) 0 in
    omega (
      arith,
      length-append (take 46 named.1) zeros,
      length-take 46 named.1,
      length-replicate {A = ℕ} (46 - length named.1) 0,
    )

-- that many names have chunks of 48 bytes each
pub name_chunks_len : (names : FeatureNames) → length (flat_map name_chunk names) ≡ 48 * length names
name_chunks_len [] = refl
name_chunks_len (named ∷ names) = grind (arith, nat_tests, length-append, length-name_chunk, name_chunks_len names)

-- a name's chunk sets what it reads back as
with_feature_name-chunk : (names : FeatureNames) (named : FeatureKey × List ℕ)
    → with_feature_name names (name_chunk named)
    ≡ Ok (insert_entry key_cmp names named.0 (normal_name named.1))
with_feature_name-chunk names named = grind (arith, nat_tests, with_feature_name-named, length-name_chunk, until_zero-zeros)

-- a key above another one
key_cmp-above : (a b : FeatureKey) → key_cmp a b ≡ Less → key_cmp b a ≡ Greater
key_cmp-above (Incompatible, m) (Incompatible, n) is = nat_cmp_total.antisymm n m ∙ ap ordering_reverse is
key_cmp-above (Compatible, m) (Compatible, n) is = nat_cmp_total.antisymm n m ∙ ap ordering_reverse is
key_cmp-above (Autoclear, m) (Autoclear, n) is = nat_cmp_total.antisymm n m ∙ ap ordering_reverse is
key_cmp-above (Incompatible, m) (_, n) is = refl
key_cmp-above (Compatible, m) (Autoclear, n) is = refl
key_cmp-above _ _ is = cc

-- a key among those that are all above another one
above_middle : (key : FeatureKey) (done more : FeatureNames) (named : FeatureKey × List ℕ)
    → AllByRecursion (λ other. key_cmp key other ≡ Less) (keys_of (done ++ named ∷ more))
    → key_cmp key named.0 ≡ Less
above_middle key [] more named above = above.0
above_middle key (first ∷ done) more named above = above_middle key done more named above.1

-- a key that is above those before it goes last
insert_entry-last : (done more : FeatureNames) (named : FeatureKey × List ℕ)
    → IsStrictlySortedBy key_cmp (keys_of (done ++ named ∷ more))
    → insert_entry key_cmp (map normal_named done) named.0 (normal_name named.1)
    ≡ map normal_named (done ++ named ∷ [])
unfolding IsStrictlySortedBy
insert_entry-last [] more named sorted = refl
insert_entry-last (first ∷ done) more named sorted =
    grind (arith, nat_tests, key_cmp-above, above_middle, insert_entry-last done more named sorted.1)

-- the chunk after those of other names
chunk_at-name : (done more : FeatureNames) (named : FeatureKey × List ℕ)
    → take 48 (drop (48 * length done) (flat_map name_chunk (done ++ named ∷ more))) ≡ name_chunk named
chunk_at-name [] more named =
    take_at (name_chunk named) (flat_map name_chunk more) 48 (length-name_chunk named)
chunk_at-name (first ∷ done) more named =
    let rest = flat_map name_chunk (done ++ named ∷ more) in
    let count : 48 * suc (length done) ≡ 48 + 48 * length done = omega arith in
    let moved : drop (48 + 48 * length done) (name_chunk first ++ rest) ≡ drop (48 * length done) rest =
    sym (drop-drop (48 * length done) 48 (name_chunk first ++ rest))
    ∙ ap (drop (48 * length done)) (drop_at (name_chunk first) rest 48 (length-name_chunk first)) in
    rw count (ap (take 48) moved ∙ chunk_at-name done more named)

-- the chunks of the first of all names are read as these
abbrev AreRead : FeatureNames → FeatureNames → Type 0
AreRead all first = names_of_chunks (flat_map name_chunk all) (length first) ≡ Ok (map normal_named first)

-- one chunk more is one name more
AreRead-more : (done more : FeatureNames) (named : FeatureKey × List ℕ)
    → IsStrictlySortedBy key_cmp (keys_of (done ++ named ∷ more)) → AreRead (done ++ named ∷ more) done
    → AreRead (done ++ named ∷ more) (done ++ named ∷ [])
AreRead-more done more named sorted before =
    let count : length (done ++ named ∷ []) ≡ suc (length done) = omega (arith, length_push done named) in
    rw (count, before, chunk_at-name done more named) (with_feature_name-chunk (map normal_named done) named
    ∙ ap Ok (insert_entry-last done more named sorted))

-- all names are read, once the first ones are
AreRead-all : (all done more : FeatureNames) → done ++ more ≡ all → IsStrictlySortedBy key_cmp (keys_of all)
    → AreRead all done → AreRead all all
AreRead-all all done [] split sorted before = subst (AreRead all) (sym (append-nil done) ∙ split) before
AreRead-all all done (named ∷ more) split sorted before =
    let P = λ (names : FeatureNames).
    IsStrictlySortedBy key_cmp (keys_of names) → AreRead names done → AreRead names (done ++ named ∷ []) in
    let next = subst P split (AreRead-more done more named) sorted before in
    AreRead-all all (done ++ named ∷ []) more (append_assoc done (named ∷ []) more ∙ split) sorted next

-- the chunks of names in the order of their keys are read as these names, each as it reads back
pub feature_names-chunks : (names : FeatureNames) → IsStrictlySortedBy key_cmp (keys_of names)
    → feature_names (flat_map name_chunk names) ≡ Ok (map (λ named. (named.0, normal_name named.1)) names)
feature_names-chunks names sorted =
    let count : div_ceil (length (flat_map name_chunk names)) 48 ≡ length names =
    omega (arith, name_chunks_len names) in
    rw count (AreRead-all names [] names refl sorted refl)

-- an extension that can be stored reads back
pub storable-reads_back : (extension : Extension) → IsStorable extension → ReadsBack extension
storable-reads_back (TextOf type name) storable = text-reads_back type name storable.0 storable.1
storable-reads_back (FeatureNameTable names) storable =
    (omega arith, omega arith, ap (result_map FeatureNameTable) (feature_names-chunks names storable.0))
storable-reads_back (Unknown number content) storable =
    (storable.0, λ zero. storable.1 kind.End (sym zero), parsed-unknown number content storable.1)

-- what comes before the first zero byte is the list's front
until_zero-front_of : (bytes : List ℕ) → until_zero bytes ≡ take (length (until_zero bytes)) bytes
until_zero-front_of [] = refl
until_zero-front_of (byte ∷ bytes) = grind (arith, nat_tests, until_zero-front_of bytes)

-- it has no zero byte
until_zero-once : (bytes : List ℕ) → until_zero (until_zero bytes) ≡ until_zero bytes
until_zero-once [] = refl
until_zero-once (byte ∷ bytes) = grind (arith, nat_tests, until_zero-once bytes)

-- bytes without a zero byte begin with none, and the others have none
until_zero-cons : (byte : ℕ) (bytes : List ℕ) → until_zero (byte ∷ bytes) ≡ byte ∷ bytes
    → (byte == 0 ≡ false) × (until_zero bytes ≡ bytes)
until_zero-cons byte bytes none = (grind arith, grind arith)

-- the front of bytes without a zero byte has none
until_zero-front : (front last : List ℕ) → until_zero (front ++ last) ≡ front ++ last
    → until_zero front ≡ front
until_zero-front [] last none = refl
until_zero-front (byte ∷ front) last none =
    let more = until_zero-cons byte (front ++ last) none in
    rw more.0 (ap (λ (text : List ℕ). byte ∷ text) (until_zero-front front last more.1))

-- after bytes without a zero byte the next ones count
until_zero-behind : (front last : List ℕ) → until_zero front ≡ front
    → until_zero (front ++ last) ≡ front ++ until_zero last
until_zero-behind [] last none = refl
until_zero-behind (byte ∷ front) last none =
    let more = until_zero-cons byte front none in
    rw more.0 (ap (λ (text : List ℕ). byte ∷ text) (until_zero-behind front last more.1))

-- the first bytes of U+FFFD have no zero byte
until_zero-replacement : (n : ℕ) → until_zero (take n replacement_bytes) ≡ take n replacement_bytes
until_zero-replacement n =
    until_zero-front (take n replacement_bytes) (drop n replacement_bytes) (rw take-append-drop refl)

-- of at most 46 bytes without a zero byte, text that is cut reads back as what it was read as
normal_name-lossy : (bytes : List ℕ) → length bytes ≤ 46 → until_zero bytes ≡ bytes → IsCutText bytes
    → normal_name (utf8_lossy bytes) ≡ utf8_lossy bytes
normal_name-lossy bytes short none (inl text) =
    let kept = utf8_lossy-IsUtf8 bytes text in
    rw (kept, take_all 46 bytes short, none) kept
normal_name-lossy bytes short none (inr (front, last, is, text, cut)) =
    let n : ℕ = 46 - length front in
    let some : 0 < n = omega (arith, ap length is, length-append front last, cut.some) in
    let count : 46 ≡ length front + n = omega arith in
    let lossy : utf8_lossy bytes ≡ front ++ replacement_bytes =
    ap utf8_lossy is ∙ utf8_lossy-cut front last text cut in
    let clean = until_zero-front front last (subst (λ (all : List ℕ). until_zero all ≡ all) is none) in
    let first : take 46 (front ++ replacement_bytes) ≡ front ++ take n replacement_bytes =
    ap (λ (i : ℕ). take i (front ++ replacement_bytes)) count ∙ take-append-add front replacement_bytes n in
    let whole : until_zero (front ++ take n replacement_bytes) ≡ front ++ take n replacement_bytes =
    until_zero-behind front _ clean ∙ ap (λ (tail : List ℕ). front ++ tail) (until_zero-replacement n) in
    rw (lossy, first, whole) (utf8_lossy-replaced front n text some)

-- what a name reads back as reads back as itself
pub normal_name-once : (name : List ℕ) → IsUtf8 name → normal_name (normal_name name) ≡ normal_name name
normal_name-once name text =
    let held = take 46 name in
    let bytes = until_zero held in
    let front = until_zero-front_of held in
    let short : length bytes ≤ 46 =
    omega (arith, ap length front, length-take (length bytes) held, length-take 46 name) in
    let cut : bytes ≡ take (length bytes) name = front ∙ take-take (length bytes) 46 name short in
    normal_name-lossy bytes short (until_zero-once held)
    (subst IsCutText (sym cut) (IsCutText-take name (length bytes) text))

-- to change each element twice is to do so once, where that holds of each
map-once : {X : Type 0} (change : X → X) (P : X → Type 0)
    → ((x : X) → P x → change (change x) ≡ change x) → (xs : List X) → All P xs
    → map change (map change xs) ≡ map change xs
map-once change P once [] all = refl
map-once change P once (x ∷ xs) all =
    grind (arith, nat_tests, All-head, All-tail, map-once change P once xs (All-tail P x xs all))

-- what an extension reads back as reads back as itself
pub normal_extension-once : (extension : Extension) → IsStorable extension
    → normal_extension (normal_extension extension) ≡ normal_extension extension
normal_extension-once (TextOf type name) storable = refl
normal_extension-once (FeatureNameTable names) storable =
    let once = λ (named : FeatureKey × List ℕ) (text : IsUtf8 named.1).
    ap (λ (name : List ℕ). (named.0, name)) (normal_name-once named.1 text) in
    ap FeatureNameTable (map-once normal_named (λ named. IsUtf8 named.1) once names storable.1)
normal_extension-once (Unknown number content) storable = refl

-- and so do all of them
pub normal_extensions-once : (extensions : List Extension) → All IsStorable extensions
    → map normal_extension (map normal_extension extensions) ≡ map normal_extension extensions
normal_extensions-once extensions all =
    map-once normal_extension IsStorable normal_extension-once extensions all
