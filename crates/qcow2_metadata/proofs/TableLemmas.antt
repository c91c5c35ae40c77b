use Rattle.std.proofs.Common.{map-id, vec_len, ◌≡◌, ℕ, zero, suc, ◌+◌, ◌-◌, ◌*◌, ◌^◌, ◌<◌, ◌≤◌, lit≤, List, [], ◌∷◌, ◌++◌, map, length, get_or, replicate, set, take, Option, Some, None, IfSome, pow-add, refl, sym, ◌∙◌, ap, arith, Bor}
use Rattle.std.specs.Option.{option_or}
use Rattle.std.proofs.lemmas.List.{length-map, map-append, take_all}
use Rattle.std.specs.Slice.{IsGetResult}
use Rattle.qcow2_base.specs.Storage.{Image}
use Rattle.qcow2_base.specs.declared.fault.Fault.{Fault}
use Rattle.qcow2_metadata.proofs.PackingLemmas.{counters_at-length, counters_at-same}
use Rattle.qcow2_metadata.specs.Table.{first_fault, l2_entries, table_numbers}
use Rattle.qcow2_metadata.specs.Table.Growth.{grown_numbers}
use Rattle.std.proofs.lemmas.Bool.Decides.{nat_tests}

pub no_fault_at_all : (first rest : Option Fault) → option_or first rest ≡ None → (first ≡ None) × (rest ≡ None)
no_fault_at_all first rest h = grind arith

-- the first fault of one list and then another
or_either : (a b c : Option Fault) → option_or a (option_or b c) ≡ option_or (option_or a b) c
or_either a b c = grind arith

pub first_fault-join : (fault : ℕ → Option Fault) (xs ys : List ℕ) → first_fault fault (xs ++ ys) ≡ option_or (first_fault fault xs) (first_fault fault ys)
first_fault-join fault [] ys = refl
first_fault-join fault (x ∷ xs) ys = rw (first_fault-join fault xs ys) (or_either (fault x) (first_fault fault xs) (first_fault fault ys))

-- past numbers with no fault, the first fault is that of the others
pub first_fault-append : (fault : ℕ → Option Fault) (xs ys : List ℕ) → first_fault fault xs ≡ None → first_fault fault (xs ++ ys) ≡ first_fault fault ys
first_fault-append fault xs ys none = rw (first_fault-join fault xs ys, none) refl

pub length-table_numbers : (image : Image) (offset n : ℕ) → length (table_numbers image offset n) ≡ n
length-table_numbers image offset n = counters_at-length 6 image offset n

-- images that agree over a table's bytes have the same numbers there
pub table_numbers_same : (f g : Image) (o p n : ℕ) → ((k : ℕ) → k < 8 * n → f (o + k) ≡ g (p + k)) → table_numbers f o n ≡ table_numbers g p n
table_numbers_same f g o p n same = counters_at-same 6 n (8 * n) f g o p (lit≤ tt) (omega arith) same

-- a number more that is an entry
pub first_fault_more : (fault : ℕ → Option Fault) (xs : List ℕ) (v : ℕ) → first_fault fault xs ≡ None → fault v ≡ None → first_fault fault (xs ++ v ∷ []) ≡ None
first_fault_more fault xs v h none = first_fault-append fault xs (v ∷ []) h ∙ rw none refl

pub first_fault-set : (fault : ℕ → Option Fault) (xs : List ℕ) (i v : ℕ) → first_fault fault xs ≡ None → fault v ≡ None → first_fault fault (set xs i v) ≡ None
first_fault-set fault [] i v h lawful = h
first_fault-set fault (x ∷ xs) zero v h lawful =
    rw lawful (no_fault_at_all (fault x) (first_fault fault xs) h).1
first_fault-set fault (x ∷ xs) (suc i) v h lawful =
    let parts = no_fault_at_all (fault x) (first_fault fault xs) h in
    rw parts.0 (first_fault-set fault xs i v parts.1 lawful)

pub no_fault_in_copies : {X : Type 0} (number : X → ℕ) (fault : ℕ → Option Fault) (n : ℕ) (x : X) → fault (number x) ≡ None → first_fault fault (map number (replicate n x)) ≡ None
no_fault_in_copies number fault zero x lawful = refl
no_fault_in_copies number fault (suc n) x lawful = rw lawful (no_fault_in_copies number fault n x lawful)

-- an entry that is found is valid
pub no_fault_item : {X : Type 0} (number : X → ℕ) (fault : ℕ → Option Fault) (xs : List X) (i : ℕ) (d : X) → first_fault fault (map number xs) ≡ None → i < length xs → fault (number (get_or xs i d)) ≡ None
no_fault_item number fault [] i d h below = absurd (omega arith)
no_fault_item number fault (x ∷ xs) zero d h below = (no_fault_at_all (fault (number x)) (first_fault fault (map number xs)) h).0
no_fault_item number fault (x ∷ xs) (suc i) d h below =
    no_fault_item number fault xs i d (no_fault_at_all (fault (number x)) (first_fault fault (map number xs)) h).1 (omega arith)

pub lawful_if_found : {X : Type 0} (number : X → ℕ) (fault : ℕ → Option Fault) (xs : List X) (i : ℕ) (found : Option (Bor X)) → first_fault fault (map number xs) ≡ None → IsGetResult xs i i found → IfSome found (λ entry. fault (number entry.now) ≡ None)
lawful_if_found number fault xs i None h is = tt
lawful_if_found number fault xs i (Some entry) h is = grind (arith, nat_tests, no_fault_item)

map-replicate-zero : {X : Type 0} (number : X → ℕ) (n : ℕ) (x : X) → number x ≡ 0 → map number (replicate n x) ≡ replicate n 0
map-replicate-zero number zero x is = refl
map-replicate-zero number (suc n) x is = rw is (ap (λ (xs : List ℕ). 0 ∷ xs) (map-replicate-zero number n x is))

-- entries, and then entries 0, have the numbers of a grown table
pub grown_items : {X : Type 0} (number : X → ℕ) (xs : List X) (n : ℕ) (x : X) → length xs ≤ n → number x ≡ 0 → map number (take n xs ++ replicate (n - length xs) x) ≡ grown_numbers (map number xs) n
grown_items number xs n x short is = grind (arith, nat_tests, take_all, map-append, map-replicate-zero, length-map)

-- a table stays one with zeros at its end
pub first_fault-grown : (fault : ℕ → Option Fault) (numbers : List ℕ) (n : ℕ) → first_fault fault numbers ≡ None → fault 0 ≡ None → first_fault fault (grown_numbers numbers n) ≡ None
first_fault-grown fault numbers n h lawful =
    first_fault-append fault numbers (replicate (n - length numbers) 0) h ∙ rw map-id at (no_fault_in_copies (λ (v : ℕ). v) fault (n - length numbers) 0 lawful)

-- what an item of a table is, and what a table is with zeros at its end
pub ruleset items = (no_fault_item, length-map)

pub ruleset paddings = (vec_len, grown_items, first_fault-grown)

-- that many entries are the bytes of a cluster
pub full_cluster : (cb : ℕ) → 9 ≤ cb → 8 * l2_entries cb ≡ 2 ^ cb
full_cluster cb least =
    let three : 3 + (cb - 3) ≡ cb = omega (arith, least) in
    sym (pow-add 2 3 (cb - 3)) ∙ ap (λ k. 2 ^ k) three
