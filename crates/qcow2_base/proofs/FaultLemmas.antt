use Rattle.std.proofs.Common.{◌≡◌, ◌+◌, ◌-◌, ◌==◌, ◌∙◌, ℕ, if◌then◌else◌, List, Option, Some, None, Bor, arith, map, refl, slice_get, subst, sym, IfSome, IsSome}
use Rattle.std.proofs.lemmas.Bool.Decides.{nat_tests}
use Rattle.std.proofs.lemmas.List.FromFn.{get_or-range_with_len, length-range_with_len}
use Rattle.std.proofs.lemmas.Option.{get_or_from_slice_get, slice_get-map, slice_get_past, slice_get_read, slice_get_within}
use Rattle.std.specs.List.{range_with_len}
use Rattle.std.specs.Option.{option_copied}
use Rattle.std.specs.Slice.{IsItemAt}
use Rattle.qcow2_base.specs.Fault.{fault_number, fault_of}
use Rattle.qcow2_base.specs.declared.fault.Fault.{Fault}
use Rattle.qcow2_base.specs.declared.fault.TheConstants.Fault.{ALL}

-- what is read at a place of a list, counted from 1
pub counted_from_one : (faults : List Fault) (number : ℕ) (item : Option (Bor Fault)) (found : Option Fault) →
    (number ≡ 0 → ⊥) → IsItemAt faults (number - 1) item → found ≡ option_copied item →
    found ≡ (if number == 0 then None else slice_get faults (number - 1))
counted_from_one faults number item found some is copied =
    grind (arith, nat_tests, slice_get_past, slice_get_read, some, is, copied)

-- the faults at the places of a list have the numbers in turn, counted from 1
in_turn : (faults : List Fault) (count number : ℕ) (fault : Fault) → map fault_number faults ≡ range_with_len 1 count →
    (if number == 0 then None else slice_get faults (number - 1)) ≡ Some fault → fault_number fault ≡ number
in_turn faults count number fault turn is = grind (arith, nat_tests, is, turned (number - 1))
  where
    turned : (place : ℕ) → slice_get faults place ≡ Some fault → fault_number fault ≡ 1 + place
    turned place found =
        let mapped : slice_get (range_with_len 1 count) place ≡ Some (fault_number fault) =
        subst (λ numbers. slice_get numbers place ≡ Some (fault_number fault)) turn
        (rw (slice_get-map fault_number faults place, found) refl) in
        sym (get_or_from_slice_get _ place (fault_number fault) 0 mapped)
        ∙ get_or-range_with_len 1 count place 0 (omega (arith, slice_get_within _ place _ mapped, length-range_with_len 1 count))

-- a fault that a number names has it
pub has_number : (number : ℕ) (found : Option Fault) → found ≡ fault_of number → IfSome found (λ fault. fault_number fault ≡ number)
has_number number None named = tt
has_number number (Some fault) named = in_turn ALL 42 number fault refl (sym named)

named_by_number : (fault : Fault) → IsSome (fault_of (fault_number fault))
named_by_number fault = grind arith

-- a number that a fault has names one
pub is_named : (number : ℕ) (found : Option Fault) → found ≡ fault_of number →
    (fault : Fault) → fault_number fault ≡ number → IsSome found
is_named number found named fault has = rw (named, ← has) (named_by_number fault)
