use Rattle.std.proofs.Common.{◌≡◌, ℕ, ◌+◌, ◌*◌, ◌/◌, ◌^◌, ◌<◌, ◌≤◌, max, min, arith}
use Rattle.std.specs.Int.{div_ceil}
use Rattle.std.proofs.Math.Nat.{div-mul-le_self, le-div_iff_mul-le}
use Rattle.qcow2_layout.specs.Layout.{moved_part}
use Rattle.qcow2_layout.specs.declared.parts.Part.{Part}
use Rattle.qcow2_layout.specs.declared.parts.Part.TheVariants.{Compressed, Data, EncryptionHeader, Free, Header, L1Table, L2Table, Leaked, RefcountBlock, RefcountTable}
use Rattle.qcow2_layout.specs.Picture.{shade_of}

-- a quotient grows with its dividend
pub div-grows : (a b d : ℕ) → 0 < d → a ≤ b → a / d ≤ b / d
div-grows a b d some less = (le-div_iff_mul-le {k = d} {x = a / d} {y = b} some).1 (omega (arith, div-mul-le_self a d, less))

min-grows : (a b : ℕ) → a ≤ b → min 7 a ≤ min 7 b
min-grows a b less = omega (arith, less)

-- further on in a run the colour never falls
pub shade-grows : (size : ℕ) (part : Part) (a b : ℕ) → a ≤ b → shade_of size (moved_part a part) ≤ shade_of size (moved_part b part)
shade-grows size (Data offset) a b less =
    let eighth = max 1 (div_ceil size 8) in
    let quotients = div-grows (offset.0 + a) (offset.0 + b) eighth (omega arith) (omega (arith, less)) in
    omega (arith, min-grows ((offset.0 + a) / eighth) ((offset.0 + b) / eighth) quotients)
shade-grows size Free a b less = omega arith
shade-grows size Compressed a b less = omega arith
shade-grows size Header a b less = omega arith
shade-grows size L1Table a b less = omega arith
shade-grows size L2Table a b less = omega arith
shade-grows size RefcountTable a b less = omega arith
shade-grows size EncryptionHeader a b less = omega arith
shade-grows size RefcountBlock a b less = omega arith
shade-grows size Leaked a b less = omega arith

-- an offset that no u64 holds is in the last eighth of any disk
pub far-eighth : (offset size : ℕ) → 2 ^ 64 ≤ offset → size < 2 ^ 64 → 7 ≡ min 7 (offset / max 1 (div_ceil size 8))
far-eighth offset size far fits =
    let eighth = max 1 (div_ceil size 8) in
    let short : 7 * eighth ≤ offset = omega (arith, far, fits) in
    let last = (le-div_iff_mul-le {k = eighth} {x = 7} {y = offset} (omega arith)).1 short in
    omega (arith, last)
