use Rattle.std.proofs.Common.{◌≤◌, ℕ, ◌+◌, ◌-◌, List, length, take, drop, Option, arith}
use Rattle.std.proofs.KnownBytes.{Appends-trans}
use Rattle.std.proofs.Math.Seq.{take-add}
use Rattle.std.proofs.lemmas.List.{take-take}
use Rattle.std.specs.Io.KnownBytes.{Appends}

-- a beginning of some bytes was written, and then the next ones of them
pub appends_more : (old between new : Option (List ℕ)) (bytes : List ℕ) (written count : ℕ)
    → count ≤ length bytes - written
    → Appends old between (take written bytes)
    → Appends between new (take count (take (length bytes - written) (drop written bytes)))
    → Appends old new (take (written + count) bytes)
appends_more old between new bytes written count fits first next =
    grind (arith, take-take, take-add, Appends-trans)
