use Rattle.std.proofs.Common.{◌≡◌, ℕ, ◌+◌, ◌*◌, ◌^◌, ◌≤◌, Option, Some, None, IfSome, Result, Ok, Err, ap, subst, ◌∙◌, arith}
use Rattle.std.proofs.Math.Nat.{div-mul-le_self, mul-le-mul_right}
use Rattle.qcow2_base.specs.Format.{max_file_length}
use Rattle.qcow2_base.specs.Storage.{Image, OnlyReads, StorageState}
use Rattle.qcow2_base.specs.declared.fault.Fault.{Fault}
use Rattle.qcow2_base.specs.declared.fault.Fault.TheVariants.{Uncounted}
use Rattle.qcow2_base.specs.declared.fault.UncountedPart.{UncountedPart}
use Rattle.qcow2_summary.specs.ImageEnd.{most_clusters}
use Rattle.qcow2_check.specs.Uses.{ImageTables}
use Rattle.qcow2_layout.specs.Layout.{IsRun}
use Rattle.qcow2_layout.specs.Parts.{part_at, taken_end}
use Rattle.qcow2_layout.specs.declared.parts.Run.{Run}
use Rattle.qcow2_metadata.specs.Header.{HeaderRecord}
use Rattle.qcow2_layout.specs.Picture.{HasRun, shade_of, shades_of}

-- the run at a cluster of an image with these tables
abbrev pub IsRunOf : ImageTables → Image → ℕ → Run → Type 0
IsRunOf tables image = IsRun tables.header.v2.cluster_bits (part_at tables image) (taken_end tables image)

-- the run that a reader comes to is one of the image that was there before it read
pub run-known : (tables now : ImageTables) (image mid : Image) (at : ℕ) (run : Run) → now ≡ tables → mid ≡ image → IsRunOf now mid at run → IsRunOf tables image at run
run-known tables now image mid at run same bytes is =
    subst (λ (t : ImageTables). IsRunOf t image at run) same (subst (λ (b : Image). IsRunOf now b at run) bytes is)

-- and so is its end
pub end-known : (tables now : ImageTables) (image mid : Image) (at : ℕ) → now ≡ tables → mid ≡ image → taken_end now mid ≤ at → taken_end tables image ≤ at
end-known tables now image mid at same bytes is =
    subst (λ (t : ImageTables). taken_end t image ≤ at) same (subst (λ (b : Image). taken_end now b ≤ at) bytes is)

-- the clusters of a run have its colours
pub run-shades : (tables : ImageTables) (image : Image) (at : ℕ) (run : Run) → IsRunOf tables image at run
    → HasRun (shades_of tables image) tables.header.v2.size tables.header.v2.cluster_bits run
run-shades tables image at run is k below = ap (shade_of tables.header.v2.size) (ap (λ c. part_at tables image (c + k)) is.first ∙ is.one k below)

-- clusters up to the last that can be there end by the greatest end
pub ends-within : (header : HeaderRecord) (to : ℕ) → to ≤ most_clusters header → to * 2 ^ header.v2.cluster_bits ≤ max_file_length
ends-within header to within = omega (
  arith,
  mul-le-mul_right {m = to} {n = most_clusters header} (2 ^ header.v2.cluster_bits) within,
  div-mul-le_self max_file_length (2 ^ header.v2.cluster_bits),
)

-- reads that returned a value, and then one that failed
pub reads-fail : {A B C : Type 0} (value : A) (fault : Fault) (first second third : StorageState)
    → OnlyReads {T = A} (Ok value) first second → OnlyReads {T = B} (Err fault) second third → OnlyReads {T = C} (Err fault) first third
reads-fail value fault first second third one two = grind arith

-- what was opened has no part that isn't read, so a later fault can be any
pub opened-whole : {T U : Type 0} (opened : T) (answer : Result U Fault) (part : Option UncountedPart)
    → IfSome part (λ (it : UncountedPart). Ok opened ≡ Err (Uncounted it)) → IfSome part (λ (it : UncountedPart). answer ≡ Err (Uncounted it))
opened-whole opened answer None is = tt
opened-whole opened answer (Some it) is = absurd (grind (arith, is))

-- a fault of one call is that of the call around it
pub uncounted-too : (A B : Type 0) (fault : Fault) (part : Option UncountedPart) → IfSome part (λ p. ◌≡◌ {A = Result A Fault} (Err fault) (Err (Uncounted p)))
    → IfSome part (λ p. ◌≡◌ {A = Result B Fault} (Err fault) (Err (Uncounted p)))
uncounted-too A B fault None is = tt
uncounted-too A B fault (Some p) is = grind (arith, is)
