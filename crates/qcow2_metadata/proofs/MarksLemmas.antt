use Rattle.std.proofs.Common.{◌≡◌, ℕ, ◌*◌, ◌/◌, ◌%◌, arith}
use Rattle.std.proofs.lemmas.Bool.Decides.{nat_tests}
use Rattle.qcow2_metadata.specs.Header.{HeaderRecord, geometry_of}
use Rattle.qcow2_metadata.specs.Header.Marks.{without_marks}

-- the meaning of an image's entries doesn't depend on its marks
pub unmarked-geometry : (header : HeaderRecord) → geometry_of (without_marks header) ≡ geometry_of header
unmarked-geometry header =
    let bit : header.base.incompatible_features / 4 * 4 / 4 % 2 ≡ header.base.incompatible_features / 4 % 2 = omega arith in
    grind (arith, nat_tests, bit)
