use Rattle.std.proofs.Common.{◌≡◌, ◌≢◌, ℕ, ◌==◌, if◌then◌else◌, ◌++◌, List, [], append_assoc, arith, codes}
use Rattle.std.proofs.lemmas.Bool.Decides.{nat_tests}
use Rattle.std.specs.Fmt.{decimal}
use Rattle.qcow2_session.specs.Commands.Map.{json_content}
use Rattle.qcow2_session.proofs.commands.map.prepend_row.Goals as goal

five_before : (a b c d e line : List ℕ) → a ++ (b ++ (c ++ (d ++ (e ++ line)))) ≡ ((((a ++ b) ++ c) ++ d) ++ e) ++ line
five_before a b c d e line = simp append_assoc

-- what stands before an extent that isn't the first one, and nothing before the first
between : (start : ℕ) (comma object line : List ℕ) → start ≢ 0 → comma ++ (object ++ line) ≡ ((if start == 0 then [] else comma) ++ object) ++ line
between start comma object line later = grind (arith, nat_tests, append_assoc)

none_before : (start : ℕ) (comma object line : List ℕ) → start ≡ 0 → object ++ line ≡ ((if start == 0 then [] else comma) ++ object) ++ line
none_before start comma object line first = grind (arith, nat_tests)

pub returns-then-extent-ne0 : goal.returns-then-extent-ne0
returns-then-extent-ne0 c =
    let extent = c.args.extent.now in
    rw (
      c.prepend-then-extent-ne0.ensures,
      c.prepend-2.ensures,
      c.prepend_decimal-2.ensures.text,
      c.prepend.ensures,
      c.prepend_decimal.ensures.text,
      c.prepend_json_content.ensures.text,
      five_before (codes "{ \"start\": ") (decimal extent.start.0) (codes ", \"length\": ") (decimal extent.length) (json_content extent.content) c.args.line.now,
    )
    (between extent.start.0 (codes ",\n") _ c.args.line.now (grind (arith, nat_tests)))

pub returns-else-extent-ne0 : goal.returns-else-extent-ne0
returns-else-extent-ne0 c =
    let extent = c.args.extent.now in
    rw (
      c.prepend-2.ensures,
      c.prepend_decimal-2.ensures.text,
      c.prepend.ensures,
      c.prepend_decimal.ensures.text,
      c.prepend_json_content.ensures.text,
      five_before (codes "{ \"start\": ") (decimal extent.start.0) (codes ", \"length\": ") (decimal extent.length) (json_content extent.content) c.args.line.now,
    )
    (none_before extent.start.0 (codes ",\n") _ c.args.line.now (grind (arith, nat_tests)))
