use Rattle.std.proofs.Common.{◌≡◌, ℕ, List, ◌++◌, append_assoc, codes}
use Rattle.std.specs.Fmt.{decimal}
use Rattle.qcow2_session.proofs.commands.check.lines.prepend_numbers.Goals as goal

eight : (a b c d e f g h line : List ℕ) → a ++ (b ++ (c ++ (d ++ (e ++ (f ++ (g ++ (h ++ line))))))) ≡ (a ++ b ++ c ++ d ++ e ++ f ++ g ++ h) ++ line
eight a b c d e f g h line = simp append_assoc

pub returns-clause-text : goal.returns-clause-text
returns-clause-text c =
    let run = c.args.run.now in
    rw (c.prepend_decimal-4.ensures.text, c.prepend-4.ensures, c.prepend_decimal-3.ensures.text, c.prepend-3.ensures, c.prepend_decimal-2.ensures.text, c.prepend-2.ensures, c.prepend_decimal.ensures.text, c.prepend.ensures)
    (eight (decimal run.first.cluster.0) (codes " ") (decimal run.count) (codes " ") (decimal run.first.counter) (codes " ") (decimal run.first.uses) (codes "\n") c.args.line.now)
