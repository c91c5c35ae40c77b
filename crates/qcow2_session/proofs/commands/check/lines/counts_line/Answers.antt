use Rattle.std.proofs.Common.{◌≡◌, ℕ, List, ◌++◌, append_assoc, codes}
use Rattle.std.specs.Fmt.{decimal}
use Rattle.qcow2_session.specs.Commands.Check.Lines.{past_count}
use Rattle.qcow2_session.proofs.commands.check.lines.counts_line.Goals as goal

twelve : (a b c d e f g h i j k l : List ℕ) → a ++ (b ++ (c ++ (d ++ (e ++ (f ++ (g ++ (h ++ (i ++ (j ++ (k ++ l)))))))))) ≡ a ++ b ++ c ++ d ++ e ++ f ++ g ++ h ++ i ++ j ++ k ++ l
twelve a b c d e f g h i j k l = simp append_assoc

pub returns-clause-text : goal.returns-clause-text
returns-clause-text c =
    let totals = c.args.totals.now in
    rw (c.prepend-5.ensures, c.prepend_decimal-5.ensures.text, c.prepend-4.ensures, c.prepend_decimal-4.ensures.text, c.prepend-3.ensures, c.prepend_decimal-3.ensures.text, c.prepend-2.ensures, c.prepend_decimal-2.ensures.text, c.prepend.ensures, c.prepend_decimal.ensures.text, c.past_count-line.ensures.text)
    (twelve (codes "leaked ") (decimal totals.leaked) (codes " missing ") (decimal totals.missing) (codes " shared ") (decimal totals.shared) (codes " false ") (decimal totals.false_flags) (codes " late ") (decimal totals.late_flags) (past_count totals) (codes "\n"))
