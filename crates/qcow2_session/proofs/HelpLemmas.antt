use Rattle.std.proofs.Common.{◌≡◌, List, ℕ, ◌++◌, Option, Result, Err, codes}
use Rattle.std.specs.Io.KnownBytes.{Appends}
use Rattle.qcow2_base.specs.declared.fault.Fault.{Fault}
use Rattle.qcow2_session.proofs.PrintingLemmas.{prints_no-more, then_prints}
use Rattle.qcow2_session.specs.Commands.Help.{first_line_of}
use Rattle.qcow2_session.specs.Commands.Printing.{PrintsText}

-- the first line of a text failed to be printed
pub rule_is_cut : {T U : Type 0} (failed : Fault) (a b : Option (List ℕ)) (text line : List ℕ) → line ≡ first_line_of text
    → PrintsText {T = U} (Err failed) a b line → PrintsText {T = T} (Err failed) a b (first_line_of text ++ codes "\n")
rule_is_cut failed a b text line is cut = rw (← is) (prints_no-more failed a b line (codes "\n") cut)

-- it was printed, and then its newline
pub rule_ends : {T : Type 0} (answer : Result T Fault) (a b c : Option (List ℕ)) (text line : List ℕ) → line ≡ first_line_of text
    → Appends a b line → PrintsText answer b c (codes "\n") → PrintsText answer a c (first_line_of text ++ codes "\n")
rule_ends answer a b c text line is before after = rw (← is) (then_prints answer a b c line (codes "\n") before after)
