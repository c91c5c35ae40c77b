-- Which status is a verdict's?
use Rattle.std.specs.Prelude.{ℕ}
use Rattle.qcow2_check.specs.declared.verdict.Verdict.{Verdict}
use Rattle.qcow2_check.specs.declared.verdict.Verdict.TheVariants.{Fine, Harmful, Harmless}

-- the program's status for a verdict
abbrev pub status_of_verdict : Verdict → ℕ
status_of_verdict Fine = 0
status_of_verdict Harmless = 3
status_of_verdict Harmful = 4
