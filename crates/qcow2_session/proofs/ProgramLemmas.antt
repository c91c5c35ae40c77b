use Rattle.std.proofs.Common.{◌≡◌, ◌≢◌, ℕ, ◌∙◌, List, length, None, Some, Result, Ok, Err, refl, sym, arith, take_all}
use Rattle.std.specs.Io.KnownBytes.{Appends, Keeps}
use Rattle.std.specs.Result.{IfOk, MatchResult, OnErr, OnOk}
use Rattle.qcow2_base.specs.declared.fault.Fault.{Fault}
use Rattle.qcow2_base.specs.declared.fault.Fault.TheVariants.{Storage}
use Rattle.qcow2_check.specs.Verdict.{status_of_verdict}
use Rattle.qcow2_check.specs.declared.verdict.Verdict.{Verdict}
use Rattle.qcow2_check.specs.declared.verdict.Verdict.TheVariants.{Fine, Harmful, Harmless}
use Rattle.qcow2_session.proofs.OutputLemmas.{part_taken}
use Rattle.qcow2_session.specs.Commands.Printing.{AppendsPart, OutputBytes, PrintsText}
use Rattle.qcow2_session.specs.Commands.Report.{Reports, fault_line}
use Rattle.qcow2_session.specs.Commands.Running.{fine_unless_failed}

-- an output that was left alone
pub kept : (bytes : OutputBytes) → Keeps bytes bytes
kept None = tt
kept (Some bytes) = refl

kept-appends : (a b c : OutputBytes) (text : List ℕ) → Appends a b text → Keeps b c → Appends a c text
kept-appends None b c text got kept = tt
kept-appends (Some xs) None c text got kept = absurd got
kept-appends (Some xs) (Some ys) None text got kept = kept
kept-appends (Some xs) (Some ys) (Some zs) text got kept = kept ∙ got

kept-part : (a b c : OutputBytes) (text : List ℕ) → AppendsPart a b text → Keeps b c → AppendsPart a c text
kept-part None b c text got kept = tt
kept-part (Some xs) None c text got kept = absurd got
kept-part (Some xs) (Some ys) None text got kept = kept
kept-part (Some xs) (Some ys) (Some zs) text got kept = (got.0, kept ∙ got.1)

all-part : (a b : OutputBytes) (text : List ℕ) → Appends a b text → AppendsPart a b text
all-part a b text got = part_taken a b text (length text) (rw (take_all (length text) text (omega arith)) got)

-- a text was printed, and the output was flushed after it
pub text-flushed : {E : Type 0} (printed : Result (Unit {0}) Fault) (ran ended : Result Verdict Fault) (flushed : Result (Unit {0}) E) (a b c : OutputBytes) (text : List ℕ)
    → PrintsText printed a b text → Keeps b c → ran ≡ fine_unless_failed printed → OnErr ran (ended ≡ ran)
    → OnOk ran (MatchResult flushed (λ _. ended ≡ ran) (λ _. ended ≡ Err Storage)) → PrintsText ended a c text
text-flushed (Ok done) ran ended (Ok flushed) a b c text prints kept is own flush =
    let same : ended ≡ Ok Fine = rw is at flush in
    rw same (record { fault = tt; text = kept-appends a b c text prints.text kept; part = tt })
text-flushed (Ok done) ran ended (Err error) a b c text prints kept is own flush =
    let same : ended ≡ Err Storage = rw is at flush in
    rw same (record { fault = refl; text = tt; part = kept-part a b c text (all-part a b text prints.text) kept })
text-flushed (Err fault) ran ended flushed a b c text prints kept is own flush =
    let same : ended ≡ Err fault = rw is at own in
    rw same (record { fault = prints.fault; text = tt; part = kept-part a b c text prints.part kept })

-- a run that looks for nothing wrong has no other verdict after it
pub fine-flushed : {E : Type 0} (ran ended : Result Verdict Fault) (flushed : Result (Unit {0}) E) → IfOk ran (λ verdict. verdict ≡ Fine)
    → OnErr ran (ended ≡ ran) → OnOk ran (MatchResult flushed (λ _. ended ≡ ran) (λ _. ended ≡ Err Storage)) → IfOk ended (λ verdict. verdict ≡ Fine)
fine-flushed (Ok verdict) ended (Ok flushed) fine own flush = rw flush fine
fine-flushed (Ok verdict) ended (Err error) fine own flush = rw flush tt
fine-flushed (Err fault) ended flushed fine own flush = rw own tt

-- no verdict has the status of a fault, or that of wrong words
never-one : (verdict : Verdict) → status_of_verdict verdict ≢ 1
never-one Fine is = absurd (omega (arith, is))
never-one Harmless is = absurd (omega (arith, is))
never-one Harmful is = absurd (omega (arith, is))

pub never-two : (verdict : Verdict) → status_of_verdict verdict ≢ 2
never-two Fine is = absurd (omega (arith, is))
never-two Harmless is = absurd (omega (arith, is))
never-two Harmful is = absurd (omega (arith, is))

-- what is on standard error where it had a verdict
pub reports-verdict : {E : Type 0} (verdict : Verdict) (status : ℕ) (contents : E → OutputBytes) (err : E)
    → status ≡ status_of_verdict verdict → Reports status contents err err
reports-verdict verdict status contents err is = record {
  verdict = λ no_fault words. refl;
  fault = λ one. absurd (never-one verdict (sym is ∙ one));
  wrong_words = λ two. absurd (never-two verdict (sym is ∙ two));
}

-- and where it had a fault
pub reports-fault : {E : Type 0} (fault : Fault) (status : ℕ) (contents : E → OutputBytes) (old new : E)
    → status ≡ 1 → AppendsPart (contents old) (contents new) (fault_line fault) → Reports status contents old new
reports-fault fault status contents old new is line = record {
  verdict = λ no_fault words. absurd (no_fault is);
  fault = λ _. (fault, line);
  wrong_words = λ two. absurd (omega (arith, is, two));
}
