use Rattle.std.proofs.lemmas.Bool.Decides.{nat_tests}
use Rattle.std.proofs.Common.{◌≡◌, ◌⊎◌, ℕ, false, Option, None, Some, Result, Ok, Err, inl, inr, refl, arith}
use Rattle.std.specs.Bool.{IsTrue}
use Rattle.std.specs.Result.{IsOk, MatchResult, OnErr, OnOk}
use Rattle.qcow2_base.specs.Storage.{StorageState}
use Rattle.qcow2_base.specs.declared.fault.Fault.{Fault}
use Rattle.qcow2_base.specs.declared.fault.Fault.TheVariants.{Storage}
use Rattle.qcow2_metadata.specs.Header.{HeaderRecord}
use Rattle.qcow2_metadata.specs.Header.Grammar.{accepted_header}
use Rattle.qcow2_metadata.specs.Header.Open.{header_after_load}
use Rattle.qcow2_metadata.specs.Results.{Answers}
use Rattle.qcow2_session.proofs.PrintingLemmas.{run_between}
use Rattle.qcow2_session.specs.Commands.Facts.{CommandFacts}
use Rattle.qcow2_session.specs.Commands.Printing.{OutputBytes, PrintsLast, Run}
use Rattle.qcow2_session.specs.Commands.Running.{FindsHeader, IsHeaderFor, Runs}
use Rattle.qcow2_check.specs.declared.verdict.Verdict.{Verdict}

-- a command ran with the header that it found
pub runs-with : {O : Type 0} (facts : CommandFacts) (header : HeaderRecord) (run : Run Verdict O) (left : StorageState)
    → FindsHeader facts (Ok header) run.old left → facts.Ends header (record run { old = left }) → Runs facts run
runs-with facts header run left found ends = (Ok header, left, found, ends)

-- or it found none
pub runs-without : {O : Type 0} (facts : CommandFacts) (fault : Fault) (contents : O → OutputBytes) (old new : StorageState) (a : O)
    → FindsHeader facts (Err fault) old new → Runs facts (run_between contents (Err fault) old new a a)
runs-without facts fault contents old new a found = (Err fault, new, found, (refl, refl, refl))

-- what a run with a header comes to, or one without
pub ruleset runs = (runs-with, runs-without)

-- a header that was found for a command is one that it can work with
pub header-for : (facts : CommandFacts) (header : HeaderRecord) (old new : StorageState)
    → FindsHeader facts (Ok header) old new → IsHeaderFor facts header
header-for facts header old new found = by_words facts.cluster_bits refl
  where
    by_words : (words : Option ℕ) → facts.cluster_bits ≡ words → IsHeaderFor facts header
    by_words None is = rw is tt
    by_words (Some cb) is = rw is (rw is at found).0

-- the header that is loaded for a command is the one of the image's bytes, where these are known
pub header-by-bytes : (facts : CommandFacts) (found : Result HeaderRecord Fault) (old left : StorageState)
    → FindsHeader facts found old left → facts.cluster_bits ≡ None → IsTrue old.tells
    → Answers (λ header. header) found (header_after_load facts.loads_to_write (accepted_header facts.accepts old.byte_at))
    × (facts.loads_to_write ≡ false → left.byte_at ≡ old.byte_at)
header-by-bytes facts found old left finds none known =
    let loads = rw none at finds in
    (loads.exact known, λ reads. (loads.storage.reads reads).bytes)

-- what a command prints last, after its header was found
pub last-with : {A O : Type 0} (facts : CommandFacts) (header : HeaderRecord) (run : Run A O) (left : StorageState)
    → FindsHeader facts (Ok header) run.old left → PrintsLast (record run { old = left }) → PrintsLast run
last-with facts header run left found last = grind (arith, nat_tests)

-- what a run comes to after the flush of its output
pub answer-flushed : {E : Type 0} (ran answer : Result Verdict Fault) (flushed : Result (Unit {0}) E) → OnErr ran (answer ≡ ran)
    → OnOk ran (MatchResult flushed (λ _. answer ≡ ran) (λ _. answer ≡ Err Storage)) → (answer ≡ ran) ⊎ (IsOk ran × (answer ≡ Err Storage))
answer-flushed (Ok verdict) answer (Ok done) own flush = inl flush
answer-flushed (Ok verdict) answer (Err error) own flush = inr (refl, flush)
answer-flushed (Err fault) answer flushed own flush = inl own
