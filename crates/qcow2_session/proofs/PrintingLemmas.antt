use Rattle.std.proofs.lemmas.Bool.Decides.{nat_tests}
use Rattle.std.proofs.Common.{◌≡◌, ◌≢◌, ◌⊎◌, ℕ, ◌+◌, ◌<◌, List, [], ◌∷◌, ◌++◌, append-nil, flat_map, take_all, get_or, length, take, drop, take-append-drop, Bool, true, false, if◌then◌else◌, Option, Result, Ok, Err, IsTrue, refl, arith}
use Rattle.std.specs.Result.{IsOkUnless}
use Rattle.std.specs.Io.KnownBytes.{Appends}
use Rattle.std.proofs.KnownBytes.{Appends-trans}
use Rattle.std.proofs.lemmas.Grind.{flat_map-append}
use Rattle.std.proofs.lemmas.List.{take_more}
use Rattle.std.proofs.lemmas.List.Folds.{flat_map-map}
use Rattle.qcow2_base.specs.Storage.{Image, OnlyReads, SameDevice, StorageState}
use Rattle.qcow2_base.specs.declared.fault.Fault.{Fault}
use Rattle.qcow2_base.specs.declared.fault.Fault.TheVariants.{NoMemory, Storage}
use Rattle.qcow2_image.proofs.LookupsLemmas.{refused-as}
use Rattle.qcow2_metadata.specs.Results.{result_map}
use Rattle.qcow2_session.proofs.OutputLemmas.{part-after, part-of_more}
use Rattle.qcow2_session.specs.Lines.Output.{Gets}
use Rattle.qcow2_session.specs.declared.lines.output.Output.{Output}
use Rattle.qcow2_session.specs.Commands.Printing.{IsReadFault, OutputBytes, Prints, PrintsLast, PrintsText, Run, run_over}

-- what was printed before, and then these lines, if the print of these succeeds
pub then_prints : {T : Type 0} (answer : Result T Fault) (a b c : Option (List ℕ)) (lines more : List ℕ) → Appends a b lines → PrintsText answer b c more → PrintsText answer a c (lines ++ more)
then_prints (Ok done) a b c lines more before after = record { fault = after.fault; text = Appends-trans a b c lines more before after.text; part = tt }
then_prints (Err fault) a b c lines more before after = record { fault = after.fault; text = tt; part = part-after a b c lines more before after.part }

-- a print that failed, of lines that more would have followed
pub prints_no-more : {T U : Type 0} (fault : Fault) (a b : Option (List ℕ)) (lines more : List ℕ) → PrintsText {T = U} (Err fault) a b lines → PrintsText {T = T} (Err fault) a b (lines ++ more)
prints_no-more fault a b lines more failed = record { fault = failed.fault; text = tt; part = part-of_more a b lines more failed.part }

-- the fault that is meant, memory that ran out, or a failed call of the image
pub read_fault-of : {V A O : Type 0} (fault : Fault) (meant : Result V Fault) (run : Run A O)
    → (fault ≡ Storage) ⊎ (fault ≡ NoMemory) ⊎ (meant ≡ Err fault) → (fault ≡ Storage → run.new.failures ≢ run.old.failures) → IsReadFault meant run fault
read_fault-of fault meant run refused failed = grind arith

-- a run between two states of an image and of its output
abbrev pub run_between : {A O : Type 0} → (O → OutputBytes) → Result A Fault → StorageState → StorageState → O → O → Run A O
run_between contents answer old new before after = run_over (λ (state : StorageState). state) contents answer old new before after

-- what is read from the bytes is refused, so no line of it is meant
pub Prints-refused : {V A O : Type 0} (fault : Fault) (read : Image → Result V Fault) (lines_of : V → List ℕ) (contents : O → OutputBytes) (old new : StorageState) (a b : O)
    → (IsTrue old.tells → (fault ≡ Storage) ⊎ (fault ≡ NoMemory) ⊎ (read old.byte_at ≡ Err fault)) → (fault ≡ Storage → new.failures ≢ old.failures)
    → Prints {A = A} (run_between contents (Err fault) old new a b) (λ image. result_map lines_of (read image))
Prints-refused fault read lines_of contents old new a b refused failed =
    grind (arith, nat_tests, read_fault-of, refused-as)

-- the lines of one item more
pub printed-more : {X : Type 0} (line : X → List ℕ) (items : List X) (i : ℕ) (default : X) (a b c : Option (List ℕ)) → i < length items
    → Appends a b (flat_map line (take i items)) → Appends b c (line (get_or items i default)) → Appends a c (flat_map line (take (i + 1) items))
printed-more line items i default a b c below before here =
    rw (take_more items i default below, flat_map-append line (take i items) (get_or items i default ∷ []), append-nil (line (get_or items i default)))
    (Appends-trans a b c _ _ before here)

-- what an output got by its end
pub text_finished : {W : Type 0} (contents : W → Option (List ℕ)) (lent new : W) (a b : Output W) (answer : Result (Unit {0}) Fault) (text : List ℕ)
    → a.writer.now ≡ lent → new ≡ b.writer.now → Gets contents a b text → answer ≡ (if b.has_failed then Err Storage else Ok tt) → PrintsText answer (contents lent) (contents new) text
text_finished contents lent new a b answer text begins ends got is = by_flag b.has_failed refl
  where
    by_flag : (failed : Bool) → b.has_failed ≡ failed → PrintsText answer (contents lent) (contents new) text
    by_flag true failed = rw (is, failed, ends, ← begins) (record { fault = refl; text = tt; part = rw failed at got })
    by_flag false calm = rw (is, calm, ends, ← begins) (record { fault = tt; text = rw calm at got; part = tt })

-- the line of one item failed
pub failed_at : {X T U : Type 0} (line : X → List ℕ) (items : List X) (i : ℕ) (default : X) (fault : Fault) (a b c : Option (List ℕ)) → i < length items
    → Appends a b (flat_map line (take i items)) → PrintsText {T = U} (Err fault) b c (line (get_or items i default)) → PrintsText {T = T} (Err fault) a c (flat_map line items)
failed_at {X = X} line items i default fault a b c below before failed =
    let begun = take_more items i default below in
    let whole : take (i + 1) items ++ drop (i + 1) items ≡ items = take-append-drop (i + 1) items in
    rw (← whole, flat_map-append line (take (i + 1) items) (drop (i + 1) items), begun, flat_map-append line (take i items) (get_or items i default ∷ []), append-nil (line (get_or items i default)))
    (prints_no-more fault a c (flat_map line (take i items) ++ line (get_or items i default)) _ (then_prints (Err fault) a b c _ _ before failed))

-- what lists of lines are printed by
pub ruleset lines_printed = (printed-more, take_all)

-- and two lists after each other
pub ruleset outcome_printed = (then_prints, prints_no-more, flat_map-map)

-- reads that returned a value leave no failure
pub reads-calm : {T : Type 0} (value : T) (old new : StorageState) → OnlyReads (Ok value) old new → new.failures ≡ old.failures
reads-calm value old new reads = grind (arith, reads.told)

-- calls that printed nothing, whose fault shows whether one of the image failed
pub last-unprinted : {A O : Type 0} (fault : Fault) (contents : O → OutputBytes) (old new : StorageState) (a : O) → (new.failures ≢ old.failures → fault ≡ Storage)
    → SameDevice old new → PrintsLast {A = A} (run_between contents (Err fault) old new a a)
last-unprinted fault contents old new a failed device = record { refused = λ other. refl; failed = λ moved. (rw (failed moved) refl, refl); device = device }

-- a print that comes last, after calls of the image of which none failed
pub last-printed : {A O : Type 0} (run : Run A O) → IsOkUnless run.answer Storage → run.new.failures ≡ run.old.failures
    → SameDevice run.old run.new → PrintsLast run
last-printed run fault calm device = grind (arith, nat_tests)
