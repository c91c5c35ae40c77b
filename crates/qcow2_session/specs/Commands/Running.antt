-- What does a run of a command come to, from the load of the header to the flush of the output?
use Rattle.std.specs.Prelude.{◌≡◌, ◌⊎◌, false, ℕ, Option, Some, None, IfSome, Result, Err, IsOk, MatchResult}
use Rattle.std.specs.Io.KnownBytes.{Keeps}
use Rattle.qcow2_base.specs.Storage.{StorageState}
use Rattle.qcow2_base.specs.declared.fault.Fault.{Fault}
use Rattle.qcow2_base.specs.declared.fault.Fault.TheVariants.{NoMemory, Storage}
use Rattle.qcow2_metadata.specs.Header.{HeaderRecord, geometry, geometry_of}
use Rattle.qcow2_metadata.specs.Header.Open.{LoadsAccepted}
use Rattle.qcow2_metadata.specs.Results.{result_map}
use Rattle.qcow2_session.specs.Commands.Facts.{CommandFacts}
use Rattle.qcow2_session.specs.Commands.Printing.{PrintsLast, Run}
use Rattle.qcow2_check.specs.declared.verdict.Verdict.{Verdict}
use Rattle.qcow2_check.specs.declared.verdict.Verdict.TheVariants.{Fine}

-- the answer of a run whose command looks for nothing wrong: its fault, or that all is fine
abbrev pub fine_unless_failed : {T : Type 0} → Result T Fault → Result Verdict Fault
fine_unless_failed ran = result_map (λ _. Fine) ran

-- a header without an external data file was made for these cluster bits, unless memory ran out
abbrev pub IsNewHeader : ℕ → Result HeaderRecord Fault → Type 0
IsNewHeader cb found = MatchResult found
    (λ header. geometry_of header ≡ geometry cb false) (λ fault. fault ≡ NoMemory)

-- a command found its header: a new one of the cluster bits that its words say, or else that of the
-- image, which was loaded with the features that it accepts
abbrev pub FindsHeader : CommandFacts → Result HeaderRecord Fault → StorageState → StorageState → Type 0
FindsHeader facts found old new = by_words facts.cluster_bits
  where
    by_words : Option ℕ → Type 0
    by_words None = LoadsAccepted facts.accepts facts.loads_to_write found old new
    by_words (Some cb) = IsNewHeader cb found × (new ≡ old)

-- a header is one that a command can work with: where its words say cluster bits, a new one of these
abbrev pub IsHeaderFor : CommandFacts → HeaderRecord → Type 0
IsHeaderFor facts header = IfSome facts.cluster_bits (λ cb. geometry_of header ≡ geometry cb false)

-- a run of a command finds its header first, whose fault is its answer before anything is printed. Then this follows, over the
-- image that this left
abbrev pub AfterHeader : {O : Type 0} → CommandFacts → (HeaderRecord → Run Verdict O → Type 0) → Run Verdict O → Type 0
AfterHeader facts Follows run = (found : Result HeaderRecord Fault) × (left : StorageState)
    × FindsHeader facts found run.old left × MatchResult found
    (λ header. Follows header (record run { old = left }))
    (λ fault. (run.answer ≡ Err fault) × (run.new ≡ left) × (run.after ≡ run.before))

-- a run of a command: its header is found, and then it ends as it should with that
abbrev pub Runs : {O : Type 0} → CommandFacts → Run Verdict O → Type 0
Runs facts run = AfterHeader facts facts.Ends run

-- a run of a command with its header: it ends as it should. Only a command that may change its image changes a byte, and only
-- one that may print before faults prints lines before one other than the storage fault
pub record EndsRun {O : Type 0} (facts : CommandFacts) (header : HeaderRecord) (run : Run Verdict O) : Type 0 where
  pub ends : facts.Ends header run
  pub unchanged : facts.changes_image ≡ false → run.new.byte_at ≡ run.old.byte_at
  pub at_once : facts.prints_before_faults ≡ false → PrintsLast run

-- a run of a command with its header, and then the flush of its output: the answer is that of the run, its verdict or its
-- fault. Only after a run without a fault it may be the storage fault, of a failed flush. The flush changes nothing of what was
-- printed
abbrev pub EndsAndFlushes : {O : Type 0} → CommandFacts → HeaderRecord → Run Verdict O → Type 0
EndsAndFlushes {O = O} facts header run = (ran : Result Verdict Fault) × (printed : O)
    × EndsRun facts header (record run { answer = ran; after = printed }) × Keeps (run.contents printed) (run.contents run.after)
    × ((run.answer ≡ ran) ⊎ (IsOk ran × (run.answer ≡ Err Storage)))
