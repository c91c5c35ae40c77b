-- What did an output get, and has a write of it failed?
use Rattle.std.specs.Prelude.{◌≡◌, ℕ, Bool, true, false, List}
use Rattle.std.specs.Borrow.{MutBor}
use Rattle.std.specs.Io.KnownBytes.{Appends}
use Rattle.qcow2_session.specs.Commands.Printing.{AppendsPart, OutputBytes}
use Rattle.qcow2_session.specs.declared.lines.output.Output.{Output}

-- known bytes grow by others, or by a beginning of them where a write has failed
abbrev pub AppendsUnless : Bool → OutputBytes → OutputBytes → List ℕ → Type 0
AppendsUnless false old new bytes = Appends old new bytes
AppendsUnless true old new bytes = AppendsPart old new bytes

-- an output got these bytes, or a beginning of them where a write has failed
abbrev pub Gets : {W : Type 0} → (W → OutputBytes) → Output W → Output W → List ℕ → Type 0
Gets contents old new bytes = AppendsUnless new.has_failed (contents old.writer.now) (contents new.writer.now) bytes

-- an output that writes to a writer which is lent, and of which no write has failed
pub record Begins {W : Type 0} (lent : MutBor W) (output : Output W) : Type 0 where
  pub writer : output.writer.now ≡ lent.now
  pub same : output.writer.ghost_name ≡ lent.ghost_name
  pub calm : output.has_failed ≡ false

-- an output goes on writing to its writer, and gets nothing once a write has failed
pub record GoesOn {W : Type 0} (old new : Output W) : Type 0 where
  pub stays : old.has_failed ≡ true → new ≡ old
  pub same : new.writer.ghost_name ≡ old.writer.ghost_name
