use Rattle.std.proofs.Common.{◌≡◌, ◌≤◌, ◌-◌, ℕ, List, [], ◌∷◌, Option, None, Some, arith, drop, get_or, length, refl, take, take_all}
use Rattle.std.specs.Option.{IsSome}
use Rattle.qcow2_session.specs.Commands.{named_command}
use Rattle.qcow2_session.specs.Commands.Request.{IsForCommand, command_request, for_command, or_nothing}
use Rattle.qcow2_session.specs.declared.commands.Command.{Command}

-- the first of some items, and the others
pub first-item : {X : Type 0} (items : List X) (first : X) → 1 ≤ length items → first ≡ get_or items 0 first
    → items ≡ first ∷ take (length items - 1) (drop 1 items)
first-item [] first enough at = absurd (omega (arith, enough))
first-item (one ∷ items) first enough at =
    let rest : take (length (one ∷ items) - 1) items ≡ items = take_all (length (one ∷ items) - 1) items (omega arith) in
    rw (at, rest) refl

some-command : (path : List ℕ) (meant : Option Command) → IsSome meant → IsForCommand (or_nothing (λ command. for_command command path) meant)
some-command path None is = absurd (grind (arith, is))
some-command path (Some command) is = tt

-- memory runs out only for words that say a command
pub lacks-memory : (name image : List ℕ) (words arguments : List (List ℕ)) → words ≡ image ∷ arguments → IsSome (named_command name image arguments)
    → IsForCommand (command_request name words)
lacks-memory name image words arguments same is = rw same (some-command image (named_command name image arguments) is)
