-- What does a line of words ask for?
use Rattle.std.specs.Prelude.{ℕ, ◌||◌, ⊤, if◌then◌else◌, List, [], ◌∷◌, Option, None, Some, bytes_eq, codes}
use Rattle.qcow2_help.specs.CommandTexts.{command_text, version_text}
use Rattle.qcow2_session.specs.Commands.{named_command}
use Rattle.qcow2_session.specs.Commands.Help.{all_rules, ask_for_help, help_text, text_alone, text_by_number, text_of}
use Rattle.qcow2_session.specs.Commands.Words.{Word, WordList, word_number}
use Rattle.qcow2_session.specs.declared.commands.Command.{Command}
use Rattle.qcow2_session.specs.declared.commands.request.Request.{Request}
use Rattle.qcow2_session.specs.declared.commands.request.Request.TheVariants as request

-- what a line of words asks for: a text; the text on a fault, and the fault's place in the image of a path; a command over the
-- image of a path; or nothing
pub data Asked : Type 0 where
  for_text : (text : List ℕ) → Asked
  for_place : (text : List ℕ) (path : Word) → Asked
  for_command : (command : Command) (path : Word) → Asked
  for_nothing : Asked

-- a line asks for a command
abbrev pub IsForCommand : Asked → Type 0
IsForCommand (for_command command path) = ⊤
IsForCommand _ = ⊥

-- a line asks for nothing
abbrev pub IsForNothing : Asked → Type 0
IsForNothing for_nothing = ⊤
IsForNothing _ = ⊥

-- what a value asks for, if there is one, and else nothing
abbrev pub or_nothing : {A : Type 0} → (A → Asked) → Option A → Asked
or_nothing asked_for None = for_nothing
or_nothing asked_for (Some value) = asked_for value

-- what the words after `explain` ask for: all rules, the text on the fault of a number, or also its place in an image
abbrev pub explain_request : WordList → Asked
explain_request [] = for_text all_rules
explain_request (fault ∷ []) = or_nothing for_text (text_by_number (word_number fault))
explain_request (fault ∷ image ∷ []) = or_nothing (λ text. for_place text image) (text_by_number (word_number fault))
explain_request _ = for_nothing

-- what a command's name and the words after it ask for: the first of these is the image's name
abbrev pub command_request : Word → WordList → Asked
command_request name [] = for_nothing
command_request name (image ∷ arguments) = or_nothing (λ command. for_command command image) (named_command name image arguments)

-- what a name and the words after it ask for, where these don't ask for help
abbrev pub named_request : Word → WordList → Asked
named_request name arguments =
    if bytes_eq name (codes "help") || bytes_eq name (codes "--help") || bytes_eq name (codes "-h") then or_nothing for_text (help_text arguments)
    else if bytes_eq name (codes "explain") then explain_request arguments
    else if bytes_eq name (codes "version") || bytes_eq name (codes "--version") then or_nothing for_text (text_alone version_text arguments)
    else command_request name arguments

-- what a line of words asks for
abbrev pub request_of : WordList → Asked
request_of [] = for_nothing
request_of (name ∷ arguments) = if ask_for_help name arguments then or_nothing for_text (command_text name) else named_request name arguments

-- what a request asks for
abbrev pub asked_by : Request → Asked
asked_by (request.Text text) = for_text (text_of text)
asked_by (request.Question question) = for_place question.text.now question.path.now
asked_by (request.Command command path) = for_command command path.now
asked_by request.Nothing = for_nothing
