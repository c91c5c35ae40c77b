-- Which text do words ask for?
use Rattle.std.specs.Prelude.{ℕ, ◌==◌, ◌++◌, ◌&&◌, ◌||◌, Bool, false, not, List, [], ◌∷◌, Option, Some, None, bytes_eq, codes, flat_map, option_map}
use Rattle.std.specs.List.{before_first}
use Rattle.qcow2_base.specs.Fault.{fault_of}
use Rattle.qcow2_base.specs.declared.fault.Fault.{Fault}
use Rattle.qcow2_base.specs.declared.fault.TheConstants.Fault.{ALL}
use Rattle.qcow2_help.specs.CommandTexts.{command_text, commands_text}
use Rattle.qcow2_help.specs.FaultTexts.{fault_text}
use Rattle.qcow2_session.specs.Commands.Words.{Word, WordList}
use Rattle.qcow2_session.specs.declared.commands.help.HelpText.{HelpText}
use Rattle.qcow2_session.specs.declared.commands.help.HelpText.TheVariants as help

-- a text up to its first newline
abbrev pub first_line_of : List ℕ → List ℕ
first_line_of text = before_first (λ b. b == 10) text

-- the first line of the text on a fault
abbrev pub rule_of : Fault → List ℕ
rule_of fault = first_line_of (fault_text fault) ++ codes "\n"

-- the first lines of the texts on all faults
abbrev pub all_rules : List ℕ
all_rules = flat_map rule_of ALL

-- a text that words ask for
abbrev pub text_of : HelpText → List ℕ
text_of (help.Whole text) = text.now
text_of help.Rules = all_rules

-- what the words after `help` ask for
abbrev pub help_text : WordList → Option (List ℕ)
help_text [] = Some commands_text
help_text (name ∷ []) = command_text name
help_text _ = None

-- the text on the fault that a word may name by its number
abbrev pub text_by_number : Option ℕ → Option (List ℕ)
text_by_number None = None
text_by_number (Some number) = option_map fault_text (fault_of number)

-- this text, where there are no words more
abbrev pub text_alone : List ℕ → WordList → Option (List ℕ)
text_alone text [] = Some text
text_alone text _ = None

-- whether a command of this name takes any word for an image's name
abbrev pub takes_any_name : Word → Bool
takes_any_name name = bytes_eq name (codes "info") || bytes_eq name (codes "list") || bytes_eq name (codes "at")
    || bytes_eq name (codes "edit") || bytes_eq name (codes "count") || bytes_eq name (codes "l2")

-- whether a word alone after a command's name asks for its help
abbrev pub asks_for_help : Word → Word → Bool
asks_for_help name word = (bytes_eq word (codes "--help") || bytes_eq word (codes "-h")) && not (takes_any_name name)

-- whether the words after a command's name are such a word
abbrev pub ask_for_help : Word → WordList → Bool
ask_for_help name (word ∷ []) = asks_for_help name word
ask_for_help name _ = false
