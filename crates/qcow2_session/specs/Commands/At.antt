-- What does the command `at` print?
use Rattle.std.specs.Prelude.{ℕ, List, [], ◌∷◌, ◌++◌, Option, None, option_map, Result, codes}
use Rattle.qcow2_base.specs.Storage.{Image}
use Rattle.qcow2_base.specs.declared.fault.Fault.{Fault}
use Rattle.qcow2_metadata.specs.Results.{result_map}
use Rattle.qcow2_metadata.specs.Header.{HeaderRecord}
use Rattle.qcow2_session.specs.Lines.{mapping_text}
use Rattle.qcow2_image.specs.Lookups.{mapping_in}
use Rattle.qcow2_session.specs.Commands.Facts.{CommandFacts, plain_facts}
use Rattle.qcow2_session.specs.Commands.Printing.{Prints}
use Rattle.qcow2_session.specs.Commands.Words.{WordList, word_number}
use Rattle.qcow2_session.specs.declared.commands.Command.{Command}
use Rattle.qcow2_session.specs.declared.commands.Command.TheVariants as command

-- the command `at` that the words after its image ask for
abbrev pub at_command : WordList → Option Command
at_command (offset ∷ []) = option_map (λ number. command.At (record { 0 = number })) (word_number offset)
at_command _ = None

-- the line of the command `at`: what the cluster of a guest offset reads as, in an image with this header
abbrev pub line_at : HeaderRecord → ℕ → Image → Result (List ℕ) Fault
line_at header offset image = result_map (λ found. mapping_text header.v2.cluster_bits found ++ codes "\n")
    (mapping_in header offset image)

-- the facts of the command `at` of a guest offset
abbrev pub at_facts : ℕ → CommandFacts
at_facts offset = plain_facts (λ O header run. Prints run (line_at header offset))
