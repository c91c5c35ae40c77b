-- What does the command `count` print, and what does it leave?
use Rattle.std.specs.Prelude.{ℕ, true, if◌then◌else◌, List, [], ◌∷◌, ◌++◌, Option, None, Some, option_map, Result, bytes_eq, flat_map, codes}
use Rattle.std.specs.Fmt.{decimal}
use Rattle.qcow2_base.specs.Storage.{Image}
use Rattle.qcow2_base.specs.declared.fault.Fault.{Fault}
use Rattle.qcow2_base.specs.declared.types.HostCluster.{HostCluster}
use Rattle.qcow2_edits.specs.Steps.{StepsEnd, are_some_done}
use Rattle.qcow2_edits.specs.declared.steps.Step.{Step}
use Rattle.qcow2_edits.specs.declared.steps.StepReply.{StepReply}
use Rattle.qcow2_edits.specs.declared.steps.StepReply.TheVariants.{Done, Refused}
use Rattle.qcow2_edits.specs.declared.steps.Step.TheVariants.{Dec, Inc}
use Rattle.qcow2_metadata.specs.Results.{result_map}
use Rattle.qcow2_metadata.specs.Header.{HeaderRecord}
use Rattle.qcow2_metadata.specs.Refblock.{block_geometry_of, block_layout}
use Rattle.qcow2_session.specs.Commands.Changing.{ChangeEnd, PrintsChange}
use Rattle.qcow2_session.specs.Commands.Facts.{CommandFacts, plain_facts}
use Rattle.qcow2_image.specs.Images.{steps_end}
use Rattle.qcow2_session.specs.Commands.Words.{WordList, all_values, pair_by, parts_of, word_number}
use Rattle.qcow2_session.specs.declared.commands.Command.{Command}
use Rattle.qcow2_session.specs.declared.commands.Command.TheVariants as command

-- the step that a word says, if it says one
abbrev pub step_of : List ℕ → Option Step
step_of word = of_parts (parts_of word)
  where
    of_parts : Option (List ℕ × List ℕ) → Option Step
    of_parts None = None
    of_parts (Some parts) =
        if bytes_eq parts.0 (codes "inc") then option_map Inc (word_number parts.1)
        else if bytes_eq parts.0 (codes "dec") then option_map Dec (word_number parts.1) else None

-- the command `count` that the words after its image ask for
abbrev pub count_command : WordList → Option Command
count_command [] = None
count_command (cluster ∷ words) =
    pair_by (λ number steps. command.Count (record { 0 = number }) steps) (word_number cluster) (all_values step_of words)

-- the line of what came of a step
abbrev pub reply_line : StepReply → List ℕ
reply_line (Done before) = codes "ok " ++ decimal before ++ codes "\n"
reply_line Refused = codes "refused\n"

-- what steps of the block that begins with a cluster come to, in an image with this header, or why they are refused: the
-- lines are those of the replies
abbrev pub end_of_steps : HostCluster → List Step → HeaderRecord → Image → Result ChangeEnd Fault
end_of_steps cluster steps header image = result_map (λ (left : StepsEnd). record {
  cluster = cluster;
  numbers = left.counters;
  is_written = are_some_done left.replies;
  lines = flat_map reply_line left.replies;
}) (steps_end header cluster steps image)

-- the facts of the command `count` of the refcount block that begins with a cluster
abbrev pub count_facts : HostCluster → List Step → CommandFacts
count_facts cluster steps = record (plain_facts (λ O header run.
    PrintsChange run (block_layout (block_geometry_of header)) (end_of_steps cluster steps header))) {
      changes_image = true;
      loads_to_write = true;
    }
