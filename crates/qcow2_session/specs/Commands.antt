-- Which commands are there, what asks for each, and what are its facts?
pub mod Apply
pub mod At
pub mod Changing
pub mod Check
pub mod Count
pub mod Edit
pub mod Entries
pub mod Facts
pub mod Help
pub mod Info
pub mod L2
pub mod Layout
pub mod List
pub mod Map
pub mod Printing
pub mod Program
pub mod Refcount
pub mod Report
pub mod Request
pub mod Running
pub mod RunningOnFiles
pub mod Tables
pub mod Words
use Rattle.std.specs.Prelude.{if◌then◌else◌, ◌∷◌, Option, None, bytes_eq, codes}
use Rattle.qcow2_session.specs.Commands.Apply.{apply_command, apply_facts}
use Rattle.qcow2_session.specs.Commands.At.{at_command, at_facts}
use Rattle.qcow2_session.specs.Commands.Check.{check_command, check_facts}
use Rattle.qcow2_session.specs.Commands.Count.{count_command, count_facts}
use Rattle.qcow2_session.specs.Commands.Edit.{edit_command, edit_facts}
use Rattle.qcow2_session.specs.Commands.Facts.{CommandFacts}
use Rattle.qcow2_session.specs.Commands.Help.{ask_for_help}
use Rattle.qcow2_session.specs.Commands.Info.{info_facts}
use Rattle.qcow2_session.specs.Commands.L2.{l2_command, l2_facts}
use Rattle.qcow2_session.specs.Commands.Layout.{layout_command, layout_facts}
use Rattle.qcow2_session.specs.Commands.List.{list_facts}
use Rattle.qcow2_session.specs.Commands.Map.{map_command, map_facts}
use Rattle.qcow2_session.specs.Commands.Refcount.{refcount_command, refcount_facts}
use Rattle.qcow2_session.specs.Commands.Tables.{tables_facts}
use Rattle.qcow2_session.specs.Commands.Words.{Word, WordList, command_alone}
use Rattle.qcow2_session.specs.declared.commands.Command.{Command}
use Rattle.qcow2_session.specs.declared.commands.Command.TheVariants as command

-- the command that a name, the image's name and the words after it ask for, if they ask for one. An image's name may be any
-- word
abbrev pub named_command : Word → Word → WordList → Option Command
named_command name image arguments =
    if bytes_eq name (codes "info") then command_alone command.Info arguments
    else if bytes_eq name (codes "list") then command_alone command.List arguments
    else if bytes_eq name (codes "map") then map_command arguments
    else if bytes_eq name (codes "at") then at_command arguments
    else if bytes_eq name (codes "tables") then command_alone command.Tables arguments
    else if bytes_eq name (codes "layout") then layout_command arguments
    else if bytes_eq name (codes "refcount") then refcount_command arguments
    else if bytes_eq name (codes "check") then check_command image arguments
    else if bytes_eq name (codes "edit") then edit_command arguments
    else if bytes_eq name (codes "count") then count_command arguments
    else if bytes_eq name (codes "apply") then apply_command arguments
    else if bytes_eq name (codes "l2") then l2_command arguments else None

-- the same where words that ask for a command's help ask for none
abbrev pub command_by_name : Word → Word → WordList → Option Command
command_by_name name image arguments = if ask_for_help name (image ∷ arguments) then None else named_command name image arguments

-- the facts of a command
abbrev pub facts_of : Command → CommandFacts
facts_of command.Info = info_facts
facts_of command.List = list_facts
facts_of (command.Map format) = map_facts format
facts_of (command.At guest_offset) = at_facts guest_offset.0
facts_of command.Tables = tables_facts
facts_of (command.Layout form) = layout_facts form
facts_of (command.Refcount clusters) = refcount_facts clusters
facts_of (command.Check form) = check_facts form
facts_of (command.Apply form edits) = apply_facts form edits
facts_of (command.Edit l1_index edits) = edit_facts l1_index edits
facts_of (command.Count cluster steps) = count_facts cluster steps
facts_of (command.L2 cluster_bits cluster) = l2_facts cluster_bits cluster
