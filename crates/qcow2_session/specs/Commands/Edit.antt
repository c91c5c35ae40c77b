-- What does the command `edit` print, and what does it leave?
use Rattle.std.specs.Prelude.{ℕ, true, false, if◌then◌else◌, List, [], ◌∷◌, ◌++◌, slice_index, Option, Some, None, option_map, Result, Ok, Err, bytes_eq, flat_map, codes}
use Rattle.std.specs.Fmt.{decimal}
use Rattle.qcow2_base.specs.Storage.{Image}
use Rattle.qcow2_base.specs.declared.fault.Fault.{Fault}
use Rattle.qcow2_base.specs.declared.fault.Fault.TheVariants.{NotPlaced}
use Rattle.qcow2_base.specs.declared.types.HostCluster.{HostCluster}
use Rattle.qcow2_edits.specs.Edits.{are_some}
use Rattle.qcow2_edits.specs.declared.edits.Edit.{Edit}
use Rattle.qcow2_edits.specs.declared.edits.Edit.TheVariants.{Discard, Map, Zero}
use Rattle.qcow2_metadata.specs.Results.{and_then, result_map}
use Rattle.qcow2_metadata.specs.declared.entries.ClustersToFreeEntry.{ClustersToFreeEntry}
use Rattle.qcow2_metadata.specs.Table.L2Guards.{RunEnd}
use Rattle.qcow2_metadata.specs.Header.{HeaderRecord, geometry_of}
use Rattle.qcow2_session.specs.Commands.Changing.{ChangeEnd, PrintsChange}
use Rattle.qcow2_session.specs.Commands.Facts.{CommandFacts, plain_facts}
use Rattle.qcow2_image.specs.Images.{edits_end}
use Rattle.qcow2_metadata.specs.Table.{l2_layout}
use Rattle.qcow2_check.specs.NamedTables.{loaded_l1_table, named_cluster}
use Rattle.qcow2_session.specs.Commands.Words.{WordList, all_values, pair_by, parts_of, word_number}
use Rattle.qcow2_session.specs.declared.commands.Command.{Command}
use Rattle.qcow2_session.specs.declared.commands.Command.TheVariants as command

-- an edit that maps, where pair_by of its numbers are there
abbrev pub map_edit_of : Option (List ℕ × List ℕ) → Option Edit
map_edit_of None = None
map_edit_of (Some words) = with_numbers (word_number words.0) (word_number words.1)
  where
    with_numbers : Option ℕ → Option ℕ → Option Edit
    with_numbers (Some index) (Some cluster) = Some (Map index (record { 0 = cluster }))
    with_numbers _ _ = None

-- the edit that a word says, if it says one: its name, a colon, and numbers with a colon between
abbrev pub edit_of : List ℕ → Option Edit
edit_of word = of_parts (parts_of word)
  where
    of_parts : Option (List ℕ × List ℕ) → Option Edit
    of_parts None = None
    of_parts (Some parts) =
        if bytes_eq parts.0 (codes "map") then map_edit_of (parts_of parts.1)
        else if bytes_eq parts.0 (codes "zero") then option_map (λ index. Zero index false) (word_number parts.1)
        else if bytes_eq parts.0 (codes "keep") then option_map (λ index. Zero index true) (word_number parts.1)
        else if bytes_eq parts.0 (codes "discard") then option_map Discard (word_number parts.1) else None

-- the command `edit` that the words after its image ask for
abbrev pub edit_command : WordList → Option Command
edit_command [] = None
edit_command (l1_index ∷ words) = pair_by command.Edit (word_number l1_index) (all_values edit_of words)

-- the line of clusters that lost a reference: the first, and how many
abbrev pub freed_line : ClustersToFreeEntry → List ℕ
freed_line clusters = codes "freed " ++ decimal clusters.first.0 ++ codes " " ++ decimal clusters.count.0 ++ codes "\n"

-- the line of a cluster that gained a reference
abbrev pub gained_line : ℕ → List ℕ
gained_line cluster = codes "gained " ++ decimal cluster ++ codes "\n"

-- the cluster that the L2 table of an L1 entry begins with, or why there is none
abbrev pub table_cluster : HeaderRecord → ℕ → Image → Result HostCluster Fault
table_cluster header l1_index image = and_then (loaded_l1_table header image) (λ l1.
    or_not_placed (named_cluster header.v2.cluster_bits (slice_index l1 l1_index)))
  where
    or_not_placed : Option HostCluster → Result HostCluster Fault
    or_not_placed None = Err NotPlaced
    or_not_placed (Some cluster) = Ok cluster

-- what edits of the L2 table at a cluster come to, by what they leave of it: the lines tell of the clusters that lost a
-- reference, and then of those that gained one
abbrev pub change_of_edits : HostCluster → List Edit → RunEnd → ChangeEnd
change_of_edits cluster edits left = record {
  cluster = cluster;
  numbers = left.numbers;
  is_written = are_some edits;
  lines = flat_map freed_line left.freed ++ flat_map gained_line left.gained;
}

-- what edits of the L2 table that an L1 entry names come to, in an image with this header, or why they are refused
abbrev pub end_of_edits : ℕ → List Edit → HeaderRecord → Image → Result ChangeEnd Fault
end_of_edits l1_index edits header image = and_then (table_cluster header l1_index image)
    (λ cluster. result_map (change_of_edits cluster edits) (edits_end header cluster edits image))

-- the facts of the command `edit` of the L2 table of an L1 entry
abbrev pub edit_facts : ℕ → List Edit → CommandFacts
edit_facts l1_index edits = record (plain_facts (λ O header run. PrintsChange run (l2_layout (geometry_of header)) (end_of_edits l1_index edits header))) {
  changes_image = true;
  loads_to_write = true;
}
