-- What does the command `l2` print?
use Rattle.std.specs.Prelude.{ℕ, ◌&&◌, nat_le, if◌then◌else◌, false, List, [], ◌∷◌, Option, Some, None, Result}
use Rattle.qcow2_base.specs.Storage.{Image}
use Rattle.qcow2_base.specs.declared.fault.Fault.{Fault}
use Rattle.qcow2_base.specs.declared.types.HostCluster.{HostCluster}
use Rattle.qcow2_metadata.specs.Results.{result_map}
use Rattle.qcow2_metadata.specs.Header.{Geometry, geometry}
use Rattle.qcow2_metadata.specs.Placed.{place_fault}
use Rattle.qcow2_metadata.specs.Table.{l2_layout, loaded_l2_table}
use Rattle.qcow2_session.specs.Commands.Entries.{table_lines}
use Rattle.qcow2_session.specs.Commands.Facts.{CommandFacts, plain_facts}
use Rattle.qcow2_session.specs.Commands.Printing.{Prints}
use Rattle.qcow2_session.specs.declared.commands.entries.Label.TheVariants.{Index}
use Rattle.qcow2_session.specs.Commands.Words.{WordList, pair_by, word_number}
use Rattle.qcow2_session.specs.declared.commands.Command.{Command}
use Rattle.qcow2_session.specs.declared.commands.Command.TheVariants as command

-- the number of cluster bits that a word says, from 9 to 21
abbrev pub cluster_bits_of : List ℕ → Option ℕ
cluster_bits_of word = in_range (word_number word)
  where
    in_range : Option ℕ → Option ℕ
    in_range None = None
    in_range (Some bits) = if nat_le 9 bits && nat_le bits 21 then Some bits else None

-- the command `l2` that the words after its image ask for
abbrev pub l2_command : WordList → Option Command
l2_command (cluster_bits ∷ cluster ∷ []) =
    pair_by (λ bits number. command.L2 bits (record { 0 = number })) (cluster_bits_of cluster_bits) (word_number cluster)
l2_command _ = None

-- the lines of the command `l2`: what the L2 table that begins with a cluster maps
abbrev pub lines_of_l2_table : Geometry → HostCluster → Image → Result (List ℕ) Fault
lines_of_l2_table g cluster image = result_map (table_lines Index g 0) (loaded_l2_table g cluster image)

-- the facts of the command `l2` of the table that begins with a cluster, under cluster bits
abbrev pub l2_facts : ℕ → HostCluster → CommandFacts
l2_facts cb cluster = record (plain_facts (λ O header run. Prints run (lines_of_l2_table (geometry cb false) cluster))) {
  cluster_bits = Some cb;
  place_fault = place_fault (l2_layout (geometry cb false)) cluster;
}
