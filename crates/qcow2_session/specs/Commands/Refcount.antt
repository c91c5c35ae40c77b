-- What does the command `refcount` print?
use Rattle.std.specs.Prelude.{ℕ, List, [], ◌∷◌, ◌++◌, flat_map, map, Option, None, option_map, Result, codes}
use Rattle.std.specs.Fmt.{decimal}
use Rattle.qcow2_base.specs.Storage.{Image}
use Rattle.qcow2_base.specs.declared.fault.Fault.{Fault}
use Rattle.qcow2_base.specs.declared.types.HostCluster.{HostCluster}
use Rattle.qcow2_check.specs.Counters.{counter_of, placed_reftable}
use Rattle.qcow2_metadata.specs.Header.{HeaderRecord, each_feature}
use Rattle.qcow2_metadata.specs.Results.{result_map}
use Rattle.qcow2_session.specs.Commands.Facts.{CommandFacts, plain_facts}
use Rattle.qcow2_session.specs.Commands.Printing.{Prints}
use Rattle.qcow2_session.specs.Commands.Words.{Word, WordList, all_values, word_number}
use Rattle.qcow2_session.specs.declared.commands.Command.{Command}
use Rattle.qcow2_session.specs.declared.commands.Command.TheVariants as command
use Rattle.qcow2_session.specs.declared.commands.refcount.CountedCluster.{CountedCluster}

-- the host cluster that a word says, if it says one
abbrev pub cluster_of_word : Word → Option HostCluster
cluster_of_word word = option_map (λ number. record { 0 = number }) (word_number word)

-- the command `refcount` that the words after its image ask for: there is at least one
abbrev pub refcount_command : WordList → Option Command
refcount_command [] = None
refcount_command (word ∷ words) = option_map command.Refcount (all_values cluster_of_word (word ∷ words))

-- the line of a cluster and its counter
abbrev pub counted_cluster_line : CountedCluster → List ℕ
counted_cluster_line counted = decimal counted.cluster.0 ++ codes " " ++ decimal counted.counter ++ codes "\n"

-- a cluster with its counter, by an image's header and refcount table
abbrev pub with_counter : HeaderRecord → List ℕ → Image → HostCluster → CountedCluster
with_counter header reftable image cluster = record {
  cluster = cluster;
  counter = counter_of header reftable image cluster.0;
}

-- clusters with their counters, in an image with this header, or why its refcount table can't be loaded
abbrev pub counted_clusters : HeaderRecord → List HostCluster → Image → Result (List CountedCluster) Fault
counted_clusters header clusters image =
    result_map (λ reftable. map (with_counter header reftable image) clusters) (placed_reftable header image)

-- the lines of the command `refcount`: each cluster with its counter
abbrev pub counter_lines : HeaderRecord → List HostCluster → Image → Result (List ℕ) Fault
counter_lines header clusters image = result_map (flat_map counted_cluster_line) (counted_clusters header clusters image)

-- the facts of the command `refcount` of clusters
abbrev pub refcount_facts : List HostCluster → CommandFacts
refcount_facts clusters = record (plain_facts (λ O header run. Prints run (counter_lines header clusters))) { accepts = each_feature }
