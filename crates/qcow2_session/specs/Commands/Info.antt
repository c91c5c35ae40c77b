-- What does the command `info` print?
use Rattle.std.specs.Prelude.{◌≡◌, ℕ, if◌then◌else◌, List, ◌++◌, length, Option, Some, None, codes}
use Rattle.std.specs.Fmt.{decimal}
use Rattle.qcow2_metadata.specs.Header.{HeaderRecord, first_by, uses_external_data}
use Rattle.qcow2_metadata.specs.Header.Extensions.{name_in}
use Rattle.qcow2_metadata.specs.declared.header.extensions.HeaderExtensionType.TheVariants as kind
use Rattle.qcow2_session.specs.Commands.Facts.{CommandFacts, plain_facts}
use Rattle.qcow2_session.specs.Commands.Printing.{PrintsText}
use Rattle.qcow2_session.specs.Lines.{offset_text}

-- the lines of the version, and of the sizes of clusters, the guest's disk and refcounts
abbrev pub size_lines : HeaderRecord → List ℕ
size_lines header = codes "version " ++ decimal header.v2.version ++ codes "\ncluster-bits " ++ decimal header.v2.cluster_bits
    ++ codes "\nsize " ++ decimal header.v2.size ++ codes "\nrefcount-order " ++ decimal header.base.refcount_order ++ codes "\n"

-- where a table lies, to the end of its line: the offset, and how many L1 entries or clusters it has
abbrev pub place_line : ℕ → ℕ → List ℕ
place_line offset count = offset_text offset ++ codes " " ++ decimal count ++ codes "\n"

-- the lines of where the tables lie
abbrev pub place_lines : HeaderRecord → List ℕ
place_lines header = codes "l1 " ++ place_line header.v2.l1_table_offset header.v2.l1_size
    ++ codes "refcount-table " ++ place_line header.v2.refcount_table_offset header.v2.refcount_table_clusters

-- the line of a name: its label, how many bytes it has, and these, or `none`
abbrev pub name_line : List ℕ → Option (List ℕ) → List ℕ
name_line label None = label ++ codes " none\n"
name_line label (Some name) = label ++ (codes " " ++ decimal (length name) ++ codes " " ++ name ++ codes "\n")

-- the line of whether there is an external data file
abbrev pub external_line : HeaderRecord → List ℕ
external_line header = if uses_external_data header then codes "external yes\n" else codes "external no\n"

-- what a header says, in lines
abbrev pub info_lines : HeaderRecord → List ℕ
info_lines header = size_lines header ++ place_lines header ++ name_line (codes "backing") header.backing_filename
    ++ name_line (codes "format") (first_by (name_in kind.BackingFileFormat) header.extensions) ++ external_line header
    ++ name_line (codes "data-file") (first_by (name_in kind.ExternalDataFileName) header.extensions)

-- the facts of the command `info`
abbrev pub info_facts : CommandFacts
info_facts = plain_facts (λ O header run. (run.new ≡ run.old)
    × PrintsText run.answer (run.contents run.before) (run.contents run.after) (info_lines header))
