use Rattle.qcow2_metadata.specs.Header.{geometry_of}
use Rattle.qcow2_check.proofs.NamedTablesLemmas.{content_fault}
use Rattle.qcow2_check.proofs.named_tables.load_l2_table.Goals as goal

pub returns-clause-in_image : goal.returns-clause-in_image
returns-clause-in_image g c = λ within.
    content_fault (geometry_of c.args.header.now) c.args.cluster c.load.result within (rw c.l2_entries.ensures.value at c.load.ensures.reads.faults)
