use Rattle.std.proofs.Common.{ap}
use Rattle.qcow2_metadata.specs.Entries.L2Mapping.{meaning}
use Rattle.qcow2_image.proofs.BlankTablesLemmas.{blank_run}
use Rattle.qcow2_image.proofs.blank_tables.is_blank.Goals as goal

pub returns-in-Ok-Backing : goal.returns-in-Ok-Backing
returns-in-Ok-Backing c = λ whole.
    blank_run c.args.table.now c.run_length.result.0 c.entries.result _ (meaning c.in-Ok-Backing.field-0) c.in-Ok-Backing.ensures.mapping (ap meaning c.in-Ok-Backing.field-0-is)
    c.run_length.ensures whole c.entries.ensures.count c.requires
