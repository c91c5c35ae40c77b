use Rattle.std.proofs.Common.{Some, ap, rules}
use Rattle.qcow2_layout.proofs.PartsLemmas.{data_part}
use Rattle.qcow2_layout.proofs.parts.Part.of_cell.Goals as goal

pub returns-in_default-clause-some : goal.returns-in_default-clause-some
returns-in_default-clause-some c = λ used owned is.
    ap Some (data_part c.args.cluster_bits c.args.cell used c.requires.1 (search rules) owned is)
