use Rattle.std.proofs.Common.{◌+◌, rules}
use Rattle.qcow2_layout.proofs.ShadesLemmas.{far-eighth}
use Rattle.qcow2_layout.proofs.picture.eighth_of.Goals as goal

pub returns-in-None : goal.returns-in-None
returns-in-None c = far-eighth (c.args.offset + c.args.bytes) c.args.size (search rules) (search rules)
