use Rattle.std.proofs.Common.{rules}
use Rattle.std.proofs.lemmas.Nat.{pow_pos}
use Rattle.qcow2_apply.proofs.EditsByTableLemmas.{fits-range, has_of_tables}
use Rattle.qcow2_apply.proofs.guest_edits.GuestEdit.tables.Goals as goal

pub returns : goal.returns
returns c = λ i. has_of_tables c.args.header.now.v2.cluster_bits i c.l1_index.result c.div_ceil.result c.args.self.now (pow_pos _)
    (fits-range c.args.header.now c.args.self.now c.requires.fits) (search rules) (search rules)
