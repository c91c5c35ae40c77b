use Rattle.std.proofs.Common.{◌∙◌, rules}
use Rattle.qcow2_check.proofs.FlagsLemmas.{no_flags}
use Rattle.qcow2_check.proofs.flags.marks.has_right_flags.Goals as goal

pub loop-index-preserved : goal.loop-index-preserved
loop-index-preserved c =
    let so_far = c.loop-index.invariant in
    let table = c.args.table.now in
    let group = c.starts_right.ensures (search rules) in
    record {
      within = group.0;
      left = λ counter l1_index soles. so_far.left counter l1_index soles
          ∙ no_flags table.geometry c.args.soles.now counter l1_index table.numbers c.loop-index.index 16 group.0 soles group.1;
    }
