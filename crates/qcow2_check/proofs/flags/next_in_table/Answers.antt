use Rattle.std.proofs.Common.{◌∙◌, arith, refl, rules}
use Rattle.qcow2_check.proofs.FlagsLemmas.{group_has_no_flags}
use Rattle.qcow2_check.proofs.flags.next_in_table.Goals as goal

pub loop-position-preserved-then-starts_right : goal.loop-position-preserved-then-starts_right
loop-position-preserved-then-starts_right g c =
    let so_far = c.loop-position.invariant in
    let group = c.if-starts_right.ensures refl in
    let same = group_has_no_flags c.args.table.now.geometry (g.S.Storage.state c.args.image.now) c.args.counters.now c.args.soles.now c.args.l1_index c.args.table.now.numbers c.loop-position.position 16 c.requires.soles group.0 group.1 in
    record {
      left = λ told. so_far.left told ∙ same told;
      further = omega (arith, so_far.further);
      reader = so_far.reader;
      storage = search rules;
    }
