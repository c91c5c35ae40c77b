use Rattle.std.proofs.Common.{◌/◌, ◌<◌, arith, rules, subst, sym}
use Rattle.std.proofs.lemmas.Nat.{div_below}
use Rattle.qcow2_layout.proofs.PictureLemmas.{power_some, run-painted, scale-painted}
use Rattle.qcow2_layout.specs.Picture.{PictureState, Shows}
use Rattle.qcow2_layout.proofs.picture.Picture.paint_square.Goals as goal

pub invariant_of-self : goal.invariant_of-self
invariant_of-self c = (
  search rules,
  scale-painted c.self.inside.end c.min-end.result c.self.inside.scale c.make_room-scale.result c.self.invariant.1 c.make_room-scale.ensures.scale (search rules) (search rules),
  search rules,
)

pub returns-clause-painted : goal.returns-clause-painted
returns-clause-painted c = λ shades shown has.
    let grows = c.make_room-scale.ensures.scale in
    let some = power_some c.make_room-scale.result grows.power in
    let below : c.self.inside.end / c.make_room-scale.result < 4096 = div_below c.self.inside.end c.make_room-scale.result 4096 some (omega (arith, grows.room)) in
    rw (c.max.ensures, c.shade_of-shade.ensures, c.byte_size-bytes.ensures)
    (run-painted shades c.self.inside.size c.args.cluster_bits c.args.run.now c.self.inside.end c.min-end.result c.make_room-scale.result c.make_room-scale.new.squares
    (search rules) some
    (omega (arith, below, c.make_room-scale.ensures.count, c.self.invariant.0))
    (search rules) (search rules) (search rules) (search rules) (c.make_room-scale.ensures.painted shades
    (subst (λ (picture : PictureState). Shows shades picture) (sym c.self.view_is) shown)))
