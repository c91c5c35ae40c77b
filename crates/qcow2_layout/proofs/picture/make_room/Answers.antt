use Rattle.std.proofs.Common.{arith}
use Rattle.qcow2_layout.proofs.PictureLemmas.{scale-grows, squares-doubled}
use Rattle.qcow2_layout.proofs.picture.make_room.Goals as goal

pub returns-clause-painted : goal.returns-clause-painted
returns-clause-painted c = λ shades have.
    squares-doubled shades c.args.end c.args.scale c.args.squares.now c.merge_pairs.new.squares c.clear_second_half.new.squares (omega (arith, c.requires.scale.reaches))
    c.merge_pairs.ensures.merged c.clear_second_half.ensures.others c.clear_second_half.ensures.cleared have

pub returns-clause-scale : goal.returns-clause-scale
returns-clause-scale c = scale-grows c.args.end c.args.scale c.requires.scale (omega arith)
