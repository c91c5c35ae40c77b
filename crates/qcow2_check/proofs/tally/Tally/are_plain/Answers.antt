use Rattle.std.proofs.Common.{◌≡◌, ◌-◌, length, refl, arith, ap}
use Rattle.qcow2_check.proofs.TallyLemmas.{plain_dense}
use Rattle.qcow2_check.specs.Tally.{TallyState}
use Rattle.qcow2_check.specs.Tally.Cells.{kept_cells}
use Rattle.qcow2_check.proofs.tally.Tally.are_plain.Goals as goal

pub returns : goal.returns
returns c = λ plain.
    let first : c.self.inside.first ≡ c.args.self.now.first = ap (λ (tally : TallyState). tally.first) c.self.view_is in
    let dense : kept_cells c.self.inside.dense ≡ c.args.self.now.dense = ap (λ (tally : TallyState). tally.dense) c.self.view_is in
    let len : c.len-len.result ≡ length c.args.self.now.dense = rw dense at c.len-len.ensures in
    let start = rw (first, len) at c.if-index-len.false in
    let room = rw (first, len) at c.if-counters-len.false in
    plain_dense c.args.self.now c.args.counters.now c.args.first (c.args.first - c.args.self.now.first) c.requires refl
    (omega (arith, start, room)) (rw (first, dense) at (c.are_plain.ensures plain))
