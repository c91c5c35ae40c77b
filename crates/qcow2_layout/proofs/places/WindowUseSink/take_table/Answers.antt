use Rattle.std.proofs.Common.{◌≤◌, length, refl, rules}
use Rattle.std.proofs.lemmas.List.{take_all}
use Rattle.qcow2_layout.proofs.WindowLemmas.{places_none}
use Rattle.qcow2_layout.proofs.places.WindowUseSink.take_table.Goals as goal

pub loop-index-init : goal.loop-index-init
loop-index-init c = record {
  within = search rules;
  all = search rules;
  bits = search rules;
  taken = places_none c.args.self.now;
}

pub loop-index-preserved-then-place_single : goal.loop-index-preserved-then-place_single
loop-index-preserved-then-place_single c = record {
  within = search rules;
  all = search rules;
  bits = search rules;
  taken = c.if-place_single.ensures.taken refl c.args.self.now c.loop-index.invariant.taken;
}

pub loop-index-preserved : goal.loop-index-preserved
loop-index-preserved c =
    let so_far = rw (← c.place_single.ensures.same c.if-place_single.false) at c.loop-index.invariant.taken in
    record {
      within = search rules;
      all = search rules;
      bits = search rules;
      taken = c.in_ok-index.ensures.taken c.args.self.now so_far;
    }

pub returns-clause-taken : goal.returns-clause-taken
returns-clause-taken c =
    let past : length c.args.table.now.numbers ≤ c.loop-index.index = search rules in
    rw (take_all c.loop-index.index c.args.table.now.numbers past) at c.loop-index.invariant.taken
