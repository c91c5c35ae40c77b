use Rattle.std.proofs.Common.{◌≡◌, ◌+◌, [], ◌∷◌, rules}
use Rattle.qcow2_check.proofs.SinkLemmas.{row_append}
use Rattle.qcow2_check.specs.Walk.{one_use, row_list}
use Rattle.qcow2_check.specs.declared.uses.UseKind.TheVariants.{Data}
use Rattle.qcow2_layout.proofs.WindowLemmas.{places_none, places_then}
use Rattle.qcow2_layout.proofs.places.place_each.Goals as goal

pub loop-k-init : goal.loop-k-init
loop-k-init c = places_none c.args.window.now

pub loop-k-preserved : goal.loop-k-preserved
loop-k-preserved c =
    let first = c.args.first in
    let guest = c.args.guest in
    let k = c.loop-k.k in
    rw (row_append first guest k)
    (places_then (row_list first guest k) (one_use Data (record { 0 = first + k }) 1 (guest + k) ∷ []) c.args.window.now c.loop-k.window c.put.new.self
    c.loop-k.invariant c.in_ok-put.ensures.placed)

pub returns-clause-placed : goal.returns-clause-placed
returns-clause-placed c =
    let all : c.loop-k.k ≡ 16 = search rules in
    rw all at c.loop-k.invariant
