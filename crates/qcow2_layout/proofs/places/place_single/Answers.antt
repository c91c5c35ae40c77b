use Rattle.std.proofs.Common.{◌≡◌, ◌+◌, ◌-◌, ◌*◌, ◌<◌, ◌^◌, ap, subst, ◌∙◌, rules, arith}
use Rattle.qcow2_metadata.specs.Table.{l2_entries}
use Rattle.qcow2_check.proofs.SinkLemmas.{takes_next}
use Rattle.qcow2_check.proofs.UsesLemmas.{guest_fits}
use Rattle.qcow2_check.specs.Walk.{entry_list}
use Rattle.qcow2_layout.proofs.PlacesLemmas.{single_placed}
use Rattle.qcow2_layout.proofs.WindowLemmas.{places_then}
use Rattle.qcow2_layout.specs.Window.{PlacesMore}
use Rattle.qcow2_layout.proofs.places.place_single.Goals as goal

pub from_l1_l2_indices-guest-requires-clause-fits : goal.from_l1_l2_indices-guest-requires-clause-fits
from_l1_l2_indices-guest-requires-clause-fits c =
    let cb = c.args.cluster_bits in
    let within : c.args.index < 2 ^ (cb - 3) = search rules in
    omega (arith, guest_fits cb c.args.l1_index c.args.index (search rules) c.requires.l1_index within)

pub put_guest_if-requires : goal.put_guest_if-requires
put_guest_if-requires c =
    let cb = c.args.cluster_bits in
    let within : c.args.index < 2 ^ (cb - 3) = search rules in
    omega (arith, c.from_l1_l2_indices-guest.ensures.value, guest_fits cb c.args.l1_index c.args.index (search rules) c.requires.l1_index within)

pub returns-clause-taken : goal.returns-clause-taken
returns-clause-taken c = λ placed start before.
    let g = c.args.table.now.geometry in
    let numbers = c.args.table.now.numbers in
    let place = c.args.l1_index * l2_entries g.cluster_bits in
    let window = c.args.window.now in
    let entry = c.entry_at-entry.result in
    let bits = c.requires.cluster_bits in
    let guest : c.from_l1_l2_indices-guest.result.0 ≡ place + c.args.index =
    c.from_l1_l2_indices-guest.ensures.value ∙ ap (λ n. c.args.l1_index * 2 ^ (n - 3) + c.args.index) bits in
    let bounds = rw bits at c.cluster_bounds-first.ensures in
    let puts = rw (c.is_compressed.ensures, guest) at (c.put_guest_if.ensures.placed placed) in
    let single = single_placed g (place + c.args.index) entry c.cluster_bounds-first.result.0 c.cluster_bounds-first.result.1 c.refers.result
    window c.put_guest_if.new.self (search rules) c.if-first-last.false (c.refers.ensures g.cluster_bits) bounds puts c.put_guest_if.ensures.unused in
    takes_next PlacesMore places_then (entry_list g) place numbers c.args.index start window c.put_guest_if.new.self
    c.requires.index before (subst (λ v. PlacesMore (entry_list g (place + c.args.index) v) window c.put_guest_if.new.self) c.entry_at-entry.ensures.number single)
