use Rattle.std.proofs.Common.{◌≤◌, Ok, length, rules}
use Rattle.qcow2_base.specs.Format.{most_l1_entries}
use Rattle.qcow2_check.proofs.SinkLemmas.{took_after}
use Rattle.qcow2_check.specs.Walk.{tables_list, unrepeated_list}
use Rattle.qcow2_layout.proofs.UnrepeatedLemmas.{placed_once}
use Rattle.qcow2_layout.proofs.WindowLemmas.{places_then}
use Rattle.qcow2_layout.specs.Window.{PlacesMore}
use Rattle.qcow2_layout.proofs.places.place_image.Goals as goal

pub returns-clause-placed : goal.returns-clause-placed
returns-clause-placed g c =
    let tables = c.args.tables.now in
    let times = c.args.repeats.now in
    let image = g.S.Storage.state c.args.image.now in
    let small : tables.header.v2.cluster_bits ≤ 21 = search rules in
    let few : length tables.l1 ≤ most_l1_entries = search rules in
    placed_once tables times image c.args.window c.walk_guest_once.new.sink small few c.requires
    (took_after PlacesMore places_then (Ok tt) image (tables_list tables) (unrepeated_list tables times)
    c.args.window c.walk_tables.new.sink c.walk_guest_once.new.sink c.in_ok-walk_tables.ensures.taken c.in_ok-walk_guest_once.ensures.taken)
