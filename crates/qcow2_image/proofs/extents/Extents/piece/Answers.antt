use Rattle.std.proofs.Common.{◌≡◌, Some, ap, sym}
use Rattle.qcow2_metadata.specs.Header.{Geometry, geometry_of}
use Rattle.qcow2_image.proofs.ExtentsLemmas.{ok_and_then, piece_in_image}
use Rattle.qcow2_image.proofs.extents.Extents.piece.Goals as goal

pub returns-clause-told : goal.returns-clause-told
returns-clause-told g c = λ told.
    let reader = c.self.inside in
    let table = c.unwrap.result.now in
    let is : c.keep_table.new.kept ≡ Some table = sym (rw c.unwrap.ensures at c.as_mut.ensures.value) in
    let geometry = (rw is at c.in_ok-keep_table.ensures.kept).1 in
    let bits : reader.l1_table.geometry.cluster_bits ≡ reader.header.now.v2.cluster_bits = ap (λ (geometry : Geometry). geometry.cluster_bits) c.self.invariant.0 in
    let named = rw (bits, c.cluster-guest_cluster.ensures, c.cluster_bits-cluster_bits.ensures.value) at (sym c.in-Some.ensures.value) in
    rw (← c.self.view_is) (ok_and_then _ _ _ c.piece_of_table.result c.piece_of_table.ensures.piece (λ piece holds.
    piece_in_image (geometry_of reader.header.now) reader.l1_table.numbers (g.S.Storage.state c.args.image.now).byte_at reader.header.now.v2.size
    c.args.from table c.in-Some.cluster piece geometry named (rw is at (c.in_ok-keep_table.ensures.reads.exact told))
    (rw c.size-size.ensures at holds.0) (rw geometry at holds.1)))
