use Rattle.std.proofs.Common.{◌≡◌, ℕ, List, [], ◌++◌, append_assoc, append-nil, codes}
use Rattle.qcow2_session.specs.Commands.Info.{place_line}
use Rattle.qcow2_session.proofs.commands.info.places.Goals as goal

four : (a b c d : List ℕ) → a ++ (b ++ (c ++ (d ++ []))) ≡ a ++ b ++ c ++ d
four a b c d = simp (append_assoc, append-nil)

pub returns : goal.returns
returns c =
    let v2 = c.args.header.now.v2 in
    rw (c.prepend-2.ensures, c.prepend_place-2.ensures.text, c.prepend.ensures, c.prepend_place.ensures.text, c.new-line.ensures, c.l1_table_offset.ensures, c.l1_table_entries.ensures.value, c.reftable_offset.ensures, c.reftable_clusters.ensures.value)
    (four (codes "l1 ") (place_line v2.l1_table_offset v2.l1_size) (codes "refcount-table ") (place_line v2.refcount_table_offset v2.refcount_table_clusters))
