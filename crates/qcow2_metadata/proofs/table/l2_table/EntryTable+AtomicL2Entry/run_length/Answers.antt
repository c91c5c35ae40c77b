use Rattle.std.proofs.Common.{◌≡◌, ◌∙◌, length, refl, sym, arith, map-id}
use Rattle.std.proofs.lemmas.Bool.Decides.{Decides-eqb}
use Rattle.qcow2_metadata.proofs.RunsLemmas.{pattern_fits, run_of_pattern}
use Rattle.qcow2_metadata.proofs.table.l2_table.EntryTable+AtomicL2Entry.run_length.Goals as goal

pub count-requires : goal.count-requires
count-requires c =
    let table = c.args.self.now in
    let bits = c.as_slice-entries.ensures.bits in
    let full = (Decides-eqb _ _).0 c.entries-end.ensures.valid.count in
    pattern_fits table.geometry.cluster_bits c.of-pattern.result.value c.of-pattern.result.step _ _ bits.1 (omega (arith, c.entries-end.ensures.count, full)) c.of-pattern.ensures.fits

pub returns : goal.returns
returns c =
    let table = c.args.self.now in
    let bits = c.as_slice-entries.ensures.bits in
    let table_valid = c.entries-end.ensures.valid in
    let full = (Decides-eqb _ _).0 table_valid.count in
    let cb = c.cluster_bits-cluster_bits.ensures.value in
    let external = c.external_data_file.ensures in
    let own = sym (map-id c.as_slice-entries.result.now) ∙ c.as_slice-entries.ensures.numbers in
    let end : c.entries-end.result ≡ length c.as_slice-entries.result.now = rw own c.entries-end.ensures.count in
    run_of_pattern table c.args.guest_cluster.0 c.count.result c.l2_index-index.result c.as_slice-entries.result.now _ c.of-pattern.result
    bits (rw cb at c.l2_index-index.ensures) full table_valid.entries.fits table_valid.entries.valid own (rw end refl)
    (λ k v a b far few fits valid. rw (cb, external, c.get.ensures.number) at (c.of-pattern.ensures.exact k v a b far few fits (rw cb valid)))
    c.count.ensures
