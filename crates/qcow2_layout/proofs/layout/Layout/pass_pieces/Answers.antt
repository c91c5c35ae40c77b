use Rattle.std.proofs.Common.{◌≡◌, ℕ, ◌-◌, ◌*◌, ◌^◌, ◌∙◌, ap, rules, arith}
use Rattle.qcow2_base.specs.Storage.{Image}
use Rattle.qcow2_check.proofs.FindingsLemmas.{reads_twice}
use Rattle.qcow2_summary.specs.ImageEnd.{most_clusters}
use Rattle.qcow2_check.specs.Uses.{ImageTables}
use Rattle.qcow2_layout.proofs.LayoutLemmas.{moves-twice, pieces-join, run-that-ends, same-tables}
use Rattle.qcow2_layout.specs.Layout.{IsStretch, LayoutState, parts_for}
use Rattle.qcow2_layout.specs.Parts.{part_at}
use Rattle.qcow2_layout.specs.declared.parts.Part.{Part}
use Rattle.qcow2_layout.proofs.layout.Layout.pass_pieces.Goals as goal

pub returns-then-not-goes_on_as-clause-run : goal.returns-then-not-goes_on_as-clause-run
returns-then-not-goes_on_as-clause-run g c = λ told.
    let kept = c.loop-end.invariant in
    let first = c.args.self.now in
    let old = g.S.Storage.state c.args.image.now in
    let position : c.self.inside.position ≡ first.position = ap (λ (reader : LayoutState). reader.position) c.self.view_is in
    let bits : c.cluster_bits-cluster_bits.result ≡ first.header.v2.cluster_bits =
    c.cluster_bits-cluster_bits.ensures.value ∙ ap (λ (reader : LayoutState). reader.header.v2.cluster_bits) c.self.view_is in
    let size : c.byte_size-bytes.result ≡ (c.loop-end.end - first.position) * 2 ^ first.header.v2.cluster_bits =
    rw (position, bits) at c.byte_size-bytes.ensures in
    let piece = same-tables c.loop-end.end
    (λ (tables : ImageTables) (image : Image). IsStretch tables.header.v2.cluster_bits (part_at tables image) c.loop-end.end (c.in_ok-next.next, c.in_ok-next.next_end))
    old (g.S.Storage.state c.loop-end.image) first c.loop-end.self kept.storage kept.reader c.in_ok-next.ensures.piece told in
    run-that-ends first.header.v2.cluster_bits (parts_for first old.byte_at) (most_clusters first.header) first.position c.loop-end.end c.in_ok-next.next_end
    c.byte_size-bytes.result c.in_ok-part.part c.in_ok-next.next kept.some (kept.one told) size piece (λ same. let yes = c.goes_on_as.ensures.1 same in cc)

pub loop-end-preserved : goal.loop-end-preserved
loop-end-preserved g c =
    let kept = c.loop-end.invariant in
    let first = c.args.self.now in
    let later = c.loop-end.self in
    let old = g.S.Storage.state c.args.image.now in
    let now = g.S.Storage.state c.loop-end.image in
    let more = c.in_ok-next.ensures.within in
    let position : c.self.inside.position ≡ first.position = ap (λ (reader : LayoutState). reader.position) c.self.view_is in
    let bits : c.cluster_bits-cluster_bits.result ≡ first.header.v2.cluster_bits =
    c.cluster_bits-cluster_bits.ensures.value ∙ ap (λ (reader : LayoutState). reader.header.v2.cluster_bits) c.self.view_is in
    let size : c.byte_size-bytes.result ≡ (c.loop-end.end - first.position) * 2 ^ first.header.v2.cluster_bits =
    rw (position, bits) at c.byte_size-bytes.ensures in
    record {
      start = kept.start;
      some = omega (arith, kept.some, more.0);
      within = omega (arith, more.1, ap (λ (reader : LayoutState). most_clusters reader.header) kept.reader.same);
      limit = kept.limit;
      one = λ told.
          let piece = same-tables c.loop-end.end
          (λ (tables : ImageTables) (image : Image). IsStretch tables.header.v2.cluster_bits (part_at tables image) c.loop-end.end (c.in_ok-next.next, c.in_ok-next.next_end))
          old now first later kept.storage kept.reader c.in_ok-next.ensures.piece told in
          pieces-join first.header.v2.cluster_bits (parts_for first old.byte_at) first.position c.loop-end.end c.in_ok-next.next_end
          c.byte_size-bytes.result c.in_ok-part.part c.in_ok-next.next kept.some more.0 (kept.one told) size (c.goes_on_as.ensures.0 c.if-not-goes_on_as.false) piece.1;
      reader = moves-twice c.loop-end.end old now first later c.piece-in-loop-end.new.self kept.storage kept.reader c.in_ok-next.ensures.reader.0;
      position = c.in_ok-next.ensures.reader.1 ∙ kept.position;
      storage = reads_twice {B = Part × ℕ} c.loop-end.end (c.in_ok-next.next, c.in_ok-next.next_end) c.in_ok-next.next_end old now (g.S.Storage.state c.piece-in-loop-end.new.image) kept.storage (search rules);
    }
