use Rattle.std.proofs.Common.{◌≡◌, ◌-◌, ◌∙◌, ap, refl, sym, rules, arith}
use Rattle.qcow2_base.specs.Storage.{StorageState}
use Rattle.qcow2_summary.specs.ImageEnd.{most_clusters}
use Rattle.qcow2_layout.proofs.LayoutLemmas.{ends-by-limit, free-to-limit, run-of-image}
use Rattle.qcow2_layout.specs.Layout.{LayoutState, MovesLayout, layout_tables}
use Rattle.qcow2_layout.specs.declared.parts.Run.{Run}
use Rattle.qcow2_layout.proofs.layout.Layout.next.Goals as goal

-- a reader that moves has the same limit
same-limit : (image : StorageState) (old new : LayoutState) → MovesLayout image old new → most_clusters new.header ≡ most_clusters old.header
same-limit image old new moves = ap (λ (reader : LayoutState). most_clusters reader.header) moves.same

pub returns-then-start-most_clusters-clause-run : goal.returns-then-start-most_clusters-clause-run
returns-then-start-most_clusters-clause-run g c =
    let reader = c.args.self.now in
    let last : reader.position ≡ most_clusters reader.header = search rules in (
      omega arith,
      last,
      λ told. omega (arith, last, ends-by-limit (layout_tables reader) (g.S.Storage.state c.args.image.now).byte_at),
    )

pub returns-then-is_past_end-clause-run : goal.returns-then-is_past_end-clause-run
returns-then-is_past_end-clause-run g c =
    let reader = c.args.self.now in
    let to = c.pass_run.new.self in
    let free = c.is_past_end.ensures.0 c.if-is_past_end.true in
    let limit = same-limit (g.S.Storage.state c.args.image.now) reader to c.in_ok-part.ensures.reader in
    let last : to.position ≡ most_clusters reader.header = free.1 ∙ limit in (
      omega (arith, c.in_ok-part.ensures.further.0),
      last,
      λ told. free-to-limit (layout_tables reader) (g.S.Storage.state c.args.image.now).byte_at reader.header.v2.cluster_bits reader.position to.position
          c.in_ok-part.part (c.in_ok-part.ensures.run told).0 free.0 (omega (arith, last)),
    )

pub returns-clause-run : goal.returns-clause-run
returns-clause-run g c =
    let reader = c.args.self.now in
    let to = c.pass_run.new.self in
    let further = c.in_ok-part.ensures.further in
    let start : c.self.inside.position ≡ reader.position = ap (λ (state : LayoutState). state.position) c.self.view_is in
    let end : c.self-2.inside.position ≡ to.position = ap (λ (state : LayoutState). state.position) c.self-2.view_is in
    let limit = same-limit (g.S.Storage.state c.args.image.now) reader to c.in_ok-part.ensures.reader in
    let run : Run = record { first = record { 0 = reader.position }; count = to.position - reader.position; part = c.in_ok-part.part } in
    rw (start, end) (
      refl,
      omega (arith, further.0),
      omega (arith, further.0),
      further.1,
      λ told. run-of-image (layout_tables reader) (g.S.Storage.state c.args.image.now).byte_at reader.header.v2.cluster_bits reader.position to.position
          c.in_ok-part.part run (c.in_ok-part.ensures.run told) further.1
          (λ free last. let yes = c.is_past_end.ensures.1 (free, last ∙ sym limit) in cc) refl,
    )
