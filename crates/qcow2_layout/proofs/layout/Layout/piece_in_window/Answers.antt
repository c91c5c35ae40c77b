use Rattle.std.proofs.Common.{◌≡◌, ◌∙◌, sym, rules, arith}
use Rattle.qcow2_layout.proofs.LayoutLemmas.{counted-piece, free-piece, used-stretch}
use Rattle.qcow2_layout.specs.Layout.{IsLayoutOf}
use Rattle.qcow2_layout.proofs.layout.Layout.piece_in_window.Goals as goal

pub returns-in-Some-clause-piece : goal.returns-in-Some-clause-piece
returns-in-Some-clause-piece g c = λ told.
    let window = c.unwrap-window.result.now in
    let within = c.run_end.ensures.within in
    let cell = c.cell.ensures in
    let bits : c.cluster_bits.result ≡ c.args.self.now.header.v2.cluster_bits = search rules in
    let part = rw (cell, bits) at c.in-Some.ensures in
    used-stretch c.args.self.now window (g.S.Storage.state c.args.image.now).byte_at c.args.from c.min-end.result c.in-Some.part
    (search rules) (c.requires.reader told) (search rules) (search rules) (omega (arith, c.min-end.ensures, within))
    (λ none. let empty = part.none.1 none in cc) part.some
    (λ k below. c.run_end.ensures.one k (omega (arith, below, c.min-end.ensures)))

pub returns-then-counter-ne0-clause-piece : goal.returns-then-counter-ne0-clause-piece
returns-then-counter-ne0-clause-piece g c = λ told.
    let none = sym c.cell.ensures ∙ c.of_cell.ensures.none.0 c.in_default.is in
    counted-piece c.args.self.now c.unwrap-window.result.now (g.S.Storage.state c.args.image.now).byte_at c.args.from c.in_ok-counter.counter c.unused.result
    (search rules) (c.requires.reader told) (search rules) (search rules) none
    (search rules) c.unused.ensures

pub returns-clause-piece : goal.returns-clause-piece
returns-clause-piece g c = λ told.
    let reader = c.args.self.now in
    let counters = c.get_unused.new.self in
    let image = (g.S.Storage.state c.args.image.now).byte_at in
    let header : counters.header ≡ reader.header = search rules in
    let reftable : counters.reftable ≡ reader.counters.reftable = search rules in
    let is : IsLayoutOf image (record reader { counters = counters }) = record {
      kept = rw header at (c.in_ok-counter.ensures.reader.kept told);
      placed = search rules;
      loads = search rules;
    } in
    let free = rw (header, reftable) at (c.free_end.ensures.free image (search rules)) in
    let none = sym c.cell.ensures ∙ c.of_cell.ensures.none.0 c.in_default.is in
    free-piece reader c.unwrap-window.result.now image c.args.from c.free_end.result
    (search rules) (c.requires.reader told) (search rules) (search rules) (search rules)
    none (search rules) (search rules) free
