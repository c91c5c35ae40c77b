use Rattle.std.proofs.Common.{◌≡◌, ap, rules}
use Rattle.qcow2_summary.specs.ImageEnd.{most_clusters}
use Rattle.qcow2_layout.proofs.LayoutLemmas.{used-run}
use Rattle.qcow2_layout.specs.Layout.{LayoutState}
use Rattle.qcow2_layout.proofs.layout.Layout.used_run.Goals as goal

pub returns-then-end-most_clusters-clause-run : goal.returns-then-end-most_clusters-clause-run
returns-then-end-most_clusters-clause-run c = λ image reads.
    let reader = c.args.self.now in
    let window = c.unwrap-window.result.now in
    let start : c.self.inside.position ≡ reader.position = ap (λ (state : LayoutState). state.position) c.self.view_is in
    let bits : c.cluster_bits.result ≡ reader.header.v2.cluster_bits = search rules in
    let part = rw (c.cell.ensures, start, bits) at c.in_ok-part.ensures in
    let run = rw start at c.run_end-end.ensures in
    used-run reader window image (most_clusters reader.header) reader.position c.run_end-end.result c.in_ok-part.part
    (search rules) reads (search rules) run.within.0 (search rules)
    (λ none. let empty = part.none.1 none in cc) part.some run.one (run.ends (search rules))
