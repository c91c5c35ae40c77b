use Rattle.std.proofs.Common.{◌≡◌, ◌∙◌, ◌/◌, rules}
use Rattle.qcow2_check.specs.Counters.{counter_of, unused_counter}
use Rattle.qcow2_check.proofs.FindingsLemmas.{found_is, where_unused, where_used}
use Rattle.qcow2_check.proofs.findings.Findings.look_at.Goals as goal
use Rattle.qcow2_check.proofs.findings.Findings.look_at.Goals.{then-count_of-eq0+in_ok-counter, else-count_of-eq0+in_ok-counter-2}

pub returns-clause-found : goal.returns-clause-found
returns-clause-found g c = λ told.
    let reader = c.args.self.now in
    let image = (g.S.Storage.state c.args.image.now).byte_at in
    let cell = c.cell-cell.result in
    let unused = unused_counter reader.header reader.counters.reftable image c.args.cluster in
    let other = counter_of reader.header reader.counters.reftable image c.args.cluster in
    rw (c.is_shared.ensures, c.count_of-2.ensures) (found_is reader c.unwrap.result.now image c.args.cluster c.if-count_of-eq0.counter cell
    (search rules) (c.requires.reader told) (search rules) (search rules) (elim c.if-count_of-eq0.branch [
      | then-count_of-eq0+in_ok-counter w ↦
          let here : w.in_ok-counter.counter ≡ unused = search rules in
          where_unused (cell / 8) unused other c.if-count_of-eq0.counter (search rules) (w.counter-is ∙ here)
      | else-count_of-eq0+in_ok-counter-2 w ↦
          let here : w.in_ok-counter-2.counter ≡ other = search rules in
          where_used (cell / 8) unused other c.if-count_of-eq0.counter (search rules) (w.counter-is ∙ here)
    ]) c.cell-cell.ensures)
