use Rattle.std.proofs.lemmas.Result.{err_from_is_err_and}
use Rattle.qcow2_repair.proofs.EndLemmas.{marks-cleared, marks-kept, marks-torn, passes-failed}
use Rattle.qcow2_repair.proofs.repair.repair_whole.Goals as goal
use Rattle.qcow2_repair.proofs.repair.repair_whole.Goals.{else-leaves_nothing, then-leaves_nothing+in_ok-clear_marks}

pub returns-in_err-header : goal.returns-in_err-header
returns-in_err-header g c =
    let exit = err_from_is_err_and c.from_residual.result c.from_residual.ensures.1 in
    rw (exit.1, exit.2) (passes-failed c.args.header _ _ _ c.in_err-header.ensures)

pub returns-in_err-clear_marks : goal.returns-in_err-clear_marks
returns-in_err-clear_marks g c =
    let exit = err_from_is_err_and c.from_residual-in_err-clear_marks.result c.from_residual-in_err-clear_marks.ensures.1 in
    let torn = c.in_err-clear_marks.ensures in
    rw (exit.1, exit.2) (marks-torn c.args.header c.in_ok-header.header _ _ _ _ (rw c.if-leaves_nothing.true at c.in_ok-header.ensures)
    torn.marks torn.fault torn.storage)

pub returns : goal.returns
returns g c = elim c.if-leaves_nothing.branch [
  | then-leaves_nothing+in_ok-clear_marks w ↦
      let cleared = w.in_ok-clear_marks.ensures in
      rw (w.header-is, w.image-is) (marks-cleared c.args.header c.in_ok-header.header _ _ _ _ (rw w.if-leaves_nothing.true at c.in_ok-header.ensures)
      cleared.marks cleared.storage)
  | else-leaves_nothing w ↦
      rw (w.header-is, w.image-is) (marks-kept c.args.header c.in_ok-header.header _ _ (rw w.if-leaves_nothing.false at c.in_ok-header.ensures))
]
