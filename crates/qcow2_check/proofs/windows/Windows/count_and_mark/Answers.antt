use Rattle.qcow2_check.proofs.FindingsLemmas.{counts_all}
use Rattle.qcow2_check.proofs.windows.Windows.count_and_mark.Goals as goal

pub returns-clause-counted : goal.returns-clause-counted
returns-clause-counted g c = λ told.
    counts_all c.args.tables.now (g.S.Storage.state c.args.image.now).byte_at
    c.in_ok-tally.tally c.count_image.new.tally c.in_ok-tally.ensures.begun.3 (c.in_ok-count_image.ensures.counted told)
