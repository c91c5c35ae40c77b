use Rattle.std.proofs.Common.{rules}
use Rattle.qcow2_buffered.proofs.PagesLemmas.{empty_page, pages_more}
use Rattle.qcow2_buffered.proofs.new_pages.Goals as goal

pub loop-preserved : goal.loop-preserved
loop-preserved c = λ state.
    pages_more c.args.size state _ _ c.in_ok-new.field-0 (search rules) (empty_page c.args.size state _ (search rules) (search rules)) (c.loop.invariant state)
