use Rattle.std.proofs.Common.{◌∙◌, sym, arith}
use Rattle.qcow2_session.proofs.PrintingLemmas.{text_finished}
use Rattle.qcow2_session.proofs.commands.info.print_info.Goals as goal

pub returns : goal.returns
returns g c =
    let same = sym (c.print_header.ensures.goes_on.same ∙ c.new-out.ensures.same) in
    text_finished g.O.Write.contents _ _ c.new-out.result c.print_header.new.out _ _ c.new-out.ensures.writer (grind (arith, same)) c.print_header.ensures.text c.result.ensures
