use Rattle.qcow2_metadata.proofs.GrammarLemmas.{accepted_header-is, is-accepted_header}
use Rattle.qcow2_metadata.proofs.laws.the_grammar_and_the_reader_agree.Goals as goal

pub returns : goal.returns
returns c = λ accepted image header. (accepted_header-is accepted image header, is-accepted_header accepted image header)
