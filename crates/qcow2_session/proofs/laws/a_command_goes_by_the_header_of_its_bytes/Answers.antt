use Rattle.qcow2_session.proofs.RunningLemmas.{header-by-bytes}
use Rattle.qcow2_session.specs.Commands.{facts_of}
use Rattle.qcow2_session.proofs.laws.a_command_goes_by_the_header_of_its_bytes.Goals as goal

pub returns : goal.returns
returns c = λ command found old left finds none known. header-by-bytes (facts_of command) found old left finds none known
