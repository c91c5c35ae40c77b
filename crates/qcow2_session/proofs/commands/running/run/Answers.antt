use Rattle.qcow2_session.proofs.RunningLemmas.{last-with, runs-with}
use Rattle.qcow2_session.specs.Commands.{facts_of}
use Rattle.qcow2_session.proofs.commands.running.run.Goals as goal

pub returns-clause-runs : goal.returns-clause-runs
returns-clause-runs g c = runs-with (facts_of c.args.command.now) c.in_ok-header.header _ _ c.in_ok-header.ensures c.run_with.ensures.ends

pub returns-clause-at_once : goal.returns-clause-at_once
returns-clause-at_once g c = λ silent.
    last-with (facts_of c.args.command.now) c.in_ok-header.header _ _ c.in_ok-header.ensures (c.run_with.ensures.at_once silent)
