use Rattle.std.proofs.Common.{arith}
use Rattle.qcow2_session.proofs.CommandsLemmas.{IfSome-follows, own-refused}
use Rattle.qcow2_session.proofs.RunningLemmas.{answer-flushed}
use Rattle.qcow2_session.proofs.commands.running.run_and_flush.Goals as goal

pub returns-clause-ends : goal.returns-clause-ends
returns-clause-ends g c = (
  c.run_with-ran.result,
  _,
  record {
    ends = c.run_with-ran.ensures.ends;
    unchanged = c.run_with-ran.ensures.unchanged;
    at_once = c.run_with-ran.ensures.at_once;
  },
  c.flush.ensures.bytes,
  answer-flushed c.run_with-ran.result _ c.flush.result c.after_flush.ensures.own c.after_flush.ensures.flush,
)

pub returns-clause-place : goal.returns-clause-place
returns-clause-place g c = grind (arith, IfSome-follows, own-refused)
