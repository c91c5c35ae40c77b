use Rattle.qcow2_session.proofs.HarmLemmas.{no-harm-left}
use Rattle.qcow2_session.proofs.laws.edits_of_a_disk_leave_no_harm_where_there_was_none.Goals as goal

pub returns : goal.returns
returns c = no-harm-left
