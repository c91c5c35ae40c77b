use Rattle.qcow2_session.proofs.RunningOnFilesLemmas.{maps-compared}
use Rattle.qcow2_session.proofs.commands.running.compare_with_end.Goals as goal

pub returns-in-Apply-clause-compares : goal.returns-in-Apply-clause-compares
returns-in-Apply-clause-compares g c =
    let compared = rw c.as_slice.ensures at c.refuse_maps_past_end.ensures in
    rw c.in-Apply.is (maps-compared c.in-Apply.form _ c.args.header.now _ c.refuse_maps_past_end.result compared.refusal compared.known)
