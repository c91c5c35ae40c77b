use Rattle.std.proofs.Common.{subst}
use Rattle.std.proofs.lemmas.Result.{err_from_is_err_and}
use Rattle.qcow2_metadata.specs.Header.{HeaderRecord}
use Rattle.qcow2_check.proofs.FailuresLemmas.{refuses-as, unmoved}
use Rattle.qcow2_repair.proofs.EndLemmas.{refused-past-end}
use Rattle.qcow2_repair.specs.Repair.{RepairsImage}
use Rattle.qcow2_repair.proofs.repair.repair_image.Goals as goal

pub returns-in_err-refuse_past_end : goal.returns-in_err-refuse_past_end
returns-in_err-refuse_past_end g c =
    let exit = err_from_is_err_and c.from_residual.result c.from_residual.ensures.1 in
    let reads = c.in_err-refuse_past_end.ensures.reads in
    rw (exit.1, exit.2) (record {
      repairs = refused-past-end c.args.header c.in_err-refuse_past_end.field-0.0 _ _ reads;
      end = λ told. refuses-as HeaderRecord _ c.in_err-refuse_past_end.field-0.0 (reads.exact told);
    })

pub returns : goal.returns
returns g c =
    let reads = c.in_ok-refuse_past_end.ensures.reads in
    let same = unmoved _ _ _ reads.storage in
    record {
      repairs = subst (λ state. RepairsImage c.args.header c.repair_whole.result state (g.S.Storage.state c.repair_whole.new.image)) same c.repair_whole.ensures;
      end = λ told. rw (reads.exact told) tt;
    }
