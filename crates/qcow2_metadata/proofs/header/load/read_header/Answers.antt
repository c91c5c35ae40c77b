use Rattle.std.proofs.Common.{rules, inl, inr, ◌∙◌}
use Rattle.std.proofs.lemmas.Result.{err_from_is_err_and}
use Rattle.qcow2_metadata.specs.Header.Grammar.{accepted_header, fixed_parts, header_with_parts}
use Rattle.qcow2_metadata.proofs.LoadLemmas.{first-fault}
use Rattle.qcow2_metadata.proofs.header.load.read_header.Goals as goal

pub returns-in_err-v2-clause-reads : goal.returns-in_err-v2-clause-reads
unfolding accepted_header
returns-in_err-v2-clause-reads g c =
    let image = (g.S.Storage.state c.args.image.now).byte_at in
    let exit = err_from_is_err_and c.from_residual.result c.from_residual.ensures.1 in
    let read = c.in_err-v2.ensures.reads in
    rw (exit.1, exit.2) (record {
      exact = λ told. first-fault (fixed_parts image) (header_with_parts c.args.accepted image) c.in_err-v2.field-0.0 (read.exact told);
      faults = read.faults;
      storage = search rules;
    })

pub returns-clause-reads : goal.returns-clause-reads
unfolding accepted_header
returns-clause-reads g c =
    let first = c.in_ok-v2.ensures.reads in
    let rest = rw c.new-ahead.ensures.image at c.read_other_parts.ensures.reads.reads in
    record {
      exact = λ told. rw (first.exact told) (rw first.storage.bytes at (rest.exact (first.storage.device.tells ∙ told)));
      faults = rest.faults;
      storage = search rules;
    }
