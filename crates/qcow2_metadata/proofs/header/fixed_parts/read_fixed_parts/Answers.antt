use Rattle.std.proofs.Common.{◌≤◌, length, inr, rules}
use Rattle.std.proofs.lemmas.Result.{err_from_is_err_and}
use Rattle.qcow2_metadata.proofs.LoadLemmas.{fields_refused, parts_taken, version_refused}
use Rattle.qcow2_metadata.proofs.header.fixed_parts.read_fixed_parts.Goals as goal

pub returns-in_err-check_version-clause-reads : goal.returns-in_err-check_version-clause-reads
returns-in_err-check_version-clause-reads g c =
    let within : 72 ≤ length c.read_range.new.buffer = search rules in
    let exit = err_from_is_err_and c.from_residual-in_err-check_version.result c.from_residual-in_err-check_version.ensures.1 in
    rw (exit.1, exit.2) (record {
      exact = λ told. inr (inr (version_refused _ _ _ _ (c.in_ok-read_range.ensures.held told) within
          c.read_be-v2.ensures c.in_err-check_version.ensures.exact));
      faults = search rules;
      storage = search rules;
    })

pub returns-in_err-check_fields-clause-reads : goal.returns-in_err-check_fields-clause-reads
returns-in_err-check_fields-clause-reads g c =
    let within : 104 ≤ length c.read_range.new.buffer = search rules in
    let exit = err_from_is_err_and c.from_residual-in_err-check_fields.result c.from_residual-in_err-check_fields.ensures.1 in
    let first = c.in_ok-check_version.ensures in
    rw (exit.1, exit.2) (record {
      exact = λ told. inr (inr (fields_refused _ _ _ _ _ (c.in_ok-read_range.ensures.held told) within
          c.read_be-v2.ensures c.read_base-base.ensures first.version first.exact c.in_err-check_fields.ensures.exact));
      faults = search rules;
      storage = search rules;
    })

pub returns-clause-reads : goal.returns-clause-reads
returns-clause-reads g c =
    let within : 104 ≤ length c.read_range.new.buffer = search rules in
    let first = c.in_ok-check_version.ensures in
    record {
      exact = λ told. parts_taken _ _ _ _ (c.in_ok-read_range.ensures.held told) within
          c.read_be-v2.ensures c.read_base-base.ensures first.version first.exact c.in_ok-check_fields.ensures.exact;
      faults = tt;
      storage = search rules;
    }
