use Rattle.std.proofs.Common.{◌≡◌, ap, ◌∙◌}
use Rattle.std.specs.List.{fold}
use Rattle.qcow2_check.proofs.FileEndLemmas.{begun, found_missing}
use Rattle.qcow2_check.specs.FileEnd.{file_end_after}
use Rattle.qcow2_check.specs.Walk.{tables_list}
use Rattle.qcow2_check.specs.declared.file_end.FileEnd.{FileEnd}
use Rattle.qcow2_check.proofs.file_end.missing_table.Goals as goal

pub returns-clause-missing : goal.returns-clause-missing
returns-clause-missing c =
    let file = c.args.clusters.0 in
    let uses = tables_list c.args.tables.now in
    let begins : c.new-file.result ≡ begun file = c.new-file.ensures in
    let walked : c.walk_tables.new.sink ≡ fold file_end_after c.new-file.result uses = c.in_ok-walk_tables.ensures.taken in
    ap (λ (end : FileEnd). end.missing) (walked ∙ ap (λ (end : FileEnd). fold file_end_after end uses) begins) ∙ found_missing file uses
