use Rattle.std.proofs.Common.{ap, refl, ◌∙◌}
use Rattle.qcow2_metadata.specs.Header.{HeaderRecord}
use Rattle.qcow2_metadata.specs.Table.{l2_entries}
use Rattle.qcow2_bytes.proofs.EditLemmas.{first_table}
use Rattle.qcow2_bytes.proofs.HeaderLemmas.{image-begin}
use Rattle.qcow2_bytes.proofs.tables.edit.load_table.Goals as goal

pub returns-in-Ok-clause-numbers : goal.returns-in-Ok-clause-numbers
returns-in-Ok-clause-numbers c =
    let header = c.in_ok-header.header in
    let entries = c.l2_entries.ensures.value ∙ ap (λ (h : HeaderRecord). l2_entries h.v2.cluster_bits) c.in_ok-header.ensures.record in
    c.in-Ok.ensures.loaded.numbers refl
    ∙ first_table _ c.args.bytes.now header.v2.cluster_bits _ _ (c.new-image.ensures.bytes ∙ image-begin c.args.bytes.now) entries
