use Rattle.std.proofs.Common.{map, arith}
use Rattle.qcow2_edits.proofs.EditsLemmas.{all_fit}
use Rattle.qcow2_edits.proofs.SettledLemmas.{after-refusal, stays-covered}
use Rattle.qcow2_edits.specs.Edits.{table_edit, table_left}
use Rattle.qcow2_edits.specs.Settled.{CoversReferences, block_or_refusal, first_counted, first_refusal}
use Rattle.qcow2_edits.proofs.laws.covered_references_stay_covered.Goals as goal
use Rattle.qcow2_metadata.proofs.L2GuardsLemmas.{balance-run}
use Rattle.qcow2_metadata.specs.Refblock.{BlockState}
use Rattle.qcow2_metadata.specs.Table.L2Guards.{run_of}

pub returns : goal.returns
returns c = λ header table block rt_index edits bits covers.
    let first = first_counted block rt_index in
    let end = run_of table.geometry (map table_edit edits) table.numbers in
    after-refusal (λ done. CoversReferences first done.1 done.0) _ (λ (settled : BlockState). (table_left edits table end.numbers, settled, end.freed, end.gained))
    (first_refusal header table edits) (block_or_refusal block first end.freed end.gained)
    (λ none. stays-covered table.geometry table.numbers end.numbers end.freed end.gained first block
    (λ c. balance-run table.geometry (map table_edit edits) table.numbers c bits (all_fit table edits (grind (arith, none)))) covers)
    (λ is. grind (arith, is))
