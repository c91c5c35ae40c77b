use Rattle.qcow2_metadata.proofs.CopiedLemmas.{l1_fault-with_copied, offset_field-with_copied}
use Rattle.qcow2_metadata.proofs.laws.the_flag_of_an_l1_entry_names_no_table.Goals as goal

pub returns : goal.returns
returns c = λ cluster_bits entry copied. (offset_field-with_copied copied entry, l1_fault-with_copied copied cluster_bits entry)
