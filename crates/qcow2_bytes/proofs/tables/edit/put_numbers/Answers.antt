use Rattle.std.proofs.Common.{◌≡◌, ◌+◌, ◌*◌, ◌∙◌, add-zero, arith, below_more, inl, length}
use Rattle.std.proofs.lemmas.Bool.Decides.{nat_tests}
use Rattle.qcow2_base.specs.Storage.{image_of}
use Rattle.qcow2_base.proofs.StorageLemmas.{be_of_same}
use Rattle.qcow2_metadata.specs.Table.{l2_entries}
use Rattle.qcow2_bytes.proofs.EditLemmas.{all-stand}
use Rattle.qcow2_bytes.proofs.tables.edit.put_numbers.Goals as goal

pub loop-index-preserved : goal.loop-index-preserved
loop-index-preserved c = record {
  len = omega arith;
  written = below_more _ _
      (λ i below. be_of_same (image_of c.write_be.new.bytes) (image_of c.loop-index.bytes) 8 (8 * i) (8 * i)
      (λ k small. c.write_be.ensures.gaps (8 * i + k) (inl (omega arith), tt))
      ∙ c.loop-index.invariant.written i below)
      (simp add-zero at c.write_be.ensures.placed.0 ∙ c.to_plain.ensures ∙ c.get.ensures.number);
}

pub returns-clause-numbers : goal.returns-clause-numbers
returns-clause-numbers c =
    let numbers = c.args.table.now.numbers in
    let entries = c.entries-index-end.ensures in
    let count : l2_entries c.args.table.now.geometry.cluster_bits ≡ length numbers = grind (arith, nat_tests, entries.valid.count) in
    all-stand (image_of c.loop-index.bytes) numbers _ count
    (λ i below. c.loop-index.invariant.written i (omega (arith, below, entries.count, c.loop-index-test.false)))
