use Rattle.std.proofs.Common.{ap, arith, length}
use Rattle.qcow2_bytes.proofs.EditLemmas.{answers-put}
use Rattle.qcow2_bytes.proofs.tables.edit.EditedTable.put.Goals as goal

pub returns : goal.returns
returns c =
    let table = c.args.self.now.table in
    let ranges = c.as_slice-ranges.ensures.value in
    let clusters = c.as_slice-clusters.ensures.value in
    answers-put table.geometry table c.args.self.now.outcome _ _ _ (ap length ranges) (ap length clusters)
    (omega (arith, c.if-counts-freed.false)) (omega (arith, c.if-counts-gained.false))
    (record {
      len = c.put_numbers.ensures.len;
      numbers = c.put_numbers.ensures.numbers;
      freed = rw ranges at c.put_freed.ensures;
      gained = rw clusters at c.put_gained.ensures;
    })
