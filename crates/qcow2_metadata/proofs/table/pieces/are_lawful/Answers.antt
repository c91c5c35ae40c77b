use Rattle.std.proofs.Common.{take, [], arith}
use Rattle.qcow2_metadata.proofs.TablePiecesLemmas.{chunk_numbers-more, lawful_more}
use Rattle.qcow2_metadata.specs.Table.{chunk_numbers}
use Rattle.qcow2_metadata.proofs.table.pieces.are_lawful.Goals as goal

pub loop-chunk-preserved : goal.loop-chunk-preserved
loop-chunk-preserved g c =
    let chunks = c.args.chunks.now in
    let index = c.loop-chunk.chunk-index in
    rw (chunk_numbers-more chunks index [] (omega arith), ← c.number_of.ensures)
    (lawful_more _ (chunk_numbers (take index chunks)) c.number_of.result c.loop-chunk.lawful c.is_lawful-lawful.result c.loop-chunk.invariant c.is_lawful-lawful.ensures)
