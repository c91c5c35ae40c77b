use Rattle.std.proofs.Common.{take, [], arith}
use Rattle.std.proofs.lemmas.Result.{err_from_is_err_and}
use Rattle.qcow2_metadata.proofs.TablePiecesLemmas.{chunk_numbers-more, first_fault-at}
use Rattle.qcow2_metadata.proofs.TableLemmas.{first_fault_more}
use Rattle.qcow2_metadata.specs.Table.{chunk_numbers}
use Rattle.qcow2_metadata.proofs.table.pieces.check.Goals as goal

pub returns-in_err-try_from_plain-clause-refused : goal.returns-in_err-try_from_plain-clause-refused
returns-in_err-try_from_plain-clause-refused g c =
    let chunks = c.args.chunks.now in
    let index = c.loop-chunk.chunk-index in
    let fault = g.E.TableEntry.fault_of c.args.header.now.v2.cluster_bits in
    let left = err_from_is_err_and c.from_residual.result c.from_residual.ensures.1 in
    rw (left.1, left.2) (first_fault-at fault chunks index [] _ (omega arith) c.loop-chunk.invariant (rw (← c.number_of.ensures) c.in_err-try_from_plain.ensures.refused))

pub loop-chunk-preserved : goal.loop-chunk-preserved
loop-chunk-preserved g c =
    let chunks = c.args.chunks.now in
    let index = c.loop-chunk.chunk-index in
    let fault = g.E.TableEntry.fault_of c.args.header.now.v2.cluster_bits in
    let more = chunk_numbers-more chunks index [] (omega arith) in
    rw (more, ← c.number_of.ensures) (first_fault_more fault (chunk_numbers (take index chunks)) c.number_of.result c.loop-chunk.invariant c.in_ok-try_from_plain.ensures.accepted)
