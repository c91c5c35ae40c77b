use Rattle.qcow2_metadata.proofs.TablePiecesLemmas.{table_reads_back}
use Rattle.qcow2_metadata.proofs.table.pieces.TableBytesPacked.offset_at.Goals as goal

pub returns-clause-reads_back : goal.returns-clause-reads_back
returns-clause-reads_back g c =
    let table = g.T.Table.state c.args.self.now.table.now in
    table_reads_back g.T.Table.kind table.geometry.cluster_bits table.cluster table.numbers c.entries-entries.ensures.valid
