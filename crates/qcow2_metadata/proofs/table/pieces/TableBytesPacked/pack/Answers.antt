use Rattle.std.proofs.Common.{◌≡◌, ◌*◌, arith}
use Rattle.qcow2_metadata.proofs.TablePiecesLemmas.{piece_bytes}
use Rattle.qcow2_metadata.proofs.table.pieces.TableBytesPacked.pack.Goals as goal

pub returns-clause-packed : goal.returns-clause-packed
returns-clause-packed g c =
    let numbers = (g.T.Table.state c.args.self.now.table.now).numbers in
    let place : 8 * (512 * c.args.piece) ≡ 4096 * c.args.piece = omega arith in
    rw place at (piece_bytes c.encode.new.bytes numbers (512 * c.args.piece) (λ offset. (c.type_inv.buffer offset).fits) (omega (arith, c.requires.len, c.encode.ensures.len)) c.encode.ensures.written)
