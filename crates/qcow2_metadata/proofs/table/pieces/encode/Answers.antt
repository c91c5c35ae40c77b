use Rattle.std.proofs.Common.{◌≡◌, ◌*◌, length, arith}
use Rattle.qcow2_metadata.proofs.TablePiecesLemmas.{held_then_zeros}
use Rattle.qcow2_metadata.proofs.table.pieces.encode.Goals as goal

pub returns-clause-written : goal.returns-clause-written
returns-clause-written g c = λ i within.
    let parts = c.split_at_mut-inside.ensures in
    let n = length c.split_at_mut-inside.result.1.now in
    let held = c.min-held.result in
    let zeros = c.fill.ensures.after (λ y same. same) in
    let inside : length c.encode_held.new.bytes ≡ 8 * held = omega (arith, c.encode_held.ensures.len, parts.front_len, c.min-held.ensures) in
    rw zeros (held_then_zeros c.encode_held.new.bytes (g.T.Table.state c.args.table.now).numbers c.args.first held n i inside
    (λ after. omega (arith, after, within, inside, c.fill.ensures.len, parts.back_len, c.min-held.ensures, c.saturating_sub.ensures, c.entries.ensures.count)) c.encode_held.ensures.written)
