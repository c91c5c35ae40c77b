use Rattle.std.proofs.Common.{◌≡◌, ◌+◌, ◌-◌, ◌*◌, ◌/◌, ◌<◌, ◌∙◌, length, map, min, take, inl, inr, arith, rules}
use Rattle.std.proofs.lemmas.Result.{err_from_is_err_and}
use Rattle.qcow2_base.specs.Storage.{Holds}
use Rattle.qcow2_metadata.proofs.TablePiecesLemmas.{decoded-refused_piece, first_fault-take, table_numbers-read}
use Rattle.qcow2_metadata.proofs.table.reread.read_over.Goals as goal

pub returns-in_err-decode_over-clause-reads : goal.returns-in_err-decode_over-clause-reads
returns-in_err-decode_over-clause-reads g c =
    let exit = c.from_residual-in_err-decode_over in
    let left = err_from_is_err_and exit.result exit.ensures.1 in
    let image = (g.S.Storage.state c.args.image.now).byte_at in
    let fault = g.E.TableEntry.fault_of c.args.header.now.v2.cluster_bits in
    let numbers = map g.E.TableEntry.plain c.loop-piece.entries in
    let bytes = c.read_range.new.buffer in
    let before = c.loop-piece.invariant in
    let n = length c.args.entries.now in
    let k = 512 * c.loop-piece.piece in
    let below : k < n = search rules in
    let done : min k n ≡ k = omega (arith, below) in
    let len : length bytes ≡ 8 * min (n - k) 512 = search rules in
    let bad = c.in_err-decode_over.ensures.refused in
    record {
      exact = λ told.
          let held : Holds image (c.args.offset.0 + 8 * k) bytes = rw before.bytes at (c.in_ok-read_range.ensures.held (before.device.tells ∙ told)) in
          let so_far = rw done at (before.told told) in
          let none = rw so_far at (first_fault-take fault numbers k before.valid) in
          rw (left.1, left.2) (inr (inr (decoded-refused_piece fault image c.args.offset.0 k (length bytes / 8) n bytes _ (omega (arith, len, below)) held (omega arith) none bad.1)));
      faults = rw (left.1, left.2) (inl bad.0);
      storage = rw left.1 (search rules);
    }

pub loop-piece-preserved : goal.loop-piece-preserved
loop-piece-preserved g c =
    let image = (g.S.Storage.state c.args.image.now).byte_at in
    let fault = g.E.TableEntry.fault_of c.args.header.now.v2.cluster_bits in
    let numbers = map g.E.TableEntry.plain c.loop-piece.entries in
    let bytes = c.read_range.new.buffer in
    let before = c.loop-piece.invariant in
    let n = length c.args.entries.now in
    let k = 512 * c.loop-piece.piece in
    let m = length bytes / 8 in
    let below : k < n = search rules in
    let done : min k n ≡ k = omega (arith, below) in
    let len : length bytes ≡ 8 * min (n - k) 512 = search rules in
    let next : min (512 * (c.loop-piece.piece + 1)) n ≡ k + m = omega (arith, len, below) in
    record {
      told = λ told.
          let held : Holds image (c.args.offset.0 + 8 * k) bytes = rw before.bytes at (c.in_ok-read_range.ensures.held (before.device.tells ∙ told)) in
          let so_far = rw done at (before.told told) in
          rw (next, c.in_ok-decode_over.ensures.numbers) (table_numbers-read image c.args.offset.0 k m bytes (take k numbers) held (omega arith) so_far);
      count = search rules;
      valid = c.decode_over.ensures.valid before.valid;
      bytes = search rules;
      end = search rules;
      failures = search rules;
      device = search rules;
    }
