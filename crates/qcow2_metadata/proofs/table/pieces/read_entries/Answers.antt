use Rattle.std.proofs.Common.{◌≡◌, ◌+◌, ◌-◌, ◌*◌, ◌/◌, ◌∙◌, length, map, min, ap, inl, inr, arith, rules}
use Rattle.std.proofs.lemmas.List.{length-append, length-map}
use Rattle.std.proofs.lemmas.Result.{err_from_is_err_and}
use Rattle.qcow2_base.specs.Storage.{Holds, image_of}
use Rattle.qcow2_metadata.proofs.TablePiecesLemmas.{decoded-refused_piece, table_numbers-read}
use Rattle.qcow2_metadata.proofs.PackingLemmas.{counters_at-length}
use Rattle.qcow2_metadata.proofs.TableLemmas.{first_fault-append}
use Rattle.qcow2_metadata.specs.Table.{table_numbers}
use Rattle.qcow2_metadata.proofs.table.pieces.read_entries.Goals as goal

pub returns-in_err-decode-clause-reads : goal.returns-in_err-decode-clause-reads
returns-in_err-decode-clause-reads g c =
    let exit = c.from_residual-in_err-decode in
    let left = err_from_is_err_and exit.result exit.ensures.1 in
    let image = (g.S.Storage.state c.args.image.now).byte_at in
    let bytes = c.read_range.new.buffer in
    let before = c.loop-piece.invariant in
    let k = length c.loop-piece.list.items in
    let len : length bytes ≡ 8 * min (c.args.entries - 512 * c.loop-piece.piece) 512 = search rules in
    let place : c.args.offset.0 + 8 * (512 * c.loop-piece.piece) ≡ c.args.offset.0 + 8 * k = omega (arith, before.len) in
    record {
      exact = λ told.
          let held : Holds image (c.args.offset.0 + 8 * k) bytes = rw (place, before.bytes) at (c.in_ok-read_range.ensures.held (before.device.tells ∙ told)) in
          rw (left.1, left.2) (elim c.in_err-decode.ensures.refused [
            | inl memory ↦ inr (inl memory)
            | inr bad ↦ inr (inr (decoded-refused_piece _ image c.args.offset.0 k (length bytes / 8) c.args.entries bytes _ (omega (arith, before.len)) held (omega arith) (rw (before.told told) at before.valid) bad))
          ]);
      faults = rw (left.1, left.2) (elim c.in_err-decode.ensures.faults [
        | inl entry ↦ inl entry
        | inr memory ↦ inr (inl memory)
      ]);
      storage = rw left.1 (search rules);
    }

pub loop-piece-preserved : goal.loop-piece-preserved
loop-piece-preserved g c =
    let plain = g.E.TableEntry.plain in
    let image = (g.S.Storage.state c.args.image.now).byte_at in
    let bytes = c.read_range.new.buffer in
    let before = c.loop-piece.invariant in
    let old = c.loop-piece.list.items in
    let k = length old in
    let m = length bytes / 8 in
    let len : length bytes ≡ 8 * min (c.args.entries - 512 * c.loop-piece.piece) 512 = search rules in
    let place : c.args.offset.0 + 8 * (512 * c.loop-piece.piece) ≡ c.args.offset.0 + 8 * k = omega (arith, before.len) in
    let numbers = c.in_ok-decode.ensures.numbers in
    let count : length c.decode.new.list.items ≡ k + m =
    omega (arith, ap length numbers, length-append (map plain old) (table_numbers (image_of bytes) 0 m), length-map c.decode.new.list.items plain, length-map old plain, counters_at-length 6 (image_of bytes) 0 m) in
    record {
      told = λ told.
          let held : Holds image (c.args.offset.0 + 8 * k) bytes = rw (place, before.bytes) at (c.in_ok-read_range.ensures.held (before.device.tells ∙ told)) in
          rw (count, numbers) (table_numbers-read image c.args.offset.0 k m bytes (map plain old) held (omega arith) (before.told told));
      len = omega (arith, before.len);
      valid = rw numbers (first_fault-append _ (map plain old) (table_numbers (image_of bytes) 0 m) before.valid ∙ c.in_ok-decode.ensures.valid);
      bytes = search rules;
      end = search rules;
      failures = search rules;
      device = search rules;
    }
