use Rattle.std.proofs.Common.{◌≡◌, ◌+◌, ◌*◌, Some, inl, sym, ◌∙◌, add-zero, below_more, arith, slice_get}
use Rattle.std.proofs.lemmas.Option.{get_or_from_slice_get}
use Rattle.qcow2_base.specs.Storage.{image_of}
use Rattle.qcow2_base.proofs.StorageLemmas.{be_of_same}
use Rattle.qcow2_metadata.proofs.TablePiecesLemmas.{found_in_list}
use Rattle.qcow2_metadata.proofs.table.pieces.encode_held.Goals as goal

pub unwrap-entry-requires : goal.unwrap-entry-requires
unwrap-entry-requires g c =
    found_in_list _ c.get_ref.result (g.T.Table.state c.args.table.now).numbers (c.args.first + c.loop-index.index)
    c.get_ref.ensures.number (c.requires.within c.loop-index.index (omega arith))

pub loop-index-preserved : goal.loop-index-preserved
loop-index-preserved g c =
    let numbers = (g.T.Table.state c.args.table.now).numbers in
    let at = c.args.first + c.loop-index.index in
    let found : slice_get numbers at ≡ Some c.to_plain.result = rw c.to_plain.ensures (sym (rw c.unwrap-entry.ensures at c.get_ref.ensures.number)) in
    record {
      len = omega arith;
      written = below_more _ _
          (λ i below. be_of_same (image_of c.write_be.new.bytes) (image_of c.loop-index.bytes) 8 (8 * i) (8 * i)
          (λ k small. c.write_be.ensures.gaps (8 * i + k) (inl (omega arith), tt))
          ∙ c.loop-index.invariant.written i below)
          (simp add-zero at c.write_be.ensures.placed.0 ∙ sym (get_or_from_slice_get numbers at c.to_plain.result 0 found));
    }
