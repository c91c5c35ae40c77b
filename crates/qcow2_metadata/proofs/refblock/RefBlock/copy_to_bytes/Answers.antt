use Rattle.std.proofs.Common.{◌-◌, ◌*◌, arith, rules, pow_mono, zero-add}
use Rattle.qcow2_base.specs.Storage.{image_of}
use Rattle.qcow2_metadata.specs.Refblock.{block_layout}
use Rattle.qcow2_metadata.proofs.BlockBytesLemmas.{placed-more}
use Rattle.qcow2_metadata.proofs.RefblockLemmas.{block_reads_back}
use Rattle.qcow2_metadata.proofs.refblock.RefBlock.copy_to_bytes.Goals as goal

pub pack-requires-clause-bound : goal.pack-requires-clause-bound
pack-requires-clause-bound c = pow_mono {j = 56} (omega (arith, c.entries.ensures.valid.numbers.bits.1))

pub loop-piece-preserved : goal.loop-piece-preserved
loop-piece-preserved c =
    let block = c.args.self.now in
    let first = 4096 * c.loop-piece.piece in
    record {
      len = search rules;
      packed = λ i within below.
          placed-more ((block_layout block.geometry).bytes_of block.numbers) first (c.min-end.result - first) c.loop-piece.bytes c.pack.new.buffer _
          (omega arith) (omega arith) (λ j early. c.loop-piece.invariant.packed j (omega arith) early) c.pack.ensures.packed i (omega arith);
    }

pub returns-clause-numbers : goal.returns-clause-numbers
returns-clause-numbers c =
    let block = c.args.self.now in
    (block_reads_back block.geometry block.cluster block.numbers c.entries.ensures.valid).decoded (image_of c.loop-piece.bytes) 0
    (λ i below. rw (zero-add i) (c.loop-piece.invariant.packed i (omega arith) (omega arith)))
