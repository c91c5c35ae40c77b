use Rattle.std.proofs.Common.{sym, rules}
use Rattle.qcow2_edits.proofs.StepsLemmas.{block-idle, counts-same}
use Rattle.qcow2_image.specs.Images.{block_in}
use Rattle.qcow2_image.proofs.images.step_image.Goals as goal

pub write_block_back-requires : goal.write_block_back-requires
write_block_back-requires g c = record {
  valid = search rules;
  cluster = search rules;
  unmodified = λ unmodified told.
      let kept = block-idle c.args.steps.now c.in_ok-replies.replies.items c.in_ok-block.block c.step_block.new.block
      (search rules) (search rules) unmodified in
      rw kept (search rules);
}

pub returns-clause-counts : goal.returns-clause-counts
returns-clause-counts g c = λ told.
    let before = block_in c.args.header.now c.args.cluster (g.S.Storage.state c.args.image.now).byte_at in
    let after = block_in c.args.header.now c.args.cluster (g.S.Storage.state c.write_block_back.new.image).byte_at in
    counts-same c.args.steps.now c.in_ok-replies.replies.items c.in_ok-block.block c.step_block.new.block before after
    c.in_ok-replies.ensures.counts (sym (c.in_ok-block.ensures.loaded.numbers told)) (search rules) (search rules) (search rules)
