use Rattle.std.proofs.Common.{◌≡◌, ◌+◌, ◌*◌, ◌<◌, ◌∙◌, arith, length, length-set, rules}
use Rattle.qcow2_check.proofs.SolesLemmas.{marked_more}
use Rattle.qcow2_check.proofs.soles.Soles.mark.Goals as goal

pub loop-k-preserved : goal.loop-k-preserved
loop-k-preserved c =
    let words = c.loop-k.self-inside.words.items in
    let first = c.args.first_word in
    let k = c.loop-k.k in
    record {
      soles = λ counter counts before. marked_more counter words (first + k) c.ones.result (search rules) (c.loop-k.invariant.soles counter counts before)
          (λ j small set.
          let at : 64 * (first + k) + j ≡ 64 * first + (64 * k + j) = omega arith in
          let within : 64 * k + j < length c.args.block.now.numbers = search rules in
          rw at (counts (64 * k + j) within ∙ c.ones.ensures j small set));
      len = length-set words (first + k) c.ones.result ∙ c.loop-k.invariant.len;
    }
