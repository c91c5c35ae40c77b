use Rattle.std.proofs.Common.{◌≡◌, ℕ, ◌+◌, ◌*◌, ◌<◌, length, slice_index}
use Rattle.qcow2_check.specs.Soles.{AreSoles}
use Rattle.qcow2_check.proofs.soles.Soles.mark.Given as goal

-- the words before this one mark the block's counters, and no word is wrong
abbrev pub invariant-loop-k : goal.invariant-loop-k
invariant-loop-k l =
    let words = l.self-inside.words.items in
    record {
      soles : (counter : ℕ → ℕ) → ((k : ℕ) → k < length l.block.numbers → counter (64 * l.first_word + k) ≡ slice_index l.block.numbers k)
          → AreSoles counter l.fn.self → AreSoles counter words;
      len : length words ≡ length l.fn.self;
    }
