use Rattle.std.proofs.Common.{◌≡◌, ℕ, false, ◌<◌, ◌≤◌, slice_index}
use Rattle.qcow2_check.specs.Repeats.{is_again}
use Rattle.qcow2_check.proofs.repeats.are_ascending.Given as goal

-- no offset before this one is greater than the last, and none but 0 stands before it too
abbrev pub invariant-loop-index : goal.invariant-loop-index
invariant-loop-index g l =
    let names = g.T.NamesOffsets.names l.table in
    record {
      last : (i : ℕ) → i < l.index → slice_index names i ≤ l.last;
      once : (i : ℕ) → i < l.index → 0 < slice_index names i → is_again names i ≡ false;
    }
