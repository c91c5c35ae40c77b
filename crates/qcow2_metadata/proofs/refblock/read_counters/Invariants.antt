use Rattle.std.proofs.Common.{◌≡◌, ◌*◌, ◌/◌, IsTrue, length, min, take}
use Rattle.qcow2_base.specs.Storage.{SameDevice}
use Rattle.qcow2_metadata.specs.Refblock.Counters.{AreCounters, IsOfOrder, kept_counters}
use Rattle.qcow2_metadata.specs.Refblock.Packing.{counters_at, width}
use Rattle.qcow2_metadata.proofs.refblock.read_counters.Given as goal

-- the counters of the pieces before this one are there, and no call has failed
abbrev pub invariant-loop-piece : goal.invariant-loop-piece
invariant-loop-piece g l =
    let counters = kept_counters l.counters in
    let done = 8 * min (4096 * l.piece) l.size / width l.order in
    let old = g.S.Storage.state l.initial.image in
    let new = g.S.Storage.state l.image in
    record {
      kind : IsOfOrder l.order l.counters;
      count : length counters ≡ length (kept_counters l.initial.counters);
      small : AreCounters l.order counters;
      told : IsTrue old.tells → take done counters ≡ counters_at l.order old.byte_at l.offset.0 done;
      bytes : new.byte_at ≡ old.byte_at;
      end : new.len ≡ old.len;
      failures : new.failures ≡ old.failures;
      device : SameDevice old new;
    }
