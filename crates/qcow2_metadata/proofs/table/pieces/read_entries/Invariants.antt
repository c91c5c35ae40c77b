use Rattle.std.proofs.Common.{◌≡◌, ◌*◌, IsTrue, None, length, map, min}
use Rattle.qcow2_base.specs.Storage.{SameDevice}
use Rattle.qcow2_metadata.specs.Table.{first_fault, table_numbers}
use Rattle.qcow2_metadata.proofs.table.pieces.read_entries.Given as goal

-- the list has the entries of the pieces before this one, and no call has failed
abbrev pub invariant-loop-piece : goal.invariant-loop-piece
invariant-loop-piece g l =
    let numbers = map g.E.TableEntry.plain l.list.items in
    let old = g.S.Storage.state l.initial.image in
    let new = g.S.Storage.state l.image in
    record {
      told : IsTrue old.tells → numbers ≡ table_numbers old.byte_at l.offset.0 (length l.list.items);
      len : length l.list.items ≡ min (512 * l.piece) l.entries;
      valid : first_fault (g.E.TableEntry.fault_of l.header.v2.cluster_bits) numbers ≡ None;
      bytes : new.byte_at ≡ old.byte_at;
      end : new.len ≡ old.len;
      failures : new.failures ≡ old.failures;
      device : SameDevice old new;
    }
