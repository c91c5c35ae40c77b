use Rattle.std.proofs.Common.{◌≡◌, IsTrue, Ok}
use Rattle.std.specs.BTreeMap.{IsOrdered}
use Rattle.qcow2_base.specs.Storage.{SameDevice}
use Rattle.qcow2_metadata.specs.Header.Extensions.{key_cmp, names_of, names_of_chunks}
use Rattle.qcow2_metadata.specs.Range.{bytes_at}
use Rattle.qcow2_metadata.proofs.header.feature_names.read_feature_names.Given as goal

-- the names are those of the chunks before this one, and no call has failed
abbrev pub invariant-loop-index : goal.invariant-loop-index
invariant-loop-index g l =
    let old = g.S.Storage.state l.initial.image.image.now in
    let new = g.S.Storage.state l.image.image.now in
    record {
      told : IsTrue old.tells → names_of_chunks (bytes_at old.byte_at l.place l.len) l.index ≡ Ok (names_of l.names);
      ordered : IsOrdered key_cmp l.names;
      bytes : new.byte_at ≡ old.byte_at;
      end : new.len ≡ old.len;
      failures : new.failures ≡ old.failures;
      device : SameDevice old new;
      same : l.image.image.ghost_name ≡ l.initial.image.image.ghost_name;
    }
