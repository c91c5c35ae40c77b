use Rattle.std.proofs.Common.{◌≡◌, ◌+◌, ◌-◌, ◌++◌, All, IsTrue, map}
use Rattle.qcow2_base.specs.Storage.{SameDevice}
use Rattle.qcow2_metadata.specs.Results.{result_map}
use Rattle.qcow2_metadata.specs.Header.Chain.{extensions_at}
use Rattle.qcow2_metadata.specs.Header.Extensions.{IsStorable, extension_of}
use Rattle.qcow2_metadata.proofs.header.extensions.read_extensions.Given as goal

-- the extensions from the first place on are those that were read and those from this place on, and no call
-- has failed
abbrev pub invariant-loop-extensions : goal.invariant-loop-extensions
invariant-loop-extensions g l =
    let old = g.S.Storage.state l.initial.image.image.now in
    let new = g.S.Storage.state l.image.image.now in
    record {
      told : IsTrue old.tells → extensions_at old.byte_at l.len l.first
          ≡ result_map (λ others. map extension_of l.extensions.items ++ others) (extensions_at old.byte_at l.len l.place);
      storable : All IsStorable (map extension_of l.extensions.items);
      bytes : new.byte_at ≡ old.byte_at;
      end : new.len ≡ old.len;
      failures : new.failures ≡ old.failures;
      device : SameDevice old new;
      same : l.image.image.ghost_name ≡ l.initial.image.image.ghost_name;
    }

-- what is left up to the end
abbrev pub decreases-loop-extensions : goal.decreases-loop-extensions
decreases-loop-extensions g l = l.len + 16 - l.place
