-- What does a call that only reads leave of a storage that is read ahead?
use Rattle.std.specs.Prelude.{◌≡◌, Result}
use Rattle.qcow2_base.specs.Storage.{Image, StorageState}
use Rattle.qcow2_base.specs.declared.fault.Fault.{Fault}
use Rattle.qcow2_base.specs.declared.storage.Storage.{Ghosts}
use Rattle.qcow2_metadata.specs.Results.{Reads}
use Rattle.qcow2_metadata.specs.declared.read_ahead.ReadAhead.{ReadAhead}

-- a call that only reads, through what is kept of a storage, ended in this answer: it reads that storage, which
-- stays the same one
pub record ReadsThrough {S T V : Type 0} {G : Ghosts S} (state : S → StorageState) (view : T → V) (answer : Result T Fault) (meaning : Image → Result V Fault) (IsRefusal : Fault → Type 0) (old new : ReadAhead S G) : Type 0 where
  pub reads : Reads view answer meaning IsRefusal (state old.image.now) (state new.image.now)
  pub same : new.image.ghost_name ≡ old.image.ghost_name
