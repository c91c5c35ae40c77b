-- What does a buffered storage say as a storage?
use Rattle.qcow2_base.specs.Storage.{StorageState}
use Rattle.qcow2_base.specs.declared.storage.Storage.{Ghosts}
use Rattle.qcow2_buffered.specs.declared.BufferedStorage.{BufferedStorage}

-- the storage below a buffered one
abbrev pub inner_of : {S : Type 0} {G : Ghosts S} → BufferedStorage S G → S
inner_of storage = storage.inner

-- what a buffered storage says: the same as the one below
abbrev pub buffered_state : {S : Type 0} {G : Ghosts S} → (S → StorageState) → BufferedStorage S G → StorageState
buffered_state state storage = state (inner_of storage)
