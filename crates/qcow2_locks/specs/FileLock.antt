-- Which locks of a file say that it may not be changed?
use Rattle.std.specs.Prelude.{◌≡◌, ℕ, ◌≤◌, ◌⊎◌}
use Rattle.qcow2_locks.specs.declared.file_lock.FileId.{FileId}
use Rattle.qcow2_locks.specs.declared.file_lock.FileLock.{FileLock}
use Rattle.qcow2_locks.specs.declared.file_lock.LockKind.TheVariants.{Bytes}

-- a byte is one of the lock's
abbrev pub HasByte : FileLock → ℕ → Type 0
HasByte lock byte = (lock.first ≤ byte) × (byte ≤ lock.last)

-- the lock is of bytes of the file: those of who writes to it (101), of who changes its length (103), or of who lets
-- nobody else write to it (201) or change its length (203)
abbrev pub BarsWriting : FileLock → FileId → Type 0
BarsWriting lock file = (lock.kind ≡ Bytes) × (lock.file ≡ file)
    × (HasByte lock 101 ⊎ HasByte lock 103 ⊎ HasByte lock 201 ⊎ HasByte lock 203)
