-- What do tables and refcount blocks share: how do they lie in an image, and what do a load and a write of one do?
use Rattle.std.specs.Prelude.{◌≡◌, ◌≢◌, ◌⊎◌, Err, ◌*◌, ◌^◌, ◌<◌, ℕ, Bool, false, true, IfErr, IfSome, IsErrOf, IsOk, List, None, OnOk, Option, Result, Ok, Some, length, option_map, slice_set}
use Rattle.std.specs.List.{All}
use Rattle.qcow2_base.specs.Storage.{Image, IsBytes, OnImage, OnImages, OnlyWrites, SameOutside, StorageState}
use Rattle.qcow2_base.specs.Types.{IsClusterBits}
use Rattle.qcow2_base.specs.declared.fault.Fault.{Fault}
use Rattle.qcow2_base.specs.declared.fault.Fault.TheVariants.{NoOffset, Storage, TablePlace}
use Rattle.qcow2_base.specs.declared.types.HostCluster.{HostCluster}
use Rattle.qcow2_metadata.specs.Results.{unless_refused}
use Rattle.qcow2_metadata.specs.Pieces.{IsTornAtPiece, Stand}

-- a table or a refcount block in memory: the numbers that it has, and its cluster in the image if it has one. Also whether
-- it was changed since it was last read or written, and what it keeps of the image's geometry
pub record Placed (G : Type 0) : Type 0 where
  pub numbers : List ℕ
  pub cluster : Option HostCluster
  pub modified : Bool
  pub geometry : G

-- a table or a block of these numbers that was just made: it has no cluster, and counts as modified
abbrev pub new_placed : {G : Type 0} → List ℕ → G → Placed G
new_placed numbers geometry = record { numbers = numbers; cluster = None; modified = true; geometry = geometry }

-- the table or block with another number at an index; it then counts as modified
abbrev pub with_number : {G : Type 0} → Placed G → ℕ → ℕ → Placed G
with_number held index number = record held { numbers = slice_set held.numbers index number; modified = true }

-- how numbers lie in an image with clusters of this size: how many there are, how many bits each has, how many bytes they
-- take and which. Then which numbers are at an offset, and the faults of an offset and of numbers
pub record Layout : Type 0 where
  pub cluster_bits : ℕ
  pub count : ℕ
  pub width : ℕ
  pub byte_count : ℕ
  pub bytes_of : List ℕ → Image
  pub numbers_from : Image → ℕ → List ℕ
  pub fault_of_offset : ℕ → Option Fault
  pub fault_of_numbers : List ℕ → Option Fault

-- the offset that a cluster begins at
abbrev pub offset_of : Layout → HostCluster → ℕ
offset_of layout cluster = cluster.0 * 2 ^ layout.cluster_bits

-- why numbers can't lie from a cluster on
abbrev pub place_fault : Layout → HostCluster → Option Fault
place_fault layout cluster = layout.fault_of_offset (offset_of layout cluster)

-- why they can't be written: they have no cluster, or can't lie there
abbrev pub write_fault : Layout → Option HostCluster → Option Fault
write_fault layout None = Some NoOffset
write_fault layout (Some cluster) = place_fault layout cluster

-- the numbers that an image has from a cluster on
abbrev pub numbers_at : Layout → HostCluster → Image → List ℕ
numbers_at layout cluster image = layout.numbers_from image (offset_of layout cluster)

-- the same, or why they are refused
abbrev pub valid_numbers_at : Layout → HostCluster → Image → Result (List ℕ) Fault
valid_numbers_at layout cluster image =
    unless_refused (layout.fault_of_numbers (numbers_at layout cluster image)) (Ok (numbers_at layout cluster image))

-- what loads from a cluster: the fault of the place comes first
abbrev pub loaded_numbers : Layout → HostCluster → Image → Result (List ℕ) Fault
loaded_numbers layout cluster image = unless_refused (place_fault layout cluster) (valid_numbers_at layout cluster image)

-- what holds of all that can be read and written: the cluster begins at an offset of 64 bits, and the numbers are as many
-- as there are. They fit their width, and none is refused
pub record IsValid (layout : Layout) (cluster : Option HostCluster) (numbers : List ℕ) : Type 0 where
  pub bits : IsClusterBits layout.cluster_bits
  pub place : IfSome cluster (λ (c : HostCluster). offset_of layout c < 2 ^ 64)
  pub valid : layout.fault_of_numbers numbers ≡ None
  pub fits : All (λ v. v < 2 ^ layout.width) numbers
  pub count : length numbers ≡ layout.count

-- what was loaded from a cluster: it has that cluster, isn't modified, and has the numbers that are there, where the
-- storage's bytes are known
pub record IsLoaded {G : Type 0} (layout : Layout) (g : G) (place : HostCluster) (image : StorageState) (loaded : Placed G) : Type 0 where
  pub numbers : OnImage image (λ bytes. loaded.numbers ≡ numbers_at layout place bytes)
  pub count : length loaded.numbers ≡ layout.count
  pub cluster : loaded.cluster ≡ Some place
  pub unmodified : loaded.modified ≡ false
  pub geometry : loaded.geometry ≡ g

-- a table or a block after a reload that ended in this answer: its geometry and how many numbers it has stay. If it was
-- refused for its place it is as before. After any other fault it has no cluster, and counts as modified
pub record LeavesReloaded {G T : Type 0} (answer : Result T Fault) (old new : Placed G) : Type 0 where
  pub geometry : new.geometry ≡ old.geometry
  pub count : length new.numbers ≡ length old.numbers
  pub refused : IsErrOf answer TablePlace → new ≡ old
  pub failed : IfErr answer (λ fault. fault ≢ TablePlace → (new.cluster ≡ None) × (new.modified ≡ true))

-- the new image has the numbers at the cluster, and is the old one where that had them there
pub record IsWritten (layout : Layout) (numbers : List ℕ) (cluster : HostCluster) (old new : Image) : Type 0 where
  pub decoded : valid_numbers_at layout cluster new ≡ Ok numbers
  pub same : numbers_at layout cluster old ≡ numbers → new ≡ old

-- where the bytes of these numbers are, the numbers are read; and writing them where they are changes no byte
pub record ReadsBack (layout : Layout) (numbers : List ℕ) : Type 0 where
  pub valid : layout.fault_of_numbers numbers ≡ None
  pub decoded : (image : Image) (offset : ℕ) → Stand (layout.bytes_of numbers) layout.byte_count image offset →
      layout.numbers_from image offset ≡ numbers
  pub same : (old new : Image) (offset : ℕ) → IsBytes old → Stand (layout.bytes_of numbers) layout.byte_count new offset →
      SameOutside offset layout.byte_count old new → layout.numbers_from old offset ≡ numbers → new ≡ old

-- a write of numbers from a cluster on, in pieces, that failed at some piece
abbrev pub IsTorn : Layout → List ℕ → HostCluster → Image → Image → Type 0
IsTorn layout numbers cluster old new = (piece : ℕ)
    × IsTornAtPiece piece (layout.bytes_of numbers) layout.byte_count (offset_of layout cluster) old new

-- a cluster where numbers can't lie refuses all else
abbrev pub RefusesPlace : {T : Type 0} → Layout → HostCluster → Result T Fault → Type 0
RefusesPlace layout cluster answer = IfSome (place_fault layout cluster) (λ fault. answer ≡ Err fault)

-- a write of numbers that ended in this answer
pub record Writes {T : Type 0} (layout : Layout) (numbers : List ℕ) (cluster : Option HostCluster) (answer : Result T Fault) (old new : StorageState) : Type 0 where
  pub refused : IfSome (write_fault layout cluster) (λ fault. answer ≡ Err fault)
  pub faults : IfErr answer (λ fault. (write_fault layout cluster ≡ Some fault) ⊎ (fault ≡ Storage))
  pub written : OnImages old new (λ before after.
      OnOk answer (IfSome cluster (λ c. IsWritten layout numbers c before after)))
  pub torn : OnImages old new (λ before after.
      IsErrOf answer Storage → IfSome cluster (λ c. IsTorn layout numbers c before after))
  pub storage : OnlyWrites answer (option_map (offset_of layout) cluster) layout.byte_count old new

-- the flag after a write that ended in this answer: clear after an Ok, set after a failed storage, as before after any other
-- refusal
pub record FlagAfterWrite {T : Type 0} (answer : Result T Fault) (old new : Bool) : Type 0 where
  pub ok : OnOk answer (new ≡ false)
  pub failed : IsErrOf answer Storage → new ≡ true
  pub err : IfErr answer (λ fault. fault ≢ Storage → new ≡ old)

-- a table or a block after a write of it: only its flag may be another
pub record FollowsWrite {G T : Type 0} (answer : Result T Fault) (old new : Placed G) : Type 0 where
  pub same : new ≡ record old { modified = new.modified }
  pub flag : FlagAfterWrite answer old.modified new.modified

-- a write of a table or a block that ended in this answer: if it isn't modified, it and the storage stay, and else its numbers
-- are written
pub record WritesIfModified {G T S : Type 0} (state : S → StorageState) (layout : Layout) (answer : Result T Fault) (old new : Placed G) (before after : S) : Type 0 where
  pub idle : old.modified ≡ false → IsOk answer × (new ≡ old) × (after ≡ before)
  pub written : old.modified ≡ true → Writes layout old.numbers old.cluster answer (state before) (state after)
  pub flag : FollowsWrite answer old new
