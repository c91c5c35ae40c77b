-- Which number, kind and words has each fault?
use Rattle.std.specs.Prelude.{ℕ, ◌-◌, ◌==◌, if◌then◌else◌, List, Option, None, codes, slice_get}
use Rattle.qcow2_base.specs.declared.fault.Fault.{Fault}
use Rattle.qcow2_base.specs.declared.fault.Fault.TheVariants.{NotQcow2, Version, ClusterSize, HeaderShort, HeaderBig, L1Unaligned, ReftableUnaligned, RefcountWidth, BackingNameLong, BackingNamePlace, BackingNameText, ExtensionsExceed, ExtensionText, FeatureNameCut, FormatConflict, DataFileConflict, Incompatible, EntryReserved, EntryUnaligned, TableTooBig, TablePlace, NoOffset, NotPlaced, HeaderTooLong, NameTooLong, FieldChanged, VersionNeeded, CannotGrow, TooMany, CounterRange, WrongLength, BadEdit, BadStep, Storage, NoMemory, ExternalData, Uncounted, Overlap, InUse, Shared, L1Short, Marked}
use Rattle.qcow2_base.specs.declared.fault.TheConstants.Fault.{ALL}
use Rattle.qcow2_base.specs.declared.fault.Field.{Field}
use Rattle.qcow2_base.specs.declared.fault.Field.TheVariants as field
use Rattle.qcow2_base.specs.declared.fault.FaultKind.{FaultKind}
use Rattle.qcow2_base.specs.declared.fault.FaultKind.TheVariants as kind
use Rattle.qcow2_base.specs.declared.fault.UncountedPart.{UncountedPart}
use Rattle.qcow2_base.specs.declared.fault.UncountedPart.TheVariants as part

-- the number of a fault
abbrev pub fault_number : Fault → ℕ
fault_number NotQcow2 = 1
fault_number Version = 2
fault_number ClusterSize = 3
fault_number HeaderShort = 4
fault_number HeaderBig = 5
fault_number L1Unaligned = 6
fault_number ReftableUnaligned = 7
fault_number RefcountWidth = 8
fault_number BackingNameLong = 9
fault_number BackingNamePlace = 10
fault_number BackingNameText = 11
fault_number ExtensionsExceed = 12
fault_number ExtensionText = 13
fault_number FeatureNameCut = 14
fault_number FormatConflict = 15
fault_number DataFileConflict = 16
fault_number (Incompatible features) = 17
fault_number EntryReserved = 18
fault_number EntryUnaligned = 19
fault_number TableTooBig = 20
fault_number TablePlace = 21
fault_number NoOffset = 22
fault_number NotPlaced = 23
fault_number HeaderTooLong = 24
fault_number NameTooLong = 25
fault_number (FieldChanged field) = 26
fault_number VersionNeeded = 27
fault_number CannotGrow = 28
fault_number TooMany = 29
fault_number CounterRange = 30
fault_number WrongLength = 31
fault_number (BadEdit position) = 32
fault_number (BadStep position) = 33
fault_number Storage = 34
fault_number NoMemory = 35
fault_number ExternalData = 36
fault_number (Uncounted part) = 37
fault_number Overlap = 38
fault_number InUse = 39
fault_number (Shared position) = 40
fault_number L1Short = 41
fault_number Marked = 42

-- the fault of a number, if there is one: at its place in the list of all
abbrev pub fault_of : ℕ → Option Fault
fault_of number = if number == 0 then None else slice_get ALL (number - 1)

-- the kind of a fault
abbrev pub fault_kind : Fault → FaultKind
fault_kind NotPlaced = kind.InvalidInput
fault_kind NameTooLong = kind.InvalidInput
fault_kind (BadEdit position) = kind.InvalidInput
fault_kind (BadStep position) = kind.InvalidInput
fault_kind ExternalData = kind.InvalidInput
fault_kind FormatConflict = kind.Other
fault_kind DataFileConflict = kind.Other
fault_kind NoOffset = kind.Other
fault_kind HeaderTooLong = kind.Other
fault_kind (FieldChanged field) = kind.Other
fault_kind CannotGrow = kind.Other
fault_kind (Shared position) = kind.Other
fault_kind Marked = kind.Other
fault_kind VersionNeeded = kind.Unsupported
fault_kind (Uncounted part) = kind.Unsupported
fault_kind Storage = kind.Storage
fault_kind InUse = kind.Storage
fault_kind NoMemory = kind.NoMemory
fault_kind _ = kind.InvalidData

-- what a message calls a field: the name that the format has for it, or else what it is
abbrev pub field_name : Field → List ℕ
field_name field.Magic = codes "magic"
field_name field.Version = codes "version"
field_name field.BackingOffset = codes "backing_file_offset"
field_name field.BackingSize = codes "backing_file_size"
field_name field.ClusterBits = codes "cluster_bits"
field_name field.CryptMethod = codes "crypt_method"
field_name field.NbSnapshots = codes "nb_snapshots"
field_name field.SnapshotsOffset = codes "snapshots_offset"
field_name field.Incompatible = codes "incompatible_features"
field_name field.Compatible = codes "compatible_features"
field_name field.Autoclear = codes "autoclear_features"
field_name field.RefcountOrder = codes "refcount_order"
field_name field.UnknownFields = codes "the unknown header fields"
field_name field.BackingName = codes "the backing file name"
field_name field.Extensions = codes "the header extensions"
field_name field.ExternalData = codes "the use of an external data file"

-- what a message calls a part of an image
abbrev pub part_name : UncountedPart → List ℕ
part_name part.Snapshots = codes "snapshots"
part_name part.Bitmaps = codes "bitmaps"
part_name part.Encryption = codes "an encryption header"
