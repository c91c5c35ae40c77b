-- What does `explain` print of each fault?
use Rattle.std.specs.Prelude.{ℕ, List}
use Rattle.qcow2_base.specs.declared.fault.Fault.{Fault}
use Rattle.qcow2_base.specs.declared.fault.Fault.TheVariants.{NotQcow2, Version, ClusterSize, HeaderShort, HeaderBig, L1Unaligned, ReftableUnaligned, RefcountWidth, BackingNameLong, BackingNamePlace, BackingNameText, ExtensionsExceed, ExtensionText, FeatureNameCut, FormatConflict, DataFileConflict, Incompatible, EntryReserved, EntryUnaligned, TableTooBig, TablePlace, NoOffset, NotPlaced, HeaderTooLong, NameTooLong, FieldChanged, VersionNeeded, CannotGrow, TooMany, CounterRange, WrongLength, BadEdit, BadStep, Storage, NoMemory, ExternalData, Uncounted, Overlap, InUse, Shared, L1Short, Marked}
use Rattle.qcow2_help.specs.declared.faults.TheConstants.{BACKING_NAME_LONG, BACKING_NAME_PLACE, BACKING_NAME_TEXT, BAD_EDIT, BAD_STEP, CANNOT_GROW, CLUSTER_SIZE, COUNTER_RANGE, DATA_FILE_CONFLICT, ENTRY_RESERVED, ENTRY_UNALIGNED, EXTENSIONS_EXCEED, EXTENSION_TEXT, EXTERNAL_DATA, FEATURE_NAME_CUT, FIELD_CHANGED, FORMAT_CONFLICT, HEADER_BIG, HEADER_SHORT, HEADER_TOO_LONG, INCOMPATIBLE, IN_USE, L1_SHORT, L1_UNALIGNED, MARKED, NAME_TOO_LONG, NOT_PLACED, NOT_QCOW2, NO_MEMORY, NO_OFFSET, OVERLAP, REFCOUNT_WIDTH, REFTABLE_UNALIGNED, SHARED, STORAGE, TABLE_PLACE, TABLE_TOO_BIG, TOO_MANY, UNCOUNTED, VERSION, VERSION_NEEDED, WRONG_LENGTH}

-- the text on a fault
unfoldable pub fault_text : Fault → List ℕ
fault_text NotQcow2 = NOT_QCOW2.now
fault_text Version = VERSION.now
fault_text ClusterSize = CLUSTER_SIZE.now
fault_text HeaderShort = HEADER_SHORT.now
fault_text HeaderBig = HEADER_BIG.now
fault_text L1Unaligned = L1_UNALIGNED.now
fault_text ReftableUnaligned = REFTABLE_UNALIGNED.now
fault_text RefcountWidth = REFCOUNT_WIDTH.now
fault_text BackingNameLong = BACKING_NAME_LONG.now
fault_text BackingNamePlace = BACKING_NAME_PLACE.now
fault_text BackingNameText = BACKING_NAME_TEXT.now
fault_text ExtensionsExceed = EXTENSIONS_EXCEED.now
fault_text ExtensionText = EXTENSION_TEXT.now
fault_text FeatureNameCut = FEATURE_NAME_CUT.now
fault_text FormatConflict = FORMAT_CONFLICT.now
fault_text DataFileConflict = DATA_FILE_CONFLICT.now
fault_text (Incompatible features) = INCOMPATIBLE.now
fault_text EntryReserved = ENTRY_RESERVED.now
fault_text EntryUnaligned = ENTRY_UNALIGNED.now
fault_text TableTooBig = TABLE_TOO_BIG.now
fault_text TablePlace = TABLE_PLACE.now
fault_text NoOffset = NO_OFFSET.now
fault_text NotPlaced = NOT_PLACED.now
fault_text HeaderTooLong = HEADER_TOO_LONG.now
fault_text NameTooLong = NAME_TOO_LONG.now
fault_text (FieldChanged field) = FIELD_CHANGED.now
fault_text VersionNeeded = VERSION_NEEDED.now
fault_text CannotGrow = CANNOT_GROW.now
fault_text TooMany = TOO_MANY.now
fault_text CounterRange = COUNTER_RANGE.now
fault_text WrongLength = WRONG_LENGTH.now
fault_text (BadEdit position) = BAD_EDIT.now
fault_text (BadStep position) = BAD_STEP.now
fault_text Storage = STORAGE.now
fault_text NoMemory = NO_MEMORY.now
fault_text ExternalData = EXTERNAL_DATA.now
fault_text (Uncounted part) = UNCOUNTED.now
fault_text Overlap = OVERLAP.now
fault_text InUse = IN_USE.now
fault_text (Shared position) = SHARED.now
fault_text L1Short = L1_SHORT.now
fault_text Marked = MARKED.now
