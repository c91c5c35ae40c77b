-- Which header is left once its marks are cleared, and what is written then?
use Rattle.std.specs.Prelude.{Bool, ◌||◌, ◌*◌, ◌/◌, if◌then◌else◌, List, [], ◌∷◌}
use Rattle.qcow2_base.specs.OnDiskStruct.{LayoutField, big}
use Rattle.qcow2_metadata.specs.Header.{HeaderRecord, has_feature}
use Rattle.qcow2_metadata.specs.declared.header.features.IncompatibleFeatures.TheVariants.{Corrupt, Dirty}

-- whether the image is marked dirty or corrupt
abbrev pub is_marked : HeaderRecord → Bool
is_marked header = has_feature Dirty header.base || has_feature Corrupt header.base

-- the header without these two marks, which are bits 0 and 1
abbrev pub without_marks : HeaderRecord → HeaderRecord
without_marks header = record header {
  base = record header.base { incompatible_features = header.base.incompatible_features / 4 * 4 };
}

-- what is written of a header whose marks are cleared: the field of its incompatible features, where it has any mark
abbrev pub unmarked_fields : HeaderRecord → List LayoutField
unmarked_fields header =
    if is_marked header then (big 72 8 (without_marks header).base.incompatible_features ∷ []) else []
