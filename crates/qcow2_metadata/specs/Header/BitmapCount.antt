-- How many persistent bitmaps does an image have?
use Rattle.std.specs.Prelude.{ℕ, ◌==◌, ◌&&◌, nat_le, if◌then◌else◌, List, [], ◌∷◌, length, Option, Some, None}
use Rattle.std.specs.Option.{option_or}
use Rattle.qcow2_base.specs.Bits.{field}
use Rattle.qcow2_base.specs.Storage.{be, image_of}
use Rattle.qcow2_metadata.specs.Header.{HeaderRecord, bitmaps_type}
use Rattle.qcow2_metadata.specs.Header.Extensions.{Extension, Unknown}
use Rattle.qcow2_metadata.specs.Header.Features.{autoclear_bit}
use Rattle.qcow2_metadata.specs.declared.header.features.AutoclearFeatures.TheVariants.{Bitmaps}

-- the number of bitmaps that an extension says, if it is of their type: the big-endian one in its first four bytes
abbrev pub bitmap_count_in : Extension → Option ℕ
bitmap_count_in (Unknown number content) =
    if number == bitmaps_type && nat_le 4 (length content) then Some (be (image_of content) 0 4) else None
bitmap_count_in _ = None

-- the number that the first extension says which says one
abbrev pub first_bitmap_count : List Extension → Option ℕ
first_bitmap_count [] = None
first_bitmap_count (extension ∷ extensions) = option_or (bitmap_count_in extension) (first_bitmap_count extensions)

-- how many bitmaps agree with the disk, if an autoclear feature says that they do
abbrev pub consistent_bitmaps : HeaderRecord → Option ℕ
consistent_bitmaps header =
    if field header.base.autoclear_features (autoclear_bit Bitmaps) 1 == 1 then first_bitmap_count header.extensions else None
