use Rattle.std.proofs.Common.{◌≡◌, ℕ, ◌+◌, ◌<◌, List, length, get_or, drop, map, Some, None, refl, sym}
use Rattle.std.proofs.lemmas.List.{drop_more}
use Rattle.qcow2_metadata.specs.Header.BitmapCount.{bitmap_count_in, first_bitmap_count}
use Rattle.qcow2_metadata.specs.Header.Extensions.{extension_of}
use Rattle.qcow2_metadata.specs.declared.header.extensions.HeaderExtension.{HeaderExtension}

-- an extension that says a number of bitmaps is the first one of those from it on
pub said_here : (held : List HeaderExtension) (i : ℕ) (extension : HeaderExtension) (count : ℕ) → i < length held
    → extension ≡ get_or held i extension → bitmap_count_in (extension_of extension) ≡ Some count
    → first_bitmap_count (map extension_of (drop i held)) ≡ Some count
said_here held i extension count below is here =
    let same : get_or held i extension ≡ extension = sym is in
    rw (drop_more held i extension below, same, here) refl

-- where it says none, the first one comes after it
pub said_later : (held : List HeaderExtension) (i : ℕ) (extension : HeaderExtension) → i < length held
    → extension ≡ get_or held i extension → bitmap_count_in (extension_of extension) ≡ None
    → first_bitmap_count (map extension_of (drop i held)) ≡ first_bitmap_count (map extension_of (drop (i + 1) held))
said_later held i extension below is none =
    let same : get_or held i extension ≡ extension = sym is in
    rw (drop_more held i extension below, same, none) refl

-- what an extension says of the first one of those from it on
pub ruleset said = (said_here, said_later)
