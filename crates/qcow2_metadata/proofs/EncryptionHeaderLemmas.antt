use Rattle.std.proofs.Common.{◌≡◌, ℕ, ◌==◌, not, ◌+◌, ◌<◌, List, length, get_or, drop, map, Some, None, true, false, refl, sym, if◌then◌else◌}
use Rattle.std.proofs.lemmas.List.{drop_more}
use Rattle.std.specs.List.{list_any}
use Rattle.qcow2_base.specs.declared.fault.UncountedPart.TheVariants.{Bitmaps, Encryption, Snapshots}
use Rattle.qcow2_metadata.specs.Header.{HeaderRecord, has_bitmaps, hides_keys, uncounted_part}
use Rattle.qcow2_metadata.specs.Header.EncryptionHeader.{encryption_by, encryption_in, encryption_type}
use Rattle.qcow2_metadata.specs.Header.Extensions.{extension_of, is_unknown}
use Rattle.qcow2_metadata.specs.declared.header.extensions.HeaderExtension.{HeaderExtension}

-- an extension of the type is the one of those from it on, where none comes after it
pub named_here : (cb : ℕ) (held : List HeaderExtension) (i : ℕ) (extension : HeaderExtension) → i < length held
    → extension ≡ get_or held i extension → is_unknown encryption_type (extension_of extension) ≡ true
    → encryption_by cb (map extension_of (drop i held))
    ≡ (if list_any (is_unknown encryption_type) (map extension_of (drop (i + 1) held)) then None else encryption_in cb (extension_of extension))
named_here cb held i extension below is here =
    let same : get_or held i extension ≡ extension = sym is in
    rw (drop_more held i extension below, same, here) refl

-- another is passed
pub named_later : (cb : ℕ) (held : List HeaderExtension) (i : ℕ) (extension : HeaderExtension) → i < length held
    → extension ≡ get_or held i extension → is_unknown encryption_type (extension_of extension) ≡ false
    → encryption_by cb (map extension_of (drop i held)) ≡ encryption_by cb (map extension_of (drop (i + 1) held))
named_later cb held i extension below is none =
    let same : get_or held i extension ≡ extension = sym is in
    rw (drop_more held i extension below, same, none) refl

-- the part that isn't read, by the first reason for it
pub uncounted_is : (header : HeaderRecord) → uncounted_part header
    ≡ (if not (header.v2.nb_snapshots == 0) then Some Snapshots
    else if has_bitmaps header then Some Bitmaps
    else if hides_keys header then Some Encryption
    else None)
unfolding uncounted_part
uncounted_is header = refl

-- what the extensions from one on name
pub ruleset named = (named_here, named_later)
