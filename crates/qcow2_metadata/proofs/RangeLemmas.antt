use Rattle.std.proofs.Common.{◌≡◌, ℕ, ◌+◌, ◌<◌, List, drop, get_or, take, length, min, ◌-◌, ◌*◌, ap, sym, ◌∙◌, refl, arith, get_or-drop, get_or-take, length-drop, length-take}
use Rattle.std.proofs.lemmas.List.FromFn.{fill_by_all, get_or-map-range_with_len, length-map-range_with_len}
use Rattle.qcow2_base.specs.Storage.{Holds, Image}
use Rattle.qcow2_metadata.specs.Range.{bytes_at}

-- the bytes that an image has from an offset on
pub held-bytes_at : (image : Image) (offset : ℕ) (bytes : List ℕ) → Holds image offset bytes → bytes ≡ bytes_at image offset (length bytes)
held-bytes_at image offset bytes held = fill_by_all (λ i. image (offset + i)) bytes (length bytes) 0 refl held.each

-- the bytes from a place on are as many as are asked for
pub length-bytes_at : (image : Image) (place len : ℕ) → length (bytes_at image place len) ≡ len
length-bytes_at image place len = length-map-range_with_len (λ i. image (place + i)) 0 len

-- a chunk that was read is that of all bytes
pub chunk_at-held : (image : Image) (place len index : ℕ) (read : List ℕ) → Holds image (place + 48 * index) read
    → length read ≡ min 48 (len - 48 * index) → take 48 (drop (48 * index) (bytes_at image place len)) ≡ read
chunk_at-held image place len index read held count =
    let all = bytes_at image place len in
    let first : ℕ = 48 * index in
    let chunk = take 48 (drop first all) in
    let same : length chunk ≡ length read =
    omega (arith, length-take 48 (drop first all), length-drop first all, length-bytes_at image place len, count) in
    let each : (k : ℕ) → k < length read → get_or chunk k 0 ≡ image (place + first + k) = λ k below.
    let here : place + (first + k) ≡ place + first + k = omega arith in
    let inside : first + k < len = omega (arith, count, below) in
    get_or-take 48 (drop first all) k 0 (omega (arith, count, below)) ∙ get_or-drop first all k 0
    ∙ get_or-map-range_with_len (λ i. image (place + i)) 0 len (first + k) (first + k) 0 inside (omega arith) ∙ ap image here
    in
    fill_by_all (λ k. image (place + first + k)) chunk (length read) 0 same each
    ∙ sym (held-bytes_at image (place + first) read held)
