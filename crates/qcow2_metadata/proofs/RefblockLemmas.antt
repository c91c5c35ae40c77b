use Rattle.std.proofs.Common.{◌≡◌, ℕ, ◌+◌, ◌-◌, ◌*◌, ◌/◌, ◌%◌, ◌^◌, ◌<◌, ◌≤◌, List, ◌++◌, length, replicate, slice_set, drop, take, append_assoc, length-append, length-take, Option, None, min, inl, inr, refl, ap, sym, ◌∙◌, arith, pow-add, pow_pos}
use mathlib.Core.Path.{fun_ext}
use Rattle.std.proofs.Math.Nat.{mul-add, mul-div_cancel_left, mul_assoc, pow-le-pow_right}
use Rattle.std.proofs.lemmas.Bool.{cases_lt}
use Rattle.std.proofs.lemmas.Grind.{common_steps}
use Rattle.std.proofs.lemmas.List.{take_at}
use Rattle.std.proofs.lemmas.List.Elements.{All-append, All-drop, All-take}
use Rattle.std.proofs.lemmas.List.FromFn.{fill_by_all}
use Rattle.qcow2_base.specs.Storage.{Holds, Image, IsBytes, SameOutside, image_of}
use Rattle.qcow2_metadata.proofs.PackingLemmas.{counter_at-packed, counters_at-append, counters_at-held, counters_at-same, narrow_cases, packed-counters_at}
use Rattle.qcow2_metadata.specs.Pieces.{Stand}
use Rattle.qcow2_base.specs.Types.{IsClusterBits}
use Rattle.qcow2_base.specs.declared.types.HostCluster.{HostCluster}
use Rattle.qcow2_metadata.specs.Refblock.Counters.{AreCounters, CanHold, IsOfOrder, kept_counters, with_numbers_from}
use Rattle.qcow2_metadata.specs.Placed.{ReadsBack}
use Rattle.qcow2_metadata.specs.Refblock.{BlockGeometry, IsValidBlock, block_entries, block_geometry, block_layout, greatest_counter}
use Rattle.qcow2_metadata.specs.Refblock.Packing.{counter_at, counters_at, counter_bytes, per_byte, width}
use Rattle.qcow2_metadata.specs.declared.refblock.counters.Counters.{Counters}
use Rattle.qcow2_metadata.specs.declared.refblock.counters.Counters.TheVariants.{U8, U16, U32, U64}
use Rattle.std.proofs.lemmas.Bool.Decides.{nat_tests}

-- the integers of a list hold each number that a counter holds
pub counter_holds : (order : ℕ) (counters : Counters) (number : ℕ) → IsOfOrder order counters → number ≤ greatest_counter order → CanHold counters number
counter_holds order (U8 list) number kind fits =
    narrow_cases (λ n. number ≤ greatest_counter n → number < 2 ^ 8) (λ f. omega arith) (λ f. omega arith) (λ f. omega arith) (λ f. omega arith) order kind fits
counter_holds order (U16 list) number kind fits = let same = rw kind at fits in omega (arith, same)
counter_holds order (U32 list) number kind fits = let same = rw kind at fits in omega (arith, same)
counter_holds order (U64 list) number kind fits = let same = rw kind at fits in omega (arith, same)

-- a block of zeros is valid
pub zeros_are_valid : (cb order : ℕ) (counters : Counters) → IsClusterBits cb → order ≤ 6 → kept_counters counters ≡ replicate (block_entries cb order) 0 → IsValidBlock (block_geometry cb order) None (kept_counters counters)
zeros_are_valid cb order counters bits orders zeros = grind (arith, pow_pos, common_steps)

-- and so is one with another counter
pub set-valid : (cb order : ℕ) (cluster : Option HostCluster) (old new : Counters) (index number : ℕ) → IsValidBlock (block_geometry cb order) cluster (kept_counters old) → kept_counters new ≡ slice_set (kept_counters old) index number → number ≤ greatest_counter order → IsValidBlock (block_geometry cb order) cluster (kept_counters new)
set-valid cb order cluster old new index number valid set fits = grind (arith, pow_pos, common_steps)

-- the counters of a block fill its cluster
pub block_bytes : (cb order : ℕ) → IsClusterBits cb → order ≤ 6 → width order * block_entries cb order ≡ 8 * 2 ^ cb
block_bytes cb order bits orders =
    let whole : order + (cb + 3 - order) ≡ 3 + cb = omega (arith, bits.0, orders) in
    sym (pow-add 2 order (cb + 3 - order)) ∙ ap (λ n. 2 ^ n) whole ∙ pow-add 2 3 cb

-- where the bytes of counters are in an image, these are the counters of the block there
pub stand-decoded : (order n len : ℕ) (counters : List ℕ) (image : Image) (offset : ℕ) → order ≤ 6 → AreCounters order counters → length counters ≡ n → width order * n ≡ 8 * len → Stand (counter_bytes order counters) len image offset → counters_at order image offset n ≡ counters
stand-decoded order n len counters image offset orders small count whole stand =
    counters_at-same order n len image (counter_bytes order counters) offset 0 orders whole (λ k below. let zero_k : 0 + k ≡ k = omega arith in rw zero_k (stand k below))
    ∙ ap (counters_at order (counter_bytes order counters) 0) (sym count)
    ∙ sym (fill_by_all (counter_at order (counter_bytes order counters) 0) counters (length counters) 0 refl (λ i below. sym (counter_at-packed order counters i orders small)))

-- a block that is written where it already is changes no byte
pub stand-same : (order n len : ℕ) (counters : List ℕ) (old new : Image) (offset : ℕ) → order ≤ 6 → IsBytes old → width order * n ≡ 8 * len → Stand (counter_bytes order counters) len new offset → SameOutside offset len old new → counters_at order old offset n ≡ counters → new ≡ old
stand-same order n len counters old new offset orders small whole stand outside same =
    fun_ext (λ o. elim (cases_lt o offset) [
      | inl before ↦ outside.before o before
      | inr from ↦ elim (cases_lt o (offset + len)) [
        | inl inside ↦
            let at : offset + (o - offset) ≡ o = omega arith in
            let below : o - offset < len = omega arith in
            rw at at (stand (o - offset) below ∙ ap (λ (xs : List ℕ). counter_bytes order xs (o - offset)) (sym same)
            ∙ packed-counters_at order n len old offset (o - offset) orders small whole below)
        | inr after ↦ outside.after o after
      ]
    ])

-- the bytes of a valid block read back as its counters
pub block_reads_back : (g : BlockGeometry) (cluster : Option HostCluster) (counters : List ℕ) → IsValidBlock g cluster counters → ReadsBack (block_layout g) counters
block_reads_back g cluster counters valid =
    let n = block_entries g.cluster_bits g.refcount_order in
    let whole = block_bytes g.cluster_bits g.refcount_order valid.numbers.bits valid.orders in
    record {
      valid = refl;
      decoded = λ image offset stand.
          stand-decoded g.refcount_order n (2 ^ g.cluster_bits) counters image offset valid.orders valid.numbers.fits valid.numbers.count whole stand;
      same = λ old new offset small stand outside.
          stand-same g.refcount_order n (2 ^ g.cluster_bits) counters old new offset valid.orders small whole stand outside;
    }

-- whole numbers of eight bytes are whole numbers of counters
pub whole_counters : (order len : ℕ) → order ≤ 6 → len % 8 ≡ 0 → width order * (8 * len / width order) ≡ 8 * len
whole_counters order len orders eights =
    let six : order + (6 - order) ≡ 6 = omega (arith, orders) in
    let power : width order * 2 ^ (6 - order) ≡ 64 = sym (pow-add 2 order (6 - order)) ∙ ap (λ n. 2 ^ n) six in
    let split : 8 * len ≡ width order * 2 ^ (6 - order) * (len / 8) = rw power (omega (arith, eights)) in
    let times : 8 * len ≡ width order * (2 ^ (6 - order) * (len / 8)) = split ∙ mul_assoc (width order) (2 ^ (6 - order)) (len / 8) in
    ap (λ n. width order * (n / width order)) times ∙ ap (λ n. width order * n) (mul-div_cancel_left (2 ^ (6 - order) * (len / 8)) (pow_pos order)) ∙ sym times

-- the counters of a block's first bytes, and then those of the bytes after them
pub counters-more : (order count done : ℕ) (image : Image) (offset : ℕ) (read buffer : List ℕ) → order ≤ 6 → length buffer % 8 ≡ 0 → Holds image (offset + done) buffer → width order * count ≡ 8 * done → read ≡ counters_at order image offset count → read ++ counters_at order (image_of buffer) 0 (8 * length buffer / width order) ≡ counters_at order image offset (count + 8 * length buffer / width order)
counters-more order count done image offset read buffer orders eights held whole so_far =
    let m = 8 * length buffer / width order in
    let same = counters_at-held order m (length buffer) image (offset + done) buffer orders (whole_counters order (length buffer) orders eights) (omega arith) held in
    rw (so_far, ← same) (sym (counters_at-append order count m done image offset orders whole))

-- as many bits are as many counters
pub same_count : (order a b len : ℕ) → width order * a ≡ 8 * len → width order * b ≡ 8 * len → a ≡ b
same_count order a b len left right = grind (arith, nat_tests, mul-div_cancel_left, pow_pos)

-- and that many bytes more are that many counters more
pub count-more : (order done len : ℕ) → order ≤ 6 → done % 8 ≡ 0 → len % 8 ≡ 0 → 8 * (done + len) / width order ≡ 8 * done / width order + 8 * len / width order
count-more order done len orders before eights =
    let counts = 8 * done / width order + 8 * len / width order in
    let whole : width order * counts ≡ 8 * (done + len) =
    omega (arith, mul-add (width order) (8 * done / width order) (8 * len / width order), whole_counters order done orders before, whole_counters order len orders eights) in
    same_count order (8 * (done + len) / width order) counts (done + len) (whole_counters order (done + len) orders (omega arith)) whole

-- numbers that are put in the places of a list's own leave it as long
pub with_numbers_from-length : (list : List ℕ) (first : ℕ) (numbers : List ℕ) → first + length numbers ≤ length list → length (with_numbers_from list first numbers) ≡ length list
with_numbers_from-length list first numbers within = grind (arith, nat_tests, common_steps)

-- and the list's first numbers are then the first of its own, and these
pub take-with_numbers_from : (list : List ℕ) (first : ℕ) (numbers : List ℕ) (n : ℕ) → n ≡ first + length numbers → first + length numbers ≤ length list → take n (with_numbers_from list first numbers) ≡ take first list ++ numbers
take-with_numbers_from list first numbers n count within =
    let before : length (take first list) ≡ first = omega (arith, length-take first list) in
    ap (take n) (sym (append_assoc (take first list) numbers (drop (first + length numbers) list)))
    ∙ take_at (take first list ++ numbers) (drop (first + length numbers) list) n (omega (arith, length-append (take first list) numbers, before))

-- where all fit their width, those of the list still do
pub with_numbers_from-small : (order : ℕ) (list : List ℕ) (first : ℕ) (numbers : List ℕ) → AreCounters order list → AreCounters order numbers → AreCounters order (with_numbers_from list first numbers)
with_numbers_from-small order list first numbers old new =
    let fits = λ (counter : ℕ). counter < 2 ^ width order in
    All-append fits (take first list) (numbers ++ drop (first + length numbers) list) (All-take fits first list old)
    (All-append fits numbers (drop (first + length numbers) list) new (All-drop fits (first + length numbers) list old))

-- a piece of a cluster is whole numbers of eight bytes
pub piece_in_eights : (cb piece len : ℕ) → IsClusterBits cb → len ≡ min (2 ^ cb - 4096 * piece) 4096 → len % 8 ≡ 0
piece_in_eights cb piece len bits is =
    let three : 3 + (cb - 3) ≡ cb = omega (arith, bits.0) in
    let whole : 2 ^ cb ≡ 8 * 2 ^ (cb - 3) = ap (λ n. 2 ^ n) (sym three) ∙ pow-add 2 3 (cb - 3) in
    omega (arith, is, whole)

-- the counters of that many bytes, by their width
pub narrow_length : (order len : ℕ) → order ≤ 3 → per_byte order * len ≡ 8 * len / width order
narrow_length order len low =
    narrow_cases (λ order. per_byte order * len ≡ 8 * len / width order) (omega arith) (omega arith) (omega arith) (omega arith) order low

-- a piece's counters end within a list that has room for its bytes
pub narrow_end : (order piece len count : ℕ) → order ≤ 3 → 8 * (4096 * piece + len) ≤ width order * count → 32768 * piece / 2 ^ order + 8 * len / 2 ^ order ≤ count
narrow_end order piece len count low within =
    narrow_cases (λ order. 8 * (4096 * piece + len) ≤ width order * count → 32768 * piece / 2 ^ order + 8 * len / 2 ^ order ≤ count) (λ h. omega arith) (λ h. omega arith) (λ h. omega arith) (λ h. omega arith) order low within

-- bytes that lie within counters have that many of them
pub narrow_within : (order bytes count : ℕ) → order ≤ 3 → 8 * bytes ≤ width order * count → per_byte order * bytes ≤ count
narrow_within order bytes count low within =
    narrow_cases (λ order. 8 * bytes ≤ width order * count → per_byte order * bytes ≤ count) (λ h. omega arith) (λ h. omega arith) (λ h. omega arith) (λ h. omega arith) order low within

-- a piece of a block lies within it
pub piece-within : (cb order count piece len : ℕ) → IsClusterBits cb → order ≤ 6 → count ≡ block_entries cb order → 4096 * piece < 2 ^ cb → len ≡ min (2 ^ cb - 4096 * piece) 4096 → 8 * (4096 * piece + len) ≤ width order * count
piece-within cb order count piece len bits orders entries some is = grind (arith, block_bytes)

-- a piece of a block lies in the largest cluster
pub piece-fits : (cb piece : ℕ) → IsClusterBits cb → 4096 * piece < 2 ^ cb → 4096 * piece < 2 ^ 21
piece-fits cb piece bits some = grind (arith, pow-le-pow_right)
