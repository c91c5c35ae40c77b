use Rattle.std.proofs.Common.{◌≡◌, ℕ, Bool, true, false, if◌then◌else◌, ◌+◌, ◌-◌, ◌*◌, ◌%◌, ◌^◌, ◌<◌, ◌≤◌, Some, None, ap, ◌∙◌, arith, pow_mono}
use Rattle.std.proofs.lemmas.Bool.{lt-ltb}
use Rattle.std.proofs.lemmas.Bool.Decides.{nat_tests}
use Rattle.std.proofs.lemmas.Nat.{pow_pos, pow-add, shl-shr, mul-le, div-mul-add, mod-mul-add}
use Rattle.std.proofs.Math.Nat.{mul-mod_left, add-mod_left, mod-eq_of_lt}
use Rattle.std.specs.Int.{div_ceil}
use Rattle.qcow2_base.specs.Bits.{field}
use Rattle.qcow2_metadata.specs.Header.{geometry}
use Rattle.qcow2_metadata.specs.declared.entries.l2_mapping.L2Mapping.{L2Mapping}
use Rattle.qcow2_metadata.specs.declared.entries.l2_mapping.L2Mapping.TheVariants.{DataFile, Backing, Zero, Compressed}
use Rattle.qcow2_metadata.specs.Entries.L2Mapping.{FitsEntry, IsPlaced, entry_of, is_told, mapping, meaning, stored_mapping, sectors_beyond, standard_mapping, backing, compressed, data_file, zeros}
use Rattle.qcow2_metadata.specs.Entries.{copied_bit, offset_field}
use Rattle.qcow2_metadata.specs.Entries.L2Entry.{l2_fault}
use Rattle.qcow2_metadata.proofs.EntriesLemmas.{l2_fault_zero, offset_in_sectors, sectors_fill_two_clusters}

-- the number of a flag
abbrev pub bit : Bool → ℕ
bit true = 1
bit false = 0

pub bit_below : (b : Bool) → bit b < 2
bit_below b = grind arith

-- the fields of a standard entry
record IsStandard (v offset copied zeros : ℕ) : Type 0 where
  kind : field v 62 1 ≡ 0
  reserved : field v 1 8 * 2 ^ 1 + field v 56 6 * 2 ^ 56 ≡ 0
  middle : offset_field v ≡ offset
  highest : field v 63 1 ≡ copied
  lowest : field v 0 1 ≡ zeros

-- the number of a mapping to a cluster
abbrev standard_number : ℕ → ℕ → Bool → Bool → ℕ
standard_number cb cluster copied flag = copied_bit copied + cluster * 2 ^ cb + bit flag

is_standard : (cb cluster : ℕ) (copied flag : Bool) → 9 ≤ cb → cluster * 2 ^ cb < 2 ^ 56 → IsStandard (standard_number cb cluster copied flag) (cluster * 2 ^ cb) (bit copied) (bit flag)
is_standard cb cluster copied flag low placed = grind (arith, nat_tests, offset_in_sectors, bit_below)

standard_is_lawful : (cb cluster : ℕ) (copied flag : Bool) → 9 ≤ cb → cluster * 2 ^ cb < 2 ^ 56 → l2_fault cb (standard_number cb cluster copied flag) ≡ None
standard_is_lawful cb cluster copied flag low placed = grind (arith, nat_tests, is_standard, mul-mod_left)

standard_reads : (cb guest_cluster cluster : ℕ) (copied flag external : Bool) → 9 ≤ cb → cluster * 2 ^ cb < 2 ^ 56 → mapping (geometry cb external) guest_cluster (standard_number cb cluster copied flag) ≡ standard_mapping flag (if is_told external cluster copied then Some cluster else None) copied (guest_cluster * 2 ^ cb)
standard_reads cb guest_cluster cluster copied flag external low placed = grind (arith, nat_tests, mul-le, pow_pos, is_standard, shl-shr)

told_data : (told copied : Bool) (cluster offset : ℕ) → standard_mapping false (if told then Some cluster else None) copied offset ≡ (if told then data_file cluster copied else backing offset)
told_data told copied cluster offset = grind arith

told_zeros : (told copied : Bool) (cluster offset : ℕ) → standard_mapping true (if told then Some cluster else None) copied offset ≡ (if told then zeros (Some cluster) copied else zeros None false)
told_zeros told copied cluster offset = grind arith

-- numbers that refer to no cluster
nothing_reads : (cb guest_cluster : ℕ) (external : Bool) → mapping (geometry cb external) guest_cluster 0 ≡ backing (guest_cluster * 2 ^ cb)
nothing_reads cb guest_cluster external = grind arith

zeros_read : (cb guest_cluster : ℕ) (external : Bool) → mapping (geometry cb external) guest_cluster 1 ≡ zeros None false
zeros_read cb guest_cluster external = grind arith

-- the fields of a compressed entry
record IsCompressed (cb v offset sectors : ℕ) : Type 0 where
  kind : field v 62 1 ≡ 1
  reserved : field v 63 1 ≡ 0
  lower : v % 2 ^ (70 - cb) ≡ offset
  upper : field v (70 - cb) (cb - 8) ≡ sectors

-- the sectors and the offset fit below bit 62
below_bit_62 : (cb offset sectors : ℕ) → 9 ≤ cb → cb ≤ 21 → offset < 2 ^ (70 - cb) → sectors < 2 ^ (cb - 8) → sectors * 2 ^ (70 - cb) + offset < 2 ^ 62
below_bit_62 cb offset sectors low high fits few =
    let power = pow-add 2 (cb - 8) (70 - cb) in
    let whole : cb - 8 + (70 - cb) ≡ 62 = omega arith in
    let split : 2 ^ 62 ≡ 2 ^ (cb - 8) * 2 ^ (70 - cb) = rw whole at power in
    let room : (sectors + 1) * 2 ^ (70 - cb) ≤ 2 ^ (cb - 8) * 2 ^ (70 - cb) = mul-le _ _ _ _ (omega arith) (omega arith) in
    omega (arith, split, room)

compressed_fields : (cb offset sectors : ℕ) → 9 ≤ cb → cb ≤ 21 → offset < 2 ^ (70 - cb) → sectors < 2 ^ (cb - 8) → IsCompressed cb (2 ^ 62 + sectors * 2 ^ (70 - cb) + offset) offset sectors
compressed_fields cb offset sectors low high fits few =
    let x = 70 - cb in
    let k = cb - 8 in
    let power = pow-add 2 k x in
    let whole : k + x ≡ 62 = omega arith in
    let split : 2 ^ 62 ≡ 2 ^ k * 2 ^ x = rw whole at power in
    let below = below_bit_62 cb offset sectors low high fits few in
    let joined : 2 ^ 62 + sectors * 2 ^ x + offset ≡ (2 ^ k + sectors) * 2 ^ x + offset = omega (arith, split) in
    let quotient = div-mul-add (2 ^ k + sectors) (2 ^ x) offset fits in
    let rest = mod-mul-add (2 ^ k + sectors) (2 ^ x) offset fits in
    let counted = add-mod_left (2 ^ k) sectors ∙ mod-eq_of_lt few in
    record {
      kind = omega (arith, below);
      reserved = omega (arith, below);
      lower = rw joined rest;
      upper = rw (joined, quotient) counted;
    }

compressed_is_lawful : (cb offset sectors : ℕ) → 9 ≤ cb → cb ≤ 21 → offset < 2 ^ (70 - cb) → offset < 2 ^ 56 → sectors < 2 ^ (cb - 8) → l2_fault cb (2 ^ 62 + sectors * 2 ^ (70 - cb) + offset) ≡ None
compressed_is_lawful cb offset sectors low high fits placed few = grind (arith, nat_tests, compressed_fields, lt-ltb)

-- that many sectors beyond the first can be stored
sectors_below : (cb offset length : ℕ) → 9 ≤ cb → length < 2 ^ cb → sectors_beyond offset length < 2 ^ (cb - 8)
sectors_below cb offset length low short =
    let all = sectors_fill_two_clusters cb (omega arith) in
    let one : 512 ≤ 2 ^ cb = pow_mono low in
    omega (arith, all, one)

compressed_reads : (cb guest_cluster offset length : ℕ) (external : Bool) → 9 ≤ cb → cb ≤ 21 → offset < 2 ^ (70 - cb) → offset < 2 ^ 56 → 0 < length → length < 2 ^ cb → mapping (geometry cb external) guest_cluster (2 ^ 62 + sectors_beyond offset length * 2 ^ (70 - cb) + offset) ≡ compressed offset (div_ceil (offset + length) 512 * 512 - offset)
compressed_reads cb guest_cluster offset length external low high fits placed some short =
    let few = sectors_below cb offset length low short in
    let fields = compressed_fields cb offset (sectors_beyond offset length) low high fits few in
    rw (fields.kind, fields.lower, fields.upper, mod-eq_of_lt placed) (ap (compressed offset) (omega arith))

-- the parts of a compressed entry's number are below bit 62
pub compressed_parts_fit : (cb offset length : ℕ) → 9 ≤ cb → cb ≤ 21 → offset < 2 ^ (70 - cb) → length < 2 ^ cb → sectors_beyond offset length * 2 ^ (70 - cb) + offset < 2 ^ 62
compressed_parts_fit cb offset length low high fits short = below_bit_62 cb offset _ low high fits (sectors_below cb offset length low short)

-- a mapping's number is valid
pub entry_is_lawful : (cb : ℕ) (m : L2Mapping) → IsPlaced cb m → FitsEntry cb m → l2_fault cb (entry_of cb (meaning m)) ≡ None
entry_is_lawful cb (DataFile host_cluster copied) placed fits =
    let at : copied_bit copied + host_cluster.0 * 2 ^ cb ≡ standard_number cb host_cluster.0 copied false = omega arith in
    rw at (standard_is_lawful cb host_cluster.0 copied false placed.bits.0 placed.within)
entry_is_lawful cb (Backing backing_offset) placed fits = l2_fault_zero cb
entry_is_lawful cb (Zero (Some host_cluster) copied) placed fits = standard_is_lawful cb host_cluster.0 copied true placed.bits.0 placed.within
entry_is_lawful cb (Zero None copied) placed fits = l2_fault_zero cb
entry_is_lawful cb (Compressed host_offset length) placed fits = compressed_is_lawful cb host_offset.0 _ placed.bits.0 placed.bits.1 fits.0 placed.within (sectors_below cb host_offset.0 length.value placed.bits.0 fits.1)

-- what a mapping's number reads as
pub entry_reads_back : (cb : ℕ) (m : L2Mapping) (guest_cluster : ℕ) (external : Bool) → IsPlaced cb m → FitsEntry cb m → mapping (geometry cb external) guest_cluster (entry_of cb (meaning m)) ≡ stored_mapping (geometry cb external) guest_cluster (meaning m)
entry_reads_back cb (DataFile host_cluster copied) guest_cluster external placed fits =
    let at : copied_bit copied + host_cluster.0 * 2 ^ cb ≡ standard_number cb host_cluster.0 copied false = omega arith in
    ap (mapping (geometry cb external) guest_cluster) at ∙ standard_reads cb guest_cluster host_cluster.0 copied false external placed.bits.0 placed.within ∙ told_data (is_told external host_cluster.0 copied) copied host_cluster.0 (guest_cluster * 2 ^ cb)
entry_reads_back cb (Backing backing_offset) guest_cluster external placed fits = nothing_reads cb guest_cluster external
entry_reads_back cb (Zero (Some host_cluster) copied) guest_cluster external placed fits =
    standard_reads cb guest_cluster host_cluster.0 copied true external placed.bits.0 placed.within ∙ told_zeros (is_told external host_cluster.0 copied) copied host_cluster.0 (guest_cluster * 2 ^ cb)
entry_reads_back cb (Zero None copied) guest_cluster external placed fits = zeros_read cb guest_cluster external
entry_reads_back cb (Compressed host_offset length) guest_cluster external placed fits = compressed_reads cb guest_cluster host_offset.0 length.value external placed.bits.0 placed.bits.1 fits.0 placed.within length.ok fits.1
