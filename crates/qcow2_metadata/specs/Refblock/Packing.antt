-- How do the counters of a refcount block lie in its bytes?
use Rattle.std.specs.Prelude.{ℕ, ◌+◌, ◌-◌, ◌*◌, ◌/◌, ◌%◌, ◌^◌, nat_le, if◌then◌else◌, List, [], ◌∷◌, map, take, drop}
use Rattle.std.specs.List.{range_with_len}
use Rattle.qcow2_base.specs.Bits.{field}
use Rattle.qcow2_base.specs.Storage.{Image, be}
use Rattle.qcow2_metadata.specs.Pieces.{big_endian_bytes}

-- by the refcount order: how many bits a counter has
abbrev pub width : ℕ → ℕ
width order = 2 ^ order

-- how many counters a byte has, where they are no wider than it
abbrev pub per_byte : ℕ → ℕ
per_byte order = 2 ^ (3 - order)

-- how many bytes a counter has, where it is wider than one
abbrev pub bytes_each : ℕ → ℕ
bytes_each order = 2 ^ (order - 3)

-- counter i of the block that begins at an offset of an image: a digit of a byte, the first one the lowest, or
-- a big-endian number of whole bytes
abbrev pub counter_at : ℕ → Image → ℕ → ℕ → ℕ
counter_at order image offset i =
    if nat_le order 3
    then field (image (offset + i / per_byte order)) (width order * (i % per_byte order)) (width order)
    else be image (offset + bytes_each order * i) (bytes_each order)

-- the first n counters of the block that begins at an offset of an image
abbrev pub counters_at : ℕ → Image → ℕ → ℕ → List ℕ
counters_at order image offset n = map (counter_at order image offset) (range_with_len 0 n)

-- the number with these digits to a base, the lowest digit first
abbrev pub from_digits : ℕ → List ℕ → ℕ
from_digits base [] = 0
from_digits base (digit ∷ digits) = digit + base * from_digits base digits

-- the bytes that counters take in an image: each is the sum of its counters, shifted to their places, or a part
-- of one big-endian counter
abbrev pub counter_bytes : ℕ → List ℕ → Image
counter_bytes order counters j =
    if nat_le order 3
    then from_digits (2 ^ width order) (take (per_byte order) (drop (per_byte order * j) counters))
    else big_endian_bytes (bytes_each order) counters j
