use Rattle.std.proofs.Common.{ℕ, ◌+◌, ◌-◌, ◌&&◌, ◌∷◌, ◌++◌, [], List, length, nat_le, nat_lt, slice_index, false, true}
use Rattle.qcow2_base.specs.Storage.{Image}

-- bytes at a place
abbrev pub Part : Type 0
Part = ℕ × List ℕ

-- the image that has these parts, an earlier one over a later one, and is 0 elsewhere
abbrev pub laid : List Part → Image
laid [] offset = 0
laid (part ∷ parts) offset = elim (nat_le part.0 offset && nat_lt offset (part.0 + length part.1)) [
  | true ↦ slice_index part.1 (offset - part.0)
  | false ↦ laid parts offset
]

abbrev pub byte : ℕ → ℕ → List Part
byte place value = (place, value ∷ []) ∷ []

-- an entry's number at a place: its first byte, and its last two
abbrev pub entry : ℕ → ℕ → ℕ → ℕ → List Part
entry place first seventh eighth = (place, first ∷ 0 ∷ 0 ∷ 0 ∷ 0 ∷ 0 ∷ seventh ∷ eighth ∷ []) ∷ []

-- a disk of 32768 bytes in clusters of 512, an L1 table of one entry at 512, and its L2 table at 1024. That has the data
-- of guest cluster 3, at 2560
abbrev pub sample : List Part
sample = byte 30 0x80 ++ byte 39 1 ++ byte 46 2 ++ entry 512 0x80 4 0 ++ entry 1048 0x80 0x0a 0
    ++ (0, 0x51 ∷ 0x46 ∷ 0x49 ∷ 0xfb ∷ 0 ∷ 0 ∷ 0 ∷ 3 ∷ []) ∷ byte 23 9 ++ byte 99 4 ++ byte 103 104

-- the same with a refcount table of one cluster at 1536, which names the block at 2048. There the counters of clusters 0 to 5 are 1,
-- in two bytes each
abbrev pub counted : List Part
counted = byte 54 6 ++ byte 59 1 ++ entry 1536 0 8 0
    ++ (2048, 0 ∷ 1 ∷ 0 ∷ 1 ∷ 0 ∷ 1 ∷ 0 ∷ 1 ∷ 0 ∷ 1 ∷ 0 ∷ 1 ∷ []) ∷ sample
