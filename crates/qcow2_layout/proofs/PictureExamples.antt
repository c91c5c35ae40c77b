use Rattle.std.proofs.Common.{◌≡◌, [], ◌∷◌, replicate, inl, inr, refl, arith}
use Rattle.qcow2_layout.specs.declared.parts.Part.TheVariants.{Data}
use Rattle.qcow2_layout.specs.Picture.{IsScale, shade_of, shapes_of}

-- a disk of 64 KiB has eighths of 8 KiB: the last byte of the first, and the first of the second
first-eighth : shade_of 65536 (Data (record { 0 = 8191 })) ≡ 1
first-eighth = refl

second-eighth : shade_of 65536 (Data (record { 0 = 8192 })) ≡ 2
second-eighth = refl

-- the last eighth, and data after the disk's end
last-eighth : shade_of 65536 (Data (record { 0 = 57344 })) ≡ 8
last-eighth = refl

past-the-end : shade_of 65536 (Data (record { 0 = 1048576 })) ≡ 8
past-the-end = refl

-- a disk without bytes
empty-disk : shade_of 0 (Data (record { 0 = 7 })) ≡ 8
empty-disk = refl

-- an image of as many clusters as squares, and one of one more
one-each : IsScale 4096 1
one-each = record { power = (0, refl); reaches = omega arith; least = inl refl }

two-each : IsScale 4097 2
two-each = record { power = (1, refl); reaches = omega arith; least = inr (omega arith) }

-- two squares of one colour and one of another
two-shapes : shapes_of (10 ∷ 10 ∷ 11 ∷ []) ≡ record { first = 0; count = 2; shade = 10 } ∷ record { first = 2; count = 1; shade = 11 } ∷ []
two-shapes = refl

-- a row ends after 64 squares
two-rows : shapes_of (replicate 65 0) ≡ record { first = 0; count = 64; shade = 0 } ∷ record { first = 64; count = 1; shade = 0 } ∷ []
two-rows = refl
