-- How does the layout of an image become a picture of squares?
use Rattle.std.specs.Prelude.{◌≡◌, ◌⊎◌, ℕ, ◌+◌, ◌-◌, ◌*◌, ◌/◌, ◌%◌, ◌^◌, ◌<◌, ◌≤◌, max, min, Bool, ◌==◌, not, ◌||◌, List, [], ◌∷◌, flat_map, if◌then◌else◌, drop, length, slice_index, take}
use Rattle.std.specs.Int.{div_ceil}
use Rattle.std.specs.List.{range_with_len}
use Rattle.qcow2_base.specs.Storage.{Image, IsPowerOfTwo}
use Rattle.qcow2_check.specs.Uses.{ImageTables}
use Rattle.qcow2_layout.specs.Layout.{moved_part}
use Rattle.qcow2_layout.specs.Parts.{part_at, taken_end}
use Rattle.qcow2_layout.specs.declared.parts.Part.{Part}
use Rattle.qcow2_layout.specs.declared.parts.Part.TheVariants.{Compressed, Data, EncryptionHeader, Free, Header, L1Table, L2Table, Leaked, RefcountBlock, RefcountTable}
use Rattle.qcow2_layout.specs.declared.parts.Run.{Run}
use Rattle.qcow2_layout.specs.declared.picture.Shape.{Shape}

-- the colour of a part, which is the greater the more severe it is: free clusters, guest data by the eighths of a disk of
-- this size, compressed data, headers and mapping tables, refcounts, and leaked clusters
abbrev pub shade_of : ℕ → Part → ℕ
shade_of size Free = 0
shade_of size (Data offset) = 1 + min 7 (offset.0 / max 1 (div_ceil size 8))
shade_of size Compressed = 9
shade_of size Header = 10
shade_of size L1Table = 10
shade_of size EncryptionHeader = 10
shade_of size L2Table = 10
shade_of size RefcountTable = 11
shade_of size RefcountBlock = 11
shade_of size Leaked = 12

-- the colour of each cluster
abbrev pub Shades : Type 0
Shades = ℕ → ℕ

-- those of the clusters of an image with these tables
abbrev pub shades_of : ImageTables → Image → Shades
shades_of tables image c = shade_of tables.header.v2.size (part_at tables image c)

-- the colour of a square, whose clusters are those from one on, before another one, and before the image's end: their greatest,
-- or 0 where there is none
pub record IsShade (shades : Shades) (end first after shade : ℕ) : Type 0 where
  pub bound : (c : ℕ) → first ≤ c → c < after → c < end → shades c ≤ shade
  pub some : (shade ≡ 0) ⊎ ((c : ℕ) × (first ≤ c) × (c < after) × (c < end) × (shades c ≡ shade))

-- how many squares a picture has
abbrev pub all_squares : ℕ
all_squares = 4096

-- a picture: the colours of its squares, how many clusters a square stands for, the cluster that the image ends before, and
-- the size of the guest's disk
pub record PictureState : Type 0 where
  pub squares : List ℕ
  pub scale : ℕ
  pub end : ℕ
  pub size : ℕ

-- a square stands for a power of two of clusters, the least by which the squares reach an image's end
pub record IsScale (end scale : ℕ) : Type 0 where
  pub power : IsPowerOfTwo scale
  pub reaches : end ≤ scale * 4096
  pub least : (scale ≡ 1) ⊎ (scale * 2048 < end)

-- a square stands for as many clusters as before, where the squares have room for one more, and else for twice as many
pub record GrowsScale (end old new : ℕ) : Type 0 where
  pub power : IsPowerOfTwo new
  pub room : end < new * 4096
  pub least : (new ≡ old) ⊎ (end ≡ new * 2048)

-- squares that stand for that many clusters each have the colours of theirs, of an image that ends before a cluster
abbrev pub HaveShades : Shades → ℕ → ℕ → List ℕ → Type 0
HaveShades shades end scale squares = (i : ℕ) → i < all_squares
    → IsShade shades end (i * scale) (i * scale + scale) (slice_index squares i)

-- a picture shows clusters of these colours
abbrev pub Shows : Shades → PictureState → Type 0
Shows shades picture = HaveShades shades picture.end picture.scale picture.squares

-- a picture has all its squares, and they reach the image's end
pub record IsWhole (picture : PictureState) : Type 0 where
  pub count : length picture.squares ≡ all_squares
  pub scale : IsScale picture.end picture.scale

-- the picture of an image with these tables
pub record IsPictureOf (tables : ImageTables) (image : Image) (picture : PictureState) : Type 0 where
  pub whole : IsWhole picture
  pub end : picture.end ≡ taken_end tables image
  pub shown : Shows (shades_of tables image) picture

-- clusters have the colours of a run in a disk of this size
abbrev pub HasRun : Shades → ℕ → ℕ → Run → Type 0
HasRun shades size cb run =
    (k : ℕ) → k < run.count → shades (run.first.0 + k) ≡ shade_of size (moved_part (k * 2 ^ cb) run.part)

-- the squares of a picture that stand for clusters of the image
abbrev pub shown_squares : PictureState → List ℕ
shown_squares picture = take (div_ceil picture.end picture.scale) picture.squares

-- how many numbers a list begins with that are this one
abbrev pub same_count : ℕ → List ℕ → ℕ
same_count n [] = 0
same_count n (x ∷ xs) = if x == n then 1 + same_count n xs else 0

-- whether a square begins a row of 64, or has another colour than the one before
abbrev pub begins_shape : List ℕ → ℕ → Bool
begins_shape squares i = i % 64 == 0 || not (slice_index squares (i - 1) == slice_index squares i)

-- the squares of a row that have one colour, from one on
abbrev pub shape_at : List ℕ → ℕ → Shape
shape_at squares i = record {
  first = i;
  count = same_count (slice_index squares i) (take (64 - i % 64) (drop i squares));
  shade = slice_index squares i;
}

-- that, where they begin with it
abbrev pub shapes_at : List ℕ → ℕ → List Shape
shapes_at squares i = if begins_shape squares i then shape_at squares i ∷ [] else []

-- the squares as shapes of one colour, row by row
abbrev pub shapes_of : List ℕ → List Shape
shapes_of squares = flat_map (shapes_at squares) (range_with_len 0 (length squares))
