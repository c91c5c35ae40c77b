use Rattle.std.proofs.Common.{◌≡◌, ℕ, ◌*◌, ◌/◌, ◌^◌, ◌≤◌, Bool, true, false, if◌then◌else◌, IfOk, List, [], ◌∷◌, length, map, None, Result, Ok, Err, refl, sym, ◌∙◌, ap, subst, pow_pos, zero-mul}
use Rattle.std.specs.List.{list_any, range_with_len}
use Rattle.std.proofs.Math.Nat.{mul-div_cancel_left}
use Rattle.qcow2_base.specs.Storage.{Image, image_of}
use Rattle.qcow2_base.specs.Types.{IsClusterBits}
use Rattle.qcow2_base.specs.declared.fault.Fault.{Fault}
use Rattle.qcow2_base.specs.declared.fault.Fault.TheVariants.{CounterRange, ExternalData}
use Rattle.qcow2_base.specs.declared.types.HostCluster.{HostCluster}
use Rattle.qcow2_edits.specs.Edits.{cluster_numbers}
use Rattle.qcow2_edits.specs.Settled.{block_or_refusal, cannot_settle, first_counted, settled_block}
use Rattle.qcow2_metadata.specs.Header.{HeaderRecord, new_header, uses_external_data}
use Rattle.qcow2_metadata.specs.Placed.{new_placed}
use Rattle.qcow2_metadata.specs.Refblock.{BlockGeometry, BlockState, block_entries, block_geometry, block_geometry_of, block_layout}
use Rattle.qcow2_metadata.specs.Refblock.Packing.{counters_at, width}
use Rattle.qcow2_metadata.specs.Results.{and_then, result_map}
use Rattle.qcow2_metadata.specs.declared.entries.ClustersToFreeEntry.{ClustersToFreeEntry}
use Rattle.qcow2_metadata.proofs.RefblockLemmas.{block_bytes}
use Rattle.qcow2_bytes.specs.Refcounts.{block_bits_in, cluster_of, clusters_to_free, refcounts_of, settled_refcounts}
use Rattle.qcow2_bytes.specs.declared.refcounts.settled.HostClusters.{HostClusters}

-- the counters of a block
abbrev numbers_of : BlockState → List ℕ
numbers_of block = block.numbers

-- as many counters are in a block's bytes as it has
entries_in : (len cb order : ℕ) → len ≡ 2 ^ cb → IsClusterBits cb → order ≤ 6 → 8 * len / width order ≡ block_entries cb order
entries_in len cb order size bits orders =
    ap (λ n. n / width order) (ap (λ n. 8 * n) size ∙ sym (block_bytes cb order bits orders))
    ∙ mul-div_cancel_left (block_entries cb order) (pow_pos order)

same_if : (t : Bool) (one other : BlockState) → one.numbers ≡ other.numbers
    → result_map numbers_of (if t then Err CounterRange else Ok one) ≡ result_map numbers_of (if t then Err CounterRange else Ok other)
same_if true one other same = refl
same_if false one other same = ap (λ (numbers : List ℕ). Ok numbers) same

-- a block's cluster and flag make no difference to its counters
settled_alike : (block : BlockState) (first : ℕ) (freed : List ClustersToFreeEntry) (gained : List ℕ)
    → result_map numbers_of (block_or_refusal (new_placed block.numbers block.geometry) first freed gained)
    ≡ result_map numbers_of (block_or_refusal block first freed gained)
settled_alike block first freed gained =
    same_if (list_any (cannot_settle block first freed gained) (range_with_len 0 (length block.numbers)))
    (settled_block (new_placed block.numbers block.geometry) first freed gained) (settled_block block first freed gained) refl

geometry_if : (t : Bool) (settled : BlockState) → IfOk (if t then Err CounterRange else Ok settled) (λ (block : BlockState). block.geometry ≡ settled.geometry)
geometry_if true settled = tt
geometry_if false settled = refl

-- nor do they change a block's size
pub settled-geometry : (block new : BlockState) (first : ℕ) (freed : List ClustersToFreeEntry) (gained : List ℕ)
    → Ok new ≡ block_or_refusal block first freed gained → new.geometry ≡ block.geometry
settled-geometry block new first freed gained is =
    subst (λ (answer : Result BlockState Fault). IfOk answer (λ (b : BlockState). b.geometry ≡ block.geometry)) (sym is)
    (geometry_if (list_any (cannot_settle block first freed gained) (range_with_len 0 (length block.numbers))) (settled_block block first freed gained))

-- an image with a new header has no external data file
pub no_external_data : (header : HeaderRecord) (cb order : ℕ) (answer other : Result BlockState Fault) → header ≡ new_header cb order None None None
    → answer ≡ (if uses_external_data header then Err ExternalData else other) → answer ≡ other
no_external_data header cb order answer other is exact =
    exact ∙ ap (λ (h : HeaderRecord). if uses_external_data h then Err ExternalData else other) is

-- clusters have the numbers that they were made of
pub numbers_again : (numbers : List ℕ) → cluster_numbers (map cluster_of numbers) ≡ numbers
numbers_again [] = refl
numbers_again (n ∷ numbers) = ap (λ (rest : List ℕ). n ∷ rest) (numbers_again numbers)

-- what a block that was read from bytes is settled to, is what the bytes are
pub settled-bytes : (bytes : List ℕ) (cb order index : ℕ) (freed : List HostClusters) (gained : List ℕ) (block : BlockState) (answer : Result BlockState Fault)
    → Ok cb ≡ block_bits_in (length bytes) order → IsClusterBits cb → order ≤ 6 → length bytes ≡ 2 ^ cb
    → block.numbers ≡ counters_at order (image_of bytes) 0 (block_entries cb order) → block.geometry ≡ block_geometry cb order
    → answer ≡ block_or_refusal block (first_counted block index) (map clusters_to_free freed) gained
    → settled_refcounts bytes order index freed gained ≡ result_map numbers_of answer
settled-bytes bytes cb order index freed gained block answer found bits orders size numbers geometry is =
    let items = map clusters_to_free freed in
    let settled = λ (ns : List ℕ) (g : BlockGeometry).
    result_map numbers_of (block_or_refusal (new_placed ns g) (first_counted (new_placed ns g) index) items gained) in
    let here : settled_refcounts bytes order index freed gained ≡ settled (refcounts_of bytes order) (block_geometry cb order) =
    ap (λ (r : Result ℕ Fault). and_then r (λ (c : ℕ). settled (refcounts_of bytes order) (block_geometry c order))) (sym found) in
    let read : refcounts_of bytes order ≡ block.numbers =
    ap (counters_at order (image_of bytes) 0) (entries_in (length bytes) cb order size bits orders) ∙ sym numbers in
    here ∙ ap (λ (ns : List ℕ). settled ns (block_geometry cb order)) read ∙ ap (λ (g : BlockGeometry). settled block.numbers g) (sym geometry)
    ∙ settled_alike block (first_counted block index) items gained ∙ ap (result_map numbers_of) (sym is)

-- bytes that a block was copied to have its counters
pub copied-bytes : (bytes : List ℕ) (cb order : ℕ) (block : BlockState) → IsClusterBits cb → order ≤ 6 → length bytes ≡ 2 ^ cb
    → block.geometry ≡ block_geometry cb order → (block_layout block.geometry).numbers_from (image_of bytes) 0 ≡ block.numbers
    → refcounts_of bytes order ≡ block.numbers
copied-bytes bytes cb order block bits orders size geometry copied =
    ap (counters_at order (image_of bytes) 0) (entries_in (length bytes) cb order size bits orders)
    ∙ subst (λ (g : BlockGeometry). (block_layout g).numbers_from (image_of bytes) 0 ≡ block.numbers) geometry copied

-- the counters of the block at the begin of an image that has these bytes
pub first_block : (order cb n : ℕ) (image : Image) (bytes : List ℕ) → image ≡ image_of bytes
    → counters_at order image (0 * 2 ^ cb) n ≡ counters_at order (image_of bytes) 0 n
first_block order cb n image bytes same =
    ap (λ (there : Image). counters_at order there (0 * 2 ^ cb) n) same ∙ ap (λ (offset : ℕ). counters_at order (image_of bytes) offset n) (zero-mul (2 ^ cb))

-- a block that was read from bytes, in an image with a new header
pub record IsReadFrom (bytes : List ℕ) (cb order : ℕ) (header : HeaderRecord) (block : BlockState) : Type 0 where
  pub found : Ok cb ≡ block_bits_in (length bytes) order
  pub bits : IsClusterBits cb
  pub orders : order ≤ 6
  pub size : length bytes ≡ 2 ^ cb
  pub header_is : header ≡ new_header cb order None None None
  pub geometry : block.geometry ≡ block_geometry_of header
  pub numbers : block.numbers ≡ counters_at header.base.refcount_order (image_of bytes) 0 (block_entries header.v2.cluster_bits header.base.refcount_order)

geometry_is : (bytes : List ℕ) (cb order : ℕ) (header : HeaderRecord) (block : BlockState) → IsReadFrom bytes cb order header block
    → block.geometry ≡ block_geometry cb order
geometry_is bytes cb order header block read = read.geometry ∙ ap (λ (h : HeaderRecord). block_geometry_of h) read.header_is

-- what settling such a block answers, is what settling its bytes does
pub settled-answer : (bytes : List ℕ) (cb order index : ℕ) (freed : List HostClusters) (gained : List ℕ) (header : HeaderRecord) (block : BlockState)
    (items : List ClustersToFreeEntry) (hosts : List HostCluster) (answer : Result BlockState Fault)
    → IsReadFrom bytes cb order header block → items ≡ map clusters_to_free freed → hosts ≡ map cluster_of gained
    → answer ≡ (if uses_external_data header then Err ExternalData else block_or_refusal block (first_counted block index) items (cluster_numbers hosts))
    → settled_refcounts bytes order index freed gained ≡ result_map numbers_of answer
settled-answer bytes cb order index freed gained header block items hosts answer read lost won exact =
    let first = first_counted block index in
    let numbers = read.numbers ∙ ap (λ (h : HeaderRecord).
    counters_at h.base.refcount_order (image_of bytes) 0 (block_entries h.v2.cluster_bits h.base.refcount_order)) read.header_is in
    let plain = no_external_data header cb order answer (block_or_refusal block first items (cluster_numbers hosts)) read.header_is exact in
    settled-bytes bytes cb order index freed gained block answer read.found read.bits read.orders read.size numbers
    (geometry_is bytes cb order header block read)
    (plain ∙ ap (λ (xs : List ClustersToFreeEntry). block_or_refusal block first xs (cluster_numbers hosts)) lost
    ∙ ap (λ (ns : List ℕ). block_or_refusal block first (map clusters_to_free freed) ns)
    (ap (λ (xs : List HostCluster). cluster_numbers xs) won ∙ numbers_again gained))

-- bytes that a settled block was copied to have its counters
pub settled-copy : (bytes after : List ℕ) (cb order first : ℕ) (header : HeaderRecord) (block new : BlockState)
    (items : List ClustersToFreeEntry) (numbers : List ℕ) → IsReadFrom bytes cb order header block
    → Ok new ≡ (if uses_external_data header then Err ExternalData else block_or_refusal block first items numbers)
    → length after ≡ length bytes → (block_layout new.geometry).numbers_from (image_of after) 0 ≡ new.numbers
    → refcounts_of after order ≡ new.numbers
settled-copy bytes after cb order first header block new items numbers read exact len copied =
    let plain = no_external_data header cb order (Ok new) (block_or_refusal block first items numbers) read.header_is exact in
    copied-bytes after cb order new read.bits read.orders (len ∙ read.size)
    (settled-geometry block new first items numbers plain ∙ geometry_is bytes cb order header block read) copied
