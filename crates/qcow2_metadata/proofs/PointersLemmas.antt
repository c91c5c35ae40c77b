use Rattle.std.proofs.Common.{◌≡◌, replicate, ◌==◌, Bool, true, false, if◌then◌else◌, ℕ, ◌+◌, ◌-◌, ◌*◌, ◌%◌, ◌^◌, Option, None, Some, option_map, ◌<◌, ◌≤◌, List, [], ◌∷◌, drop, length, slice_range, sym, ◌∙◌, arith}
use Rattle.std.proofs.lemmas.List.{get_or-replicate, length-drop, length-take}
use Rattle.std.proofs.Math.Nat.{mul-mod_left}
use Rattle.std.proofs.lemmas.List.Edits.{get_or-between}
use Rattle.qcow2_base.proofs.OnDiskStructLemmas.{number_of_same}
use Rattle.qcow2_base.specs.OnDiskStruct.{HoldsLayout, LayoutField, big}
use Rattle.qcow2_base.specs.OnDiskStruct.{Big}
use Rattle.qcow2_base.specs.Storage as storage
use Rattle.qcow2_base.specs.declared.types.HostCluster.{HostCluster}
use Rattle.qcow2_metadata.specs.Placed.{Layout, offset_of}
use Rattle.qcow2_metadata.specs.Table.{TableState}
use Rattle.qcow2_metadata.specs.Header.Pointers.{HoldsBetween, cleared_fields}
use Rattle.qcow2_metadata.specs.Header.{HeaderRecord}
use Rattle.qcow2_base.specs.Storage.{Holds, Image, image_of}

-- an image that has a part of a structure's bytes has the fields that lie in it
pub part-between : (image : Image) (bytes : List ℕ) (first end : ℕ) (fields : List LayoutField) → end ≤ length bytes
    → Holds image first (slice_range bytes first end) → HoldsLayout (image_of bytes) fields → HoldsBetween image first end fields
part-between image bytes first end [] within held layout = tt
part-between image bytes first end (f ∷ fields) within held layout = (
  λ low high.
      let same : (k : ℕ) → k < f.size → image (f.place + k) ≡ image_of bytes (f.place + k) = λ k below.
      let i : ℕ = f.place + k - first in
      let place : first + i ≡ f.place + k = omega arith in
      let inside : i < length (slice_range bytes first end) =
      omega (arith, length-take (end - first) (drop first bytes), length-drop first bytes) in
      rw (← place) (sym (held.each i inside) ∙ get_or-between bytes first end i 0 (omega arith))
      in
      number_of_same f.order image (image_of bytes) f.size f.place f.place same ∙ layout.0,
  part-between image bytes first end fields within held layout.1,
)

-- an image with eight bytes of 0 there has the fields that are written of a header whose autoclear features are cleared
pub cleared-between : (image : Image) (header : HeaderRecord) → Holds image 88 (replicate 8 0) → HoldsBetween image 88 96 (cleared_fields header)
unfolding storage.be
cleared-between image header held = by_cases (header.base.autoclear_features == 0)
  where
    zero-at : (k : ℕ) → k < 8 → image (88 + k) ≡ 0
    zero-at k below = sym (held.each k below) ∙ get_or-replicate 8 k 0 0 below

    by_cases : (none : Bool) → HoldsBetween image 88 96 (if none then [] else (big 88 8 0 ∷ []))
    by_cases true = tt
    by_cases false = (λ low high. number_of_same Big image (λ _. 0) 8 88 88 zero-at, tt)

-- a table's offset is a multiple of the cluster size
pub table_offset_aligned : (layout : Layout) (table : TableState) (offset cb : ℕ)
    → Some offset ≡ option_map (offset_of layout) table.cluster
    → layout.cluster_bits ≡ table.geometry.cluster_bits
    → table.geometry.cluster_bits ≡ cb → offset % 2 ^ cb ≡ 0
table_offset_aligned layout table offset cb is bits same = by_cluster table.cluster is
  where
    by_cluster : (cluster : Option HostCluster) → Some offset ≡ option_map (offset_of layout) cluster → offset % 2 ^ cb ≡ 0
    by_cluster None at = absurd cc
    by_cluster (Some cluster) at =
        let there : offset ≡ cluster.0 * 2 ^ layout.cluster_bits = cc in
        rw (there, bits, same) (mul-mod_left cluster.0 (2 ^ cb))
