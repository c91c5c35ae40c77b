use Rattle.std.proofs.Common.{◌≡◌, ◌≢◌, ◌⊎◌, inl, inr, Result, Ok, Err, ℕ, ◌+◌, ◌<◌, List, [], ◌∷◌, ◌++◌, drop, length, map, set, refl, ap, arith}
use Rattle.std.proofs.lemmas.List.{length-map, length_push, map-append}
use Rattle.qcow2_base.specs.declared.fault.Fault.{Fault}
use Rattle.qcow2_base.specs.declared.fault.Fault.TheVariants.{NoMemory, Storage}
use Rattle.qcow2_image.proofs.ExtentsLemmas.{extents_more}
use Rattle.qcow2_image.specs.Extents.{IsExtent}
use Rattle.qcow2_image.specs.declared.extents.Extent.{Extent}
use Rattle.qcow2_bytes.specs.Images.Extents.{AreListed, GuestDisk, IsPutOver, PutsDiskExtents, extent_fields}
use Rattle.qcow2_bytes.specs.declared.images.extents.CutShort.{CutShort}
use Rattle.qcow2_bytes.specs.declared.images.extents.ExtentFields.{ExtentFields}

-- one item more is put
pub put-more : {T : Type 0} (items old new : List T) (item : T) → length items < length old → IsPutOver items old new
    → IsPutOver (items ++ item ∷ []) old (set new (length items) item)
put-more {T} items old new item room put = rw put (by_items items old room)
  where
    by_items : (items old : List T) → length items < length old
        → set (items ++ drop (length items) old) (length items) item ≡ (items ++ item ∷ []) ++ drop (length (items ++ item ∷ [])) old
    by_items [] [] room = grind arith
    by_items [] (x ∷ xs) room = refl
    by_items (i ∷ is) [] room = grind arith
    by_items (i ∷ is) (x ∷ xs) room = ap (λ rest. i ∷ rest) (by_items is xs (omega (arith, room)))

-- one extent more is listed
pub listed-more : (disk : GuestDisk) (from to : ℕ) (extents : List Extent) (extent : Extent) (old new : List ExtentFields)
    → AreListed disk from to extents old new → length extents < length old → IsExtent disk.contents disk.size to extent
    → AreListed disk from (to + extent.length) (extents ++ extent ∷ []) old (set new (length extents) (extent_fields extent))
listed-more disk from to extents extent old new listed room is = record {
  in_turn = extents_more disk.contents disk.size from to extents extent listed.in_turn is;
  room = rw (length_push extents extent) (omega (arith, room));
  put = rw (map-append extent_fields extents (extent ∷ []))
      (rw (length-map extents extent_fields) at (put-more (map extent_fields extents) old new (extent_fields extent)
      (rw (length-map extents extent_fields) room) listed.put));
}

pub listed-next : (disk : GuestDisk) (from to next count : ℕ) (extents : List Extent) (extent : Extent) (fields : ExtentFields) (old new : List ExtentFields)
    → AreListed disk from to extents old new → count ≡ length extents → count < length old → IsExtent disk.contents disk.size to extent
    → next ≡ to + extent.length → fields ≡ extent_fields extent
    → (more : List Extent) × AreListed disk from next more old (set new count fields) × (count + 1 ≡ length more)
listed-next disk from to next count extents extent fields old new listed counted room is ends same =
    let fits : length extents < length old = omega (arith, counted, room) in (
      extents ++ extent ∷ [],
      rw (ends, same, counted) (listed-more disk from to extents extent old new listed fits is),
      rw (length_push extents extent) (omega (arith, counted)),
    )

-- a list that was cut short by a fault that no storage makes
pub kept-cut : (disk : Result GuestDisk Fault) (from : ℕ) (old new : List ExtentFields) (cut : CutShort) (fault : Fault)
    → (fault ≡ NoMemory) ⊎ ((fault ≡ cut.fault) × (cut.fault ≢ Storage)) → PutsDiskExtents disk from old new (Err cut)
    → PutsDiskExtents disk from old new (Err (record { count = cut.count; fault = fault }))
kept-cut disk from old new cut fault (inr same) put = rw same.0 put
kept-cut (Ok disk) from old new cut fault (inl memory) put = (put.0, put.1, put.2, put.3, inl (inl memory), inr (inl memory))
kept-cut (Err refusal) from old new cut fault (inl memory) put = (put.0, (put.1.0, inl (inl memory)))
