-- What does a header say once one of its fields is another, and which of its bytes are written then?
use Rattle.std.specs.Prelude.{◌≡◌, ◌⊎◌, ℕ, ◌+◌, ◌-◌, ◌*◌, ◌^◌, ◌≤◌, List, [], ◌∷◌, length, nat_lt, ◌==◌, if◌then◌else◌, OnOk, IsOkUnless, Option, Some, None, Result}
use Rattle.std.specs.Int.{div_ceil}
use Rattle.qcow2_base.specs.OnDiskStruct.{LayoutField, big, number_in}
use Rattle.qcow2_base.specs.Storage.{Image, OnImages, OnlyWrites, StorageState}
use Rattle.qcow2_base.specs.declared.fault.Fault.{Fault}
use Rattle.qcow2_base.specs.declared.fault.Fault.TheVariants.{NotPlaced, Storage, TooMany}
use Rattle.qcow2_metadata.specs.Header.{HeaderRecord}
use Rattle.qcow2_metadata.specs.Table.{TableState}

-- why a header can't refer to a table of that many units: it has no cluster, or the field can't count them
abbrev pub pointer_fault : TableState → ℕ → Option Fault
pointer_fault table count = elim table.cluster [
  | None ↦ Some NotPlaced
  | Some cluster ↦ if nat_lt count (2 ^ 32) then None else Some TooMany
]

-- how many clusters a table takes
abbrev pub table_clusters : TableState → ℕ
table_clusters table = div_ceil (8 * length table.numbers) (2 ^ table.geometry.cluster_bits)

-- the image has the fields that lie between two places
abbrev pub HoldsBetween : Image → ℕ → ℕ → List LayoutField → Type 0
HoldsBetween image first end [] = Unit {0}
HoldsBetween image first end (f ∷ fields) =
    (first ≤ f.place → f.place + f.size ≤ end → number_in f.order image f.place f.size ≡ f.value)
    × HoldsBetween image first end fields

-- what is written of a header whose autoclear features are cleared: their field, where it names any
abbrev pub cleared_fields : HeaderRecord → List LayoutField
cleared_fields header = if header.base.autoclear_features == 0 then [] else (big 88 8 0 ∷ [])

-- no byte of the backing file's name is in that field
abbrev pub HasNameElsewhere : HeaderRecord → Type 0
HasNameElsewhere header = (header.v2.backing_file_offset ≡ 0)
    ⊎ (header.v2.backing_file_offset + header.v2.backing_file_size ≤ 88) ⊎ (88 + 8 ≤ header.v2.backing_file_offset)

-- a write of a header between two places, which ended in this answer. After an Ok those of the fields that are between
-- them are there, and no byte outside the range changes
pub record WritesPart {T : Type 0} (answer : Result T Fault) (fields : List LayoutField) (first end : ℕ) (old new : StorageState) : Type 0 where
  pub written : OnOk answer (OnImages old new (λ _ after. HoldsBetween after first end fields))
  pub faults : IsOkUnless answer Storage
  pub storage : OnlyWrites answer (Some first) (end - first) old new
