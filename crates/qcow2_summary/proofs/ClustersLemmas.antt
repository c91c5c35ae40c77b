use Rattle.std.proofs.Common.{◌≡◌, ◌≢◌, ℕ, ◌+◌, ◌-◌, ◌*◌, ◌/◌, ◌^◌, ◌<◌, ◌≤◌, inl, inr, arith}
use Rattle.std.proofs.lemmas.Bool.{cases_lt}
use Rattle.std.proofs.lemmas.Nat.{div-mul-add}
use Rattle.qcow2_base.specs.Storage.{Image, SameOutside}
use Rattle.qcow2_base.specs.declared.types.HostCluster.{HostCluster}
use Rattle.qcow2_metadata.proofs.TableLemmas.{full_cluster, table_numbers_same}
use Rattle.qcow2_metadata.specs.Header.{Geometry}
use Rattle.qcow2_metadata.specs.Placed.{numbers_at}
use Rattle.qcow2_metadata.specs.Table.{l2_entries, l2_layout}

-- a byte in another cluster stays where only those of one cluster change
pub other-cluster : (w block o : ℕ) (old new : Image) → 0 < w → SameOutside (block * w) w old new → o / w ≢ block → new o ≡ old o
other-cluster w block o old new some outside differs = elim (cases_lt o (block * w)) [
  | inl below ↦ outside.before o below
  | inr above ↦ elim (cases_lt o (block * w + w)) [
    | inl within ↦ absurd (differs (let parts : o ≡ block * w + (o - block * w) = omega (arith, above) in rw parts (div-mul-add block w (o - block * w) (omega (arith, within, above)))))
    | inr past ↦ outside.after o past
  ]
]

-- the numbers of an L2 table stay where the bytes of its cluster do
pub table-same : (g : Geometry) (table : HostCluster) (old new : Image) → 9 ≤ g.cluster_bits
    → ((o : ℕ) → o / 2 ^ g.cluster_bits ≡ table.0 → new o ≡ old o) → numbers_at (l2_layout g) table new ≡ numbers_at (l2_layout g) table old
table-same g table old new least same = table_numbers_same new old _ _ (l2_entries g.cluster_bits)
    (λ k below. same _ (div-mul-add table.0 (2 ^ g.cluster_bits) k (omega (arith, below, full_cluster g.cluster_bits least))))
