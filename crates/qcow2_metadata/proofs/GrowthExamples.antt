use Rattle.std.proofs.Common.{◌≡◌, [], ◌∷◌, Some, None, refl}
use Rattle.qcow2_metadata.specs.Table.Growth.{possible_spare}

-- the last index that leaves room for a spare entry after it, and the next, where clusters have 2 MiB and refcounts one
-- bit
pub narrow_spare_at_the_end :
    possible_spare (record { len = 4194304; index = 4194302; cluster_entries = 262144; block_counters = 16777216 })
    ∷ possible_spare (record { len = 0; index = 4194303; cluster_entries = 262144; block_counters = 16777216 })
    ∷ []
    ≡ Some 1 ∷ None ∷ []
narrow_spare_at_the_end = refl
