-- Where does an image end, by its counters and its uses of clusters?
use Rattle.std.specs.Prelude.{ℕ, zero, suc, Bool, ◌||◌, ◌*◌, ◌/◌, ◌^◌, nat_lt, if◌then◌else◌, List}
use Rattle.qcow2_base.specs.Format.{max_file_length}
use Rattle.qcow2_base.specs.Storage.{Image}
use Rattle.qcow2_metadata.specs.Header.{HeaderRecord}
use Rattle.qcow2_check.specs.Counters.{counter_of}
use Rattle.qcow2_check.specs.Findings.{finding_at, is_wrong}
use Rattle.qcow2_check.specs.Uses.{ImageTables, image_uses, uses_of}

-- the number after the last of those below a limit that a test holds of, or 0 where it holds of none
unfoldable pub end_of : (ℕ → Bool) → ℕ → ℕ
end_of test zero = 0
end_of test (suc n) = if test n then suc n else end_of test n

-- how many clusters of an image with this header can end by the greatest end
abbrev pub most_clusters : HeaderRecord → ℕ
most_clusters header = max_file_length / 2 ^ header.v2.cluster_bits

-- whether cluster c has a counter that isn't 0
abbrev pub is_counted : HeaderRecord → List ℕ → Image → ℕ → Bool
is_counted header reftable image c = nat_lt 0 (counter_of header reftable image c)

-- whether it has such a counter or a use
abbrev pub is_in_use : ImageTables → Image → ℕ → Bool
is_in_use tables image c =
    is_counted tables.header tables.reftable image c || nat_lt 0 (uses_of (image_uses tables image) c)

-- where an image with these tables ends, in bytes: after the last cluster with a counter or a use, of those that can be there
abbrev pub image_end : ImageTables → Image → ℕ
image_end tables image =
    end_of (is_in_use tables image) (most_clusters tables.header) * 2 ^ tables.header.v2.cluster_bits

-- the number after the last of these clusters that something is found of
abbrev pub findings_end : ImageTables → Image → ℕ
findings_end tables image = end_of (λ c. is_wrong (finding_at tables image c)) (most_clusters tables.header)
