-- Does an image's L1 table have an entry for each part of the guest's disk?
use Rattle.std.specs.Prelude.{ℕ, ◌^◌, nat_lt, Bool, if◌then◌else◌, Option, Some, None}
use Rattle.std.specs.Int.{div_ceil}
use Rattle.qcow2_base.specs.declared.fault.Fault.{Fault}
use Rattle.qcow2_base.specs.declared.fault.Fault.TheVariants.{L1Short}
use Rattle.qcow2_metadata.specs.Header.{HeaderRecord}
use Rattle.qcow2_metadata.specs.Table.{l2_entries}

-- how many clusters the guest's disk has
abbrev pub guest_clusters : HeaderRecord → ℕ
guest_clusters header = div_ceil header.v2.size (2 ^ header.v2.cluster_bits)

-- how many L2 tables, and so how many L1 entries, that many clusters need
abbrev pub needed_l1_entries : HeaderRecord → ℕ
needed_l1_entries header = div_ceil (guest_clusters header) (l2_entries header.v2.cluster_bits)

-- whether the L1 table has fewer
abbrev pub is_l1_short : HeaderRecord → Bool
is_l1_short header = nat_lt header.v2.l1_size (needed_l1_entries header)

-- why an image with this header must not be changed, if that is so
abbrev pub short_l1_refusal : HeaderRecord → Option Fault
short_l1_refusal header = if is_l1_short header then Some L1Short else None
