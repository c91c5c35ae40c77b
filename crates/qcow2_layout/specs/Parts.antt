-- What is each cluster of an image?
use Rattle.std.specs.Prelude.{ℕ, Bool, true, false, not, ◌==◌, ◌*◌, ◌^◌, List, [], ◌∷◌, if◌then◌else◌, Option, Some, None}
use Rattle.qcow2_base.specs.Storage.{Image}
use Rattle.qcow2_metadata.specs.Entries.{is_among}
use Rattle.qcow2_check.specs.Counters.{unused_counter}
use Rattle.qcow2_summary.specs.ImageEnd.{end_of, most_clusters}
use Rattle.qcow2_check.specs.Uses.{ImageTables}
use Rattle.qcow2_check.specs.Walk.{use_list}
use Rattle.qcow2_check.specs.declared.uses.Use.{Use}
use Rattle.qcow2_check.specs.declared.uses.UseKind.{UseKind}
use Rattle.qcow2_check.specs.declared.uses.UseKind.TheVariants as kind
use Rattle.qcow2_layout.specs.declared.parts.Part.{Part}
use Rattle.qcow2_layout.specs.declared.parts.Part.TheVariants.{Compressed, Data, EncryptionHeader, Free, Header, L1Table, L2Table, Leaked, RefcountBlock, RefcountTable}

-- what clusters are that are used so: guest data by the offset of its guest cluster
abbrev pub part_of : ℕ → UseKind → ℕ → Part
part_of cb kind.Header owner = Header
part_of cb kind.L1Table owner = L1Table
part_of cb kind.RefcountTable owner = RefcountTable
part_of cb kind.EncryptionHeader owner = EncryptionHeader
part_of cb kind.RefcountBlock owner = RefcountBlock
part_of cb kind.L2Table owner = L2Table
part_of cb kind.Data owner = Data (record { 0 = owner * 2 ^ cb })
part_of cb kind.Compressed owner = Compressed

-- what the clusters of a use are
abbrev pub used_part : ℕ → Use → Part
used_part cb one = part_of cb one.kind one.owner

-- the first of some uses that has cluster c, if one has it
abbrev pub use_in : List Use → ℕ → Option Use
use_in [] c = None
use_in (used ∷ uses) c = if is_among used.clusters c then Some used else use_in uses c

-- what a cluster without a use is, by its counter as it is reported
abbrev pub unused_part : ℕ → Part
unused_part counter = if counter == 0 then Free else Leaked

-- what cluster c is of an image with these tables: the part of its first use in the order of the walk (header, tables, encryption
-- header, blocks, L2 tables, and then the guest's disk in its order), so that tables win over guest data, and the lowest guest
-- offset over others; or leaked where its counter isn't reported as 0, or else free
unfoldable pub part_at : ImageTables → Image → ℕ → Part
part_at tables image c = elim (use_in (use_list tables image) c) [
  | Some used ↦ used_part tables.header.v2.cluster_bits used
  | None ↦ unused_part (unused_counter tables.header tables.reftable image c)
]

-- whether that is free
abbrev pub is_free : Part → Bool
is_free Free = true
is_free part = false

-- where an image with these tables ends, in clusters: after the last that isn't free, of those that can end by the greatest end
abbrev pub taken_end : ImageTables → Image → ℕ
taken_end tables image = end_of (λ c. not (is_free (part_at tables image c))) (most_clusters tables.header)
