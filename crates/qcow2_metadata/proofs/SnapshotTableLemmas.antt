use Rattle.std.proofs.Common.{◌≡◌, ℕ, ◌==◌, ◌||◌, true, zero, suc, ◌+◌, ◌-◌, ◌≤◌, ◌<◌, List, [], ◌∷◌, ◌++◌, length, Result, Ok, Err, refl, sym, ap, ◌∙◌, append_assoc, arith}
use Rattle.std.proofs.lemmas.Bool.Decides.{nat_tests}
use Rattle.qcow2_base.specs.OnDiskStruct.{HoldsLayout, fields_moved_by, snapshot_header}
use Rattle.qcow2_base.specs.Storage.{Holds, Image, image_of}
use Rattle.qcow2_base.specs.declared.fault.Fault.{Fault}
use Rattle.qcow2_base.specs.declared.on_disk_struct.snapshot_header.SnapshotHeader.{SnapshotHeader}
use Rattle.qcow2_metadata.proofs.LoadLemmas.{read-layout}
use Rattle.qcow2_metadata.specs.Header.{HeaderRecord}
use Rattle.qcow2_metadata.specs.Results.{result_map}
use Rattle.qcow2_metadata.specs.SnapshotTable.{accepted_entry, before_others, entries_from, entry_at, entry_end, has_table, loaded_snapshots, most_extra_bytes, no_snapshots, snapshot_header_at, table_limit}
use Rattle.std.specs.Int.{next_multiple_of}

-- the entry that an image has at an offset is the one that is read
holds-snapshot_header_at : (image : Image) (offset : ℕ) (entry : SnapshotHeader)
    → HoldsLayout image (fields_moved_by offset (snapshot_header entry)) → snapshot_header_at image offset ≡ entry
holds-snapshot_header_at image offset entry (is_offset, (is_size, (is_id, (is_name, (is_seconds, (is_nanoseconds, (is_clock, (is_state, (is_extra, t))))))))) =
    grind (arith, nat_tests)

pub read-snapshot_header_at : (image : Image) (offset : ℕ) (bytes : List ℕ) (entry : SnapshotHeader) → Holds image offset bytes
    → 40 ≤ length bytes → HoldsLayout (image_of bytes) (snapshot_header entry) → snapshot_header_at image offset ≡ entry
read-snapshot_header_at image offset bytes entry held within layout =
    holds-snapshot_header_at image offset entry (read-layout image offset bytes (snapshot_header entry) held within layout)

-- an entry that was read is accepted, or refused
pub is-accepted : (limit offset : ℕ) (entry : SnapshotHeader) → entry.extra_data_size ≤ most_extra_bytes
    → entry_end offset entry ≤ limit → accepted_entry limit offset entry ≡ Ok entry
is-accepted limit offset entry few ends = grind (arith, nat_tests, few, ends)

pub has-too_many : (limit offset : ℕ) (entry : SnapshotHeader) → most_extra_bytes < entry.extra_data_size
    → accepted_entry limit offset entry ≡ Err no_snapshots
has-too_many limit offset entry many = grind (arith, nat_tests, many)

pub ends-past : (limit offset : ℕ) (entry : SnapshotHeader) → limit < entry_end offset entry
    → accepted_entry limit offset entry ≡ Err no_snapshots
ends-past limit offset entry past = grind (arith, nat_tests, past)

-- one that begins too late ends past the limit
pub begins-past : (limit offset : ℕ) (entry : SnapshotHeader) → limit < offset + 40
    → accepted_entry limit offset entry ≡ Err no_snapshots
begins-past limit offset entry past = ends-past limit offset entry (omega (arith, past))

-- entries that were read before others
abbrev pub after_entries : List SnapshotHeader → List SnapshotHeader × ℕ → List SnapshotHeader × ℕ
after_entries known others = (known ++ others.0, others.1)

-- none were read
pub after-none : (answer : Result (List SnapshotHeader × ℕ) Fault) → answer ≡ result_map (after_entries []) answer
after-none (Ok found) = refl
after-none (Err fault) = refl

-- one more is read
after-one : (known : List SnapshotHeader) (entry : SnapshotHeader) (answer : Result (List SnapshotHeader × ℕ) Fault)
    → result_map (after_entries known) (result_map (before_others entry) answer) ≡ result_map (after_entries (known ++ entry ∷ [])) answer
after-one known entry (Ok found) = ap (λ (all : List SnapshotHeader). Ok (all, found.1)) (sym (append_assoc known (entry ∷ []) found.0))
after-one known entry (Err fault) = refl

pub one-more : (limit offset place count index : ℕ) (image : Image) (known : List SnapshotHeader) (entry : SnapshotHeader) → index < count
    → place ≡ next_multiple_of offset 8 → entry_at limit image place ≡ Ok entry
    → result_map (after_entries known) (entries_from limit image offset (count - index))
    ≡ result_map (after_entries (known ++ entry ∷ [])) (entries_from limit image (entry_end place entry) (count - (index + 1)))
one-more limit offset place count index image known entry below here is =
    let left : count - index ≡ suc (count - (index + 1)) = omega (arith, below) in
    rw (left, sym here, is) (after-one known entry (entries_from limit image (entry_end place entry) (count - (index + 1))))

-- one can't be read
pub one-refused : (limit offset place count index : ℕ) (image : Image) (known : List SnapshotHeader) (fault : Fault) → index < count
    → place ≡ next_multiple_of offset 8 → entry_at limit image place ≡ Err fault
    → result_map (after_entries known) (entries_from limit image offset (count - index)) ≡ Err fault
one-refused limit offset place count index image known fault below here is =
    let left : count - index ≡ suc (count - (index + 1)) = omega (arith, below) in
    rw (left, sym here, is) refl

-- so the table can't be followed
pub loaded-refused : (header : HeaderRecord) (image : Image) (fault : Fault) → (header.v2.nb_snapshots == 0 || has_table header) ≡ true
    → entries_from (table_limit header) image header.v2.snapshots_offset header.v2.nb_snapshots ≡ Err fault
    → loaded_snapshots header image ≡ Err fault
loaded-refused header image fault is refused = rw (is, refused) refl
