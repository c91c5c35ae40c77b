use Rattle.std.proofs.Common.{◌≡◌, ℕ, ◌==◌, ◌+◌, ◌-◌, ◌*◌, ◌/◌, ◌%◌, ◌^◌, ◌<◌, ◌≤◌, ◌∙◌, All, List, [], ◌∷◌, Option, Some, None, IfSome, Bool, true, false, if◌then◌else◌, refl, sym, ap, arith}
use Rattle.std.proofs.Math.Nat.{add-mul, mod-eq_of_lt, mul-div_cancel}
use Rattle.std.proofs.Math.Pow.{pow_mono}
use Rattle.std.proofs.lemmas.Bool.Decides.{nat_tests}
use Rattle.std.proofs.lemmas.List.Elements.{All-head, All-tail}
use Rattle.std.proofs.lemmas.Nat.{mul-lt, pow_pos}
use Rattle.qcow2_base.specs.Storage.{Image}
use Rattle.qcow2_check.specs.Counters.{unused_counter}
use Rattle.qcow2_check.specs.Uses.{ImageTables}
use Rattle.qcow2_check.specs.Walk.{IsOwned, most_owners, use_list}
use Rattle.qcow2_check.specs.declared.uses.Use.{Use}
use Rattle.qcow2_check.specs.declared.uses.UseKind.{UseKind}
use Rattle.qcow2_check.specs.declared.uses.UseKind.TheVariants as kind
use Rattle.qcow2_metadata.specs.Entries.{is_among}
use Rattle.qcow2_layout.specs.Layout.{moved_part}
use Rattle.qcow2_layout.specs.Parts.{part_at, part_of, unused_part, use_in, used_part}
use Rattle.qcow2_layout.specs.Window.{cell_further, cell_of, code_of}
use Rattle.qcow2_layout.specs.declared.parts.Part.{Part}
use Rattle.qcow2_layout.specs.declared.parts.Part.TheVariants.{Compressed, Data, EncryptionHeader, Free, Header, L1Table, L2Table, Leaked, RefcountBlock, RefcountTable}

-- the part that a number stands for
abbrev pub decoded : ℕ → ℕ → Part
decoded cb cell =
    if cell == 1 then Header
    else if cell == 2 then L1Table
    else if cell == 3 then RefcountTable
    else if cell == 4 then EncryptionHeader
    else if cell == 5 then RefcountBlock
    else if cell == 6 then L2Table
    else if cell == 7 then Compressed
    else Data (record { 0 = (cell - 8) * 2 ^ cb })

-- the number of a part
abbrev pub encoded : ℕ → Part → ℕ
encoded cb Header = 1
encoded cb L1Table = 2
encoded cb RefcountTable = 3
encoded cb EncryptionHeader = 4
encoded cb RefcountBlock = 5
encoded cb L2Table = 6
encoded cb Compressed = 7
encoded cb Leaked = 0
encoded cb Free = 0
encoded cb (Data offset) = 8 + offset.0 / 2 ^ cb

data-decoded : (cb guest : ℕ) → decoded cb (8 + guest) ≡ Data (record { 0 = guest * 2 ^ cb })
data-decoded cb guest = grind (arith, nat_tests)

pub part_decoded : (cb : ℕ) (k : UseKind) (owner : ℕ) → part_of cb k owner ≡ decoded cb (code_of k owner)
part_decoded cb kind.Header owner = refl
part_decoded cb kind.L1Table owner = refl
part_decoded cb kind.RefcountTable owner = refl
part_decoded cb kind.EncryptionHeader owner = refl
part_decoded cb kind.RefcountBlock owner = refl
part_decoded cb kind.L2Table owner = refl
part_decoded cb kind.Compressed owner = refl
part_decoded cb kind.Data owner = sym (data-decoded cb owner)

-- no use has the number 0
pub code-some : (k : UseKind) (owner : ℕ) → 0 < code_of k owner
code-some kind.Header owner = omega arith
code-some kind.L1Table owner = omega arith
code-some kind.RefcountTable owner = omega arith
code-some kind.EncryptionHeader owner = omega arith
code-some kind.RefcountBlock owner = omega arith
code-some kind.L2Table owner = omega arith
code-some kind.Compressed owner = omega arith
code-some kind.Data owner = omega arith

-- the number of guest data further on
data-further : (guest count : ℕ) → cell_further (8 + guest) count ≡ 8 + (guest + count)
data-further guest count = grind (arith, nat_tests)

-- the part further on in a run
pub further-decoded : (cb : ℕ) (k : UseKind) (owner count : ℕ) → decoded cb (cell_further (code_of k owner) count) ≡ moved_part (count * 2 ^ cb) (part_of cb k owner)
further-decoded cb kind.Header owner count = refl
further-decoded cb kind.L1Table owner count = refl
further-decoded cb kind.RefcountTable owner count = refl
further-decoded cb kind.EncryptionHeader owner count = refl
further-decoded cb kind.RefcountBlock owner count = refl
further-decoded cb kind.L2Table owner count = refl
further-decoded cb kind.Compressed owner count = refl
further-decoded cb kind.Data owner count =
    ap (λ n. decoded cb n) (data-further owner count) ∙ data-decoded cb (owner + count)
    ∙ ap (λ n. Data (record { 0 = n })) (add-mul owner count (2 ^ cb))

-- and its number
data-encoded : (cb guest : ℕ) → encoded cb (Data (record { 0 = guest * 2 ^ cb })) ≡ 8 + guest
data-encoded cb guest = ap (λ n. 8 + n) (mul-div_cancel guest (pow_pos cb))

pub further-encoded : (cb : ℕ) (k : UseKind) (owner count : ℕ) → encoded cb (moved_part (count * 2 ^ cb) (part_of cb k owner)) ≡ cell_further (code_of k owner) count
further-encoded cb kind.Header owner count = refl
further-encoded cb kind.L1Table owner count = refl
further-encoded cb kind.RefcountTable owner count = refl
further-encoded cb kind.EncryptionHeader owner count = refl
further-encoded cb kind.RefcountBlock owner count = refl
further-encoded cb kind.L2Table owner count = refl
further-encoded cb kind.Compressed owner count = refl
further-encoded cb kind.Data owner count =
    ap (λ n. encoded cb (Data (record { 0 = n }))) (sym (add-mul owner count (2 ^ cb))) ∙ data-encoded cb (owner + count) ∙ sym (data-further owner count)

part-encoded : (cb : ℕ) (k : UseKind) (owner : ℕ) → encoded cb (part_of cb k owner) ≡ code_of k owner
part-encoded cb kind.Header owner = refl
part-encoded cb kind.L1Table owner = refl
part-encoded cb kind.RefcountTable owner = refl
part-encoded cb kind.EncryptionHeader owner = refl
part-encoded cb kind.RefcountBlock owner = refl
part-encoded cb kind.L2Table owner = refl
part-encoded cb kind.Compressed owner = refl
part-encoded cb kind.Data owner = data-encoded cb owner

-- a part without a use has the number 0
unused-encoded : (cb counter : ℕ) → encoded cb (unused_part counter) ≡ 0
unused-encoded cb counter = by_test (counter == 0) refl
  where
    by_test : (none : Bool) → counter == 0 ≡ none → encoded cb (unused_part counter) ≡ 0
    by_test true is = rw is refl
    by_test false is = rw is refl

-- what a cluster is by its uses, or by its counter where it has none
pub at-use : (tables : ImageTables) (image : Image) (c : ℕ) (used : Use) → use_in (use_list tables image) c ≡ Some used
    → part_at tables image c ≡ used_part tables.header.v2.cluster_bits used
unfolding part_at
at-use tables image c used is = rw (is, part_at) refl

pub at-none : (tables : ImageTables) (image : Image) (c : ℕ) → use_in (use_list tables image) c ≡ None
    → part_at tables image c ≡ unused_part (unused_counter tables.header tables.reftable image c)
unfolding part_at
at-none tables image c is = rw (is, part_at) refl

-- the number of what a cluster is
pub at-encoded : (tables : ImageTables) (image : Image) (c : ℕ)
    → encoded tables.header.v2.cluster_bits (part_at tables image c) ≡ cell_of (use_in (use_list tables image) c)
at-encoded tables image c = by_use (use_in (use_list tables image) c) refl
  where
    cb : ℕ
    cb = tables.header.v2.cluster_bits

    by_use : (found : Option Use) → use_in (use_list tables image) c ≡ found → encoded cb (part_at tables image c) ≡ cell_of (use_in (use_list tables image) c)
    by_use (Some used) is =
        rw is (ap (λ p. encoded cb p) (at-use tables image c used is) ∙ part-encoded cb used.kind used.owner)
    by_use None is =
        rw is (ap (λ p. encoded cb p) (at-none tables image c is) ∙ unused-encoded cb (unused_counter tables.header tables.reftable image c))

-- the first use of a cluster is owned where all are
pub first-owned : (uses : List Use) (c : ℕ) → All IsOwned uses → IfSome (use_in uses c) IsOwned
first-owned [] c owned = tt
first-owned (used ∷ uses) c owned =
    by_use (is_among used.clusters c) refl (All-head IsOwned used uses owned) (first-owned uses c (All-tail IsOwned used uses owned))
  where
    by_use : (has : Bool) → is_among used.clusters c ≡ has → IsOwned used → IfSome (use_in uses c) IsOwned → IfSome (use_in (used ∷ uses) c) IsOwned
    by_use true is here rest = rw is here
    by_use false is here rest = rw is rest

-- the offset of guest data fits 64 bits
pub data_fits : (cb guest : ℕ) → cb ≤ 21 → guest < 2 ^ 40 → guest * 2 ^ cb < 2 ^ 64
data_fits cb guest low few =
    let size : 2 ^ cb ≤ 2 ^ 21 = pow_mono low in
    let all = mul-lt guest (2 ^ cb) (2 ^ 40) (2 ^ 21 + 1) few (omega (arith, size)) in
    omega (arith, all)

-- the part of a number that isn't one of the small ones
pub data_part : (cb cell : ℕ) (used : Use) → cb ≤ 21 → 8 ≤ cell → IsOwned used → cell ≡ code_of used.kind used.owner
    → Data (record { 0 = (cell - 8) * 2 ^ cb % 2 ^ 64 }) ≡ used_part cb used
data_part cb cell used low large owned is = by_kind used.kind used.owner owned is
  where
    by_kind : (k : UseKind) (owner : ℕ) → owner < most_owners k → cell ≡ code_of k owner → Data (record { 0 = (cell - 8) * 2 ^ cb % 2 ^ 64 }) ≡ part_of cb k owner
    by_kind kind.Header owner few code = absurd (omega (arith, code, large))
    by_kind kind.L1Table owner few code = absurd (omega (arith, code, large))
    by_kind kind.RefcountTable owner few code = absurd (omega (arith, code, large))
    by_kind kind.EncryptionHeader owner few code = absurd (omega (arith, code, large))
    by_kind kind.RefcountBlock owner few code = absurd (omega (arith, code, large))
    by_kind kind.L2Table owner few code = absurd (omega (arith, code, large))
    by_kind kind.Compressed owner few code = absurd (omega (arith, code, large))
    by_kind kind.Data owner few code =
        let guest : cell - 8 ≡ owner = omega (arith, code) in
        let fits : (cell - 8) * 2 ^ cb < 2 ^ 64 = rw guest (data_fits cb owner low few) in
        ap (λ n. Data (record { 0 = n })) (mod-eq_of_lt fits ∙ ap (λ n. n * 2 ^ cb) guest)
