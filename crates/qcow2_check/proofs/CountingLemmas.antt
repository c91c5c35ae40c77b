use Rattle.std.proofs.Common.{◌≡◌, ℕ, ◌+◌, Bool, true, false, List, [], ◌∷◌, ◌++◌, flat_map, map, Some, None, option_map, option_to_list, OnOk, Result, Ok, Err, refl, sym, ◌∙◌, ap, arith}
use Rattle.std.specs.List.{fold}
use Rattle.std.proofs.lemmas.Bool.Decides.{nat_tests}
use Rattle.std.proofs.lemmas.Grind.{fold-append}
use Rattle.std.proofs.lemmas.List.{map-append}
use Rattle.qcow2_base.specs.Storage.{Image, StorageState}
use Rattle.qcow2_base.specs.declared.fault.Fault.{Fault}
use Rattle.qcow2_metadata.specs.Entries.{is_among}
use Rattle.qcow2_metadata.specs.Header.{Geometry, geometry_of}
use Rattle.qcow2_metadata.specs.Placed.{numbers_at}
use Rattle.qcow2_metadata.specs.Table.{l2_layout}
use Rattle.qcow2_check.specs.NamedTables.{named_cluster}
use Rattle.qcow2_check.specs.Tally.{ClusterUse, TallyState, cell_with, used_clusters, with_use}
use Rattle.qcow2_check.specs.Uses.{ImageTables, block_uses, entry_uses, header_uses, image_uses, l1_entry_uses, uses_of}
use Rattle.qcow2_check.proofs.FindingsLemmas.{cell_counts}
use Rattle.qcow2_check.specs.declared.tally.TallyKind.{TallyKind}
use Rattle.qcow2_check.specs.declared.tally.TallyKind.TheVariants.{Fixed, Guest, L2Table}
use Rattle.qcow2_check.specs.Walk.{CountsUses, Took, block_list, entries_list, entry_list, guest_list, header_list, l1_list, list_from, counted_use, table_list, tables_list, use_list}
use Rattle.qcow2_check.specs.declared.uses.Use.{Use}

-- what numbers use, by their places or without
counted_list : (uses : ℕ → ℕ → List Use) (counts : ℕ → List ClusterUse) → ((place v : ℕ) → map counted_use (uses place v) ≡ counts v)
    → (place : ℕ) (vs : List ℕ) → map counted_use (list_from uses place vs) ≡ flat_map counts vs
counted_list uses counts each place [] = refl
counted_list uses counts each place (v ∷ vs) =
    rw (map-append counted_use (uses place v) (list_from uses (place + 1) vs), each place v, counted_list uses counts each (place + 1) vs) refl

-- what an entry uses
counted_entry : (g : Geometry) (guest v : ℕ) → map counted_use (entry_list g guest v) ≡ entry_uses g v
counted_entry g guest v = grind arith

-- what the entries of a table use
pub counted_entries : (g : Geometry) (index : ℕ) (numbers : List ℕ) → map counted_use (entries_list g index numbers) ≡ flat_map (entry_uses g) numbers
counted_entries g index numbers = counted_list (entry_list g) (entry_uses g) (counted_entry g) _ numbers

-- the L2 table that an L1 entry names
abbrev pub table_use : ℕ → ℕ → List ClusterUse
table_use cb v = option_to_list (option_map (λ cluster. used_clusters L2Table cluster 1) (named_cluster cb v))

-- what its entries refer to
abbrev pub guest_uses : Geometry → Image → ℕ → List ClusterUse
guest_uses g image v = elim (named_cluster g.cluster_bits v) [
  | None ↦ []
  | Some cluster ↦ flat_map (entry_uses g) (numbers_at (l2_layout g) cluster image)
]

-- what the refcount table's entries name
counted_block : (cb index v : ℕ) → map counted_use (block_list cb index v) ≡ block_uses cb v
counted_block cb index v = grind arith

-- the L2 table that an L1 entry names
counted_table : (cb index v : ℕ) → map counted_use (table_list cb index v) ≡ table_use cb v
counted_table cb index v = grind arith

-- what the entries of an L2 table refer to that an L1 entry names
pub counted_l1 : (g : Geometry) (image : Image) (index v : ℕ) → map counted_use (l1_list g image index v) ≡ guest_uses g image v
counted_l1 g image index v = grind (arith, counted_entries)

-- the L2 table of an L1 entry first, and then its entries
both_uses : (g : Geometry) (image : Image) (v : ℕ) → l1_entry_uses g image v ≡ table_use g.cluster_bits v ++ guest_uses g image v
both_uses g image v = grind arith

-- what tables use themselves, without who uses it
abbrev pub counted_tables : ImageTables → List ClusterUse
counted_tables tables = header_uses tables.header ++ flat_map (block_uses tables.header.v2.cluster_bits) tables.reftable
    ++ flat_map (table_use tables.header.v2.cluster_bits) tables.l1

counted_own : (tables : ImageTables) → map counted_use (tables_list tables) ≡ counted_tables tables
counted_own tables =
    let cb = tables.header.v2.cluster_bits in
    let blocks = list_from (block_list cb) 0 tables.reftable in
    let l2_tables = list_from (table_list cb) 0 tables.l1 in
    map-append counted_use (header_list tables.header) (blocks ++ l2_tables)
    ∙ ap (λ us. header_uses tables.header ++ us) (map-append counted_use blocks l2_tables)
    ∙ ap (λ us. header_uses tables.header ++ us ++ map counted_use l2_tables) (counted_list (block_list cb) (block_uses cb) (counted_block cb) 0 tables.reftable)
    ∙ ap (λ us. header_uses tables.header ++ flat_map (block_uses cb) tables.reftable ++ us) (counted_list (table_list cb) (table_use cb) (counted_table cb) 0 tables.l1)

-- all that an image uses, likewise
pub counted_uses : (tables : ImageTables) (image : Image) → map counted_use (use_list tables image)
    ≡ counted_tables tables ++ flat_map (guest_uses (geometry_of tables.header) image) tables.l1
counted_uses tables image =
    let g = geometry_of tables.header in
    map-append counted_use (tables_list tables) (guest_list tables image)
    ∙ ap (λ us. us ++ map counted_use (guest_list tables image)) (counted_own tables)
    ∙ ap (λ us. counted_tables tables ++ us) (counted_list (l1_list g image) (guest_uses g image) (counted_l1 g image) 0 tables.l1)

-- two uses, in either order
pub kinds_commute : (first second : TallyKind) (cell : ℕ) → with_use first (with_use second cell) ≡ with_use second (with_use first cell)
kinds_commute Fixed Fixed cell = refl
kinds_commute Fixed L2Table cell = grind (arith, nat_tests)
kinds_commute Fixed Guest cell = grind (arith, nat_tests)
kinds_commute L2Table Fixed cell = grind (arith, nat_tests)
kinds_commute L2Table L2Table cell = refl
kinds_commute L2Table Guest cell = grind (arith, nat_tests)
kinds_commute Guest Fixed cell = grind (arith, nat_tests)
kinds_commute Guest L2Table cell = grind (arith, nat_tests)
kinds_commute Guest Guest cell = refl

uses_commute : (c cell : ℕ) (first second : ClusterUse) → cell_with c (cell_with c cell first) second ≡ cell_with c (cell_with c cell second) first
uses_commute c cell first second = by_cases (is_among first.clusters c) refl (is_among second.clusters c) refl
  where
    by_cases : (one : Bool) → is_among first.clusters c ≡ one → (other : Bool) → is_among second.clusters c ≡ other
        → cell_with c (cell_with c cell first) second ≡ cell_with c (cell_with c cell second) first
    by_cases true in_first true in_second = rw (in_first, in_second) (kinds_commute second.kind first.kind cell)
    by_cases true in_first false in_second = rw (in_first, in_second) refl
    by_cases false in_first true in_second = rw (in_first, in_second) refl
    by_cases false in_first false in_second = rw (in_first, in_second) refl

-- one use before others or after them
use_moves : (c cell : ℕ) (one : ClusterUse) (uses : List ClusterUse)
    → fold (cell_with c) (cell_with c cell one) uses ≡ cell_with c (fold (cell_with c) cell uses) one
use_moves c cell one [] = refl
use_moves c cell one (next ∷ uses) =
    ap (λ x. fold (cell_with c) x uses) (uses_commute c cell one next) ∙ use_moves c (cell_with c cell next) one uses

-- uses in either order
lists_commute : (c cell : ℕ) (first second : List ClusterUse)
    → fold (cell_with c) (fold (cell_with c) cell first) second ≡ fold (cell_with c) (fold (cell_with c) cell second) first
lists_commute c cell [] second = refl
lists_commute c cell (one ∷ first) second =
    lists_commute c (cell_with c cell one) first second ∙ ap (λ x. fold (cell_with c) x first) (use_moves c cell one second)

-- uses of each number in two lists, or one after another
mixed_uses : (c cell : ℕ) (first second all : ℕ → List ClusterUse) → ((v : ℕ) → all v ≡ first v ++ second v) → (vs : List ℕ)
    → fold (cell_with c) (fold (cell_with c) cell (flat_map first vs)) (flat_map second vs) ≡ fold (cell_with c) cell (flat_map all vs)
mixed_uses c cell first second all each [] = refl
mixed_uses c cell first second all each (v ∷ vs) =
    let f : ℕ → List ClusterUse → ℕ = λ from uses. fold (cell_with c) from uses in
    let start = f cell (first v) in
    let left : f (f cell (first v ++ flat_map first vs)) (second v ++ flat_map second vs) ≡ f (f (f start (flat_map first vs)) (second v)) (flat_map second vs) =
    ap (λ x. f x (second v ++ flat_map second vs)) (fold-append (cell_with c) cell (first v) (flat_map first vs))
    ∙ fold-append (cell_with c) (f start (flat_map first vs)) (second v) (flat_map second vs) in
    let moved : f (f (f start (flat_map first vs)) (second v)) (flat_map second vs) ≡ f (f (f start (second v)) (flat_map first vs)) (flat_map second vs) =
    ap (λ x. f x (flat_map second vs)) (lists_commute c start (flat_map first vs) (second v)) in
    let rest : f (f (f start (second v)) (flat_map first vs)) (flat_map second vs) ≡ f (f start (second v)) (flat_map all vs) =
    mixed_uses c (f start (second v)) first second all each vs in
    let right : f cell (all v ++ flat_map all vs) ≡ f (f start (second v)) (flat_map all vs) =
    fold-append (cell_with c) cell (all v) (flat_map all vs) ∙ ap (λ us. f (f cell us) (flat_map all vs)) (each v)
    ∙ ap (λ x. f x (flat_map all vs)) (fold-append (cell_with c) cell (first v) (second v)) in
    left ∙ moved ∙ rest ∙ sym right

-- so a tally doesn't tell the order of the walk from that of the list of an image's uses
pub same_counts : (c cell : ℕ) (tables : ImageTables) (image : Image)
    → fold (cell_with c) cell (map counted_use (use_list tables image)) ≡ fold (cell_with c) cell (image_uses tables image)
same_counts c cell tables image =
    let cb = tables.header.v2.cluster_bits in
    let g = geometry_of tables.header in
    let own = header_uses tables.header in
    let blocks = flat_map (block_uses cb) tables.reftable in
    let l2_tables = flat_map (table_use cb) tables.l1 in
    let guest = flat_map (guest_uses g image) tables.l1 in
    let f : ℕ → List ClusterUse → ℕ = λ from uses. fold (cell_with c) from uses in
    let before = f (f cell own) blocks in
    ap (f cell) (counted_uses tables image)
    ∙ fold-append (cell_with c) cell (own ++ blocks ++ l2_tables) guest
    ∙ ap (λ x. f x guest) (fold-append (cell_with c) cell own (blocks ++ l2_tables) ∙ fold-append (cell_with c) (f cell own) blocks l2_tables)
    ∙ mixed_uses c before (table_use cb) (guest_uses g image) (l1_entry_uses g image) (both_uses g image) tables.l1
    ∙ sym (fold-append (cell_with c) cell own (blocks ++ flat_map (l1_entry_uses g image) tables.l1)
    ∙ fold-append (cell_with c) (f cell own) blocks (flat_map (l1_entry_uses g image) tables.l1))

-- the cells that it counts in begin where they did
pub first_kept : (answer : Result (Unit {0}) Fault) (state : StorageState) (meaning : Image → List Use) (old new : TallyState)
    → OnOk answer (Took CountsUses state meaning old new) → OnOk answer (new.first ≡ old.first)
first_kept (Ok done) state meaning old new took = took.taken.first
first_kept (Err fault) state meaning old new took = tt

-- nor does a number of uses
pub walked_uses : (tables : ImageTables) (image : Image) (c : ℕ) → uses_of (map counted_use (use_list tables image)) c ≡ uses_of (image_uses tables image) c
walked_uses tables image c =
    let uses = map counted_use (use_list tables image) in
    let cell = fold (cell_with c) 0 uses in
    sym (cell_counts uses c cell refl) ∙ cell_counts (image_uses tables image) c cell (same_counts c 0 tables image)

-- uses that are counted after others
pub counts_both : (first second : List Use) (a b c : TallyState) → CountsUses first a b → CountsUses second b c → CountsUses (first ++ second) a c
counts_both first second a b c one other = grind (arith, one, other, map-append, fold-append)
