use Rattle.std.proofs.Common.{◌≡◌, ◌≢◌, ℕ, zero, suc, false, ◌^◌, ◌<◌, ◌≤◌, List, [], ◌∷◌, ◌++◌, flat_map, slice_index, Option, Some, None, IfSome, Ok, ap, refl, sym, ◌∙◌, arith}
use Rattle.std.proofs.lemmas.Bool.Decides.{nat_tests}
use Rattle.std.proofs.Math.Nat.{div-le_self}
use Rattle.std.specs.List.{fold}
use Rattle.qcow2_base.specs.Format.{max_file_length}
use Rattle.qcow2_base.specs.Storage.{Image}
use Rattle.qcow2_base.specs.declared.types.HostCluster.{HostCluster}
use Rattle.qcow2_metadata.specs.Header.{Geometry, geometry_of}
use Rattle.qcow2_metadata.specs.Placed.{numbers_at}
use Rattle.qcow2_metadata.specs.Results.{result_map}
use Rattle.qcow2_metadata.specs.Table.{l2_layout, loaded_l2_table}
use Rattle.qcow2_summary.proofs.ClustersLemmas.{table-same}
use Rattle.qcow2_summary.proofs.ApartLemmas.{kind-append, named-below, named-used}
use Rattle.qcow2_check.proofs.FindingsLemmas.{excludes, kind-cons, uses_by_kind}
use Rattle.qcow2_check.specs.Findings.{CountsAll, is_shared, uses_of_kind}
use Rattle.qcow2_check.specs.NamedTables.{named_block, named_cluster}
use Rattle.qcow2_check.specs.Tally.{ClusterUse, TallyState, cell_with, used_clusters}
use Rattle.qcow2_check.specs.Uses.{ImageTables, all_load, block_uses, entry_uses, header_uses, image_uses, l1_entry_loads, l1_entry_uses}
use Rattle.qcow2_check.specs.declared.tally.TallyKind.TheVariants.{Fixed, L2Table}
use Rattle.qcow2_repair.specs.Repair.{IsRepairable}
use Rattle.qcow2_repair.specs.Counters.{IsOutsideBlocks}

-- the same lists one after another
pub flat_map-same : (f h : ℕ → List ClusterUse) (xs : List ℕ) → ((k : ℕ) → f (slice_index xs k) ≡ h (slice_index xs k))
    → flat_map f xs ≡ flat_map h xs
flat_map-same f h [] same = refl
flat_map-same f h (x ∷ xs) same = rw (same 0, flat_map-same f h xs (λ k. same (suc k))) refl

-- a refcount table entry uses the block that it names
block-used : (cb v : ℕ) (block : HostCluster) → named_block cb v ≡ Some block → 0 < uses_of_kind Fixed (block_uses cb v) block.0
block-used cb v block names = grind (arith, nat_tests, names, kind-cons)

pub blocks-used : (cb : ℕ) (reftable : List ℕ) (i : ℕ) (block : HostCluster) → named_block cb (slice_index reftable i) ≡ Some block
    → 0 < uses_of_kind Fixed (flat_map (block_uses cb) reftable) block.0
blocks-used cb [] i block names = grind (arith, nat_tests, names)
blocks-used cb (v ∷ vs) zero block names =
    omega (arith, kind-append Fixed (block_uses cb v) (flat_map (block_uses cb) vs) block.0, block-used cb v block names)
blocks-used cb (v ∷ vs) (suc i) block names =
    omega (arith, kind-append Fixed (block_uses cb v) (flat_map (block_uses cb) vs) block.0, blocks-used cb vs i block names)

-- and two entries that name one block use it twice
used-twice : (cb : ℕ) (reftable : List ℕ) (i j : ℕ) (block : HostCluster) → i < j → named_block cb (slice_index reftable i) ≡ Some block
    → named_block cb (slice_index reftable j) ≡ Some block → 1 < uses_of_kind Fixed (flat_map (block_uses cb) reftable) block.0
used-twice cb [] i j block before one other = grind (arith, nat_tests, one)
used-twice cb (v ∷ vs) zero (suc j) block before one other =
    omega (arith, kind-append Fixed (block_uses cb v) (flat_map (block_uses cb) vs) block.0, block-used cb v block one, blocks-used cb vs j block other)
used-twice cb (v ∷ vs) (suc i) (suc j) block before one other =
    omega (arith, kind-append Fixed (block_uses cb v) (flat_map (block_uses cb) vs) block.0, used-twice cb vs i j block (omega (arith, before)) one other)
used-twice cb (v ∷ vs) i zero block before one other = let never : ⊥ = omega (arith, before) in elim never [ ]

-- an image has as many fixed uses of a cluster as its refcount table has, at least
fixed-more : (tables : ImageTables) (image : Image) (c : ℕ)
    → uses_of_kind Fixed (flat_map (block_uses tables.header.v2.cluster_bits) tables.reftable) c ≤ uses_of_kind Fixed (image_uses tables image) c
fixed-more tables image c =
    let first = header_uses tables.header in
    let blocks = flat_map (block_uses tables.header.v2.cluster_bits) tables.reftable in
    let last = flat_map (l1_entry_uses (geometry_of tables.header) image) tables.l1 in
    omega (arith, kind-append Fixed first (blocks ++ last) c, kind-append Fixed blocks last c)

-- a block lies below the greatest end
block-below : (cb v : ℕ) (block : HostCluster) → v < 2 ^ 64 → named_block cb v ≡ Some block → block.0 < 2 ^ 64
block-below cb v block fits names = grind (arith, nat_tests, names, div-le_self)

-- no block is an L2 table, and no two refcount table entries name one block, where no uses exclude each other
pub block-no-table : (tables : ImageTables) (image : Image) (i k : ℕ) (block table : HostCluster) → IsRepairable tables image
    → named_block tables.header.v2.cluster_bits (slice_index tables.reftable i) ≡ Some block
    → named_cluster tables.header.v2.cluster_bits (slice_index tables.l1 k) ≡ Some table → block.0 ≢ table.0
block-no-table tables image i k block table is names_block names_table same =
    let uses = image_uses tables image in
    let below = named-below _ _ table names_table in
    let apart : is_shared uses table.0 ≡ false = is.apart table.0 below in
    let here : 0 < uses_of_kind Fixed uses block.0 = omega (arith, fixed-more tables image block.0, blocks-used _ tables.reftable i block names_block) in
    let fixed : 0 < uses_of_kind Fixed uses table.0 = rw same at here in
    grind (arith, nat_tests, excludes uses table.0 apart, uses_by_kind uses table.0, named-used tables image k table names_table, fixed)

pub one-block : (tables : ImageTables) (image : Image) (i j : ℕ) (block : HostCluster) → IsRepairable tables image → block.0 < max_file_length
    → i < j → named_block tables.header.v2.cluster_bits (slice_index tables.reftable i) ≡ Some block
    → named_block tables.header.v2.cluster_bits (slice_index tables.reftable j) ≡ Some block → ⊥
one-block tables image i j block is below before one other =
    let uses = image_uses tables image in
    let apart : is_shared uses block.0 ≡ false = is.apart block.0 below in
    let twice = used-twice _ tables.reftable i j block before one other in
    let fixed : 1 < uses_of_kind Fixed uses block.0 = omega (arith, fixed-more tables image block.0, twice) in
    omega (arith, fixed, (excludes uses block.0 apart).0 (omega (arith, fixed)), uses_by_kind uses block.0)

-- the numbers of L2 tables stay where no byte outside refcount blocks changes
pub table-stays : (tables : ImageTables) (old new : Image) (k : ℕ) (table : HostCluster) → IsRepairable tables old → ((o : ℕ) → IsOutsideBlocks tables o → new o ≡ old o)
    → named_cluster tables.header.v2.cluster_bits (slice_index tables.l1 k) ≡ Some table
    → numbers_at (l2_layout (geometry_of tables.header)) table new ≡ numbers_at (l2_layout (geometry_of tables.header)) table old
table-stays tables old new k table is others names = table-same (geometry_of tables.header) table old new is.bits.0
    (λ o here. others o (λ i block names_block there. block-no-table tables old i k block table is names_block names (sym there ∙ here)))

-- and so does what an L1 entry uses
l1-uses-stay : (tables : ImageTables) (old new : Image) (k : ℕ) → IsRepairable tables old → ((o : ℕ) → IsOutsideBlocks tables o → new o ≡ old o)
    → (found : Option HostCluster) → named_cluster tables.header.v2.cluster_bits (slice_index tables.l1 k) ≡ found
    → l1_entry_uses (geometry_of tables.header) new (slice_index tables.l1 k) ≡ l1_entry_uses (geometry_of tables.header) old (slice_index tables.l1 k)
l1-uses-stay tables old new k is others None names = rw (names, l1_entry_uses) refl
l1-uses-stay tables old new k is others (Some table) names =
    rw (names, l1_entry_uses) (ap (λ numbers. used_clusters L2Table table 1 ∷ flat_map (entry_uses (geometry_of tables.header)) numbers) (table-stays tables old new k table is others names))

-- what an image uses stays where no byte outside refcount blocks changes
pub uses-stay : (tables : ImageTables) (old new : Image) → IsRepairable tables old → ((o : ℕ) → IsOutsideBlocks tables o → new o ≡ old o)
    → image_uses tables new ≡ image_uses tables old
uses-stay tables old new is others =
    let same : flat_map (l1_entry_uses (geometry_of tables.header) new) tables.l1 ≡ flat_map (l1_entry_uses (geometry_of tables.header) old) tables.l1 =
    flat_map-same _ _ tables.l1 (λ k. l1-uses-stay tables old new k is others _ refl) in
    rw same refl

-- and its L2 tables load as before
table-loads-stay : (tables : ImageTables) (old new : Image) (k : ℕ) (table : HostCluster) → IsRepairable tables old → ((o : ℕ) → IsOutsideBlocks tables o → new o ≡ old o)
    → named_cluster tables.header.v2.cluster_bits (slice_index tables.l1 k) ≡ Some table
    → loaded_l2_table (geometry_of tables.header) table new ≡ loaded_l2_table (geometry_of tables.header) table old
table-loads-stay tables old new k table is others names = rw (table-stays tables old new k table is others names) refl

l1-loads-stay : (tables : ImageTables) (old new : Image) (k : ℕ) → IsRepairable tables old → ((o : ℕ) → IsOutsideBlocks tables o → new o ≡ old o)
    → (found : Option HostCluster) → named_cluster tables.header.v2.cluster_bits (slice_index tables.l1 k) ≡ found
    → l1_entry_loads (geometry_of tables.header) new (slice_index tables.l1 k) ≡ l1_entry_loads (geometry_of tables.header) old (slice_index tables.l1 k)
l1-loads-stay tables old new k is others None names = rw (names, l1_entry_loads) refl
l1-loads-stay tables old new k is others (Some table) names =
    rw (names, l1_entry_loads) (ap (λ answer. result_map (λ _. tt) answer) (table-loads-stay tables old new k table is others names))

pub all-load-same : (g : Geometry) (vs : List ℕ) (old new : Image) → ((k : ℕ) → l1_entry_loads g new (slice_index vs k) ≡ l1_entry_loads g old (slice_index vs k))
    → all_load g vs new ≡ all_load g vs old
all-load-same g [] old new same = refl
all-load-same g (v ∷ vs) old new same = rw (same 0, all-load-same g vs old new (λ k. same (suc k))) refl

-- so an image can be repaired as before
pub repairable-stays : (tables : ImageTables) (old new : Image) → IsRepairable tables old → ((o : ℕ) → IsOutsideBlocks tables o → new o ≡ old o)
    → IsRepairable tables new
repairable-stays tables old new is others =
    let same : image_uses tables new ≡ image_uses tables old = uses-stay tables old new is others in
    record {
      bits = is.bits;
      orders = is.orders;
      placed = is.placed;
      loads = all-load-same (geometry_of tables.header) tables.l1 old new (λ k. l1-loads-stay tables old new k is others _ refl) ∙ is.loads;
      apart = rw same is.apart;
      fits = rw same is.fits;
    }

-- each table loads where all do
pub entry-loads : (g : Geometry) (l1 : List ℕ) (k : ℕ) (image : Image) → all_load g l1 image ≡ Ok tt → l1_entry_loads g image (slice_index l1 k) ≡ Ok tt
entry-loads g [] k image loads = grind (arith, nat_tests)
entry-loads g (v ∷ vs) zero image loads = grind (arith, loads)
entry-loads g (v ∷ vs) (suc k) image loads = entry-loads g vs k image (grind (arith, loads))

-- what a tally has counted stays so while the same clusters are used
pub counts-still : (tables other : ImageTables) (old new : Image) (tally : Option TallyState) → image_uses other new ≡ image_uses tables old
    → IfSome tally (CountsAll tables old) → IfSome tally (CountsAll other new)
counts-still tables other old new None same counts = tt
counts-still tables other old new (Some tally) same counts = λ c after before. counts c after before ∙ ap (fold (cell_with c) 0) (sym same)
