use Rattle.std.proofs.Common.{◌≡◌, ℕ, zero, suc, Bool, true, false, ◌+◌, ◌<◌, ◌≤◌, List, [], ◌∷◌, ◌++◌, take, length, slice_index, Result, Ok, Err, OnOk, add-zero, refl, subst, sym, ◌∙◌, ap, arith}
use Rattle.std.proofs.Math.Nat.{zero-add}
use Rattle.std.proofs.lemmas.List.{append-nil, append_assoc, length-take-le}
use Rattle.qcow2_base.specs.Storage.{Image, OnImage, OnlyReads, StorageState}
use Rattle.qcow2_base.specs.declared.fault.Fault.{Fault}
use Rattle.qcow2_metadata.specs.Header.{Geometry}
use Rattle.qcow2_metadata.specs.Results.{Reads}
use Rattle.qcow2_metadata.specs.Placed.{IsLoaded, numbers_at}
use Rattle.qcow2_metadata.specs.Table.{IsEntryFault, TableState, l2_layout}
use Rattle.qcow2_base.specs.declared.types.HostCluster.{HostCluster}
use Rattle.qcow2_check.proofs.UsesLemmas.{all_load_more, all_load_until, loaded, take_more}
use Rattle.qcow2_check.specs.Uses.{all_load, l1_entry_loads}
use Rattle.qcow2_check.specs.Walk.{Took, entries_list, entry_list, list_from, one_use, row_list}
use Rattle.qcow2_check.specs.declared.uses.Use.{Use}
use Rattle.qcow2_check.specs.declared.uses.UseKind.TheVariants.{Data}

-- the uses by numbers and by one more
list_append : (uses : ℕ → ℕ → List Use) (place : ℕ) (vs : List ℕ) (v : ℕ)
    → list_from uses place (vs ++ v ∷ []) ≡ list_from uses place vs ++ uses (place + length vs) v
list_append uses place [] v = append-nil (uses place v) ∙ ap (λ n. uses n v) (sym (add-zero place))
list_append uses place (w ∷ vs) v =
    let more : place + 1 + length vs ≡ place + length (w ∷ vs) = omega arith in
    ap (λ us. uses place w ++ us) (list_append uses (place + 1) vs v ∙ ap (λ n. list_from uses (place + 1) vs ++ uses n v) more)
    ∙ sym (append_assoc (uses place w) (list_from uses (place + 1) vs) (uses (place + length (w ∷ vs)) v))

-- the uses by the first numbers and by the next
pub list_next : (uses : ℕ → ℕ → List Use) (place : ℕ) (vs : List ℕ) (i : ℕ) → i < length vs
    → list_from uses place (take (i + 1) vs) ≡ list_from uses place (take i vs) ++ uses (place + i) (slice_index vs i)
list_next uses place vs i below =
    ap (λ xs. list_from uses place xs) (take_more vs i 0 below) ∙ list_append uses place (take i vs) (slice_index vs i)
    ∙ ap (λ n. list_from uses place (take i vs) ++ uses (place + n) (slice_index vs i)) (length-take-le i vs (omega (arith, below)))

-- numbers that use nothing add none
pub list_skip : (uses : ℕ → ℕ → List Use) (place : ℕ) (vs : List ℕ) (i k : ℕ) → i + k ≤ length vs
    → ((j : ℕ) → j < k → uses (place + (i + j)) (slice_index vs (i + j)) ≡ [])
    → list_from uses place (take (i + k) vs) ≡ list_from uses place (take i vs)
list_skip uses place vs i zero within none = rw (add-zero i) refl
list_skip uses place vs i (suc k) within none =
    let sum : i + suc k ≡ i + k + 1 = omega arith in
    let last : uses (place + (i + k)) (slice_index vs (i + k)) ≡ [] = none k (omega arith) in
    ap (λ n. list_from uses place (take n vs)) sum ∙ list_next uses place vs (i + k) (omega (arith, within))
    ∙ ap (λ us. list_from uses place (take (i + k) vs) ++ us) last ∙ append-nil (list_from uses place (take (i + k) vs))
    ∙ list_skip uses place vs i k (omega (arith, within)) (λ j below. none j (omega (arith, below)))

-- an entry 0 uses nothing
pub no_entry : (g : Geometry) (guest : ℕ) → entry_list g guest 0 ≡ []
no_entry g guest = by_file g.external_data_file refl
  where
    by_file : (external : Bool) → g.external_data_file ≡ external → entry_list g guest 0 ≡ []
    by_file true is = grind (arith, is)
    by_file false is = grind (arith, is)

-- a row with one cluster more
pub row_append : (first guest k : ℕ) → row_list first guest (k + 1) ≡ row_list first guest k ++ one_use Data (record { 0 = first + k }) 1 (guest + k) ∷ []
row_append first guest zero = rw (add-zero first, add-zero guest) refl
row_append first guest (suc k) =
    let cluster : first + 1 + k ≡ first + suc k = omega arith in
    let owner : guest + 1 + k ≡ guest + suc k = omega arith in
    let more : suc k + 1 ≡ suc (k + 1) = omega arith in
    ap (λ n. row_list first guest n) more ∙ ap (λ us. one_use Data (record { 0 = first }) 1 guest ∷ us) (row_append (first + 1) (guest + 1) k
    ∙ ap (λ n. row_list (first + 1) (guest + 1) k ++ one_use Data (record { 0 = n }) 1 (guest + 1 + k) ∷ []) cluster
    ∙ ap (λ n. row_list (first + 1) (guest + 1) k ++ one_use Data (record { 0 = first + suc k }) 1 n ∷ []) owner)

-- numbers that use single clusters one after another
pub list_row : (uses : ℕ → ℕ → List Use) (place : ℕ) (vs : List ℕ) (i k start : ℕ) → i + k ≤ length vs
    → ((j : ℕ) → j < k → uses (place + (i + j)) (slice_index vs (i + j)) ≡ one_use Data (record { 0 = start + j }) 1 (place + (i + j)) ∷ [])
    → list_from uses place (take (i + k) vs) ≡ list_from uses place (take i vs) ++ row_list start (place + i) k
list_row uses place vs i zero start within each = rw (add-zero i) (sym (append-nil (list_from uses place (take i vs))))
list_row uses place vs i (suc k) start within each =
    let before = list_from uses place (take i vs) in
    let sum : i + suc k ≡ i + k + 1 = omega arith in
    let owner : place + (i + k) ≡ place + i + k = omega arith in
    let one_more : k + 1 ≡ suc k = omega arith in
    let last : uses (place + (i + k)) (slice_index vs (i + k)) ≡ one_use Data (record { 0 = start + k }) 1 (place + i + k) ∷ [] =
    each k (omega arith) ∙ ap (λ n. one_use Data (record { 0 = start + k }) 1 n ∷ []) owner in
    ap (λ n. list_from uses place (take n vs)) sum ∙ list_next uses place vs (i + k) (omega (arith, within))
    ∙ ap (λ us. list_from uses place (take (i + k) vs) ++ us) last
    ∙ ap (λ us. us ++ one_use Data (record { 0 = start + k }) 1 (place + i + k) ∷ []) (list_row uses place vs i k start (omega (arith, within)) (λ j below. each j (omega (arith, below))))
    ∙ append_assoc before (row_list start (place + i) k) (one_use Data (record { 0 = start + k }) 1 (place + i + k) ∷ [])
    ∙ ap (λ us. before ++ us) (sym (row_append start (place + i) k) ∙ ap (λ n. row_list start (place + i) n) one_more)

-- the L2 tables that the first L1 entries name can be loaded, and what these entries use is taken
pub record AreWalked {Sink : Type 0} (takes : List Use → Sink → Sink → Type 0) (g : Geometry) (l1 : List ℕ) (uses : Image → ℕ → ℕ → List Use) (index : ℕ) (old new : StorageState) (before after : Sink) : Type 0 where
  pub loads : OnImage old (λ bytes. all_load g (take index l1) bytes ≡ loaded)
  pub taken : Took takes old (λ bytes. list_from (uses bytes) 0 (take index l1)) before after
  pub storage : OnlyReads loaded old new

-- a sink, as its trait says it
module _ {Sink : Type 0} (takes : List Use → Sink → Sink → Type 0)
    (both : (first second : List Use) (a b c : Sink) → takes first a b → takes second b c → takes (first ++ second) a c) where
  -- what one number uses, taken after what those before it do
  pub takes_next : (uses : ℕ → ℕ → List Use) (place : ℕ) (vs : List ℕ) (i : ℕ) (a b c : Sink) → i < length vs
      → takes (list_from uses place (take i vs)) a b → takes (uses (place + i) (slice_index vs i)) b c
      → takes (list_from uses place (take (i + 1) vs)) a c
  takes_next uses place vs i a b c below one other =
      rw (list_next uses place vs i below) (both (list_from uses place (take i vs)) (uses (place + i) (slice_index vs i)) a b c one other)

  -- uses that are taken after others, where both are known of the same bytes
  pub took_both : (image : StorageState) (first second : Image → List Use) (a b c : Sink)
      → Took takes image first a b → Took takes image second b c → Took takes image (λ bytes. first bytes ++ second bytes) a c
  took_both image first second a b c one other = record {
    uses = one.uses ++ other.uses;
    taken = both one.uses other.uses a b c one.taken other.taken;
    known = λ told. rw (one.known told, other.known told) refl;
  }

  -- uses that are taken before those of L2 tables
  pub took_after : (answer : Result (Unit {0}) Fault) (image : StorageState) (first : List Use) (second : Image → List Use) (a b c : Sink)
      → takes first a b → OnOk answer (Took takes image second b c) → OnOk answer (Took takes image (λ bytes. first ++ second bytes) a c)
  took_after (Ok done) image first second a b c one other =
      took_both image (λ bytes. first) second a b c (record { uses = first; taken = one; known = λ told. refl }) other
  took_after (Err fault) image first second a b c one other = tt

  -- what the entries of an L2 table refer to that was loaded
  pub took_table : (answer : Result (Unit {0}) Fault) (image : StorageState) (g : Geometry) (index : ℕ) (cluster : HostCluster) (table : TableState) (a b : Sink)
      → IsLoaded (l2_layout g) g cluster image table
      → OnOk answer (takes (entries_list table.geometry index table.numbers) a b)
      → OnOk answer (Took takes image (λ bytes. entries_list g index (numbers_at (l2_layout g) cluster bytes)) a b)
  took_table (Ok done) image g index cluster table a b is_loaded entries = record {
    uses = entries_list g index table.numbers;
    taken = rw is_loaded.geometry at entries;
    known = λ told. rw (is_loaded.numbers told) refl;
  }
  took_table (Err fault) image g index cluster table a b is_loaded entries = tt

  -- uses that are taken after others
  pub takes_after : (answer : Result (Unit {0}) Fault) (first second : List Use) (a b c : Sink)
      → takes first a b → OnOk answer (takes second b c) → OnOk answer (takes (first ++ second) a c)
  takes_after (Ok done) first second a b c one other = both first second a b c one other
  takes_after (Err fault) first second a b c one other = tt

  module _ (g : Geometry) (l1 : List ℕ) (uses : Image → ℕ → ℕ → List Use) (index : ℕ) (below : index < length l1) where
    abbrev v : ℕ
    v = slice_index l1 index

    next : (bytes : Image) → list_from (uses bytes) 0 (take (index + 1) l1) ≡ list_from (uses bytes) 0 (take index l1) ++ uses bytes index v
    next bytes = list_next (uses bytes) 0 l1 index below ∙ ap (λ i. list_from (uses bytes) 0 (take index l1) ++ uses bytes i v) (zero-add index)

    -- what one L1 entry more uses
    pub walked_more : (old mid new : StorageState) (a b c : Sink) (answer : Result (Unit {0}) Fault) → answer ≡ loaded
        → AreWalked takes g l1 uses index old mid a b
        → Reads (λ done. done) answer (λ bytes. l1_entry_loads g bytes v) IsEntryFault mid new
        → OnOk answer (Took takes mid (λ bytes. uses bytes index v) b c)
        → AreWalked takes g l1 uses (index + 1) old new a c
    walked_more old mid new a b c answer is so_far reads more =
        let here : Took takes mid (λ bytes. uses bytes index v) b c =
        subst (λ (r : Result (Unit {0}) Fault). OnOk r (Took takes mid (λ bytes. uses bytes index v) b c)) is more in
        record {
          loads = λ told.
              let loads : l1_entry_loads g old.byte_at v ≡ loaded = grind (arith, is, so_far.storage, reads.exact, told) in
              rw (take_more l1 index 0 below, all_load_more g old.byte_at (take index l1) v, so_far.loads told) loads;
          taken = record {
            uses = so_far.taken.uses ++ here.uses;
            taken = both so_far.taken.uses here.uses a b c so_far.taken.taken here.taken;
            known = λ told.
                let after : here.uses ≡ uses mid.byte_at index v = here.known (rw so_far.storage.device.tells told) in
                let known : here.uses ≡ uses old.byte_at index v = after ∙ ap (λ bytes. uses bytes index v) so_far.storage.bytes in
                ap (λ us. us ++ here.uses) (so_far.taken.known told) ∙ ap (λ us. list_from (uses old.byte_at) 0 (take index l1) ++ us) known
                ∙ sym (next old.byte_at);
          };
          storage = grind (arith, is, so_far.storage, reads.storage);
        }

    -- or nothing, where the table that it names can be loaded if those before can
    pub walked_past : (old mid : StorageState) (a b : Sink) → ((bytes : Image) → uses bytes index v ≡ [])
        → ((bytes : Image) → all_load g (take index l1) bytes ≡ loaded → all_load g (take (index + 1) l1) bytes ≡ loaded)
        → AreWalked takes g l1 uses index old mid a b → AreWalked takes g l1 uses (index + 1) old mid a b
    walked_past old mid a b none loads so_far = record {
      loads = λ told. loads old.byte_at (so_far.loads told);
      taken = record {
        uses = so_far.taken.uses;
        taken = so_far.taken.taken;
        known = λ told. so_far.taken.known told ∙ sym (next old.byte_at ∙ ap (λ us. list_from (uses old.byte_at) 0 (take index l1) ++ us) (none old.byte_at)
            ∙ append-nil (list_from (uses old.byte_at) 0 (take index l1)));
      };
      storage = so_far.storage;
    }

    -- or where it can't be loaded, all can't
    pub refused_at : (old mid new : StorageState) (a b : Sink) (answer : Result (Unit {0}) Fault) (fault : Fault) → answer ≡ Err fault
        → AreWalked takes g l1 uses index old mid a b
        → Reads (λ done. done) answer (λ bytes. l1_entry_loads g bytes v) IsEntryFault mid new
        → Reads (λ done. done) answer (all_load g l1) IsEntryFault old new
    refused_at old mid new a b answer fault is so_far reads = record {
      exact = λ told. grind (arith, is, so_far.storage, reads.exact, told, all_load_until g old.byte_at l1 index fault below (so_far.loads told));
      faults = reads.faults;
      storage = grind (arith, is, so_far.storage, reads.storage);
    }
