use Rattle.std.proofs.lemmas.Bool.Decides.{nat_tests}
use Rattle.std.proofs.Common.{◌≡◌, ◌≢◌, ◌⊎◌, ℕ, ◌-◌, ◌*◌, ◌/◌, ◌^◌, ◌<◌, ◌≤◌, lit≤, false, List, [], Result, Ok, Err, IsTrue, arith, inl, inr, refl, sym, pow_pos, ◌+◌, ◌%◌}
use Rattle.std.specs.Result.{IfOk, IsOkAnd}
use Rattle.std.proofs.lemmas.Result.{on_ok_weaker}
use Rattle.qcow2_base.specs.Storage.{Image, IsBytes, SameOutside, StorageState}
use Rattle.qcow2_base.specs.Types.{IsClusterBits}
use Rattle.qcow2_base.specs.declared.types.HostCluster.{HostCluster}
use Rattle.qcow2_base.specs.declared.fault.Fault.{Fault}
use Rattle.qcow2_base.specs.declared.fault.Fault.TheVariants.{NoMemory, Storage}
use Rattle.qcow2_edits.specs.Edits.{are_some}
use Rattle.qcow2_edits.specs.declared.edits.Edit.{Edit}
use Rattle.qcow2_metadata.proofs.PackingLemmas.{packed-counters_at}
use Rattle.qcow2_metadata.proofs.RefblockLemmas.{block_bytes}
use Rattle.qcow2_metadata.specs.Header.{Geometry}
use Rattle.qcow2_metadata.specs.Pieces.{Stand, piece_size}
use Rattle.qcow2_metadata.specs.Refblock.{BlockGeometry, block_entries, block_layout}
use Rattle.qcow2_metadata.specs.Results.{result_map}
use Rattle.qcow2_metadata.specs.Table.{l2_entries, l2_layout}
use Rattle.qcow2_image.proofs.LookupsLemmas.{refused-as}
use Rattle.qcow2_session.proofs.PrintingLemmas.{read_fault-of, run_between}
use Rattle.qcow2_session.specs.Commands.Changing.{ChangeEnd, PrintsChange}
use Rattle.qcow2_metadata.specs.Placed.{IsTorn, Layout, loaded_numbers, numbers_at, offset_of}
use Rattle.qcow2_session.specs.Commands.Printing.{OutputBytes, PrintsText}

-- there is no edit where not some are there
none-of : (edits : List Edit) → are_some edits ≡ false → edits ≡ []
none-of edits none = grind arith

-- what holds of any value holds of that of a result
pub of-any : {V E : Type 0} {P : V → Type 0} (answer : Result V E) → ((value : V) → P value) → IfOk answer P
of-any answer all = grind (arith, all)

-- a list without an edit leaves an image as it was
pub idle-edits : {End : Type 0} (edits : List Edit) (end : Result End Fault) (old new : Image) → (edits ≡ [] → new ≡ old)
    → IfOk end (λ left. are_some edits ≡ false → new ≡ old)
idle-edits edits end old new idle = of-any end (λ left none. idle (none-of edits none))

-- a run of which a part is known left something
ok-left : {E V : Type 0} (run : Result E Fault) (part : E → V) (value : V) → result_map part run ≡ Ok value → (left : E) × (run ≡ Ok left) × (part left ≡ value)
ok-left run part value is = grind arith

-- what follows from a part of what a run left
pub part-follows : {E V L : Type 0} (run : Result E Fault) (part : E → V) (next : V → L) (value : V) → result_map part run ≡ Ok value
    → result_map (λ left. next (part left)) run ≡ Ok (next value)
part-follows run part next value is = grind arith

-- a run is refused where a part of what it leaves is
pub part-refused : {E V : Type 0} (run : Result E Fault) (part : E → V) (fault : Fault) → result_map part run ≡ Err fault → run ≡ Err fault
part-refused run part fault is = grind arith

-- the numbers that load are those that a run left
pub loads-part : {E : Type 0} (run : Result E Fault) (part : E → List ℕ) (loaded : Result (List ℕ) Fault) → loaded ≡ result_map part run
    → IfOk run (λ left. loaded ≡ Ok (part left))
loads-part run part loaded is = grind arith

-- which bytes stay, and which are written, where a change is known by what its run left
abbrev Loads : {E : Type 0} → Layout → (E → ChangeEnd) → Result E Fault → Image → Type 0
Loads layout tell run new = IfOk run (λ left. loaded_numbers layout (tell left).cluster new ≡ Ok (tell left).numbers)

abbrev StaysIdle : {E : Type 0} → (E → ChangeEnd) → Result E Fault → Image → Image → Type 0
StaysIdle tell run old new = IfOk run (λ left. (tell left).is_written ≡ false → new ≡ old)

abbrev StaysOutside : {E : Type 0} → Layout → (E → ChangeEnd) → Result E Fault → Image → Image → Type 0
StaysOutside layout tell run old new = IfOk run (λ left. SameOutside (offset_of layout (tell left).cluster) layout.byte_count old new)

abbrev LeavesTorn : {E : Type 0} → Layout → (E → ChangeEnd) → Result E Fault → Image → Image → Type 0
LeavesTorn layout tell run old new = (new ≡ old) ⊎ IsOkAnd run (λ left. IsTorn layout (tell left).numbers (tell left).cluster old new)

-- a change was made, and then printed, if the output didn't fail
pub change-printed : {A O E : Type 0} (answer : Result A Fault) (layout : Layout) (tell : E → ChangeEnd) (end : Image → Result ChangeEnd Fault) (run : Result E Fault) (lines : List ℕ) (contents : O → OutputBytes) (old new : StorageState) (a b : O)
    → (IsTrue old.tells → end old.byte_at ≡ result_map tell run)
    → (IsTrue old.tells → result_map (λ left. (tell left).lines) run ≡ Ok lines)
    → (IsTrue old.tells → Loads layout tell run new.byte_at)
    → new.failures ≡ old.failures
    → (IsTrue old.tells → StaysIdle tell run old.byte_at new.byte_at)
    → (IsTrue old.tells → StaysOutside layout tell run old.byte_at new.byte_at)
    → PrintsText answer (contents a) (contents b) lines → PrintsChange (run_between contents answer old new a b) layout end
change-printed answer layout tell end run lines contents old new a b is made loads calm idle outside printed =
    grind (arith, nat_tests, ok-left, on_ok_weaker)

-- there is no place for a change, so none is made
pub change-unplaced : {A O : Type 0} (fault : Fault) (layout : Layout) (end : Image → Result ChangeEnd Fault) (contents : O → OutputBytes) (old new : StorageState) (a b : O)
    → (IsTrue old.tells → (fault ≡ Storage) ⊎ (fault ≡ NoMemory) ⊎ (end old.byte_at ≡ Err fault))
    → (fault ≡ Storage → new.failures ≢ old.failures) → new.byte_at ≡ old.byte_at
    → PrintsChange {A = A} (run_between contents (Err fault) old new a b) layout end
change-unplaced fault layout end contents old new a b refused failed same =
    grind (arith, nat_tests, read_fault-of, of-any)

-- there is a place for a change, which is refused
pub change-refused : {A O E : Type 0} (fault : Fault) (layout : Layout) (tell : E → ChangeEnd) (end : Image → Result ChangeEnd Fault) (run : Result E Fault) (contents : O → OutputBytes) (old new : StorageState) (a b : O)
    → (IsTrue old.tells → end old.byte_at ≡ result_map tell run)
    → (IsTrue old.tells → (fault ≡ Storage) ⊎ (fault ≡ NoMemory) ⊎ (run ≡ Err fault))
    → (fault ≡ Storage → new.failures ≢ old.failures) → (fault ≢ Storage → new.byte_at ≡ old.byte_at)
    → (IsTrue old.tells → new.failures ≢ old.failures → LeavesTorn layout tell run old.byte_at new.byte_at)
    → (IsTrue old.tells → StaysIdle tell run old.byte_at new.byte_at)
    → (IsTrue old.tells → StaysOutside layout tell run old.byte_at new.byte_at)
    → PrintsChange {A = A} (run_between contents (Err fault) old new a b) layout end
change-refused fault layout tell end run contents old new a b is refused failed unchanged torn idle outside =
    grind (arith, nat_tests, read_fault-of, refused-as)

-- bytes are those of the numbers that are read from them
abbrev pub KeepsBytes : Layout → Type 0
KeepsBytes layout = (image : Image) (offset : ℕ) → IsBytes image
    → Stand (layout.bytes_of (layout.numbers_from image offset)) layout.byte_count image offset

pub l2-keeps_bytes : (g : Geometry) → KeepsBytes (l2_layout g)
l2-keeps_bytes g image offset small i below =
    let n = l2_entries g.cluster_bits in
    sym (packed-counters_at 6 n (8 * n) image offset i (lit≤ tt) small (omega arith) below)

pub block-keeps_bytes : (g : BlockGeometry) → IsClusterBits g.cluster_bits → g.refcount_order ≤ 6 → KeepsBytes (block_layout g)
block-keeps_bytes g bits orders image offset small i below =
    sym (packed-counters_at g.refcount_order (block_entries g.cluster_bits g.refcount_order) (2 ^ g.cluster_bits) image offset i orders small
    (block_bytes g.cluster_bits g.refcount_order bits orders) below)

-- a table and a block have bytes
pub l2-some : (g : Geometry) → 0 < (l2_layout g).byte_count
l2-some g = let some = pow_pos (g.cluster_bits - 3) in omega (arith, some)

pub block-some : (g : BlockGeometry) → 0 < (block_layout g).byte_count
block-some g = pow_pos g.cluster_bits

-- one more failure is another number of them
pub one-more : (old mid new : ℕ) → mid ≡ old → new ≡ (mid + 1) % 2 ^ 64 → new ≢ old
one-more old mid new calm failed = λ same. omega (arith, calm, failed, same)

-- numbers that are all written are written up to their last piece
whole-torn : (layout : Layout) (cluster : HostCluster) (old new : Image) → KeepsBytes layout → IsBytes new → 0 < layout.byte_count
    → SameOutside (offset_of layout cluster) layout.byte_count old new → IsTorn layout (numbers_at layout cluster new) cluster old new
whole-torn layout cluster old new keeps small some outside = (
  (layout.byte_count - 1) / piece_size,
  record {
    within = omega (arith, some);
    before = λ i below. keeps new (offset_of layout cluster) small i (omega (arith, below, some));
    after = λ o from. outside.after o (omega (arith, from, some));
  },
)

-- what loads are the numbers that are there
loads-there : (layout : Layout) (cluster : HostCluster) (image : Image) (numbers : List ℕ) → loaded_numbers layout cluster image ≡ Ok numbers → numbers_at layout cluster image ≡ numbers
loads-there layout cluster image numbers loads = grind arith

-- a change that was made and written is torn at its last piece
made-torn : {E : Type 0} (layout : Layout) (tell : E → ChangeEnd) (run : Result E Fault) (lines : List ℕ) (old new : Image)
    → KeepsBytes layout → IsBytes new → 0 < layout.byte_count → result_map (λ left. (tell left).lines) run ≡ Ok lines
    → Loads layout tell run new → StaysOutside layout tell run old new → LeavesTorn layout tell run old new
made-torn layout tell (Ok left) lines old new keeps small some made loads outside =
    inr (rw (loads-there layout (tell left).cluster new (tell left).numbers loads) at (whole-torn layout (tell left).cluster old new keeps small some outside))
made-torn layout tell (Err fault) lines old new keeps small some made loads outside = grind (arith, made)

-- a change was made, and then the wait for the device failed
pub change-unconfirmed : {A O E : Type 0} (layout : Layout) (tell : E → ChangeEnd) (end : Image → Result ChangeEnd Fault) (run : Result E Fault) (lines : List ℕ) (contents : O → OutputBytes) (old new : StorageState) (a b : O)
    → (IsTrue old.tells → end old.byte_at ≡ result_map tell run)
    → (IsTrue old.tells → result_map (λ left. (tell left).lines) run ≡ Ok lines)
    → (IsTrue old.tells → Loads layout tell run new.byte_at)
    → new.failures ≢ old.failures → KeepsBytes layout → IsBytes new.byte_at → 0 < layout.byte_count
    → (IsTrue old.tells → StaysIdle tell run old.byte_at new.byte_at)
    → (IsTrue old.tells → StaysOutside layout tell run old.byte_at new.byte_at)
    → PrintsChange {A = A} (run_between contents (Err Storage) old new a b) layout end
change-unconfirmed layout tell end run lines contents old new a b is made loads failed keeps small some calm outside =
    change-refused Storage layout tell end run contents old new a b is (λ told. inl refl) (λ _. failed) (λ other. absurd (other refl))
    (λ told _. made-torn layout tell run lines old.byte_at new.byte_at keeps small some (made told) (loads told) (outside told)) calm outside
