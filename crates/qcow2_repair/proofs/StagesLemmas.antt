use Rattle.std.proofs.Common.{◌≡◌, ℕ, Bool, true, false, ◌+◌, ◌/◌, ◌^◌, ◌<◌, List, Option, Some, None, IsSome, ap, refl, sym, ◌∙◌, inl, inr, arith}
use Rattle.std.proofs.lemmas.Bool.{cases_lt}
use Rattle.std.proofs.lemmas.Bool.Decides.{nat_tests}
use Rattle.qcow2_base.specs.Format.{max_file_length}
use Rattle.qcow2_base.specs.Storage.{Image}
use Rattle.qcow2_base.specs.declared.types.HostCluster.{HostCluster}
use Rattle.qcow2_metadata.specs.Header.{HeaderRecord}
use Rattle.qcow2_metadata.specs.Placed.{offset_of}
use Rattle.qcow2_check.specs.Counters.{block_of_cluster}
use Rattle.qcow2_check.specs.NamedTables.{l1_cluster, l1_layout}
use Rattle.qcow2_check.specs.Uses.{ImageTables, image_uses, uses_of}
use Rattle.qcow2_repair.proofs.CountersLemmas.{block-same}
use Rattle.qcow2_repair.proofs.RepairLemmas.{block-no-table, repairable-stays, uses-stay}
use Rattle.qcow2_repair.proofs.OrderLemmas.{l1-outside-blocks, l1-stays}
use Rattle.qcow2_repair.proofs.PassesLemmas.{PassedBy, repairable-after, uses-after}
use Rattle.qcow2_repair.specs.Repair.{IsRepairable, Repairs, image_uses_of, tables_in}
use Rattle.qcow2_repair.specs.Counters.{IsOutsideBlocks, counter_in, counter_towards}
use Rattle.qcow2_repair.specs.Flags.{IsOutsideTables, PassesFlags, l1_in, pass_all}
use Rattle.qcow2_repair.specs.declared.counters.CounterPass.TheVariants.{Fall, Rise}

-- the image can be repaired after a step of a repair, and is used as before it
pub record KeepsUses (header : HeaderRecord) (reftable : List ℕ) (old new : Image) : Type 0 where
  pub is : IsRepairable (tables_in header reftable new) new
  pub uses : image_uses (tables_in header reftable new) new ≡ image_uses (tables_in header reftable old) old

-- a pass over flags is one
pub flags-passed : (header : HeaderRecord) (reftable : List ℕ) (flag : Bool) (old new : Image) → IsRepairable (tables_in header reftable old) old
    → PassesFlags (pass_all (tables_in header reftable old) old flag) old new
    → PassedBy (tables_in header reftable old) flag (λ c. Some (uses_of (image_uses (tables_in header reftable old) old) c)) old new
flags-passed header reftable flag old new is passes = record { is = is; l1 = refl; passes = passes }

pub flags-step : (header : HeaderRecord) (reftable : List ℕ) (flag : Bool) (old new : Image) → IsRepairable (tables_in header reftable old) old
    → PassesFlags (pass_all (tables_in header reftable old) old flag) old new → KeepsUses header reftable old new
flags-step header reftable flag old new is passes =
    let by = flags-passed header reftable flag old new is passes in
    record {
      is = repairable-after (tables_in header reftable old) flag _ old new by;
      uses = uses-after (tables_in header reftable old) flag _ old new by;
    }

-- and so is a pass over counters
pub counters-step : (header : HeaderRecord) (reftable : List ℕ) (old new : Image) → IsRepairable (tables_in header reftable old) old
    → ((o : ℕ) → IsOutsideBlocks (tables_in header reftable old) o → new o ≡ old o) → KeepsUses header reftable old new
counters-step header reftable old new is others =
    let tables = tables_in header reftable old in
    let l1 : l1_in header new ≡ l1_in header old = l1-stays tables old new is others in
    record {
      is = rw l1 (repairable-stays tables old new is others);
      uses = rw l1 (uses-stay tables old new is others);
    }

pub steps-joined : (header : HeaderRecord) (reftable : List ℕ) (a b c : Image) → KeepsUses header reftable a b → KeepsUses header reftable b c
    → KeepsUses header reftable a c
steps-joined header reftable a b c one other = record { is = other.is; uses = other.uses ∙ one.uses }

-- a byte of a block lies in no table, where no uses exclude each other
block-outside-tables : (tables : ImageTables) (image : Image) (i o : ℕ) (block : HostCluster) → IsRepairable tables image
    → block_of_cluster tables.header tables.reftable i ≡ Some block → o / 2 ^ tables.header.v2.cluster_bits ≡ block.0
    → IsOutsideTables tables.header tables.l1 o
block-outside-tables tables image i o block is names here = record {
  l1_table = elim (cases_lt o (offset_of (l1_layout tables.header) (l1_cluster tables.header))) [
    | inl before ↦ inl before
    | inr from ↦ elim (cases_lt o (offset_of (l1_layout tables.header) (l1_cluster tables.header) + (l1_layout tables.header).byte_count)) [
      | inl within ↦ absurd (l1-outside-blocks tables image o is from within _ block names here)
      | inr past ↦ inr past
    ]
  ];
  l2_tables = λ table names_table there. block-no-table tables image _ names_table.0 block table is names names_table.1 (sym here ∙ there);
}

-- so each counter stays where no byte outside the tables changes
pub counters-kept : (tables : ImageTables) (old new : Image) (c : ℕ) → IsRepairable tables old
    → ((o : ℕ) → IsOutsideTables tables.header tables.l1 o → new o ≡ old o) → counter_in tables new c ≡ counter_in tables old c
counters-kept tables old new c is others = by_block (block_of_cluster tables.header tables.reftable c) refl
  where
    by_block : (found : Option HostCluster) → block_of_cluster tables.header tables.reftable c ≡ found → counter_in tables new c ≡ counter_in tables old c
    by_block None none = grind (arith, none)
    by_block (Some block) there =
        let kept = block-same tables old block old new is (λ o here. others o (block-outside-tables tables old c o block is there here)) in
        grind (arith, there, kept)

-- a cluster without a block has the counter 0
pub uncounted-none : (tables : ImageTables) (image : Image) (c : ℕ) → block_of_cluster tables.header tables.reftable c ≡ None → counter_in tables image c ≡ 0
uncounted-none tables image c none = grind (arith, none)

-- all steps of a repair
pub record AreStages (header : HeaderRecord) (reftable : List ℕ) (old cleared raised lowered new : Image) : Type 0 where
  pub one : KeepsUses header reftable old cleared
  pub two : KeepsUses header reftable cleared raised
  pub three : KeepsUses header reftable raised lowered
  pub four : KeepsUses header reftable lowered new

pub stages : (header : HeaderRecord) (reftable : List ℕ) (old new : Image) (repair : Repairs header reftable old new)
    → IsRepairable (tables_in header reftable old) old
    → AreStages header reftable old repair.cleared repair.raised repair.lowered new
stages header reftable old new repair is =
    let one = flags-step header reftable false old repair.cleared is repair.clears in
    let two = counters-step header reftable repair.cleared repair.raised one.is repair.raises.others in
    let three = counters-step header reftable repair.raised repair.lowered two.is repair.lowers.others in
    record { one = one; two = two; three = three; four = flags-step header reftable true repair.lowered new three.is repair.sets }

-- a repair changes no use
pub uses-repaired : (header : HeaderRecord) (reftable : List ℕ) (old new : Image) → IsRepairable (tables_in header reftable old) old
    → Repairs header reftable old new → image_uses (tables_in header reftable new) new ≡ image_uses (tables_in header reftable old) old
uses-repaired header reftable old new is repair =
    let all = stages header reftable old new repair is in
    all.four.uses ∙ all.three.uses ∙ all.two.uses ∙ all.one.uses

-- the counter of a counted cluster is the number of its uses after the passes over counters
pub counters-right : (header : HeaderRecord) (reftable : List ℕ) (old new : Image) → IsRepairable (tables_in header reftable old) old
    → (repair : Repairs header reftable old new) → (c : ℕ) → c < max_file_length → IsSome (block_of_cluster header reftable c)
    → counter_in (tables_in header reftable new) new c ≡ image_uses_of (tables_in header reftable new) new c
counters-right header reftable old new is repair c below some =
    let all = stages header reftable old new repair is in
    let kept = counters-kept (tables_in header reftable repair.lowered) repair.lowered new c all.three.is repair.sets.others in
    let fallen = repair.lowers.passed c (omega arith) below some in
    let risen = repair.raises.passed c (omega arith) below some in
    let last : image_uses_of (tables_in header reftable new) new c ≡ image_uses_of (tables_in header reftable repair.raised) repair.raised c
    = ap (λ uses. uses_of uses c) (all.four.uses ∙ all.three.uses) in
    let first : image_uses_of (tables_in header reftable repair.raised) repair.raised c ≡ image_uses_of (tables_in header reftable repair.cleared) repair.cleared c
    = ap (λ uses. uses_of uses c) all.two.uses in
    kept ∙ fallen ∙ both _ _ _ _ _ risen first last
  where
    both : (u v w x y : ℕ) → x ≡ counter_towards Rise u y → v ≡ u → w ≡ v → counter_towards Fall v x ≡ w
    both u v w x y risen one other = grind (arith, nat_tests, risen, one, other)
