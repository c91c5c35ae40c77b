use Rattle.std.proofs.Common.{◌≡◌, ℕ, false, ◌≤◌, ◌<◌, ◌^◌, List, ◌++◌, flat_map, IsSome, Ok, ap, inl, refl, sym, subst, pow_mono, arith}
use Rattle.qcow2_base.specs.Format.{max_file_length}
use Rattle.qcow2_base.specs.Storage.{Image, SameOutside}
use Rattle.qcow2_base.specs.Types.{IsClusterBits}
use Rattle.qcow2_metadata.proofs.MarksLemmas.{unmarked-geometry}
use Rattle.qcow2_metadata.specs.Header.{Geometry, HeaderRecord}
use Rattle.qcow2_metadata.specs.Header.Marks.{without_marks}
use Rattle.qcow2_metadata.specs.Header.Open.{SaysSame}
use Rattle.qcow2_metadata.specs.Refblock.{greatest_counter}
use Rattle.qcow2_check.specs.Counters.{block_of_cluster}
use Rattle.qcow2_check.specs.Findings.{is_shared}
use Rattle.qcow2_check.specs.Uses.{all_load, block_uses, header_uses, image_tables, image_uses, key_clusters, l1_entry_uses, uses_of}
use Rattle.qcow2_repair.proofs.HeaderLemmas.{repairable-written}
use Rattle.qcow2_repair.specs.Flags.{l1_in}
use Rattle.qcow2_repair.specs.Repair.{ClearsMarks, IsRepairable, tables_in}

-- the field of the marks lies in the first cluster
pub field-fits : (cb : ℕ) → IsClusterBits cb → 80 ≤ 2 ^ cb
field-fits cb bits =
    let least : 512 ≤ 2 ^ cb = pow_mono bits.0 in
    omega (arith, least)

pub within-first : (old new : Image) → SameOutside 72 8 old new → SameOutside 0 80 old new
within-first old new others = record {
  before = λ o below. absurd (omega (arith, below));
  after = λ o past. others.after o (omega (arith, past));
}

-- each header says the same as itself
says-self : (header : HeaderRecord) → SaysSame header header
says-self header = record { v2 = refl; base = refl; autoclear = inl refl; backing_filename = refl; extensions = refl }

-- an image uses the same clusters by a header without marks
pub uses-unmarked : (header : HeaderRecord) (l1 reftable : List ℕ) (image : Image)
    → image_uses (image_tables (without_marks header) l1 reftable) image ≡ image_uses (image_tables header l1 reftable) image
unfolding key_clusters
uses-unmarked header l1 reftable image = ap
    (λ (g : Geometry). header_uses header ++ flat_map (block_uses header.v2.cluster_bits) reftable ++ flat_map (l1_entry_uses g image) l1)
    (unmarked-geometry header)

-- and can be repaired as before
repairable-unmarked : (header : HeaderRecord) (l1 reftable : List ℕ) (image : Image) → IsRepairable (image_tables header l1 reftable) image
    → IsRepairable (image_tables (without_marks header) l1 reftable) image
repairable-unmarked header l1 reftable image is =
    let same = sym (uses-unmarked header l1 reftable image) in
    record {
      bits = is.bits;
      orders = is.orders;
      placed = is.placed;
      loads = subst (λ g. all_load g l1 image ≡ Ok (tt {0})) (sym (unmarked-geometry header)) is.loads;
      apart = subst (λ uses. (c : ℕ) → c < max_file_length → is_shared uses c ≡ false) same is.apart;
      fits = subst (λ uses. (c : ℕ) → c < max_file_length → IsSome (block_of_cluster header reftable c)
          → uses_of uses c ≤ greatest_counter header.base.refcount_order) same is.fits;
    }

-- also after its marks are cleared
pub repairable-cleared : (header left : HeaderRecord) (reftable : List ℕ) (old new : Image) → IsRepairable (tables_in header reftable old) old
    → ClearsMarks header left old new → IsRepairable (tables_in (without_marks header) reftable new) new
repairable-cleared header left reftable old new is clears =
    let both = repairable-written header header (l1_in header old) reftable 80 old new (says-self header) is refl
    (within-first old new clears.others) (field-fits header.v2.cluster_bits is.bits) in
    repairable-unmarked header (l1_in header new) reftable new (rw both.1 both.0)
