use Rattle.std.proofs.Common.{◌≡◌, ℕ, suc, ◌+◌, ◌<◌, ◌≤◌, true, false, List, get_or, take, drop, Option, refl, sym, arith, lit<}
use Rattle.std.proofs.Math.Seq.{drop-cons}
use Rattle.std.proofs.lemmas.List.{take-append-drop, take_all}
use Rattle.std.proofs.lemmas.List.Elements.{All-more}
use Rattle.std.specs.Bool.{Decides}
use Rattle.std.specs.List.{All}
use Rattle.std.specs.Option.{option_eq}
use Rattle.std.specs.Str.{bytes_eq}
use Rattle.std.proofs.lemmas.Bool.Decides.{nat_tests, not_from_Decides}
use Rattle.std.proofs.lemmas.Slice.Eq.{bytes_eq-Decides, slice_eq-Decides}
use Rattle.qcow2_base.specs.declared.fault.Fault.TheVariants.{FieldChanged}
use Rattle.qcow2_base.specs.declared.fault.Field.{Field}
use Rattle.qcow2_base.specs.declared.fault.Field.TheVariants as field
use Rattle.qcow2_metadata.proofs.ExtensionsLemmas.{same_extension-Decides}
use Rattle.qcow2_metadata.specs.Header.{HeaderRecord, IsValidHeader}
use Rattle.qcow2_metadata.specs.Header.Update.{AgreeIn, FieldValue, Number, IsFirstChange, kept_fields, same_value, value_in, with_size_and_tables}

-- two names, which may be missing
name-Decides : (a b : Option (List ℕ)) → Decides (option_eq bytes_eq a b) (a ≡ b)
name-Decides a b = grind (arith, nat_tests, bytes_eq-Decides)

-- the test of two values says whether they are the same
pub same_value-Decides : (a b : FieldValue) → Decides (same_value a b) (a ≡ b)
same_value-Decides a b = grind (arith, nat_tests, bytes_eq-Decides, name-Decides, slice_eq-Decides, same_extension-Decides)

-- the field at a place of the order
abbrev pub field_at : ℕ → Field
field_at i = get_or kept_fields i field.Magic

-- the condition on a field holds exactly where the headers agree in it
agreement-Decides : (here there : HeaderRecord) (field : Field)
    → Decides (same_value (value_in field here) (value_in field there)) (AgreeIn here there field)
agreement-Decides here there field = same_value-Decides (value_in field here) (value_in field there)

-- a field that fails its condition after those that hold is the first in which the headers differ
pub first_change-at : (here there : HeaderRecord) (i : ℕ) → i < 16 → All (AgreeIn here there) (take i kept_fields)
    → same_value (value_in (field_at i) here) (value_in (field_at i) there) ≡ false
    → IsFirstChange here there (FieldChanged (field_at i))
first_change-at here there i below agree differ = record {
  field = field_at i;
  before = take i kept_fields;
  after = drop (suc i) kept_fields;
  order = rw (← drop-cons kept_fields i field.Magic below) (sym (take-append-drop i kept_fields));
  agree = agree;
  differ = not_from_Decides _ (agreement-Decides here there (field_at i)) differ;
  named = refl;
}

-- one more field in which the headers agree
pub agreed-more : (here there : HeaderRecord) (i : ℕ) → i < 16 → All (AgreeIn here there) (take i kept_fields)
    → same_value (value_in (field_at i) here) (value_in (field_at i) there) ≡ true
    → All (AgreeIn here there) (take (i + 1) kept_fields)
agreed-more here there i below agree same =
    All-more (AgreeIn here there) kept_fields i field.Magic below agree ((agreement-Decides here there (field_at i)).0 same)

-- those up to the last are all
pub agreed-all : (here there : HeaderRecord) (i : ℕ) → 16 ≤ i → All (AgreeIn here there) (take i kept_fields)
    → All (AgreeIn here there) kept_fields
agreed-all here there i past agree = rw (take_all i kept_fields past) at agree

-- two values of one kind are the same where what they hold is
pub numbers : (a b : ℕ) → Number a ≡ Number b → a ≡ b
numbers a b same = cc

-- headers that agree are one, but for what is taken over and their lengths
pub with_size_and_tables-agreed : (here there : HeaderRecord) → All (AgreeIn here there) kept_fields
    → with_size_and_tables here there ≡ record there { base = record there.base { header_length = here.base.header_length } }
with_size_and_tables-agreed here there agree =
    let bytes : here.unknown_header_fields ≡ there.unknown_header_fields =
    cc (agree 12 field.Magic (lit< tt)) in
    let name : here.backing_filename ≡ there.backing_filename = cc (agree 13 field.Magic (lit< tt)) in
    let list : here.extensions ≡ there.extensions = cc (agree 14 field.Magic (lit< tt)) in
    λ i. record {
      v2 = record {
        magic = numbers _ _ (agree 0 field.Magic (lit< tt)) i;
        version = numbers _ _ (agree 1 field.Magic (lit< tt)) i;
        backing_file_offset = numbers _ _ (agree 2 field.Magic (lit< tt)) i;
        backing_file_size = numbers _ _ (agree 3 field.Magic (lit< tt)) i;
        cluster_bits = numbers _ _ (agree 4 field.Magic (lit< tt)) i;
        size = there.v2.size;
        crypt_method = numbers _ _ (agree 5 field.Magic (lit< tt)) i;
        l1_size = there.v2.l1_size;
        l1_table_offset = there.v2.l1_table_offset;
        refcount_table_offset = there.v2.refcount_table_offset;
        refcount_table_clusters = there.v2.refcount_table_clusters;
        nb_snapshots = numbers _ _ (agree 6 field.Magic (lit< tt)) i;
        snapshots_offset = numbers _ _ (agree 7 field.Magic (lit< tt)) i;
      };
      base = record {
        incompatible_features = numbers _ _ (agree 8 field.Magic (lit< tt)) i;
        compatible_features = numbers _ _ (agree 9 field.Magic (lit< tt)) i;
        autoclear_features = numbers _ _ (agree 10 field.Magic (lit< tt)) i;
        refcount_order = numbers _ _ (agree 11 field.Magic (lit< tt)) i;
        header_length = here.base.header_length;
      };
      unknown_header_fields = bytes i;
      backing_filename = name i;
      extensions = list i;
    }

-- tables of another header lie where clusters begin, and so they do in a header of the same cluster size
pub with_size_and_tables-valid : (here there : HeaderRecord) → IsValidHeader here → IsValidHeader there
    → here.v2.cluster_bits ≡ there.v2.cluster_bits → IsValidHeader (with_size_and_tables here there)
with_size_and_tables-valid here there valid other bits = grind (arith, nat_tests)
