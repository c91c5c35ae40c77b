-- Which number has each type of feature, and which bit has each feature?
use Rattle.std.specs.Prelude.{◌≡◌, ◌≢◌, ℕ, ◌==◌, if◌then◌else◌, Option, Some, None, Result, MatchResult}
use Rattle.qcow2_base.specs.Format.{external_data_file_bit}
use Rattle.qcow2_metadata.specs.declared.header.features.AutoclearFeatures.{AutoclearFeatures}
use Rattle.qcow2_metadata.specs.declared.header.features.AutoclearFeatures.TheVariants.{Bitmaps, RawExternalData}
use Rattle.qcow2_metadata.specs.declared.header.features.CompatibleFeatures.{CompatibleFeatures}
use Rattle.qcow2_metadata.specs.declared.header.features.CompatibleFeatures.TheVariants.{LazyRefcounts}
use Rattle.qcow2_metadata.specs.declared.header.features.FeatureType.{FeatureType}
use Rattle.qcow2_metadata.specs.declared.header.features.FeatureType.TheVariants.{Incompatible, Compatible, Autoclear}
use Rattle.qcow2_metadata.specs.declared.header.features.IncompatibleFeatures.{IncompatibleFeatures}
use Rattle.qcow2_metadata.specs.declared.header.features.IncompatibleFeatures.TheVariants.{Dirty, Corrupt, ExternalDataFile, CompressionType, ExtendedL2Entries}

-- the number of a feature's type in feature name tables
abbrev pub feature_type_number : FeatureType → ℕ
feature_type_number Incompatible = 0
feature_type_number Compatible = 1
feature_type_number Autoclear = 2

-- the bit of a feature in its field
abbrev pub incompatible_bit : IncompatibleFeatures → ℕ
incompatible_bit Dirty = 0
incompatible_bit Corrupt = 1
incompatible_bit ExternalDataFile = external_data_file_bit
incompatible_bit CompressionType = 3
incompatible_bit ExtendedL2Entries = 4

-- the same of a compatible feature
abbrev pub compatible_bit : CompatibleFeatures → ℕ
compatible_bit LazyRefcounts = 0

-- the same of an autoclear feature
abbrev pub autoclear_bit : AutoclearFeatures → ℕ
autoclear_bit Bitmaps = 0
autoclear_bit RawExternalData = 1

-- the answer is the value with a number, or an error where no value has it
abbrev pub HasNumber : {T E : Type 0} → (T → ℕ) → Result T E → ℕ → Type 0
HasNumber {T} number_of answer number =
    MatchResult answer (λ value. number_of value ≡ number) (λ _. (value : T) → number_of value ≢ number)

-- the type of feature with a number, if there is one
abbrev pub feature_type_of : ℕ → Option FeatureType
feature_type_of number =
    if number == 0 then Some Incompatible else (if number == 1 then Some Compatible else (if number == 2 then Some Autoclear else None))
