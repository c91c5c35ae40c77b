use Rattle.std.proofs.Common.{◌≡◌, ◌∙◌, ap, refl, sym, Option, None, Some, option_map, Bor, String, string_bytes}
use Rattle.std.specs.Global.{Global}
use Rattle.std.specs.Option.{option_copied}
use Rattle.std.specs.Ordering.{is_eq}
use Rattle.qcow2_metadata.specs.Header.Extensions.{FeatureKey, key_cmp}
use Rattle.std.proofs.lemmas.Map.Made.{lookup-map_values}
use Rattle.qcow2_metadata.proofs.header.extensions.HeaderExtension.feature_name.Goals as goal

-- the bytes of a text after a reference are those of a copy of the text
bytes_of_copied : (found : Option (Bor (String Global)))
    → option_map (λ name. string_bytes name.now) found ≡ option_map string_bytes (option_copied found)
bytes_of_copied None = refl
bytes_of_copied (Some name) = refl

pub returns-in-FeatureNameTable : goal.returns-in-FeatureNameTable
returns-in-FeatureNameTable c =
    let key : FeatureKey = (c.args.feature_type, c.args.bit) in
    let entries = c.in-FeatureNameTable.names.entries in
    let found = lookup-map_values string_bytes (λ other. is_eq (key_cmp key other)) entries in
    let bytes = bytes_of_copied c.get.result in
    let got = ap (option_map string_bytes) c.get.ensures.value in
    rw c.in-FeatureNameTable.is (bytes ∙ got ∙ sym found)
