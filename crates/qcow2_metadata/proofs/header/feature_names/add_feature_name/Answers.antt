use Rattle.std.proofs.Common.{◌≡◌, ◌≤◌, ℕ, List, arith, drop, length, Ok, refl, ◌∙◌, ap, slice_index, string_bytes}
use Rattle.qcow2_metadata.proofs.FeatureNamesLemmas.{insert_entry-map, with_feature_name-named, with_feature_name-unknown}
use Rattle.std.proofs.lemmas.List.{take_rest}
use Rattle.std.specs.Str.Lossy.{utf8_lossy}
use Rattle.qcow2_metadata.specs.Header.Extensions.{key_cmp, names_of, until_zero}
use Rattle.qcow2_metadata.specs.Header.Features.{feature_type_number}
use Rattle.qcow2_metadata.proofs.header.feature_names.add_feature_name.Goals as goal

pub returns-in_default-try_from-clause-exact : goal.returns-in_default-try_from-clause-exact
returns-in_default-try_from-clause-exact c = grind (arith, with_feature_name-unknown)

pub returns-clause-exact : goal.returns-clause-exact
returns-clause-exact c =
    let names = names_of c.args.names.now in
    let chunk = c.args.chunk.now in
    let kind = c.in-Ok.feature_type in
    let number : slice_index chunk 0 ≡ c.in-Some.number.now = grind (arith, c.in-Some.ensures.value) in
    let bit : slice_index chunk 1 ≡ c.in-Some-get.bit.now = grind (arith, c.in-Some-get.ensures.lookup) in
    let two : 2 ≤ length chunk = grind (arith, c.in-Some-get.ensures.lookup) in
    let known : feature_type_number kind ≡ slice_index chunk 0 = rw number c.in-Ok.ensures in
    let text : string_bytes c.in_ok-name.name ≡ utf8_lossy (until_zero (drop 2 chunk)) =
    c.in_ok-name.ensures ∙ ap (λ (xs : List ℕ). utf8_lossy (until_zero xs)) (take_rest chunk 2) in
    let mapped = insert_entry-map string_bytes key_cmp c.args.names.now.entries (kind, c.in-Some-get.bit.now) c.in_ok-name.name in
    let named = with_feature_name-named names kind chunk two known in
    named ∙ ap Ok (rw (bit, ← text, ← mapped, ← c.in_ok-insert.ensures.entries) refl)
