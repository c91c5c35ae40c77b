use Rattle.std.proofs.Common.{◌∙◌, ap, map, string_bytes}
use Rattle.std.specs.BTreeMap.{insert_entry}
use Rattle.qcow2_metadata.specs.Header.Extensions.{key_cmp, names_of}
use Rattle.qcow2_metadata.proofs.FeatureNamesLemmas.{insert_entry-map}
use Rattle.qcow2_metadata.proofs.header.feature_names.set_name.Goals as goal

pub returns : goal.returns
returns c =
    let entries = c.args.names.now.entries in
    let mapped = insert_entry-map string_bytes key_cmp entries c.args.key c.in_ok-name.name in
    ap (map (λ other. (other.0, string_bytes other.1))) c.in_ok-insert.ensures.entries
    ∙ mapped
    ∙ ap (insert_entry key_cmp (names_of c.args.names.now) c.args.key) c.in_ok-name.ensures.ok
