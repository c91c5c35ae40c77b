use Rattle.std.proofs.Common.{ap, rules}
use Rattle.std.proofs.lemmas.Result.{on_ok_weaker}
use Rattle.qcow2_metadata.specs.Header.Extensions.{extension_of, names_of}
use Rattle.qcow2_metadata.proofs.LayoutLemmas.{names_pieces}
use Rattle.qcow2_metadata.proofs.header.extensions.push_extension.Goals as goal

pub returns-in-FeatureNameTable : goal.returns-in-FeatureNameTable
returns-in-FeatureNameTable c =
    let is = ap extension_of c.in-FeatureNameTable.is in
    on_ok_weaker c.push_names.result
    (names_pieces c.args.text.now.items c.push_extension_header.new.text.items c.push_names.new.text.items
    (extension_of c.args.extension.now) (names_of c.in-FeatureNameTable.names) is (search rules))
    c.push_names.ensures
