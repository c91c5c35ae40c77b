use Rattle.std.proofs.Common.{arith, rules}
use Rattle.std.proofs.lemmas.Result.{on_ok_weaker}
use Rattle.qcow2_metadata.proofs.LayoutLemmas.{extensions_pieces, extensions_text_len, parts_within_len}
use Rattle.qcow2_metadata.proofs.header.extensions.push_extensions.Goals as goal

pub push_written-requires : goal.push_written-requires
push_written-requires c =
    let all = extensions_text_len c.args.with_names c.args.extensions.now in
    let within = parts_within_len c.args.with_names c.args.extensions.now c.loop-extension.extension-index
    c.extension-item.result c.loop-extension-test.true c.extension-item.is in
    omega (arith, all, within, c.requires)

pub returns : goal.returns
returns c = search (rules, on_ok_weaker, extensions_pieces)
