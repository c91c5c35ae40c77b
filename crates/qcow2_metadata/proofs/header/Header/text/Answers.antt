use Rattle.std.proofs.Common.{arith, refl, subst}
use Rattle.qcow2_metadata.proofs.HeaderLemmas.{held_are}
use Rattle.qcow2_metadata.proofs.LayoutLemmas.{extensions_short, text_pieces}
use Rattle.qcow2_metadata.specs.Header.{IsValidHeader}
use Rattle.qcow2_metadata.specs.Header.Text.{header_to_write}
use Rattle.qcow2_metadata.proofs.header.Header.text.Goals as goal

pub push_extensions-requires : goal.push_extensions-requires
push_extensions-requires c =
    let header = header_to_write c.args.layout.now.with_names c.args.self.now in
    let valid = subst IsValidHeader c.self.view_is c.self.invariant in
    rw (held_are _ _ _ _ c.self.view_is refl c.deref.ensures.value)
    (extensions_short header valid.version valid.cluster_bits.1 c.requires.fits)

pub returns-clause-text : goal.returns-clause-text
returns-clause-text c = grind (arith, text_pieces)
