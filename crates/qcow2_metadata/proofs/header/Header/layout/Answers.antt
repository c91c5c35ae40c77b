use Rattle.std.proofs.Common.{◌≡◌, arith, refl}
use Rattle.qcow2_metadata.proofs.HeaderLemmas.{held_are}
use Rattle.qcow2_metadata.proofs.LayoutLemmas.{laid_out}
use Rattle.qcow2_metadata.specs.Header.Text.{header_to_write, name_place}
use Rattle.qcow2_metadata.proofs.header.Header.layout.Goals as goal

pub returns-clause-layout : goal.returns-clause-layout
returns-clause-layout c =
    let extensions =
    rw (held_are _ _ _ _ c.self.view_is refl c.deref.ensures.value) at c.in_ok-extensions_len.ensures in
    let place : c.in_ok-name_place.name_place ≡ name_place (header_to_write c.args.with_names c.args.self.now) =
    omega (arith, extensions, c.in_ok-header_end.ensures, c.in_ok-name_place.ensures) in
    laid_out _ _ _ _ _ c.self.invariant c.self.view_is c.in_ok-header_end.ensures.1 place c.placed_v2.ensures
    c.placed_base.ensures
    (omega (arith, c.backing_filename_len.ensures, c.in_ok-len.ensures))
    (omega (arith, c.cluster_size.ensures.value, c.if-len-cluster_size.false))
