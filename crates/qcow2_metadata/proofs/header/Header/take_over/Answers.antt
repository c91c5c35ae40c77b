use Rattle.std.proofs.Common.{◌≡◌, Bool, ap, map, refl, ◌∙◌, rules, subst, sym}
use Rattle.std.proofs.lemmas.Fn.{filter_same}
use Rattle.std.specs.List.{filter}
use Rattle.qcow2_metadata.proofs.HeaderLemmas.{held_are}
use Rattle.qcow2_metadata.proofs.WriteLemmas.{kept-extensions, not_true, placed-valid}
use Rattle.qcow2_metadata.specs.Header.{IsValidHeader}
use Rattle.qcow2_metadata.specs.Header.Extensions.{extension_of}
use Rattle.qcow2_metadata.specs.Header.Text.{chosen_extensions, is_other}
use Rattle.qcow2_metadata.proofs.header.Header.take_over.Goals as goal

pub returns-then-not-layout : goal.returns-then-not-layout
returns-then-not-layout c =
    let header = c.args.self.now in
    let header_without_names = not_true c.args.layout.with_names c.if-not-layout.true in
    let left = filter_same _ (λ extension. is_other (extension_of extension)) _ (λ x b f' k. search rules) _ _
    c.retain.ensures.filtered in
    let all = held_are _ _ _ _ c.self.view_is refl (refl {a = c.self.inside.extensions.items}) in
    let extensions : map extension_of c.retain.new.self.items
    ≡ chosen_extensions c.args.layout.with_names header.extensions =
    ap (map extension_of) left ∙ kept-extensions c.self.inside.extensions.items ∙ ap (filter is_other) all
    ∙ sym (ap (λ (b : Bool). chosen_extensions b header.extensions) header_without_names) in
    λ i. record {
      v2 = c.requires.v2 i;
      base = c.requires.base i;
      unknown_header_fields = (c.self.view_is i).unknown_header_fields;
      backing_filename = (c.self.view_is i).backing_filename;
      extensions = extensions i;
    }

pub invariant_of-self : goal.invariant_of-self
invariant_of-self c =
    let valid = subst IsValidHeader c.self.view_is c.self.invariant in
    subst IsValidHeader (sym (returns-then-not-layout c))
    (placed-valid c.args.layout.with_names c.args.self.now valid)
