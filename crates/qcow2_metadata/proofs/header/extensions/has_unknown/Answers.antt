use Rattle.std.proofs.Common.{◌≡◌, ◌∙◌, ◌<◌, ap, sym, map, length, get_or, rules}
use Rattle.std.proofs.lemmas.List.{get_or-map, length-map}
use Rattle.std.proofs.lemmas.List.Folds.{list_any_at}
use Rattle.qcow2_metadata.specs.Header.Extensions.{extension_of, is_unknown}
use Rattle.qcow2_metadata.proofs.header.extensions.has_unknown.Goals as goal

pub returns-then-is_unknown : goal.returns-then-is_unknown
returns-then-is_unknown c =
    let held = c.args.extensions.now in
    let item = c.extension-item.result in
    let index = c.loop-extension.extension-index in
    let below : index < length held = search rules in
    let here : get_or (map extension_of held) index (extension_of item) ≡ extension_of item =
    get_or-map extension_of held index item (extension_of item) below ∙ ap extension_of (sym c.extension-item.is) in
    sym (list_any_at (is_unknown c.args.number) (map extension_of held) index (extension_of item) (rw (length-map held extension_of) below)
    (ap (is_unknown c.args.number) here ∙ search rules))
