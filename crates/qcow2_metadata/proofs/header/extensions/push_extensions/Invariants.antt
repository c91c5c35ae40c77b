use Rattle.std.proofs.Common.{◌≡◌, ◌++◌, take}
use Rattle.std.specs.List.{flat_map}
use Rattle.qcow2_metadata.proofs.LayoutLemmas.{held_part}
use Rattle.qcow2_metadata.proofs.header.extensions.push_extensions.Given as goal

abbrev pub invariant-loop-extension : goal.invariant-loop-extension
invariant-loop-extension l =
    l.text.items ≡ l.initial.text.items
    ++ flat_map (held_part l.with_names) (take l.extension-index l.extensions)
