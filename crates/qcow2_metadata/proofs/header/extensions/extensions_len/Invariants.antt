use Rattle.std.proofs.Common.{◌≡◌, ◌+◌, ◌<◌, ◌^◌, length, take}
use Rattle.std.specs.List.{flat_map}
use Rattle.qcow2_metadata.proofs.LayoutLemmas.{held_part}
use Rattle.qcow2_metadata.proofs.header.extensions.extensions_len.Given as goal

abbrev pub invariant-loop-extension : goal.invariant-loop-extension
invariant-loop-extension l =
    (l.len ≡ 8 + length (flat_map (held_part l.with_names) (take l.extension-index l.extensions))) × (l.len < 2 ^ 64)
