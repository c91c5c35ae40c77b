use Rattle.std.proofs.Common.{◌≡◌, ◌++◌, map, string_bytes}
use Rattle.std.specs.List.{flat_map}
use Rattle.std.specs.Map.Iter.{deref_pair}
use Rattle.qcow2_metadata.proofs.header.feature_names.push_names.Given as goal
use Rattle.qcow2_metadata.specs.Header.Extensions.{name_chunk}

abbrev pub invariant-loop-key : goal.invariant-loop-key
invariant-loop-key l =
    l.text.items ≡ l.initial.text.items
    ++ flat_map name_chunk (map (λ entry. (entry.0, string_bytes entry.1)) (map deref_pair l.yielded))
