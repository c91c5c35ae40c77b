use Rattle.std.proofs.Common.{◌≡◌, false, map, take}
use Rattle.std.specs.List.{list_any}
use Rattle.qcow2_metadata.specs.Header.Extensions.{extension_of, is_unknown}
use Rattle.qcow2_metadata.proofs.header.extensions.has_unknown.Given as goal

-- no extension so far is of this type
abbrev pub invariant-loop-extension : goal.invariant-loop-extension
invariant-loop-extension l =
    list_any (is_unknown l.number) (map extension_of (take l.extension-index l.extensions)) ≡ false
