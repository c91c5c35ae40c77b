use Rattle.std.proofs.Common.{◌≡◌, [], map, take}
use Rattle.qcow2_metadata.specs.Header.{names_by}
use Rattle.qcow2_metadata.specs.Header.Extensions.{extension_of, name_in}
use Rattle.qcow2_metadata.proofs.header.names.first_name.Given as goal

-- no extension so far says a name
abbrev pub invariant-loop-extension : goal.invariant-loop-extension
invariant-loop-extension l =
    names_by (name_in l.extension_type) (map extension_of (take l.extension-index l.extensions)) ≡ []
