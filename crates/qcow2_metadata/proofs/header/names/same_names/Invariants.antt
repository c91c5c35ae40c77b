use Rattle.std.proofs.Common.{◌≡◌, true, map, take}
use Rattle.qcow2_metadata.specs.Header.{first_by, names_by}
use Rattle.qcow2_metadata.specs.Header.Extensions.{extension_of, name_in}
use Rattle.qcow2_metadata.proofs.HeaderLemmas.{all_are}
use Rattle.qcow2_metadata.proofs.header.names.same_names.Given as goal

-- all names so far are the first one
abbrev pub invariant-loop-extension : goal.invariant-loop-extension
invariant-loop-extension l =
    all_are (first_by (name_in l.extension_type) (map extension_of l.extensions))
    (names_by (name_in l.extension_type) (map extension_of (take l.extension-index l.extensions))) ≡ true
