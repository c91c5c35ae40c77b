use Rattle.std.proofs.Common.{◌≡◌, [], map, take}
use Rattle.qcow2_metadata.specs.Header.{names_by}
use Rattle.qcow2_metadata.specs.Header.Extensions.{FeatureKey, extension_of, feature_name_in}
use Rattle.qcow2_metadata.proofs.header.Header.feature_name.Given as goal

-- no extension so far has a name for the feature
abbrev pub invariant-loop-extension : goal.invariant-loop-extension
invariant-loop-extension l =
    let key : FeatureKey = (l.feature_type, l.bit) in
    names_by (feature_name_in key) (map extension_of (take l.extension-index l.extension-items)) ≡ []
