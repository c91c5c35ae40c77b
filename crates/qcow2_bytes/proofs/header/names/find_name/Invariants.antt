use Rattle.std.proofs.Common.{◌+◌, ◌-◌}
use Rattle.qcow2_base.specs.Storage.{image_of}
use Rattle.qcow2_bytes.proofs.NamesLemmas.{KeepsFirst}
use Rattle.qcow2_bytes.proofs.header.names.find_name.Given as goal

-- the first name of a complete chain is the first from this place on
abbrev pub invariant-loop-place : goal.invariant-loop-place
invariant-loop-place l = KeepsFirst (image_of l.bytes) l.len l.first l.place l.kind

-- what is left up to the end
abbrev pub decreases-loop-place : goal.decreases-loop-place
decreases-loop-place l = l.len + 16 - l.place
