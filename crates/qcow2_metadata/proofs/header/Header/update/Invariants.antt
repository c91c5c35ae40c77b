use Rattle.std.proofs.Common.{take}
use Rattle.std.specs.List.{All}
use Rattle.qcow2_metadata.specs.Header.Update.{AgreeIn}
use Rattle.qcow2_metadata.proofs.header.Header.update.Given as goal

-- the headers agree in all fields so far
abbrev pub invariant-loop-field : goal.invariant-loop-field
invariant-loop-field l = All (AgreeIn l.self l.other) (take l.field-index l.field-items)
