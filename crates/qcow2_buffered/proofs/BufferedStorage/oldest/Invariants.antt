use Rattle.std.proofs.Common.{◌<◌, length}
use Rattle.qcow2_buffered.proofs.BufferedStorage.oldest.Given as goal

-- there is a page of that index
abbrev pub invariant-loop-index : goal.invariant-loop-index
invariant-loop-index g l = l.oldest < length l.self.pages.items
