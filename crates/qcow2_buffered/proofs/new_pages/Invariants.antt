use Rattle.qcow2_base.specs.Storage.{StorageState}
use Rattle.qcow2_buffered.specs.Pages.{ArePages}
use Rattle.qcow2_buffered.proofs.new_pages.Given as goal

-- the pages so far keep nothing
abbrev pub invariant-loop : goal.invariant-loop
invariant-loop l = (state : StorageState) → ArePages l.size state l.pages.items
