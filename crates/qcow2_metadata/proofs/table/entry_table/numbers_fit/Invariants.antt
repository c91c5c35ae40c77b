use Rattle.std.proofs.Common.{◌^◌, ◌<◌, map, take, All}
use Rattle.qcow2_metadata.proofs.table.entry_table.numbers_fit.Given as goal

-- the numbers so far fit
abbrev pub invariant-loop-entry : goal.invariant-loop-entry
invariant-loop-entry g l = All (λ v. v < 2 ^ 64) (map g.E.TableEntry.plain (take l.entry-index l.entries))
