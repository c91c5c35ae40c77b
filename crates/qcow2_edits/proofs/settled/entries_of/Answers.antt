use Rattle.std.proofs.Common.{◌≡◌, ℕ, IfOk, List, arith, length, rules, slice_index, subst}
use Rattle.std.proofs.lemmas.Iterator.{YieldsList-from_map, YieldsList-from_range, items_from_collect}
use Rattle.qcow2_edits.proofs.SettledLemmas.{by-index}
use Rattle.qcow2_edits.proofs.settled.entries_of.Goals as goal

pub returns : goal.returns
returns c =
    let numbers = c.args.table.now.numbers in
    subst (λ (list : List ℕ). IfOk c.collect.result (λ entries. entries.items ≡ list)) (by-index numbers)
    (items_from_collect c.collect.result c.collect.ensures.ran
    (YieldsList-from_map _ (λ i. slice_index numbers i) (YieldsList-from_range 0 c.args.count (length numbers) c.map.ensures.source (omega (arith, c.requires))) c.map.ensures.closure (λ x r q k. search rules)))
