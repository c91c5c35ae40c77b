use Rattle.std.proofs.Common.{rules, subst}
use Rattle.std.proofs.lemmas.List.Sorted.{IsNonDecreasingBy-from_sort_by_key}
use Rattle.std.specs.List.Sorted.{IsPermutation}
use Rattle.qcow2_check.specs.Repeats.{sort_key}
use Rattle.qcow2_check.proofs.repeats.in_order.Goals as goal

pub returns : goal.returns
returns c = record {
  places = subst (λ from. IsPermutation from c.sort_unstable_by_key.new.self.items) c.in_ok-order.ensures c.sort_unstable_by_key.ensures.permutation;
  rises = IsNonDecreasingBy-from_sort_by_key (sort_key c.args.offsets.now) _ c.sort_unstable_by_key.ensures.sorted (λ a r q k. search rules);
}
