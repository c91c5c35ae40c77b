use Rattle.std.proofs.Common.{◌≡◌, ◌+◌, ◌-◌, ◌*◌, ◌<◌, ◌≤◌, ◌^◌, rules, arith}
use Rattle.qcow2_check.proofs.UsesLemmas.{guest_fits}
use Rattle.qcow2_check.specs.Walk.{most_owners}
use Rattle.qcow2_check.proofs.uses.entry_use.Goals as goal

pub returns-clause-owned : goal.returns-clause-owned
returns-clause-owned c =
    let cb = c.cluster_bits-cluster_bits.result in
    let high : cb ≤ 21 = search rules in
    let within : c.args.index < 2 ^ (cb - 3) = rw c.cluster_bits-cluster_bits.ensures.value c.requires.index in
    let is : c.new.result.owner ≡ c.args.l1_index * 2 ^ (cb - 3) + c.args.index = search rules in
    let owners : most_owners c.new.result.kind ≡ 2 ^ 40 = grind arith in
    rw (is, owners) (guest_fits cb c.args.l1_index c.args.index high c.requires.l1_index within)
