use Rattle.std.proofs.Common.{◌≡◌, ◌-◌, [], ◌∷◌, ◌++◌, slice_set, refl, subst, sym, arith, rules}
use Rattle.std.proofs.lemmas.Bool.Decides.{nat_tests}
use Rattle.std.proofs.lemmas.List.{nil_from_length}
use Rattle.std.specs.Vec.{vec_len}
use Rattle.qcow2_apply.proofs.OrderLemmas.{appended-first, appended-last, joined-last}
use Rattle.qcow2_apply.specs.ChangedClusters.{AppendsInOrder}
use Rattle.qcow2_apply.proofs.changes.adding.push_clusters.Goals.{in-Some+then-eq+in_default-checked_add, in-Some+else-eq, in_default}
use Rattle.qcow2_apply.proofs.changes.adding.push_clusters.Goals as goal

pub returns-in-Some-checked_add-clause-order : goal.returns-in-Some-checked_add-clause-order
returns-in-Some-checked_add-clause-order c =
    let n = vec_len c.args.list.now - 1 in
    joined-last c.args.list.now.items n c.in-Some.last.now (record { first = c.in-Some.last.now.first; count = record { 0 = c.in-Some-checked_add.count } }) c.args.clusters
    (search rules) (search rules) (grind arith) refl (grind arith)

pub returns-clause-order : goal.returns-clause-order
returns-clause-order c = elim c.match-last_mut.branch [
  | in-Some+then-eq+in_default-checked_add w ↦
      let n = vec_len c.args.list.now - 1 in
      let pushed : c.push.new.self.items ≡ slice_set c.args.list.now.items n w.in-Some.last.now ++ c.args.clusters ∷ [] = search rules in
      subst (AppendsInOrder c.args.clusters c.args.list.now.items) (sym pushed)
      (appended-last c.args.list.now.items n w.in-Some.last.now c.args.clusters (search rules) (search rules)
      (λ fits meets. w.in_default-checked_add.ensures (omega (arith, fits, meets))))
  | in-Some+else-eq w ↦
      let n = vec_len c.args.list.now - 1 in
      let pushed : c.push.new.self.items ≡ slice_set c.args.list.now.items n w.in-Some.last.now ++ c.args.clusters ∷ [] = search rules in
      subst (AppendsInOrder c.args.clusters c.args.list.now.items) (sym pushed)
      (appended-last c.args.list.now.items n w.in-Some.last.now c.args.clusters (search rules) (search rules)
      (λ fits meets. grind (arith, nat_tests, fits, meets)))
  | in_default w ↦
      let none : c.args.list.now.items ≡ [] = nil_from_length c.args.list.now.items (grind arith) in
      let pushed : c.push.new.self.items ≡ c.args.clusters ∷ [] = search rules in
      subst (λ items. AppendsInOrder c.args.clusters items c.push.new.self.items) (sym none)
      (subst (AppendsInOrder c.args.clusters []) (sym pushed) (appended-first c.args.clusters))
]
