use Rattle.std.proofs.Common.{◌≡◌, ◌≢◌, ℕ, ◌+◌, ◌*◌, ◌/◌, ◌^◌, ◌<◌, List, Some, Result, Ok, Err, IfErr, OnOk, MatchResult, ap, refl, subst, sym, ◌∙◌, inl, inr, arith}
use Rattle.std.proofs.lemmas.Bool.{cases_eq, cases_lt}
use Rattle.std.proofs.lemmas.Nat.{pow_pos}
use Rattle.qcow2_base.specs.Storage.{Image, SameOutside}
use Rattle.qcow2_base.specs.declared.fault.Fault.{Fault}
use Rattle.qcow2_base.specs.declared.fault.Fault.TheVariants.{Storage}
use Rattle.qcow2_base.specs.declared.types.HostCluster.{HostCluster}
use Rattle.qcow2_summary.proofs.ClustersLemmas.{other-cluster}
use Rattle.qcow2_check.specs.Failures.{TearsAtMost}
use Rattle.qcow2_apply.specs.Passes.{KeepsOutside, ArePlacesApart, PassBreaksOff, Passes, PassesBefore, Places, StepsAt, TearsOne}

-- numbers are those of the bytes of their cluster alone
abbrev pub AreOfClusters : Places → Type 0
AreOfClusters places = (cluster : HostCluster) (old new : Image) → ((o : ℕ) → o / 2 ^ places.cluster_bits ≡ cluster.0 → new o ≡ old o)
    → places.numbers cluster new ≡ places.numbers cluster old

-- only one of them changes
pub record ChangesOne (places : Places) (index : ℕ) (cluster : HostCluster) (old new : Image) : Type 0 where
  pub apart : ArePlacesApart places
  pub names : places.place index ≡ Some cluster
  pub outside : SameOutside (cluster.0 * 2 ^ places.cluster_bits) (2 ^ places.cluster_bits) old new

same_cluster : (a b : HostCluster) → a.0 ≡ b.0 → a ≡ b
same_cluster a b same = grind (arith, same)

pub one-steps : (places : Places) (Step : ℕ → List ℕ → List ℕ → Type 0) (index : ℕ) (cluster : HostCluster) (old new : Image)
    → AreOfClusters places → ChangesOne places index cluster old new → Step index (places.numbers cluster old) (places.numbers cluster new)
    → StepsAt places Step index old new
one-steps places Step index cluster old new local change step = record {
  changed = λ other named. subst (λ c. Step index (places.numbers c old) (places.numbers c new)) (same_option cluster other (sym change.names ∙ named)) step;
  elsewhere = λ i other differs named. local other old new
      (λ o here. other-cluster (2 ^ places.cluster_bits) cluster.0 o old new (pow_pos _) change.outside
      (λ at. differs (change.apart i index cluster (named ∙ ap Some (same_cluster other cluster (sym here ∙ at))) change.names)));
  others = λ o outside. other-cluster (2 ^ places.cluster_bits) cluster.0 o old new (pow_pos _) change.outside (outside index cluster change.names);
}
  where
    same_option : (a b : HostCluster) → Some a ≡ Some b → a ≡ b
    same_option a b same = grind (arith, same)

-- a write of one of them failed
pub one-tears : (places : Places) (index : ℕ) (cluster : HostCluster) (fault : Fault) (old new : Image) → places.place index ≡ Some cluster
    → SameOutside (cluster.0 * 2 ^ places.cluster_bits) (2 ^ places.cluster_bits) old new → (fault ≢ Storage → new ≡ old) → TearsAtMost fault (TearsOne places) old new
one-tears places index cluster fault old new names outside whole = record { whole = whole; torn = inr (index, cluster, names, outside) }

-- nothing was written
pub none-tears : (places : Places) (fault : Fault) (old new : Image) → new ≡ old → TearsAtMost fault (TearsOne places) old new
none-tears places fault old new same = record { whole = λ other. same; torn = inl same }

-- a step that changes nothing
pub none-steps : (places : Places) (Step : ℕ → List ℕ → List ℕ → Type 0) (index : ℕ) (old new : Image) → new ≡ old
    → ((cluster : HostCluster) → places.place index ≡ Some cluster → Step index (places.numbers cluster old) (places.numbers cluster old)) → StepsAt places Step index old new
none-steps places Step index old new same idle = subst (λ image. StepsAt places Step index old image) (sym same) (record {
  changed = idle;
  elsewhere = λ i cluster differs named. refl;
  others = λ o outside. refl;
})

-- a pass begins
pub begins : (places : Places) (Step : ℕ → List ℕ → List ℕ → Type 0) (image : Image) → PassesBefore places Step 0 image image
begins places Step image = record {
  changed = λ i cluster below named. absurd (omega (arith, below));
  after = λ i cluster later named. refl;
  others = λ o outside. refl;
}

-- the next step
pub steps-next : (places : Places) (Step : ℕ → List ℕ → List ℕ → Type 0) (index : ℕ) (a b c : Image)
    → PassesBefore places Step index a b → StepsAt places Step index b c → PassesBefore places Step (index + 1) a c
steps-next places Step index a b c before at = record {
  changed = λ i cluster below named. elim (cases_eq i index) [
    | inl here ↦
        let named' : places.place index ≡ Some cluster = rw here at named in
        let same : places.numbers cluster b ≡ places.numbers cluster a = before.after index cluster (omega arith) named' in
        rw here (subst (λ numbers. Step index numbers (places.numbers cluster c)) same (at.changed cluster named'))
    | inr differs ↦ subst (λ numbers. Step i (places.numbers cluster a) numbers) (sym (at.elsewhere i cluster differs named)) (before.changed i cluster (omega (arith, below, differs)) named)
  ];
  after = λ i cluster later named. at.elsewhere i cluster (λ same. omega (arith, same, later)) named ∙ before.after i cluster (omega (arith, later)) named;
  others = λ o outside. at.others o outside ∙ before.others o outside;
}

-- a step fails after those before it
pub breaks-later : (places : Places) (Step : ℕ → List ℕ → List ℕ → Type 0) (index : ℕ) (fault : Fault) (a b c : Image)
    → PassesBefore places Step index a b → TearsAtMost fault (TearsOne places) b c → PassBreaksOff places Step fault a c
breaks-later places Step index fault a b c before tears = (
  b,
  record {
    each = λ i cluster named. elim (cases_lt i index) [
      | inl less ↦ inr (before.changed i cluster less named)
      | inr more ↦ inl (before.after i cluster more named)
    ];
    others = before.others;
  },
  tears,
)

-- past the last index there is nothing to pass over
pub passes-all : (places : Places) (Step : ℕ → List ℕ → List ℕ → Type 0) (index : ℕ) (a b c : Image) → c ≡ b
    → ((i : ℕ) (cluster : HostCluster) → places.place i ≡ Some cluster → i < index) → PassesBefore places Step index a b → Passes places Step a c
passes-all places Step index a b c same all before = subst (λ image. Passes places Step a image) (sym same) (record {
  changed = λ i cluster named. before.changed i cluster (all i cluster named) named;
  others = before.others;
})

-- what came of a call that changes the table or block at an index, and no other byte
pub step-answer : {T : Type 0} (places : Places) (Step : ℕ → List ℕ → List ℕ → Type 0) (index : ℕ) (cluster : HostCluster) (answer : Result T Fault) (old new : Image)
    → AreOfClusters places → ArePlacesApart places → places.place index ≡ Some cluster
    → SameOutside (cluster.0 * 2 ^ places.cluster_bits) (2 ^ places.cluster_bits) old new → IfErr answer (λ fault. fault ≢ Storage → new ≡ old)
    → OnOk answer (Step index (places.numbers cluster old) (places.numbers cluster new))
    → MatchResult answer (λ _. StepsAt places Step index old new) (λ fault. TearsAtMost fault (TearsOne places) old new)
step-answer places Step index cluster (Ok value) old new local apart names outside whole step =
    one-steps places Step index cluster old new local (record { apart = apart; names = names; outside = outside }) step
step-answer places Step index cluster (Err fault) old new local apart names outside whole step =
    one-tears places index cluster fault old new names outside whole

-- no byte outside them changes where one is written
pub one-keeps : (places : Places) (index : ℕ) (cluster : HostCluster) (old new : Image) → places.place index ≡ Some cluster
    → SameOutside (cluster.0 * 2 ^ places.cluster_bits) (2 ^ places.cluster_bits) old new → KeepsOutside places old new
one-keeps places index cluster old new names outside o apart =
    other-cluster (2 ^ places.cluster_bits) cluster.0 o old new (pow_pos _) outside (apart index cluster names)

-- nor where two calls change none
pub keeps-twice : (places : Places) (a b c : Image) → KeepsOutside places a b → KeepsOutside places b c → KeepsOutside places a c
keeps-twice places a b c one other o outside = other o outside ∙ one o outside
