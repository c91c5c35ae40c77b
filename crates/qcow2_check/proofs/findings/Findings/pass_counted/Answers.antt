use Rattle.std.proofs.Common.{◌≡◌, ℕ, true, ◌+◌, ◌≤◌, Some, Ok, ap, rules, subst, sym}
use Rattle.qcow2_base.specs.Storage.{OnImage, StorageState}
use Rattle.qcow2_check.proofs.FindingsLemmas.{none_more}
use Rattle.qcow2_check.specs.Findings.{FindingsState, NoneSought, PassesFinding, finding_at, is_sought, tables_of}
use Rattle.qcow2_check.specs.declared.findings.Finding.{Finding}
use Rattle.qcow2_check.proofs.findings.Findings.pass_counted.Goals as goal

-- what a reader passes where it finds something at the cluster after those that nothing is wrong with
passes_to : (image : StorageState) (reader : FindingsState) (c : ℕ) (finding : Finding) → reader.position ≤ c
    → OnImage image (λ bytes. NoneSought reader.sought (tables_of reader) bytes reader.position c) → finding.cluster.0 ≡ c
    → OnImage image (λ bytes. finding ≡ finding_at (tables_of reader) bytes c) → is_sought reader.sought finding ≡ true
    → PassesFinding image reader (Ok (Some finding)) (c + 1)
passes_to image reader c finding from none at found is =
    let here = sym at in (
      subst (λ k. reader.position ≤ k) here from,
      ap (λ k. k + 1) here,
      λ told. (
        subst (λ k. finding ≡ finding_at (tables_of reader) image.byte_at k) here (found told),
        is,
        subst (λ k. NoneSought reader.sought (tables_of reader) image.byte_at reader.position k) here (none told),
      ),
    )

pub returns-clause-finding : goal.returns-clause-finding
returns-clause-finding g c = (
  search rules,
  λ told.
      let image = (g.S.Storage.state c.args.image.now).byte_at in
      none_more c.args.self.now.sought (tables_of c.args.self.now) image c.args.self.now.position c.candidate-cluster.result c.in_ok-finding.finding
      (c.candidate-cluster.ensures.none image (c.requires.reader told)) (c.in_ok-finding.ensures.found told) (search rules),
)

pub returns-then-cluster-end-clause-finding : goal.returns-then-cluster-end-clause-finding
returns-then-cluster-end-clause-finding g c = (
  c.candidate-cluster.ensures.from,
  λ told. c.candidate-cluster.ensures.none (g.S.Storage.state c.args.image.now).byte_at (c.requires.reader told),
)

pub returns-then-is_sought-clause-finding : goal.returns-then-is_sought-clause-finding
returns-then-is_sought-clause-finding g c =
    passes_to (g.S.Storage.state c.args.image.now) c.args.self.now c.candidate-cluster.result c.in_ok-finding.finding
    c.candidate-cluster.ensures.from (λ told. c.candidate-cluster.ensures.none (g.S.Storage.state c.args.image.now).byte_at (c.requires.reader told))
    c.in_ok-finding.ensures.cluster c.in_ok-finding.ensures.found (search rules)
