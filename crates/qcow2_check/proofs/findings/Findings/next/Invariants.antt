use Rattle.std.proofs.Common.{◌-◌, ◌≤◌, Ok}
use Rattle.qcow2_base.specs.Format.{max_file_length}
use Rattle.qcow2_base.specs.Storage.{OnImage, OnlyReads}
use Rattle.qcow2_check.specs.Findings.{IsFindingsOf, MovesFindings, NoneSought, tables_of}
use Rattle.qcow2_check.proofs.findings.Findings.next.Given as goal

-- none of the clusters before the reader's is sought, and it reads the same image
abbrev pub invariant-loop-self : goal.invariant-loop-self
invariant-loop-self g l =
    let old = g.S.Storage.state l.fn.image in
    record {
      from : l.fn.self.position ≤ l.self.position;
      within : l.self.position ≤ max_file_length;
      none : OnImage old (λ bytes. NoneSought l.fn.self.sought (tables_of l.fn.self) bytes l.fn.self.position l.self.position);
      kept : OnImage old (λ bytes. IsFindingsOf bytes l.self);
      reader : MovesFindings old l.fn.self l.self;
      storage : OnlyReads (Ok l.self.position) old (g.S.Storage.state l.image);
    }

abbrev pub decreases-loop-self : goal.decreases-loop-self
decreases-loop-self g l = max_file_length - l.self.position
