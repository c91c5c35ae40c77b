use Rattle.std.proofs.Common.{rules, replicate}
use Rattle.qcow2_base.specs.Storage.{Holds}
use Rattle.qcow2_metadata.proofs.PointersLemmas.{cleared-between}
use Rattle.qcow2_metadata.proofs.header.Header.clear_autoclear.Goals as goal

pub returns-clause-written : goal.returns-clause-written
returns-clause-written g c =
    let new = (g.S.Storage.state c.write.new.self).byte_at in
    record {
      written = λ told.
          let held : Holds new 88 (replicate 8 0) = c.in_ok-write.ensures.written told in
          cleared-between new c.args.self.now held;
      faults = search rules;
      storage = search rules;
    }
