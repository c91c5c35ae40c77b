use Rattle.std.proofs.Common.{◌≤◌, length, rules}
use Rattle.qcow2_base.specs.OnDiskStruct.{v2_header}
use Rattle.qcow2_metadata.proofs.PointersLemmas.{part-between}
use Rattle.qcow2_metadata.proofs.header.pointers.write_part.Goals as goal

pub returns : goal.returns
returns g c =
    let new = (g.S.Storage.state c.write.new.self).byte_at in
    let bytes = c.write_be.new.bytes in
    let within : c.args.end ≤ length bytes = search rules in
    record {
      written = λ told.
          part-between new bytes c.args.first c.args.end (v2_header c.args.v2.now) within (c.in_ok-write.ensures.written told) c.write_be.ensures.placed;
      faults = search rules;
      storage = search rules;
    }
