use Rattle.std.proofs.Common.{◌≤◌, length, rules}
use Rattle.qcow2_base.specs.OnDiskStruct.{fields_moved_by, v3_header_base}
use Rattle.qcow2_metadata.proofs.PointersLemmas.{part-between}
use Rattle.qcow2_metadata.proofs.header.marks.write_features.Goals as goal

pub returns : goal.returns
returns g c =
    let new = (g.S.Storage.state c.write.new.self).byte_at in
    let bytes = c.write_be.new.bytes in
    let fields = fields_moved_by 72 (v3_header_base c.args.base.now) in
    let within : 80 ≤ length bytes = search rules in
    record {
      written = λ told.
          let all = part-between new bytes 72 80 fields within (c.in_ok-write.ensures.written told) c.write_be.ensures.placed in
          (all.0, tt);
      faults = search rules;
      storage = search rules;
    }
