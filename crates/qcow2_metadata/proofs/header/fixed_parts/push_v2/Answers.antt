use Rattle.std.proofs.Common.{rules}
use Rattle.qcow2_base.specs.OnDiskStruct.{v2_header}
use Rattle.qcow2_metadata.proofs.TextLemmas.{pushed-fields}
use Rattle.qcow2_metadata.proofs.header.fixed_parts.push_v2.Goals as goal

pub returns : goal.returns
returns c =
    let written =
    pushed-fields c.push_bytes.result c.args.text.now.items _ c.write_be.new.bytes (v2_header c.args.v2.now)
    c.push_bytes.ensures.bytes (assumption)
    (search rules) c.write_be.ensures.placed c.push_bytes.ensures.pushed in
    record { pushed = written.0; fits = written.1 }
