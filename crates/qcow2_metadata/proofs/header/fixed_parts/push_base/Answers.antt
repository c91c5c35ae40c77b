use Rattle.std.proofs.Common.{rules}
use Rattle.qcow2_base.specs.OnDiskStruct.{v3_header_base}
use Rattle.qcow2_metadata.proofs.TextLemmas.{pushed-fields}
use Rattle.qcow2_metadata.proofs.header.fixed_parts.push_base.Goals as goal

pub returns : goal.returns
returns c =
    let written = pushed-fields c.push_bytes.result c.args.text.now.items _ c.write_be.new.bytes
    (v3_header_base c.args.base.now)
    c.push_bytes.ensures.bytes (assumption)
    (search rules) c.write_be.ensures.placed c.push_bytes.ensures.pushed in
    record { pushed = written.0; fits = written.1 }
