use Rattle.std.proofs.Common.{rules}
use Rattle.qcow2_base.specs.OnDiskStruct.{header_extension_header}
use Rattle.qcow2_metadata.proofs.TextLemmas.{pushed-fields}
use Rattle.qcow2_metadata.proofs.header.extensions.push_extension_header.Goals as goal

pub returns : goal.returns
returns c =
    (pushed-fields c.push_bytes.result c.args.text.now.items _ c.write_be.new.bytes
    (header_extension_header c.args.header.now)
    c.push_bytes.ensures.bytes (assumption)
    (search rules) c.write_be.ensures.placed c.push_bytes.ensures.pushed).0
