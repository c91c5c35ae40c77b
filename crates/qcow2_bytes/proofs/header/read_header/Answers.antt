use Rattle.std.proofs.Common.{sym}
use Rattle.qcow2_bytes.proofs.HeaderLemmas.{reads-header}
use Rattle.qcow2_bytes.proofs.header.read_header.Goals as goal

pub returns-clause-read : goal.returns-clause-read
returns-clause-read c =
    reads-header c.args.bytes.now c.in_ok-size.size c.in_ok-load_header.field-0 c.fields_of.result (sym c.in_ok-size.ensures.value)
    c.if-bytes-size.false c.in_ok-load_header.ensures.exact c.fields_of.ensures
