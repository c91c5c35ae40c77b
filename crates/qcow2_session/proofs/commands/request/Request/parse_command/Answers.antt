use Rattle.std.proofs.Common.{◌-◌, ap, drop, length, map, string_bytes, take}
use Rattle.qcow2_session.proofs.RequestLemmas.{first-item, lacks-memory}
use Rattle.qcow2_session.proofs.commands.request.Request.parse_command.Goals as goal

pub returns-in-Some-Err-clause-memory : goal.returns-in-Some-Err-clause-memory
returns-in-Some-Err-clause-memory c = λ err.
    let words = c.args.arguments.now in
    let items = first-item words c.image-item.result c.in-len1-up.len_at_least c.image-item.is in
    lacks-memory c.args.name.now c.as_str-path.result.now (map string_bytes words) (map string_bytes (take (length words - 1) (drop 1 words)))
    (rw c.as_str-path.ensures.value (ap (map string_bytes) items)) (rw (c.in-Some-Err.is, c.in-Some-Err.field-0-is) at c.parse_named.ensures)
