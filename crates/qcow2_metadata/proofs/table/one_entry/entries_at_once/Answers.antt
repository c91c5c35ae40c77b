use Rattle.std.proofs.Common.{◌≡◌, max, rules}
use Rattle.qcow2_metadata.proofs.OneEntryLemmas.{part_of_alignments}
use Rattle.qcow2_metadata.proofs.table.one_entry.entries_at_once.Goals as goal

pub returns-clause-part : goal.returns-clause-part
returns-clause-part g c =
    let storage = g.S.Storage.state c.args.image.now in
    let alignment : c.max-alignment.result ≡ max (max storage.mem_align storage.req_align) 8 = search rules in
    rw alignment (part_of_alignments c.args.cluster_bits storage.mem_align storage.req_align
    (g.met.S.Storage.mem_align_is_power c.args.image.now) (g.met.S.Storage.req_align_is_power c.args.image.now) (search rules))
