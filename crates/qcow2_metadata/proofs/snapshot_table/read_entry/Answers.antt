use Rattle.std.proofs.Common.{◌≡◌, ◌≤◌, Err, length, inr, ap, ◌∙◌, rules}
use Rattle.qcow2_metadata.proofs.SnapshotTableLemmas.{ends-past, has-too_many, is-accepted, read-snapshot_header_at}
use Rattle.qcow2_metadata.specs.SnapshotTable.{accepted_entry, no_snapshots}
use Rattle.qcow2_metadata.proofs.snapshot_table.read_entry.Goals.{then-entry-gt-MOST_EXTRA_BYTES-via-then-entry-gt-MOST_EXTRA_BYTES, then-entry-gt-MOST_EXTRA_BYTES-via-else-entry-gt-MOST_EXTRA_BYTES+then-entry_end-limit}
use Rattle.qcow2_metadata.proofs.snapshot_table.read_entry.Goals as goal

pub returns-then-entry-gt-MOST_EXTRA_BYTES-clause-reads : goal.returns-then-entry-gt-MOST_EXTRA_BYTES-clause-reads
returns-then-entry-gt-MOST_EXTRA_BYTES-clause-reads g c =
    let image = (g.S.Storage.state c.args.image.now).byte_at in
    let entry = c.read_be-entry.result in
    let within : 40 ≤ length c.read_range.new.buffer = search rules in
    let refused : accepted_entry c.args.limit c.args.offset entry ≡ Err no_snapshots = elim c.then-entry-gt-MOST_EXTRA_BYTES.branch [
      | then-entry-gt-MOST_EXTRA_BYTES-via-then-entry-gt-MOST_EXTRA_BYTES w ↦
          has-too_many c.args.limit c.args.offset entry (search rules)
      | then-entry-gt-MOST_EXTRA_BYTES-via-else-entry-gt-MOST_EXTRA_BYTES+then-entry_end-limit w ↦
          ends-past c.args.limit c.args.offset entry (search rules)
    ] in
    record {
      exact = λ told.
          let is = read-snapshot_header_at image c.args.offset c.read_range.new.buffer entry (c.in_ok-read_range.ensures.held told) within c.read_be-entry.ensures in
          inr (inr (ap (accepted_entry c.args.limit c.args.offset) is ∙ refused));
      faults = search rules;
      storage = search rules;
    }

pub returns-clause-reads : goal.returns-clause-reads
returns-clause-reads g c =
    let image = (g.S.Storage.state c.args.image.now).byte_at in
    let entry = c.read_be-entry.result in
    let within : 40 ≤ length c.read_range.new.buffer = search rules in
    record {
      exact = λ told.
          let is = read-snapshot_header_at image c.args.offset c.read_range.new.buffer entry (c.in_ok-read_range.ensures.held told) within c.read_be-entry.ensures in
          ap (accepted_entry c.args.limit c.args.offset) is ∙ is-accepted c.args.limit c.args.offset entry (search rules) (search rules);
      faults = tt;
      storage = search rules;
    }
