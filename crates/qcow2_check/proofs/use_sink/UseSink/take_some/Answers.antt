use Rattle.std.proofs.Common.{◌≡◌, ◌+◌, ◌*◌, ◌<◌, ◌^◌, ◌-◌, refl, take, rules, arith}
use Rattle.qcow2_metadata.specs.Table.{l2_entries}
use Rattle.qcow2_check.proofs.GroupsLemmas.{row_use}
use Rattle.qcow2_check.proofs.SinkLemmas.{list_row, list_skip, no_entry, takes_next}
use Rattle.qcow2_check.proofs.UsesLemmas.{guest_fits}
use Rattle.qcow2_check.specs.Walk.{entries_list, entry_list, row_list}
use Rattle.qcow2_check.proofs.use_sink.UseSink.take_some.Goals as goal

pub returns-then-starts_unallocated-clause-taken : goal.returns-then-starts_unallocated-clause-taken
returns-then-starts_unallocated-clause-taken g c = λ start before.
    let geometry = c.args.table.now.geometry in
    let group = c.if-starts_unallocated.ensures refl in
    rw (list_skip (entry_list geometry) (c.args.l1_index * l2_entries geometry.cluster_bits) c.args.table.now.numbers c.args.index 16 group.0
    (λ j below. rw (group.1 j below) (no_entry geometry _))) before

pub take_row-requires-clause-guest : goal.take_row-requires-clause-guest
take_row-requires-clause-guest g c =
    let cb = c.args.table.now.geometry.cluster_bits in
    let entries : c.entries-entries.result ≡ 2 ^ (cb - 3) = search rules in
    let within : c.args.index + 15 < 2 ^ (cb - 3) = search rules in
    let fits = guest_fits cb c.args.l1_index (c.args.index + 15) (search rules) c.requires.l1_index within in
    rw entries (omega (arith, fits))

pub returns-in-Some-clause-taken : goal.returns-in-Some-clause-taken
returns-in-Some-clause-taken g c = λ start before.
    let geometry = c.args.table.now.geometry in
    let numbers = c.args.table.now.numbers in
    let place = c.args.l1_index * l2_entries geometry.cluster_bits in
    let entries : c.entries-entries.result ≡ l2_entries geometry.cluster_bits = search rules in
    let found = c.in-Some.ensures.row in
    let row = rw entries at c.in_ok-take_row.ensures.taken in
    let both = g.met.Self.UseSink.takes_both (entries_list geometry c.args.l1_index (take c.args.index numbers)) (row_list c.in-Some.first.0 (place + c.args.index) 16)
    start c.args.self.now c.take_row.new.self before row in
    rw (list_row (entry_list geometry) place numbers c.args.index 16 c.in-Some.first.0 found.0
    (λ j below. row_use geometry _ _ (c.in-Some.first.0 + j) found.1 (search rules) (found.2.each j below) (omega (arith, found.2.some)))) both

pub returns-in_ok-take-clause-taken : goal.returns-in_ok-take-clause-taken
returns-in_ok-take-clause-taken g c = λ start before.
    let geometry = c.args.table.now.geometry in
    takes_next g.Self.UseSink.takes g.met.Self.UseSink.takes_both (entry_list geometry) (c.args.l1_index * l2_entries geometry.cluster_bits)
    c.args.table.now.numbers c.args.index start c.args.self.now c.take.new.self (search rules) before
    (rw (← c.in-Some-entry_use.ensures.list) c.in_ok-take.ensures.taken)

pub returns-in_default-entry_use-clause-taken : goal.returns-in_default-entry_use-clause-taken
returns-in_default-entry_use-clause-taken g c = λ start before.
    let geometry = c.args.table.now.geometry in
    takes_next g.Self.UseSink.takes g.met.Self.UseSink.takes_both (entry_list geometry) (c.args.l1_index * l2_entries geometry.cluster_bits)
    c.args.table.now.numbers c.args.index start c.args.self.now c.args.self.now (search rules) before
    (rw (← c.in_default-entry_use.ensures.list) (g.met.Self.UseSink.takes_none c.args.self.now))
