use Rattle.std.proofs.Common.{◌≡◌, ◌++◌, [], Ok, IsTrue, ap, arith, drop, length, map, rules, take}
use Rattle.std.proofs.lemmas.Grind.{common_steps}
use Rattle.qcow2_check.specs.Counters.{CountersState, counter_of, placed_reftable}
use Rattle.qcow2_check.specs.NamedTables.{loaded_l1_table}
use Rattle.qcow2_check.specs.Uses.{image_tables}
use Rattle.qcow2_check.specs.Walk.{tables_list}
use Rattle.qcow2_session.proofs.TablesLemmas.{IsAnswer, all-rows}
use Rattle.qcow2_session.specs.Commands.Tables.{AddsRows, RowsState, counted_row}
use Rattle.qcow2_session.proofs.commands.tables.image_rows.Goals as goal

pub returns : goal.returns
returns g c =
    let header = c.args.header.now in
    let old = g.S.Storage.state c.args.image.now in
    let read = g.S.Storage.state c.new.new.image in
    let counters = c.in_ok-counters.counters in
    record {
      exact = λ told.
          let l1 : loaded_l1_table header old.byte_at ≡ Ok c.in_ok-l1_table.l1_table.numbers = c.in_ok-l1_table.ensures.reads.exact told in
          let placed : placed_reftable header old.byte_at ≡ Ok counters.reftable = search rules in
          let bytes : read.byte_at ≡ old.byte_at = search rules in
          let still : IsTrue read.tells = search rules in
          let walked : RowsState = record { header = header; mapping = c.rows.inside.mapping.items; counting = c.rows.inside.counting.items } in
          let adds : AddsRows (tables_list (image_tables header c.in_ok-l1_table.l1_table.numbers counters.reftable))
          (record { header = header; mapping = []; counting = [] }) walked = search rules in
          let lent : c.as_mut_slice.result.now ≡ walked.mapping = search rules in
          let its_header : counters.header ≡ header = ap (λ (reader : CountersState). reader.header) c.in_ok-counters.ensures.begun in
          let counted : IsAnswer (map (counted_row (counter_of header counters.reftable read.byte_at)) walked.mapping) c.read_counters.new.rows =
          rw (its_header, lent) at (c.in_ok-read_counters.ensures.reads.exact still) in
          let whole : take c.rows.inside.mapping.len (c.read_counters.new.rows ++ drop (length c.read_counters.new.rows) c.rows.inside.mapping.items) ≡ c.read_counters.new.rows =
          grind (arith, common_steps) in
          rw whole (all-rows header old.byte_at read.byte_at _ counters.reftable walked _ l1 placed bytes adds counted);
      faults = tt;
      storage = search rules;
    }
