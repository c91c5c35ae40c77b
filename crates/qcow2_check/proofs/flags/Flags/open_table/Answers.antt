use Rattle.std.proofs.Common.{◌≡◌, ◌+◌, ◌∙◌, Some, drop, refl, slice_index, subst, sym, arith, rules}
use Rattle.std.proofs.lemmas.Result.{err_from_is_err_and}
use Rattle.qcow2_check.proofs.FlagsLemmas.{clean_step, later_fault, table_leaves}
use Rattle.qcow2_check.specs.Flags.{FlagsState, flag_tables, flags_left, l1_flags, wrong_flag}
use Rattle.qcow2_check.specs.Counters.{counter_of}
use Rattle.qcow2_check.specs.declared.flags.FlagPlace.TheVariants.{L1Index}
use Rattle.qcow2_metadata.specs.Entries.{is_copied}
use Rattle.qcow2_metadata.specs.Header.{geometry_of}
use Rattle.qcow2_metadata.specs.Placed.{numbers_at}
use Rattle.qcow2_metadata.specs.Table.{l2_layout}
use Rattle.qcow2_check.proofs.flags.Flags.open_table.Goals as goal

pub returns-in_err-load_l2_table-clause-fault : goal.returns-in_err-load_l2_table-clause-fault
returns-in_err-load_l2_table-clause-fault g c =
    let exit = err_from_is_err_and c.from_residual-in_err-load_l2_table.result c.from_residual-in_err-load_l2_table.ensures.1 in
    let reader = c.args.self.now in
    rw (exit.1, exit.2) (later_fault reader.header reader.l1 reader.index c.in-Some.cluster c.in_err-load_l2_table.field-0.0 (g.S.Storage.state c.args.image.now)
    (g.S.Storage.state c.get.new.image) (search rules) (search rules) (search rules) (search rules) (search rules) (search rules))

pub returns-then-self-clean-clause-flag : goal.returns-then-self-clean-clause-flag
returns-then-self-clean-clause-flag g c = λ told.
    let image = (g.S.Storage.state c.args.image.now).byte_at in
    let step = clean_step c.args.self.now image (c.requires.reader told) (search rules) (search rules) (search rules) in
    subst (λ (reader : FlagsState). flags_left c.args.self.now image ≡ flags_left (record reader { index = reader.index + 1 }) image) (sym c.self.view_is) step

pub returns-clause-flag : goal.returns-clause-flag
returns-clause-flag g c = λ told.
    let state = g.S.Storage.state c.args.image.now in
    let reader = c.args.self.now in
    let leaves = table_leaves (flag_tables reader) state.byte_at c.self.inside.repeats reader.index c.in-Some.cluster (search rules) (search rules) (search rules) (search rules) in
    let start : flags_left reader state.byte_at ≡ l1_flags (flag_tables reader) state.byte_at reader.index (drop reader.index reader.l1) =
    rw (c.requires.table, flags_left) refl in
    let flag : c.wrong_flag-flag.result ≡ wrong_flag (L1Index reader.index) c.in-Some.cluster
    (Some (counter_of reader.header reader.counters.reftable state.byte_at c.in-Some.cluster.0)) (is_copied (slice_index reader.l1 reader.index)) = grind (arith, told) in
    let numbers : c.in_ok-load_l2_table.field-0.numbers ≡ numbers_at (l2_layout (geometry_of reader.header)) c.in-Some.cluster state.byte_at = grind (arith, told) in
    start ∙ grind (arith, told, leaves, flag, numbers)
