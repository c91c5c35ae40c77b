use Rattle.std.proofs.Common.{IsTrue, Some, false, refl, rules}
use Rattle.qcow2_check.specs.Uses.{ImageTables, image_uses, uses_of}
use Rattle.qcow2_repair.proofs.PassesLemmas.{PassedBy, repairable-after}
use Rattle.qcow2_repair.specs.Repair.{tables_in}
use Rattle.qcow2_repair.proofs.repair.repair_tables.Goals as goal

pub pass_both_counters-requires-clause-repairable : goal.pass_both_counters-requires-clause-repairable
pass_both_counters-requires-clause-repairable g c = λ told.
    let start : IsTrue (g.S.Storage.state c.args.image.now).tells = search rules in
    let before = (g.S.Storage.state c.args.image.now).byte_at in
    let after = (g.S.Storage.state c.pass_all_flags.new.image).byte_at in
    let tables : ImageTables = tables_in c.args.header.now c.args.reftable.now.numbers before in
    let by : PassedBy tables false (λ k. Some (uses_of (image_uses tables before) k)) before after = record {
      is = c.requires.repairable start;
      l1 = refl;
      passes = rw (c.requires.l1_table.numbers start) at (c.in_ok-pass_all_flags.ensures.passed start);
    } in
    repairable-after tables false (λ k. Some (uses_of (image_uses tables before) k)) before after by
