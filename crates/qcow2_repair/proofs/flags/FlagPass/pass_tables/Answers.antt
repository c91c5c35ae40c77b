use Rattle.std.proofs.Common.{IsTrue, inl, inr, refl, rules}
use Rattle.std.proofs.lemmas.Result.{err_from_is_err_and}
use Rattle.qcow2_repair.proofs.FlagsLemmas.{ChangesTable, some-again, some-loads, some-next, some-skip, some-torn}
use Rattle.qcow2_repair.specs.Flags.{pass_by}
use Rattle.qcow2_repair.proofs.flags.FlagPass.pass_tables.Goals.{in-Some+in_ok-pass_table, in_default}
use Rattle.qcow2_repair.proofs.flags.FlagPass.pass_tables.Goals as goal

pub pass_table-requires-clause-loads : goal.pass_table-requires-clause-loads
pass_table-requires-clause-loads g c = λ told.
    let start : IsTrue (g.S.Storage.state c.args.image.now).tells = search rules in
    some-loads (pass_by c.args.self.now) c.args.l1_table.now.numbers c.loop-index.index c.in-Some.cluster (g.S.Storage.state c.args.image.now).byte_at
    (g.S.Storage.state c.loop-index.image).byte_at (c.requires.loads start) (search rules) (c.loop-index.invariant.passed start)

pub returns-in_err-pass_table-clause-passed : goal.returns-in_err-pass_table-clause-passed
returns-in_err-pass_table-clause-passed g c = λ told.
    let exit = err_from_is_err_and c.from_residual.result c.from_residual.ensures.1 in
    let known : IsTrue (g.S.Storage.state c.loop-index.image).tells = search rules in
    let change : ChangesTable c.args.self.now.header c.args.l1_table.now.numbers c.loop-index.index c.in-Some.cluster
    (g.S.Storage.state c.loop-index.image).byte_at (g.S.Storage.state c.pass_table.new.image).byte_at =
    record { least = search rules; names = search rules; outside = c.in_err-pass_table.ensures.storage.others known } in
    rw (exit.1, exit.2) (some-torn (pass_by c.args.self.now) c.args.l1_table.now.numbers c.loop-index.index c.in-Some.cluster c.in_err-pass_table.field-0.0 (g.S.Storage.state c.args.image.now).byte_at
    (g.S.Storage.state c.loop-index.image).byte_at (g.S.Storage.state c.pass_table.new.image).byte_at change c.in_err-pass_table.ensures.storage.refused (c.loop-index.invariant.passed told))

pub loop-index-preserved : goal.loop-index-preserved
loop-index-preserved g c = elim c.match-first_named.branch [
  | in-Some+in_ok-pass_table w ↦ record {
    passed = λ told.
        let known : IsTrue (g.S.Storage.state c.loop-index.image).tells = search rules in
        let change : ChangesTable c.args.self.now.header c.args.l1_table.now.numbers c.loop-index.index w.in-Some.cluster
        (g.S.Storage.state c.loop-index.image).byte_at (g.S.Storage.state w.pass_table.new.image).byte_at =
        record { least = search rules; names = search rules; outside = w.in_ok-pass_table.ensures.storage.others known } in
        rw w.image-is (some-next (pass_by c.args.self.now) c.args.l1_table.now.numbers c.loop-index.index w.in-Some.cluster (g.S.Storage.state c.args.image.now).byte_at
        (g.S.Storage.state c.loop-index.image).byte_at (g.S.Storage.state w.pass_table.new.image).byte_at change (c.loop-index.invariant.passed told) (w.in_ok-pass_table.ensures.numbers known));
    storage = rw w.image-is (search rules);
  }
  | in_default w ↦ record {
    passed = λ told. rw w.image-is (elim (w.in_default.ensures.none refl) [
      | inl unnamed ↦ some-skip (pass_by c.args.self.now) c.args.l1_table.now.numbers c.loop-index.index (g.S.Storage.state c.args.image.now).byte_at
          (g.S.Storage.state c.loop-index.image).byte_at (search rules) (c.loop-index.invariant.passed told)
      | inr again ↦ some-again (pass_by c.args.self.now) c.args.l1_table.now.numbers c.args.repeats.now c.loop-index.index (g.S.Storage.state c.args.image.now).byte_at
          (g.S.Storage.state c.loop-index.image).byte_at (search rules) c.requires.repeats again (c.loop-index.invariant.passed told)
    ]);
    storage = rw w.image-is (search rules);
  }
]
