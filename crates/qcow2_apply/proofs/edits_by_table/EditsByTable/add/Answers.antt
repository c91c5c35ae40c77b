use Rattle.std.proofs.Common.{◌≡◌, None, inl, arith, rules}
use Rattle.qcow2_check.specs.NamedTables.{named_cluster}
use Rattle.std.specs.List.{slice_index}
use Rattle.qcow2_apply.proofs.EditsByTableLemmas.{differs-named, kept-more, kept-still}
use Rattle.qcow2_apply.specs.EditsByTable.{kept_positions}
use Rattle.qcow2_apply.proofs.edits_by_table.EditsByTable.add.Goals.{then-is_some+in_ok-keep, else-is_some}
use Rattle.qcow2_apply.proofs.edits_by_table.EditsByTable.add.Goals as goal

pub loop-index-preserved : goal.loop-index-preserved
loop-index-preserved c =
    let first = c.tables-first.result.0 in
    let index = c.loop-index.index in
    let l1 = c.args.l1_table.now.numbers in
    let cb = c.args.header.now.v2.cluster_bits in
    record {
      kept = λ i named. elim c.if-is_some.branch [
        | then-is_some+in_ok-keep w ↦ rw w.self-is (kept-more first index c.args.position i (kept_positions c.args.self.now i) (kept_positions c.loop-index.self i)
            (kept_positions w.keep.new.self i) (search rules) (c.loop-index.invariant.kept i named) (w.in_ok-keep.ensures.kept i))
        | else-is_some w ↦
            let none : named_cluster cb (slice_index l1 index) ≡ None = search rules in
            rw w.self-is (kept-still first index c.args.position i (kept_positions c.args.self.now i) (kept_positions c.loop-index.self i)
            (differs-named cb l1 i index named none) (c.loop-index.invariant.kept i named))
      ];
      within = inl (omega (arith, c.loop-index-test.true));
    }
