use Rattle.std.proofs.Common.{◌%◌, inl, inr, refl, subst, sym, arith, rules}
use Rattle.qcow2_metadata.specs.Table.{l2_entries}
use Rattle.qcow2_apply.proofs.MadeEditsLemmas.{left-all, left-fits, left-next, left-none, range-none}
use Rattle.qcow2_apply.specs.GuestEdits.{edit_at}
use Rattle.qcow2_apply.specs.Tables.{IsLeftBy}
use Rattle.qcow2_apply.proofs.guest_edits.GuestEdit.make_in.Goals as goal

pub loop-cluster-init : goal.loop-cluster-init
loop-cluster-init c =
    let header = c.args.header.now in
    let table = c.args.table.now in
    record {
      made = subst (λ edits. IsLeftBy header edits table table)
          (sym (range-none (λ guest_cluster. edit_at c.args.self.now (guest_cluster % l2_entries header.v2.cluster_bits)) _)) (left-none header table);
      end = inr refl;
    }

pub make-requires : goal.make-requires
make-requires c = left-fits c.args.header.now c.args.self.now c.loop-cluster.cluster c.at-edit.result _ c.args.table.now c.loop-cluster.table c.requires.table
    c.loop-cluster.invariant.made c.requires.fits (search rules)

pub loop-cluster-preserved : goal.loop-cluster-preserved
loop-cluster-preserved c = record {
  made = left-next c.args.header.now _ _ c.loop-cluster.cluster c.at-edit.result c.make.result c.args.table.now c.loop-cluster.table c.make.new.table
      (search rules) (search rules) c.requires.table c.loop-cluster.invariant.made c.make.ensures;
  end = inl (omega (arith, c.loop-cluster-test.true));
}

pub returns : goal.returns
returns c = rw (c.clusters_in-start.ensures.start, c.clusters_in-start.ensures.end, c.cluster_bits-cluster_bits.ensures.value) at
    (left-all c.args.header.now _ c.clusters_in-start.result.0 c.loop-cluster.cluster c.clusters_in-start.result.1 c.args.table.now c.loop-cluster.table
    (omega (arith, c.loop-cluster-test.false)) c.loop-cluster.invariant.end c.loop-cluster.invariant.made)
