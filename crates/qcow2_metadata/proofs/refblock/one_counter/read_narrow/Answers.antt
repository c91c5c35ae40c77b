use Rattle.std.proofs.Common.{Ok, add-zero, ap, rules}
use Rattle.qcow2_metadata.proofs.OneCounterLemmas.{narrow_first, narrow_read, narrow_width}
use Rattle.qcow2_metadata.proofs.refblock.one_counter.read_narrow.Goals as goal

pub field-requires-clause-first : goal.field-requires-clause-first
field-requires-clause-first g c = narrow_first c.args.order c.args.index c.requires.order

pub field-requires-clause-count : goal.field-requires-clause-count
field-requires-clause-count g c = narrow_width c.args.order c.requires.order

pub returns : goal.returns
returns g c = record {
  reads = record {
    exact = λ told. ap Ok (narrow_read c.args.order c.args.index _ c.field.result (g.S.Storage.state c.args.image.now).byte_at c.args.offset.0 c.requires.order
        (rw (add-zero _) at ((c.in_ok-read_range.ensures.held told).each 0 (search rules))) (rw c.from.ensures at c.field.ensures.value));
    faults = tt;
    storage = search rules;
  };
}
