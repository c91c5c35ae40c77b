use Rattle.std.proofs.Common.{◌∙◌}
use Rattle.qcow2_base.specs.Storage.{image_of}
use Rattle.qcow2_bytes.proofs.RefcountsLemmas.{narrow_counter_at, narrow_place}
use Rattle.qcow2_bytes.proofs.refcounts.narrow_counter.Goals as goal

pub bounds-bytes-index : goal.bounds-bytes-index
bounds-bytes-index c = (narrow_place c.args.order c.args.index _ c.requires.order c.requires.within).byte

pub field-requires-clause-first : goal.field-requires-clause-first
field-requires-clause-first c = (narrow_place c.args.order c.args.index _ c.requires.order c.requires.within).first

pub field-requires-clause-count : goal.field-requires-clause-count
field-requires-clause-count c = (narrow_place c.args.order c.args.index _ c.requires.order c.requires.within).count

pub returns : goal.returns
returns c = c.field.ensures.value ∙ rw c.from-byte.ensures (narrow_counter_at c.args.order c.args.index (image_of c.args.bytes.now) c.requires.order)
