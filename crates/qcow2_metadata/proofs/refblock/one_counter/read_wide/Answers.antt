use Rattle.std.proofs.Common.{Ok, ap, rules}
use Rattle.qcow2_metadata.proofs.OneCounterLemmas.{wide_read}
use Rattle.qcow2_metadata.proofs.refblock.one_counter.read_wide.Goals as goal

pub returns : goal.returns
returns g c =
    let laws = g.met.T.WideCounter in
    let held = rw (laws.layout_is c.read_be.result) at c.read_be.ensures in
    record {
      reads = record {
        exact = λ told. ap Ok (wide_read g.T.WideCounter.order g.T.OnDiskStruct.ON_DISK_SIZE c.args.index _ (g.S.Storage.state c.args.image.now).byte_at c.args.offset.0 _ c.read_range.new.buffer
            g.T.WideCounter.wide.0 laws.size (search rules) (search rules) (c.in_ok-read_range.ensures.held told) held.0);
        faults = tt;
        storage = search rules;
      };
    }
