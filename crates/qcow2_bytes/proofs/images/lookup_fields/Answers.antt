use Rattle.std.proofs.Common.{rules}
use Rattle.qcow2_image.proofs.LookupsLemmas.{reads-then}
use Rattle.qcow2_bytes.proofs.ImagesLemmas.{looked_up}
use Rattle.qcow2_bytes.proofs.images.lookup_fields.Goals as goal

pub returns : goal.returns
returns g c =
    let reads = c.in_ok-header.ensures.storage in
    record {
      exact = looked_up c.in_ok-header.header c.args.guest_offset c.fields_with_header.result _ _ (λ told. c.in_ok-header.ensures.exact told)
          reads c.fields_with_header.ensures.exact;
      faults = search rules;
      storage = reads-then c.in_ok-header.header c.fields_with_header.result _ _ _ reads c.fields_with_header.ensures.storage;
    }
