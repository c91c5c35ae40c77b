use Rattle.std.proofs.Common.{◌≡◌, ◌≤◌, true, false, nat_le, length, inr, refl, arith, rules}
use Rattle.std.proofs.lemmas.Bool.Decides.{nat_tests}
use Rattle.qcow2_metadata.proofs.LoadLemmas.{read-extension_header_at}
use Rattle.qcow2_metadata.specs.Header.Chain.{data_end, link_at}
use Rattle.qcow2_metadata.proofs.header.extensions.read_extension_header.Goals as goal

pub returns-then-place-header-clause-reads : goal.returns-then-place-header-clause-reads
returns-then-place-header-clause-reads g c =
    let image = (g.S.Storage.state c.args.image.now.image.now).byte_at in
    let place = c.args.place in
    let header = c.read_be-header.result in
    let within : 8 ≤ length c.read_range.new.buffer = search rules in
    record {
      reads = record {
        exact = λ told.
            let held = c.in_ok-read_range.ensures.held told in
            let is = read-extension_header_at image place c.read_range.new.buffer header held within c.read_be-header.ensures in
            let exceeds : nat_le (data_end (link_at image place)) c.args.len ≡ false = grind (arith, nat_tests, is.1, c.if-place-header.true) in
            inr (inr (rw exceeds refl));
        faults = search rules;
        storage = search rules;
      };
      same = search rules;
    }

pub returns-clause-reads : goal.returns-clause-reads
returns-clause-reads g c =
    let image = (g.S.Storage.state c.args.image.now.image.now).byte_at in
    let place = c.args.place in
    let header = c.read_be-header.result in
    let within : 8 ≤ length c.read_range.new.buffer = search rules in
    record {
      reads = record {
        exact = λ told.
            let held = c.in_ok-read_range.ensures.held told in
            let is = read-extension_header_at image place c.read_range.new.buffer header held within c.read_be-header.ensures in
            let fits : nat_le (data_end (link_at image place)) c.args.len ≡ true = grind (arith, nat_tests, is.1, c.if-place-header.false) in
            rw (fits, is.0, is.1) refl;
        faults = tt;
        storage = search rules;
      };
      same = search rules;
    }
