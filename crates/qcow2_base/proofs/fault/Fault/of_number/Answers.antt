use Rattle.std.proofs.Common.{◌≡◌, None, refl}
use Rattle.qcow2_base.specs.Fault.{fault_of}
use Rattle.qcow2_base.specs.declared.fault.TheConstants.Fault.{ALL}
use Rattle.qcow2_base.proofs.FaultLemmas.{counted_from_one, has_number, is_named}
use Rattle.qcow2_base.proofs.fault.Fault.of_number.Goals as goal

pub returns-then-number-eq0-clause-each : goal.returns-then-number-eq0-clause-each
returns-then-number-eq0-clause-each c = is_named c.args.number None (rw c.if-number-eq0.true refl)

pub returns : goal.returns
returns c =
    let listed : c.copied.result ≡ fault_of c.args.number = counted_from_one ALL c.args.number c.get.result c.copied.result c.if-number-eq0.false c.get.ensures.lookup c.copied.ensures in
    record {
      listed = listed;
      named = has_number c.args.number c.copied.result listed;
      each = is_named c.args.number c.copied.result listed;
    }
