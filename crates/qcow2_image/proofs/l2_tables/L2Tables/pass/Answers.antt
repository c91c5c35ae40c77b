use Rattle.std.proofs.Common.{◌≡◌, ◌+◌, ◌-◌, length, arith, rules}
use Rattle.qcow2_metadata.specs.Header.{geometry_of}
use Rattle.qcow2_image.proofs.L2TablesLemmas.{first_left, none_left}
use Rattle.qcow2_image.proofs.l2_tables.L2Tables.pass.Goals as goal

pub returns-in_default-clause-passed : goal.returns-in_default-clause-passed
returns-in_default-clause-passed c = λ image.
    let walk = c.args.self.now in
    none_left (geometry_of walk.header) walk.l1 image (length walk.l1) walk.index (omega arith) (search rules)

pub returns-clause-passed : goal.returns-clause-passed
returns-clause-passed c = λ image.
    let walk = c.self.inside in
    let next = c.in-Some.index in
    let further : next ≡ walk.index + (next - walk.index) = search rules in
    rw (← c.self.view_is) (first_left (geometry_of walk.header.now) walk.l1_table.numbers image (next - walk.index) walk.index next c.unwrap.result further (search rules) (search rules))
