use Rattle.std.proofs.Common.{◌≡◌, List, ◌++◌, rules}
use Rattle.qcow2_metadata.specs.Header.{geometry_of}
use Rattle.qcow2_check.proofs.SinkLemmas.{takes_after}
use Rattle.qcow2_check.specs.Walk.{block_list, header_list, list_from, table_list}
use Rattle.qcow2_check.specs.declared.uses.Use.{Use}
use Rattle.qcow2_check.proofs.walk.walk_tables.Goals as goal

pub returns-clause-taken : goal.returns-clause-taken
returns-clause-taken g c =
    let tables = c.args.tables.now in
    let header = tables.header in
    let blocks : List Use = list_from (block_list header.v2.cluster_bits) 0 tables.reftable in
    let l2_tables : List Use = list_from (table_list header.v2.cluster_bits) 0 tables.l1 in
    let takes = g.U.UseSink.takes in
    let both = g.met.U.UseSink.takes_both in
    let result = c.walk_l2_tables.result in
    let first = c.walk_header.new.sink in
    let second = c.walk_blocks.new.sink in
    let last = c.walk_l2_tables.new.sink in
    let same_header : c.tables.inside.header.now ≡ header = search rules in
    let l1_geometry : c.tables.inside.l1_table.now.geometry ≡ geometry_of header = search rules in
    let l1_numbers : c.tables.inside.l1_table.now.numbers ≡ tables.l1 = search rules in
    let reftable_geometry : c.tables.inside.reftable.now.geometry ≡ geometry_of header = search rules in
    let reftable_numbers : c.tables.inside.reftable.now.numbers ≡ tables.reftable = search rules in
    let from_blocks = takes_after takes both result blocks l2_tables first second last
    (rw (reftable_geometry, reftable_numbers) at c.in_ok-walk_blocks.ensures.taken)
    (rw (l1_geometry, l1_numbers) at c.walk_l2_tables.ensures.taken) in
    takes_after takes both result (header_list header) (blocks ++ l2_tables) c.args.sink.now first last
    (rw same_header at c.in_ok-walk_header.ensures.taken) from_blocks
