use Rattle.qcow2_image.proofs.ApartLemmas.{apart-where-right}
use Rattle.qcow2_image.proofs.laws.an_l2_table_lies_apart_where_nothing_is_found.Goals as goal

pub returns : goal.returns
returns c = apart-where-right
