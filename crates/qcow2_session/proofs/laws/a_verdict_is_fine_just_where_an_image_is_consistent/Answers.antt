use Rattle.qcow2_session.proofs.TotalsLemmas.{consistent-where-fine, fine-where-consistent}
use Rattle.qcow2_session.proofs.laws.a_verdict_is_fine_just_where_an_image_is_consistent.Goals as goal

pub returns : goal.returns
returns c = λ file tables image. (consistent-where-fine file tables image, fine-where-consistent file tables image)
