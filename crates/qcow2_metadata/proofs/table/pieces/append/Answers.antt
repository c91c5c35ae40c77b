use Rattle.std.proofs.Common.{ℕ, ◌++◌, map, ap, ◌∙◌, List, rules}
use Rattle.std.proofs.lemmas.List.{map-append}
use Rattle.std.proofs.lemmas.Iterator.{YieldsList-from_map_by, YieldsList-from_slice}
use Rattle.std.proofs.lemmas.Iterator.Adapters.{serves_from_places}
use Rattle.qcow2_base.specs.Storage.{be, image_of}
use Rattle.qcow2_metadata.proofs.TablePiecesLemmas.{lawful_chunk, viewed_from_extend}
use Rattle.qcow2_metadata.proofs.table.pieces.append.Goals as goal

pub returns : goal.returns
returns g c =
    let plain = g.E.TableEntry.plain in
    let before = c.args.list.now.items in
    viewed_from_extend plain c.extend.result c.extend.ensures.ran
    (YieldsList-from_map_by _ plain (λ (chunk : List ℕ). be (image_of chunk) 0 8) (YieldsList-from_slice c.args.chunks.now cc) c.map.ensures.closure (λ x r q k. search rules))
    (λ xs e h. ap (map plain) h.0 ∙ map-append plain before xs ∙ ap (λ ys. map plain before ++ ys) e)

pub extend-requires : goal.extend-requires
extend-requires g c = λ it is.
    let fault = g.E.TableEntry.fault_of c.args.header.now.v2.cluster_bits in (
      (
        tt,
        serves_from_places (YieldsList-from_slice c.args.chunks.now (search rules)) (λ x q step. search rules)
            (λ x k below at. let lawful = lawful_chunk fault c.args.chunks.now k x.now c.requires below at in search rules),
      ),
      tt,
      λ xs t run. tt,
    )
