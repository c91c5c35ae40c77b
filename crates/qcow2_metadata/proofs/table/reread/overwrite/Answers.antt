use Rattle.std.proofs.Common.{◌+◌, ◌++◌, ◌∷◌, ◌<◌, [], List, ℕ, map, take, length, sym, ◌∙◌, ap, arith, rules}
use Rattle.std.proofs.lemmas.List.{append_assoc, length-map, map-set}
use Rattle.std.proofs.lemmas.Grind.{take-set_at}
use Rattle.qcow2_base.specs.Storage.{be, image_of}
use Rattle.qcow2_metadata.proofs.TableLemmas.{first_fault-set, no_fault_item}
use Rattle.qcow2_metadata.proofs.TablePiecesLemmas.{chunk_numbers-more}
use Rattle.qcow2_metadata.specs.Table.{chunk_numbers}
use Rattle.qcow2_metadata.proofs.table.reread.overwrite.Goals as goal

pub from_lawful-requires : goal.from_lawful-requires
from_lawful-requires g c =
    let fault = g.E.TableEntry.fault_of c.args.header.now.v2.cluster_bits in
    rw c.number_of.ensures (no_fault_item (λ (chunk : List ℕ). be (image_of chunk) 0 8) fault c.args.chunks.now c.loop-index.index [] c.requires.valid c.loop-index-test.true)

pub loop-index-preserved : goal.loop-index-preserved
loop-index-preserved g c =
    let plain = g.E.TableEntry.plain in
    let fault = g.E.TableEntry.fault_of c.args.header.now.v2.cluster_bits in
    let chunks = c.args.chunks.now in
    let index = c.loop-index.index in
    let at = c.args.first + index in
    let xs = c.loop-index.entries in
    let now = map plain xs in
    let before = take c.args.first (map plain c.args.entries.now) in
    let set_one = map-set plain xs at c.from_lawful.result in
    let value = c.from_lawful.ensures ∙ c.number_of.ensures in
    let within : at < length now = omega (arith, c.requires.room, c.loop-index-test.true, c.loop-index.invariant.count, length-map xs plain) in
    record {
      numbers = rw set_one (take-set_at now at (c.args.first + (index + 1)) (plain c.from_lawful.result) (omega arith) within
          ∙ ap (λ (ys : List ℕ). ys ++ plain c.from_lawful.result ∷ []) c.loop-index.invariant.numbers
          ∙ append_assoc before (chunk_numbers (take index chunks)) (plain c.from_lawful.result ∷ [])
          ∙ ap (λ (ys : List ℕ). before ++ ys) (rw value (sym (chunk_numbers-more chunks index [] (omega arith)))));
      valid = λ none. rw set_one (first_fault-set fault now at (plain c.from_lawful.result) (c.loop-index.invariant.valid none) (rw value (no_fault_item (λ (chunk : List ℕ). be (image_of chunk) 0 8) fault chunks index [] c.requires.valid c.loop-index-test.true)));
      count = search rules;
    }
