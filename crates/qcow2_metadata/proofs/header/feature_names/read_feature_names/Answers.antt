use Rattle.std.proofs.Common.{◌≡◌, ◌+◌, ◌-◌, ◌*◌, length, min, inl, inr, ◌∙◌, ap, arith, rules}
use Rattle.std.proofs.lemmas.Result.{err_from_is_err_and}
use Rattle.std.specs.Int.{div_ceil}
use Rattle.qcow2_base.specs.Storage.{Holds}
use Rattle.qcow2_metadata.proofs.FeatureNamesLemmas.{names_of_chunks-fault, names_of_chunks-more}
use Rattle.qcow2_metadata.proofs.RangeLemmas.{chunk_at-held, length-bytes_at}
use Rattle.qcow2_metadata.specs.Header.Extensions.{names_of, with_feature_name}
use Rattle.qcow2_metadata.specs.Range.{bytes_at}
use Rattle.qcow2_metadata.proofs.ExtensionsLemmas.{ordered-storable}
use Rattle.qcow2_metadata.proofs.header.feature_names.read_feature_names.Goals as goal

pub returns-in_err-add_feature_name-clause-reads : goal.returns-in_err-add_feature_name-clause-reads
returns-in_err-add_feature_name-clause-reads g c =
    let image = (g.S.Storage.state c.args.image.now.image.now).byte_at in
    let place = c.args.place in
    let len = c.args.len in
    let bytes = bytes_at image place len in
    let index = c.loop-index.index in
    let before = c.loop-index.invariant in
    let names = names_of c.loop-index.names in
    let read = c.read_range.new.buffer in
    let count : length read ≡ min 48 (len - 48 * index) = search rules in
    let exit = err_from_is_err_and c.from_residual-in_err-add_feature_name.result c.from_residual-in_err-add_feature_name.ensures.1 in
    let fault = c.in_err-add_feature_name.field-0.0 in
    let more = div_ceil len 48 - (index + 1) in
    let left : more + (index + 1) ≡ div_ceil len 48 = omega (arith, c.loop-index-test.true) in
    rw (exit.1, exit.2) (record {
      reads = record {
        exact = λ told.
            let held : Holds image (place + 48 * index) read = rw before.bytes at (c.in_ok-read_range.ensures.held (before.device.tells ∙ told)) in
            let chunk = chunk_at-held image place len index read held count in
            let next = names_of_chunks-more bytes index names (before.told told) in
            elim c.in_err-add_feature_name.ensures.exact [
              | inl memory ↦ inr (inl memory)
              | inr bad ↦
                  let here = next ∙ ap (with_feature_name names) chunk ∙ bad in
                  let all = names_of_chunks-fault bytes fault (index + 1) more here in
                  inr (inr (rw (length-bytes_at image place len, ← left) all))
            ];
        faults = grind arith;
        storage = search rules;
      };
      same = search rules;
    })

pub loop-index-preserved : goal.loop-index-preserved
loop-index-preserved g c = search (rules, chunk_at-held, names_of_chunks-more)

pub returns-clause-reads : goal.returns-clause-reads
returns-clause-reads g c = grind (arith, length-bytes_at)

pub returns-clause-storable : goal.returns-clause-storable
returns-clause-storable g c = ordered-storable c.loop-index.names c.loop-index.invariant.ordered
