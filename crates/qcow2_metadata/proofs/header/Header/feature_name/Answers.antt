use Rattle.std.proofs.Common.{rules, ◌≡◌, ◌∙◌, ℕ, ◌<◌, map, sym, ap, Some, Result, Ok, Err, string_bytes}
use Rattle.std.specs.Result.{OkIff, result_ok}
use Rattle.qcow2_metadata.specs.Header.{HeaderRecord}
use Rattle.qcow2_metadata.specs.Header.Extensions.{FeatureKey, extension_of, feature_name_in}
use Rattle.qcow2_metadata.proofs.HeaderLemmas.{first_by_at, no_name_more}
use Rattle.qcow2_metadata.proofs.header.Header.feature_name.Goals as goal

-- a number that fits a byte is the same number as a byte
same_number : {E : Type 0} (cast : Result ℕ E) (number byte : ℕ) → OkIff cast (number < 256) number
    → Some byte ≡ result_ok cast → byte ≡ number
same_number (Ok value) number byte ok is = cc
same_number (Err error) number byte ok is = cc

pub returns-in-Some-clause-named : goal.returns-in-Some-clause-named
returns-in-Some-clause-named c few =
    let cast = c.try_from.result in
    let bit = same_number cast c.args.bit c.in_ok-bit.bit c.try_from.ensures c.in_ok-bit.ensures.value in
    let key : FeatureKey = (c.args.feature_type, c.in_ok-bit.bit) in
    let held = c.deref-extension-items.result.now in
    let all = ap (map extension_of) c.deref-extension-items.ensures.value
    ∙ ap (λ (header : HeaderRecord). header.extensions) c.self.view_is in
    let found = first_by_at (feature_name_in key) held c.loop-extension.extension-index
    c.extension-item.result (string_bytes c.in-Some.name.now) c.loop-extension-test.true
    c.extension-item.is c.loop-extension.invariant (sym c.in-Some.ensures) in
    sym (rw (bit, all) at found)

pub loop-extension-preserved : goal.loop-extension-preserved
loop-extension-preserved c = search (rules, no_name_more)
