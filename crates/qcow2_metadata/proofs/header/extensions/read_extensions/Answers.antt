use Rattle.std.proofs.Common.{◌≡◌, ◌++◌, [], ◌∷◌, List, map, inl, inr, ap, ◌∙◌, rules}
use Rattle.std.proofs.lemmas.List.{map-append}
use Rattle.std.proofs.lemmas.List.Elements.{All-push}
use Rattle.std.proofs.lemmas.Result.{err_from_is_err_and}
use Rattle.qcow2_metadata.proofs.LoadLemmas.{extensions_at-end, extensions_at-fault, extensions_at-more}
use Rattle.qcow2_metadata.specs.Results.{result_map}
use Rattle.qcow2_metadata.specs.Header.Extensions.{Extension, IsStorable, extension_of}
use Rattle.qcow2_metadata.proofs.header.extensions.read_extensions.Goals as goal

pub returns-in_err-extension-clause-reads : goal.returns-in_err-extension-clause-reads
returns-in_err-extension-clause-reads g c =
    let image = (g.S.Storage.state c.loop-extensions.image.image.now).byte_at in
    let before = c.loop-extensions.invariant in
    let len = c.args.len in
    let place = c.loop-extensions.place in
    let fault = c.in_err-extension.field-0.0 in
    let known = map extension_of c.loop-extensions.extensions.items in
    let exit = err_from_is_err_and c.from_residual.result c.from_residual.ensures.1 in
    let found = c.in_err-extension.ensures.reads.reads in
    rw (exit.1, exit.2) (record {
      reads = record {
        exact = λ told. elim (found.exact (before.device.tells ∙ told)) [
          | inl failed ↦ inl failed
          | inr (inl memory) ↦ inr (inl memory)
          | inr (inr bad) ↦
              let rest = rw before.bytes at (extensions_at-fault image len place fault bad) in
              inr (inr (before.told told ∙ ap (result_map (λ (xs : List Extension). known ++ xs)) rest))
        ];
        faults = found.faults;
        storage = search rules;
      };
      same = search rules;
    })

pub loop-extensions-preserved : goal.loop-extensions-preserved
loop-extensions-preserved g c =
    let image = (g.S.Storage.state c.loop-extensions.image.image.now).byte_at in
    let before = c.loop-extensions.invariant in
    let len = c.args.len in
    let place = c.loop-extensions.place in
    let known = map extension_of c.loop-extensions.extensions.items in
    let first = extension_of c.in-Some.extension in
    let list : map extension_of c.push.new.self.items ≡ known ++ first ∷ [] =
    ap (map extension_of) {y = c.loop-extensions.extensions.items ++ (c.in-Some.extension ∷ [])} c.in_ok-push.ensures.items ∙ map-append extension_of c.loop-extensions.extensions.items (c.in-Some.extension ∷ []) in
    let storable : IsStorable first = rw c.in-Some.is at c.in_ok-extension.ensures.storable in
    record {
      storable = rw list (All-push IsStorable known first before.storable storable);
      told = λ told.
          let exact = rw c.in-Some.is at (c.in_ok-extension.ensures.reads.reads.exact (before.device.tells ∙ told)) in
          let more = rw before.bytes at (extensions_at-more image len place (first, c.in-Some.next) known exact) in
          before.told told ∙ rw list more;
      bytes = search rules;
      end = search rules;
      failures = search rules;
      device = search rules;
      same = search rules;
    }

pub returns-clause-reads : goal.returns-clause-reads
returns-clause-reads g c = search (rules, extensions_at-end)
