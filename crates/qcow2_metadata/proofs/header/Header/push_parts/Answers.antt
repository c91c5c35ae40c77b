use Rattle.std.proofs.Common.{◌≡◌, ◌++◌, List, ℕ, ap, ◌∙◌, rules}
use Rattle.std.proofs.lemmas.Result.{on_ok_weaker}
use Rattle.qcow2_metadata.proofs.LayoutLemmas.{newer_pieces}
use Rattle.qcow2_metadata.specs.Header.{HeaderRecord}
use Rattle.qcow2_metadata.specs.Header.Text.{header_to_write, padded_bytes}
use Rattle.qcow2_metadata.proofs.header.Header.push_parts.Goals as goal

pub returns-clause-pushed : goal.returns-clause-pushed
returns-clause-pushed c =
    let header = header_to_write c.args.layout.now.with_names c.args.self.now in
    let fields : c.deref.result.now ≡ c.args.self.now.unknown_header_fields =
    c.deref.ensures.value ∙ ap (λ (h : HeaderRecord). h.unknown_header_fields) c.self.view_is in
    let newer : c.args.self.now.v2.version ≡ 3 = search rules in
    on_ok_weaker c.push_padded.result
    (λ pushed. newer_pieces header c.args.layout.now c.args.text.now.items
    c.push_v2.new.text.items c.push_base.new.text.items c.push_padded.new.text.items newer c.requires
    c.in_ok-push_v2.ensures.pushed c.in_ok-push_base.ensures.pushed
    (pushed ∙ ap (λ (bytes : List ℕ). c.push_base.new.text.items ++ padded_bytes bytes) fields))
    c.push_padded.ensures
