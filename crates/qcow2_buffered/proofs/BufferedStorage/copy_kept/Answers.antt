use Rattle.std.proofs.Common.{◌∙◌, sym, ◌≡◌, ◌+◌, ◌≤◌, Some, arith, length, rules}
use Rattle.std.proofs.lemmas.List.{get_or_default}
use Rattle.qcow2_buffered.specs.Pages.{IsPage}
use Rattle.qcow2_buffered.proofs.PagesLemmas.{page_at, pages_with, part_of_page}
use Rattle.qcow2_buffered.proofs.BufferedStorage.copy_kept.Goals as goal

pub copy_to-requires : goal.copy_to-requires
copy_to-requires g c =
    let self = c.loop-index.self in
    let page : IsPage self.size (g.S.Storage.state self.inner) c.index_mut.result.now =
    rw c.index_mut.ensures.value (page_at self.size (g.S.Storage.state self.inner) self.pages.items c.loop-index.index c.index_mut.result.now (search rules) self.kept) in
    let size : self.size ≡ c.args.self.now.size = search rules in
    let len : length c.loop-index.buffer ≡ length c.args.buffer.now = search rules in
    omega (arith, page.len, size, len, c.requires)

pub invariant_of-self : goal.invariant_of-self
invariant_of-self g c =
    let self = c.loop-index.self in
    let page : IsPage self.size (g.S.Storage.state self.inner) c.index_mut.result.now =
    rw c.index_mut.ensures.value (page_at self.size (g.S.Storage.state self.inner) self.pages.items c.loop-index.index c.index_mut.result.now (search rules) self.kept) in
    let after : IsPage self.size (g.S.Storage.state self.inner) c.copy_to.new.self =
    rw c.copy_to.ensures.page (record { len = page.len; kept = page.kept }) in
    record {
      some = self.some;
      bounded = self.bounded;
      kept = pages_with self.size (g.S.Storage.state self.inner) self.pages.items c.loop-index.index c.copy_to.new.self after self.kept;
    }

pub returns-then-begins_at-clause-bytes : goal.returns-then-begins_at-clause-bytes
returns-then-begins_at-clause-bytes g c = λ done.
    let self = c.loop-index.self in
    let page : IsPage self.size (g.S.Storage.state self.inner) c.index_mut.result.now =
    rw c.index_mut.ensures.value (page_at self.size (g.S.Storage.state self.inner) self.pages.items c.loop-index.index c.index_mut.result.now (search rules) self.kept) in
    let same : c.index.result.now ≡ c.index_mut.result.now =
    c.index.ensures ∙ get_or_default self.pages.items c.loop-index.index c.index.result.now c.index_mut.result.now (search rules) ∙ sym c.index_mut.ensures.value in
    let starts : c.index_mut.result.now.start ≡ Some c.args.start = rw same at (c.begins_at.ensures c.if-begins_at.true) in
    let size : self.size ≡ c.args.self.now.size = search rules in
    let len : length c.loop-index.buffer ≡ length c.args.buffer.now = search rules in
    let inner : c.args.self.now.inner ≡ self.inner = search rules in
    let room : c.args.first + length c.copy_to.new.buffer ≤ self.size = omega (arith, c.copy_to.ensures.len, c.requires, size, len) in
    rw inner (part_of_page self.size (g.S.Storage.state self.inner) c.index_mut.result.now c.args.start c.args.first c.copy_to.new.buffer starts page room c.copy_to.ensures.bytes)
