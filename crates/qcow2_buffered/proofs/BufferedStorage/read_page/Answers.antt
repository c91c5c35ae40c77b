use Rattle.qcow2_buffered.specs.Pages.{IsPage}
use Rattle.qcow2_buffered.proofs.PagesLemmas.{page_at, page_stays, pages_stay, pages_with}
use Rattle.qcow2_buffered.proofs.BufferedStorage.read_page.Goals as goal

pub invariant_of-self : goal.invariant_of-self
invariant_of-self g c =
    let self = c.args.self.now in
    let old = g.S.Storage.state self.inner in
    let new = g.S.Storage.state c.read.new.storage in
    let before : IsPage self.size old c.index_mut.result.now =
    rw c.index_mut.ensures.value (page_at self.size old self.pages.items c.oldest-oldest.result c.index_mut.result.now c.oldest-oldest.ensures self.kept) in
    let page : IsPage self.size new c.read.new.self =
    page_stays _ _ _ self.size old new c.read.new.self c.read.ensures.read (rw before.len at c.read.ensures.page) in
    record {
      some = self.some;
      bounded = self.bounded;
      kept = pages_with self.size new self.pages.items c.oldest-oldest.result c.read.new.self page
          (pages_stay _ _ _ self.size old new self.pages.items c.read.ensures.read self.kept);
    }
