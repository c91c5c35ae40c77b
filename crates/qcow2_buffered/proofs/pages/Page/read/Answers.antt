use Rattle.std.proofs.Common.{◌≡◌, ◌+◌, ◌≤◌, Some, arith, length, rules}
use Rattle.qcow2_buffered.proofs.PagesLemmas.{part_of_page}
use Rattle.qcow2_buffered.proofs.pages.Page.read.Goals as goal

pub returns-clause-read : goal.returns-clause-read
returns-clause-read g c =
    let size = length c.args.self.now.bytes.items in
    let old = g.S.Storage.state c.args.storage.now in
    let starts : c.fill.new.self.start ≡ Some c.args.start = search rules in
    let room : c.args.first + length c.copy_to.new.buffer ≤ size = omega (arith, c.copy_to.ensures.len, c.requires.room) in
    record {
      read = λ told. part_of_page size old c.fill.new.self c.args.start c.args.first c.copy_to.new.buffer starts c.fill.ensures.page room c.copy_to.ensures.bytes told;
      unchanged = c.in_ok-fill.ensures.storage.unchanged;
      len = c.in_ok-fill.ensures.storage.len;
      failures = c.in_ok-fill.ensures.storage.failures;
      device = c.in_ok-fill.ensures.storage.device;
    }
