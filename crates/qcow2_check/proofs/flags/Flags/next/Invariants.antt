use Rattle.std.proofs.Common.{◌≡◌, ◌≤◌, Ok}
use Rattle.qcow2_base.specs.Storage.{OnImage, OnlyReads}
use Rattle.qcow2_check.specs.Flags.{MovesFlags, flag_steps, flags_left}
use Rattle.qcow2_check.proofs.flags.Flags.next.Given as goal

-- all wrong flags are left, and the reader reads the same image
abbrev pub invariant-loop-self : goal.invariant-loop-self
invariant-loop-self g l =
    let old = g.S.Storage.state l.fn.image in
    record {
      left : OnImage old (λ bytes. flags_left l.fn.self bytes ≡ flags_left l.self bytes);
      reader : MovesFlags old l.fn.self l.self;
      further : flag_steps l.self ≤ flag_steps l.fn.self;
      storage : OnlyReads (Ok l.self.index) old (g.S.Storage.state l.image);
    }

abbrev pub decreases-loop-self : goal.decreases-loop-self
decreases-loop-self g l = flag_steps l.self
