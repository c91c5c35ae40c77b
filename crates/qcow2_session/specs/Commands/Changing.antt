-- What does a change of a table or a block come to, in the image and in the output?
use Rattle.std.specs.Prelude.{◌≡◌, ◌≢◌, ◌⊎◌, ℕ, Bool, false, List, Result, Ok, IfErr, IfOk, IsOkAnd, MatchResult, OnOk}
use Rattle.qcow2_base.specs.Storage.{Image, OnImage, OnImages, SameOutside}
use Rattle.qcow2_base.specs.declared.fault.Fault.{Fault}
use Rattle.qcow2_base.specs.declared.fault.Fault.TheVariants.{Storage}
use Rattle.qcow2_base.specs.declared.types.HostCluster.{HostCluster}
use Rattle.qcow2_metadata.specs.Placed.{IsTorn, Layout, loaded_numbers, offset_of}
use Rattle.qcow2_session.specs.Commands.Printing.{IsOutputFault, IsRefusal, OutputGets, Run}

-- what a change of a table or a block comes to: the cluster that it begins with, the numbers that it has then, whether
-- they are written, and the lines that tell of it
pub record ChangeEnd : Type 0 where
  pub cluster : HostCluster
  pub numbers : List ℕ
  pub is_written : Bool
  pub lines : List ℕ

-- a run changed its image, which by the old bytes comes to that end, or is refused by that fault: the lines tell of it, or
-- this is why it was refused, or the output failed. The new image has its numbers, unless a fault but the output's came; it
-- is as before where it is refused or nothing is to be written, and always outside the cluster. Where a call of the image
-- failed it is as before, or the numbers are written up to a piece
pub record PrintsChange {A O : Type 0} (run : Run A O) (layout : Layout) (end : Image → Result ChangeEnd Fault) : Type 0 where
  pub lines : OnOk run.answer (OnImage run.old (λ bytes. IsOkAnd (end bytes) (λ left. OutputGets run left.lines)))
  pub refused : IfErr run.answer (λ fault. OnImage run.old (λ bytes. IsRefusal (end bytes) (λ left. left.lines) run fault))
  pub written : IfErr run.answer (IsOutputFault run) → OnImages run.old run.new (λ was is.
      IsOkAnd (end was) (λ left. loaded_numbers layout left.cluster is ≡ Ok left.numbers))
  pub unchanged : IfErr run.answer (λ fault. fault ≢ Storage → run.new.byte_at ≡ run.old.byte_at)
  pub idle : OnImages run.old run.new (λ was is. IfOk (end was) (λ left. left.is_written ≡ false → is ≡ was))
  pub others : OnImages run.old run.new (λ was is. MatchResult (end was)
      (λ left. SameOutside (offset_of layout left.cluster) layout.byte_count was is) (λ fault. is ≡ was))
  pub torn : OnImages run.old run.new (λ was is. run.new.failures ≢ run.old.failures →
      (is ≡ was) ⊎ IsOkAnd (end was) (λ left. IsTorn layout left.numbers left.cluster was is))
