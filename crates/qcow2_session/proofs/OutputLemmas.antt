use Rattle.std.proofs.Common.{◌≡◌, ℕ, ◌+◌, true, false, Bool, List, ◌++◌, length, min, take, Option, Some, None, refl, sym, ◌∙◌, ap, append_assoc, arith}
use Rattle.std.specs.Io.KnownBytes.{Appends, Keeps}
use Rattle.std.proofs.KnownBytes.{Appends-trans}
use Rattle.std.proofs.lemmas.List.{take-append-le, take_all, take_min}
use Rattle.std.proofs.Math.Seq.{take-append-add}
use Rattle.qcow2_session.specs.Commands.Printing.{AppendsPart}
use Rattle.qcow2_session.specs.Lines.Output.{AppendsUnless, Gets, GoesOn}
use Rattle.qcow2_session.specs.declared.lines.output.Output.{Output}

-- the first of some bytes are a beginning of them
pub part_taken : (a b : Option (List ℕ)) (bytes : List ℕ) (n : ℕ) → Appends a b (take n bytes) → AppendsPart a b bytes
part_taken None b bytes n first = tt
part_taken (Some xs) None bytes n first = first
part_taken (Some xs) (Some ys) bytes n first = (n, first)

-- and stay one after a flush
pub part_kept : (a b c : Option (List ℕ)) (bytes : List ℕ) (n : ℕ) → Appends a b (take n bytes) → Keeps b c → AppendsPart a c bytes
part_kept None b c bytes n first kept = tt
part_kept (Some xs) None c bytes n first kept = absurd first
part_kept (Some xs) (Some ys) None bytes n first kept = kept
part_kept (Some xs) (Some ys) (Some zs) bytes n first kept = (n, kept ∙ first)

-- a beginning of some bytes is one of more
pub part-of_more : (a b : Option (List ℕ)) (bytes more : List ℕ) → AppendsPart a b bytes → AppendsPart a b (bytes ++ more)
part-of_more None b bytes more part = tt
part-of_more (Some xs) None bytes more part = part
part-of_more (Some xs) (Some ys) bytes more part =
    (min part.0 (length bytes), rw (take-append-le (min part.0 (length bytes)) bytes more (omega arith), take_min part.0 bytes) part.1)

-- some bytes, and then a beginning of more
pub part-after : (a b c : Option (List ℕ)) (bytes more : List ℕ) → Appends a b bytes → AppendsPart b c more → AppendsPart a c (bytes ++ more)
part-after None b c bytes more first part = tt
part-after (Some xs) None c bytes more first part = absurd first
part-after (Some xs) (Some ys) None bytes more first part = part
part-after (Some xs) (Some ys) (Some zs) bytes more first part =
    (length bytes + part.0, rw (take-append-add bytes more part.0, ← append_assoc xs bytes (take part.0 more), ← first) part.1)

-- all of some bytes, or the first of them where a write has failed
pub appended_unless : (failed : Bool) (a b : Option (List ℕ)) (bytes : List ℕ) (n : ℕ) → (failed ≡ false → n ≡ length bytes) → Appends a b (take n bytes) → AppendsUnless failed a b bytes
appended_unless true a b bytes n all first = part_taken a b bytes n first
appended_unless false a b bytes n all first = rw (sym (take_all n bytes (omega (arith, all refl)))) first

-- an output got some bytes, and then more
pub gets_more : {W : Type 0} (contents : W → Option (List ℕ)) (a b c : Output W) (bytes more : List ℕ)
    → Gets contents a b bytes → GoesOn b c → Gets contents b c more → Gets contents a c (bytes ++ more)
gets_more {W = W} contents a b c bytes more first goes next = by_flags b.has_failed refl c.has_failed refl
  where
    by_flags : (one : Bool) → b.has_failed ≡ one → (other : Bool) → c.has_failed ≡ other → Gets contents a c (bytes ++ more)
    by_flags true failed other is = rw (goes.stays failed, failed) (part-of_more _ _ bytes more (rw failed at first))
    by_flags false calm true failed = rw failed (part-after _ _ _ bytes more (rw calm at first) (rw failed at next))
    by_flags false calm false still = rw still (Appends-trans _ _ _ bytes more (rw calm at first) (rw still at next))

-- an output goes on, and then goes on
pub goes_further : {W : Type 0} (a b c : Output W) → GoesOn a b → GoesOn b c → GoesOn a c
goes_further {W = W} a b c one other = record {
  stays = λ before. other.stays (ap (λ (x : Output W). x.has_failed) (one.stays before) ∙ before) ∙ one.stays before;
  same = other.same ∙ one.same;
}
