use Rattle.std.proofs.Common.{◌≡◌, ◌+◌, inl, inr, sym, ◌∙◌, arith}
use Rattle.qcow2_base.specs.Storage.{image_of}
use Rattle.qcow2_metadata.specs.Header.Chain.{link_at, next_place}
use Rattle.qcow2_bytes.proofs.NamesLemmas.{ends, found, passed}
use Rattle.qcow2_bytes.proofs.header.names.find_name.Goals.{then-extension-eq0-via-then-extension-eq0, then-extension-eq0-via-else-extension-eq0+then-length-len}
use Rattle.qcow2_bytes.proofs.header.names.find_name.Goals as goal

pub returns-then-extension-eq0 : goal.returns-then-extension-eq0
returns-then-extension-eq0 c =
    let read = c.read_extension_header-extension.ensures in
    ends (image_of c.args.bytes.now) c.args.len c.args.first c.loop-place.place c.args.kind c.loop-place.invariant
    (elim c.then-extension-eq0.branch [
      | then-extension-eq0-via-then-extension-eq0 w ↦ inl (rw read.number w.if-extension-eq0.true)
      | then-extension-eq0-via-else-extension-eq0+then-length-len w ↦ inr (omega (arith, read.size, w.if-length-len.true))
    ])

pub returns-then-extension-number : goal.returns-then-extension-number
returns-then-extension-number c =
    let read = c.read_extension_header-extension.ensures in
    rw read.size at (found (image_of c.args.bytes.now) c.args.len c.args.first c.loop-place.place c.args.kind c.requires.kind
    c.loop-place.invariant (read.number ∙ c.if-extension-number.true ∙ c.number.ensures))

pub loop-place-preserved : goal.loop-place-preserved
loop-place-preserved c =
    let read = c.read_extension_header-extension.ensures in
    let next = passed (image_of c.args.bytes.now) c.args.len c.args.first c.loop-place.place c.args.kind c.requires.kind
    c.loop-place.invariant (λ zero. c.if-extension-eq0.false (rw read.number at zero))
    (λ same. c.if-extension-number.false (sym read.number ∙ same ∙ sym c.number.ensures)) in
    let place : next_place (link_at (image_of c.args.bytes.now) c.loop-place.place) ≡ c.loop-place.place + (8 + c.next_multiple_of.result) =
    rw (read.size, c.next_multiple_of.ensures.value) (omega arith) in
    rw place at next

pub returns-else-len-place-ge8 : goal.returns-else-len-place-ge8
returns-else-len-place-ge8 c =
    ends (image_of c.args.bytes.now) c.args.len c.args.first c.loop-place.place c.args.kind c.loop-place.invariant
    (inr (omega arith))

pub returns-after-loop-place : goal.returns-after-loop-place
returns-after-loop-place c =
    ends (image_of c.args.bytes.now) c.args.len c.args.first c.loop-place.place c.args.kind c.loop-place.invariant
    (inr (omega arith))
