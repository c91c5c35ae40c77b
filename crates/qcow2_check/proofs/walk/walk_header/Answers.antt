use Rattle.std.proofs.Common.{◌≡◌, [], ◌∷◌, OnOk, rules}
use Rattle.qcow2_check.proofs.SinkLemmas.{takes_after}
use Rattle.qcow2_check.specs.Uses.{key_clusters}
use Rattle.qcow2_check.specs.Walk.{header_list}
use Rattle.qcow2_check.proofs.walk.walk_header.Goals as goal

pub returns-clause-taken : goal.returns-clause-taken
unfolding key_clusters
returns-clause-taken g c =
    let both = g.met.U.UseSink.takes_both in
    let one = c.new.result in
    let second = c.new-2.result in
    let third = c.new-3.result in
    let last = c.new-4.result in
    let list : one ∷ second ∷ third ∷ last ∷ [] ≡ header_list c.args.header.now = search rules in
    let two = both (one ∷ []) (second ∷ []) c.args.sink.now c.take.new.self c.take-2.new.self c.in_ok-take.ensures.taken c.in_ok-take-2.ensures.taken in
    let three = both (one ∷ second ∷ []) (third ∷ []) c.args.sink.now c.take-2.new.self c.take-3.new.self two c.in_ok-take-3.ensures.taken in
    let all : OnOk c.take-4.result (g.U.UseSink.takes (one ∷ second ∷ third ∷ last ∷ []) c.args.sink.now c.take-4.new.self) =
    takes_after g.U.UseSink.takes both c.take-4.result (one ∷ second ∷ third ∷ []) (last ∷ []) c.args.sink.now c.take-3.new.self c.take-4.new.self
    three c.take-4.ensures.taken in
    rw list at all
