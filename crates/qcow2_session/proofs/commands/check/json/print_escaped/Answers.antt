use Rattle.std.proofs.Common.{◌≡◌, ◌∷◌, [], List, ℕ, flat_map, append-nil, sym, subst, ◌∙◌}
use Rattle.std.proofs.lemmas.Grind.{flat_map-append}
use Rattle.std.proofs.lemmas.Iterator.{YieldsList-from_chars}
use Rattle.std.proofs.lemmas.Iterator.Consumers.{YieldsList-end}
use Rattle.std.proofs.lemmas.List.{map-id}
use Rattle.std.specs.Str.{chars}
use Rattle.qcow2_session.proofs.OutputLemmas.{gets_more, goes_further}
use Rattle.qcow2_session.specs.Commands.Check.Json.{escaped_char}
use Rattle.qcow2_session.specs.Lines.Output.{Gets}
use Rattle.qcow2_session.proofs.commands.check.json.print_escaped.Goals as goal

pub loop-character-preserved : goal.loop-character-preserved
loop-character-preserved g c =
    let kept = c.loop-character.invariant in
    record {
      text = rw (flat_map-append escaped_char c.loop-character.yielded (c.in-Some.character ∷ []), append-nil (escaped_char c.in-Some.character))
          (gets_more g.O.Write.contents c.args.out.now c.loop-character.out c.print.new.self _ _ kept.text c.print.ensures.goes_on
          (rw (c.as_bytes.ensures, c.escaped_char.ensures) at c.print.ensures.text));
      goes_on = goes_further c.args.out.now c.loop-character.out c.print.new.self kept.goes_on c.print.ensures.goes_on;
    }

pub returns-clause-text : goal.returns-clause-text
returns-clause-text g c =
    let end = YieldsList-end (YieldsList-from_chars c.args.text.now c.utf8.text cc) c.loop-character.yielded _ c.loop-character.yielded_by _ _ c.in-None.is c.next.ensures.steps in
    let all : c.loop-character.yielded ≡ chars c.args.text.now = sym (map-id c.loop-character.yielded) ∙ end.0 in
    subst (λ (xs : List ℕ). Gets g.O.Write.contents c.args.out.now c.loop-character.out (flat_map escaped_char xs)) all c.loop-character.invariant.text
