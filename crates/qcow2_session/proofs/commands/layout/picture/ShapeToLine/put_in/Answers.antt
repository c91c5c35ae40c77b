use Rattle.std.proofs.Common.{◌≡◌, ℕ, List, append_assoc, ap, codes, decimal, ◌%◌, ◌/◌, ◌++◌, ◌∙◌}
use Rattle.qcow2_session.proofs.commands.layout.picture.ShapeToLine.put_in.Goals as goal

eleven : (a b c d e f g h i j k : List ℕ) → a ++ (b ++ (c ++ (d ++ (e ++ (f ++ (g ++ (h ++ (i ++ (j ++ k))))))))) ≡ a ++ b ++ c ++ d ++ e ++ f ++ g ++ h ++ i ++ j ++ k
eleven a b c d e f g h i j k = simp append_assoc

pub returns : goal.returns
returns c =
    let shape = c.args.self.now in
    let end = c.prepend.ensures ∙ ap (λ line. codes "z'/>\n" ++ line) c.clear.ensures in
    let back = c.prepend_decimal.ensures.text ∙ ap (λ line. decimal shape.count ++ line) end in
    let height = c.prepend-2.ensures ∙ ap (λ line. codes "v1h-" ++ line) back in
    let width = c.prepend_decimal-2.ensures.text ∙ ap (λ line. decimal shape.count ++ line) height in
    let right = c.prepend-3.ensures ∙ ap (λ line. codes "h" ++ line) width in
    let row = c.prepend_decimal-3.ensures.text ∙ ap (λ line. decimal (shape.first / 64) ++ line) right in
    let gap = c.prepend-4.ensures ∙ ap (λ line. codes " " ++ line) row in
    let column = c.prepend_decimal-4.ensures.text ∙ ap (λ line. decimal (shape.first % 64) ++ line) gap in
    let path = c.prepend-5.ensures ∙ ap (λ line. codes "' d='M" ++ line) column in
    let colour = (rw c.from.ensures at c.prepend_decimal-5.ensures.text) ∙ ap (λ line. decimal shape.shade ++ line) path in
    c.prepend-6.ensures ∙ ap (λ line. codes "<path class='s" ++ line) colour
    ∙ eleven (codes "<path class='s") (decimal shape.shade) (codes "' d='M") (decimal (shape.first % 64)) (codes " ") (decimal (shape.first / 64)) (codes "h")
    (decimal shape.count) (codes "v1h-") (decimal shape.count) (codes "z'/>\n")
