use Rattle.std.proofs.Common.{◌≡◌, ℕ, List, append_assoc, ap, codes, decimal, ◌++◌, ◌∙◌}
use Rattle.qcow2_session.proofs.commands.layout.picture.legend_end.Goals as goal

four : (a b c d : List ℕ) → a ++ (b ++ (c ++ d)) ≡ a ++ b ++ c ++ d
four a b c d = simp append_assoc

pub returns : goal.returns
returns c =
    let end = c.prepend.ensures ∙ ap (λ line. codes "</text>\n</g>\n</svg>\n" ++ line) c.new-line.ensures in
    let size = c.prepend_decimal.ensures.text ∙ ap (λ line. decimal c.args.cluster_size ++ line) end in
    let word = c.prepend-2.ensures ∙ ap (λ line. codes "; bytes in a cluster: " ++ line) size in
    c.prepend_decimal-2.ensures.text ∙ ap (λ line. decimal c.args.scale ++ line) word
    ∙ four (decimal c.args.scale) (codes "; bytes in a cluster: ") (decimal c.args.cluster_size) (codes "</text>\n</g>\n</svg>\n")
