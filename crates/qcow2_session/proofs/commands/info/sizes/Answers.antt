use Rattle.std.proofs.Common.{◌≡◌, ℕ, List, ◌++◌, append_assoc, codes}
use Rattle.std.specs.Fmt.{decimal}
use Rattle.qcow2_session.proofs.commands.info.sizes.Goals as goal

nine : (a b c d e f g h i : List ℕ) → a ++ (b ++ (c ++ (d ++ (e ++ (f ++ (g ++ (h ++ i))))))) ≡ a ++ b ++ c ++ d ++ e ++ f ++ g ++ h ++ i
nine a b c d e f g h i = simp append_assoc

pub returns : goal.returns
returns c =
    let header = c.args.header.now in
    rw (c.prepend-5.ensures, c.prepend_decimal-4.ensures.text, c.prepend-4.ensures, c.prepend_decimal-3.ensures.text, c.prepend-3.ensures, c.prepend_decimal-2.ensures.text, c.prepend-2.ensures, c.prepend_decimal.ensures.text, c.prepend.ensures, c.new-line.ensures, c.from.ensures, c.from-2.ensures, c.from-3.ensures, c.version.ensures.value, c.cluster_bits.ensures.value, c.size.ensures, c.refcount_order.ensures.value)
    (nine (codes "version ") (decimal header.v2.version) (codes "\ncluster-bits ") (decimal header.v2.cluster_bits) (codes "\nsize ") (decimal header.v2.size) (codes "\nrefcount-order ") (decimal header.base.refcount_order) (codes "\n"))
