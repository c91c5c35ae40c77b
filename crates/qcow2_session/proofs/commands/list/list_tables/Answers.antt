use Rattle.std.proofs.Common.{◌≡◌, Ok, refl, rules, arith}
use Rattle.std.proofs.lemmas.Result.{err_from_is_err_and}
use Rattle.qcow2_session.proofs.ListingLemmas.{PrintsList-none, PrintsList-tables}
use Rattle.qcow2_image.proofs.LookupsLemmas.{reads-then_for}
use Rattle.qcow2_session.specs.Commands.List.{texts_of_tables, texts_left}
use Rattle.qcow2_check.specs.NamedTables.{loaded_l1_table}
use Rattle.qcow2_session.proofs.commands.list.list_tables.Goals as goal

pub returns-clause-storage : goal.returns-clause-storage
returns-clause-storage g c = grind (arith, reads-then_for)

pub returns-clause-prints : goal.returns-clause-prints
returns-clause-prints g c =
    let image = (g.S.Storage.state c.args.image.now).byte_at in
    let reads = c.in_ok-tables.ensures.reads.storage in
    let header = c.args.header.now in
    let tables = c.in_ok-tables.tables in
    PrintsList-tables tables c.print_tables.result (texts_of_tables header) (texts_left tables) _ _ (g.S.Storage.state c.new.new.image) _ _ _
    (λ told.
    let loaded : loaded_l1_table header image ≡ Ok tables.l1 = search rules in
    rw (loaded, c.in_ok-tables.ensures.begun) refl)
    reads c.print_tables.ensures.prints

pub returns-in_err-tables-clause-prints : goal.returns-in_err-tables-clause-prints
returns-in_err-tables-clause-prints g c =
    let left = err_from_is_err_and c.from_residual.result c.from_residual.ensures.1 in
    rw (left.1, left.2) (PrintsList-none _ (texts_of_tables c.args.header.now) _ (g.S.Storage.state c.args.image.now) _ _ (λ told. search rules) (λ storage. search rules))
