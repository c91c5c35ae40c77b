use Rattle.qcow2_session.proofs.OutputLemmas.{gets_more}
use Rattle.qcow2_session.proofs.commands.info.print_header.Goals as goal

pub returns-clause-text : goal.returns-clause-text
returns-clause-text g c =
    let contents = g.O.Write.contents in
    let start = c.args.out.now in
    let sizes = rw (c.as_bytes.ensures, c.sizes.ensures) at c.print.ensures.text in
    let places = gets_more contents start c.print.new.self c.print-2.new.self _ _ sizes c.print-2.ensures.goes_on
    (rw (c.as_bytes-2.ensures, c.places.ensures) at c.print-2.ensures.text) in
    let backing = gets_more contents start c.print-2.new.self c.print_name.new.out _ _ places c.print_name.ensures.goes_on
    (rw c.backing_filename.ensures at c.print_name.ensures.text) in
    let format = gets_more contents start c.print_name.new.out c.print_name-2.new.out _ _ backing c.print_name-2.ensures.goes_on
    (rw c.backing_format.ensures at c.print_name-2.ensures.text) in
    let external = gets_more contents start c.print_name-2.new.out c.print-3.new.self _ _ format c.print-3.ensures.goes_on
    (rw (c.as_bytes-3.ensures, c.external.ensures) at c.print-3.ensures.text) in
    gets_more contents start c.print-3.new.self c.print_name-3.new.out _ _ external c.print_name-3.ensures.goes_on
    (rw c.external_data_filename.ensures at c.print_name-3.ensures.text)
