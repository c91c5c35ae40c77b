use Rattle.qcow2_session.proofs.OutputLemmas.{gets_more}
use Rattle.qcow2_session.proofs.commands.check.json.print_object.Goals as goal

pub returns-clause-text : goal.returns-clause-text
returns-clause-text g c =
    let contents = g.O.Write.contents in
    let start = c.args.out.now in
    let end = gets_more contents start c.print.new.self c.print_number.new.out _ _ c.print.ensures.text c.print_number.ensures.goes_on c.print_number.ensures.text in
    let compressed = gets_more contents start c.print_number.new.out c.print_number-2.new.out _ _ end c.print_number-2.ensures.goes_on c.print_number-2.ensures.text in
    let clusters = gets_more contents start c.print_number-2.new.out c.print_number-3.new.out _ _ compressed c.print_number-3.ensures.goes_on c.print_number-3.ensures.text in
    let corruptions = gets_more contents start c.print_number-3.new.out c.print_number-4.new.out _ _ clusters c.print_number-4.ensures.goes_on c.print_number-4.ensures.text in
    let errors = gets_more contents start c.print_number-4.new.out c.print-2.new.self _ _ corruptions c.print-2.ensures.goes_on c.print-2.ensures.text in
    let leaks = gets_more contents start c.print-2.new.self c.print_number-5.new.out _ _ errors c.print_number-5.ensures.goes_on c.print_number-5.ensures.text in
    let shared = gets_more contents start c.print_number-5.new.out c.print_number-6.new.out _ _ leaks c.print_number-6.ensures.goes_on c.print_number-6.ensures.text in
    let past = gets_more contents start c.print_number-6.new.out c.print_number-7.new.out _ _ shared c.print_number-7.ensures.goes_on c.print_number-7.ensures.text in
    let false_flags = gets_more contents start c.print_number-7.new.out c.print_number-8.new.out _ _ past c.print_number-8.ensures.goes_on c.print_number-8.ensures.text in
    let late_flags = gets_more contents start c.print_number-8.new.out c.print_number-9.new.out _ _ false_flags c.print_number-9.ensures.goes_on c.print_number-9.ensures.text in
    let dirty = gets_more contents start c.print_number-9.new.out c.print_mark.new.out _ _ late_flags c.print_mark.ensures.goes_on c.print_mark.ensures.text in
    let corrupt = gets_more contents start c.print_mark.new.out c.print_mark-2.new.out _ _ dirty c.print_mark-2.ensures.goes_on c.print_mark-2.ensures.text in
    let allocated = gets_more contents start c.print_mark-2.new.out c.print_number-10.new.out _ _ corrupt c.print_number-10.ensures.goes_on c.print_number-10.ensures.text in
    let name = gets_more contents start c.print_number-10.new.out c.print_file_name.new.out _ _ allocated c.print_file_name.ensures.goes_on c.print_file_name.ensures.text in
    gets_more contents start c.print_file_name.new.out c.print-3.new.self _ _ name c.print-3.ensures.goes_on (rw (c.as_bytes.ensures, c.last_lines.ensures) at c.print-3.ensures.text)
