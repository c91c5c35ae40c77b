use Rattle.std.proofs.Common.{◌≡◌, ◌++◌, Ok, Err, flat_map, ap, sym, ◌∙◌}
use Rattle.std.proofs.lemmas.Result.{err_from_is_err_and}
use Rattle.qcow2_base.specs.Storage.{Image}
use Rattle.qcow2_check.specs.FileEnd.{file_clusters}
use Rattle.qcow2_check.specs.Findings.{tables_of}
use Rattle.qcow2_check.specs.Flags.{flags_left, image_flags}
use Rattle.qcow2_check.specs.Totals.{cluster_totals, totals_within, with_flags}
use Rattle.qcow2_check.specs.declared.totals.Totals.{Totals}
use Rattle.qcow2_session.proofs.CheckLemmas.{lines-as, lines-no_more, lines-then, reads_for-any, reads_for-fault, reads_for-twice, text-lines, totals-mean, verdict-means}
use Rattle.qcow2_session.specs.Commands.Check.{cluster_lines}
use Rattle.qcow2_session.specs.Commands.Check.Lines.{end_lines, flag_line}
use Rattle.qcow2_session.proofs.commands.check.print_report.Goals as goal

pub returns-in_err-past-clause-prints : goal.returns-in_err-past-clause-prints
returns-in_err-past-clause-prints g c =
    let exit = err_from_is_err_and c.from_residual.result c.from_residual.ensures.1 in
    let tables = tables_of c.args.findings in
    let state = g.S.Storage.state c.args.image.now in
    let now = g.S.Storage.state c.print_clusters.new.image in
    let file = file_clusters state.len c.args.findings.header in
    let contents = g.O.Write.contents in
    let clusters = λ (bytes : Image). cluster_lines file tables bytes in
    let flags = λ (bytes : Image). flat_map flag_line (image_flags tables bytes) in
    let totals = λ (bytes : Image). end_lines tables.header (totals_within file tables bytes) in
    let fault = c.in_err-past.field-0.0 in
    rw (exit.1, exit.2) (lines-no_more {A = Totals} fault (λ bytes. clusters bytes ++ flags bytes) totals contents state now c.args.out.now c.print_clusters.new.out
    (lines-no_more {B = Totals} fault clusters flags contents state now c.args.out.now c.print_clusters.new.out c.in_err-past.ensures.prints))

pub returns-in_err-totals-clause-prints : goal.returns-in_err-totals-clause-prints
returns-in_err-totals-clause-prints g c =
    let exit = err_from_is_err_and c.from_residual-in_err-totals.result c.from_residual-in_err-totals.ensures.1 in
    let tables = tables_of c.args.findings in
    let state = g.S.Storage.state c.args.image.now in
    let mid = g.S.Storage.state c.print_clusters.new.image in
    let now = g.S.Storage.state c.print_flags.new.image in
    let file = file_clusters state.len c.args.findings.header in
    let contents = g.O.Write.contents in
    let clusters = λ (bytes : Image). cluster_lines file tables bytes in
    let flags = λ (bytes : Image). flat_map flag_line (image_flags tables bytes) in
    let totals = λ (bytes : Image). end_lines tables.header (totals_within file tables bytes) in
    let fault = c.in_err-totals.field-0.0 in
    let read = c.in_ok-past.ensures.storage in
    let two = lines-as {A = Totals} (Err fault) (λ bytes. flat_map flag_line (flags_left c.into_flags-flags.result bytes)) flags contents mid now c.print_clusters.new.out c.print_flags.new.out
    (λ told. ap (flat_map flag_line) (c.into_flags-flags.ensures.left mid.byte_at ∙ ap (λ t. image_flags t mid.byte_at) c.in_ok-past.ensures.reader.0)) c.in_err-totals.ensures.prints in
    rw (exit.1, exit.2) (lines-no_more {A = Totals} fault (λ bytes. clusters bytes ++ flags bytes) totals contents state now c.args.out.now c.print_flags.new.out
    (lines-then (c.in_ok-past.past, c.in_ok-past.cluster_totals) (Err fault) clusters flags contents state mid now c.args.out.now c.print_clusters.new.out c.print_flags.new.out
    read.device.tells read.bytes c.in_ok-past.ensures.prints two))

pub returns-in_err-totals-clause-storage : goal.returns-in_err-totals-clause-storage
returns-in_err-totals-clause-storage g c =
    let exit = err_from_is_err_and c.from_residual-in_err-totals.result c.from_residual-in_err-totals.ensures.1 in
    let mid = g.S.Storage.state c.print_clusters.new.image in
    let now = g.S.Storage.state c.print_flags.new.image in
    rw (exit.1, exit.2) (reads_for-twice (c.in_ok-past.past, c.in_ok-past.cluster_totals) (g.S.Storage.state c.args.image.now) mid now c.in_ok-past.ensures.storage
    (reads_for-fault {A = Totals} c.in_err-totals.field-0.0 mid now c.in_err-totals.ensures.storage))

pub returns-clause-prints : goal.returns-clause-prints
returns-clause-prints g c =
    let tables = tables_of c.args.findings in
    let state = g.S.Storage.state c.args.image.now in
    let mid = g.S.Storage.state c.print_clusters.new.image in
    let now = g.S.Storage.state c.print_flags.new.image in
    let file = file_clusters state.len c.args.findings.header in
    let contents = g.O.Write.contents in
    let clusters = λ (bytes : Image). cluster_lines file tables bytes in
    let flags = λ (bytes : Image). flat_map flag_line (image_flags tables bytes) in
    let totals = λ (bytes : Image). end_lines tables.header (totals_within file tables bytes) in
    let read = c.in_ok-past.ensures.storage in
    let later = c.in_ok-totals.ensures.storage in
    let begins : (bytes : Image) → flags_left c.into_flags-flags.result bytes ≡ image_flags tables bytes =
    λ bytes. c.into_flags-flags.ensures.left bytes ∙ ap (λ t. image_flags t bytes) c.in_ok-past.ensures.reader.0 in
    let two = lines-as (Ok c.in_ok-totals.totals) (λ bytes. flat_map flag_line (flags_left c.into_flags-flags.result bytes)) flags contents mid now c.print_clusters.new.out c.print_flags.new.out
    (λ told. ap (flat_map flag_line) (begins mid.byte_at)) c.in_ok-totals.ensures.prints in
    let both = lines-then (c.in_ok-past.past, c.in_ok-past.cluster_totals) (Ok c.in_ok-totals.totals) clusters flags contents state mid now c.args.out.now c.print_clusters.new.out c.print_flags.new.out
    read.device.tells read.bytes c.in_ok-past.ensures.prints two in
    let means = totals-mean c.in_ok-past.cluster_totals c.in_ok-totals.totals (λ bytes. cluster_totals file tables bytes) (λ bytes. image_flags tables bytes) state mid now
    read.device.tells read.bytes later.device.tells later.bytes c.in_ok-past.ensures.totals
    (λ told. c.in_ok-totals.ensures.totals told ∙ ap (with_flags c.in_ok-past.cluster_totals) (begins mid.byte_at)) in
    let three = text-lines c.print_end.result (end_lines c.args.header.now c.in_ok-totals.totals) totals contents now now c.print_flags.new.out c.print_end.new.out
    (λ told. ap (λ header. end_lines header c.in_ok-totals.totals) (sym c.requires.header) ∙ ap (end_lines tables.header) (means told)) c.print_end.ensures.text in
    lines-then c.in_ok-totals.totals c.print_end.result (λ bytes. clusters bytes ++ flags bytes) totals contents state now now c.args.out.now c.print_flags.new.out c.print_end.new.out
    (later.device.tells ∙ read.device.tells) (later.bytes ∙ read.bytes) both three

pub returns-clause-verdict : goal.returns-clause-verdict
returns-clause-verdict g c =
    let tables = tables_of c.args.findings in
    let state = g.S.Storage.state c.args.image.now in
    let mid = g.S.Storage.state c.print_clusters.new.image in
    let now = g.S.Storage.state c.print_flags.new.image in
    let file = file_clusters state.len c.args.findings.header in
    let read = c.in_ok-past.ensures.storage in
    let later = c.in_ok-totals.ensures.storage in
    let begins : flags_left c.into_flags-flags.result mid.byte_at ≡ image_flags tables mid.byte_at =
    c.into_flags-flags.ensures.left mid.byte_at ∙ ap (λ t. image_flags t mid.byte_at) c.in_ok-past.ensures.reader.0 in
    let means = totals-mean c.in_ok-past.cluster_totals c.in_ok-totals.totals (λ bytes. cluster_totals file tables bytes) (λ bytes. image_flags tables bytes) state mid now
    read.device.tells read.bytes later.device.tells later.bytes c.in_ok-past.ensures.totals
    (λ told. c.in_ok-totals.ensures.totals told ∙ ap (with_flags c.in_ok-past.cluster_totals) begins) in
    verdict-means c.print_end.result c.args.header.now c.args.findings.header c.in_ok-totals.totals (λ bytes. totals_within file tables bytes) state now c.requires.header
    (later.device.tells ∙ read.device.tells) (later.bytes ∙ read.bytes) means c.print_end.ensures.verdict

pub returns-clause-storage : goal.returns-clause-storage
returns-clause-storage g c =
    let mid = g.S.Storage.state c.print_clusters.new.image in
    let now = g.S.Storage.state c.print_flags.new.image in
    reads_for-twice (c.in_ok-past.past, c.in_ok-past.cluster_totals) (g.S.Storage.state c.args.image.now) mid now c.in_ok-past.ensures.storage
    (reads_for-any c.in_ok-totals.totals mid now c.in_ok-totals.ensures.storage)
