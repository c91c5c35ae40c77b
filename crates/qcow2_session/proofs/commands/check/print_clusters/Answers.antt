use Rattle.std.proofs.Common.{◌≡◌, Ok, Err, flat_map, length, refl, sym, ap, rules, ◌∙◌}
use Rattle.std.proofs.lemmas.Result.{err_from_is_err_and}
use Rattle.qcow2_base.specs.Storage.{Image}
use Rattle.qcow2_check.proofs.TotalsLemmas.{known-before}
use Rattle.qcow2_check.specs.FileEnd.{file_clusters}
use Rattle.qcow2_check.specs.Findings.{image_findings, past_findings, tables_of}
use Rattle.qcow2_check.specs.Totals.{finding_totals, with_past}
use Rattle.qcow2_check.specs.declared.totals.Totals.{Totals}
use Rattle.qcow2_session.proofs.CheckLemmas.{all-begin, lines-as, lines-no_more, lines-read, lines-then, no-lines, past-begins, reads_for-any, reads_for-fault, reads_for-twice, reads_only, runs-begin}
use Rattle.qcow2_session.specs.Commands.Check.Lines.{past_line, run_lines}
use Rattle.qcow2_session.specs.Commands.Check.Runs.{RunsState, all_left, runs_left, runs_of}
use Rattle.qcow2_session.proofs.commands.check.print_clusters.Goals as goal

pub returns-in_err-totals-clause-prints : goal.returns-in_err-totals-clause-prints
returns-in_err-totals-clause-prints g c =
    let exit = err_from_is_err_and c.from_residual.result c.from_residual.ensures.1 in
    let tables = tables_of c.args.findings in
    let state = g.S.Storage.state c.args.image.now in
    let now = g.S.Storage.state c.print_runs.new.image in
    let contents = g.O.Write.contents in
    let runs = λ (bytes : Image). flat_map run_lines (runs_of (image_findings tables bytes)) in
    let past = λ (bytes : Image). flat_map past_line (runs_of (past_findings (file_clusters state.len c.args.findings.header) tables bytes)) in
    let fault = c.in_err-totals.field-0.0 in
    rw (exit.1, exit.2) (lines-no_more {A = Totals} fault runs past contents state now c.args.out.now c.print_runs.new.out
    (lines-as {A = Totals} (Err fault) (λ bytes. flat_map run_lines (runs_left c.new-runs.result bytes)) runs contents state now c.args.out.now c.print_runs.new.out
    (λ told. ap (flat_map run_lines) (runs-begin c.new-runs.result c.args.findings state.byte_at c.new-runs.ensures c.requires.begun)) c.in_err-totals.ensures.prints))

pub returns-in_err-past-clause-prints : goal.returns-in_err-past-clause-prints
returns-in_err-past-clause-prints g c =
    let exit = err_from_is_err_and c.from_residual-in_err-past.result c.from_residual-in_err-past.ensures.1 in
    let tables = tables_of c.args.findings in
    let state = g.S.Storage.state c.args.image.now in
    let mid = g.S.Storage.state c.print_runs.new.image in
    let now = g.S.Storage.state c.into_past_end.new.image in
    let contents = g.O.Write.contents in
    let runs = λ (bytes : Image). flat_map run_lines (runs_of (image_findings tables bytes)) in
    let past = λ (bytes : Image). flat_map past_line (runs_of (past_findings (file_clusters state.len c.args.findings.header) tables bytes)) in
    let fault = c.in_err-past.field-0.0 in
    let read = c.in_ok-totals.ensures.storage in
    let one = lines-as (Ok c.in_ok-totals.totals) (λ bytes. flat_map run_lines (runs_left c.new-runs.result bytes)) runs contents state mid c.args.out.now c.print_runs.new.out
    (λ told. ap (flat_map run_lines) (runs-begin c.new-runs.result c.args.findings state.byte_at c.new-runs.ensures c.requires.begun)) c.in_ok-totals.ensures.prints in
    rw (exit.1, exit.2) (lines-then c.in_ok-totals.totals (Err fault) runs past contents state mid now c.args.out.now c.print_runs.new.out c.print_runs.new.out
    read.device.tells read.bytes one (no-lines fault past contents mid now c.print_runs.new.out c.in_err-past.ensures.fault))

pub returns-in_err-past-clause-storage : goal.returns-in_err-past-clause-storage
returns-in_err-past-clause-storage g c =
    let exit = err_from_is_err_and c.from_residual-in_err-past.result c.from_residual-in_err-past.ensures.1 in
    let mid = g.S.Storage.state c.print_runs.new.image in
    let now = g.S.Storage.state c.into_past_end.new.image in
    rw (exit.1, exit.2) (reads_for-twice c.in_ok-totals.totals (g.S.Storage.state c.args.image.now) mid now c.in_ok-totals.ensures.storage
    (reads_for-fault c.in_err-past.field-0.0 mid now (reads_only _ mid now c.in_err-past.ensures.storage)))

pub returns-in_err-totals-2-clause-prints : goal.returns-in_err-totals-2-clause-prints
returns-in_err-totals-2-clause-prints g c =
    let exit = err_from_is_err_and c.from_residual-in_err-totals-2.result c.from_residual-in_err-totals-2.ensures.1 in
    let tables = tables_of c.args.findings in
    let state = g.S.Storage.state c.args.image.now in
    let mid = g.S.Storage.state c.print_runs.new.image in
    let ended = g.S.Storage.state c.into_past_end.new.image in
    let now = g.S.Storage.state c.print_past.new.image in
    let file = file_clusters state.len c.args.findings.header in
    let contents = g.O.Write.contents in
    let runs = λ (bytes : Image). flat_map run_lines (runs_of (image_findings tables bytes)) in
    let past = λ (bytes : Image). flat_map past_line (runs_of (past_findings file tables bytes)) in
    let fault = c.in_err-totals-2.field-0.0 in
    let read = c.in_ok-totals.ensures.storage in
    let asked = c.in_ok-past.ensures.storage in
    let moved = c.into_findings.ensures ∙ c.in_ok-totals.ensures.reader.same in
    let begun = ap (λ (r : RunsState). r.findings) c.new-runs.ensures in
    let same : tables_of c.into_findings.result ≡ tables = ap tables_of moved ∙ ap tables_of begun in
    let end : file_clusters mid.len c.into_findings.result.header ≡ file = rw (moved, begun, read.len) refl in
    let one = lines-as (Ok c.in_ok-totals.totals) (λ bytes. flat_map run_lines (runs_left c.new-runs.result bytes)) runs contents state ended c.args.out.now c.print_runs.new.out
    (λ told. ap (flat_map run_lines) (runs-begin c.new-runs.result c.args.findings state.byte_at c.new-runs.ensures c.requires.begun))
    (lines-read _ _ contents state mid ended _ _ c.in_ok-totals.ensures.prints) in
    let two = lines-as {A = Totals} (Err fault) (λ bytes. flat_map past_line (runs_left c.new-past_runs.result bytes)) past contents ended now c.print_runs.new.out c.print_past.new.out
    (λ told. ap (λ found. flat_map past_line (runs_of found)) (past-begins c.new-past_runs.result c.in_ok-past.past tables (tables_of c.into_findings.result) file _ ended mid
    c.new-past_runs.ensures (sym asked.device.tells) (sym asked.bytes) c.in_ok-past.ensures.left same end told))
    c.in_err-totals-2.ensures.prints in
    let all = lines-then c.in_ok-totals.totals (Err fault) runs past contents state ended now c.args.out.now c.print_runs.new.out c.print_past.new.out
    (asked.device.tells ∙ read.device.tells) (asked.bytes ∙ read.bytes) one two in
    rw (exit.1, exit.2) (record { all = tt; part = all.part })

pub returns-in_err-totals-2-clause-storage : goal.returns-in_err-totals-2-clause-storage
returns-in_err-totals-2-clause-storage g c =
    let exit = err_from_is_err_and c.from_residual-in_err-totals-2.result c.from_residual-in_err-totals-2.ensures.1 in
    let state = g.S.Storage.state c.args.image.now in
    let mid = g.S.Storage.state c.print_runs.new.image in
    let ended = g.S.Storage.state c.into_past_end.new.image in
    let now = g.S.Storage.state c.print_past.new.image in
    rw (exit.1, exit.2) (reads_for-twice c.in_ok-totals.totals state mid now c.in_ok-totals.ensures.storage
    (reads_for-twice c.in_ok-past.past mid ended now (reads_only _ mid ended c.in_ok-past.ensures.storage)
    (reads_for-fault {A = Totals} c.in_err-totals-2.field-0.0 ended now c.in_err-totals-2.ensures.storage)))

pub returns-clause-prints : goal.returns-clause-prints
returns-clause-prints g c =
    let tables = tables_of c.args.findings in
    let state = g.S.Storage.state c.args.image.now in
    let mid = g.S.Storage.state c.print_runs.new.image in
    let ended = g.S.Storage.state c.into_past_end.new.image in
    let now = g.S.Storage.state c.print_past.new.image in
    let file = file_clusters state.len c.args.findings.header in
    let contents = g.O.Write.contents in
    let runs = λ (bytes : Image). flat_map run_lines (runs_of (image_findings tables bytes)) in
    let past = λ (bytes : Image). flat_map past_line (runs_of (past_findings file tables bytes)) in
    let read = c.in_ok-totals.ensures.storage in
    let asked = c.in_ok-past.ensures.storage in
    let moved = c.into_findings.ensures ∙ c.in_ok-totals.ensures.reader.same in
    let begun = ap (λ (r : RunsState). r.findings) c.new-runs.ensures in
    let same : tables_of c.into_findings.result ≡ tables = ap tables_of moved ∙ ap tables_of begun in
    let end : file_clusters mid.len c.into_findings.result.header ≡ file = rw (moved, begun, read.len) refl in
    let one = lines-as (Ok c.in_ok-totals.totals) (λ bytes. flat_map run_lines (runs_left c.new-runs.result bytes)) runs contents state ended c.args.out.now c.print_runs.new.out
    (λ told. ap (flat_map run_lines) (runs-begin c.new-runs.result c.args.findings state.byte_at c.new-runs.ensures c.requires.begun))
    (lines-read _ _ contents state mid ended _ _ c.in_ok-totals.ensures.prints) in
    let two = lines-as (Ok c.in_ok-totals-2.totals) (λ bytes. flat_map past_line (runs_left c.new-past_runs.result bytes)) past contents ended now c.print_runs.new.out c.print_past.new.out
    (λ told. ap (λ found. flat_map past_line (runs_of found)) (past-begins c.new-past_runs.result c.in_ok-past.past tables (tables_of c.into_findings.result) file _ ended mid
    c.new-past_runs.ensures (sym asked.device.tells) (sym asked.bytes) c.in_ok-past.ensures.left same end told))
    c.in_ok-totals-2.ensures.prints in
    let all = lines-then c.in_ok-totals.totals (Ok c.in_ok-totals-2.totals) runs past contents state ended now c.args.out.now c.print_runs.new.out c.print_past.new.out
    (asked.device.tells ∙ read.device.tells) (asked.bytes ∙ read.bytes) one two in
    record { all = all.all; part = tt }

pub returns-clause-storage : goal.returns-clause-storage
returns-clause-storage g c =
    let state = g.S.Storage.state c.args.image.now in
    let mid = g.S.Storage.state c.print_runs.new.image in
    let ended = g.S.Storage.state c.into_past_end.new.image in
    let now = g.S.Storage.state c.print_past.new.image in
    reads_for-twice c.in_ok-totals.totals state mid now c.in_ok-totals.ensures.storage
    (reads_for-twice c.in_ok-past.past mid ended now (reads_only _ mid ended c.in_ok-past.ensures.storage)
    (reads_for-any c.in_ok-totals-2.totals ended now c.in_ok-totals-2.ensures.storage))

pub returns-clause-totals : goal.returns-clause-totals
returns-clause-totals g c = λ told.
    let tables = tables_of c.args.findings in
    let state = g.S.Storage.state c.args.image.now in
    let mid = g.S.Storage.state c.print_runs.new.image in
    let ended = g.S.Storage.state c.into_past_end.new.image in
    let image = state.byte_at in
    let file = file_clusters state.len c.args.findings.header in
    let read = c.in_ok-totals.ensures.storage in
    let asked = c.in_ok-past.ensures.storage in
    let moved = c.into_findings.ensures ∙ c.in_ok-totals.ensures.reader.same in
    let begun = ap (λ (r : RunsState). r.findings) c.new-runs.ensures in
    let same : tables_of c.into_findings.result ≡ tables = ap tables_of moved ∙ ap tables_of begun in
    let end : file_clusters mid.len c.into_findings.result.header ≡ file = rw (moved, begun, read.len) refl in
    let past = past-begins c.new-past_runs.result c.in_ok-past.past tables (tables_of c.into_findings.result) file _ state mid
    c.new-past_runs.ensures read.device.tells read.bytes c.in_ok-past.ensures.left same end told in
    let counted = known-before (λ bytes. c.in_ok-totals-2.totals ≡ with_past c.in_ok-totals.totals (length (all_left c.new-past_runs.result bytes))) state ended
    (asked.device.tells ∙ read.device.tells) (asked.bytes ∙ read.bytes) c.in_ok-totals-2.ensures.totals told in
    counted ∙ ap (λ found. with_past c.in_ok-totals.totals (length found)) past
    ∙ ap (λ totals. with_past totals (length (past_findings file tables image)))
    (c.in_ok-totals.ensures.totals told ∙ ap finding_totals (all-begin c.new-runs.result c.args.findings image c.new-runs.ensures c.requires.begun))

pub print_past-requires : goal.print_past-requires
print_past-requires g c = λ told.
    let state = g.S.Storage.state c.args.image.now in
    let read = c.in_ok-totals.ensures.storage in
    let asked = c.in_ok-past.ensures.storage in
    let kept = c.in_ok-totals.ensures.reader.kept (sym (asked.device.tells ∙ read.device.tells) ∙ told) in
    rw (c.new-past_runs.ensures, asked.bytes, read.bytes) (c.in_ok-past.ensures.reader state.byte_at (rw c.into_findings.ensures kept))
