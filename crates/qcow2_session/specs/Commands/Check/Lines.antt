-- What are the lines of a check?
use Rattle.std.specs.Prelude.{ℕ, ◌==◌, if◌then◌else◌, List, [], ◌++◌, Option, Some, None, codes}
use Rattle.std.specs.Fmt.{decimal}
use Rattle.qcow2_check.specs.Findings.{is_leaked, is_missing}
use Rattle.qcow2_check.specs.L1Length.{is_l1_short, needed_l1_entries}
use Rattle.qcow2_check.specs.Totals.{verdict_in}
use Rattle.qcow2_check.specs.declared.flags.FlagPlace.{FlagPlace}
use Rattle.qcow2_check.specs.declared.flags.FlagPlace.TheVariants.{L1Index, Offset}
use Rattle.qcow2_check.specs.declared.flags.WrongFlag.{WrongFlag}
use Rattle.qcow2_metadata.specs.Header.{HeaderRecord, has_feature}
use Rattle.qcow2_metadata.specs.declared.header.features.IncompatibleFeatures.TheVariants.{Corrupt, Dirty}
use Rattle.qcow2_session.specs.Lines.{offset_text}
use Rattle.qcow2_session.specs.declared.commands.check.runs.FindingRun.{FindingRun}
use Rattle.qcow2_check.specs.declared.totals.Totals.{Totals}
use Rattle.qcow2_check.specs.declared.verdict.Verdict.{Verdict}
use Rattle.qcow2_check.specs.declared.verdict.Verdict.TheVariants.{Fine, Harmful, Harmless}

-- what a line says of a run after the kind: the first cluster, how many they are, their counter and their number of uses
abbrev pub run_numbers : FindingRun → List ℕ
run_numbers run = decimal run.first.cluster.0 ++ codes " " ++ decimal run.count ++ codes " " ++ decimal run.first.counter
    ++ codes " " ++ decimal run.first.uses ++ codes "\n"

-- the lines of a run: one for each kind that it is of
abbrev pub run_lines : FindingRun → List ℕ
run_lines run = (if is_leaked run.first then codes "leaked " ++ run_numbers run else [])
    ++ (if is_missing run.first then codes "missing " ++ run_numbers run else [])
    ++ (if run.first.shared then codes "shared " ++ run_numbers run else [])

-- the line of a run of used clusters past the end of the image's file
abbrev pub past_line : FindingRun → List ℕ
past_line run = codes "past " ++ run_numbers run

-- which entry has a flag
abbrev pub place_text : FlagPlace → List ℕ
place_text (L1Index index) = codes "l1 " ++ decimal index
place_text (Offset offset) = offset_text offset.0

-- the counter of a cluster, where it has one
abbrev pub counter_text : Option ℕ → List ℕ
counter_text None = codes "none"
counter_text (Some counter) = decimal counter

-- the line of a wrong flag: whether it is set, its entry, the cluster that the entry names, and its counter
abbrev pub flag_line : WrongFlag → List ℕ
flag_line flag = (if flag.is_set then codes "false " else codes "late ") ++ place_text flag.place
    ++ codes " " ++ decimal flag.cluster.0 ++ codes " " ++ counter_text flag.counter ++ codes "\n"

-- how many used clusters past the file's end there are, which is left out where there are none
abbrev pub past_count : Totals → List ℕ
past_count totals = if totals.past == 0 then [] else codes " past " ++ decimal totals.past

-- how many clusters and flags of each kind there are
abbrev pub counts_line : Totals → List ℕ
counts_line totals = codes "leaked " ++ decimal totals.leaked ++ codes " missing " ++ decimal totals.missing
    ++ codes " shared " ++ decimal totals.shared ++ codes " false " ++ decimal totals.false_flags
    ++ codes " late " ++ decimal totals.late_flags ++ past_count totals ++ codes "\n"

-- the last line of a check of an image with this header
abbrev pub totals_line : HeaderRecord → Totals → List ℕ
totals_line header totals = by_verdict (verdict_in header totals)
  where
    by_verdict : Verdict → List ℕ
    by_verdict Fine = codes "consistent\n"
    by_verdict Harmless = counts_line totals
    by_verdict Harmful = counts_line totals

-- the line of an L1 table that is too short for the disk: how many entries it has, and how many the disk needs
abbrev pub short_l1_line : HeaderRecord → List ℕ
short_l1_line header = codes "short-l1 " ++ decimal header.v2.l1_size ++ codes " " ++ decimal (needed_l1_entries header) ++ codes "\n"

-- the lines of what a header says: that the image is dirty, that it is corrupt, and an L1 table that is too short
abbrev pub header_lines : HeaderRecord → List ℕ
header_lines header = (if has_feature Dirty header.base then codes "dirty\n" else [])
    ++ (if has_feature Corrupt header.base then codes "corrupt\n" else [])
    ++ (if is_l1_short header then short_l1_line header else [])

-- the last lines of a check of an image with this header
abbrev pub end_lines : HeaderRecord → Totals → List ℕ
end_lines header totals = header_lines header ++ totals_line header totals
