-- How many clusters and flags of each kind does a check find, and what is its verdict?
use Rattle.std.specs.Prelude.{ℕ, Bool, not, ◌&&◌, ◌||◌, ◌==◌, ◌+◌, if◌then◌else◌, List, length}
use Rattle.std.specs.List.{sum_by}
use Rattle.qcow2_base.specs.Storage.{Image}
use Rattle.qcow2_metadata.specs.Header.{HeaderRecord, has_feature}
use Rattle.qcow2_metadata.specs.Table.L2Guards.{one_if}
use Rattle.qcow2_metadata.specs.declared.header.features.IncompatibleFeatures.TheVariants.{Corrupt}
use Rattle.qcow2_check.specs.Findings.{image_findings, is_leaked, is_missing, past_findings}
use Rattle.qcow2_check.specs.Flags.{image_flags}
use Rattle.qcow2_check.specs.L1Length.{is_l1_short}
use Rattle.qcow2_check.specs.Uses.{ImageTables}
use Rattle.qcow2_check.specs.declared.findings.Finding.{Finding}
use Rattle.qcow2_check.specs.declared.flags.WrongFlag.{WrongFlag}
use Rattle.qcow2_check.specs.declared.totals.Totals.{Totals}
use Rattle.qcow2_check.specs.declared.verdict.Verdict.{Verdict}
use Rattle.qcow2_check.specs.declared.verdict.Verdict.TheVariants.{Fine, Harmful, Harmless}

-- the totals of nothing
abbrev pub no_totals : Totals
no_totals = record { leaked = 0; missing = 0; shared = 0; past = 0; false_flags = 0; late_flags = 0 }

-- how many findings are of each kind
abbrev pub finding_totals : List Finding → Totals
finding_totals findings = record {
  leaked = sum_by (λ finding. one_if (is_leaked finding)) findings;
  missing = sum_by (λ finding. one_if (is_missing finding)) findings;
  shared = sum_by (λ (finding : Finding). one_if finding.shared) findings;
  past = 0;
  false_flags = 0;
  late_flags = 0;
}

-- totals with that many used clusters past the end of the image's file
abbrev pub with_past : Totals → ℕ → Totals
with_past totals count = record totals { past = totals.past + count }

-- the totals of the clusters of an image with these tables, in a file of that many clusters
abbrev pub cluster_totals : ℕ → ImageTables → Image → Totals
cluster_totals file tables image =
    with_past (finding_totals (image_findings tables image)) (length (past_findings file tables image))

-- totals with those of flags: how many are set, and how many aren't
abbrev pub with_flags : Totals → List WrongFlag → Totals
with_flags totals flags = record totals {
  false_flags = totals.false_flags + sum_by (λ (flag : WrongFlag). one_if flag.is_set) flags;
  late_flags = totals.late_flags + sum_by (λ (flag : WrongFlag). one_if (not flag.is_set)) flags;
}

-- the totals of an image with these tables, wherever its file ends
abbrev pub totals_on : ImageTables → Image → Totals
totals_on tables image = with_flags (finding_totals (image_findings tables image)) (image_flags tables image)

-- and of all, in a file of that many clusters
abbrev pub totals_within : ℕ → ImageTables → Image → Totals
totals_within file tables image = with_flags (cluster_totals file tables image) (image_flags tables image)

-- totals with that many clusters more, of each of which the same is found
abbrev pub with_clusters : Totals → Finding → ℕ → Totals
with_clusters totals finding count = record totals {
  leaked = totals.leaked + (if is_leaked finding then count else 0);
  missing = totals.missing + (if is_missing finding then count else 0);
  shared = totals.shared + (if finding.shared then count else 0);
}

-- totals with one flag more
abbrev pub with_flag : Totals → WrongFlag → Totals
with_flag totals flag = record totals {
  false_flags = totals.false_flags + one_if flag.is_set;
  late_flags = totals.late_flags + one_if (not flag.is_set);
}

-- how many of these QEMU counts as corruptions: missing clusters, used ones past the file's end, and flags that are false or late
abbrev pub corruptions_of : Totals → ℕ
corruptions_of totals = totals.missing + totals.past + totals.false_flags + totals.late_flags

-- and in an image with this header, where an L1 table that is too short for the disk is one more
unfoldable pub corruptions_in : HeaderRecord → Totals → ℕ
corruptions_in header totals = corruptions_of totals + one_if (is_l1_short header)

-- whether nothing was found that may destroy data: no cluster that is missing, shared, or used past the file's end, and no
-- flag that is false
abbrev pub harms_nobody : Totals → Bool
harms_nobody totals = totals.missing == 0 && (totals.shared == 0 && (totals.past == 0 && (totals.false_flags == 0)))

-- the verdict of what was found
abbrev pub verdict_of : Totals → Verdict
verdict_of totals =
    if harms_nobody totals then (if totals.leaked == 0 && (totals.late_flags == 0) then Fine else Harmless)
    else Harmful

-- whether an image with this header has damage that isn't counted: it is marked corrupt, or its L1 table is too short for the
-- disk, which hides references
abbrev pub is_harmed : HeaderRecord → Bool
is_harmed header = has_feature Corrupt header.base || is_l1_short header

-- the verdict on an image with this header, of what was found
abbrev pub verdict_in : HeaderRecord → Totals → Verdict
verdict_in header totals = if is_harmed header then Harmful else verdict_of totals
