-- What is said of a command beside the words that ask for it?
use Rattle.std.specs.Prelude.{ℕ, Bool, false, Option, None}
use Rattle.qcow2_base.specs.declared.fault.Fault.{Fault}
use Rattle.qcow2_metadata.specs.Header.{HeaderRecord, no_feature}
use Rattle.qcow2_metadata.specs.declared.header.features.AcceptedFeatures.{AcceptedFeatures}
use Rattle.qcow2_session.specs.Commands.Printing.{Run}
use Rattle.qcow2_check.specs.declared.verdict.Verdict.{Verdict}

-- the facts of a command
pub record CommandFacts : Type 1 where
  -- whether it may change its image
  pub changes_image : Bool
  -- whether it loads the header as one who writes to the image
  pub loads_to_write : Bool
  -- the incompatible features with which it accepts an image, beside the external data file
  pub accepts : AcceptedFeatures
  -- whether it may print before a fault other than that of a failed storage
  pub prints_before_faults : Bool
  -- whether its runs have verdicts; else all is fine unless they fail
  pub has_verdict : Bool
  -- whether it reads all tables of its image: its reads of a file go by pages then
  pub reads_all_tables : Bool
  -- the cluster bits that its words say, where it reads no header
  pub cluster_bits : Option ℕ
  -- why the table that its words name can lie in no image
  pub place_fault : Option Fault
  -- how a run of it ends with a header: what it printed, its verdict or why it was refused, and what it changed
  pub Ends : {O : Type 0} → HeaderRecord → Run Verdict O → Type 0

-- the facts of a plain command: it only reads its image, by the header, which has no feature, and prints at its end. Others
-- say what differs
abbrev pub plain_facts : ((O : Type 0) → HeaderRecord → Run Verdict O → Type 0) → CommandFacts
plain_facts Ends = record {
  changes_image = false;
  loads_to_write = false;
  accepts = no_feature;
  prints_before_faults = false;
  has_verdict = false;
  reads_all_tables = false;
  cluster_bits = None;
  place_fault = None;
  Ends = λ {O} header run. Ends O header run;
}
