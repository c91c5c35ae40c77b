-- What does a check find of an image, in numbers?
use Rattle.std.specs.Prelude.{ℕ, Result}
use Rattle.qcow2_base.specs.Storage.{Image}
use Rattle.qcow2_base.specs.declared.fault.Fault.{Fault}
use Rattle.qcow2_summary.specs.EntryCounts.{entry_counts}
use Rattle.qcow2_check.specs.FileEnd.{file_clusters}
use Rattle.qcow2_check.specs.Findings.{checked_tables}
use Rattle.qcow2_summary.specs.ImageEnd.{image_end}
use Rattle.qcow2_check.specs.L1Length.{guest_clusters}
use Rattle.qcow2_check.specs.Totals.{corruptions_in, totals_within}
use Rattle.qcow2_check.specs.Uses.{ImageTables}
use Rattle.qcow2_metadata.specs.Header.{HeaderRecord, geometry_of, has_feature}
use Rattle.qcow2_metadata.specs.Results.{result_map}
use Rattle.qcow2_metadata.specs.declared.header.features.IncompatibleFeatures.TheVariants.{Corrupt, Dirty}
use Rattle.qcow2_session.specs.declared.commands.check.account.Account.{Account}

-- the account of an image with these tables, in a file of that many clusters
abbrev pub account_of : ℕ → ImageTables → Image → Account
account_of file tables image = record {
  totals = totals_within file tables image;
  corruptions = corruptions_in tables.header (totals_within file tables image);
  image_end = image_end tables image;
  guest_clusters = guest_clusters tables.header;
  is_dirty = has_feature Dirty tables.header.base;
  is_corrupt = has_feature Corrupt tables.header.base;
  entries = entry_counts (geometry_of tables.header) image tables.l1;
}

-- the account of an image with this header and of this length, or why it can't be checked
abbrev pub checked_account : HeaderRecord → ℕ → Image → Result Account Fault
checked_account header len image =
    result_map (λ tables. account_of (file_clusters len header) tables image) (checked_tables header image)
