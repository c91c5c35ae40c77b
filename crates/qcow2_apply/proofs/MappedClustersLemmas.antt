use Rattle.std.proofs.Common.{ℕ, ◌+◌, ◌<◌, List, ap, ◌∙◌, sym, length, take, get_or}
use Rattle.std.proofs.lemmas.List.Sums.{sum_by_more}
use Rattle.qcow2_apply.specs.MappedClusters.{CountsMapping, HoldsMappings, mappings_by, mark_of_times, times_mapped}
use Rattle.qcow2_apply.specs.declared.guest_edits.GuestEdit.{GuestEdit}
use Rattle.qcow2_apply.specs.declared.mapped_clusters.MappedClusters.{MappedClusters}

-- one more edit is counted
pub holds-more : (edits : List GuestEdit) (i : ℕ) (d : GuestEdit) (before after : MappedClusters) → i < length edits → HoldsMappings (take i edits) before
    → CountsMapping (get_or edits i d) before after → HoldsMappings (take (i + 1) edits) after
holds-more edits i d before after below held counts c =
    counts c (times_mapped (take i edits) c) (held c) ∙ ap mark_of_times (sym (sum_by_more (mappings_by c) edits i d below))
