use Rattle.std.proofs.Common.{◌≡◌, ℕ, List, Ok, ap, sym, ◌∙◌}
use Rattle.qcow2_base.specs.Storage.{Image}
use Rattle.qcow2_metadata.specs.Header.{HeaderRecord, IsValidHeader, geometry_of}
use Rattle.qcow2_metadata.specs.Header.Grammar.{header_of}
use Rattle.qcow2_metadata.specs.Results.{and_then, result_map}
use Rattle.qcow2_check.specs.NamedTables.{loaded_l1_table}
use Rattle.qcow2_check.specs.Uses.{key_clusters}
use Rattle.qcow2_image.specs.Lookups.{guest_mapping, image_mapping, mapping_in}
use Rattle.qcow2_summary.proofs.ReportedLemmas.{AreUnshared}
use Rattle.qcow2_apply.proofs.ApartLemmas.{apart-unshared}
use Rattle.qcow2_apply.proofs.CheckedLemmas.{done-unshared, l1-stays}
use Rattle.qcow2_apply.proofs.ApplyLemmas.{are-planned}
use Rattle.qcow2_apply.proofs.HeaderLeftLemmas.{header-left}
use Rattle.qcow2_apply.specs.Apply.{FollowsPlan, LosesNoName, l2_tables_of, plan_tables, tables_by}
use Rattle.qcow2_apply.specs.Passes.{ArePlacesApart}
use Rattle.qcow2_apply.specs.Plan.{IsPlanFor, IsPlanOf}
use Rattle.qcow2_apply.specs.declared.guest_edits.GuestEdit.{GuestEdit}
use Rattle.qcow2_apply.specs.declared.plan.Plan.{Plan}
use Rattle.qcow2_session.proofs.EditedReadsLemmas.{reads-as-left}
use Rattle.qcow2_session.specs.EditedDisk.{mapping_left}

-- each guest offset of a disk reads as edits leave it, where no cluster of the image has uses that exclude each other
pub image-reads-as-left : (header : HeaderRecord) (edits : List GuestEdit) (plan : Plan) (old new : Image) → IsValidHeader header → IsPlanFor header edits plan
    → IsPlanOf header edits old plan → FollowsPlan header edits plan (Ok tt) old new → AreUnshared (tables_by header plan) old
    → ArePlacesApart (l2_tables_of (tables_by header plan)) → (o : ℕ)
    → mapping_in header o new ≡ result_map (mapping_left header.v2.cluster_bits o edits) (mapping_in header o old)
unfolding key_clusters
image-reads-as-left header edits plan old new valid for of follows apart places o =
    let g = geometry_of header in
    let l1 = plan.l1_table.numbers in
    let done = done-unshared header edits plan old new valid for of follows places apart in
    let before : loaded_l1_table header old ≡ Ok l1 = (are-planned header edits old (tables_by header plan) of.tables).0 in
    let after : loaded_l1_table header new ≡ Ok l1 = l1-stays header edits plan old new done apart ∙ before in
    ap (λ loaded. and_then loaded (λ l1. guest_mapping g l1 o new)) after
    ∙ reads-as-left header edits plan old new valid for of follows done.apart o
    ∙ ap (λ loaded. result_map (mapping_left header.v2.cluster_bits o edits) (and_then loaded (λ l1. guest_mapping g l1 o old))) (sym before)

-- and then all of it holds by the bytes alone, since the image has the header that is left
pub bytes-read-as-left : (header : HeaderRecord) (edits : List GuestEdit) (plan : Plan) (old new : Image) → header_of old ≡ Ok header
    → LosesNoName header → IsValidHeader header → IsPlanFor header edits plan → IsPlanOf header edits old plan
    → FollowsPlan header edits plan (Ok tt) old new → AreUnshared (tables_by header plan) old
    → ArePlacesApart (l2_tables_of (tables_by header plan)) → (o : ℕ)
    → image_mapping o new ≡ result_map (mapping_left header.v2.cluster_bits o edits) (image_mapping o old)
unfolding key_clusters
bytes-read-as-left header edits plan old new is keeps valid for of follows apart places o =
    let all = apart-unshared (plan_tables header plan) old apart for.blocks places in
    ap (λ found. and_then found (λ header. mapping_in header o new)) (header-left header edits plan old new is keeps follows all)
    ∙ image-reads-as-left header edits plan old new valid for of follows apart places o
    ∙ ap (λ found. result_map (mapping_left header.v2.cluster_bits o edits) (and_then found (λ header. mapping_in header o old))) (sym is)
