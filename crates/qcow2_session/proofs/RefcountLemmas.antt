use Rattle.std.proofs.Common.{◌≡◌, ◌<◌, ◌+◌, ◌++◌, ◌∷◌, [], ◌∙◌, ℕ, List, IsTrue, Ok, ap, get_or, length, map, sym, take}
use Rattle.std.proofs.lemmas.List.{map-append, take_more}
use Rattle.qcow2_base.specs.Storage.{Image, OnImage, OnlyReads, StorageState}
use Rattle.qcow2_base.specs.declared.types.HostCluster.{HostCluster}
use Rattle.qcow2_summary.proofs.ImageEndLemmas.{IsAnswer, counter-read}
use Rattle.qcow2_check.specs.Counters.{CountersState, IsSameButBlock, counter_of, placed_reftable}
use Rattle.qcow2_metadata.specs.Header.{HeaderRecord}
use Rattle.qcow2_metadata.specs.Results.{result_map}
use Rattle.qcow2_session.specs.Commands.Refcount.{counted_clusters, with_counter}
use Rattle.qcow2_session.specs.declared.commands.refcount.CountedCluster.{CountedCluster}

-- clusters with their counters, and one more
pub counted-more : {T : Type 0} (x : T) (image mid : StorageState) (old now : CountersState) (clusters : List HostCluster) (i : ℕ) (default : HostCluster)
    (counted : List CountedCluster) (value : ℕ) → i < length clusters → IsTrue image.tells → OnlyReads (Ok x) image mid → IsSameButBlock image old now
    → OnImage mid (λ bytes. IsAnswer (counter_of now.header now.reftable bytes (get_or clusters i default).0) value)
    → counted ≡ map (with_counter old.header old.reftable image.byte_at) (take i clusters)
    → counted ++ record { cluster = get_or clusters i default; counter = value } ∷ []
    ≡ map (with_counter old.header old.reftable image.byte_at) (take (i + 1) clusters)
counted-more x image mid old now clusters i default counted value below told reads kept exact before =
    let pair = with_counter old.header old.reftable image.byte_at in
    let cluster = get_or clusters i default in
    let here = counter-read x image mid old now cluster.0 value told reads kept exact in
    ap (λ (n : ℕ). counted ++ record { cluster = cluster; counter = n } ∷ []) (sym here)
    ∙ ap (λ (list : List CountedCluster). list ++ pair cluster ∷ []) before
    ∙ sym (map-append pair (take i clusters) (cluster ∷ []))
    ∙ ap (map pair) (sym (take_more clusters i default below))

-- all clusters with their counters, after the image's refcount table was read
pub counted-all : (header : HeaderRecord) (start : CountersState) (before read : Image) (clusters taken : List HostCluster) (counted : List CountedCluster)
    → placed_reftable header before ≡ Ok start.reftable → start.header ≡ header → read ≡ before → taken ≡ clusters
    → counted ≡ map (with_counter start.header start.reftable read) taken → counted_clusters header clusters before ≡ Ok counted
counted-all header start before read clusters taken counted loads same bytes all is =
    ap (result_map (λ reftable. map (with_counter header reftable before) clusters)) loads
    ∙ ap Ok (ap (λ h. map (with_counter h start.reftable before) clusters) (sym same)
    ∙ ap (λ image. map (with_counter start.header start.reftable image) clusters) (sym bytes)
    ∙ ap (map (with_counter start.header start.reftable read)) (sym all) ∙ sym is)
