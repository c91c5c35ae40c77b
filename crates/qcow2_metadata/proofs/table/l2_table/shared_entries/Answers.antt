use Rattle.std.proofs.Common.{ℕ, ◌≡◌, ◌∙◌, map, sym, rules, OnOk, map-id}
use Rattle.std.proofs.lemmas.Iterator.{YieldsList-from_map_by, YieldsList-from_slice}
use Rattle.qcow2_metadata.specs.Entries.L2Entry.{entry_in_copy}
use Rattle.qcow2_metadata.proofs.TablePiecesLemmas.{viewed_from_extend}
use Rattle.qcow2_metadata.proofs.table.l2_table.shared_entries.Goals as goal

pub returns : goal.returns
returns c =
    let external = c.args.external_data_file in
    let extension_in_link : OnOk c.extend.result (c.extend.new.self.items ≡ map (entry_in_copy external) c.args.entries.now) =
    viewed_from_extend (λ (v : ℕ). v) c.extend.result c.extend.ensures.ran
    (YieldsList-from_map_by _ (λ (v : ℕ). v) (entry_in_copy external) (YieldsList-from_slice c.args.entries.now cc) c.map.ensures.closure (λ x r q k. search rules))
    (λ xs e h. (rw c.in_ok-list.ensures.items at h.0) ∙ sym (map-id xs) ∙ e) in
    rw c.in_ok-extend.was at extension_in_link
