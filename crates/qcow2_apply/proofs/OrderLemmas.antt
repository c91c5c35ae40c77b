use Rattle.std.proofs.Common.{◌≡◌, ℕ, suc, ◌+◌, ◌*◌, ◌<◌, ◌≤◌, ◌^◌, List, [], ◌∷◌, ◌++◌, length, slice_index, inl, inr, ◌∙◌, ap, refl, sym, subst, arith, get_or, set, take, length-append, append_assoc, drop-cons}
use Rattle.std.proofs.Math.ListN.{drop_of_length-le, get_or-append}
use Rattle.std.proofs.Math.Seq.{get_or-append_seam}
use Rattle.std.proofs.lemmas.Bool.{cases_eq, cases_lt}
use Rattle.std.proofs.lemmas.Grind.{flat_map-append}
use Rattle.std.proofs.lemmas.List.{length-take, map-append, set_at, take-append-drop}
use Rattle.std.specs.List.Sorted.{IsStrictlyIncreasing}
use Rattle.qcow2_metadata.specs.declared.entries.ClustersToFreeEntry.{ClustersToFreeEntry}
use Rattle.qcow2_base.specs.declared.types.HostCluster.{HostCluster}
use Rattle.qcow2_edits.specs.Edits.{cluster_numbers}
use Rattle.qcow2_apply.specs.ChangedClusters.{AppendsInOrder, AreInOrder, AscendTo, EndInOrder, StayInOrder, bounds_of, kept_clusters}
use Rattle.qcow2_apply.specs.declared.changed_clusters.ChangedClusters.{ChangedClusters}
use Rattle.qcow2_apply.specs.declared.changed_clusters.KeptCluster.{KeptCluster}

-- the last number in a row, and those before it
last-is : (list : List ℕ) (n k : ℕ) → k ≡ length list → slice_index (list ++ n ∷ []) k ≡ n
last-is list n k end = ap (λ i. slice_index (list ++ n ∷ []) i) end ∙ get_or-append_seam list n [] 0

before-last : (list : List ℕ) (n k : ℕ) → k < length list → slice_index (list ++ n ∷ []) k ≡ slice_index list k
before-last list n k below = get_or-append list (n ∷ []) 0 k below

-- numbers ascend to one that is greater than the last
pub ascend : (list : List ℕ) (n : ℕ) → IsStrictlyIncreasing list → ((k : ℕ) → k + 1 ≡ length list → slice_index list k < n) → AscendTo n list
ascend list n up last = λ k within. elim (cases_lt (k + 1) (length list)) [
  | inl below ↦ omega (arith, up k below, before-last list n k (omega (arith, below)), before-last list n (k + 1) below)
  | inr past ↦
      let end : k + 1 ≡ length list = omega (arith, past, within, length-append list (n ∷ [])) in
      omega (arith, last k end, last-is list n (k + 1) end, before-last list n k (omega (arith, end)))
]

-- so they ascend, and the last is less
pub ascends : (list : List ℕ) (n : ℕ) → AscendTo n list → IsStrictlyIncreasing list
ascends list n up = λ k within.
    omega (arith, up k (omega (arith, within, length-append list (n ∷ []))), before-last list n k (omega (arith, within)), before-last list n (k + 1) within)

pub last-less : (list : List ℕ) (n : ℕ) → AscendTo n list → (k : ℕ) → k + 1 ≡ length list → slice_index list k < n
last-less list n up k end =
    omega (arith, up k (omega (arith, end, length-append list (n ∷ []))), before-last list n k (omega (arith, end)), last-is list n (k + 1) end)

-- they ascend to any later number, and where that comes next to any later one
pub ascend-later : (list : List ℕ) (m n : ℕ) → AscendTo m list → m ≤ n → AscendTo n list
ascend-later list m n up later = ascend list n (ascends list m up) (λ k end. omega (arith, last-less list m up k end, later))

pub ascend-on : (list : List ℕ) (m n : ℕ) → AscendTo m list → m < n → AscendTo n (list ++ m ∷ [])
ascend-on list m n up later = ascend (list ++ m ∷ []) n up (λ k end.
    omega (arith, later, last-is list m k (omega (arith, end, length-append list (m ∷ [])))))

-- the bounds of one more range
bounds-more : (front : List ClustersToFreeEntry) (range : ClustersToFreeEntry)
    → bounds_of (front ++ range ∷ []) ≡ (bounds_of front ++ range.first.0 ∷ []) ++ (range.first.0 + range.count.0) ∷ []
bounds-more front range = flat_map-append (λ (each : ClustersToFreeEntry). (each.first.0) ∷ ((each.first.0 + each.count.0) ∷ [])) front (range ∷ [])
    ∙ sym (append_assoc (bounds_of front) (range.first.0 ∷ []) ((range.first.0 + range.count.0) ∷ []))

-- a range that begins where the last one ends is joined to it
joined : (front : List ClustersToFreeEntry) (last next range : ClustersToFreeEntry) → last.first.0 + last.count.0 ≡ range.first.0
    → next.first.0 ≡ last.first.0 → next.count.0 ≡ last.count.0 + range.count.0 → AppendsInOrder range (front ++ last ∷ []) (front ++ next ∷ [])
joined front last next range meets first count = λ some fits up.
    let old = subst (AscendTo (range.first.0 + 1)) (bounds-more front last) up in
    let ends : AscendTo (last.first.0 + last.count.0) (bounds_of front ++ last.first.0 ∷ []) = ascends _ _ old in
    let further = ascend-on (bounds_of front ++ last.first.0 ∷ []) (next.first.0 + next.count.0) (range.first.0 + range.count.0 + 1)
    (ascend-later _ _ _ ends (omega (arith, first, count))) (omega (arith, meets, first, count)) in
    let same = subst (λ n. AscendTo (range.first.0 + range.count.0 + 1) ((bounds_of front ++ n ∷ []) ++ (next.first.0 + next.count.0) ∷ [])) (sym first) further in
    subst (AscendTo (range.first.0 + range.count.0 + 1)) (sym (bounds-more front next)) same

-- any other comes after it
appended : (list : List ClustersToFreeEntry) (range : ClustersToFreeEntry) → ((k : ℕ) → k + 1 ≡ length (bounds_of list) → slice_index (bounds_of list) k < range.first.0 + 1
    → range.first.0 + range.count.0 < 2 ^ 64 → slice_index (bounds_of list) k < range.first.0) → AppendsInOrder range list (list ++ range ∷ [])
appended list range apart = λ some fits up.
    let before = ascend (bounds_of list) range.first.0 (ascends _ _ up) (λ k end. apart k end (last-less _ _ up k end) fits) in
    let after = ascend-on (bounds_of list ++ range.first.0 ∷ []) (range.first.0 + range.count.0) (range.first.0 + range.count.0 + 1)
    (ascend-on (bounds_of list) range.first.0 (range.first.0 + range.count.0) before (omega (arith, some))) (omega arith) in
    subst (AscendTo (range.first.0 + range.count.0 + 1)) (sym (bounds-more list range)) after

pub appended-first : (range : ClustersToFreeEntry) → AppendsInOrder range [] (range ∷ [])
appended-first range = appended [] range (λ k end. absurd (omega (arith, end)))

appended-after : (front : List ClustersToFreeEntry) (last range : ClustersToFreeEntry)
    → (range.first.0 + range.count.0 < 2 ^ 64 → last.first.0 + last.count.0 ≡ range.first.0 → ⊥)
    → AppendsInOrder range (front ++ last ∷ []) ((front ++ last ∷ []) ++ range ∷ [])
appended-after front last range apart = appended (front ++ last ∷ []) range (λ k end less fits.
    let bounds = bounds-more front last in
    let at : slice_index (bounds_of (front ++ last ∷ [])) k ≡ last.first.0 + last.count.0 = ap (λ list. slice_index list k) bounds
    ∙ last-is (bounds_of front ++ last.first.0 ∷ []) _ k (omega (arith, end, ap length bounds, length-append (bounds_of front ++ last.first.0 ∷ []) ((last.first.0 + last.count.0) ∷ []))) in
    elim (cases_eq (last.first.0 + last.count.0) range.first.0) [
      | inl meets ↦ absurd (apart fits meets)
      | inr differs ↦ omega (arith, less, at, differs)
    ])

-- a list with its last range apart, and what it is with another one there
split-last : (list : List ClustersToFreeEntry) (n : ℕ) (last : ClustersToFreeEntry) → n + 1 ≡ length list → last ≡ get_or list n last
    → list ≡ take n list ++ last ∷ []
split-last list n last end is =
    sym (take-append-drop n list) ∙ ap (λ rest. take n list ++ rest) (drop-cons list n last (omega (arith, end)))
    ∙ ap (λ rest. take n list ++ get_or list n last ∷ rest) (drop_of_length-le list {i = suc n} (omega (arith, end)))
    ∙ ap (λ item. take n list ++ item ∷ []) (sym is)

replaced-last : (list : List ClustersToFreeEntry) (n : ℕ) (last next : ClustersToFreeEntry) → n + 1 ≡ length list → last ≡ get_or list n last
    → set list n next ≡ take n list ++ next ∷ []
replaced-last list n last next end is = ap (λ items. set items n next) (split-last list n last end is)
    ∙ set_at (take n list) last [] next n (omega (arith, end, length-take n list))

pub joined-last : (list : List ClustersToFreeEntry) (n : ℕ) (last next range : ClustersToFreeEntry) → n + 1 ≡ length list → last ≡ get_or list n last
    → last.first.0 + last.count.0 ≡ range.first.0 → next.first.0 ≡ last.first.0 → next.count.0 ≡ last.count.0 + range.count.0
    → AppendsInOrder range list (set list n next)
joined-last list n last next range end is meets first count =
    subst (λ items. AppendsInOrder range items (set list n next)) (sym (split-last list n last end is))
    (subst (AppendsInOrder range (take n list ++ last ∷ [])) (sym (replaced-last list n last next end is)) (joined (take n list) last next range meets first count))

pub appended-last : (list : List ClustersToFreeEntry) (n : ℕ) (last range : ClustersToFreeEntry) → n + 1 ≡ length list → last ≡ get_or list n last
    → (range.first.0 + range.count.0 < 2 ^ 64 → last.first.0 + last.count.0 ≡ range.first.0 → ⊥) → AppendsInOrder range list (set list n last ++ range ∷ [])
appended-last list n last range end is apart =
    subst (λ items. AppendsInOrder range items (set list n last ++ range ∷ [])) (sym (split-last list n last end is))
    (subst (λ items. AppendsInOrder range (take n list ++ last ∷ []) (items ++ range ∷ [])) (sym (replaced-last list n last last end is))
    (appended-after (take n list) last range apart))

-- lists are in order that end by a cluster, but may have gained it already
pub record EndButGained (c : ℕ) (clusters : ChangedClusters) : Type 0 where
  pub freed : AscendTo (c + 1) (bounds_of clusters.freed.items)
  pub kept : AscendTo c (kept_clusters clusters.kept.items)
  pub gained : AscendTo (c + 1) (cluster_numbers clusters.gained.items)

pub gained-next : (cluster : HostCluster) (a b : ChangedClusters) → b.freed.items ≡ a.freed.items → b.kept.items ≡ a.kept.items
    → b.gained.items ≡ a.gained.items ++ cluster ∷ [] → EndInOrder cluster.0 a → EndButGained cluster.0 b
gained-next cluster a b freed kept gained before = record {
  freed = subst (λ list. AscendTo (cluster.0 + 1) (bounds_of list)) (sym freed) before.freed;
  kept = subst (λ list. AscendTo cluster.0 (kept_clusters list)) (sym kept) before.kept;
  gained =
      let more : cluster_numbers b.gained.items ≡ cluster_numbers a.gained.items ++ cluster.0 ∷ [] = ap cluster_numbers gained
      ∙ map-append (λ (each : HostCluster). each.0) a.gained.items (cluster ∷ []) in
      subst (AscendTo (cluster.0 + 1)) (sym more) (ascend-on _ _ _ before.gained (omega arith));
}

pub gained-none : (c : ℕ) (a b : ChangedClusters) → b ≡ a → EndInOrder c a → EndButGained c b
gained-none c a b same before = subst (EndButGained c) (sym same)
    (record { freed = before.freed; kept = before.kept; gained = ascend-later _ _ _ before.gained (omega arith) })

-- it is listed no more, or as one that is kept, or as one that is free
pub ends-so : (c : ℕ) (a : ChangedClusters) → EndButGained c a → EndInOrder (c + 1) a
ends-so c a before = record {
  freed = ascend-later _ _ _ before.freed (omega arith);
  kept = ascend-later _ _ _ before.kept (omega arith);
  gained = before.gained;
}

pub ends-kept : (kept : KeptCluster) (a b : ChangedClusters) → b.freed.items ≡ a.freed.items → b.kept.items ≡ a.kept.items ++ kept ∷ []
    → b.gained.items ≡ a.gained.items → EndButGained kept.cluster.0 a → EndInOrder (kept.cluster.0 + 1) b
ends-kept kept a b freed more gained before = record {
  freed = subst (λ list. AscendTo (kept.cluster.0 + 1 + 1) (bounds_of list)) (sym freed) (ascend-later _ _ _ before.freed (omega arith));
  kept =
      let numbers : kept_clusters b.kept.items ≡ kept_clusters a.kept.items ++ kept.cluster.0 ∷ [] = ap kept_clusters more
      ∙ map-append (λ (each : KeptCluster). each.cluster.0) a.kept.items (kept ∷ []) in
      subst (AscendTo (kept.cluster.0 + 1)) (sym numbers) (ascend-on _ _ _ before.kept (omega arith));
  gained = subst (λ list. AscendTo (kept.cluster.0 + 1) (cluster_numbers list)) (sym gained) before.gained;
}

pub ends-freed : (range : ClustersToFreeEntry) (a b : ChangedClusters) → range.count.0 ≡ 1 → range.first.0 + 1 < 2 ^ 64
    → AppendsInOrder range a.freed.items b.freed.items → b.kept.items ≡ a.kept.items → b.gained.items ≡ a.gained.items → EndButGained range.first.0 a
    → EndInOrder (range.first.0 + 1) b
ends-freed range a b one fits more kept gained before = record {
  freed = subst (λ n. AscendTo (range.first.0 + n + 1) (bounds_of b.freed.items)) one
      (more (omega (arith, one)) (omega (arith, one, fits)) before.freed);
  kept = subst (λ list. AscendTo (range.first.0 + 1) (kept_clusters list)) (sym kept) (ascend-later _ _ _ before.kept (omega arith));
  gained = subst (λ list. AscendTo (range.first.0 + 1) (cluster_numbers list)) (sym gained) before.gained;
}

-- clusters in a row that are free
pub ends-freed-row : (range : ClustersToFreeEntry) (a b : ChangedClusters) → 0 < range.count.0 → range.first.0 + range.count.0 < 2 ^ 64
    → AppendsInOrder range a.freed.items b.freed.items → b.kept.items ≡ a.kept.items → b.gained.items ≡ a.gained.items → EndInOrder range.first.0 a
    → EndInOrder (range.first.0 + range.count.0) b
ends-freed-row range a b some fits more kept gained before = record {
  freed = more some fits before.freed;
  kept = subst (λ list. AscendTo (range.first.0 + range.count.0) (kept_clusters list)) (sym kept) (ascend-later _ _ _ before.kept (omega arith));
  gained = subst (λ list. AscendTo (range.first.0 + range.count.0) (cluster_numbers list)) (sym gained) (ascend-later _ _ _ before.gained (omega arith));
}

-- lists that end by a cluster end by any later one, and are in order
pub end-later : (c d : ℕ) (a : ChangedClusters) → c ≤ d → StayInOrder c d a a
end-later c d a later before = record {
  freed = ascend-later _ _ _ before.freed (omega (arith, later));
  kept = ascend-later _ _ _ before.kept later;
  gained = ascend-later _ _ _ before.gained later;
}

pub in-order : (c : ℕ) (a : ChangedClusters) → EndInOrder c a → AreInOrder a
in-order c a ends = record { freed = ascends _ _ ends.freed; kept = ascends _ _ ends.kept; gained = ascends _ _ ends.gained }

-- empty lists are
pub none-in-order : (a : ChangedClusters) → a.freed.items ≡ [] → a.kept.items ≡ [] → a.gained.items ≡ [] → EndInOrder 0 a
none-in-order a freed kept gained = record {
  freed = subst (λ list. AscendTo 1 (bounds_of list)) (sym freed) (λ k within. absurd (omega (arith, within)));
  kept = subst (λ list. AscendTo 0 (kept_clusters list)) (sym kept) (λ k within. absurd (omega (arith, within)));
  gained = subst (λ list. AscendTo 0 (cluster_numbers list)) (sym gained) (λ k within. absurd (omega (arith, within)));
}

-- one step after another
pub stay-on : (first middle end : ℕ) (a b c : ChangedClusters) → StayInOrder first middle a b → StayInOrder middle end b c → StayInOrder first end a c
stay-on first middle end a b c one other before = other (one before)

-- the clusters of a block begin where those of the one before end
pub index-after : (i n first count : ℕ) → first ≡ i * n → count ≡ n → first + count ≡ (i + 1) * n
index-after i n first count first_is count_is = omega (arith, first_is, count_is, mul-add_one i n)
  where
    mul-add_one : (i n : ℕ) → (i + 1) * n ≡ i * n + n
    mul-add_one i n = grind arith

pub index-later : (i n : ℕ) → i * n ≤ (i + 1) * n
index-later i n = omega (arith, index-after i n (i * n) n refl refl)

-- lists stay in order over the clusters of a block, by its index
pub stay-by-index : (i n first count : ℕ) (a b : ChangedClusters) → first ≡ i * n → count ≡ n → StayInOrder first (first + count) a b
    → StayInOrder (i * n) ((i + 1) * n) a b
stay-by-index i n first count a b first_is count_is order = subst (λ from. StayInOrder from ((i + 1) * n) a b) first_is
    (subst (λ end. StayInOrder first end a b) (index-after i n first count first_is count_is) order)
