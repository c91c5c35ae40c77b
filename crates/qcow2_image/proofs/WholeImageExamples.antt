use Rattle.std.proofs.Common.{◌≡◌, ℕ, ◌∷◌, ◌++◌, [], List, map, false, true, Result, Ok, refl}
use Rattle.std.specs.Prelude.{⊤}
use Rattle.qcow2_base.specs.Storage.{be}
use Rattle.qcow2_base.specs.declared.fault.Fault.{Fault}
use Rattle.qcow2_metadata.specs.Entries.L2Mapping.{Mapping, backing, data_file}
use Rattle.qcow2_metadata.specs.Header.{geometry}
use Rattle.qcow2_metadata.specs.Header.Chain.{extensions_at}
use Rattle.qcow2_metadata.specs.Header.Grammar.{accepted_header, header_of}
use Rattle.qcow2_summary.proofs.SampleImage.{Part, byte, entry, laid, sample}
use Rattle.qcow2_image.specs.Lookups.{image_mapping}
use Rattle.qcow2_image.specs.WholeImage.{image_references}

-- `unfolding computing` opens what is needed to compute what an image that is written out means
unfoldable computing : ⊤
unfolding accepted_header extensions_at be
computing = tt

-- references to clusters 5, 6 and 7 in the whole image. A second L2 table at 2048 maps its first cluster to cluster 7.
-- The first one's entry 3 is mapped to cluster 6, where it was mapped to cluster 5
abbrev referred : List Part → List ℕ
referred parts = map (image_references (geometry 9 false) (0x8000000000000400 ∷ 0x8000000000000800 ∷ [])
    (laid (parts ++ entry 2048 0x80 0x0e 0 ++ sample))) (5 ∷ 6 ∷ 7 ∷ [])

pub references : map referred ([] ∷ entry 1048 0x80 0x0c 0 ∷ []) ≡ (1 ∷ 0 ∷ 1 ∷ []) ∷ (0 ∷ 1 ∷ 1 ∷ []) ∷ []
unfolding computing
references = refl

-- what the cluster of an offset reads as with these changes of the sample image, one list of them after another
abbrev with_changes : ℕ → List (List Part) → List (Result Mapping Fault)
with_changes offset changes = map (λ parts. image_mapping offset (laid (parts ++ sample))) changes

-- why an offset's own L2 table has to share no byte with the edited one: the second L1 entry names that table too. So
-- its offset, in which nothing was edited, reads as the edit says
abbrev entry_in_copy : List Part
entry_in_copy = byte 39 2 ++ entry 520 0x80 0x04 0

pub shared_table : with_changes 34311 (entry_in_copy ∷ (entry 1048 0x80 0x0c 0 ++ entry_in_copy) ∷ []) ≡ Ok (data_file 5 true) ∷ Ok (data_file 6 true) ∷ []
unfolding computing
shared_table = refl

-- why the L1 table has to share no byte with the edited table: here it is that table, and to discard its entry 0 takes
-- all of its mappings away
abbrev own_l1_table : List Part
own_l1_table = byte 46 4 ++ entry 1024 0x80 0x04 0

pub overlapping_table : with_changes 1543 (own_l1_table ∷ (entry 1024 0 0 0 ++ own_l1_table) ∷ []) ≡ Ok (data_file 5 true) ∷ Ok (backing 1536) ∷ []
unfolding computing
overlapping_table = refl
