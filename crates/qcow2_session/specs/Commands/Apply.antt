-- What does the command `apply` print, and what does it leave?
use Rattle.std.specs.Prelude.{◌≡◌, ◌⊎◌, ℕ, ◌^◌, nat_lt, nat_le, Bool, true, false, not, ◌&&◌, if◌then◌else◌, List, [], ◌∷◌, ◌++◌, length, take, drop, map, Option, Some, None, option_map, Result, Err, MatchResult, bytes_eq, flat_map, codes}
use Rattle.std.specs.List.{list_all, position}
use Rattle.std.specs.Char.{digit_value}
use Rattle.std.specs.Fmt.{decimal}
use Rattle.std.specs.Int.{div_ceil}
use Rattle.std.specs.Option.{option_or}
use Rattle.std.specs.Str.Parse.{digits_value}
use Rattle.qcow2_base.specs.Storage.{Image, OnImage, OnImages, StorageState}
use Rattle.qcow2_base.specs.declared.fault.Fault.{Fault}
use Rattle.qcow2_base.specs.declared.fault.Fault.TheVariants.{BadEdit, NoMemory}
use Rattle.qcow2_check.specs.Failures.{RefusesAs, ReportsFailures}
use Rattle.qcow2_edits.specs.Edits.{cluster_numbers}
use Rattle.qcow2_metadata.specs.Header.{HeaderRecord, each_feature, uses_external_data}
use Rattle.qcow2_metadata.specs.Header.BitmapCount.{consistent_bitmaps}
use Rattle.qcow2_metadata.specs.Results.{IsFromOutside}
use Rattle.qcow2_apply.specs.Apply.{EditsDisk}
use Rattle.qcow2_apply.specs.GuestEdits.{disk_refusal, guest_edit_fits}
use Rattle.qcow2_apply.specs.Plan.{IsPlanOf, RefusesEdits, edits_within}
use Rattle.qcow2_apply.specs.declared.changed_clusters.ChangedClusters.{ChangedClusters}
use Rattle.qcow2_apply.specs.declared.changed_clusters.KeptCluster.{KeptCluster}
use Rattle.qcow2_apply.specs.declared.guest_edits.GuestEdit.{GuestEdit}
use Rattle.qcow2_apply.specs.declared.guest_edits.GuestEdit.TheVariants.{Discard, Map, Zero}
use Rattle.qcow2_apply.specs.declared.plan.Plan.{Plan as EditPlan}
use Rattle.qcow2_session.specs.Commands.Edit.{freed_line, gained_line}
use Rattle.qcow2_session.specs.Commands.Facts.{CommandFacts, plain_facts}
use Rattle.qcow2_session.specs.Commands.Printing.{PrintsText, Run}
use Rattle.qcow2_session.specs.Commands.Words.{Word, WordList, all_values, pair_by, parts_of, word_number}
use Rattle.qcow2_session.specs.declared.commands.Command.{Command}
use Rattle.qcow2_session.specs.declared.commands.Command.TheVariants as command
use Rattle.qcow2_session.specs.declared.commands.apply.ApplyForm.{ApplyForm}
use Rattle.qcow2_session.specs.declared.commands.apply.ApplyForm.TheVariants.{Make, Plan}
use Rattle.qcow2_session.specs.declared.commands.apply.DiskEdit.{DiskEdit}
use Rattle.qcow2_session.specs.declared.commands.apply.DiskEdit.TheVariants.{DiscardCluster, Range}

-- the number that 1 to 16 hexadecimal digits say
abbrev pub hexadecimal : Word → Option ℕ
hexadecimal digits =
    let are_digits = list_all (λ b. nat_lt (digit_value b) 16) digits in
    if are_digits && nat_lt 0 (length digits) && nat_le (length digits) 16 then Some (digits_value 16 digits) else None

-- the number that a word says, by hexadecimal digits after 0x, or else by decimal ones
abbrev pub any_number : Word → Option ℕ
any_number word = if bytes_eq (take 2 word) (codes "0x") then hexadecimal (drop 2 word) else word_number word

-- the two numbers of a word, with a colon between
abbrev pub two_numbers : Word → Option (ℕ × ℕ)
two_numbers word = of_parts (parts_of word)
  where
    of_parts : Option (Word × Word) → Option (ℕ × ℕ)
    of_parts None = None
    of_parts (Some parts) = pair_by (λ first second. (first, second)) (any_number parts.0) (any_number parts.1)

-- the edits that two numbers say, by their name: a mapping, zeros, or a discard, which is of one cluster where there is one number
abbrev pub map_of : Word → Option DiskEdit
map_of word = option_map (λ (numbers : ℕ × ℕ). Range (Map (record { 0 = numbers.0 }) (record { 0 = numbers.1 }))) (two_numbers word)

abbrev pub zero_of : Bool → Word → Option DiskEdit
zero_of keep_allocation word =
    option_map (λ (numbers : ℕ × ℕ). Range (Zero (record { 0 = numbers.0 }) numbers.1 keep_allocation)) (two_numbers word)

abbrev pub discard_of : Word → Option DiskEdit
discard_of word = by_colon (parts_of word)
  where
    by_colon : Option (Word × Word) → Option DiskEdit
    by_colon None = option_map (λ offset. DiscardCluster (record { 0 = offset })) (any_number word)
    by_colon (Some parts) = option_map (λ (numbers : ℕ × ℕ). Range (Discard (record { 0 = numbers.0 }) numbers.1)) (two_numbers word)

-- the edit that a word says, if it says one: its name, a colon, and its numbers
abbrev pub disk_edit_of : Word → Option DiskEdit
disk_edit_of word = of_parts (parts_of word)
  where
    of_parts : Option (Word × Word) → Option DiskEdit
    of_parts None = None
    of_parts (Some parts) =
        if bytes_eq parts.0 (codes "map") then map_of parts.1
        else if bytes_eq parts.0 (codes "zero") then zero_of false parts.1
        else if bytes_eq parts.0 (codes "keep") then zero_of true parts.1
        else if bytes_eq parts.0 (codes "discard") then discard_of parts.1 else None

-- the command of one edit or more, by its form
abbrev pub edits_command : ApplyForm → WordList → Option Command
edits_command form [] = None
edits_command form (word ∷ words) = option_map (command.Apply form) (all_values disk_edit_of (word ∷ words))

-- the command `apply` that the words after its image ask for
abbrev pub apply_command : WordList → Option Command
apply_command [] = None
apply_command (word ∷ words) = if bytes_eq word (codes "plan") then edits_command Plan words else edits_command Make (word ∷ words)

-- the edit that one is of a disk with clusters of this size
abbrev pub guest_edit : ℕ → DiskEdit → GuestEdit
guest_edit cluster_size (Range edit) = edit
guest_edit cluster_size (DiscardCluster offset) = Discard offset cluster_size

-- the edits that some are of a disk of this header
abbrev pub guest_edits : HeaderRecord → List DiskEdit → List GuestEdit
guest_edits header edits = map (guest_edit (2 ^ header.v2.cluster_bits)) edits

-- whether the cluster that an edit maps, if it does, is one of those of an image of this length, whose last may be cut
abbrev pub maps_within : ℕ → ℕ → GuestEdit → Bool
maps_within len cb (Map offset host_cluster) = nat_lt host_cluster.0 (div_ceil len (2 ^ cb))
maps_within len cb (Zero offset length keep_allocation) = true
maps_within len cb (Discard offset length) = true

-- whether an edit fits the disk of this header, and its image of this length
abbrev pub fits_within : ℕ → HeaderRecord → DiskEdit → Bool
fits_within len header edit = let of_disk = guest_edit (2 ^ header.v2.cluster_bits) edit in
    guest_edit_fits header of_disk && maps_within len header.v2.cluster_bits of_disk

-- the position of the first edit that doesn't
abbrev pub first_unfit_within : ℕ → HeaderRecord → List DiskEdit → Option ℕ
first_unfit_within len header edits = position (λ edit. not (fits_within len header edit)) edits

-- why edits can't be made of the disk of an image with this header and of this length, if they can't, whatever its tables are:
-- it is marked, its L1 table is too short, or the first edit doesn't fit the disk or maps a cluster past the end. With an
-- external data file clusters lie elsewhere, and the edits are refused for that
abbrev pub maps_refusal : List DiskEdit → HeaderRecord → ℕ → Option Fault
maps_refusal edits header len = option_or (disk_refusal header)
    (if uses_external_data header then None else option_map BadEdit (first_unfit_within len header edits))

-- the line of a cluster that lost a reference and has others: with its counter
abbrev pub kept_line : KeptCluster → List ℕ
kept_line kept = codes "kept " ++ decimal kept.cluster.0 ++ codes " " ++ decimal kept.counter ++ codes "\n"

-- the lines of what becomes of clusters: those that are free, those that lost a reference and have others, and those that gained one
abbrev pub changed_lines : ChangedClusters → List ℕ
changed_lines clusters = flat_map freed_line clusters.freed.items
    ++ (flat_map kept_line clusters.kept.items ++ flat_map gained_line (cluster_numbers clusters.gained.items))

-- whether a form makes the edits
abbrev pub makes_edits : ApplyForm → Bool
makes_edits Make = true
makes_edits Plan = false

-- how many bitmaps edits of a disk of this header make stale, as far as a form says it
abbrev pub stale_bitmaps : ApplyForm → HeaderRecord → Option ℕ
stale_bitmaps Make header = None
stale_bitmaps Plan header = consistent_bitmaps header

-- the line of that number, if there is one
abbrev pub bitmaps_line : Option ℕ → List ℕ
bitmaps_line None = []
bitmaps_line (Some count) = codes "stale-bitmaps " ++ decimal count ++ codes "\n"

-- what edits came to was printed: what becomes of clusters and of bitmaps, or nothing, and the fault is the run's
abbrev pub PrintsChanges : {A O : Type 0} → ApplyForm → HeaderRecord → Result ChangedClusters Fault → Run A O → Type 0
PrintsChanges form header done run = MatchResult done
    (λ clusters. PrintsText run.answer (run.contents run.before) (run.contents run.after)
    (changed_lines clusters ++ bitmaps_line (stale_bitmaps form header)))
    (λ fault. (run.answer ≡ Err fault) × (run.after ≡ run.before))

-- memory for the edits ran out, before anything was done
abbrev pub RunsOut : {A O : Type 0} → Run A O → Type 0
RunsOut run = (run.answer ≡ Err NoMemory) × (run.new ≡ run.old) × (run.after ≡ run.before)

-- edits of a disk of this header were planned, and this becomes of clusters, or they were refused
abbrev pub PlansEdits : HeaderRecord → List GuestEdit → Result ChangedClusters Fault → Image → Type 0
PlansEdits header edits done image = MatchResult done
    (λ clusters. (plan : EditPlan) × IsPlanOf header edits image plan × (plan.clusters ≡ clusters))
    (λ fault. IsFromOutside fault ⊎ RefusesEdits header edits image fault)

-- what edits of a disk of this header came to, by their form
abbrev pub EndsEdits : ApplyForm → HeaderRecord → List GuestEdit → Result ChangedClusters Fault → StorageState → StorageState → Type 0
EndsEdits Make header edits done old new = (left : HeaderRecord) × OnImages old new (EditsDisk header left edits done)
EndsEdits Plan header edits done old new = OnImage old (PlansEdits header edits done)

-- how a run of edits of a disk ends, by its form: they were made or planned, or refused, first by the image's end, and by the
-- storage fault exactly where a call of the image failed. This was printed
abbrev pub EndsApply : {A O : Type 0} → ApplyForm → List DiskEdit → HeaderRecord → Run A O → Type 0
EndsApply form edits header run = RunsOut run ⊎ ((done : Result ChangedClusters Fault)
    × EndsEdits form header (guest_edits header edits) done run.old run.new
    × OnImage run.old (λ bytes. RefusesAs (edits_within header (guest_edits header edits) run.old.len bytes) done)
    × ReportsFailures done run.old run.new × PrintsChanges form header done run)

-- the facts of the command `apply`
abbrev pub apply_facts : ApplyForm → List DiskEdit → CommandFacts
apply_facts form edits = record (plain_facts (λ O header run. EndsApply form edits header run)) {
  changes_image = makes_edits form;
  accepts = each_feature;
}
