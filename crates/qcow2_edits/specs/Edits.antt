-- Which edits can be made of an L2 table, and what do they leave of it and of references?
use Rattle.std.specs.Prelude.{◌≡◌, ℕ, Bool, true, false, not, ◌+◌, ◌≤◌, ◌||◌, slice_index, List, [], ◌∷◌, map, length, Option, option_map, Result, Ok}
use Rattle.std.specs.List.{position}
use Rattle.std.specs.Vec.{vec_capacity}
use Rattle.qcow2_base.specs.declared.fault.Fault.{Fault}
use Rattle.qcow2_base.specs.declared.fault.Fault.TheVariants.{BadEdit}
use Rattle.qcow2_base.specs.declared.types.HostCluster.{HostCluster}
use Rattle.qcow2_edits.specs.declared.edits.Change.{Change}
use Rattle.qcow2_edits.specs.declared.edits.Edit.{Edit}
use Rattle.qcow2_edits.specs.declared.edits.Edit.TheVariants.{Discard, Map, Zero}
use Rattle.qcow2_edits.specs.declared.edits.Outcome.{Outcome}
use Rattle.qcow2_metadata.specs.Results.{unless_refused}
use Rattle.qcow2_metadata.specs.Table.L2Guards.{RunEnd, TableEdit, entry_after, clusters_freed_by, fits_table, cluster_gained_by, handed_back, references, run_of, times_gained, to_data, to_nothing, to_zeros}
use Rattle.qcow2_metadata.specs.Placed.{with_number}
use Rattle.qcow2_metadata.specs.Table.{TableState}

-- the change of a table that an edit is
abbrev pub table_edit : Edit → TableEdit
table_edit (Map index host_cluster) = record { index = index; edit = to_data host_cluster.0 }
table_edit (Zero index keep_allocation) = record { index = index; edit = to_zeros keep_allocation }
table_edit (Discard index) = record { index = index; edit = to_nothing }

-- whether the edit can be made of the table
abbrev pub edit_fits : TableState → Edit → Bool
edit_fits table edit = fits_table table.geometry (length table.numbers) (table_edit edit)

-- the position of the first edit that can't be made of the table, if there is one
abbrev pub first_unfit_edit : TableState → List Edit → Option ℕ
first_unfit_edit table edits = position (λ edit. not (edit_fits table edit)) edits

-- a change of a table, and what it did to references
pub record Makes (e : TableEdit) (change : Change) (old new : TableState) : Type 0 where
  pub table : new ≡ with_number old e.index (entry_after old.geometry e.edit (slice_index old.numbers e.index))
  pub gained : option_map (λ (cluster : HostCluster). cluster.0) change.gained
      ≡ cluster_gained_by old.geometry e.edit (slice_index old.numbers e.index)
  pub freed : change.freed ≡ clusters_freed_by old.geometry e.edit (slice_index old.numbers e.index)

-- room for what that many more edits do
pub record HasRoom (more : ℕ) (outcome : Outcome) : Type 0 where
  pub gained : length outcome.gained.items + more ≤ vec_capacity outcome.gained
  pub freed : length outcome.freed.items + more ≤ vec_capacity outcome.freed

-- what edits leave of the table, or the refusal of the first that can't be made
abbrev pub edits_or_refusal : TableState → List Edit → Result RunEnd Fault
edits_or_refusal table edits = unless_refused (option_map BadEdit (first_unfit_edit table edits))
    (Ok (run_of table.geometry (map table_edit edits) table.numbers))

-- the numbers of host clusters
abbrev pub cluster_numbers : List HostCluster → List ℕ
cluster_numbers clusters = map (λ (cluster : HostCluster). cluster.0) clusters

-- what a table and the outcome of its edits say that they left
abbrev pub edits_left : TableState → Outcome → RunEnd
edits_left table outcome = record {
  numbers = table.numbers;
  freed = outcome.freed.items;
  gained = cluster_numbers outcome.gained.items;
}

-- whether there is an edit at all
abbrev pub are_some : List Edit → Bool
are_some [] = false
are_some (edit ∷ edits) = true

-- the table with the numbers that edits left; it counts as modified if there was an edit
abbrev pub table_left : List Edit → TableState → List ℕ → TableState
table_left edits table numbers = record table { numbers = numbers; modified = are_some edits || table.modified }

-- at each host cluster, the references after the edits and those handed back are those before and those gained
abbrev pub Balances : Outcome → TableState → TableState → Type 0
Balances outcome old new = (cluster : ℕ) →
    references new.geometry new.numbers cluster + handed_back outcome.freed.items cluster
    ≡ references old.geometry old.numbers cluster + times_gained (cluster_numbers outcome.gained.items) cluster
