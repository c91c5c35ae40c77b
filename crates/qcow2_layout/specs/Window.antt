-- What are the clusters of a part of an image by their uses, in memory of a bounded size?
pub mod Cells
use Rattle.std.specs.Prelude.{◌≡◌, ℕ, ◌==◌, ◌&&◌, ◌+◌, ◌<◌, ◌≤◌, if◌then◌else◌, nat_lt, All, List, Option, Some, None}
use Rattle.std.specs.List.{fold}
use Rattle.qcow2_base.specs.Storage.{Image}
use Rattle.qcow2_metadata.specs.Entries.{is_among}
use Rattle.qcow2_check.specs.Tally.{TallyState, cell_at}
use Rattle.qcow2_check.specs.Uses.{ImageTables}
use Rattle.qcow2_check.specs.Walk.{IsOwned, use_list}
use Rattle.qcow2_check.specs.declared.uses.Use.{Use}
use Rattle.qcow2_check.specs.declared.uses.UseKind.{UseKind}
use Rattle.qcow2_check.specs.declared.uses.UseKind.TheVariants.{Compressed, Data, EncryptionHeader, Header, L1Table, L2Table, RefcountBlock, RefcountTable}
use Rattle.qcow2_layout.specs.Parts.{use_in}

-- the number that stands in memory for what a use's clusters are: guest data goes by its guest cluster
abbrev pub code_of : UseKind → ℕ → ℕ
code_of Header owner = 1
code_of L1Table owner = 2
code_of RefcountTable owner = 3
code_of EncryptionHeader owner = 4
code_of RefcountBlock owner = 5
code_of L2Table owner = 6
code_of Compressed owner = 7
code_of Data owner = 8 + owner

-- the cell of a cluster with this first use: its number, or 0 where there is none
abbrev pub cell_of : Option Use → ℕ
cell_of None = 0
cell_of (Some used) = code_of used.kind used.owner

-- the cell that many clusters after one with this cell, where they are one run: guest data goes on, and all else stays
abbrev pub cell_further : ℕ → ℕ → ℕ
cell_further cell count = if nat_lt cell 8 then cell else cell + count

-- the cell of cluster c after a use, which stays where a use before has the cluster
abbrev pub cell_after : ℕ → ℕ → Use → ℕ
cell_after c cell used = if cell == 0 && is_among used.clusters c then code_of used.kind used.owner else cell

-- cells after these uses too; they may end sooner then
pub record PlacesMore (uses : List Use) (old new : TallyState) : Type 0 where
  pub owned : All IsOwned uses
  pub first : new.first ≡ old.first
  pub end : new.end ≤ old.end
  pub cells : (c : ℕ) → old.first ≤ c → c < new.end → cell_at new c ≡ fold (cell_after c) (cell_at old c) uses

-- cells of all clusters from their first to before their end, by all uses of an image
pub record PlacesAll (tables : ImageTables) (image : Image) (window : TallyState) : Type 0 where
  pub owned : All IsOwned (use_list tables image)
  pub cells : (c : ℕ) → window.first ≤ c → c < window.end → cell_at window c ≡ cell_of (use_in (use_list tables image) c)
