-- Which bytes of a storage are kept in pages?
use Rattle.std.specs.Prelude.{◌≡◌, ℕ, List, length}
use Rattle.std.specs.Option.{ForSome}
use Rattle.std.specs.List.{All}
use Rattle.qcow2_base.specs.Storage.{Holds, OnImage, StorageState}
use Rattle.qcow2_buffered.specs.declared.pages.Page.{Page}

-- a page that is as long as others, and where it keeps bytes, has those of the storage
pub record IsPage (size : ℕ) (state : StorageState) (page : Page) : Type 0 where
  pub len : length page.bytes.items ≡ size
  pub kept : ForSome page.start (λ start. OnImage state (λ image. Holds image start page.bytes.items))

-- all pages are so
abbrev pub ArePages : ℕ → StorageState → List Page → Type 0
ArePages size state pages = All (IsPage size state) pages
