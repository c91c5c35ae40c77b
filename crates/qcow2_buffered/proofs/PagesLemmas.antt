use Rattle.std.proofs.Common.{◌≡◌, ℕ, zero, suc, ◌+◌, ◌<◌, ◌≤◌, length, get_or, slice_index, Result, ◌∙◌, Some, List, [], ◌∷◌, ◌++◌, None, arith}
use Rattle.std.proofs.Math.ListN.{set}
use Rattle.std.proofs.lemmas.List.Elements.{All-append, All-get_or, All-set, All-from_get_or}
use Rattle.qcow2_base.specs.Storage.{Holds, OnImage, ReadsBytes, StorageState}
use Rattle.qcow2_buffered.specs.Pages.{ArePages, IsPage}
use Rattle.qcow2_buffered.specs.declared.pages.Page.{Page}

-- each page is one
pub page_at : (size : ℕ) (state : StorageState) (pages : List Page) (index : ℕ) (d : Page) → index < length pages
    → ArePages size state pages → IsPage size state (get_or pages index d)
page_at size state pages index d below are = All-get_or (IsPage size state) pages index d below are

-- pages with another in the place of one
pub pages_with : (size : ℕ) (state : StorageState) (pages : List Page) (index : ℕ) (page : Page) → IsPage size state page
    → ArePages size state pages → ArePages size state (set pages index page)
pages_with size state pages index page is are = All-set (IsPage size state) pages index page is are

-- pages and one more
pub pages_more : (size : ℕ) (state : StorageState) (pages more : List Page) (page : Page) → more ≡ pages ++ page ∷ [] → IsPage size state page
    → ArePages size state pages → ArePages size state more
pages_more size state pages more page sum is are =
    rw sum (All-append (IsPage size state) pages (page ∷ []) are (All-from_get_or (IsPage size state) (page ∷ []) page (only page is)))
  where
    only : (page : Page) → IsPage size state page → (i : ℕ) → i < 1 → IsPage size state (get_or (page ∷ []) i page)
    only page is zero below = is
    only page is (suc i) below = let never : ⊥ = omega (arith, below) in elim never [ ]

-- a page that keeps nothing is one of any storage
pub empty_page : (size : ℕ) (state : StorageState) (page : Page) → page.start ≡ None → length page.bytes.items ≡ size → IsPage size state page
empty_page size state page none len = grind (arith, none, len)

-- where the bytes stay, a page does
pub page_stays : {T E : Type 0} (answer : Result T E) (offset : ℕ) (bytes : List ℕ) (size : ℕ) (old new : StorageState) (page : Page) → ReadsBytes answer offset bytes old new → IsPage size old page → IsPage size new page
page_stays answer offset bytes size old new page same is = grind (arith, same, is)

-- and so do all
pub pages_stay : {T E : Type 0} (answer : Result T E) (offset : ℕ) (bytes : List ℕ) (size : ℕ) (old new : StorageState) (pages : List Page) → ReadsBytes answer offset bytes old new → ArePages size old pages → ArePages size new pages
pages_stay answer offset bytes size old new pages same are = λ i d below. page_stays answer offset bytes size old new (get_or pages i d) same (are i d below)

-- bytes that are copied from a page that begins at an offset
pub part_of_page : (size : ℕ) (state : StorageState) (page : Page) (start first : ℕ) (buffer : List ℕ) → page.start ≡ Some start
    → IsPage size state page → first + length buffer ≤ size
    → ((i : ℕ) → i < length buffer → slice_index buffer i ≡ slice_index page.bytes.items (first + i))
    → OnImage state (λ image. Holds image (start + first) buffer)
part_of_page size state page start first buffer starts is room copied = λ told. record {
  each = λ i below.
      let at : slice_index page.bytes.items (first + i) ≡ state.byte_at (start + (first + i)) =
      (is.kept start starts told).each (first + i) (omega (arith, is.len, room, below)) in
      let sum : start + first + i ≡ start + (first + i) = omega arith in
      rw sum (copied i below ∙ at);
}
