-- What is known of the files of paths, and what changes where one is opened or closed?
use Rattle.std.specs.Prelude.{◌≡◌, ◌<◌, ◌⊎◌, ℕ, List, Result, IfOk, OnErr}
use Rattle.qcow2_base.specs.Storage.File.{failures_of, file_of}
use Rattle.qcow2_base.specs.Storage.ImageFile.{FileContent, OnFile, unknown_content}
use Rattle.qcow2_base.specs.declared.fault.Fault.{Fault}
use Rattle.qcow2_base.specs.declared.storage.file.FileStorage.{FileStorage}

-- what is known of the file of a path: its content, and how many calls had failed when it was last closed, or could not be
-- opened
pub record PathFile : Type 0 where
  pub content : FileContent
  pub failures : ℕ

-- what is known of the file of a path where its bytes aren't known
abbrev pub unknown_file : PathFile
unknown_file = record { content = unknown_content; failures = 0 }

-- of all paths' files, only that of this one has changed: that of another is as it was, unless both were alike, and are
abbrev pub ChangesOne : List ℕ → (List ℕ → PathFile) → (List ℕ → PathFile) → Type 0
ChangesOne path old new = (other : List ℕ) → (new other ≡ old other) ⊎ ((old other ≡ old path) × (new other ≡ new path))

-- a call for the file of a path failed, and changed no byte
pub record FailsFor (path : List ℕ) (old new : List ℕ → PathFile) : Type 0 where
  pub content : (new path).content ≡ (old path).content
  pub counted : OnFile (old path).content (0 < (new path).failures)
  pub others : ChangesOne path old new

-- an opening of the file of a path ended in this answer: the open file has the content of the path's
pub record OpensImage {F : Type 0} (known : F → FileContent) (answer : Result (FileStorage F) Fault) (path : List ℕ) (old new : List ℕ → PathFile) : Type 0 where
  pub opened : IfOk answer (λ image. (known (file_of image) ≡ (old path).content) × (failures_of image ≡ 0) × (new ≡ old))
  pub refused : OnErr answer (FailsFor path old new)

-- an open file was closed by a path, whose file has its content then
pub record ClosesImage {F : Type 0} (known : F → FileContent) (image : FileStorage F) (path : List ℕ) (old new : List ℕ → PathFile) : Type 0 where
  pub content : (new path).content ≡ known (file_of image)
  pub failures : OnFile (known (file_of image)) ((new path).failures ≡ failures_of image)
  pub others : ChangesOne path old new
