-- What the steps of a mending keep where a crash may leave different stores.
use Rattle.std.specs.Prelude.{◌≡◌, ℕ, List, [], take}
use Rattle.fjall_base.specs.Store.{Store, Command, fold, kept}
use Rattle.fjall_base.specs.Disk.{Name, DiskState, Image, IsFile, IsImage, folder_of}
use Rattle.fjall_files.specs.Texts.{text_in}
use Rattle.fjall_recovery.specs.Folders.{Contents, IsSound, store_of_contents}
use Rattle.fjall_recovery.specs.Amid.{IsBeginning}

-- The image is a sound folder that stands for the base and a beginning of the pending commands. Each file whose name is synced
-- has a beginning of what it had, and each such file of the root is there.
pub record StaysAmid (start : DiskState) (base : Store) (pending : List Command) (image : Image) : Type 0 where
  pub front : List Command
  pub within : IsBeginning front pending
  pub c : Contents
  pub sound : IsSound image c
  pub is : kept (fold base front) ≡ store_of_contents c
  pub parts : (q : Name) → (start q).older ≡ [] → (n : ℕ) × (text_in (image q) ≡ take n (text_in (start q).now))
  pub files : (q : Name) → folder_of q ≡ [] → (start q).older ≡ [] → IsFile (start q).now → IsFile (image q)

-- whatever a crash leaves is such an image
abbrev pub AllStayAmid : DiskState → Store → List Command → Type 0
AllStayAmid state base pending = (image : Image) → IsImage state image → StaysAmid state base pending image
