-- What a disk holds, whatever a crash leaves of it.
use Rattle.std.specs.Prelude.{ℕ, Option, Some, None}
use Rattle.fjall_base.specs.Store.{Store}
use Rattle.fjall_base.specs.Disk.{DiskState, Image, IsImage, standing}
use Rattle.fjall_meta.specs.Keyspaces.{no_keyspaces}
use Rattle.fjall_meta.specs.Replays.{bare}
use Rattle.fjall_recovery.specs.Folders.{Contents, IsOpenable, IsSound, IsUnfinished, number_of_contents, store_of_contents}

-- The image is a sound folder with these contents, or, where none are given, one whose making was cut short.
abbrev pub IsFolder : Image → Option Contents → Type 0
IsFolder image None = IsUnfinished image
IsFolder image (Some c) = IsSound image c

-- The same of a folder that an opening finds right, whatever stands in the blocks of its tables.
abbrev pub IsOpenFolder : Image → Option Contents → Type 0
IsOpenFolder image None = IsUnfinished image
IsOpenFolder image (Some c) = IsOpenable image c

-- What stands on the disk is such a folder, and so is whatever a crash leaves of it.
pub record Holds (state : DiskState) (folder : Option Contents) : Type 0 where
  pub now : IsFolder (standing state) folder
  pub crash : (image : Image) → IsImage state image → IsFolder image folder

-- the store that such a folder stands for
abbrev pub store_of_folder : Option Contents → Store
store_of_folder None = bare no_keyspaces
store_of_folder (Some c) = store_of_contents c

-- one past the greatest number in it
abbrev pub number_held : Option Contents → ℕ
number_held None = 0
number_held (Some c) = number_of_contents c
