-- What a read of a file gave.
use Rattle.std.proofs.Common.{◌≡◌, ℕ, List, Some, None, Vec, Global}
use Rattle.fjall_base.specs.Disk.{DiskEntry, Missing, File, Folder, IsFile, ReadsFile}
use Rattle.fjall_files.specs.Texts.{text_in}

pub read_none : (entry : DiskEntry) → ReadsFile entry None → IsFile entry → ⊥
read_none Missing is file = file
read_none (File synced unsynced) is file = is
read_none Folder is file = file

-- what was read is the file's bytes
pub record ReadFile (entry : DiskEntry) (bytes : List ℕ) : Type 0 where
  pub file : IsFile entry
  pub is : bytes ≡ text_in entry

pub read_some : (entry : DiskEntry) (bytes : Vec ℕ Global) → ReadsFile entry (Some bytes) → ReadFile entry bytes.items
read_some Missing bytes is = cc
read_some (File synced unsynced) bytes is = record { file = tt; is = is }
read_some Folder bytes is = cc
