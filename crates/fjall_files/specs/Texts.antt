-- The bytes of a file.
use Rattle.std.specs.Prelude.{ℕ, List, [], ◌++◌}
use Rattle.fjall_base.specs.Disk.{DiskEntry, File}

-- the bytes of an entry's file, none where there is no file
abbrev pub text_in : DiskEntry → List ℕ
text_in (File synced unsynced) = synced ++ unsynced
text_in entry = []
