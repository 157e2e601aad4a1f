-- Tables in the files of a disk.
use Rattle.std.specs.Prelude.{◌≡◌, ⊤, ℕ, ◌+◌, ◌<◌, ◌≤◌, ◌^◌, List, [], ◌++◌, length, map, string_bytes, take, drop}
use Rattle.fjall_base.specs.declared.error.Error.{Error}
use Rattle.fjall_base.specs.declared.error.Error.TheVariants.{Io, OutOfMemory, Storage}
use Rattle.fjall_base.specs.declared.error.StorageError.TheVariants.{TableDamaged}
use Rattle.fjall_base.specs.Disk as disk
use Rattle.fjall_base.specs.Disk.{IsFile, Name, Meaning, state_in}
use Rattle.fjall_base.specs.Errors.{Rose}
use Rattle.fjall_table.specs.declared.footer.Footer.{Footer}
use Rattle.fjall_table_reader.specs.declared.table_file.TableFile.{TableFile}
use Rattle.fjall_table.specs.declared.table_info.TableInfo.{TableInfo}
use Rattle.fjall_table.specs.Blocks.{Entry}
use Rattle.fjall_table.specs.Owned.{owned_handle}
use Rattle.fjall_table.specs.Tables.{Handle, footer_text, IsTable, HasIndex}
use Rattle.fjall_table.specs.TableReading.{part_at, IsBlockFrom, IsNoBlockFrom}

-- what stands at a name now
abbrev pub entry_at : Meaning → Name → disk.DiskEntry
entry_at disk name = (state_in disk name).now

-- the bytes of an entry's file, none where there is no file
abbrev pub bytes_in : disk.DiskEntry → List ℕ
bytes_in (disk.File synced unsynced) = synced ++ unsynced
bytes_in entry = []

-- each call was one that a disk can serve
abbrev pub AllServed : Meaning → Meaning → Type 0
AllServed old new = new.misuses ≡ old.misuses

-- Why a table's file isn't read: the disk failed, memory ran out, or the table is damaged, as the fact says.
abbrev pub IsRefused : Type 0 → (faults_before faults_after : ℕ) → Error → Type 0
IsRefused P before after (Io kind) = Rose before after
IsRefused P before after OutOfMemory = ⊤
IsRefused P before after (Storage told) = (told ≡ TableDamaged) × P
IsRefused P before after error = ⊥

-- ---- a table's file

-- A table's file as an opening looks at it: it has the length that the record says, and its footer and its index are right.
pub record IsIndexed (info : TableInfo) (bytes : List ℕ) (handles : List Handle) : Type 0 where
  pub len : length bytes ≡ info.file_len
  pub index : HasIndex bytes handles info.entry_count

-- The same of an entry of a disk: a file stands there.
pub record HoldsTable (entry : disk.DiskEntry) (info : TableInfo) (handles : List Handle) : Type 0 where
  pub file : IsFile entry
  pub is : IsIndexed info (bytes_in entry) handles

-- no such file stands there
abbrev pub HoldsNoTable : disk.DiskEntry → TableInfo → Type 0
HoldsNoTable entry info = (handles : List Handle) → HoldsTable entry info handles → ⊥

-- The file is all right, its blocks too, and these are its entries.
pub record IsTableOf (info : TableInfo) (bytes : List ℕ) (entries : List Entry) : Type 0 where
  pub len : length bytes ≡ info.file_len
  pub table : IsTable bytes entries
  pub count : info.entry_count ≡ length entries

-- ---- parts of a file

-- The file has so many bytes from a place on, and they are these.
pub record HasPart (entry : disk.DiskEntry) (at len : ℕ) (part : List ℕ) : Type 0 where
  pub file : IsFile entry
  pub within : at + len ≤ length (bytes_in entry)
  pub is : part ≡ take len (drop at (bytes_in entry))

-- no file stands there, or it ends before
abbrev pub HasNoPart : disk.DiskEntry → ℕ → ℕ → Type 0
HasNoPart entry at len = IsFile entry → length (bytes_in entry) < at + len

-- The file has the length that the record says, and ends with this footer, which tells the record's count of entries. The
-- index that it tells of ends where the footer begins.
pub record HasFooter (entry : disk.DiskEntry) (info : TableInfo) (footer : Footer) : Type 0 where
  pub file : IsFile entry
  pub len : length (bytes_in entry) ≡ info.file_len
  pub fits : length (bytes_in entry) < 2 ^ 64
  pub whole : footer.index_offset + footer.index_len + 36 ≡ info.file_len
  pub count : footer.entry_count ≡ info.entry_count
  pub text : drop (footer.index_offset + footer.index_len) (bytes_in entry) ≡ footer_text footer.index_offset footer.index_len footer.entry_count

-- no bytes with so many before these, which are as many as a footer has, have an index and this count of entries
abbrev pub EndsNoTable : List ℕ → ℕ → ℕ → Type 0
EndsNoTable end index_end count = length end ≡ 36 → (front : List ℕ) (handles : List Handle) → length front ≡ index_end → HasIndex (front ++ end) handles count → ⊥

-- ---- a block of a file

-- the block where a handle says has these entries, and begins with the handle's key
abbrev pub HoldsBlock : disk.DiskEntry → List Entry → Handle → Type 0
HoldsBlock entry vs h = IsBlockFrom h.first_key (part_at h (bytes_in entry)) vs

-- no block that begins with the handle's key stands there
abbrev pub HoldsNoBlock : disk.DiskEntry → Handle → Type 0
HoldsNoBlock entry h = IsNoBlockFrom h.first_key (part_at h (bytes_in entry))

-- ---- an opened table

-- its name, as the disk knows it
abbrev pub name_of : TableFile → Name
name_of t = string_bytes t.name

abbrev pub handles_in : TableFile → List Handle
handles_in t = map owned_handle t.index.handles.items

-- what stands at its name
abbrev pub file_of : Meaning → TableFile → disk.DiskEntry
file_of disk t = entry_at disk (name_of t)
