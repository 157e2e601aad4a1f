-- Opened tables some of whose blocks are kept in memory, and what they read on a disk.
use Rattle.std.specs.Prelude.{◌≡◌, ℕ, ◌+◌, ◌-◌, ◌*◌, ◌<◌, ◌≤◌, ◌^◌, Bool, IsTrue, List, [], ◌∷◌, Option, Some, None, length, map, min, set, slice_get, unwrap_or}
use Rattle.std.specs.List.{sum_by}
use Rattle.fjall_base.specs.Disk as disk
use Rattle.fjall_base.specs.Disk.{IsFile, Name, Meaning, Took}
use Rattle.fjall_base.specs.Pairs.{Bytes}
use Rattle.fjall_table.specs.declared.table_info.TableInfo.{TableInfo}
use Rattle.fjall_table.specs.Blocks.{Entry, block_text}
use Rattle.fjall_table.specs.Tables.{Handle, entries_of, handles_of, AreBlocks, Ascend, HasIndex}
use Rattle.fjall_table.specs.TableReading.{blocks_below, blocks_up_to}
use Rattle.fjall_table_reader.specs.Files.{AllServed, HoldsBlock, HoldsNoBlock, bytes_in, entry_at}

-- a table by its name and by what its record and its index say, and the entries of each block that is kept: of the recent
-- ones, which were used since the last ageing, and of the older ones
pub record Reader : Type 0 where
  pub name : Name
  pub info : TableInfo
  pub handles : List Handle
  pub recent : List (Option (List Entry))
  pub older : List (Option (List Entry))

-- no block of these is kept
abbrev pub none_kept : List Handle → List (Option (List Entry))
none_kept handles = map (λ h. None) handles

-- the reader of a table with no block kept
abbrev pub unread : Name → TableInfo → List Handle → Reader
unread name info handles = record { name = name; info = info; handles = handles; recent = none_kept handles; older = none_kept handles }

-- the same with this block among the recent ones
abbrev pub keeping : ℕ → List Entry → Reader → Reader
keeping at block t = record { name = t.name; info = t.info; handles = t.handles; recent = set t.recent at (Some block); older = t.older }

-- the same with what is kept among the older ones at a place among the recent ones
abbrev pub renewing : ℕ → Reader → Reader
renewing at t = record { name = t.name; info = t.info; handles = t.handles; recent = set t.recent at (unwrap_or (slice_get t.older at) None); older = set t.older at None }

-- the same with no older block, and those that are recent older
abbrev pub aged : Reader → Reader
aged t = record { name = t.name; info = t.info; handles = t.handles; recent = none_kept t.handles; older = t.recent }

-- a block is among the recent ones at that place
abbrev pub IsRecent : ℕ → Reader → Type 0
IsRecent at t = (vs : List Entry) × (slice_get t.recent at ≡ Some (Some vs))

-- There are two places for each block, and the index's keys ascend.
pub record IsReader (t : Reader) : Type 0 where
  pub recent : length t.recent ≡ length t.handles
  pub older : length t.older ≡ length t.handles
  pub ascend : Ascend t.handles

-- for how many bytes of memory a block counts: those of its text, and 40 for each entry
abbrev pub block_size : List Entry → ℕ
block_size entries = length (block_text entries) + 40 * length entries

-- the same of a place that may keep none
abbrev pub size_at : Option (List Entry) → ℕ
size_at None = 0
size_at (Some entries) = block_size entries

-- for how many bytes a reader's recent blocks count
abbrev pub recent_size : Reader → ℕ
recent_size t = sum_by size_at t.recent

-- for how many bytes all blocks count that a reader keeps
abbrev pub kept_size : Reader → ℕ
kept_size t = recent_size t + sum_by size_at t.older

-- It is a reader, and these counts are of its recent blocks and of all that it keeps: the greatest u64 where that is too
-- small.
pub record IsCountedReader (recent_bytes kept_bytes : ℕ) (t : Reader) : Type 0 where
  pub reader : IsReader t
  pub recent : recent_bytes ≡ min (recent_size t) (2 ^ 64 - 1)
  pub bytes : kept_bytes ≡ min (kept_size t) (2 ^ 64 - 1)

-- A table's file some of whose blocks may be wrong: its length, its footer and its index are those of the table that has
-- these blocks, and where a right block stands it is the table's.
pub record IsTableBut (entry : disk.DiskEntry) (info : TableInfo) (blocks : List (List Entry)) : Type 0 where
  pub file : IsFile entry
  pub len : length (bytes_in entry) ≡ info.file_len
  pub are : AreBlocks blocks
  pub count : info.entry_count ≡ length (entries_of blocks)
  pub index : HasIndex (bytes_in entry) (handles_of 0 blocks) info.entry_count
  pub right : (at : ℕ) (h : Handle) (block vs : List Entry) → slice_get (handles_of 0 blocks) at ≡ Some h → slice_get blocks at ≡ Some block → HoldsBlock entry vs h → vs ≡ block

-- each block that is kept at a place is the table's block there
abbrev pub AreOf : List (List Entry) → List (Option (List Entry)) → Type 0
AreOf blocks kept = (at : ℕ) (vs : List Entry) → slice_get kept at ≡ Some (Some vs) → slice_get blocks at ≡ Some vs

-- On this disk the reader reads the table that has these blocks: its file is that table but for wrong blocks, its index is
-- the table's, and each block that is kept is the table's.
pub record ReadsBlocks (disk : Meaning) (t : Reader) (blocks : List (List Entry)) : Type 0 where
  pub table : IsTableBut (entry_at disk t.name) t.info blocks
  pub index : t.handles ≡ handles_of 0 blocks
  pub kept : AreOf blocks t.recent × AreOf blocks t.older

-- On this disk the reader reads the table of these entries.
pub record Reads (disk : Meaning) (t : Reader) (entries : List Entry) : Type 0 where
  pub blocks : List (List Entry)
  pub all : entries ≡ entries_of blocks
  pub reads : ReadsBlocks disk t blocks

-- A call that only looks at a disk: an honest one went on by no step and served it, and no count of faults falls.
pub record LooksOn (honest : Bool) (old new : Meaning) : Type 0 where
  pub same : IsTrue honest → Took old new []
  pub served : IsTrue honest → AllServed old new
  pub later : old.faults ≤ new.faults

-- The same table, whatever is kept of it.
pub record IsSameTable (old new : Reader) : Type 0 where
  pub name : new.name ≡ old.name
  pub info : new.info ≡ old.info
  pub handles : new.handles ≡ old.handles

-- where some block of these should stand, none stands that begins with the handle's key
abbrev pub HoldsAWrongBlock : disk.DiskEntry → List Handle → Type 0
HoldsAWrongBlock entry handles = (at : ℕ) × (h : Handle) × (slice_get handles at ≡ Some h) × HoldsNoBlock entry h

-- Where some block should stand that may hold the key, none stands that begins with the handle's key.
pub record HoldsAWrongBlockFor (key : Bytes) (entry : disk.DiskEntry) (handles : List Handle) : Type 0 where
  pub at : ℕ
  pub handle : Handle
  pub here : slice_get handles at ≡ Some handle
  pub from : blocks_below key handles - 1 ≤ at
  pub to : at < blocks_up_to key handles
  pub wrong : HoldsNoBlock entry handle

-- ---- several tables

-- On this disk each reader reads the table of the entries at its place.
abbrev pub AreRead : Meaning → List Reader → List (List Entry) → Type 0
AreRead disk [] [] = Unit {0}
AreRead disk [] (es ∷ entries) = ⊥
AreRead disk (t ∷ tables) [] = ⊥
AreRead disk (t ∷ tables) (es ∷ entries) = Reads disk t es × AreRead disk tables entries

-- The same tables, whatever is kept of them.
abbrev pub AreSameTables : List Reader → List Reader → Type 0
AreSameTables [] [] = Unit {0}
AreSameTables [] (t ∷ new) = ⊥
AreSameTables (t ∷ old) [] = ⊥
AreSameTables (t ∷ old) (u ∷ new) = IsSameTable t u × AreSameTables old new

-- some table has a wrong block, or none, where one of its blocks should stand
abbrev pub SomeTableIsWrong : Meaning → List Reader → Type 0
SomeTableIsWrong disk tables = (at : ℕ) × (t : Reader) × (slice_get tables at ≡ Some t) × HoldsAWrongBlock (entry_at disk t.name) t.handles

-- some table has a wrong block, or none, where one of its blocks should stand that may hold the key
abbrev pub SomeTableIsWrongFor : Bytes → Meaning → List Reader → Type 0
SomeTableIsWrongFor key disk tables = (at : ℕ) × (t : Reader) × (slice_get tables at ≡ Some t) × HoldsAWrongBlockFor key (entry_at disk t.name) t.handles

-- for how many bytes all blocks count that the tables' readers keep
abbrev pub kept_sizes : List Reader → ℕ
kept_sizes tables = sum_by kept_size tables

-- for how many bytes all recent blocks of the tables' readers count
abbrev pub recent_sizes : List Reader → ℕ
recent_sizes tables = sum_by recent_size tables

-- the tables with no older block, and those that are recent older
abbrev pub all_aged : List Reader → List Reader
all_aged tables = map aged tables

-- the tables with no block kept
abbrev pub all_unread : List Reader → List Reader
all_unread tables = map (λ t. unread t.name t.info t.handles) tables
