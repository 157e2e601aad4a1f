-- Reading a table: its footer, its index and its blocks.
use Rattle.std.specs.Prelude.{◌≡◌, ◌≢◌, ℕ, ◌+◌, ◌<◌, ◌≤◌, ◌^◌, List, [], ◌∷◌, length, take, drop, filter, Bool, true, false, nat_le, Option, Some, None, ◌&&◌, if◌then◌else◌}
use Rattle.std.specs.Str.{bytes_eq}
use Rattle.std.specs.Ordering.{is_lt, is_le}
use Rattle.std.specs.declared.cmp.Ordering.{Ordering}
use Rattle.std.specs.declared.cmp.Ordering.TheVariants.{Less, Equal, Greater}
use Rattle.fjall_base.specs.Pairs.{byte_order}
use Rattle.fjall_table.specs.declared.footer.Footer.{Footer}
use Rattle.fjall_table.specs.declared.index.BlockHandle.{BlockHandle}
use Rattle.fjall_table.specs.declared.table_info.TableInfo.{TableInfo}
use Rattle.fjall_base.specs.Check.{check}
use Rattle.fjall_base.specs.Fields.{◌>>=◌, number_at, bytes_at}
use Rattle.fjall_table.specs.Blocks.{Entry, block_text, IsBlock}
use Rattle.fjall_table.specs.Tables.{Handle, first_key, index_text, footer_text, IsTable, IsIndex, HasIndex}

abbrev pub handle_of : BlockHandle → Handle
handle_of h = record { offset = h.offset; len = h.len; first_key = h.first_key.now }

-- ---- the footer

-- no footer has these bytes
abbrev pub IsNoFooter : List ℕ → Type 0
IsNoFooter bytes = (offset len count : ℕ) → offset < 2 ^ 64 → len < 2 ^ 64 → count < 2 ^ 64 → bytes ≡ footer_text offset len count → ⊥

unfoldable pub footer_at : List ℕ → Option (Footer × List ℕ)
footer_at bytes = do
  magic ← bytes_at 4 bytes
  offset ← number_at 8 magic.1
  len ← number_at 8 offset.1
  count ← number_at 8 len.1
  sum ← bytes_at 8 count.1
  if bytes_eq magic.0 (70 ∷ 74 ∷ 84 ∷ 1 ∷ []) && bytes_eq sum.0 (check (take 28 bytes)) then Some (record { index_offset = offset.0; index_len = len.0; entry_count = count.0 }, sum.1) else None

-- ---- the index

unfoldable pub handle_at : List ℕ → Option (Handle × List ℕ)
handle_at bytes = do
  offset ← number_at 8 bytes
  len ← number_at 8 offset.1
  key_len ← number_at 2 len.1
  key ← bytes_at key_len.0 key_len.1
  Some (record { offset = offset.0; len = len.0; first_key = key.0 }, key.1)

-- what has a text
pub record IsHandle (h : Handle) : Type 0 where
  pub offset : h.offset < 2 ^ 64
  pub len : h.len < 2 ^ 64
  pub key : length h.first_key < 2 ^ 16

-- A block may stand behind others that end at an offset, the last of which has this first key, and end within some bytes.
pub record FollowsBlocks (last_key : List ℕ) (at : ℕ) (end : ℕ) (h : Handle) : Type 0 where
  pub offset : h.offset ≡ at
  pub within : at + h.len ≤ end
  pub some : 0 < length h.first_key
  pub ascends : byte_order last_key h.first_key ≢ Greater

-- no index over so many bytes of blocks has these bytes
abbrev pub IsNoIndex : List ℕ → ℕ → Type 0
IsNoIndex bytes data_len = (handles : List Handle) → IsIndex handles data_len → bytes ≡ index_text handles → ⊥

-- ---- a table's file

-- such a file, with as many entries, has no index
abbrev pub HasNoIndex : List ℕ → TableInfo → Type 0
HasNoIndex bytes info = (handles : List Handle) → length bytes ≡ info.file_len → HasIndex bytes handles info.entry_count → ⊥

-- what stands in a file where a handle says
abbrev pub part_at : Handle → List ℕ → List ℕ
part_at h bytes = take h.len (drop h.offset bytes)

-- The bytes are a block of these entries, the first of which has this key.
pub record IsBlockFrom (key : List ℕ) (bytes : List ℕ) (vs : List Entry) : Type 0 where
  pub is : IsBlock vs
  pub text : bytes ≡ block_text vs
  pub key_is : first_key vs ≡ key

-- no block that begins with this key has these bytes
abbrev pub IsNoBlockFrom : List ℕ → List ℕ → Type 0
IsNoBlockFrom key bytes = (vs : List Entry) → IsBlockFrom key bytes vs → ⊥

-- the block where a handle says has these entries, and begins with the handle's key
abbrev pub IsBlockOf : List ℕ → List Entry → BlockHandle → Type 0
IsBlockOf bytes vs h = IsBlockFrom h.first_key.now (part_at (handle_of h) bytes) vs

-- no block that begins with the handle's key stands there
abbrev pub IsNoBlockOf : List ℕ → BlockHandle → Type 0
IsNoBlockOf bytes h = IsNoBlockFrom h.first_key.now (part_at (handle_of h) bytes)

-- there are no entries of which the bytes are a table
abbrev pub IsNoTable : List ℕ → Type 0
IsNoTable bytes = (entries : List Entry) → IsTable bytes entries → ⊥

-- ---- looking up

-- how many blocks begin with a key below this one, and how many with one at most this one
abbrev pub blocks_below : List ℕ → List Handle → ℕ
blocks_below key handles = length (filter (λ h. is_lt (byte_order h.first_key key)) handles)

abbrev pub blocks_up_to : List ℕ → List Handle → ℕ
blocks_up_to key handles = length (filter (λ h. is_le (byte_order h.first_key key)) handles)

-- whether a version whose key compares so with a key stands before all those of that key that are numbered below an instant
abbrev pub is_ahead : Ordering → ℕ → ℕ → Bool
is_ahead Less number instant = true
is_ahead Equal number instant = nat_le instant number
is_ahead Greater number instant = false
