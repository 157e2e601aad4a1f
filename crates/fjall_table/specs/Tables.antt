-- Tables: data blocks one behind another, the index over them, and the footer.
use Rattle.std.specs.Prelude.{◌≡◌, ◌≢◌, ℕ, ◌+◌, ◌<◌, ◌≤◌, ◌^◌, List, [], ◌∷◌, ◌++◌, length, filter, ◌&&◌, nat_lt}
use Rattle.std.specs.List.{flat_map, AllByRecursion}
use Rattle.std.specs.Str.{bytes_eq}
use Rattle.std.specs.declared.cmp.Ordering.TheVariants.{Greater}
use Rattle.byteorder.specs.Endian.{little_bytes}
use Rattle.fjall_base.specs.Pairs.{KeyRange, byte_order, is_within}
use Rattle.fjall_table.specs.Frame.{framed, with_check}
use Rattle.fjall_table.specs.Blocks.{Entry, payload_of, block_text, IsOrdered, IsBlock}

-- where a framed block stands in the file, how long it is, and the key of its first entry
pub record Handle : Type 0 where
  pub offset : ℕ
  pub len : ℕ
  pub first_key : List ℕ

abbrev pub first_key : List Entry → List ℕ
first_key [] = []
first_key (e ∷ es) = e.key

-- all entries of blocks
abbrev pub entries_of : List (List Entry) → List Entry
entries_of blocks = flat_map (λ block. block) blocks

-- ---- as bytes

unfoldable pub handle_text : Handle → List ℕ
handle_text h = little_bytes 8 h.offset ++ (little_bytes 8 h.len ++ (little_bytes 2 (length h.first_key) ++ h.first_key))

-- the handles of blocks that stand from an offset on
abbrev pub handles_of : ℕ → List (List Entry) → List Handle
handles_of at [] = []
handles_of at (block ∷ blocks) =
    record { offset = at; len = length (block_text block); first_key = first_key block } ∷ handles_of (at + length (block_text block)) blocks

abbrev pub data_text : List (List Entry) → List ℕ
data_text blocks = flat_map block_text blocks

abbrev pub index_text : List Handle → List ℕ
index_text handles = framed 8 (flat_map handle_text handles)

-- where the index stands and how long it is, and how many entries there are: 36 bytes
unfoldable pub footer_text : ℕ → ℕ → ℕ → List ℕ
footer_text offset len count = with_check (70 ∷ 74 ∷ 84 ∷ 1 ∷ little_bytes 8 offset ++ (little_bytes 8 len ++ little_bytes 8 count))

-- the index and the footer, behind so many bytes of blocks
abbrev pub end_text : ℕ → List Handle → ℕ → List ℕ
end_text data_len handles count = index_text handles ++ footer_text data_len (length (index_text handles)) count

abbrev pub table_text : List (List Entry) → List ℕ
table_text blocks = data_text blocks ++ end_text (length (data_text blocks)) (handles_of 0 blocks) (length (entries_of blocks))

-- ---- which are tables

-- each block but the last has reached the size at which it is closed
abbrev pub AreFull : List (List Entry) → Type 0
AreFull [] = Unit {0}
AreFull (block ∷ []) = Unit {0}
AreFull (block ∷ next ∷ blocks) = (4096 ≤ length (payload_of block)) × AreFull (next ∷ blocks)

-- The blocks of a table: each is one, all but the last are full, and all their entries together are in order.
pub record AreBlocks (blocks : List (List Entry)) : Type 0 where
  pub some : 0 < length blocks
  pub each : AllByRecursion IsBlock blocks
  pub full : AreFull blocks
  pub ordered : IsOrdered (entries_of blocks)

-- The bytes are a table of these entries.
pub record IsTable (bytes : List ℕ) (entries : List Entry) : Type 0 where
  pub blocks : List (List Entry)
  pub are : AreBlocks blocks
  pub all : entries ≡ entries_of blocks
  pub text : bytes ≡ table_text blocks
  pub fits : length bytes < 2 ^ 64

-- ---- footer and index

-- the blocks stand one behind another, from an offset to an end
abbrev pub Cover : ℕ → ℕ → List Handle → Type 0
Cover at end [] = at ≡ end
Cover at end (h ∷ handles) = (h.offset ≡ at) × Cover (at + h.len) end handles

-- no first key is above the next one
abbrev pub Ascend : List Handle → Type 0
Ascend [] = Unit {0}
Ascend (h ∷ []) = Unit {0}
Ascend (h ∷ next ∷ handles) = (byte_order h.first_key next.first_key ≢ Greater) × Ascend (next ∷ handles)

-- an index over so many bytes of blocks
pub record IsIndex (handles : List Handle) (data_len : ℕ) : Type 0 where
  pub some : 0 < length handles
  pub keys : AllByRecursion (λ h. (0 < length h.first_key) × (length h.first_key < 2 ^ 16)) handles
  pub cover : Cover 0 data_len handles
  pub ascend : Ascend handles

-- The bytes end with an index of these handles over the bytes before it, and with the footer that says so and tells this
-- count of entries.
pub record HasIndex (bytes : List ℕ) (handles : List Handle) (count : ℕ) : Type 0 where
  pub front : List ℕ
  pub text : bytes ≡ front ++ end_text (length front) handles count
  pub index : IsIndex handles (length front)
  pub fits : length bytes < 2 ^ 64
  pub number : count < 2 ^ 64

-- ---- what is asked of a table

-- the versions of a key that a view at an instant is made of: those numbered below it, the newest first
abbrev pub versions_at : List ℕ → ℕ → List Entry → List Entry
versions_at key instant entries = filter (λ e. bytes_eq e.key key && nat_lt e.number instant) entries

-- the entries whose keys lie between the bounds
abbrev pub entries_within : KeyRange → List Entry → List Entry
entries_within range entries = filter (λ e. is_within range e.key) entries
