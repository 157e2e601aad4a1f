-- Writers of tables.
use Rattle.std.specs.Prelude.{◌≡◌, ℕ, zero, suc, ◌<◌, ◌≤◌, ◌^◌, List, [], ◌∷◌, ◌++◌, length, Option, Some, None, IfSome}
use Rattle.std.specs.List.{flat_map, AllByRecursion}
use Rattle.fjall_base.specs.Fields.{◌>>=◌}
use Rattle.fjall_table.specs.Reading.{frame_at}
use Rattle.fjall_base.specs.Lists.{last_of}
use Rattle.fjall_table.specs.Blocks.{Entry, entry_at, payload_of, IsEntry, IsBefore, IsOrdered, IsBlock}
use Rattle.fjall_table.specs.Tables.{entries_of, data_text, handle_text, handles_of}

-- an entry stands behind all others
abbrev pub FollowsEntries : List Entry → Entry → Type 0
FollowsEntries entries entry = IfSome (last_of entries) (λ last. IsBefore last entry)

-- ---- inside a writer: the entries that stand in its bytes, and what holds of them

-- what was found, and then more behind it
abbrev pub with_more : {A : Type 0} → Option (A × List ℕ) → (List ℕ → List A) → List A
with_more None more = []
with_more (Some found) more = found.0 ∷ more found.1

-- the items that stand one behind another, and at most so many
unfoldable pub items_in : {A : Type 0} → (List ℕ → Option (A × List ℕ)) → ℕ → List ℕ → List A
items_in item zero bytes = []
items_in item (suc n) bytes = with_more (item bytes) (items_in item n)

-- the entries of a payload
abbrev pub entries_in : List ℕ → List Entry
entries_in bytes = items_in entry_at (length bytes) bytes

abbrev pub block_at : List ℕ → Option (List Entry × List ℕ)
block_at bytes = do
  payload ← frame_at 8 bytes
  Some (entries_in payload.0, payload.1)

-- the blocks that stand one behind another
abbrev pub blocks_in : List ℕ → List (List Entry)
blocks_in bytes = items_in block_at (length bytes) bytes

-- The payload and the count are those of these entries, and none was added once the payload had 4,096 bytes.
pub record IsOpen (payload : List ℕ) (count : ℕ) (entries : List Entry) : Type 0 where
  pub text : payload ≡ payload_of entries
  pub number : count ≡ length entries
  pub each : AllByRecursion IsEntry entries
  pub closed : (front more : List Entry) → 0 < length more → entries ≡ front ++ more → length (payload_of front) < 4096

-- a block whose payload's length has room in the frame
abbrev pub IsBlockWritten : List Entry → Type 0
IsBlockWritten block = IsBlock block × (length (payload_of block) < 2 ^ 64)

-- The bytes, the payload of the index and the count are those of these blocks.
pub record AreClosed (bytes index : List ℕ) (count : ℕ) (blocks : List (List Entry)) : Type 0 where
  pub text : bytes ≡ data_text blocks
  pub index_is : index ≡ flat_map handle_text (handles_of 0 blocks)
  pub number : count ≡ length (entries_of blocks)
  pub each : AllByRecursion IsBlockWritten blocks

-- each block has the size at which it is closed
abbrev pub HaveReached : List (List Entry) → Type 0
HaveReached blocks = AllByRecursion (λ block. 4096 ≤ length (payload_of block)) blocks

-- the key and the number of the last entry, and no number where there is none
abbrev pub IsLast : List ℕ → Option ℕ → Option Entry → Type 0
IsLast key (Some number) (Some entry) = (key ≡ entry.key) × (number ≡ entry.number)
IsLast key None None = Unit {0}
IsLast key number entry = ⊥

-- All entries are in order, this is the last of them, and each closed block is full.
pub record IsSoFar (key : List ℕ) (number : Option ℕ) (closed : List (List Entry)) (open_block : List Entry) : Type 0 where
  pub last : IsLast key number (last_of (entries_of closed ++ open_block))
  pub ordered : IsOrdered (entries_of closed ++ open_block)
  pub full : HaveReached closed
