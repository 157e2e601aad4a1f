-- Batches: their texts, the whole ones at the front of a journal, and what stands behind these.
use Rattle.std.specs.Prelude.{◌⊎◌, ◌≡◌, ◌≢◌, ℕ, ◌<◌, ◌≤◌, ◌^◌, List, [], ◌∷◌, ◌++◌, length, take, drop}
use Rattle.std.specs.List.{flat_map, AllByRecursion}
use Rattle.fjall_base.specs.Check.{check}
use Rattle.fjall_journal.specs.declared.entry.Entry.{Entry}
use Rattle.fjall_journal.specs.declared.entry.Entry.TheVariants.{Start, Item, End, Clear}
use Rattle.fjall_base.specs.declared.error.JournalRecoveryError.TheVariants.{InsufficientLength, TooManyItems, ChecksumMismatch, InvalidFileName, TornTail}
use Rattle.fjall_journal.specs.declared.batch.Tail.{Tail}
use Rattle.fjall_journal.specs.declared.batch.Tail.TheVariants.{Clean, Torn, Damaged}
use Rattle.fjall_journal.specs.declared.batch.ReadBatchItem.{ReadBatchItem}
use Rattle.fjall_journal.specs.declared.batch.Batch.{Batch}
use Rattle.fjall_journal.specs.declared.entry.ValueType.{ValueType}
use Rattle.fjall_base.specs.declared.error.CompressionType.TheVariants as compressions
use Rattle.fjall_journal.specs.Spelling.{spelling, HasSpelling}

-- a batch as it was written: its number, and its items and clears in their order
pub record Written : Type 0 where
  pub number : ℕ
  pub changes : List Entry

-- an item or a clear that has a spelling
abbrev pub IsChange : Entry → Type 0
IsChange (Start count number) = ⊥
IsChange (Item id key value kind compression) = HasSpelling (Item id key value kind compression)
IsChange (End found) = ⊥
IsChange (Clear id) = HasSpelling (Clear id)

-- a Start of this count and number, and then these changes
abbrev pub begun : ℕ → ℕ → List Entry → List ℕ
begun count number changes = spelling (Start count number) ++ flat_map spelling changes

-- what the check of a batch is of
abbrev pub checked : Written → List ℕ
checked b = begun (length b.changes) b.number b.changes

-- a Start that counts them, the changes, and an End with the right check
abbrev pub batch_text : Written → List ℕ
batch_text b = checked b ++ spelling (End (check (checked b)))

pub record IsWritten (b : Written) : Type 0 where
  pub number : b.number < 2 ^ 64
  pub count : length b.changes < 2 ^ 32
  pub each : AllByRecursion IsChange b.changes

-- no batch stands at the front
abbrev pub NoneAt : List ℕ → Type 0
NoneAt bytes = (b : Written) (more : List ℕ) → IsWritten b → bytes ≡ batch_text b ++ more → ⊥

-- These batches stand whole at the front, up to end, and no batch stands there.
pub record IsWhole (text : List ℕ) (batches : List Written) (end : ℕ) : Type 0 where
  pub within : end ≤ length text
  pub texts : take end text ≡ flat_map batch_text batches
  pub each : AllByRecursion IsWritten batches
  pub last : NoneAt (drop end text)

-- The text is that of these batches: they stand whole, up to its end.
abbrev pub IsAll : List ℕ → List Written → Type 0
IsAll text batches = IsWhole text batches (length text)

-- An End comes before all of the changes.
pub record EndsEarly (bytes : List ℕ) : Type 0 where
  pub count : ℕ
  pub number : ℕ
  pub changes : List Entry
  pub found : List ℕ
  pub more : List ℕ
  pub start : HasSpelling (Start count number)
  pub each : AllByRecursion IsChange changes
  pub fewer : length changes < count
  pub end : HasSpelling (End found)
  pub text : bytes ≡ begun count number changes ++ (spelling (End found) ++ more)

-- One more change comes where the End is wanted.
pub record HasChangeForEnd (bytes : List ℕ) : Type 0 where
  pub number : ℕ
  pub changes : List Entry
  pub another : Entry
  pub more : List ℕ
  pub start : HasSpelling (Start (length changes) number)
  pub each : AllByRecursion IsChange changes
  pub change : IsChange another
  pub text : bytes ≡ begun (length changes) number changes ++ (spelling another ++ more)

-- The End has another check.
pub record HasOtherCheck (bytes : List ℕ) : Type 0 where
  pub batch : Written
  pub found : List ℕ
  pub more : List ℕ
  pub is_written : IsWritten batch
  pub end : HasSpelling (End found)
  pub other : found ≢ check (checked batch)
  pub text : bytes ≡ checked batch ++ (spelling (End found) ++ more)

-- the tail is what stands behind the whole batches
abbrev pub IsTail : List ℕ → Tail → Type 0
IsTail bytes Clean = bytes ≡ []
IsTail bytes (Damaged InsufficientLength) = EndsEarly bytes
IsTail bytes (Damaged TooManyItems) = HasChangeForEnd bytes
IsTail bytes (Damaged ChecksumMismatch) = HasOtherCheck bytes
IsTail bytes (Damaged InvalidFileName) = ⊥
IsTail bytes (Damaged TornTail) = ⊥
-- all else
IsTail bytes Torn = (bytes ≢ []) × (EndsEarly bytes → ⊥) × (HasChangeForEnd bytes → ⊥) × (HasOtherCheck bytes → ⊥)

-- ---- what a reader shows of a batch: items and clears apart

pub record Shown : Type 0 where
  pub number : ℕ
  pub items : List ReadBatchItem
  pub clears : List ℕ

abbrev pub items_of : List Entry → List ReadBatchItem
items_of [] = []
items_of (Start count number ∷ changes) = items_of changes
items_of (Item id key value kind compression ∷ changes) = record { keyspace_id = id; key = key; value = value; value_type = kind } ∷ items_of changes
items_of (End found ∷ changes) = items_of changes
items_of (Clear id ∷ changes) = items_of changes

abbrev pub clears_of : List Entry → List ℕ
clears_of [] = []
clears_of (Start count number ∷ changes) = clears_of changes
clears_of (Item id key value kind compression ∷ changes) = clears_of changes
clears_of (End found ∷ changes) = clears_of changes
clears_of (Clear id ∷ changes) = id ∷ clears_of changes

abbrev pub shown : Written → Shown
shown b = record { number = b.number; items = items_of b.changes; clears = clears_of b.changes }

abbrev pub view : Batch → Shown
view b = record { number = b.seqno; items = b.items.items; clears = b.cleared_keyspaces.items }

-- ---- what a writer writes

-- the batch of one item
abbrev pub of_item : ℕ → List ℕ → List ℕ → ValueType → ℕ → Written
of_item id key value kind number = record { number = number; changes = Item id key value kind compressions.None ∷ [] }

abbrev pub item_text : ℕ → List ℕ → List ℕ → ValueType → ℕ → List ℕ
item_text id key value kind number = batch_text (of_item id key value kind number)

-- ---- a text that is cut

-- the text reads as the first of the batches, and no damage stands behind them
pub record KeptBatches (batches : List Written) (text : List ℕ) : Type 0 where
  pub kept : List Written
  pub gone : List Written
  pub all : kept ++ gone ≡ batches
  pub whole : IsWhole text kept (length (flat_map batch_text kept))
  pub tail : IsTail (drop (length (flat_map batch_text kept)) text) Clean ⊎ IsTail (drop (length (flat_map batch_text kept)) text) Torn
