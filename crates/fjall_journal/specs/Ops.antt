-- What writes do to their keys, and the batches of them.
use Rattle.std.specs.Prelude.{◌≡◌, ℕ, ◌==◌, ◌^◌, Bool, Err, MatchOption, Result, List, [], Option, Some, None, if◌then◌else◌, length, map, nat_le}
use Rattle.std.specs.List.{list_any}
use Rattle.fjall_base.specs.Disk.{HasCause, Meaning}
use Rattle.fjall_base.specs.Pairs.{Bytes}
use Rattle.fjall_base.specs.Store.{Command, Item, Write}
use Rattle.fjall_base.specs.declared.error.Error.{Error}
use Rattle.fjall_base.specs.declared.error.Error.TheVariants.{KeyEmpty, KeyTooLong, TooManyItems, ValueTooLong}
use Rattle.fjall_base.specs.declared.error.CompressionType.TheVariants as compressions
use Rattle.fjall_journal.specs.declared.entry.Entry.{Entry}
use Rattle.fjall_journal.specs.declared.entry.Entry.TheVariants as entries
use Rattle.fjall_journal.specs.declared.entry.ValueType.{ValueType}
use Rattle.fjall_journal.specs.declared.entry.ValueType.TheVariants as kinds
pub use Rattle.fjall_journal.specs.declared.op.Op.{Op}
use Rattle.fjall_journal.specs.declared.op.Op.TheVariants.{Put, Remove, RemoveWeak}
use Rattle.fjall_journal.specs.declared.op.OpRef.{OpRef}
use Rattle.fjall_journal.specs.declared.op.OpRef.TheVariants as lent
use Rattle.fjall_journal.specs.Batches.{Written, batch_text}

-- the value that the key has afterwards
abbrev pub value_in : Op → Option Bytes
value_in (Put value) = Some value
value_in Remove = None
value_in RemoveWeak = None

-- the value's bytes in the journal, none for a removal
abbrev pub bytes_in : Op → Bytes
bytes_in (Put value) = value
bytes_in Remove = []
bytes_in RemoveWeak = []

-- the type of the item in the journal
abbrev pub kind_of : Op → ValueType
kind_of (Put value) = kinds.Value
kind_of Remove = kinds.Tombstone
kind_of RemoveWeak = kinds.WeakTombstone

-- what a lent one does
abbrev pub op_of : OpRef → Op
op_of (lent.Put value) = Put value.now
op_of lent.Remove = Remove
op_of lent.RemoveWeak = RemoveWeak

-- an item of a batch: the keyspace, the key, and what becomes of it
abbrev pub BatchItem : Type 0
BatchItem = ℕ × Bytes × Op

-- the command that writes it
abbrev pub item_in : BatchItem → Item
item_in item = record { id = item.0; key = item.1; value = value_in item.2 }

-- one command of all of them, in their order
abbrev pub write_of : List BatchItem → Command
write_of items = Write (map item_in items)

-- its entry in the journal
abbrev pub entry_of_item : BatchItem → Entry
entry_of_item item = entries.Item item.0 item.1 (bytes_in item.2) (kind_of item.2) compressions.None

-- the batch of these items under a number
abbrev pub of_items : List BatchItem → ℕ → Written
of_items items number = record { number = number; changes = map entry_of_item items }

abbrev pub items_text : List BatchItem → ℕ → List ℕ
items_text items number = batch_text (of_items items number)

-- ---- what no batch has

abbrev pub some_key_empty : List BatchItem → Bool
some_key_empty items = list_any (λ item. length item.1 == 0) items

-- keys have at most 65,535 bytes
abbrev pub some_key_too_long : List BatchItem → Bool
some_key_too_long items = list_any (λ item. nat_le (2 ^ 16) (length item.1)) items

-- and values at most 4,294,967,295
abbrev pub some_value_too_long : List BatchItem → Bool
some_value_too_long items = list_any (λ item. nat_le (2 ^ 32) (length (bytes_in item.2))) items

-- a batch has at most 4,294,967,295 items
abbrev pub are_too_many : List BatchItem → Bool
are_too_many items = nat_le (2 ^ 32) (length items)

-- why no batch has these items, cause by cause over all of them
abbrev pub items_refusal : List BatchItem → Option Error
items_refusal items =
    if some_key_empty items then Some KeyEmpty else (
    if some_key_too_long items then Some KeyTooLong else (
    if some_value_too_long items then Some ValueTooLong else (
    if are_too_many items then Some TooManyItems else None)))

-- Why a batch is refused: items that no batch has, before all else, or a fault of the disk or want of memory.
abbrev pub HasBatchCause : {T : Type 0} → List BatchItem → Meaning → Meaning → Result T Error → Type 0
HasBatchCause items old new result = MatchOption (items_refusal items) (HasCause old new result) (λ e. (result ≡ Err e) × (new ≡ old))
