-- What commands do to keys, and the batches that say it in a journal.
use Rattle.std.specs.Prelude.{ℕ, List, [], ◌∷◌, map}
use Rattle.fjall_base.specs.Store.{Command}
use Rattle.fjall_base.specs.Store as store
use Rattle.fjall_journal.specs.declared.entry.Entry.{Entry}
use Rattle.fjall_journal.specs.declared.entry.Entry.TheVariants as entries
use Rattle.fjall_journal.specs.Batches.{Written, batch_text}
use Rattle.fjall_journal.specs.Ops.{BatchItem, entry_of_item, write_of}

-- What one command does to keys: items of keyspaces, or one keyspace emptied.
pub data Change : Type 0 where
  Items : (items : List BatchItem) → Change
  Emptied : (id : ℕ) → Change

-- the command
abbrev pub command_of : Change → Command
command_of (Items items) = write_of items
command_of (Emptied id) = store.Clear id

-- its entries in the journal
abbrev pub entries_of_change : Change → List Entry
entries_of_change (Items items) = map entry_of_item items
entries_of_change (Emptied id) = entries.Clear id ∷ []

-- the batch of it under a number
abbrev pub of_change : Change → ℕ → Written
of_change change number = record { number = number; changes = entries_of_change change }

-- and the text of that batch
abbrev pub change_text : Change → ℕ → List ℕ
change_text change number = batch_text (of_change change number)
