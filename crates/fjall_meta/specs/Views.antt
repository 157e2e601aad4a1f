-- What batches make of a keyspace, as versions and clears.
use Rattle.std.specs.Prelude.{ℕ, ◌==◌, ◌&&◌, if◌then◌else◌, List, [], ◌∷◌, map, filter}
use Rattle.std.specs.List.{flat_map, list_any}
use Rattle.fjall_journal.specs.declared.batch.ReadBatchItem.{ReadBatchItem}
use Rattle.fjall_journal.specs.Batches.{Shown}
use Rattle.fjall_meta.specs.Keyspaces.{Keyspaces}
use Rattle.fjall_table.specs.Blocks.{Entry}
use Rattle.fjall_meta.specs.Replays.{counts, value_of}

-- the version that an item makes of its key, under the number of its batch
abbrev pub entry_of : ℕ → ReadBatchItem → Entry
entry_of number item = record { key = item.key; number = number; value = value_of item.value_type item.value }

-- the versions that a batch makes of an id, in the items' order, where what it says of that id counts
abbrev pub entries_in : Keyspaces → ℕ → Shown → List Entry
entries_in s id b = if counts s b.number id then map (entry_of b.number) (filter (λ item. item.keyspace_id == id) b.items) else []

-- its clear of an id, where there is one that counts
abbrev pub clear_in : Keyspaces → ℕ → Shown → List ℕ
clear_in s id b = if counts s b.number id && list_any (λ k. k == id) b.clears then b.number ∷ [] else []

-- the versions of an id, batch upon batch
abbrev pub versions_of : Keyspaces → ℕ → List Shown → List Entry
versions_of s id batches = flat_map (entries_in s id) batches

-- the clears of an id, batch upon batch
abbrev pub clears_of : Keyspaces → ℕ → List Shown → List ℕ
clears_of s id batches = flat_map (clear_in s id) batches
