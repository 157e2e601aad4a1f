-- What batches make of trees, step by step.
use Rattle.std.specs.Prelude.{ℕ, Bool, List, [], ◌∷◌, if◌then◌else◌}
use Rattle.fjall_journal.specs.declared.batch.ReadBatchItem.{ReadBatchItem}
use Rattle.fjall_journal.specs.Batches.{Shown}
use Rattle.fjall_meta.specs.Views.{entry_of}
use Rattle.fjall_tree.specs.Puts.{emptied_once, put}
use Rattle.fjall_trees.specs.Forests.{Forest, altered_at}

-- the trees after an item of a batch of that number, where its id passes the test
abbrev pub with_item : (ℕ → Bool) → ℕ → ReadBatchItem → Forest → Forest
with_item counted number item trees = if counted item.keyspace_id then altered_at item.keyspace_id (put (entry_of number item)) trees else trees

-- and after all items, which come from the last to the first: of a key the last one counts
abbrev pub with_items : (ℕ → Bool) → ℕ → List ReadBatchItem → Forest → Forest
with_items counted number [] trees = trees
with_items counted number (item ∷ items) trees = with_item counted number item (with_items counted number items trees)

-- the trees after clears of these ids, as far as they pass the test
abbrev pub with_clears : (ℕ → Bool) → ℕ → List ℕ → Forest → Forest
with_clears counted number [] trees = trees
with_clears counted number (id ∷ ids) trees =
    with_clears counted number ids (if counted id then altered_at id (emptied_once number) trees else trees)

-- the trees after a batch: its clears, and then its items
abbrev pub with_batch : (ℕ → Bool) → Shown → Forest → Forest
with_batch counted b trees = with_items counted b.number b.items (with_clears counted b.number b.clears trees)

-- and after all of these, where each counts for the ids that pass the test of its number
abbrev pub with_batches : (ℕ → ℕ → Bool) → List Shown → Forest → Forest
with_batches counted [] trees = trees
with_batches counted (b ∷ batches) trees = with_batches counted batches (with_batch (counted b.number) b trees)
