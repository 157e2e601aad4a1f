-- The changes that callers give, and which of them make a batch.
use Rattle.std.specs.Prelude.{◌≡◌, ◌<◌, None, [], ◌∷◌, length}
use Rattle.fjall_journal.specs.Changes.{Change, Emptied, Items}
use Rattle.fjall_journal.specs.Ops.{items_refusal, op_of}
use Rattle.fjall_changes.specs.declared.journaling.Change as given

-- the change that is meant
abbrev pub meant : given.Change → Change
meant (given.TheVariants.Items items) = Items items.now
meant (given.TheVariants.Item id key op) = Items ((id, key.now, op_of op) ∷ [])
meant (given.TheVariants.Emptied id) = Emptied id

-- a batch may have the items of the change
abbrev pub FitsBatch : Change → Type 0
FitsBatch (Items items) = items_refusal items ≡ None
FitsBatch (Emptied id) = Unit {0}

-- there is something that it changes: an item, or a keyspace
abbrev pub ChangesSome : Change → Type 0
ChangesSome (Items items) = 0 < length items
ChangesSome (Emptied id) = Unit {0}
