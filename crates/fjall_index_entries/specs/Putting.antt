-- What is written where a key of the main keyspace gets a value, or loses it.
use Rattle.std.specs.Prelude.{ℕ, ◌^◌, ◌||◌, Bool, false, List, [], ◌∷◌, ◌++◌, Option, Some, None, if◌then◌else◌, length, nat_le}
use Rattle.std.specs.List.{flat_map}
use Rattle.std.specs.Option.{option_eq, option_map}
use Rattle.std.specs.Str.{bytes_eq}
use Rattle.fjall_base.specs.Pairs.{Bytes}
use Rattle.fjall_base.specs.Store.{Item}
use Rattle.fjall_index_entries.specs.Entries.{entry}
use Rattle.fjall_index_entries.specs.Index.{FieldOf, field_in}

-- a key of a keyspace gets this value, or none
abbrev pub item : ℕ → Bytes → Option Bytes → Item
item id key value = record { id = id; key = key; value = value }

-- the entry of a key with this field, where it has one
abbrev pub entry_in : Bytes → Option Bytes → Option Bytes
entry_in key field = option_map (λ f. entry f key) field

-- an entry, where there is one, gets this value, or none
abbrev pub entry_item : ℕ → Option Bytes → Option Bytes → List Item
entry_item index None value = []
entry_item index (Some bytes) value = item index bytes value ∷ []

-- it goes from the index
abbrev pub goes : ℕ → Option Bytes → List Item
goes index bytes = entry_item index bytes None

-- and comes to it, with an empty value
abbrev pub comes : ℕ → Option Bytes → List Item
comes index bytes = entry_item index bytes (Some [])

-- What is written to the index where the field of a key, or none, becomes another: nothing where it stays the same.
abbrev pub entry_items : ℕ → Bytes → Option Bytes → Option Bytes → List Item
entry_items index key was becomes =
    if option_eq bytes_eq was becomes then [] else (goes index (entry_in key was) ++ comes index (entry_in key becomes))

-- All that is written where the value of a key, or none, becomes another: that, and what it does to the index.
abbrev pub put_items : FieldOf → ℕ → ℕ → Bytes → Option Bytes → Option Bytes → List Item
put_items field main index key old new = item main key new ∷ entry_items index key (field_in field key old) (field_in field key new)

-- whether an entry, where there is one, is longer than a key may be: it has more than 65,535 bytes
abbrev pub is_long : Option Bytes → Bool
is_long None = false
is_long (Some bytes) = nat_le (2 ^ 16) (length bytes)

-- whether an entry that goes or comes is, where the field of a key, or none, becomes another
abbrev pub has_long_entry : Bytes → Option Bytes → Option Bytes → Bool
has_long_entry key was becomes = if option_eq bytes_eq was becomes then false else (is_long (entry_in key was) || is_long (entry_in key becomes))

-- Several changes, each a key with its new value or none; the old ones are as they were seen.
abbrev pub all_items : FieldOf → ℕ → ℕ → (Bytes → Option Bytes) → List (Bytes × Option Bytes) → List Item
all_items field main index seen changes = flat_map (λ change. put_items field main index change.0 (seen change.0) change.1) changes
