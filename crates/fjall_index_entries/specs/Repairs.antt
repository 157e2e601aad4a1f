-- What makes the index keyspace's map the index of the main keyspace's map, whatever stood there.
use Rattle.std.specs.Prelude.{◌≡◌, ◌≢◌, ◌⊎◌, ℕ, All, Bool, true, false, if◌then◌else◌, List, [], ◌∷◌, Option, None, Some}
use Rattle.std.specs.FinMap.{FinMap}
use Rattle.std.specs.List.{flat_map, list_any}
use Rattle.std.specs.Option.{option_eq}
use Rattle.std.specs.Ordering.{nat_cmp}
use Rattle.std.specs.Str.{bytes_eq}
use Rattle.fjall_base.specs.Pairs.{Bytes, Pairs, lookup}
use Rattle.fjall_base.specs.Store.{Item, map_at, written}
use Rattle.fjall_base.specs.declared.error.Error.{Error}
use Rattle.fjall_base.specs.declared.error.Error.TheVariants.{KeyTooLong}
use Rattle.fjall_reading.specs.Readers.{all_of}
use Rattle.fjall_index_entries.specs.Entries.{entry, key_behind}
use Rattle.fjall_index_entries.specs.Finding.{ReadsEither}
use Rattle.fjall_index_entries.specs.Index.{FieldOf, field_in, index_of}
use Rattle.fjall_index_entries.specs.Putting.{comes, goes, is_long}

-- ---- what an index is repaired by

-- Items that repair the index keyspace, whose map was `found`, over a main keyspace with these pairs.
pub record AreRepairs (field : FieldOf) (index : ℕ) (pairs found : Pairs) (items : List Item) : Type 0 where
  -- only the index keyspace is written
  pub alone : All (λ one. one.id ≡ index) items
  -- each item changes what stands there: no entry that stays is written
  pub needed : All (λ one. lookup found one.key ≢ one.value) items
  -- and what stood there becomes the index
  pub make : (maps : FinMap nat_cmp Pairs) → map_at maps index ≡ found → map_at (written maps items) index ≡ index_of field pairs

-- ---- the items, pair by pair

-- what is left, with the pair that was taken from it, or none where nothing was left
abbrev pub with_pair : Option (Bytes × Bytes) → List (Bytes × Bytes) → List (Bytes × Bytes)
with_pair None rest = []
with_pair (Some pair) rest = pair ∷ rest

-- whether these bytes are the entry of a key with this field, where it has one
abbrev pub is_spelled : Bytes → Bytes → Option Bytes → Bool
is_spelled bytes key None = false
is_spelled bytes key (Some field) = bytes_eq (entry field key) bytes

-- whether they are that of the key that stands behind them, where there is one, with its field in this map
abbrev pub has_behind : FieldOf → Pairs → Bytes → Option Bytes → Bool
has_behind field pairs bytes None = false
has_behind field pairs bytes (Some key) = is_spelled bytes key (field_in field key (lookup pairs key))

-- whether they are the entry of a pair of the map
abbrev pub is_entry_in : FieldOf → Pairs → Bytes → Bool
is_entry_in field pairs bytes = has_behind field pairs bytes (key_behind bytes)

-- these bytes, unless they are the entry of a pair
abbrev pub stale : FieldOf → Pairs → Bytes → Option Bytes
stale field pairs bytes = if is_entry_in field pairs bytes then None else Some bytes

-- what is stale of the keys of these pairs goes from the index keyspace
abbrev pub removals : FieldOf → ℕ → Pairs → List (Bytes × Bytes) → List Item
removals field index pairs stood = flat_map (λ pair. goes index (stale field pairs pair.0)) stood

-- the entry of a key with this field, where it has one, unless it stands in the index keyspace with an empty value
abbrev pub lacking : Pairs → Bytes → Option Bytes → Option Bytes
lacking found key None = None
lacking found key (Some field) = if option_eq bytes_eq (lookup found (entry field key)) (Some []) then None else Some (entry field key)

-- so that of a pair
abbrev pub lacking_of : FieldOf → Pairs → Bytes × Bytes → Option Bytes
lacking_of field found pair = lacking found pair.0 (field pair.0 pair.1)

-- what is lacking of each of these pairs comes
abbrev pub additions : FieldOf → ℕ → Pairs → List (Bytes × Bytes) → List Item
additions field index found pairs = flat_map (λ pair. comes index (lacking_of field found pair)) pairs

-- ---- how that is refused

-- whether one of these pairs lacks an entry that is longer than a key may be: it has more than 65,535 bytes
abbrev pub lacks_long : FieldOf → Pairs → List (Bytes × Bytes) → Bool
lacks_long field found pairs = list_any (λ pair. is_long (lacking_of field found pair)) pairs

-- It goes as reads of the two keyspaces do; or an entry is too long, as is told behind such reads that met nothing.
abbrev pub ReadsOrLong : {R : Type 0} → (R → ℕ → Option Error → R → Type 0) → Type 0 → R → ℕ → ℕ → Option Error → R → Type 0
ReadsOrLong reads IsLong old main index error new =
    ReadsEither reads old main index error new ⊎ ((error ≡ Some KeyTooLong) × ReadsEither reads old main index None new × IsLong)
