-- The index of a map by a field of its pairs.
use Rattle.std.specs.Prelude.{◌≡◌, ℕ, ◌+◌, Bool, count_by, if◌then◌else◌, is_some, nat_lt, length, take, drop, List, [], ◌∷◌, filter, map, Option, Some, None, Vec}
use Rattle.std.specs.declared.alloc.Global.{Global}
use Rattle.std.specs.Option.{option_eq, option_map}
use Rattle.std.specs.Str.{bytes_eq}
use Rattle.std.specs.FinMap.{empty, entries, insert, remove}
use Rattle.fjall_base.specs.Pairs.{Bytes, Pairs, lookup}
use Rattle.fjall_index_entries.specs.Entries.{entry}

-- what tells the field of a key and its value, where they have one
abbrev pub FieldOf : Type 0
FieldOf = Bytes → Bytes → Option Bytes

-- the bytes of a field, where there is one
abbrev pub bytes_of : Option (Vec ℕ Global) → Option Bytes
bytes_of field = option_map (λ bytes. bytes.items) field

-- the field of a key that has this value, or none
abbrev pub field_in : FieldOf → Bytes → Option Bytes → Option Bytes
field_in field key None = None
field_in field key (Some value) = field key value

-- an index with the entry of a key, where the key has a field
abbrev pub with_entry : Bytes → Option Bytes → Pairs → Pairs
with_entry key None index = index
with_entry key (Some field) index = insert index (entry field key) []

-- and without it
abbrev pub without_entry : Bytes → Option Bytes → Pairs → Pairs
without_entry key None index = index
without_entry key (Some field) index = remove index (entry field key)

-- the entries of these pairs
abbrev pub index_of_pairs : FieldOf → List (Bytes × Bytes) → Pairs
index_of_pairs field [] = empty
index_of_pairs field (pair ∷ pairs) = with_entry pair.0 (field pair.0 pair.1) (index_of_pairs field pairs)

-- The index of a map: the entries of its pairs that have a field, each with an empty value.
abbrev pub index_of : FieldOf → Pairs → Pairs
index_of field pairs = index_of_pairs field (entries pairs)

-- these bytes are the entry of a pair of the map
pub record IsEntry (field : FieldOf) (pairs : Pairs) (bytes : Bytes) : Type 0 where
  pub key : Bytes
  pub value : Bytes
  pub its_field : Bytes
  pub stands : lookup pairs key ≡ Some value
  pub has : field key value ≡ Some its_field
  pub spelled : bytes ≡ entry its_field key

-- whether a pair has this field
abbrev pub has_field : FieldOf → Bytes → Bytes × Bytes → Bool
has_field field wanted pair = option_eq bytes_eq (field pair.0 pair.1) (Some wanted)

-- the pairs of a map that have this field, in the order of their keys
abbrev pub found_in : FieldOf → Bytes → Pairs → List (Bytes × Bytes)
found_in field wanted pairs = filter (has_field field wanted) (entries pairs)

-- how many pairs of a map have a field
abbrev pub count_in : FieldOf → Pairs → ℕ
count_in field pairs = count_by (λ pair. is_some (field pair.0 pair.1)) (entries pairs)

-- what an index has for these pairs, which have this field
abbrev pub entries_of : Bytes → List (Bytes × Bytes) → List (Bytes × Bytes)
entries_of wanted pairs = map (λ pair. (entry wanted pair.0, [])) pairs

-- so many bytes of a value from a place on; none where it is shorter
abbrev pub slot_field : ℕ → ℕ → Bytes → Option Bytes
slot_field at len value = if nat_lt (length value) (at + len) then None else Some (take len (drop at value))
