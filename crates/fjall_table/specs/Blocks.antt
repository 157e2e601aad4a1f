-- Versions of keys, and the data blocks of a table.
use Rattle.std.specs.Prelude.{◌≡◌, ℕ, ◌<◌, ◌^◌, List, [], ◌∷◌, ◌++◌, length, Option, Some, None, ◌==◌, if◌then◌else◌}
use Rattle.std.specs.Option.{option_map}
use Rattle.std.specs.List.{flat_map, AllByRecursion}
use Rattle.std.specs.declared.cmp.Ordering.{Ordering}
use Rattle.std.specs.declared.cmp.Ordering.TheVariants.{Less, Equal, Greater}
use Rattle.byteorder.specs.Endian.{little_bytes}
use Rattle.fjall_base.specs.Pairs.{byte_order}
use Rattle.fjall_base.specs.declared.error.Error.{Error}
use Rattle.fjall_base.specs.Limits.{item_refusal}
use Rattle.fjall_table.specs.declared.table_entry.TableEntry.{TableEntry}
use Rattle.fjall_table.specs.Frame.{framed}
use Rattle.fjall_base.specs.Fields.{◌>>=◌, byte_at, number_at, bytes_at}

-- what the change of that number made of a key: a value, or none where it removed it
pub record Entry : Type 0 where
  pub key : List ℕ
  pub number : ℕ
  pub value : Option (List ℕ)

abbrev pub seen : TableEntry → Entry
seen v = record { key = v.key.now; number = v.number; value = option_map (λ value. value.now) v.value }

-- ---- as bytes

-- 0 for a value, 1 for a tombstone
abbrev pub type_byte : Option (List ℕ) → ℕ
type_byte (Some value) = 0
type_byte None = 1

-- a tombstone has an empty value
abbrev pub value_bytes : Option (List ℕ) → List ℕ
value_bytes (Some value) = value
value_bytes None = []

-- the lengths, the type and the number before a key and a value
abbrev pub entry_header : ℕ → ℕ → ℕ → ℕ → List ℕ
entry_header key_len kind number value_len = little_bytes 2 key_len ++ (kind ∷ little_bytes 8 number ++ little_bytes 4 value_len)

unfoldable pub entry_text : Entry → List ℕ
entry_text v = entry_header (length v.key) (type_byte v.value) v.number (length (value_bytes v.value)) ++ (v.key ++ value_bytes v.value)

-- what has a text
pub record IsEntry (v : Entry) : Type 0 where
  pub some : 0 < length v.key
  pub key : length v.key < 2 ^ 16
  pub number : v.number < 2 ^ 64
  pub value : length (value_bytes v.value) < 2 ^ 32

-- why an entry has no text
abbrev pub refusal : Entry → Option Error
refusal v = item_refusal v.key (value_bytes v.value)

-- ---- a block

abbrev pub payload_of : List Entry → List ℕ
payload_of vs = flat_map entry_text vs

abbrev pub block_text : List Entry → List ℕ
block_text vs = framed 8 (payload_of vs)

-- the numbers of two versions whose keys compare so descend where the keys are equal
abbrev pub StandsBefore : Ordering → ℕ → ℕ → Type 0
StandsBefore Less n m = Unit {0}
StandsBefore Equal n m = m < n
StandsBefore Greater n m = ⊥

-- by key ascending, then by number descending
abbrev pub IsBefore : Entry → Entry → Type 0
IsBefore v w = StandsBefore (byte_order v.key w.key) v.number w.number

abbrev pub IsOrdered : List Entry → Type 0
IsOrdered [] = Unit {0}
IsOrdered (v ∷ []) = Unit {0}
IsOrdered (v ∷ w ∷ vs) = IsBefore v w × IsOrdered (w ∷ vs)

-- A block has an entry, its entries are in order, and it was closed as soon as its payload had 4,096 bytes.
pub record IsBlock (vs : List Entry) : Type 0 where
  pub some : 0 < length vs
  pub each : AllByRecursion IsEntry vs
  pub ordered : IsOrdered vs
  pub closed : (front more : List Entry) → 0 < length more → vs ≡ front ++ more → length (payload_of front) < 4096

-- no block has these bytes
abbrev pub IsNoBlock : List ℕ → Type 0
IsNoBlock bytes = (vs : List Entry) → IsBlock vs → length (payload_of vs) < 2 ^ 64 → bytes ≡ block_text vs → ⊥

-- ---- reading

abbrev pub value_of : ℕ → List ℕ → Option (Option (List ℕ))
value_of kind value = if kind == 0 then Some (Some value) else (if kind == 1 then (if length value == 0 then Some None else None) else None)

abbrev pub entry_of : ℕ → List ℕ → ℕ → Option (List ℕ) → Option Entry
entry_of key_len key number value = if key_len == 0 then None else Some (record { key = key; number = number; value = value })

unfoldable pub entry_at : List ℕ → Option (Entry × List ℕ)
entry_at bytes = do
  key_len ← number_at 2 bytes
  kind ← byte_at key_len.1
  number ← number_at 8 kind.1
  value_len ← number_at 4 number.1
  key ← bytes_at key_len.0 value_len.1
  stored ← bytes_at value_len.0 key.1
  value ← value_of kind.0 stored.0
  entry ← entry_of key_len.0 key.0 number.0 value
  Some (entry, stored.1)
