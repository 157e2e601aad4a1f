-- Records of `current`: their texts, the whole ones at the front of a file, and how one is read.
use Rattle.std.specs.Prelude.{◌≡◌, ◌≢◌, ℕ, ◌<◌, ◌≤◌, ◌^◌, List, ◌∷◌, ◌++◌, length, take, drop, map, Option, Some, None, All, AllPairs, IfSome, ◌==◌, if◌then◌else◌}
use Rattle.std.specs.List.{flat_map, AllByRecursion}
use Rattle.std.specs.List.Sorted.{IsStrictlyIncreasing}
use Rattle.byteorder.specs.Endian.{little_bytes}
use Rattle.fjall_table.specs.declared.level.Level.{Level}
use Rattle.fjall_table.specs.declared.level.Level.TheVariants.{L0, L1}
use Rattle.fjall_table.specs.declared.table_info.TableInfo.{TableInfo}
use Rattle.fjall_manifest.specs.declared.record.Numbers.{Numbers}
use Rattle.fjall_manifest.specs.declared.record.Record.{Record}
use Rattle.fjall_table.specs.Frame.{framed, NoFrame}
use Rattle.fjall_base.specs.Fields.{◌>>=◌, byte_at, number_at, many_at}

-- what a record says
pub record Fields : Type 0 where
  pub persisted : Option ℕ
  pub highest : Option ℕ
  pub next_table_id : ℕ
  pub next_keyspace_id : ℕ
  pub tables : List TableInfo
  pub clears : List ℕ

abbrev pub fields_of : Numbers → List TableInfo → List ℕ → Fields
fields_of n tables clears = record {
  persisted = n.persisted;
  highest = n.highest;
  next_table_id = n.next_table_id;
  next_keyspace_id = n.next_keyspace_id;
  tables = tables;
  clears = clears;
}

abbrev pub view : Record → Fields
view r = record {
  persisted = r.persisted;
  highest = r.highest;
  next_table_id = r.next_table_id;
  next_keyspace_id = r.next_keyspace_id;
  tables = r.tables.items;
  clears = r.clears.items;
}

-- ---- as bytes

abbrev pub level_byte : Level → ℕ
level_byte L0 = 0
level_byte L1 = 1

-- 1 and the number, or nine zeros
abbrev pub optional_text : Option ℕ → List ℕ
optional_text None = 0 ∷ little_bytes 8 0
optional_text (Some n) = 1 ∷ little_bytes 8 n

unfoldable pub table_line : TableInfo → List ℕ
table_line t = little_bytes 8 t.id ++ (level_byte t.level ∷ little_bytes 8 t.file_len ++ little_bytes 8 t.entry_count)

-- the byte that names the format, the four numbers, and the count of tables
abbrev pub numbers_text : Fields → ℕ → List ℕ
numbers_text r table_count =
    1 ∷ optional_text r.persisted ++ (optional_text r.highest ++ (little_bytes 8 r.next_table_id ++ (little_bytes 8 r.next_keyspace_id ++ little_bytes 4 table_count)))

-- and then the tables, and the clears behind their count
unfoldable pub body : Fields → List ℕ
body r = numbers_text r (length r.tables) ++ (flat_map table_line r.tables ++ (little_bytes 4 (length r.clears) ++ flat_map (little_bytes 8) r.clears))

abbrev pub record_text : Fields → List ℕ
record_text r = framed 4 (body r)

-- ---- which are records

-- the numbers have room in their fields
abbrev pub HasRoom : TableInfo → Type 0
HasRoom t = (t.id < 2 ^ 64) × (t.file_len < 2 ^ 64) × (t.entry_count < 2 ^ 64)

pub record HasRoomForAll (r : Fields) : Type 0 where
  pub persisted : IfSome r.persisted (λ n. n < 2 ^ 64)
  pub highest : IfSome r.highest (λ n. n < 2 ^ 64)
  pub next_table_id : r.next_table_id < 2 ^ 64
  pub next_keyspace_id : r.next_keyspace_id < 2 ^ 64
  pub tables : AllByRecursion HasRoom r.tables
  pub clears : AllByRecursion (λ n. n < 2 ^ 64) r.clears

-- and so has the length of the body
pub record Fits (r : Fields) : Type 0 where
  pub room : HasRoomForAll r
  pub len : length (body r) < 2 ^ 32

-- Numbers end at 2^63, each table has an id of its own below the next one, and clears ascend.
pub record IsConsistent (r : Fields) : Type 0 where
  pub persisted : IfSome r.persisted (λ n. n < 2 ^ 63)
  pub highest : IfSome r.highest (λ n. n < 2 ^ 63)
  pub given : All (λ t. t.id < r.next_table_id) r.tables
  pub once : AllPairs (λ a b. a ≢ b) (map (λ t. t.id) r.tables)
  pub numbers : All (λ n. n < 2 ^ 63) r.clears
  pub ascending : IsStrictlyIncreasing r.clears

pub record IsRecord (r : Fields) : Type 0 where
  pub fits : Fits r
  pub consistent : IsConsistent r

-- These records stand whole at the front, up to end, and no whole frame with a right check stands there.
pub record IsRecords (bytes : List ℕ) (records : List Fields) (end : ℕ) : Type 0 where
  pub within : end ≤ length bytes
  pub texts : take end bytes ≡ flat_map record_text records
  pub each : AllByRecursion IsRecord records
  pub last : NoFrame 4 (drop end bytes)

-- no record has this body
abbrev pub IsNoBody : List ℕ → Type 0
IsNoBody payload = (r : Fields) → IsRecord r → payload ≡ body r → ⊥

-- Behind records stands a whole frame with a right check whose body is no record's.
pub record HasContradiction (bytes : List ℕ) : Type 0 where
  pub records : List Fields
  pub payload : List ℕ
  pub more : List ℕ
  pub each : AllByRecursion IsRecord records
  pub fits : length payload < 256 ^ 4
  pub none : IsNoBody payload
  pub text : bytes ≡ flat_map record_text records ++ (framed 4 payload ++ more)

-- The file reads as the first of these records.
pub record KeptRecords (records : List Fields) (bytes : List ℕ) : Type 0 where
  pub kept : List Fields
  pub gone : List Fields
  pub all : kept ++ gone ≡ records
  pub whole : IsRecords bytes kept (length (flat_map record_text kept))

-- ---- reading

abbrev pub level_of : ℕ → Option Level
level_of b = if b == 0 then Some L0 else (if b == 1 then Some L1 else None)

-- no number is nine zeros
abbrev pub optional_of : ℕ → ℕ → Option (Option ℕ)
optional_of flag n = if flag == 1 then Some (Some n) else (if flag == 0 then (if n == 0 then Some None else None) else None)

unfoldable pub optional_at : List ℕ → Option (Option ℕ × List ℕ)
optional_at bytes = do
  flag ← byte_at bytes
  n ← number_at 8 flag.1
  number ← optional_of flag.0 n.0
  Some (number, n.1)

unfoldable pub table_at : List ℕ → Option (TableInfo × List ℕ)
table_at bytes = do
  id ← number_at 8 bytes
  b ← byte_at id.1
  level ← level_of b.0
  file_len ← number_at 8 b.1
  entry_count ← number_at 8 file_len.1
  Some (record { id = id.0; level = level; file_len = file_len.0; entry_count = entry_count.0 }, entry_count.1)

abbrev pub nothing_behind : {A : Type 0} → A → List ℕ → Option A
nothing_behind x bytes = if length bytes == 0 then Some x else None

abbrev pub format_of : ℕ → Option ℕ
format_of b = if b == 1 then Some 1 else None

unfoldable pub numbers_at : List ℕ → Option (Numbers × List ℕ)
numbers_at bytes = do
  b ← byte_at bytes
  format ← format_of b.0
  persisted ← optional_at b.1
  highest ← optional_at persisted.1
  next_table_id ← number_at 8 highest.1
  next_keyspace_id ← number_at 8 next_table_id.1
  Some (
    record {
      persisted = persisted.0;
      highest = highest.0;
      next_table_id = next_table_id.0;
      next_keyspace_id = next_keyspace_id.0;
    },
    next_keyspace_id.1,
  )

-- all of a body
unfoldable pub body_of : List ℕ → Option Fields
body_of bytes = do
  numbers ← numbers_at bytes
  table_count ← number_at 4 numbers.1
  tables ← many_at table_at table_count.0 table_count.1
  clear_count ← number_at 4 tables.1
  clears ← many_at (number_at 8) clear_count.0 clear_count.1
  nothing_behind (fields_of numbers.0 tables.0 clears.0) clears.1
