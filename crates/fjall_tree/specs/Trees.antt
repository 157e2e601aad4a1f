-- What a keyspace holds: tables on a disk, the clears of its record, and parts in memory.
use Rattle.std.specs.Prelude.{◌≡◌, ℕ, ◌<◌, Bool, true, false, List, [], ◌∷◌, ◌++◌, Option, Some, None, if◌then◌else◌, nat_lt}
use Rattle.std.specs.List.{All}
use Rattle.std.specs.Coded.{×_prop, Unit-prop}
use Rattle.std.proofs.Props.{props}
use Rattle.fjall_base.specs.Disk.{Meaning}
use Rattle.fjall_table.specs.declared.level.Level.{Level}
use Rattle.fjall_table.specs.declared.level.Level.TheVariants.{L0, L1}
use Rattle.fjall_table.specs.Blocks.{Entry}
use Rattle.fjall_memtable.specs.Jobs.{AreBelow, OnceEach}
use Rattle.fjall_memtable.specs.Sorted.{flat}
use Rattle.fjall_table_reader.specs.Readers.{AreRead, AreSameTables, Reader, all_aged, all_unread}
use Rattle.fjall_memtable.specs.Parts.{Ascends, HeldPart, Memory, clears_in, parts_of, rotated, versions_in, with_active, with_clear, with_version}

-- A flush that is out: its number, its watermark, and how many sealed parts it was begun with, the oldest ones.
pub record Flushing : Type 0 where
  pub id : ℕ
  pub watermark : ℕ
  pub count : ℕ

-- A merge that is out: its number, its watermark, and how many tables and how many of the record's clears it was begun with,
-- the first ones. These are numbered below its bound, and what came since from it on.
pub record Merging : Type 0 where
  pub id : ℕ
  pub watermark : ℕ
  pub tables : ℕ
  pub clears : ℕ
  pub bound : ℕ

-- the tables, the oldest first, the clears of the record, ascending, what is in memory, and which jobs are out
pub record Shape : Type 0 where
  pub tables : List Reader
  pub clears : List ℕ
  pub memory : Memory
  pub flush : Option Flushing
  pub merge : Option Merging

-- all versions, where these are the tables' entries
abbrev pub versions_of : Shape → List (List Entry) → List Entry
versions_of shape entries = flat entries ++ versions_in (parts_of shape.memory)

-- all clears
abbrev pub clears_of : Shape → List ℕ
clears_of shape = shape.clears ++ clears_in (parts_of shape.memory)

-- where the first of some parts and one more begins
abbrev pub first_from : List HeldPart → HeldPart → ℕ
first_from [] last = last.from
first_from (h ∷ parts) last = h.from

-- the floor: no number in memory is below it
abbrev pub floor_of : Memory → ℕ
floor_of memory = first_from memory.sealed memory.active

-- The record's clears lie below the floor, and ascend.
pub record IsShape (clears : List ℕ) (memory : Memory) : Type 0 where
  pub low : All (λ n. n < floor_of memory) clears
  pub ascend : Ascends clears

-- the shape with another memory
abbrev pub with_memory : Memory → Shape → Shape
with_memory memory shape = record shape { memory = memory }

-- the shape with one version more in the active part
abbrev pub written : Entry → Shape → Shape
written v shape = with_memory (with_active (with_version v shape.memory.active) shape.memory) shape

-- the shape with one clear more in the active part
abbrev pub emptied : ℕ → Shape → Shape
emptied number shape = with_memory (with_active (with_clear number shape.memory.active) shape.memory) shape

-- the shape with the active part sealed
abbrev pub sealed_off : Shape → Shape
sealed_off shape = with_memory (rotated shape.memory) shape

-- the shape with no block kept
abbrev pub unread_shape : Shape → Shape
unread_shape shape = record shape { tables = all_unread shape.tables }

-- the shape with no older block kept, and those that are recent older
abbrev pub aged_shape : Shape → Shape
aged_shape shape = record shape { tables = all_aged shape.tables }

-- what is left of the value that a version gave, where all that is numbered below a bound is cleared
abbrev pub value_from : ℕ → Option Entry → Option (List ℕ)
value_from bound None = None
value_from bound (Some v) = if nat_lt v.number bound then None else v.value

-- ---- tables on a disk

-- On this disk the tables have these entries, all numbered below the floor, and no version twice.
pub record ReadsAll (disk : Meaning) (shape : Shape) (entries : List (List Entry)) : Type 0 where
  pub tables : AreRead disk shape.tables entries
  pub below : AreBelow (floor_of shape.memory) (flat entries)
  pub once : OnceEach (flat entries)

-- The same but for what is kept of the tables.
pub record IsSameShape (old new : Shape) : Type 0 where
  pub tables : AreSameTables old.tables new.tables
  pub clears : new.clears ≡ old.clears
  pub memory : new.memory ≡ old.memory
  pub flush : new.flush ≡ old.flush
  pub merge : new.merge ≡ old.merge

-- whether a flush made it
abbrev pub is_l0 : Level → Bool
is_l0 L0 = true
is_l0 L1 = false

-- ---- each fact has one proof

ascends_prop : (numbers : List ℕ) → IsProp (Ascends numbers)
ascends_prop [] = Unit-prop
ascends_prop (n ∷ numbers) = ×_prop (hlevel props) (ascends_prop numbers)

pub shape_prop : (clears : List ℕ) (memory : Memory) → IsProp (IsShape clears memory)
shape_prop clears memory = hlevel (props, ascends_prop clears)
