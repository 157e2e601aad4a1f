-- Tables in the making, one behind another.
use Rattle.std.specs.Prelude.{◌≡◌, ℕ, ◌≤◌, ◌^◌, ◌-◌, List, [], ◌∷◌, ◌++◌, min, Option, Some, None, length}
use Rattle.fjall_base.specs.Lists.{last_of}
use Rattle.fjall_table.specs.Blocks.{Entry}
use Rattle.fjall_table.specs.Tables.{IsTable}
use Rattle.fjall_memtable.specs.Sorted.{flat}
use Rattle.fjall_memtable.specs.Kept.{AreClosedAt, EndsBefore, size_of_all}
use Rattle.fjall_jobs.specs.declared.sequence.TableSequence.{TableSequence}
use Rattle.fjall_jobs.specs.declared.made_table.MadeTable.{MadeTable}

-- ---- what was made

-- the bytes are a table of these entries, and the count is theirs
pub record IsMadeTable (t : MadeTable) (entries : List Entry) : Type 0 where
  pub table : IsTable t.bytes.items entries
  pub count : t.entry_count ≡ length entries

-- the same of several, one by one
abbrev pub AreMadeTables : List MadeTable → List (List Entry) → Type 0
AreMadeTables [] [] = Unit {0}
AreMadeTables (t ∷ tables) (entries ∷ lists) = IsMadeTable t entries × AreMadeTables tables lists
AreMadeTables tables lists = ⊥

-- How tables are parted: at a target, or not at all where there is none.
abbrev pub AreParted : Option ℕ → List (List Entry) → Type 0
AreParted None [] = Unit {0}
AreParted None (table ∷ []) = (table ≡ []) → ⊥
AreParted None (table ∷ next ∷ tables) = ⊥
AreParted (Some target) tables = AreClosedAt target tables

-- ---- in the making

-- tables that are closed, and the entries of the one that isn't yet
abbrev pub with_open : List (List Entry) → List Entry → List (List Entry)
with_open closed [] = closed
with_open closed (e ∷ open_entries) = closed ++ (e ∷ open_entries) ∷ []

-- the key of the last of these entries, which is none where there is none
abbrev pub last_key : List Entry → List ℕ
last_key entries = by (last_of entries)
  where
    by : Option Entry → List ℕ
    by None = []
    by (Some e) = e.key

-- Whether the open table is to be closed before an entry of this key.
abbrev pub IsClosingDue : Option ℕ → List Entry → List ℕ → Type 0
IsClosingDue None open_entries key = ⊥
IsClosingDue (Some target) open_entries key = (target ≤ size_of_all open_entries) × EndsBefore open_entries key

-- These tables were closed, and with the open one they are parted as they must be.
pub record IsSequence (s : TableSequence) (closed : List (List Entry)) : Type 0 where
  pub made : AreMadeTables s.closed.items closed
  pub size_is : s.size ≡ min (size_of_all s.writer) (2 ^ 64 - 1)
  pub key_is : s.last_key.items ≡ last_key s.writer
  pub parted : AreParted s.target (with_open closed s.writer)
  pub begun : s.writer ≡ [] → closed ≡ []

-- The open table may get an entry of this key.
pub record HasRoomForEntry (s : TableSequence) (closed : List (List Entry)) (key : List ℕ) : Type 0 where
  pub made : AreMadeTables s.closed.items closed
  pub size_is : s.size ≡ min (size_of_all s.writer) (2 ^ 64 - 1)
  pub extends : (e : Entry) → e.key ≡ key → AreParted s.target (with_open closed (s.writer ++ e ∷ []))

-- these tables were made, parted as they must be, of these entries
abbrev pub MakesTables : Option ℕ → List MadeTable → List Entry → Type 0
MakesTables target tables entries = (lists : List (List Entry)) × AreMadeTables tables lists × AreParted target lists × (flat lists ≡ entries)
