-- What a memtable holds.
use Rattle.std.specs.Prelude.{◌≡◌, ◌≢◌, ℕ, ◌+◌, List, [], ◌∷◌, length, map, Option}
use Rattle.std.specs.List.{All}
use Rattle.std.specs.Ordering.{match_ordering}
use Rattle.fjall_table.specs.Blocks.{Entry, value_bytes}
use Rattle.fjall_memtable.specs.declared.memtable.Memtable.{Memtable}
use Rattle.fjall_memtable.specs.Stamps.{Stamp, stamp_cmp}
use Rattle.fjall_memtable.specs.Places.{entry_at_place, up_to, IsMarkOf}

-- its entries: by key ascending, then by number descending
abbrev pub entries_kept : Memtable → List Entry
entries_kept m = map (entry_at_place m.text.items) m.map.entries

-- what the change of this number made of a key
abbrev pub version : List ℕ → ℕ → Option (List ℕ) → Entry
version key number value = record { key = key; number = number; value = value }

-- an entry's key and number
abbrev pub stamp_of : Entry → Stamp
stamp_of e = record { key = e.key; number = e.number }

-- no entry has this key and number
abbrev pub IsAbsent : List ℕ → ℕ → List Entry → Type 0
IsAbsent key number entries = All (λ e. stamp_of e ≢ record { key = key; number = number }) entries

-- the entries with one more, in its place
abbrev pub inserted : Entry → List Entry → List Entry
inserted e [] = e ∷ []
inserted e (x ∷ xs) = match_ordering (stamp_cmp (stamp_of e) (stamp_of x)) (e ∷ x ∷ xs) (e ∷ xs) (x ∷ inserted e xs)

-- how many bytes an entry counts for
abbrev pub size_of : Entry → ℕ
size_of e = length e.key + length (value_bytes e.value) + 16

-- ---- marks

-- the entries that it had when its text was so long
abbrev pub entries_at : ℕ → Memtable → List Entry
entries_at mark m = map (entry_at_place m.text.items) (up_to mark m.map.entries)

-- its text was once so long
abbrev pub IsMark : Memtable → ℕ → Type 0
IsMark m mark = IsMarkOf m.text.items m.map.entries mark

-- The marks of one memtable are marks of the other, and stand for the same entries there.
abbrev pub KeepsMarks : Memtable → Memtable → Type 0
KeepsMarks old new = (mark : ℕ) → IsMark old mark → IsMark new mark × (entries_at mark new ≡ entries_at mark old)
