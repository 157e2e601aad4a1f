-- Entries by where their keys and values stand in a text.
use Rattle.std.specs.Prelude.{◌≡◌, ℕ, ◌+◌, ◌≤◌, ◌<◌, ◌^◌, List, Option, Some, None, length, take, drop, filter, nat_le, if◌then◌else◌}
use Rattle.std.specs.List.{AllByRecursion, sum_by}
use Rattle.fjall_table.specs.Blocks.{Entry}
use Rattle.fjall_memtable.specs.declared.place.Place.{Place}
use Rattle.fjall_memtable.specs.Stamps.{Stamp}

-- the key that stands there, and the value behind it
abbrev pub key_at : List ℕ → Place → List ℕ
key_at text p = take p.key_len (drop p.at text)

abbrev pub value_at : List ℕ → Place → Option (List ℕ)
value_at text p = if p.is_value then Some (take p.value_len (drop (p.at + p.key_len) text)) else None

-- how many bytes stand there, and where they end
abbrev pub place_len : Place → ℕ
place_len p = p.key_len + p.value_len

abbrev pub end_of : Place → ℕ
end_of p = p.at + place_len p

-- the entry of a key with its number and its place
abbrev pub entry_at_place : List ℕ → Stamp × Place → Entry
entry_at_place text e = record { key = e.0.key; number = e.0.number; value = value_at text e.1 }

-- The key stands there, and a tombstone has no value.
pub record IsPlaced (text : List ℕ) (e : Stamp × Place) : Type 0 where
  pub some : 0 < e.1.key_len
  pub fits : end_of e.1 ≤ length text
  pub key : key_at text e.1 ≡ e.0.key
  pub number : e.0.number < 2 ^ 64
  pub tombstone : (if e.1.is_value then 0 else e.1.value_len) ≡ 0

-- The keys of a memtable stand in its text, which is all that they and the values are.
pub record AreAll (text : List ℕ) (es : List (Stamp × Place)) : Type 0 where
  pub placed : AllByRecursion (IsPlaced text) es
  pub filled : length text ≡ sum_by (λ e. place_len e.1) es

-- those that end at some place at the latest
abbrev pub up_to : ℕ → List (Stamp × Place) → List (Stamp × Place)
up_to mark es = filter (λ e. nat_le (end_of e.1) mark) es

-- a text of these was once so long
pub record IsMarkOf (text : List ℕ) (es : List (Stamp × Place)) (mark : ℕ) : Type 0 where
  pub within : mark ≤ length text
  pub filled : sum_by (λ e. place_len e.1) (up_to mark es) ≡ mark
