-- A part of a table that is gone through block by block.
use Rattle.std.specs.Prelude.{◌≡◌, ℕ, ◌+◌, ◌-◌, if◌then◌else◌, ◌≤◌, ◌<◌, Bool, List, [], ◌++◌, Option, Some, None, length, take, drop}
use Rattle.fjall_base.specs.Pairs.{KeyRange}
use Rattle.fjall_table.specs.Blocks.{Entry}
use Rattle.fjall_table.specs.Tables.{entries_of, entries_within}
use Rattle.fjall_memtable.specs.Sorted.{in_turn}

-- the blocks that are still to come: from the next one up to the last; from behind where `back` holds
pub record Ahead : Type 0 where
  pub next : ℕ
  pub last : ℕ
  pub back : Bool

-- the entries of the block in memory that are still to come, in order, and the blocks that are
pub record TablePart : Type 0 where
  pub held : List Entry
  pub ahead : Ahead

-- the entries of a block, where there is one
abbrev pub entries_in : Option (List Entry) → List Entry
entries_in None = []
entries_in (Some entries) = entries

-- those between two places
abbrev pub held_in : List Entry → ℕ → ℕ → List Entry
held_in entries start end = take (end - start) (drop start entries)

-- The places stand in order, and within the entries.
abbrev pub ArePlacesHeld : List Entry → ℕ → ℕ → Type 0
ArePlacesHeld entries start end = (start ≤ end) × (end ≤ length entries)

-- the part's versions in memory, as they are gone through
abbrev pub left_of : TablePart → List Entry
left_of part = in_turn part.ahead.back part.held

-- of a table of these blocks, what lies between the bounds in the blocks that are still to come, as it is gone through
abbrev pub behind : KeyRange → List (List Entry) → Ahead → List Entry
behind range blocks a = in_turn a.back (entries_within range (entries_of (take (a.last - a.next) (drop a.next blocks))))

-- all that the part stands for: what is in memory, and behind it what is still to come
abbrev pub still_to_come : KeyRange → List (List Entry) → TablePart → List Entry
still_to_come range blocks part = left_of part ++ behind range blocks part.ahead

-- There is nothing in memory, but a block is to come.
abbrev pub IsDryPart : TablePart → Type 0
IsDryPart part = (part.held ≡ []) × (part.ahead.next < part.ahead.last)

-- how many blocks are still to come
abbrev pub blocks_ahead : Ahead → ℕ
blocks_ahead a = a.last - a.next

-- the one of them that is read first
abbrev pub next_block : Ahead → ℕ
next_block a = if a.back then a.last - 1 else a.next

-- the blocks without that one
abbrev pub without_next : Ahead → Ahead
without_next a = record { next = if a.back then a.next else a.next + 1; last = if a.back then a.last - 1 else a.last; back = a.back }
