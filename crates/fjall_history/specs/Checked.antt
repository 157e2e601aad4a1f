-- Histories in which each optimistic transaction was checked when it committed.
use Rattle.std.specs.Prelude.{◌≡◌, ℕ, ◌≤◌, true, All, take, Some, slice_get}
use Rattle.std.specs.FinSet as set
use Rattle.fjall_base.specs.Store.{Command, Write}
use Rattle.fjall_tx.specs.Places.{Places, place}
use Rattle.fjall_tx.specs.Oracles.{Conflicts}
use Rattle.fjall_history.specs.Histories.{Accepted, Commit, History, commits, number}

-- the command is a write, and each key that it writes is among these places
abbrev pub WritesWithin : Command → Places → Type 0
WritesWithin (Write items) places = All (λ item. set.contains places (place item.id item.key) ≡ true) items
WritesWithin command places = ⊥

-- Behind this history a transaction may commit the command. It began since opening and not later than now, it marked each
-- key that it writes, and none of those that committed at or above its instant wrote what it read.
pub record MayCommit (h : History) (command : Command) (c : Commit) : Type 0 where
  pub since : h.base ≤ c.instant
  pub until : c.instant ≤ number h
  pub within : WritesWithin command c.marks.writes
  pub apart : Conflicts c.instant c.marks.reads (commits h) → ⊥

-- the history before the command at a place, counted from 0
abbrev pub before : History → ℕ → History
before h place = record h { accepted = take place h.accepted }

-- each transaction that committed may do so behind what stands before it
abbrev pub IsChecked : History → Type 0
IsChecked h = (place : ℕ) (a : Accepted) (c : Commit) → slice_get h.accepted place ≡ Some a → a.commit ≡ Some c → MayCommit (before h place) a.command c
