-- What calls do to a history and its tickets, in small moves: laws over whole runs speak of these, and not of each call.
use Rattle.std.specs.Prelude.{◌≡◌, ◌⊎◌, ℕ, ◌<◌, ◌≤◌, true, List, Some}
use Rattle.std.specs.FinMap.{get}
use Rattle.fjall_history.specs.Histories.{Accepted, History, extended, grown, number}
use Rattle.fjall_history.specs.Tickets.{Tickets, closed, collected, is_open, opened}

-- a history with the tickets that read at its instants
pub record Times : Type 0 where
  pub history : History
  pub tickets : Tickets

-- a ticket may be opened at the visible number, or where another one is open
abbrev pub MayOpen : Times → ℕ → Type 0
MayOpen old instant = (instant ≡ number old.history) ⊎ ((id : ℕ) × (get old.tickets.instants id ≡ Some instant))

-- One call leaves both as they are, accepts a command, opens a ticket, closes one, or raises the watermark.
pub data Moves (old new : Times) : Type 0 where
  Rests : (same : new ≡ old) → Moves old new
  Accepts : (one : Accepted) (is : new ≡ record old { history = grown old.history one }) → Moves old new
  Opens : (instant : ℕ) (may : MayOpen old instant) (is : new ≡ record old { tickets = opened instant old.tickets }) → Moves old new
  Closes : (id : ℕ) (there : is_open old.tickets id ≡ true) (is : new ≡ record old { tickets = closed (number old.history) id old.tickets }) → Moves old new
  Collects : (is : new ≡ record old { tickets = collected (number old.history) old.tickets }) → Moves old new

-- one move after another
pub data MovesOn : Times → Times → Type 0 where
  NoMove : (times : Times) → MovesOn times times
  OneMove : (old mid new : Times) → Moves old mid → MovesOn mid new → MovesOn old new

-- Each open ticket was given out, and reads at an instant of this history.
abbrev pub AreSound : Times → Type 0
AreSound t = (id instant : ℕ) → get t.tickets.instants id ≡ Some instant → (id < t.tickets.next) × (t.history.base ≤ instant) × (instant ≤ number t.history)

-- Unless it is 0, the watermark is below each instant at which a ticket reads or may be opened.
abbrev pub IsSpared : Times → Type 0
IsSpared t = (instant : ℕ) → 0 < t.tickets.watermark → MayOpen t instant → t.tickets.watermark < instant

-- the history of `new` is that of `old` with more accepted behind it
abbrev pub HasGrown : History → History → Type 0
HasGrown old new = (more : List Accepted) × (new ≡ extended old more)
