-- The rule of the word, and what its steps tell.
use Rattle.std.specs.Prelude.{ℕ, ◌≡◌, ◌⊎◌, List, [], ◌∷◌}
use mathlib.Core.Option.{some}
use lib.ListN.{get_elem?}
use Rattle.atomic_table.specs.Table.{State, Me, Step}
use Rattle.fjall_history.specs.Histories.{Accepted, History, grown, number}
use Rattle.fjall_history.specs.Moves.{HasGrown}
use Rattle.fjall_history.specs.Seats.{Kind, Fresh, Leads, Follows, Gone, Known, follower, leader, newcomer}

-- What a seat of this number may know of the history, where the core's seat has the other number.
abbrev pub FitsAs : Kind → History → ℕ → ℕ → Known → Type 0
FitsAs Fresh h core by v = ⊥
FitsAs Leads h core by v = (by ≡ core) × (v.list ≡ h) × HasGrown v.aside h
FitsAs Follows h core by v = HasGrown v.list h × HasGrown v.aside h
FitsAs Gone h core by v = Unit {0}

-- the core's seat knows the whole history, and what each other one knows is a beginning of it
abbrev pub Fits : History → ℕ → ℕ → Known → Type 0
Fits h core by v = FitsAs v.kind h core by v

-- the word is the number of the one history of which all seats know
pub record Runs (words : List ℕ) (views : List Known) : Type 0 where
  pub history : History
  pub core : ℕ
  pub word : words ≡ number history ∷ []
  pub each : (by : ℕ) (v : Known) → get_elem? views by ≡ some v → Fits history core by v

-- no history is known yet
pub record Starts (n : ℕ) (words : List ℕ) (views : List Known) : Type 0 where
  pub word : words ≡ n ∷ []
  pub views_are : views ≡ newcomer n ∷ []

abbrev pub Kept : ℕ → State (Unit {0}) Known → Type 0
Kept n s = Starts n s.words s.views ⊎ Runs s.words s.views

-- the first seat becomes the core's, with a history that fits and has the visible number
abbrev pub Settles : (History → Type 0) → Step (Unit {0}) → Me (Unit {0}) Known → ℕ → Me (Unit {0}) Known → Type 0
Settles fits s v found w = fits w.0.list × (number w.0.list ≡ v.0.list.base) × (w ≡ (leader w.0.list, []))

-- the core's seat adds what was accepted
abbrev pub Publishes : Accepted → Step (Unit {0}) → Me (Unit {0}) Known → ℕ → Me (Unit {0}) Known → Type 0
Publishes a s v found w = w ≡ (leader (grown v.0.list a), [])

-- A caller's seat sees the history as it is, whose number was found. It begins with what the seat had seen, and with what came beside it.
abbrev pub Looks : Step (Unit {0}) → Me (Unit {0}) Known → ℕ → Me (Unit {0}) Known → Type 0
Looks s v found w = HasGrown v.0.list w.0.list × HasGrown v.0.aside w.0.list × (found ≡ number w.0.list) × (w ≡ (follower w.0.list, []))

-- what came beside the core's history is a beginning of it
abbrev pub Compares : Step (Unit {0}) → Me (Unit {0}) Known → ℕ → Me (Unit {0}) Known → Type 0
Compares s v found w = HasGrown v.0.aside v.0.list × (w ≡ (leader v.0.list, []))
