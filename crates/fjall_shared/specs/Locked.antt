-- What lies under the lock.
use Rattle.std.specs.Prelude.{◌≡◌, Bool, IsTrue, IfSome, All, List}
use Rattle.fjall_history.specs.Histories.{History, number}
use Rattle.fjall_machine.specs.Machine.{State}
use Rattle.fjall_machine.specs.Merging.{KnowsMerge}
use Rattle.fjall_machine.specs.Remembered.{KnowsTask}
use Rattle.fjall_core.specs.Holding.{Held}
use Rattle.fjall_core.specs.CoreStanding.{ReadsOn}
use Rattle.fjall_shared.specs.Labels.{Label}
use Rattle.fjall_core.specs.Standing.{StandFor, CoreState, history_of}
use Rattle.fjall_core.specs.Transactions.{Kept}
use Rattle.fjall_history.specs.Seats.{Place}

-- The engine and what is kept of its transactions; its seat at the word, which knows the list of accepted commands; and the flushes and merges
-- that are out.
pub record Locked : Type 0 where
  pub core : Held
  pub kept : Kept
  pub seat : Place
  pub flushes : List Label
  pub merges : List Label

-- the list of accepted commands
abbrev pub list_of : Locked → History
list_of l = l.seat.list

-- the state knows the merge of this label
abbrev pub KnowsMergeOf : State → Label → Type 0
KnowsMergeOf s label = IfSome label.target (λ target. KnowsMerge s target label.task)

-- The engine with its transactions stands for this state, whose history is told as the list, its disk has the tables of all keyspaces, and
-- the state knows the merges that are out.
pub record IsTied (l : Locked) (t : CoreState) : Type 0 where
  pub stands : StandFor l.core l.kept t
  pub reads : ReadsOn l.core t.state
  pub is : history_of t ≡ list_of l
  pub knows : All (KnowsMergeOf t.state) l.merges

-- What holds whenever the lock is free: the list's number is the engine's next one, memory knows the flushes that are out, and over a disk
-- that returns what it holds the engine stands for a state with that list.
pub record IsSettled (honest : Bool) (l : Locked) : Type 0 where
  pub next : l.core.memory.next ≡ number (list_of l)
  pub knows : All (λ label. KnowsTask l.core.memory label.task) l.flushes
  pub ties : IsTrue honest → (t : CoreState) × IsTied l t
