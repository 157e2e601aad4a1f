-- What reads of a core leave standing.
use Rattle.std.specs.Prelude.{Bool, [], IsTrue}
use Rattle.fjall_base.specs.Disk.{Took}
use Rattle.fjall_machine.specs.Machine.{State}
use Rattle.fjall_engine.specs.Durables.{Durable, Passes}
use Rattle.fjall_engine.specs.Holding.{Held}
use Rattle.fjall_engine.specs.Standing.{ReadsOn, StandsFor, StandsOn}

-- Whichever state the core stood for, it still does. Over a disk that returns what it holds the disk was changed in nothing: whichever of
-- those states' tables it had, it has, and wherever the core stood on it, the core stands on it, and no command was tried.
pub record LeavesStanding (honest : Bool) (old new : Held) : Type 0 where
  pub stands : (s : State) → StandsFor old s → StandsFor new s
  pub took : IsTrue honest → Took old.disk new.disk []
  pub reads : IsTrue honest → (s : State) → StandsFor old s → ReadsOn old s → ReadsOn new s
  pub on : IsTrue honest → (s : State) (d : Durable) → StandsFor old s → ReadsOn old s → StandsOn old s.parts.entries d → (e : Durable) × StandsOn new s.parts.entries e × Passes d [] e
