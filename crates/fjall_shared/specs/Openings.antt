-- What a locked state is opened from.
use Rattle.std.specs.Prelude.{◌≡◌, ◌⊎◌, [], List}
use Rattle.fjall_base.specs.Disk.{Meaning, state_in}
use Rattle.fjall_base.specs.Store.{Command, Store, fold, kept}
use Rattle.fjall_recovery.specs.Amid.{HoldsAmid, IsBeginning, StandsAmid}
use Rattle.fjall_core.specs.Openings.{IsLeftWildly}

-- The disk holds this base with a beginning of these pending commands, as an engine left it, or a crash of its disk.
pub record HoldsUsually (disk : Meaning) (least : List Command) (base : Store) (pending : List Command) : Type 0 where
  pub none : least ≡ []
  pub holds : HoldsAmid (state_in disk) base pending

-- An engine left this disk, or a crash of its disk did, a wild one too: it holds a base with a beginning of these commands, which has at least
-- those that were safe.
abbrev pub IsLeftOf : Meaning → Store → List Command → List Command → Type 0
IsLeftOf disk base least all = HoldsUsually disk least base all ⊎ IsLeftWildly (state_in disk) (StandsAmid base least all)

abbrev pub IsLeftByEngine : Meaning → Type 0
IsLeftByEngine disk = (base : Store) × (least all : List Command) × IsLeftOf disk base least all

-- The store that was opened is what an engine left: the base with a beginning of the commands, which has at least those that were safe.
pub record IsOpenedFrom (disk : Meaning) (store : Store) : Type 0 where
  pub base : Store
  pub least : List Command
  pub all : List Command
  pub left : IsLeftOf disk base least all
  pub front : List Command
  pub holds : IsBeginning least front
  pub within : IsBeginning front all
  pub is : store ≡ kept (fold base front)
