-- How one life passes a disk on to the next: what stands between the contracts of an engine and what callers see. Who reads what callers see
-- alone needs none of it.
use Rattle.std.specs.Prelude.{◌≡◌, ◌⊎◌, Bool, true, false, IsTrue, List, [], Result, Ok, Err}
use Rattle.fjall_base.specs.Crash.{IsHoused}
use Rattle.fjall_base.specs.Disk.{Crash, DiskState, Image, IsImageBy, Meaning, Missing, Name, Survives, disk_of, state_in}
use Rattle.fjall_base.specs.Store.{Command, Store, fold, kept}
use Rattle.fjall_base.specs.declared.error.Error.{Error}
use Rattle.fjall_calls.specs.Holding.{Held}
use Rattle.fjall_calls.specs.Openings.{IsLeftWildly, OpensAs}
use Rattle.fjall_calls.specs.CoreStanding.{ClosesSafely, OwesClosing}
use Rattle.fjall_recovery.specs.Amid.{HoldsAmid, IsBeginning, StandsAmid}
use Rattle.fjall_recovery.specs.Wild.{SurvivesUnforged}
use Rattle.fjall_calls.specs.Transactions.{Kept, none_kept}
use Rattle.fjall_consistency.specs.Alike.{AreAlike}
use Rattle.fjall_consistency.specs.Consistency.{IsLife}
use Rattle.fjall_consistency.specs.declared.life.Life.{Life}
use Rattle.fjall_consistency.specs.declared.life.Told.{Told}

-- nothing was ever put on the disk
abbrev pub IsFresh : Meaning → Type 0
IsFresh disk = (name : Name) → state_in disk name ≡ record { now = Missing; older = [] }

-- what a crash may leave of an entry: of a file the synced bytes with a beginning of the others, or, in a wild one, with any bytes that forge nothing whole
abbrev pub view : Bool → Crash
view false = Survives
view true = SurvivesUnforged

-- the disk is as it was, or the power went, and it is what a crash may leave of it
abbrev pub IsTurned : Bool → Meaning → Meaning → Type 0
IsTurned wild old new = (state_in new ≡ state_in old) ⊎ ((image : Image) × IsImageBy (view wild) (state_in old) image × (state_in new ≡ disk_of image))

-- How an engine ends, and the disk that it gives back: it was closed, or its closing was refused, or it was let go of.
pub data EndsAs (core : Held) : Bool → Meaning → Type 0 where
  IsClosed : (disk : Meaning) → OwesClosing core (Ok tt) disk → ClosesSafely core (Ok tt) disk → EndsAs core true disk
  IsUnclosed : (error : Error) (disk : Meaning) → ClosesSafely core (Err error) disk → EndsAs core false disk
  IsLet : IsHoused (state_in core.disk) → EndsAs core false core.disk

-- from each store that is alike the one, the life goes on to one that is alike the other
abbrev pub LivesOn : Bool → Store → Life → Result Told Error → Store → Type 0
LivesOn wild from life told to = (start : Store) → AreAlike from start → (end : Store) × IsLife wild start life told end × AreAlike to end

-- What a disk holds between lives: a store with a beginning of some commands or, where crashes may be wild, what one left where each usual crash left that.
abbrev pub Holds : Bool → DiskState → Store → List Command → Type 0
Holds wild state base pending = HoldsAmid state base pending ⊎ (IsTrue wild × IsLeftWildly state (StandsAmid base [] pending))

-- What a life leaves of a disk, where a store with a beginning of some commands stood on it: the next store with a beginning of those that wait, each of
-- which the life went on to from one of the former.
pub record GoesOn (wild : Bool) (base : Store) (pending : List Command) (life : Life) (told : Result Told Error) (new : Meaning) : Type 0 where
  pub next : Store
  pub waits : List Command
  pub holds : Holds wild (state_in new) next waits
  pub each : (front : List Command) → IsBeginning front waits → (before : List Command) × IsBeginning before pending × LivesOn wild (kept (fold base before)) life told (kept (fold next front))

-- whatever stood there, and whether or not crashes may be wild
abbrev pub PassesOn : Meaning → Life → Result Told Error → Meaning → Type 0
PassesOn old life told new = (wild : Bool) (base : Store) (pending : List Command) → Holds wild (state_in old) base pending → GoesOn wild base pending life told new

-- What an engine leaves of a disk that opened as this store and lived so: the next store with a beginning of those commands that wait, to each of which the
-- life went on.
pub record Leaves (start : Store) (life : Life) (told : Result Told Error) (new : Meaning) : Type 0 where
  pub next : Store
  pub waits : List Command
  pub holds : HoldsAmid (state_in new) next waits
  pub each : (front : List Command) → IsBeginning front waits → LivesOn false start life told (kept (fold next front))

-- the same of an engine without transactions that opened as whatever store
abbrev pub ServesOn : Held → Kept → Life → Result Told Error → Meaning → Type 0
ServesOn core kept_there life told new = kept_there ≡ none_kept → (start : Store) → kept start ≡ start → OpensAs core start → Leaves start life told new
