-- Engines one after another on one disk, each of which may be cut off at any moment, left as it is, or refused.
use Rattle.std.specs.Prelude.{◌≡◌, ℕ, ◌<◌, Ok, Err, List, [], ◌∷◌, ◌++◌, Option, Some, None, IfSome, Result}
use Rattle.std.specs.List.{flat_map}
use Rattle.fjall_base.specs.Crash.{IsHoused}
use Rattle.fjall_base.specs.Store.{Command, Store, fold, kept}
use Rattle.fjall_base.specs.Disk.{DiskState, DiskStep, Image, IsImageBy, LeavesBy, LeavesOnly, Meaning, Took, disk_of, state_in}
use Rattle.fjall_base.specs.declared.error.Error.{Error}
use Rattle.fjall_recovery.specs.Folders.{ImageStandsFor}
use Rattle.fjall_recovery.specs.Amid.{HoldsAmid}
use Rattle.fjall_files.specs.Tidy.{StaysTidy}
use Rattle.fjall_recovery.specs.Wild.{SurvivesUnforged}
use Rattle.fjall_machine.specs.Machine as machine
use Rattle.fjall_machine.specs.Machine.{present}
use Rattle.fjall_machine.specs.declared.call.Call.{Call}
use Rattle.fjall_history.specs.declared.reply.Reply.{Reply}
use Rattle.fjall_engine.specs.Holding.{Held}
use Rattle.fjall_engine.specs.Durables.{Durable, IsBeginning, StandsAmid}
use Rattle.fjall_engine.specs.Crashes.{IsSyncAt}
use Rattle.fjall_engine.specs.Openings.{OpensAfterCrash, OpensAs, StaysAmid, state_when_opened}
use Rattle.fjall_engine.specs.Standing.{ClosesSafely, OwesClosing, RunsOn}

-- what a core was that just opened as this store: the state of the machine, and that nothing is pending on its disk
abbrev pub start_of : (core : Held) (store : Store) → OpensAs core store → machine.State
start_of core store opens = state_when_opened core store opens.entries [] opens.next

abbrev pub life_begun : Held → Store → Durable
life_begun core store = record { meaning = core.disk; base = store; pending = [] }

-- a core that opened as this store served these calls
abbrev pub Served : (core : Held) (store : Store) → OpensAs core store → List Call → List Reply → Held → Type 0
Served core store opens calls replies new = RunsOn core calls replies new (start_of core store opens) (life_begun core store)

-- The store that one life of an engine was shown, where it opened; its calls with their replies, the commands that it tried,
-- and those of them that a sync followed which succeeded.
pub record PastLife : Type 0 where
  pub showed : Option Store
  pub calls : List Call
  pub replies : List Reply
  pub tried : List Command
  pub synced : List Command

-- a life that ended before its first call
abbrev pub unlived : PastLife
unlived = record { showed = None; calls = []; replies = []; tried = []; synced = [] }

-- what was tried up to the last sync of the run that succeeded; where none did, nothing
pub data LastSync (core new : Held) (store : Store) (calls : List Call) (replies : List Reply) (opens : OpensAs core store) (run : Served core store opens calls replies new) : List Command → Type 0 where
  NoSync : ((i : ℕ) → IsSyncAt (start_of core store opens) (life_begun core store) calls replies run.tried run.state run.durable run.run i → ⊥) → LastSync core new store calls replies opens run []
  UpTo : (i : ℕ) (sync : IsSyncAt (start_of core store opens) (life_begun core store) calls replies run.tried run.state run.durable run.run i)
      → ((j : ℕ) → i < j → IsSyncAt (start_of core store opens) (life_begun core store) calls replies run.tried run.state run.durable run.run j → ⊥)
      → LastSync core new store calls replies opens run (run.synced i sync).before

-- How the life of an engine ended that opened as this store and served these calls: what a sync followed, and what the disk
-- holds, a store with a beginning of the commands that wait. The power went at some moment of its calls, of its calls since
-- a sync, behind them all, or in its closing; and what it left, where the bytes behind the synced ones of a file may be any that forge
-- nothing, stands for one store. Or the engine was dropped; or its closing was refused, or done.
pub data Ended (core new : Held) (store : Store) (calls : List Call) (replies : List Reply) (opens : OpensAs core store) (run : Served core store opens calls replies new) : List Command → DiskState → Store → List Command → Type 0 where
  CutInCalls : (added : List DiskStep) (image : Image) (left : Store) → Took core.disk new.disk added → LeavesBy SurvivesUnforged (state_in core.disk) added image → ImageStandsFor image left
      → Ended core new store calls replies opens run [] (disk_of image) left []
  CutBehindSync : (i : ℕ) (sync : IsSyncAt (start_of core store opens) (life_begun core store) calls replies run.tried run.state run.durable run.run i) (late : List DiskStep) (image : Image) (left : Store)
      → Took (run.synced i sync).safe.moment new.disk late → LeavesBy SurvivesUnforged (state_in (run.synced i sync).safe.moment) late image → ImageStandsFor image left
      → Ended core new store calls replies opens run (run.synced i sync).before (disk_of image) left []
  CutBehind : (synced : List Command) (image : Image) (left : Store) → LastSync core new store calls replies opens run synced → IsImageBy SurvivesUnforged (state_in new.disk) image → ImageStandsFor image left
      → Ended core new store calls replies opens run synced (disk_of image) left []
  CutInClosing : (synced : List Command) (result : Result Unit Error) (disk : Meaning) (added : List DiskStep) (image : Image) (left : Store) → LastSync core new store calls replies opens run synced
      → ClosesSafely new result disk → Took new.disk disk added → LeavesBy SurvivesUnforged (state_in new.disk) added image → ImageStandsFor image left → Ended core new store calls replies opens run synced (disk_of image) left []
  Dropped : (synced : List Command) → LastSync core new store calls replies opens run synced → IsHoused (state_in new.disk) → Ended core new store calls replies opens run synced (state_in new.disk) run.durable.base run.durable.pending
  Unclosed : (synced : List Command) (error : Error) (disk : Meaning) → LastSync core new store calls replies opens run synced → (safely : ClosesSafely new (Err error) disk)
      → Ended core new store calls replies opens run synced (state_in disk) (safely run.state run.durable run.stands run.reads run.on).after.base (safely run.state run.durable run.stands run.reads run.on).after.pending
  Closed : (disk : Meaning) → OwesClosing new (Ok tt) disk → ClosesSafely new (Ok tt) disk → Ended core new store calls replies opens run run.tried (state_in disk) (kept (present run.state)) []

-- One life of an engine, from a disk that holds this base with a beginning of what is pending to one that holds the next. Its
-- opening was refused, or the power went at some moment of it; or it opened, served calls, and ended so.
pub data Lived (old : Meaning) (base : Store) (pending : List Command) : PastLife → DiskState → Store → List Command → Type 0 where
  Unopened : (new : Meaning) → StaysAmid old new base pending → Lived old base pending unlived (state_in new) base pending
  CutInOpening : (new : Meaning) (added : List DiskStep) (image : Image) (left : Store) → LeavesOnly old new (StandsAmid base [] pending)
      → StaysTidy old new → Took old new added → LeavesBy SurvivesUnforged (state_in old) added image → ImageStandsFor image left → Lived old base pending unlived (disk_of image) left []
  Opened : (core new : Held) (calls : List Call) (replies : List Reply) (synced : List Command) (end : DiskState) (next : Store) (waits : List Command) (opened : OpensAfterCrash old core base pending)
      (run : Served core (kept (fold base opened.front)) opened.opens calls replies new) → Ended core new (kept (fold base opened.front)) calls replies opened.opens run synced end next waits
      → Lived old base pending (record { showed = Some (kept (fold base opened.front)); calls = calls; replies = replies; tried = run.tried; synced = synced }) end next waits

-- Lives one after another, from a disk that held the one store to one that holds the base with a beginning of what is pending:
-- each begins on what the one before it left.
pub data Lives (first : DiskState) (start : Store) : List PastLife → DiskState → Store → List Command → Type 0 where
  NoLife : Lives first start [] first start []
  OneMore : (lives : List PastLife) (life : PastLife) (old : Meaning) (base : Store) (pending : List Command) (new : DiskState) (next : Store) (waits : List Command) → Lives first start lives (state_in old) base pending
      → Lived old base pending life new next waits → Lives first start (lives ++ life ∷ []) new next waits

-- Of what a life tried this is left: a beginning, with all that a sync followed which succeeded.
pub record IsLeftOf (life : PastLife) (front : List Command) : Type 0 where
  pub safe : IsBeginning life.synced front
  pub within : IsBeginning front life.tried

-- a life that was shown a store was shown just this one
abbrev pub ShowedOnly : PastLife → Store → Type 0
ShowedOnly life store = IfSome life.showed (λ shown. shown ≡ store)

-- After such a life the disk holds the next store with a beginning of what waits, whatever a crash leaves of it; and each of
-- these is the base with a beginning of what was pending, which is just what the life was shown, where it was, and behind it
-- what is left of the life.
pub record LifeGoesOn (base : Store) (pending : List Command) (life : PastLife) (state : DiskState) (next : Store) (waits : List Command) : Type 0 where
  pub amid : HoldsAmid state next waits
  pub each : (front : List Command) → IsBeginning front waits
      → (before left : List Command) × IsBeginning before pending × ShowedOnly life (kept (fold base before)) × IsLeftOf life left × (kept (fold next front) ≡ kept (fold base (before ++ left)))

-- of each of these lives one after another
abbrev pub AreLeftOf : List PastLife → List (List Command) → Type 0
AreLeftOf [] [] = Unit {0}
AreLeftOf (life ∷ lives) (front ∷ fronts) = IsLeftOf life front × AreLeftOf lives fronts
AreLeftOf lives fronts = ⊥

-- all of it, in order
abbrev pub all_left : List (List Command) → List Command
all_left fronts = flat_map (λ front. front) fronts

-- These lives are one chain of stores, from the first to the last: what a life was shown, where it was, is just the store that
-- those before it left, and the next store is this one with what is left of the life.
abbrev pub AreChained : Store → List PastLife → List (List Command) → Store → Type 0
AreChained first [] [] last = last ≡ first
AreChained first (life ∷ lives) (front ∷ fronts) last = ShowedOnly life first × IsLeftOf life front × AreChained (kept (fold first front)) lives fronts last
AreChained first lives fronts last = ⊥

-- The store is the last of the chain that these lives are from the start. So it is the fold of what is left of them, in order.
pub record IsFoldOf (start : Store) (lives : List PastLife) (store : Store) : Type 0 where
  pub fronts : List (List Command)
  pub chain : AreChained (kept start) lives fronts store
  pub left : AreLeftOf lives fronts
  pub same : store ≡ kept (fold start (all_left fronts))

-- The disk holds the base with a beginning of what is pending, whatever a crash leaves of it, and each of these is the last
-- store of the chain that these lives are.
pub record HoldsFold (start : Store) (lives : List PastLife) (state : DiskState) (base : Store) (pending : List Command) : Type 0 where
  pub amid : HoldsAmid state base pending
  pub each : (front : List Command) → IsBeginning front pending → IsFoldOf start lives (kept (fold base front))
