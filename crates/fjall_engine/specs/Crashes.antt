-- Runs of calls over a disk that may crash, and what the syncs among them make safe.
use Rattle.std.specs.Prelude.{◌≡◌, ℕ, zero, suc, List, [], ◌∷◌, ◌++◌, take, Bool, Option, Some, None, IsSome, true, false, if◌then◌else◌}
use Rattle.fjall_base.specs.Store.{Command, Create, Delete, fold, kept}
use Rattle.fjall_base.specs.Disk.{DeviceFailed, Image, IsImage, Meaning, Took, LeavesOnly, state_in}
use Rattle.fjall_base.specs.Disk as disk
use Rattle.fjall_base.specs.declared.error.Error.{Error}
use Rattle.fjall_base.specs.declared.error.Error.TheVariants.{Io}
use Rattle.fjall_journal.specs.declared.persist_mode.PersistMode.{PersistMode}
use Rattle.fjall_journal.specs.declared.persist_mode.PersistMode.TheVariants.{Buffer, SyncData, SyncAll}
use Rattle.fjall_machine.specs.declared.call.Call.{Call}
use Rattle.fjall_history.specs.declared.reply.Reply.{Reply}
use Rattle.fjall_history.specs.declared.reply.Reply.TheVariants.{Refused}
use Rattle.fjall_files.specs.Tidy.{IsTidy, StaysTidy}
use Rattle.fjall_meta.specs.Replays.{option_pairs}
use Rattle.fjall_recovery.specs.Folders.{ImageStandsFor}
use Rattle.fjall_journal.specs.Changes.{Emptied, Items, command_of}
use Rattle.fjall_compaction.specs.Ingests.{ingestion}
use Rattle.fjall_history.specs.Histories.{Accepted, commands_of, extended}
use Rattle.fjall_machine.specs.Shapes.{CallShape, OfChange, OfCreation, OfDeletion, OfFlushBegin, OfIngestion, OfJournalRotation, OfPersist, shape_of}
use Rattle.fjall_machine.specs.Machine.{State, Step, begins_flush, names_one, is_living, mode_in, present}
use Rattle.fjall_engine.specs.Durables.{Durable, IsBeginning, StandsAmid, Passes}

-- the command that a call asks for in that state
abbrev pub commands_asked : State → CallShape → List Command
commands_asked s (OfChange (Items (item ∷ items)) how) = command_of (Items (item ∷ items)) ∷ []
commands_asked s (OfChange (Emptied id) how) = command_of (Emptied id) ∷ []
commands_asked s (OfIngestion id (item ∷ items)) = ingestion id (item ∷ items) ∷ []
commands_asked s (OfCreation name options) = if names_one (present s) name then [] else (Create name (option_pairs options) ∷ [])
commands_asked s (OfDeletion id) = if is_living (present s) id then (Delete id ∷ []) else []
commands_asked s shape = []

-- it tells of a fault of the disk
abbrev pub is_io : Error → Bool
is_io (Io kind) = true
is_io error = false

-- what a call in that state tried to do: its command, where it was accepted or a fault of the disk refused it
abbrev pub attempt : State → CallShape → Reply → List Command
attempt s shape (Refused error) = if is_io error then commands_asked s shape else []
attempt s shape reply = commands_asked s shape

-- the modes of a persist that sync the journal
abbrev pub IsSyncMode : PersistMode → Type 0
IsSyncMode Buffer = ⊥
IsSyncMode SyncData = Unit {0}
IsSyncMode SyncAll = Unit {0}

-- a change with such a mode
abbrev pub IsSyncOf : Option PersistMode → Type 0
IsSyncOf None = ⊥
IsSyncOf (Some mode) = IsSyncMode mode

-- A call that syncs all that was accepted, where it succeeds: an ingestion, a creation, a deletion, a rotation of the journal and
-- a flush that begins do so too.
abbrev pub Syncs : State → CallShape → Type 0
Syncs s (OfChange (Items (item ∷ items)) how) = IsSyncOf (mode_in (present s) how)
Syncs s (OfChange (Emptied id) how) = IsSyncOf (mode_in (present s) how)
Syncs s (OfIngestion id (item ∷ items)) = Unit {0}
Syncs s (OfCreation name options) = names_one (present s) name ≡ false
Syncs s (OfDeletion id) = is_living (present s) id ≡ true
Syncs s OfJournalRotation = Unit {0}
Syncs s (OfFlushBegin id) = begins_flush s.parts.trees id ≡ true
Syncs s (OfPersist mode) = IsSyncMode mode
Syncs s shape = ⊥

-- in that state, a sync that succeeded
abbrev pub IsSync : State → CallShape → Reply → Type 0
IsSync s shape (Refused error) = ⊥
IsSync s shape reply = Syncs s shape

-- `Io` is answered only where the device failed, and no call of the disk was one that no disk can serve
abbrev pub BlamesDevice : Reply → Meaning → Meaning → Type 0
BlamesDevice (Refused (Io kind)) old new = DeviceFailed old new
BlamesDevice reply old new = new.misuses ≡ old.misuses

-- what one call in that state leaves, and where it was a sync that succeeded, nothing is pending
abbrev pub CallLeaves : State → Durable → CallShape → Reply → Durable → Type 0
CallLeaves s old shape reply new = Passes old (attempt s shape reply) new × (IsSync s shape reply → new.pending ≡ [])

-- The same; where nothing stands in the way the device is to blame for `Io`, and the call put at each name only what may
-- stand there.
abbrev pub CallPasses : State → Durable → CallShape → Reply → Durable → Type 0
CallPasses s old shape reply new =
    Passes old (attempt s shape reply) new × (IsSync s shape reply → new.pending ≡ []) × (IsTidy (state_in old.meaning) → BlamesDevice reply old.meaning new.meaning) × StaysTidy old.meaning new.meaning

-- These replies to these calls, one step after another, on a disk that goes through what such steps leave; the commands
-- tried in order.
abbrev pub RunOn : State → Durable → List Call → List Reply → List Command → State → Durable → Type 0
RunOn s d [] [] tried t e = (tried ≡ []) × (t ≡ s) × (e ≡ d)
RunOn s d (call ∷ calls) (reply ∷ replies) tried t e =
    (mid : State) × (on : Durable) × (rest : List Command)
    × Step s call reply mid × CallPasses s d (shape_of call) reply on × (tried ≡ attempt s (shape_of call) reply ++ rest) × RunOn mid on calls replies rest t e
RunOn s d calls replies tried t e = ⊥

-- each `Io` of such a run was the device's failing
abbrev pub BlamesEach : (s : State) (d : Durable) (calls : List Call) (replies : List Reply) (tried : List Command) (t : State) (e : Durable) → RunOn s d calls replies tried t e → Type 0
BlamesEach s d (call ∷ calls) (reply ∷ replies) tried t e (mid, on, rest, step, passes, is, run) = BlamesDevice reply d.meaning on.meaning × BlamesEach mid on calls replies rest t e run
BlamesEach s d calls replies tried t e run = Unit {0}

abbrev pub at_most_one : Option Command → List Command
at_most_one None = []
at_most_one (Some command) = command ∷ []

-- What was tried from one state to the other was accepted, but for at most one command at the end, which a fault refused.
pub record Tried (s : State) (tried : List Command) (t : State) : Type 0 where
  pub accepted : List Accepted
  pub history : t.history ≡ extended s.history accepted
  pub refused : Option Command
  pub all : tried ≡ commands_of accepted ++ at_most_one refused
  pub fault : IsSome refused → t.poisoned ≡ true

-- the call at that place of the run was a sync that succeeded
abbrev pub IsSyncAt : (s : State) (d : Durable) (calls : List Call) (replies : List Reply) (tried : List Command) (t : State) (e : Durable) → RunOn s d calls replies tried t e → ℕ → Type 0
IsSyncAt s d (call ∷ calls) (reply ∷ replies) tried t e run zero = IsSync s (shape_of call) reply
IsSyncAt s d (call ∷ calls) (reply ∷ replies) tried t e (mid, on, rest, step, passes, is, run) (suc i) = IsSyncAt mid on calls replies rest t e run i
IsSyncAt s d calls replies tried t e run i = ⊥

-- There was a moment since old at which each crash left just these commands. From then on each crash leaves all of them.
pub record SafeSince (old : Durable) (before all : List Command) (new : Meaning) : Type 0 where
  pub moment : Meaning
  pub added : List disk.DiskStep
  pub passed : Took old.meaning moment added
  pub exactly : (image : Image) → IsImage (state_in moment) image → ImageStandsFor image (kept (fold old.base (old.pending ++ before)))
  pub since : LeavesOnly moment new (StandsAmid old.base (old.pending ++ before) (old.pending ++ all))

-- Of all that was tried these commands are in the new base, whatever else is; the rest is pending.
pub record Settled (old : Durable) (before all : List Command) (new : Durable) : Type 0 where
  pub safe : List Command
  pub has : IsBeginning (old.pending ++ before) safe
  pub base : kept new.base ≡ kept (fold old.base safe)
  pub rest : safe ++ new.pending ≡ old.pending ++ all

-- The sync at that place is such a moment: what the run tried up to it stays, and is in the base at the end.
pub record SafeAt (s : State) (d : Durable) (calls : List Call) (replies : List Reply) (i : ℕ) (tried : List Command) (e : Durable) (new : Meaning) : Type 0 where
  pub before : List Command
  pub mid : State
  pub on : Durable
  pub so_far : RunOn s d (take (suc i) calls) (take (suc i) replies) before mid on
  pub safe : SafeSince d before tried new
  pub settled : Settled d before tried e
