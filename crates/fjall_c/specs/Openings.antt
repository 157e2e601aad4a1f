-- What comes of a session's opening, of its flushes, and of its closing.
use Rattle.std.specs.Prelude.{ℕ, ◌≡◌, ◌⊎◌, ◌∷◌, [], List, OnErr, OnOk, Option, Some, None, Result, Ok, Err}
use Rattle.fjall_base.specs.Disk.{Append, File, Folder, Meaning, Name, Sync, Took, making, state_in}
use Rattle.fjall_base.specs.Pairs.{Bytes}
use Rattle.fjall_base.specs.Store.{Store}
use Rattle.fjall_base.specs.declared.error.Error.{Error}
use Rattle.fjall_base.specs.declared.error.Error.TheVariants.{OutOfMemory, Poisoned}
use Rattle.fjall_history.specs.declared.reply.Reply.{Reply}
use Rattle.fjall_history.specs.declared.reply.Reply.TheVariants.{Refused}
use Rattle.fjall_journal.specs.declared.recovery_mode.RecoveryMode.TheVariants.{TolerateCorruptTail}
use Rattle.fjall_machine.specs.Places.{resolved_all}
use Rattle.fjall_machine.specs.declared.call.Call.{Call}
use Rattle.fjall_machine.specs.declared.call.Call.TheVariants.{FlushBegin, FlushFinish, Maintenance, MergeBegin, MergeFinish, RotateMemtable}
use Rattle.fjall_core.specs.CoreStanding.{ClosesDisk, ClosesSafely, HoldsStore, OwesAll, OwesClosing, Runs, RunsSafely}
use Rattle.fjall_core.specs.Holding.{Held}
use Rattle.fjall_core.specs.Openings.{IsDueTo, KeepsStore, OpensAs, OpensFolder}
use Rattle.fjall_core.specs.Transactions.{Kept, none_kept}
use Rattle.fjall_c.specs.Live.{Live}

-- ---- files

-- A folder was told of, as a disk makes it. A database that was opened takes none.
abbrev pub PutsFolder : Name → Option Meaning → Option Meaning → Result Unit Error → Type 0
PutsFolder name (Some old) (Some new) result = OnOk result (Took old new (making name Folder (state_in old name).now)) × OnErr result (Took old new [])
PutsFolder name (Some old) None result = ⊥
PutsFolder name None new result = (result ≡ Err Poisoned) × (new ≡ None)

-- a disk made a file, added these bytes to it, and synced it
abbrev pub PutsSynced : Name → Bytes → Meaning → Meaning → Type 0
PutsSynced name bytes old new =
    (made filled : Meaning) × Took old made (making name (File [] []) (state_in old name).now) × Took made filled (Append name bytes ∷ []) × Took filled new (Sync name ∷ [])

-- A file was told of: a disk makes it, adds the bytes, and syncs it. A database that was opened takes none.
abbrev pub PutsFile : Name → Bytes → Option Meaning → Option Meaning → Result Unit Error → Type 0
PutsFile name bytes (Some old) (Some new) result = OnOk result (PutsSynced name bytes old new)
PutsFile name bytes (Some old) None result = ⊥
PutsFile name bytes None new result = (result ≡ Err Poisoned) × (new ≡ None)

-- ---- openings

-- An engine was opened over what a disk held, and no transaction has committed: it stands for what stood there. Whatever store the disk
-- held, that is its own, and a crash at each moment of the opening leaves it.
pub record IsOpenedOver (files : Meaning) (engine : Held) (kept : Kept) : Type 0 where
  pub stands : OpensFolder files engine
  pub store : (store : Store) → HoldsStore (state_in files) store → OpensAs engine store
  pub any_moment : KeepsStore files engine.disk
  pub none : kept ≡ none_kept

-- The opening was refused for want of memory; or as the engine's is, in the mode that cuts a torn tail off: for what stands there, or for
-- a fault.
abbrev pub IsRefusedOver : Meaning → Error → Type 0
IsRefusedOver files error = (error ≡ OutOfMemory) ⊎ ((left : Meaning) × IsDueTo TolerateCorruptTail files left error)

-- What comes of an opening over these files: no transaction is open; or it was refused, and the database is closed. One that was opened
-- before is refused, and nothing changes.
abbrev pub OpensOver : Option Meaning → Option Live → Option Live → Result Unit Error → Type 0
OpensOver (Some files) old (Some new) (Ok done) = IsOpenedOver files new.engine new.kept × (new.going ≡ [])
OpensOver (Some files) old None (Err error) = IsRefusedOver files error
OpensOver (Some files) old new result = ⊥
OpensOver None old new result = (result ≡ Err Poisoned) × (new ≡ old)

-- ---- flushes

-- the engine's calls that a flush of a keyspace makes; the jobs are named by the places of the calls that begin them
abbrev pub flush_calls : ℕ → List Call
flush_calls id =
    RotateMemtable id
    ∷ FlushBegin id
    ∷ FlushFinish (record { number = 1; keyspace_id = 0 })
    ∷ MergeBegin id
    ∷ MergeFinish (record { number = 3; keyspace_id = 0 })
    ∷ Maintenance
    ∷ []

-- the first refusal among these replies
abbrev pub first_refusal : List Reply → Result Unit Error
first_refusal [] = Ok tt
first_refusal (Refused error ∷ replies) = Err error
first_refusal (reply ∷ replies) = first_refusal replies

-- A flush makes these calls one after another, over a disk that returns what it holds and that may crash, and tells the first refusal.
pub record RunsFlush (id : ℕ) (result : Result Unit Error) (old new : Held) : Type 0 where
  pub replies : List Reply
  pub told : result ≡ first_refusal replies
  pub runs : Runs old (resolved_all (flush_calls id) replies) replies new
  pub crash : RunsSafely old (resolved_all (flush_calls id) replies) replies new
  pub owes : OwesAll old (resolved_all (flush_calls id) replies) replies new

-- So it does, or nothing changes, for want of memory before.
abbrev pub FlushesEngine : ℕ → Held → Held → Result Unit Error → Type 0
FlushesEngine id old new result = RunsFlush id result old new ⊎ ((result ≡ Err OutOfMemory) × (new ≡ old))

-- So it is of an open database, all else of which stays. Where it isn't open it is refused.
abbrev pub Flushes : ℕ → Option Live → Option Live → Result Unit Error → Type 0
Flushes id (Some old) (Some new) result = FlushesEngine id old.engine new.engine result × (new ≡ record old { engine = new.engine })
Flushes id (Some old) None result = ⊥
Flushes id None new result = (result ≡ Err Poisoned) × (new ≡ None)

-- ---- closings

-- an engine was closed with this result, over a disk that is let go
pub record ClosesEngine (old : Held) (result : Result Unit Error) : Type 0 where
  pub disk : Meaning
  pub owes : OwesClosing old result disk
  pub took : ClosesDisk old result disk
  pub crash : ClosesSafely old result disk

-- The database is closed, whatever the result, as the engine's closing has it; where it wasn't open it is refused.
abbrev pub ClosesAs : Option Live → Option Live → Result Unit Error → Type 0
ClosesAs (Some old) new result = ClosesEngine old.engine result × (new ≡ None)
ClosesAs None new result = (result ≡ Err Poisoned) × (new ≡ None)
