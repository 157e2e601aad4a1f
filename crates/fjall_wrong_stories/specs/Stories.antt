-- Wrong stories: what engines can't have told, over any names, ids, keys, values and options.
use Rattle.std.specs.Prelude.{◌≡◌, ◌≢◌, ◌⊎◌, ⊤, ℕ, Bool, true, false, List, [], ◌∷◌, ◌++◌, length, map, is_some, All, Contains, Option, Some, None, Result, Ok, Err, Vec}
use Rattle.std.specs.declared.alloc.Global.{Global}
use Rattle.std.specs.declared.cmp.Ordering.TheVariants.{Less}
use Rattle.std.specs.declared.io.ErrorKind.{ErrorKind}
use Rattle.fjall_base.specs.Pairs.{Bytes, byte_order}
use Rattle.fjall_base.specs.Store.{Store}
use Rattle.fjall_base.specs.declared.error.Error.{Error}
use Rattle.fjall_base.specs.declared.error.Error.TheVariants.{Io, UnknownKeyspace}
use Rattle.fjall_journal.specs.Ops.{BatchItem}
use Rattle.fjall_journal.specs.declared.op.Op.{Op}
use Rattle.fjall_journal.specs.declared.op.Op.TheVariants.{Put}
use Rattle.fjall_journal.specs.declared.persist_mode.PersistMode.{PersistMode}
use Rattle.fjall_journal.specs.declared.persist_mode.PersistMode.TheVariants.{Buffer}
use Rattle.fjall_history.specs.declared.reply.Reply.{Reply}
use Rattle.fjall_history.specs.declared.reply.Reply.TheVariants.{Done, Flag, Number, Opened, Refused, Value}
use Rattle.fjall_history.specs.declared.ticket.Ticket.{Ticket}
use Rattle.fjall_history.specs.declared.ticket.View.{View}
use Rattle.fjall_history.specs.declared.ticket.View.TheVariants.{At, Present}
use Rattle.fjall_machine.specs.declared.call.Call.TheVariants as core
use Rattle.fjall_calls.specs.declared.call.Kind.TheVariants.{Optimistic, Single}
use Rattle.fjall_calls.specs.declared.call.TxCall.{TxCall}
use Rattle.fjall_calls.specs.declared.call.TxCall.TheVariants.{Begin, Commit, Core, Rollback, Within}
use Rattle.fjall_calls.specs.declared.call.Within.TheVariants as inner
use Rattle.fjall_consistency.specs.declared.life.Life.{Life}
use Rattle.fjall_consistency.specs.declared.life.Told.{Told}
use Rattle.fjall_consistency.specs.Consistency.{AreLives, RunsOut, is_fault, no_store}

-- ---- what a story is

-- a call with its reply
abbrev pub Step : Type 0
Step = TxCall × Reply

-- a life that told that it closed, or one that ended in any way, closed or let go
pub data Chapter : Type 0 where
  Closed : (steps : List Step) → Chapter
  Ended : (steps : List Step) → Chapter

-- a life had these calls and told these replies
abbrev pub HadSteps : Life → Told → List Step → Type 0
HadSteps life told steps = (life.calls.items ≡ map (λ step. step.0) steps) × (told.replies.items ≡ map (λ step. step.1) steps)

abbrev pub IsChapter : Life → Told → Chapter → Type 0
IsChapter life told (Closed steps) = HadSteps life told steps × (told.closed ≡ true)
IsChapter life told (Ended steps) = HadSteps life told steps

-- the first lives went so, whatever came behind them
abbrev pub Went : List Life → List (Result Told Error) → List Chapter → Type 0
Went lives told [] = ⊤
Went (life ∷ lives) (Ok told ∷ others) (chapter ∷ chapters) = IsChapter life told chapter × Went lives others chapters
Went lives told chapters = ⊥

-- this is so of some life that wasn't refused as a whole
abbrev pub SomeLife : (Life → Told → Type 0) → List Life → List (Result Told Error) → Type 0
SomeLife P (life ∷ lives) (Ok told ∷ others) = P life told ⊎ SomeLife P lives others
SomeLife P (life ∷ lives) (Err error ∷ others) = SomeLife P lives others
SomeLife P lives told = ⊥

-- what is said of lives and of what they told
abbrev pub Story : Type 1
Story = List Life → List (Result Told Error) → Type 0

-- it is of no lives that begin with no store, whether or not crashes may be wild
abbrev pub Never : Story → Type 0
Never story = (wild : Bool) (lives : List Life) (told : List (Result Told Error)) (end : Store) → AreLives wild no_store lives told end → story lives told → ⊥

-- it is of none where crashes aren't wild: of a file they leave the synced bytes with a beginning of the others
abbrev pub NeverTame : Story → Type 0
NeverTame story = (lives : List Life) (told : List (Result Told Error)) (end : Store) → AreLives false no_store lives told end → story lives told → ⊥

-- ---- calls

abbrev pub keyspace : Bytes → List Bytes → TxCall
keyspace name options = Core (core.Keyspace name options)

abbrev pub delete_keyspace : ℕ → TxCall
delete_keyspace id = Core (core.DeleteKeyspace id)

abbrev pub insert : ℕ → Bytes → Bytes → TxCall
insert id key value = Core (core.Insert id key value)

abbrev pub commit_batch : Vec BatchItem Global → Option PersistMode → TxCall
commit_batch items mode = Core (core.CommitBatch items mode)

abbrev pub persist : PersistMode → TxCall
persist mode = Core (core.Persist mode)

-- what a key has now
abbrev pub get : ℕ → Bytes → TxCall
get id key = Core (core.GetAt Present id key)

abbrev pub snapshot : TxCall
snapshot = Core core.Snapshot

-- what a key had at the snapshot that the call at this place of the life opened, counted from 0
abbrev pub get_at : ℕ → ℕ → Bytes → TxCall
get_at place id key = Core (core.GetAt (At (record { id = place; instant = 0 })) id key)

-- A reply to a read is wrong where this is what the key has: another one, or a refusal for another reason than that something ran out.
abbrev pub IsWrong : Option Bytes → Reply → Type 0
IsWrong value (Refused error) = RunsOut error → ⊥
IsWrong value reply = reply ≢ Value value

-- a reply that isn't a refusal
abbrev pub IsGranted : Reply → Type 0
IsGranted (Refused error) = ⊥
IsGranted reply = ⊤

-- ---- the stories

-- A sync was told anything but a refusal, and the next life doesn't find the value that was inserted before it.
abbrev pub AnAcknowledgedSyncIsLost : Story
AnAcknowledgedSyncIsLost lives told =
    (name : Bytes) × (options : List Bytes) × (id : ℕ) × (key value : Bytes) × (mode : PersistMode) × (mode ≢ Buffer)
    × (synced : Reply) × IsGranted synced × (reply : Reply) × IsWrong (Some value) reply
    × Went lives told (
    Ended ((keyspace name options, Number id) ∷ (insert id key value, Done) ∷ (persist mode, synced) ∷ [])
    ∷ Ended ((get id key, reply) ∷ []) ∷ [])

-- Of two keys that one batch wrote, the next life finds one and not the other.
abbrev pub HalfABatch : Story
HalfABatch lives told =
    (name : Bytes) × (options : List Bytes) × (id : ℕ) × (a b x y : Bytes) × (mode : Option PersistMode) × (items : Vec BatchItem Global)
    × (items.items ≡ (id, a, Put x) ∷ (id, b, Put y) ∷ []) × (v w : Option Bytes) × (is_some v ≢ is_some w)
    × Went lives told (
    Ended ((keyspace name options, Number id) ∷ (commit_batch items mode, Done) ∷ [])
    ∷ Ended ((get id a, Value v) ∷ (get id b, Value w) ∷ []) ∷ [])

-- A snapshot doesn't show the value that the key had as it was opened, but one that came later.
abbrev pub ASnapshotMoves : Story
ASnapshotMoves lives told =
    (name : Bytes) × (options : List Bytes) × (id : ℕ) × (key before later : Bytes) × (ticket : Ticket) × (later ≢ before)
    × Went lives told (Ended (
    (keyspace name options, Number id) ∷ (insert id key before, Done) ∷ (snapshot, Opened ticket)
    ∷ (insert id key later, Done) ∷ (get_at 2 id key, Value (Some later)) ∷ []) ∷ [])

-- A key has another value than the one that was inserted.
abbrev pub AValueThatNobodyWrote : Story
AValueThatNobodyWrote lives told =
    (name : Bytes) × (options : List Bytes) × (id : ℕ) × (key value other : Bytes) × (other ≢ value)
    × Went lives told (Ended (
    (keyspace name options, Number id) ∷ (insert id key value, Done) ∷ (get id key, Value (Some other)) ∷ []) ∷ [])

-- A key has a value, and nothing was inserted but at another key.
abbrev pub AValueFromAnotherKey : Story
AValueFromAnotherKey lives told =
    (name : Bytes) × (options : List Bytes) × (id : ℕ) × (key other value found : Bytes) × (other ≢ key)
    × Went lives told (Ended (
    (keyspace name options, Number id) ∷ (insert id other value, Done) ∷ (get id key, Value (Some found)) ∷ []) ∷ [])

-- A key of a new keyspace has a value, and nothing was inserted.
abbrev pub AValueFromNowhere : Story
AValueFromNowhere lives told =
    (name : Bytes) × (options : List Bytes) × (id : ℕ) × (key found : Bytes)
    × Went lives told (Ended ((keyspace name options, Number id) ∷ (get id key, Value (Some found)) ∷ []) ∷ [])

-- A value that no sync followed was found by the next life, and isn't by the one behind it.
abbrev pub AnOpeningForgets : Story
AnOpeningForgets lives told =
    (name : Bytes) × (options : List Bytes) × (id : ℕ) × (key value : Bytes) × (reply : Reply) × IsWrong (Some value) reply
    × Went lives told (
    Ended ((keyspace name options, Number id) ∷ (insert id key value, Done) ∷ [])
    ∷ Ended ((get id key, Value (Some value)) ∷ [])
    ∷ Ended ((get id key, reply) ∷ []) ∷ [])

-- Two optimistic transactions each read the key that the other one wrote, and both commit.
abbrev pub AWriteSkew : Story
AWriteSkew lives told =
    (name : Bytes) × (options : List Bytes) × (id : ℕ) × (a b x y : Bytes)
    × Went lives told (Ended (
    (keyspace name options, Number id)
    ∷ (Begin Optimistic, Done) ∷ (Begin Optimistic, Done)
    ∷ (Within 1 (inner.Get id a), Value None) ∷ (Within 2 (inner.Get id b), Value None)
    ∷ (Within 1 (inner.Write id b (Put x)), Done) ∷ (Within 2 (inner.Write id a (Put y)), Done)
    ∷ (Commit Optimistic 1, Flag true) ∷ (Commit Optimistic 2, Flag true) ∷ []) ∷ [])

-- An insert was refused, and the same life finds its value.
abbrev pub ARefusedCallTakesEffect : Story
ARefusedCallTakesEffect lives told =
    (name : Bytes) × (options : List Bytes) × (id : ℕ) × (key value found : Bytes) × (error : Error)
    × Went lives told (Ended (
    (keyspace name options, Number id) ∷ (insert id key value, Refused error) ∷ (get id key, Value (Some found)) ∷ []) ∷ [])

-- An insert was refused for another reason than a fault of the disk, and the next life finds its value.
abbrev pub ARefusedCallTakesEffectLater : Story
ARefusedCallTakesEffectLater lives told =
    (name : Bytes) × (options : List Bytes) × (id : ℕ) × (key value found : Bytes) × (error : Error) × (is_fault (Refused error) ≡ false)
    × Went lives told (
    Ended ((keyspace name options, Number id) ∷ (insert id key value, Refused error) ∷ [])
    ∷ Ended ((get id key, Value (Some found)) ∷ []) ∷ [])

-- The later of two inserts is found by the next life, and the earlier one isn't.
abbrev pub ALaterCallWithoutAnEarlierOne : Story
ALaterCallWithoutAnEarlierOne lives told =
    (name : Bytes) × (options : List Bytes) × (id : ℕ) × (a b x y : Bytes)
    × Went lives told (
    Ended ((keyspace name options, Number id) ∷ (insert id a x, Done) ∷ (insert id b y, Done) ∷ [])
    ∷ Ended ((get id b, Value (Some y)) ∷ (get id a, Value None) ∷ []) ∷ [])

-- An insert is refused as into a keyspace that nobody knows, and one of that id was just made.
abbrev pub AnUnknownKeyspaceThatLives : Story
AnUnknownKeyspaceThatLives lives told =
    (name : Bytes) × (options : List Bytes) × (id : ℕ) × (key value : Bytes)
    × Went lives told (Ended ((keyspace name options, Number id) ∷ (insert id key value, Refused UnknownKeyspace) ∷ []) ∷ [])

-- A life told that it closed, and the next one doesn't find the value that was inserted.
abbrev pub AClosedLifeLostSomething : Story
AClosedLifeLostSomething lives told =
    (name : Bytes) × (options : List Bytes) × (id : ℕ) × (key value : Bytes) × (reply : Reply) × IsWrong (Some value) reply
    × Went lives told (
    Closed ((keyspace name options, Number id) ∷ (insert id key value, Done) ∷ [])
    ∷ Ended ((get id key, reply) ∷ []) ∷ [])

-- Some life was refused as a whole with this error. A wild crash may leave what an opening refuses, so this is never only where crashes aren't wild.
abbrev pub AnOpeningIsRefused : Error → Story
AnOpeningIsRefused error lives told = Contains told (Err error)

-- A keyspace was deleted, and the next life finds a value in it.
abbrev pub ADeletedKeyspaceComesBack : Story
ADeletedKeyspaceComesBack lives told =
    (name : Bytes) × (options : List Bytes) × (id : ℕ) × (key value found : Bytes)
    × Went lives told (
    Ended ((keyspace name options, Number id) ∷ (insert id key value, Done) ∷ (delete_keyspace id, Done) ∷ [])
    ∷ Ended ((get id key, Value (Some found)) ∷ []) ∷ [])

-- ---- stories of any life, whatever came before and behind

-- a call that doesn't end the transaction of this place
abbrev pub LeavesOpen : ℕ → TxCall → Type 0
LeavesOpen place (Commit kind other) = other ≢ place
LeavesOpen place (Rollback other) = other ≢ place
LeavesOpen place call = ⊤

-- A single writer begins where another one began before, and was neither committed nor rolled back: so it may miss what that one writes.
abbrev pub TwoSingleWriters : Story
TwoSingleWriters = SomeLife (λ life told.
    (before between behind : List Step) × All (λ step. LeavesOpen (length before) step.0) between
    × HadSteps life told (before ++ ((Begin Single, Done) ∷ between ++ (Begin Single, Done) ∷ behind)))

-- A keyspace was made and deleted, and takes an insert in the same life.
abbrev pub ADeletedKeyspaceTakesWrites : Story
ADeletedKeyspaceTakesWrites = SomeLife (λ life told.
    (name : Bytes) × (options : List Bytes) × (id : ℕ) × (key value : Bytes) × (before between more behind : List Step)
    × HadSteps life told (
    before ++ ((keyspace name options, Number id) ∷ between ++ ((delete_keyspace id, Done) ∷ more ++ (insert id key value, Done) ∷ behind))))

-- A keyspace was made and deleted, and to clear it in the same life is told a fault of the disk, behind which it may take effect.
abbrev pub AFaultClearsADeletedKeyspace : Story
AFaultClearsADeletedKeyspace = SomeLife (λ life told.
    (name : Bytes) × (options : List Bytes) × (id : ℕ) × (fault : ErrorKind) × (before between more behind : List Step)
    × HadSteps life told (
    before ++ ((keyspace name options, Number id) ∷ between ++ ((delete_keyspace id, Done) ∷ more ++ (Core (core.Clear id), Refused (Io fault)) ∷ behind))))

-- An ingestion of two items whose keys don't ascend is told a fault of the disk, behind which it may take effect.
abbrev pub AFaultIngestsOutOfOrder : Story
AFaultIngestsOutOfOrder = SomeLife (λ life told.
    (id : ℕ) × (items : Vec (Bytes × Op) Global) × (first second : Bytes × Op) × (items.items ≡ first ∷ second ∷ []) × (byte_order first.0 second.0 ≢ Less)
    × (fault : ErrorKind) × (before behind : List Step) × HadSteps life told (before ++ (Core (core.Ingest id items), Refused (Io fault)) ∷ behind))

-- An insert under the empty key is done.
abbrev pub AWriteWithoutAKey : Story
AWriteWithoutAKey = SomeLife (λ life told.
    (id : ℕ) × (value : Bytes) × (before behind : List Step) × HadSteps life told (before ++ (insert id [] value, Done) ∷ behind))

-- no creation told this id
abbrev pub TellNoId : ℕ → List Step → Type 0
TellNoId id = All (λ step. (name : Bytes) (options : List Bytes) → step ≢ (keyspace name options, Number id))

-- An insert is done in the first life into an id that no creation told before.
abbrev pub AWriteIntoNoKeyspace : Story
AWriteIntoNoKeyspace lives told =
    (id : ℕ) × (key value : Bytes) × (before behind : List Step) × TellNoId id before × Went lives told (Ended (before ++ (insert id key value, Done) ∷ behind) ∷ [])

-- A read in the first life, of now or of a snapshot, is told a value or none in an id that no creation told before.
abbrev pub AnUnknownKeyspaceIsRead : Story
AnUnknownKeyspaceIsRead lives told =
    (view : View) × (id : ℕ) × (key : Bytes) × (found : Option Bytes) × (before behind : List Step) × TellNoId id before
    × Went lives told (Ended (before ++ (Core (core.GetAt view id key), Value found) ∷ behind) ∷ [])

-- no creation by this name told an id
abbrev pub MakeNone : Bytes → List Step → Type 0
MakeNone name = All (λ step. (options : List Bytes) (id : ℕ) → step ≢ (keyspace name options, Number id))

-- A fault of the disk refuses in the first life to make a keyspace, and behind it one is made, by the same new name or by another: which
-- ids the next life knows depends on what the fault left.
abbrev pub AFaultShiftsTheIds : Story
AFaultShiftsTheIds lives told =
    (name other : Bytes) × (options more : List Bytes) × (error : Error) × (is_fault (Refused error) ≡ true) × (id : ℕ)
    × (before between behind : List Step) × MakeNone name before × MakeNone other before
    × Went lives told (Ended (before ++ ((keyspace name options, Refused error) ∷ between ++ (keyspace other more, Number id) ∷ behind)) ∷ [])

-- The same with an insert that is done behind the fault.
abbrev pub AWriteBehindAFault : Story
AWriteBehindAFault lives told =
    (name : Bytes) × (options : List Bytes) × (error : Error) × (is_fault (Refused error) ≡ true) × (id : ℕ) × (key value : Bytes)
    × (before between behind : List Step) × MakeNone name before
    × Went lives told (Ended (before ++ ((keyspace name options, Refused error) ∷ between ++ (insert id key value, Done) ∷ behind)) ∷ [])

-- A life that was let go told that it closed.
abbrev pub ALifeThatWasLetGoClosed : Story
ALifeThatWasLetGoClosed = SomeLife (λ life told. (life.closes ≡ false) × (told.closed ≡ true))
