-- The calls that lines make, and the snapshots and transactions that they name.
use Rattle.std.specs.Prelude.{◌≡◌, ℕ, ◌+◌, ◌-◌, ◌^◌, ◌==◌, Bool, true, false, if◌then◌else◌, List, [], ◌∷◌, ◌++◌, length, map, Option, Some, None, slice_get, unwrap_or, Vec}
use Rattle.std.specs.List.{count_by, filter_map, flat_map}
use Rattle.std.specs.declared.alloc.Global.{Global}
use Rattle.std.specs.declared.ops.Bound.TheVariants.{Unbounded}
use Rattle.fjall_base.specs.Pairs.{Bytes}
use Rattle.fjall_journal.specs.Ops.{BatchItem}
use Rattle.fjall_journal.specs.declared.op.Op.{Op}
use Rattle.fjall_journal.specs.declared.op.Op.TheVariants as ops
use Rattle.fjall_journal.specs.declared.persist_mode.PersistMode.TheVariants.{Buffer, SyncAll}
use Rattle.fjall_options.specs.Options.{default_options}
use Rattle.fjall_history.specs.declared.job.JobId.{JobId}
use Rattle.fjall_history.specs.declared.ticket.Ticket.{Ticket}
use Rattle.fjall_history.specs.declared.ticket.View.TheVariants.{At, Present}
use Rattle.fjall_machine.specs.declared.call.Call.{Call}
use Rattle.fjall_machine.specs.declared.call.Call.TheVariants as calls
use Rattle.fjall_calls.specs.declared.call.Kind.TheVariants.{Optimistic}
use Rattle.fjall_calls.specs.declared.call.TxCall.{TxCall}
use Rattle.fjall_calls.specs.declared.call.TxCall.TheVariants as tx
use Rattle.fjall_calls.specs.declared.call.Within.TheVariants as within
use Rattle.fjall_lines.specs.declared.command.Command.{Command}
use Rattle.fjall_lines.specs.declared.command.Command.TheVariants.{Ask, Crash, CrashWild, Reopen}
use Rattle.fjall_lines.specs.declared.command.Request.{Request}
use Rattle.fjall_lines.specs.declared.command.Request.TheVariants.{Keyspace, Delete, Insert, Remove, RemoveWeak, Clear, Batch, Get, Len, Scan, Snapshot, GetAt, CloseSnapshot, Begin, TxGet, TxInsert, Commit, Gc, Rotate, Flush, Merge, Persist}
use Rattle.fjall_lines.specs.Lines.{Write}
use Rattle.fjall_script.specs.declared.calls.Job.{Job}
use Rattle.fjall_script.specs.declared.calls.Job.TheVariants as jobs
use Rattle.fjall_script.specs.declared.calls.LineCalls.{LineCalls}
use Rattle.fjall_script.specs.declared.calls.Numbers.{Numbers}

-- what a line asks of the engine; none for one that is no command, a crash or a reopening
abbrev pub request_of : Option Command → Option Request
request_of (Some (Ask request)) = Some request
request_of found = None

abbrev pub requests_of : List (Option Command) → List Request
requests_of lines = filter_map request_of lines

-- a crash or a reopening, which ends a list of calls
abbrev pub is_stop : Option Command → Bool
is_stop (Some (Crash keep)) = true
is_stop (Some (CrashWild fills)) = true
is_stop (Some Reopen) = true
is_stop found = false

-- the line asks for a wild crash
abbrev pub is_wild_crash : Option Command → Bool
is_wild_crash (Some (CrashWild fills)) = true
is_wild_crash found = false

-- ---- numbers of snapshots and transactions

-- it opens a snapshot or begins a transaction, and so asks for a number
abbrev pub opens : Request → Bool
opens Snapshot = true
opens Begin = true
opens request = false

-- how many numbers were asked for, refused ones too, where so many were before this request
abbrev pub asked_with : ℕ → Request → ℕ
asked_with earlier request = if opens request then earlier + 1 else earlier

-- the line asks for one
abbrev pub asks_number : Option Command → Bool
asks_number (Some (Ask request)) = opens request
asks_number found = false

-- how many numbers these lines ask for, refused ones too
abbrev pub numbers_in : List (Option Command) → ℕ
numbers_in lines = count_by asks_number lines

-- how many of a script's numbers were asked for before what is left of it
abbrev pub numbers_before : List (Option Command) → List (Option Command) → ℕ
numbers_before script rest = numbers_in script - numbers_in rest

-- ---- calls

-- the place of no call
abbrev pub nowhere : ℕ
nowhere = 2 ^ 64 - 1

-- The place of the call that a number was given to, among these places, those of the calls of one list that opened a snapshot or began a
-- transaction, where so many numbers were asked for before it. One that another list asked for, or none did, stands nowhere.
abbrev pub place_in : List ℕ → ℕ → ℕ → ℕ
place_in places earlier number = unwrap_or (slice_get places (number - earlier)) nowhere

abbrev pub place_by : Numbers → ℕ → ℕ
place_by numbers number = place_in numbers.places.items numbers.earlier number

-- within a list of calls a ticket is named by the place of the call that opened it
abbrev pub named : ℕ → Ticket
named place = record { id = place; instant = 0 }

-- the call for all pairs of a keyspace, in the order of their keys
abbrev pub all_pairs : ℕ → Call
all_pairs id = calls.PageAt Present id (Unbounded, Unbounded) false (2 ^ 64 - 1)

-- a key's new value, or its removal
abbrev pub op_of : Option Bytes → Op
op_of (Some value) = ops.Put value
op_of None = ops.Remove

abbrev pub item_of : Write → BatchItem
item_of write = (write.0, write.1, op_of write.2)

-- a batch of these writes, which is handed to the system
pub record IsBatch (writes : List Write) (call : TxCall) : Type 0 where
  pub items : Vec BatchItem Global
  pub is : call ≡ tx.Core (calls.CommitBatch items (Some Buffer))
  pub same : items.items ≡ map item_of writes

-- The call that a request makes, for a flush and a merge the one that begins it, where numbers stand for these places: one of the core, or one that begins,
-- is within, or commits an optimistic transaction.
abbrev pub IsCallOf : (ℕ → ℕ) → Request → TxCall → Type 0
IsCallOf place (Keyspace name) call = call ≡ tx.Core (calls.Keyspace name default_options)
IsCallOf place (Delete id) call = call ≡ tx.Core (calls.DeleteKeyspace id)
IsCallOf place (Insert id key value) call = call ≡ tx.Core (calls.Insert id key value)
IsCallOf place (Remove id key) call = call ≡ tx.Core (calls.Remove id key)
IsCallOf place (RemoveWeak id key) call = call ≡ tx.Core (calls.RemoveWeak id key)
IsCallOf place (Clear id) call = call ≡ tx.Core (calls.Clear id)
IsCallOf place (Batch writes) call = IsBatch writes call
IsCallOf place (Get id key) call = call ≡ tx.Core (calls.GetAt Present id key)
IsCallOf place (Len id) call = call ≡ tx.Core (all_pairs id)
IsCallOf place (Scan id) call = call ≡ tx.Core (all_pairs id)
IsCallOf place Snapshot call = call ≡ tx.Core calls.Snapshot
IsCallOf place (GetAt number id key) call = call ≡ tx.Core (calls.GetAt (At (named (place number))) id key)
IsCallOf place (CloseSnapshot number) call = call ≡ tx.Core (calls.CloseSnapshot (named (place number)))
IsCallOf place Begin call = call ≡ tx.Begin Optimistic
IsCallOf place (TxGet number id key) call = call ≡ tx.Within (place number) (within.Get id key)
IsCallOf place (TxInsert number id key value) call = call ≡ tx.Within (place number) (within.Write id key (ops.Put value))
IsCallOf place (Commit number) call = call ≡ tx.Commit Optimistic (place number)
IsCallOf place Gc call = call ≡ tx.Core calls.Gc
IsCallOf place (Rotate id) call = call ≡ tx.Core (calls.RotateMemtable id)
IsCallOf place (Flush id) call = call ≡ tx.Core (calls.FlushBegin id)
IsCallOf place (Merge id) call = call ≡ tx.Core (calls.MajorBegin id)
IsCallOf place Persist call = call ≡ tx.Core (calls.Persist SyncAll)

-- within a list of calls a job is named by the place of the call that began it
abbrev pub begun_at : ℕ → JobId
begun_at place = record { number = place; keyspace_id = 0 }

-- ---- jobs

-- the job that a request asks for: to flush a keyspace, or to merge its tables
abbrev pub job_of : Request → Option Job
job_of (Flush id) = Some (jobs.Flush id)
job_of (Merge id) = Some (jobs.Merge id)
job_of request = None

-- they are of one kind and of one keyspace
abbrev pub is_same : Job → Job → Bool
is_same (jobs.Flush id) (jobs.Flush other) = id == other
is_same (jobs.Merge id) (jobs.Merge other) = id == other
is_same job other = false

-- the call that finishes a job, which the call at this place began
abbrev pub finish_of : Job → ℕ → TxCall
finish_of (jobs.Flush id) place = tx.Core (calls.FlushFinish (begun_at place))
finish_of (jobs.Merge id) place = tx.Core (calls.MergeFinish (begun_at place))

-- The calls that finish what earlier lines may have left of a job: each that was begun, by its place. One whose finish was refused is out
-- still, and each other one is out no more.
abbrev pub left_of : Job → List (Job × ℕ) → List TxCall
left_of job [] = []
left_of job (begun ∷ rest) = if is_same job begun.0 then finish_of job begun.1 ∷ left_of job rest else left_of job rest

-- ---- lists of calls

-- The calls of a list so far: how many they are, the places of those that opened a snapshot or began a transaction, behind one that stands
-- nowhere, and the jobs that were begun, each with the place of the call that began it.
pub record SoFar : Type 0 where
  pub count : ℕ
  pub numbered : List ℕ
  pub begun : List (Job × ℕ)

abbrev pub none_so_far : SoFar
none_so_far = record { count = 0; numbered = nowhere ∷ []; begun = [] }

-- where the call of a request gets this place: one more opens or begins
abbrev pub numbered_with : List ℕ → ℕ → Request → List ℕ
numbered_with places place request = if opens request then places ++ place ∷ [] else places

-- The calls of a line behind so many, whose own call is this one. What earlier lines left of its job is finished first; then another is begun,
-- and finished.
abbrev pub calls_with : List (Job × ℕ) → ℕ → Option Job → TxCall → List TxCall
calls_with begun count None call = call ∷ []
calls_with begun count (Some job) call = let left = left_of job begun in left ++ call ∷ finish_of job (count + length left) ∷ []

-- the jobs that were begun by then
abbrev pub begun_with : List (Job × ℕ) → ℕ → Option Job → List (Job × ℕ)
begun_with begun count None = begun
begun_with begun count (Some job) = begun ++ (job, count + length (left_of job begun)) ∷ []

-- with the calls of one more request
abbrev pub behind : SoFar → Request → List TxCall → SoFar
behind so_far request mine = record {
  count = so_far.count + length mine;
  numbered = numbered_with so_far.numbered so_far.count request;
  begun = begun_with so_far.begun so_far.count (job_of request);
}

-- the calls that a request makes behind others, where so many numbers were asked for before the list
abbrev pub RequestMakes : ℕ → SoFar → Request → List TxCall → Type 0
RequestMakes earlier so_far request mine =
    (call : TxCall) × IsCallOf (place_in so_far.numbered earlier) request call × (mine ≡ calls_with so_far.begun so_far.count (job_of request) call)

-- the calls of requests one after another, those of each together, behind others
abbrev pub AreCallsBehind : ℕ → SoFar → List Request → List (List TxCall) → Type 0
AreCallsBehind earlier so_far [] [] = Unit {0}
AreCallsBehind earlier so_far (request ∷ rest) (mine ∷ made) = RequestMakes earlier so_far request mine × AreCallsBehind earlier (behind so_far request mine) rest made
AreCallsBehind earlier so_far requests made = ⊥

-- the calls of one list of lines, those of each request together, where so many numbers were asked for before it
abbrev pub AreCalls : ℕ → List (Option Command) → List (List TxCall) → Type 0
AreCalls earlier lines made = AreCallsBehind earlier none_so_far (requests_of lines) made

-- all of them, in order
abbrev pub all_calls : List (List TxCall) → List TxCall
all_calls made = flat_map (λ mine. mine) made

-- how many each request makes
abbrev pub counts_of : List (List TxCall) → List ℕ
counts_of made = map (λ mine. length mine) made

-- ---- how they are kept

-- the list so far
abbrev pub so_far_in : LineCalls → SoFar
so_far_in lines = record { count = length lines.calls.items; numbered = lines.numbers.places.items; begun = lines.begun.items }

-- A request added its calls.
pub record AddsCalls (request : Request) (old new : LineCalls) : Type 0 where
  pub mine : List TxCall
  pub makes : RequestMakes old.numbers.earlier (so_far_in old) request mine
  pub calls : new.calls.items ≡ old.calls.items ++ mine
  pub counts : new.counts.items ≡ old.counts.items ++ length mine ∷ []
  pub numbered : new.numbers.places.items ≡ numbered_with old.numbers.places.items (length old.calls.items) request
  pub begun : new.begun.items ≡ begun_with old.begun.items (length old.calls.items) (job_of request)
  pub earlier : new.numbers.earlier ≡ old.numbers.earlier

-- A line added its calls, where it has a request.
abbrev pub LineAdds : Option Request → LineCalls → LineCalls → Type 0
LineAdds None old new = new ≡ old
LineAdds (Some request) old new = AddsCalls request old new

-- They are those of these lines.
pub record AreOfLines (earlier : ℕ) (lines : List (Option Command)) (found : LineCalls) : Type 0 where
  pub made : List (List TxCall)
  pub are : AreCalls earlier lines made
  pub calls : found.calls.items ≡ all_calls made
  pub counts : found.counts.items ≡ counts_of made
