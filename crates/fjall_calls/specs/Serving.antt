-- What a core with its transactions owes as it serves a list of calls.
use Rattle.std.specs.Prelude.{◌≡◌, Bool, true, IsTrue, List, [], ◌∷◌, ◌++◌, length, map, not, Option, Some, ℕ, Result, Ok, Err}
use Rattle.fjall_base.specs.Pairs.{Bytes, lookup}
use Rattle.fjall_base.specs.declared.error.Error.{Error}
use Rattle.fjall_base.specs.declared.error.Error.TheVariants.{OutOfMemory}
use Rattle.fjall_history.specs.Queries.{Get}
use Rattle.fjall_history.specs.declared.reply.Reply.{Reply}
use Rattle.fjall_history.specs.declared.reply.Reply.TheVariants.{Done, Flag, Pairs, Refused, Value}
use Rattle.fjall_core.specs.CoreJob.{Job}
use Rattle.fjall_machine.specs.Machine.{State, Step}
use Rattle.fjall_machine.specs.Places.{resolved}
use Rattle.fjall_machine.specs.Shapes.{shape_of}
use Rattle.fjall_machine.specs.declared.call.Call.{Call}
use Rattle.fjall_core.specs.Holding.{Held}
use Rattle.fjall_core.specs.Jobs.{KeepsJobs, KeepsMerges, KnowsMerges}
use Rattle.fjall_core.specs.CoreStanding.{OwesAll, ReadsOn, Runs, RunsSafely, Serves, ServesWhere, StandsFor}
use Rattle.fjall_core.specs.Commits.{is_writing}
use Rattle.fjall_core.specs.Transactions.{Kept, Tx}
use Rattle.fjall_core.specs.Standing.{StandFor, CoreState}
use Rattle.fjall_calls.specs.declared.call.Kind.{Kind}
use Rattle.fjall_calls.specs.declared.call.Kind.TheVariants.{Optimistic, Single}
use Rattle.fjall_calls.specs.declared.call.TxCall.{TxCall}
use Rattle.fjall_calls.specs.declared.call.TxCall.TheVariants as calls
use Rattle.fjall_calls.specs.declared.call.Within.{Within}
use Rattle.fjall_calls.specs.declared.call.Within.TheVariants as within
use Rattle.fjall_calls.specs.declared.named.Named.{Named}
use Rattle.fjall_calls.specs.Acting.{Acts, AreFine, MayRunOut, call_for, query_of, seen_by, update_of, update_reply}
use Rattle.fjall_calls.specs.Steps.{TxRun, TxStep}
use Rattle.fjall_calls.specs.Worlds.{World, begins}

-- ---- calls of the core

-- calls of the core one after another, each served
abbrev pub ServesAll : Held → List Call → List Reply → Held → Type 0
ServesAll old [] [] new = new ≡ old
ServesAll old (call ∷ calls) (reply ∷ replies) new = (mid : Held) × Serves old (shape_of call) reply mid × ServesAll mid calls replies new
ServesAll old calls replies new = ⊥

-- Calls of the core, with their replies: over a disk that returns what it holds each is served, and over any disk each reply is owed.
pub record MakesCoreCalls (honest : Bool) (old : Held) (made : List Call) (told : List Reply) (new : Held) : Type 0 where
  pub serves : IsTrue honest → ServesAll old made told new
  pub owes : OwesAll old made told new

-- Calls of the core one after another, each served from whatever state knows the merges that are kept, and behind which those are known
-- that are kept then.
abbrev pub ServesKept : List Job → Held → List Call → List Reply → Held → List Job → Type 0
ServesKept jobs old [] [] new later = (new ≡ old) × (later ≡ jobs)
ServesKept jobs old (call ∷ calls) (reply ∷ replies) new later =
    (mid : Held) × (left : List Job) × ServesWhere (λ s. KnowsMerges s jobs) old (shape_of call) reply mid × KeepsMerges old jobs (shape_of call) reply left
    × ServesKept left mid calls replies new later
ServesKept jobs old calls replies new later = ⊥

-- the same of calls with their replies, as these are owed over any disk
pub record MakesKept (honest : Bool) (jobs : List Job) (old : Held) (made : List Call) (told : List Reply) (new : Held) (later : List Job) : Type 0 where
  pub serves : IsTrue honest → ServesKept jobs old made told new later
  pub owes : OwesAll old made told new

-- the jobs that are kept beside a core stay known, whatever reply to these calls is told
abbrev pub KeepsOn : Held → Held → Type 0
KeepsOn old new = (jobs : List Job) (replies : List Reply) → KeepsJobs old.memory jobs replies → KeepsJobs new.memory jobs replies

-- ---- calls within a transaction

-- What is found of a key within a transaction, where the core replied so: the core's refusal; or the value that the transaction sees; or memory
-- ran out.
pub data FoundWithin (s : State) (tx : Tx) (id : ℕ) (key : Bytes) : Reply → Result (Option Bytes) Error → Type 0 where
  IsRefused : (error : Error) → FoundWithin s tx id key (Refused error) (Err error)
  RunsOut : (reply : Reply) (fine : AreFine (reply ∷ [])) → FoundWithin s tx id key reply (Err OutOfMemory)
  IsSeen : (reply : Reply) (fine : AreFine (reply ∷ [])) (found : Option Bytes) (sees : found ≡ lookup (seen_by s tx id) key) → FoundWithin s tx id key reply (Ok found)

-- A key was looked for within a transaction, by one call of the core.
pub record LooksWithin (honest : Bool) (core : Held) (tx : Tx) (id : ℕ) (key : Bytes) (result : Result (Option Bytes) Error) (left : Held) : Type 0 where
  pub reply : Reply
  pub makes : MakesCoreCalls honest core (call_for tx id (Get key) ∷ []) (reply ∷ []) left
  pub keeps : KeepsOn core left
  pub finds : IsTrue honest → (s : State) → StandsFor core s → ReadsOn core s
      → (t : State) × StandsFor left t × ReadsOn left t × Step s (call_for tx id (Get key)) reply t × FoundWithin s tx id key reply result

-- what a call within a transaction may be answered: what it asks for, or a refusal
abbrev pub IsReplyIn : Within → Reply → Type 0
IsReplyIn call (Refused error) = Unit {0}
IsReplyIn (within.Get id key) (Value found) = Unit {0}
IsReplyIn (within.Page id range back max) (Pairs pairs) = Unit {0}
IsReplyIn (within.Write id key op) Done = Unit {0}
IsReplyIn (within.Take id key) (Value found) = Unit {0}
IsReplyIn (within.FetchUpdate id key new) (Value found) = Unit {0}
IsReplyIn (within.UpdateFetch id key new) (Value found) = Unit {0}
IsReplyIn (within.Durability mode) Done = Unit {0}
IsReplyIn call reply = ⊥

-- The call gives a key this value or none, and is answered the one of before.
pub record Fetches (call : Within) (id : ℕ) (key : Bytes) (new : Option Bytes) : Type 0 where
  pub queries : query_of call ≡ Some (id, Get key)
  pub updates : update_of call ≡ Some (id, key, new)
  pub answers : (found : Option Bytes) → update_reply call found ≡ Value found
  pub fits : (found : Option Bytes) → IsReplyIn call (Value found)
  pub may : (reply : Reply) → MayRunOut call (reply ∷ [])

-- A call within a transaction: the calls of the core that it comes to, and, whichever state the core stood for, what comes of it.
pub record ActsOn (honest : Bool) (core : Held) (tx : Tx) (call : Within) (reply : Reply) (left : Held) (after : Tx) : Type 0 where
  pub made : List Call
  pub told : List Reply
  pub makes : MakesCoreCalls honest core made told left
  pub keeps : KeepsOn core left
  pub fits : IsReplyIn call reply
  pub acts : IsTrue honest → (s : State) → StandsFor core s → ReadsOn core s
      → (t : State) × StandsFor left t × ReadsOn left t × Acts s tx call reply made told t after

-- ---- calls of a list

-- The core with what is kept beside it, and with these transactions open, may stand for that world.
pub record Stands (core : Held) (kept : Kept) (listed : List Named) (w : World) : Type 0 where
  pub told : StandFor core kept w.told
  pub writer : w.writer ≡ kept.writer
  pub going : map (λ g. g.named) w.going ≡ listed

-- whether one of this kind may begin
abbrev pub may_begin : Held → Kept → Kind → Bool
may_begin core kept Optimistic = true
may_begin core kept Single = not (is_writing core kept.writer)

-- what a call of a list may be answered, where it isn't the core's: what it asks for, or a refusal
abbrev pub IsReplyToCall : TxCall → Reply → Type 0
IsReplyToCall (calls.Core call) reply = ⊥
IsReplyToCall (calls.Within name call) reply = IsReplyIn call reply
IsReplyToCall call (Refused error) = Unit {0}
IsReplyToCall (calls.Begin kind) Done = Unit {0}
IsReplyToCall (calls.Commit kind name) (Flag committed) = Unit {0}
IsReplyToCall (calls.Rollback name) Done = Unit {0}
IsReplyToCall call reply = ⊥

-- The calls of the core that a call of a list comes to, with their replies: of the core's own calls that call, with its reply; of one of a
-- transaction, which has a reply of its kind, as many as there are replies to them.
pub data ComesTo (before : List Reply) : TxCall → Reply → List Call → List Reply → Type 0 where
  Itself : (call : Call) (reply : Reply) → ComesTo before (calls.Core call) reply (resolved before call ∷ []) (reply ∷ [])
  Others : (call : TxCall) (reply : Reply) (fits : IsReplyToCall call reply) (made : List Call) (told : List Reply) (each : length made ≡ length told)
      → ComesTo before call reply made told

-- the same of calls one after another, behind those that got the first replies
pub data AllCome : List Reply → List TxCall → List Reply → List Call → List Reply → Type 0 where
  NoneComes : (before : List Reply) → AllCome before [] [] [] []
  OneComes : (before : List Reply) (call : TxCall) (reply : Reply) (made : List Call) (told : List Reply) (more : List TxCall) (replies : List Reply)
      (later : List Call) (heard : List Reply) (first : ComesTo before call reply made told) (rest : AllCome (before ++ reply ∷ []) more replies later heard)
      → AllCome before (call ∷ more) (reply ∷ replies) (made ++ later) (told ++ heard)

-- One call of a list: the calls of the core that it comes to, and, whichever world the core stood for, its step.
pub record ServesTx (honest : Bool) (core : Held) (kept : Kept) (listed : List Named) (before : List Reply) (call : TxCall) (reply : Reply) (left : Held) (after : Kept) (rest : List Named) : Type 0 where
  pub made : List Call
  pub told : List Reply
  pub makes : MakesCoreCalls honest core made told left
  pub comes : ComesTo before call reply made told
  pub steps : IsTrue honest → (w : World) → Stands core kept listed w → ReadsOn core w.told.state
      → (v : World) × Stands left after rest v × ReadsOn left v.told.state × TxStep w before call reply made told v

-- The same of whichever world knows the merges that were kept, behind which those are known that are kept then.
pub record ServesListed (honest : Bool) (jobs later : List Job) (core : Held) (kept : Kept) (listed : List Named) (before : List Reply) (call : TxCall) (reply : Reply) (left : Held) (after : Kept) (rest : List Named) : Type 0 where
  pub made : List Call
  pub told : List Reply
  pub makes : MakesKept honest jobs core made told left later
  pub comes : ComesTo before call reply made told
  pub steps : IsTrue honest → (w : World) → Stands core kept listed w → ReadsOn core w.told.state → KnowsMerges w.told.state jobs
      → (v : World) × Stands left after rest v × ReadsOn left v.told.state × KnowsMerges v.told.state later × TxStep w before call reply made told v

-- The calls of a list, as a run: the calls of the core that they come to, of which a crash at any moment leaves what it may, and each reply is
-- owed; and, whichever state the core and what is kept beside it stood for, one step for each call.
pub record RunsTx (honest : Bool) (core : Held) (kept : Kept) (calls : List TxCall) (replies : List Reply) (left : Held) (after : Kept) : Type 0 where
  pub made : List Call
  pub told : List Reply
  pub core_runs : IsTrue honest → Runs core made told left
  pub safe : IsTrue honest → RunsSafely core made told left
  pub owes : OwesAll core made told left
  pub comes : AllCome [] calls replies made told
  pub runs : IsTrue honest → (t : CoreState) → StandFor core kept t → ReadsOn core t.state
      → (v : World) × StandFor left after v.told × ReadsOn left v.told.state × TxRun (begins t kept.writer) [] calls replies made told v
