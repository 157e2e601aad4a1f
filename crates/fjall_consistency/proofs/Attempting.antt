-- What a list of calls attempts and what of it a sync followed, as the engine tried it: by the calls of the core that the list comes to.
use Rattle.std.proofs.Common.{◌≡◌, ◌≢◌, ℕ, zero, suc, ◌==◌, Bool, true, false, if◌then◌else◌, List, [], ◌∷◌, ◌++◌, map, length, take, Option, None, Some, unwrap_or, refl, sym, ap, subst, ◌∙◌, arith, append_assoc, append-nil}
use Rattle.std.specs.Prelude.{◌&&◌, IsSomeAnd, flat_map, option_to_list}
use Rattle.std.specs.FinMap.{empty, entries, len-empty, len-entries}
use Rattle.std.proofs.lemmas.Bool.Decides.{nat_tests}
use Rattle.fjall_base.specs.Pairs.{Bytes}
use Rattle.fjall_base.specs.Store.{Clear, Command, Create, Delete, Item, Options, Store, Write, fold}
use Rattle.fjall_base.specs.declared.error.Error.{Error}
use Rattle.fjall_base.specs.declared.error.Error.TheVariants.{Io}
use Rattle.fjall_journal.specs.Changes.{Items}
use Rattle.fjall_journal.specs.Ops.{BatchItem, item_in, value_in, write_of}
use Rattle.fjall_journal.specs.declared.op.Op.{Op}
use Rattle.fjall_journal.specs.declared.persist_mode.PersistMode.{PersistMode}
use Rattle.fjall_journal.specs.declared.persist_mode.PersistMode.TheVariants.{Buffer, SyncAll, SyncData}
use Rattle.fjall_compaction.specs.Ingests.{batch_items}
use Rattle.fjall_meta.specs.Replays.{option_pairs}
use Rattle.fjall_reading.specs.Ingestions.{KeyOp}
use Rattle.fjall_tx.specs.declared.outcome.CommitOutcome.{CommitOutcome}
use Rattle.fjall_tx.specs.Owns.{Own, item_of, items_of, key_order}
use Rattle.fjall_tx.proofs.Keys.{no_entries}
use Rattle.fjall_history.specs.declared.job.JobId.{JobId}
use Rattle.fjall_history.specs.declared.reply.Reply.{Reply}
use Rattle.fjall_history.specs.declared.reply.Reply.TheVariants.{Began, Done, Flag, Opened, Refused}
use Rattle.fjall_history.specs.declared.ticket.Ticket.{Ticket}
use Rattle.fjall_history.specs.Histories.{latest}
use Rattle.fjall_history.specs.Moves.{Times}
use Rattle.fjall_history.specs.Queries.{Get, Page, Query}
use Rattle.fjall_machine.specs.Machine.{BeginsFlush, State, StepOf, begins_flush, present, times}
use Rattle.fjall_machine.specs.Places.{resolved}
use Rattle.fjall_machine.specs.Shapes.{ByMode, CallShape, OfChange, OfIngestion, Persistence, shape_of}
use Rattle.fjall_machine.specs.declared.call.Call.{Call}
use Rattle.fjall_machine.specs.declared.call.Call.TheVariants as calls
use Rattle.fjall_calls.specs.Crashes.{RunOn, attempt, is_io}
use Rattle.fjall_calls.specs.Crashes as core
use Rattle.fjall_calls.specs.Durables.{Durable}
use Rattle.fjall_calls.specs.Transactions.{Tx}
use Rattle.fjall_calls.proofs.Items.{some_items}
use Rattle.fjall_calls.specs.Acting.{AsksCore, AsksFor, AsksNothing, call_for}
use Rattle.fjall_calls.specs.declared.call.Kind.{Kind}
use Rattle.fjall_calls.specs.declared.call.TxCall.{TxCall}
use Rattle.fjall_calls.specs.declared.call.TxCall.TheVariants.{Begin, Commit, Core, Rollback, Within}
use Rattle.fjall_calls.specs.declared.call.Within.{Within as Inner}
use Rattle.fjall_calls.specs.Hearing.{tx_of}
use Rattle.fjall_calls.specs.Names.{Takes}
use Rattle.fjall_calls.specs.Steps.{Aborts, Commits, Conflicts, Idles, IsBegun, IsEnded, IsHeldBack, IsNotBegun, IsRolledBack, IsUnknown, IsWithin, NoCall, OfCore, OneCall, Succeeds, TxRun, TxStep, is_transaction_named, reply_to}
use Rattle.fjall_calls.specs.Worlds.{Going, World}
use Rattle.fjall_calls.proofs.Lists.{of_taken}
use Rattle.fjall_consistency.specs.Alike.{AreAlike}
use Rattle.fjall_consistency.specs.Consistency.{IsSync, IsSyncAt, IsSyncMode, Known, Transaction, accepted, after, all_attempted, asked, attempted, is_living, named, one, one_write}
use Rattle.fjall_consistency.specs.Consistency as stores
use Rattle.fjall_consistency.proofs.Alike.{AllAlike, DoAlike, IsOwn, alike_append, creates_alike, does_alike, fold_alike, own_alike}
use Rattle.fjall_consistency.proofs.Known.{IsGoing, IsKnown}
use Rattle.fjall_consistency.proofs.Steps.{answered_present, refused_times}
use Rattle.fjall_consistency.proofs.Telling.{tells}

-- ---- a run in two parts

-- a place among the later calls, counted from the first of those before them
abbrev behind : List Call → ℕ → ℕ
behind [] place = place
behind (c ∷ made) place = suc (behind made place)

-- A run goes through some calls first, and from where these leave it through the later ones.
record Split (s t : State) (d e : Durable) (made later : List Call) (told heard : List Reply) (tried : List Command) (ran : RunOn s d (made ++ later) (told ++ heard) tried t e) : Type 0 where
  mid : State
  on : Durable
  first : List Command
  rest : List Command
  one : RunOn s d made told first mid on
  two : RunOn mid on later heard rest t e
  all : tried ≡ first ++ rest
  syncs : (place : ℕ) → core.IsSyncAt mid on later heard rest t e two place → core.IsSyncAt s d (made ++ later) (told ++ heard) tried t e ran (behind made place)

-- each run over the calls of both does
split : (s t : State) (d e : Durable) (made later : List Call) (told heard : List Reply) (tried : List Command) → length made ≡ length told → (ran : RunOn s d (made ++ later) (told ++ heard) tried t e)
    → Split s t d e made later told heard tried ran
split s t d e [] later [] heard tried same ran = record { mid = s; on = d; first = []; rest = tried; one = (refl, refl, refl); two = ran; all = refl; syncs = λ place sync. sync }
split s t d e [] later (r ∷ told) heard tried same ran = absurd (omega (arith, same))
split s t d e (c ∷ made) later [] heard tried same ran = absurd (omega (arith, same))
split s t d e (c ∷ made) later (r ∷ told) heard tried same (mid, on, rest, step, passes, is, run) =
    let more = split mid t on e made later told heard rest (omega (arith, same)) run in
    record {
      mid = more.mid;
      on = more.on;
      first = attempt s (shape_of c) r ++ more.first;
      rest = more.rest;
      one = (mid, on, more.first, step, passes, refl, more.one);
      two = more.two;
      all = is ∙ ap (λ (l : List Command). attempt s (shape_of c) r ++ l) more.all ∙ sym (append_assoc (attempt s (shape_of c) r) more.first more.rest);
      syncs = λ place sync. more.syncs place sync;
    }

-- up to a place behind these calls a list has all of them
take_behind : {X : Type 0} (made : List Call) (xs later : List X) (place : ℕ) → length made ≡ length xs → take (suc (behind made place)) (xs ++ later) ≡ xs ++ take (suc place) later
take_behind [] [] later place same = refl
take_behind [] (x ∷ xs) later place same = absurd (omega (arith, same))
take_behind (c ∷ made) [] later place same = absurd (omega (arith, same))
take_behind (c ∷ made) (x ∷ xs) later place same = ap (λ l. x ∷ l) (take_behind made xs later place (omega (arith, same)))

-- and so has a run
run_behind : (s t : State) (d e : Durable) (made later : List Call) (told heard : List Reply) (tried : List Command) (place : ℕ) → length made ≡ length told
    → RunOn s d (take (suc (behind made place)) (made ++ later)) (take (suc (behind made place)) (told ++ heard)) tried t e → RunOn s d (made ++ take (suc place) later) (told ++ take (suc place) heard) tried t e
run_behind s t d e made later told heard tried place same ran =
    subst (λ (l : List Reply). RunOn s d (made ++ take (suc place) later) l tried t e) (take_behind made told heard place same)
    (subst (λ (l : List Call). RunOn s d l (take (suc (behind made place)) (told ++ heard)) tried t e) (take_behind made made later place refl) ran)

-- what was tried by two parts is alike, where that of each is
in_order : (tried first rest ones others : List Command) → tried ≡ first ++ rest → AllAlike first ones → AllAlike rest others → AllAlike tried (ones ++ others)
in_order tried first rest ones others is one two = subst (λ (l : List Command). AllAlike l (ones ++ others)) (sym is) (alike_append first ones rest others one two)

-- each call of the core that a call within a transaction comes to has its reply
acts_each : (call : Inner) (tx : Tx) (made : List Call) (told : List Reply) (s t : State) → AsksCore s tx call made told t → length made ≡ length told
acts_each call tx made told s t AsksNothing = refl
acts_each call tx made told s t (AsksFor id query is reply u step) = refl

-- so it is of a commit
commits_each : (tx : Tx) (outcome : CommitOutcome Error) (made : List Call) (told : List Reply) → Commits tx outcome made told → length made ≡ length told
commits_each tx outcome made told (Idles none) = refl
commits_each tx outcome made told Conflicts = refl
commits_each tx outcome made told (Aborts items are error) = refl
commits_each tx outcome made told (Succeeds items are some) = refl

-- and of each call of a list
as_many : (w v : World) (before : List Reply) (call : TxCall) (reply : Reply) (made : List Call) (told : List Reply) → TxStep w before call reply made told v → length made ≡ length told
as_many w v before call reply made told (OfCore c r s step) = refl
as_many w v before call reply made told (IsHeldBack due) = refl
as_many w v before call reply made told (IsNotBegun kind free error s step) = refl
as_many w v before call reply made told (IsBegun kind free ticket s step) = refl
as_many w v before call reply made told (IsUnknown c name kind is none) = refl
as_many w v before call reply made told (IsWithin name c g others takes r m t s after_it acts) = acts_each c (tx_of g) m t w.told.state s acts.asks
as_many w v before call reply made told (IsEnded kind name g others takes outcome m t commits new step) = commits_each (tx_of g) outcome m t commits
as_many w v before call reply made told (IsRolledBack name g others takes r s step) = refl

-- ---- what calls of the core ask for

-- a creation, where both stores have the name or none has it
made_alike : (name : Bytes) (a b : Options) (had has : Bool) → has ≡ had → AllAlike (if had then [] else (Create name a ∷ [])) (if has then [] else (Create name b ∷ []))
made_alike name a b true true same = tt
made_alike name a b true false same = absurd cc
made_alike name a b false true same = absurd cc
made_alike name a b false false same = (creates_alike name a b, tt)

-- a deletion, where the keyspace lives in both or in none
deleted_alike : (id : ℕ) (lived lives : Bool) → lives ≡ lived → AllAlike (if lived then (Delete id ∷ []) else []) (if lives then (Delete id ∷ []) else [])
deleted_alike id true true same = (does_alike (Delete id), tt)
deleted_alike id true false same = absurd cc
deleted_alike id false true same = absurd cc
deleted_alike id false false same = tt

-- a batch
batch_alike : (s : State) (how : Persistence) (items : List BatchItem) → AllAlike (core.commands_asked s (OfChange (Items items) how)) (one_write (map item_in items))
batch_alike s how [] = tt
batch_alike s how (item ∷ items) = (does_alike (write_of (item ∷ items)), tt)

-- the items of an ingestion are those of its batch
ingested_items : (id : ℕ) (items : List KeyOp) → map item_in (batch_items id items) ≡ map (λ item. record { id = id; key = item.0; value = value_in item.1 }) items
ingested_items id [] = refl
ingested_items id (item ∷ items) = ap (λ (l : List Item). record { id = id; key = item.0; value = value_in item.1 } ∷ l) (ingested_items id items)

-- an ingestion
ingestion_alike : (s : State) (id : ℕ) (items : List KeyOp) → AllAlike (core.commands_asked s (OfIngestion id items)) (one_write (map (λ item. record { id = id; key = item.0; value = value_in item.1 }) items))
ingestion_alike s id [] = tt
ingestion_alike s id (item ∷ items) =
    (subst (λ (l : List Item). DoAlike (write_of (batch_items id (item ∷ items))) (Write l)) (ingested_items id (item ∷ items)) (does_alike (write_of (batch_items id (item ∷ items)))), tt)

-- of stores that are alike a call asks for commands that are
asks_alike : (s : State) (k : Known) (before : List Reply) (c : Call) → AreAlike (present s) k.present → AllAlike (core.commands_asked s (shape_of (resolved before c))) (asked k (Core c))
asks_alike s k before (calls.Keyspace name options) alike = made_alike name (option_pairs options) [] _ _ (ap (λ names. stores.has_name (record k.present { names = names }) name) alike.names)
asks_alike s k before (calls.DeleteKeyspace id) alike = deleted_alike id _ _ (ap (λ names. is_living (record k.present { names = names }) id) alike.names)
asks_alike s k before (calls.Retain id) alike = tt
asks_alike s k before (calls.Release id) alike = tt
asks_alike s k before (calls.Insert id key value) alike = (does_alike (Write (one id key (Some value))), tt)
asks_alike s k before (calls.Remove id key) alike = (does_alike (Write (one id key None)), tt)
asks_alike s k before (calls.RemoveWeak id key) alike = (does_alike (Write (one id key None)), tt)
asks_alike s k before (calls.Clear id) alike = (does_alike (Clear id), tt)
asks_alike s k before (calls.CommitBatch items mode) alike = batch_alike s (ByMode mode) items.items
asks_alike s k before (calls.Ingest id items) alike = ingestion_alike s id items.items
asks_alike s k before (calls.RotateMemtable id) alike = tt
asks_alike s k before calls.RotateJournal alike = tt
asks_alike s k before (calls.FlushBegin id) alike = tt
asks_alike s k before (calls.FlushFinish job) alike = tt
asks_alike s k before (calls.MergeBegin id) alike = tt
asks_alike s k before (calls.MajorBegin id) alike = tt
asks_alike s k before (calls.MergeFinish job) alike = tt
asks_alike s k before calls.Maintenance alike = tt
asks_alike s k before (calls.GetAt view id key) alike = tt
asks_alike s k before (calls.PageAt view id range back max) alike = tt
asks_alike s k before calls.Snapshot alike = tt
asks_alike s k before (calls.CloneSnapshot ticket) alike = tt
asks_alike s k before (calls.CloseSnapshot ticket) alike = tt
asks_alike s k before calls.Gc alike = tt
asks_alike s k before (calls.Persist mode) alike = tt
asks_alike s k before calls.KeyspaceCount alike = tt
asks_alike s k before calls.ListKeyspaceNames alike = tt
asks_alike s k before (calls.KeyspaceExists name) alike = tt
asks_alike s k before calls.Seqno alike = tt
asks_alike s k before calls.VisibleSeqno alike = tt
asks_alike s k before calls.JournalCount alike = tt
asks_alike s k before calls.JournalDiskSpace alike = tt
asks_alike s k before calls.OpenSnapshots alike = tt
asks_alike s k before (calls.ApproximateLen id) alike = tt
asks_alike s k before (calls.SealedMemtableCount id) alike = tt
asks_alike s k before calls.WriteBufferSize alike = tt
asks_alike s k before (calls.WantsRotation id) alike = tt
asks_alike s k before (calls.TableCount id) alike = tt
asks_alike s k before (calls.L0TableCount id) alike = tt
asks_alike s k before (calls.DiskSpace id) alike = tt
asks_alike s k before calls.OutstandingFlushes alike = tt
asks_alike s k before calls.ActiveCompactions alike = tt
asks_alike s k before calls.CompactionsCompleted alike = tt
asks_alike s k before calls.KeyspacesToFlush alike = tt

-- ---- what one call of the core does

-- the commands that a call is told to have taken effect
abbrev done : State → CallShape → Reply → List Command
done s shape (Refused error) = []
done s shape reply = core.commands_asked s shape

-- the store is that of the history
stays : (s t : State) → times t ≡ times s → present t ≡ present s
stays s t same = ap (λ (k : Times). latest k.history) same

-- a step leaves the store with these
step_present : (s t : State) (shape : CallShape) (reply : Reply) → StepOf s shape reply t → present t ≡ fold (present s) (done s shape reply)
step_present s t shape (Refused error) refuses = stays s t (refused_times s t shape error refuses)
step_present s t shape reply (none, answers) = answered_present s t shape reply answers

-- what a single call tried
abbrev SingleRun : State → Durable → Call → Reply → List Command → State → Durable → Type 0
SingleRun s d c r tried t e = RunOn s d (c ∷ []) (r ∷ []) tried t e

-- it is what the call attempted
single_tried : (s t : State) (d e : Durable) (c : Call) (r : Reply) (tried : List Command) → SingleRun s d c r tried t e → tried ≡ attempt s (shape_of c) r
single_tried s t d e c r tried (mid, on, rest, step, passes, is, (none, end, same)) = is ∙ ap (λ (l : List Command). attempt s (shape_of c) r ++ l) none ∙ append-nil (attempt s (shape_of c) r)

-- and the store is left with what took effect of it
single_present : (s t : State) (d e : Durable) (c : Call) (r : Reply) (tried : List Command) → SingleRun s d c r tried t e → present t ≡ fold (present s) (done s (shape_of c) r)
single_present s t d e c r tried (mid, on, rest, step, passes, is, (none, end, same)) = ap present end ∙ step_present s mid (shape_of c) r step

-- one that asks for nothing tries nothing, and leaves the store
none_tried : (s : State) (shape : CallShape) (r : Reply) → core.commands_asked s shape ≡ [] → attempt s shape r ≡ []
none_tried s shape (Refused error) none = by (is_io error)
  where
    by : (b : Bool) → (if b then core.commands_asked s shape else []) ≡ []
    by true = none
    by false = refl
none_tried s shape r none = none

-- nothing of it takes effect
none_done : (s : State) (shape : CallShape) (r : Reply) → core.commands_asked s shape ≡ [] → fold (present s) (done s shape r) ≡ present s
none_done s shape (Refused error) none = refl
none_done s shape r none = ap (fold (present s)) none

-- ---- one call of a list

-- It tried what the call attempted, and left a store that is alike what is known then.
record Goes (k : Known) (call : TxCall) (reply : Reply) (t : State) (tried : List Command) : Type 0 where
  tries : AllAlike tried (attempted k call reply)
  alike : AreAlike (present t) (after k call reply).present

-- a call that attempts nothing
idle : (k : Known) (call : TxCall) (reply : Reply) (s t : State) (tried : List Command) → AreAlike (present s) k.present → attempted k call reply ≡ [] → accepted k call reply ≡ [] → tried ≡ []
    → present t ≡ present s → Goes k call reply t tried
idle k call reply s t tried alike none nothing is stays_so = record {
  tries = subst (λ (l : List Command). AllAlike l (attempted k call reply)) (sym is) (subst (AllAlike []) (sym none) tt);
  alike = subst (λ (x : Store). AreAlike x (fold k.present (accepted k call reply))) (sym stays_so) (subst (λ (l : List Command). AreAlike (present s) (fold k.present l)) (sym nothing) alike);
}

-- one that comes to no call of the core
goes_by_none : (k : Known) (call : TxCall) (reply : Reply) (s t : State) (d e : Durable) (tried : List Command) → AreAlike (present s) k.present → attempted k call reply ≡ [] → accepted k call reply ≡ []
    → RunOn s d [] [] tried t e → Goes k call reply t tried
goes_by_none k call reply s t d e tried alike none nothing (is, end, same) = idle k call reply s t tried alike none nothing is (ap present end)

-- one that comes to a call of the core that asks for nothing
goes_by_one : (k : Known) (call : TxCall) (reply : Reply) (s t : State) (d e : Durable) (c : Call) (r : Reply) (tried : List Command) → AreAlike (present s) k.present
    → attempted k call reply ≡ [] → accepted k call reply ≡ [] → core.commands_asked s (shape_of c) ≡ [] → SingleRun s d c r tried t e → Goes k call reply t tried
goes_by_one k call reply s t d e c r tried alike none nothing quiet ran =
    idle k call reply s t tried alike none nothing (single_tried s t d e c r tried ran ∙ none_tried s (shape_of c) r quiet)
    (single_present s t d e c r tried ran ∙ none_done s (shape_of c) r quiet)

-- what a call of the core tried is alike what the list attempted, where what it asks for is
core_tries : (s : State) (k : Known) (shape : CallShape) (c : Call) (r : Reply) → AllAlike (core.commands_asked s shape) (asked k (Core c)) → AllAlike (attempt s shape r) (attempted k (Core c) r)
core_tries s k shape c (Refused (Io kind)) asks = asks
core_tries s k shape c (Refused error) asks = tt
core_tries s k shape c r asks = asks

-- and so is what took effect
core_does : (s : State) (k : Known) (shape : CallShape) (c : Call) (r : Reply) → AllAlike (core.commands_asked s shape) (asked k (Core c)) → AllAlike (done s shape r) (accepted k (Core c) r)
core_does s k shape c (Refused error) asks = tt
core_does s k shape c r asks = asks

-- so it goes from a store that is alike
core_goes : (k : Known) (before : List Reply) (c : Call) (r : Reply) (s t : State) (d e : Durable) (tried : List Command) → AreAlike (present s) k.present → SingleRun s d (resolved before c) r tried t e
    → Goes k (Core c) r t tried
core_goes k before c r s t d e tried alike ran =
    let shape = shape_of (resolved before c) in
    let asks = asks_alike s k before c alike in
    record {
      tries = subst (λ (l : List Command). AllAlike l (attempted k (Core c) r)) (sym (single_tried s t d e (resolved before c) r tried ran)) (core_tries s k shape c r asks);
      alike = subst (λ (x : Store). AreAlike x (fold k.present (accepted k (Core c) r))) (sym (single_present s t d e (resolved before c) r tried ran))
          (fold_alike (done s shape r) (accepted k (Core c) r) (present s) k.present (core_does s k shape c r asks) alike);
    }

-- a beginning, a rollback and a call within attempt nothing, whatever they are told
begin_none : (k : Known) (kind : Kind) (r : Reply) → attempted k (Begin kind) r ≡ []
begin_none k kind (Refused (Io fault)) = refl
begin_none k kind (Refused error) = refl
begin_none k kind r = refl

rollback_none : (k : Known) (name : ℕ) (r : Reply) → attempted k (Rollback name) r ≡ []
rollback_none k name (Refused (Io fault)) = refl
rollback_none k name (Refused error) = refl
rollback_none k name r = refl

rollback_nothing : (k : Known) (name : ℕ) (r : Reply) → accepted k (Rollback name) r ≡ []
rollback_nothing k name (Refused error) = refl
rollback_nothing k name r = refl

within_none : (k : Known) (name : ℕ) (c : Inner) (r : Reply) → attempted k (Within name c) r ≡ []
within_none k name c (Refused (Io fault)) = refl
within_none k name c (Refused error) = refl
within_none k name c r = refl

within_nothing : (k : Known) (name : ℕ) (c : Inner) (r : Reply) → accepted k (Within name c) r ≡ []
within_nothing k name c (Refused error) = refl
within_nothing k name c r = refl

-- what a transaction's query of the core asks for
query_quiet : (s : State) (tx : Tx) (id : ℕ) (query : Query) → core.commands_asked s (shape_of (call_for tx id query)) ≡ []
query_quiet s tx id (Get key) = refl
query_quiet s tx id (Page range back max) = refl

-- a call within a transaction goes so
within_goes : (k : Known) (name : ℕ) (c : Inner) (r : Reply) (tx : Tx) (u v : State) (made : List Call) (told : List Reply) (s t : State) (d e : Durable) (tried : List Command)
    → AreAlike (present s) k.present → AsksCore u tx c made told v → RunOn s d made told tried t e → Goes k (Within name c) r t tried
within_goes k name c r tx u v made told s t d e tried alike AsksNothing ran = goes_by_none k (Within name c) r s t d e tried alike (within_none k name c r) (within_nothing k name c r) ran
within_goes k name c r tx u v made told s t d e tried alike (AsksFor id query is reply x step) ran =
    goes_by_one k (Within name c) r s t d e (call_for tx id query) reply tried alike (within_none k name c r) (within_nothing k name c r) (query_quiet s tx id query) ran

-- ---- a commit

-- The open transaction that a call names is known under that name.
record IsNamed (k : Known) (name : ℕ) (tx : Tx) : Type 0 where
  known : Transaction
  is : named k name ≡ Some known
  own : IsOwn tx.own known.own
  mode : known.mode ≡ tx.mode

-- a test of a name and of more tells the name
named_place : (place name : ℕ) (more : Bool) → ((place == name) && more) ≡ true → place ≡ name
named_place place name more is = grind (arith, nat_tests)

-- one that is taken out by its name is
named_so : (w : World) (before : List Reply) (k : Known) (name : ℕ) (kind : Kind) (g : Going) (others : List Going) → IsKnown w before k → Takes (is_transaction_named w name (Some kind)) w.going (Some g) others
    → IsNamed k name (tx_of g)
named_so w before k name kind g others known takes =
    let going = of_taken (IsGoing w before k) (is_transaction_named w name (Some kind)) w.going others g takes known.going in
    let place = named_place g.named.place name _ takes.0 in
    record {
      known = going.tx;
      is = ap (named k) (sym place) ∙ ap (λ (o : Option (Option Transaction)). unwrap_or o None) going.at;
      own = going.same.own;
      mode = going.same.mode;
    }

-- where nothing was written, there are no items
no_items_in_none : items_of empty ≡ []
no_items_in_none = ap (map item_of) (no_entries (entries (empty {X = Op} {R = key_order})) (sym (len-entries (empty {X = Op} {R = key_order})) ∙ len-empty key_order Op))

-- own writes are one command, where there are some, alike that of the items
own_asks : (s : State) (how : Persistence) (own : Own) (items : List Item) → IsOwn own items → AllAlike (core.commands_asked s (OfChange (Items (items_of own)) how)) (one_write items)
own_asks s how own items is = by (items_of own) items refl refl
  where
    by : (xs : List BatchItem) (ys : List Item) → items_of own ≡ xs → items ≡ ys → AllAlike (core.commands_asked s (OfChange (Items xs) how)) (one_write ys)
    by [] [] e f = tt
    by [] (y ∷ ys) e f = absurd (some_items own (λ none. let no = is.none none in absurd cc) e)
    by (x ∷ xs) [] e f = let no : items_of own ≡ [] = ap items_of (is.no_items f) ∙ no_items_in_none in absurd cc
    by (x ∷ xs) (y ∷ ys) e f =
        (subst (λ (l : List BatchItem). DoAlike (write_of l) (Write (y ∷ ys))) e (subst (λ (l : List Item). DoAlike (write_of (items_of own)) (Write l)) f (own_alike own items is)), tt)

-- a commit asks for one command of the items that are known
commit_asks : (k : Known) (kind : Kind) (name : ℕ) (tx : Transaction) → named k name ≡ Some tx → asked k (Commit kind name) ≡ one_write tx.own
commit_asks k kind name tx is = ap (λ (o : Option Transaction). one_write (flat_map (λ x. x.own) (option_to_list o))) is ∙ ap one_write (append-nil tx.own)

-- and its batch for one that is alike
batch_asks : (k : Known) (kind : Kind) (name : ℕ) (tx : Tx) (s : State) (items : List BatchItem) → IsNamed k name tx → items ≡ items_of tx.own
    → AllAlike (core.commands_asked s (OfChange (Items items) (ByMode tx.mode))) (asked k (Commit kind name))
batch_asks k kind name tx s items is are =
    subst (AllAlike (core.commands_asked s (OfChange (Items items) (ByMode tx.mode)))) (sym (commit_asks k kind name is.known is.is))
    (subst (λ (l : List BatchItem). AllAlike (core.commands_asked s (OfChange (Items l) (ByMode tx.mode))) (one_write is.known.own)) (sym are) (own_asks s (ByMode tx.mode) tx.own is.known.own is.own))

-- one that is refused attempted it all the same, where a fault refused it
refused_commit : (k : Known) (kind : Kind) (name : ℕ) (s : State) (shape : CallShape) (error : Error) → AllAlike (core.commands_asked s shape) (asked k (Commit kind name))
    → AllAlike (attempt s shape (Refused error)) (attempted k (Commit kind name) (Refused error))
refused_commit k kind name s shape (Io fault) asks = asks
refused_commit k kind name s shape error asks = tt

-- a call, and a ticket closed behind it
abbrev ClosingRun : State → Durable → Call → Reply → Ticket → List Command → State → Durable → Type 0
ClosingRun s d c r ticket tried t e = RunOn s d (c ∷ calls.CloseSnapshot ticket ∷ []) (r ∷ Done ∷ []) tried t e

-- the closing tries nothing
closing_tried : (s t : State) (d e : Durable) (c : Call) (r : Reply) (ticket : Ticket) (tried : List Command) → ClosingRun s d c r ticket tried t e → tried ≡ attempt s (shape_of c) r
closing_tried s t d e c r ticket tried (mid, on, rest, step, passes, is, run) =
    is ∙ ap (λ (l : List Command). attempt s (shape_of c) r ++ l) (single_tried mid t on e (calls.CloseSnapshot ticket) Done rest run) ∙ append-nil (attempt s (shape_of c) r)

-- and leaves the store
closing_present : (s t : State) (d e : Durable) (c : Call) (r : Reply) (ticket : Ticket) (tried : List Command) → ClosingRun s d c r ticket tried t e
    → present t ≡ fold (present s) (done s (shape_of c) r)
closing_present s t d e c r ticket tried (mid, on, rest, step, passes, is, run) = single_present mid t on e (calls.CloseSnapshot ticket) Done rest run ∙ step_present s mid (shape_of c) r step

-- a commit goes so, whatever comes of it
ended_goes : (k : Known) (kind : Kind) (name : ℕ) (tx : Tx) (outcome : CommitOutcome Error) (made : List Call) (told : List Reply) (s t : State) (d e : Durable) (tried : List Command)
    → AreAlike (present s) k.present → IsNamed k name tx → Commits tx outcome made told → RunOn s d made told tried t e → Goes k (Commit kind name) (reply_to outcome) t tried
ended_goes k kind name tx outcome made told s t d e tried alike is (Idles none) ran =
    let nothing = commit_asks k kind name is.known is.is ∙ ap one_write (is.own.none none) in
    goes_by_one k (Commit kind name) (Flag true) s t d e (calls.CloseSnapshot tx.ticket) Done tried alike nothing nothing refl ran
ended_goes k kind name tx outcome made told s t d e tried alike is Conflicts ran =
    goes_by_one k (Commit kind name) (Flag false) s t d e (calls.CloseSnapshot tx.ticket) Done tried alike refl refl refl ran
ended_goes k kind name tx outcome made told s t d e tried alike is (Aborts items are error) ran =
    let c = calls.CommitBatch items tx.mode in
    record {
      tries = subst (λ (l : List Command). AllAlike l (attempted k (Commit kind name) (Refused error))) (sym (closing_tried s t d e c (Refused error) tx.ticket tried ran))
          (refused_commit k kind name s (shape_of c) error (batch_asks k kind name tx s items.items is are));
      alike = subst (λ (x : Store). AreAlike x k.present) (sym (closing_present s t d e c (Refused error) tx.ticket tried ran)) alike;
    }
ended_goes k kind name tx outcome made told s t d e tried alike is (Succeeds items are some) ran =
    let c = calls.CommitBatch items tx.mode in
    let asks = batch_asks k kind name tx s items.items is are in
    record {
      tries = subst (λ (l : List Command). AllAlike l (asked k (Commit kind name))) (sym (closing_tried s t d e c Done tx.ticket tried ran)) asks;
      alike = subst (λ (x : Store). AreAlike x (fold k.present (asked k (Commit kind name)))) (sym (closing_present s t d e c Done tx.ticket tried ran))
          (fold_alike (core.commands_asked s (shape_of c)) (asked k (Commit kind name)) (present s) k.present asks alike);
    }

-- ---- each call

-- whatever it comes to, a call of a list goes so
step_goes : (w v : World) (before : List Reply) (k : Known) (call : TxCall) (reply : Reply) (made : List Call) (told : List Reply) (s t : State) (d e : Durable) (tried : List Command)
    → IsKnown w before k → TxStep w before call reply made told v → AreAlike (present s) k.present → RunOn s d made told tried t e → Goes k call reply t tried
step_goes w v before k call reply made told s t d e tried known (OfCore c r u step) alike ran = core_goes k before c r s t d e tried alike ran
step_goes w v before k call reply made told s t d e tried known (IsHeldBack due) alike ran = goes_by_none k call reply s t d e tried alike refl refl ran
step_goes w v before k call reply made told s t d e tried known (IsNotBegun kind free error u step) alike ran =
    goes_by_one k (Begin kind) (Refused error) s t d e calls.Snapshot (Refused error) tried alike (begin_none k kind (Refused error)) refl refl ran
step_goes w v before k call reply made told s t d e tried known (IsBegun kind free ticket u step) alike ran =
    goes_by_one k (Begin kind) Done s t d e calls.Snapshot (Opened ticket) tried alike refl refl refl ran
step_goes w v before k call reply made told s t d e tried known (IsUnknown c name kind is none) alike ran = goes_by_none k c reply s t d e tried alike refl refl ran
step_goes w v before k call reply made told s t d e tried known (IsWithin name c g others takes r m o u after_it acts) alike ran =
    within_goes k name c r (tx_of g) w.told.state u m o s t d e tried alike acts.asks ran
step_goes w v before k call reply made told s t d e tried known (IsEnded kind name g others takes outcome m o commits new step) alike ran =
    ended_goes k kind name (tx_of g) outcome m o s t d e tried alike (named_so w before k name kind g others known takes) commits ran
step_goes w v before k call reply made told s t d e tried known (IsRolledBack name g others takes r u step) alike ran =
    goes_by_one k (Rollback name) r s t d e (calls.CloseSnapshot (tx_of g).ticket) r tried alike (rollback_none k name r) (rollback_nothing k name r) refl ran

-- From any state whose store is alike, the engine tried what the list attempted.
pub all_tried : (w v : World) (before : List Reply) (k : Known) (calls : List TxCall) (replies : List Reply) (made : List Call) (told : List Reply) (s t : State) (d e : Durable) (tried : List Command)
    → IsKnown w before k → TxRun w before calls replies made told v → AreAlike (present s) k.present → RunOn s d made told tried t e → AllAlike tried (all_attempted k calls replies)
all_tried w v before k calls replies made told s t d e tried known (NoCall u b) alike ran = subst (λ (l : List Command). AllAlike l []) (sym ran.0) tt
all_tried w v before k calls replies made told s t d e tried known (OneCall u mid x b call reply m o more r later heard step rest) alike ran =
    let cut = split s t d e m later o heard tried (as_many w mid b call reply m o step) ran in
    let goes = step_goes w mid b k call reply m o s cut.mid d cut.on cut.first known step alike cut.one in
    let next = all_tried mid v (b ++ reply ∷ []) (after k call reply) more r later heard cut.mid t cut.on e cut.rest (tells w mid b k call reply m o known step).known rest goes.alike cut.two in
    in_order tried cut.first cut.rest (attempted k call reply) (all_attempted (after k call reply) more r) cut.all goes.tries next

-- ---- syncs

-- A sync of a list from a state is one of the engine at some place. From any state whose store is alike, what it tried up to there is alike this.
record Synced (k : Known) (s t : State) (d e : Durable) (made : List Call) (told : List Reply) (tried : List Command) (ran : RunOn s d made told tried t e) (upto : List Command) : Type 0 where
  place : ℕ
  sync : core.IsSyncAt s d made told tried t e ran place
  so_far : (from mid : State) (old on : Durable) (before : List Command) → AreAlike (present from) k.present → RunOn from old (take (suc place) made) (take (suc place) told) before mid on
      → AllAlike before upto

-- a mode that asks for a sync does so of the engine
sync_mode : (mode : Option PersistMode) → IsSyncMode mode → core.IsSyncOf mode
sync_mode None sync = absurd (sync.0 refl)
sync_mode (Some Buffer) sync = absurd (sync.1 refl)
sync_mode (Some SyncData) sync = tt
sync_mode (Some SyncAll) sync = tt

-- a batch of some items with such a mode syncs
batch_syncs : (s : State) (items : List BatchItem) (mode : Option PersistMode) → items ≢ [] → IsSyncMode mode → core.Syncs s (OfChange (Items items) (ByMode mode))
batch_syncs s [] mode some sync = absurd (some refl)
batch_syncs s (item ∷ items) mode some sync = sync_mode mode sync

-- an ingestion of some items does
ingestion_syncs : (s : State) (id : ℕ) (items : List KeyOp) → items ≢ [] → core.Syncs s (OfIngestion id items)
ingestion_syncs s id [] some = absurd (some refl)
ingestion_syncs s id (item ∷ items) some = tt

-- a flush began that is told to have begun
flush_begins : (s t : State) (id : ℕ) (job : JobId) (begins : Bool) → BeginsFlush begins s id (Began (Some job)) t → begins ≡ true
flush_begins s t id job true begun = refl
flush_begins s t id job false (told, same) = absurd cc

-- a sync of a call of the core is one of the engine
core_syncs : (s t : State) (k : Known) (before : List Reply) (c : Call) (r : Reply) → AreAlike (present s) k.present → StepOf s (shape_of (resolved before c)) r t → IsSync k (Core c) r
    → core.IsSync s (shape_of (resolved before c)) r
core_syncs s t k before c (Refused error) alike step sync = absurd sync
core_syncs s t k before (calls.Persist mode) r alike step sync = sync_mode (Some mode) sync
core_syncs s t k before (calls.CommitBatch items mode) r alike step sync = batch_syncs s items.items mode sync.0 sync.1
core_syncs s t k before (calls.Keyspace name options) r alike step sync = sym (ap (λ names. stores.has_name (record k.present { names = names }) name) alike.names) ∙ sync
core_syncs s t k before (calls.DeleteKeyspace id) r alike step sync = sym (ap (λ names. is_living (record k.present { names = names }) id) alike.names) ∙ sync
core_syncs s t k before (calls.Ingest id items) r alike step sync = ingestion_syncs s id items.items sync
core_syncs s t k before calls.RotateJournal r alike step sync = tt
core_syncs s t k before (calls.FlushBegin id) (Began (Some job)) alike step sync = flush_begins s t id job (begins_flush s.parts.trees id) step.1
core_syncs s t k before c r alike step sync = absurd sync

-- it is the first of the engine's calls
core_synced : (k : Known) (before : List Reply) (c : Call) (r : Reply) (s t : State) (d e : Durable) (later : List Call) (heard : List Reply) (tried : List Command) → AreAlike (present s) k.present
    → (ran : RunOn s d (resolved before c ∷ later) (r ∷ heard) tried t e) → IsSync k (Core c) r
    → Synced k s t d e (resolved before c ∷ later) (r ∷ heard) tried ran (attempted k (Core c) r ++ [])
core_synced k before c r s t d e later heard tried alike (mid, on, rest, step, passes, is, run) sync = record {
  place = zero;
  sync = core_syncs s mid k before c r alike step sync;
  so_far = λ from end old new first like up. subst (AllAlike first) (sym (append-nil (attempted k (Core c) r))) (core_goes k before c r from end old new first like up).tries;
}

-- no call within a transaction is a sync
within_no_sync : (k : Known) (name : ℕ) (c : Inner) (r : Reply) → IsSync k (Within name c) r → ⊥
within_no_sync k name c (Refused error) sync = sync
within_no_sync k name c r sync = sync

-- and no rollback
rollback_no_sync : (k : Known) (name : ℕ) (r : Reply) → IsSync k (Rollback name) r → ⊥
rollback_no_sync k name (Refused error) sync = sync
rollback_no_sync k name r sync = sync

-- a commit that is a sync is one by its batch
ended_synced : (k : Known) (kind : Kind) (name : ℕ) (tx : Tx) (outcome : CommitOutcome Error) (made : List Call) (told : List Reply) (s t : State) (d e : Durable) (later : List Call) (heard : List Reply)
    (tried : List Command) → AreAlike (present s) k.present → IsNamed k name tx → Commits tx outcome made told → (ran : RunOn s d (made ++ later) (told ++ heard) tried t e)
    → IsSync k (Commit kind name) (reply_to outcome) → Synced k s t d e (made ++ later) (told ++ heard) tried ran (attempted k (Commit kind name) (reply_to outcome) ++ [])
ended_synced k kind name tx outcome made told s t d e later heard tried alike is (Idles none) ran sync =
    let some = subst (λ (o : Option Transaction). IsSomeAnd o (λ x. (x.own ≢ []) × IsSyncMode x.mode)) is.is sync in
    absurd (some.0 (is.own.none none))
ended_synced k kind name tx outcome made told s t d e later heard tried alike is Conflicts ran sync = absurd sync
ended_synced k kind name tx outcome made told s t d e later heard tried alike is (Aborts items are error) ran sync = absurd sync
ended_synced k kind name tx outcome made told s t d e later heard tried alike is (Succeeds items are some) ran sync =
    let c = calls.CommitBatch items tx.mode in
    let both = subst (λ (o : Option Transaction). IsSomeAnd o (λ x. (x.own ≢ []) × IsSyncMode x.mode)) is.is sync in
    record {
      place = zero;
      sync = batch_syncs s items.items tx.mode (λ none. some_items tx.own some (sym are ∙ none)) (subst IsSyncMode is.mode both.1);
      so_far = λ from end old new first like up.
          subst (AllAlike first) (sym (append-nil (asked k (Commit kind name))))
          (subst (λ (l : List Command). AllAlike l (asked k (Commit kind name))) (sym (single_tried from end old new c Done first up)) (batch_asks k kind name tx from items.items is are));
    }

-- a call of a list that is a sync is one by the first of the engine's calls
step_synced : (w v : World) (before : List Reply) (k : Known) (call : TxCall) (reply : Reply) (made : List Call) (told : List Reply) (s t : State) (d e : Durable) (later : List Call) (heard : List Reply)
    (tried : List Command) → IsKnown w before k → TxStep w before call reply made told v → AreAlike (present s) k.present → (ran : RunOn s d (made ++ later) (told ++ heard) tried t e) → IsSync k call reply
    → Synced k s t d e (made ++ later) (told ++ heard) tried ran (attempted k call reply ++ [])
step_synced w v before k call reply made told s t d e later heard tried known (OfCore c r u step) alike ran sync = core_synced k before c r s t d e later heard tried alike ran sync
step_synced w v before k call reply made told s t d e later heard tried known (IsHeldBack due) alike ran sync = absurd sync
step_synced w v before k call reply made told s t d e later heard tried known (IsNotBegun kind free error u step) alike ran sync = absurd sync
step_synced w v before k call reply made told s t d e later heard tried known (IsBegun kind free ticket u step) alike ran sync = absurd sync
step_synced w v before k call reply made told s t d e later heard tried known (IsUnknown c name kind is none) alike ran sync = absurd sync
step_synced w v before k call reply made told s t d e later heard tried known (IsWithin name c g others takes r m o u after_it acts) alike ran sync = absurd (within_no_sync k name c r sync)
step_synced w v before k call reply made told s t d e later heard tried known (IsEnded kind name g others takes outcome m o commits new step) alike ran sync =
    ended_synced k kind name (tx_of g) outcome m o s t d e later heard tried alike (named_so w before k name kind g others known takes) commits ran sync
step_synced w v before k call reply made told s t d e later heard tried known (IsRolledBack name g others takes r u step) alike ran sync = absurd (rollback_no_sync k name r sync)

-- so it is of each sync of a list
synced : (w v : World) (before : List Reply) (k : Known) (calls : List TxCall) (replies : List Reply) (made : List Call) (told : List Reply) (s t : State) (d e : Durable) (tried : List Command)
    → IsKnown w before k → TxRun w before calls replies made told v → AreAlike (present s) k.present → (ran : RunOn s d made told tried t e) → (i : ℕ) → IsSyncAt k calls replies i
    → Synced k s t d e made told tried ran (all_attempted k (take (suc i) calls) (take (suc i) replies))
synced w v before k calls replies made told s t d e tried known (NoCall u b) alike ran i sync = absurd sync
synced w v before k calls replies made told s t d e tried known (OneCall u mid x b call reply m o more r later heard step rest) alike ran zero sync =
    step_synced w mid b k call reply m o s t d e later heard tried known step alike ran sync
synced w v before k calls replies made told s t d e tried known (OneCall u mid x b call reply m o more r later heard step rest) alike ran (suc i) sync =
    let same = as_many w mid b call reply m o step in
    let cut = split s t d e m later o heard tried same ran in
    let goes = step_goes w mid b k call reply m o s cut.mid d cut.on cut.first known step alike cut.one in
    let next = synced mid v (b ++ reply ∷ []) (after k call reply) more r later heard cut.mid t cut.on e cut.rest (tells w mid b k call reply m o known step).known rest goes.alike cut.two i sync in
    record {
      place = behind m next.place;
      sync = cut.syncs next.place next.sync;
      so_far = λ from end old new first like up.
          let again = split from end old new m (take (suc next.place) later) o (take (suc next.place) heard) first same (run_behind from end old new m later o heard first next.place same up) in
          let went = step_goes w mid b k call reply m o from again.mid old again.on again.first known step like again.one in
          in_order first again.first again.rest (attempted k call reply) (all_attempted (after k call reply) (take (suc i) more) (take (suc i) r)) again.all went.tries
          (next.so_far again.mid end again.on new again.rest went.alike again.two);
    }

-- A sync of the list was one of the engine: at some place of its calls, and what it had tried up to there is alike what the list had attempted up to its own.
pub record SyncedAt (s t : State) (d e : Durable) (made : List Call) (told : List Reply) (tried : List Command) (ran : RunOn s d made told tried t e) (upto : List Command) : Type 0 where
  pub place : ℕ
  pub sync : core.IsSyncAt s d made told tried t e ran place
  pub so_far : (mid : State) (on : Durable) (before : List Command) → RunOn s d (take (suc place) made) (take (suc place) told) before mid on → AllAlike before upto

-- each sync of the list
pub synced_at : (w v : World) (before : List Reply) (k : Known) (calls : List TxCall) (replies : List Reply) (made : List Call) (told : List Reply) (s t : State) (d e : Durable) (tried : List Command)
    → IsKnown w before k → TxRun w before calls replies made told v → AreAlike (present s) k.present → (ran : RunOn s d made told tried t e) → (i : ℕ) → IsSyncAt k calls replies i
    → SyncedAt s t d e made told tried ran (all_attempted k (take (suc i) calls) (take (suc i) replies))
synced_at w v before k calls replies made told s t d e tried known run alike ran i sync =
    let found = synced w v before k calls replies made told s t d e tried known run alike ran i sync in
    record { place = found.place; sync = found.sync; so_far = λ mid on first up. found.so_far s mid d on first alike up }
