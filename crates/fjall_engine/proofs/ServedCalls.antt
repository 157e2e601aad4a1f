-- What came of the work of a call is what the call owes, and a crash leaves what it may.
use Rattle.std.proofs.Common.{◌≡◌, ◌⊎◌, inl, inr, ℕ, ◌≤◌, true, false, List, [], ◌∷◌, IfSome, Option, None, Some, refl, sym, ◌∙◌, ap, arith, subst}
use Rattle.std.proofs.lemmas.Bool.{true≢false}
use Rattle.std.proofs.lemmas.List.{append-nil}
use Rattle.fjall_base.specs.Store.{Command, Store}
use Rattle.fjall_base.specs.Disk.{Meaning, state_in}
use Rattle.fjall_base.specs.Disk as disk
use Rattle.fjall_base.specs.declared.error.Error.{Error}
use Rattle.fjall_base.specs.declared.error.Error.TheVariants.{Io, OutOfMemory, Storage, ValueTooLong}
use Rattle.fjall_files.specs.Regions.{IsSafe}
use Rattle.fjall_table.specs.declared.table_info.TableInfo.{TableInfo}
use Rattle.fjall_files.specs.Names.{table_name}
use Rattle.fjall_manifest.specs.declared.catalog.Catalog.{Catalog}
use Rattle.fjall_manifest.specs.Homes.{AreSafe}
use Rattle.fjall_manifest.specs.Catalog.{listed}
use Rattle.fjall_manifest.specs.Updates.{IsTableGone}
use Rattle.fjall_files.specs.Tidy.{IsTidy, StaysTidy}
use Rattle.fjall_files.proofs.Tidying.{stays_start}
use Rattle.fjall_machine.specs.Shapes.{CallShape, OfChange, OfCount, OfCreation, OfDeletion, OfFlushBegin, OfFlushFinish, OfHandle, OfIngestion, OfJournalRotation, OfMaintenance, OfMergeBegin, OfMergeFinish, OfPersist, OfRead, OfRotation, OfTickets, OneLess, OneMore}
use Rattle.fjall_table.specs.Blocks.{Entry}
use Rattle.fjall_table_reader.specs.Readers.{Reader}
use Rattle.fjall_trees.proofs.Same.{same_trees}
use Rattle.fjall_history.specs.declared.reply.Reply.{Reply}
use Rattle.fjall_history.specs.declared.reply.Reply.TheVariants.{Refused}
use Rattle.fjall_machine.specs.Machine.{HasTables, State, StepOf, TooLong}
use Rattle.fjall_machine.specs.Remembered.{IsDueOrMemory, facts_of}
use Rattle.fjall_engine.specs.Holding.{Held}
use Rattle.fjall_engine.specs.Durables.{Durable, Passes}
use Rattle.fjall_engine.specs.Crashes.{BlamesDevice, CallLeaves, IsSync, attempt, is_io}
use Rattle.fjall_engine.specs.Standing.{AsksMemoryIn, DiskLooked, DiskRead, HasTable, LooksAt, OnDisk, Owes, OwesRefusal, RanOut, ReadsOn, ReplacesTable, RestsOnTables, Serves, StandsFor, StandsOn, begins_merge_in, held_due, store_in, tables_of}
use Rattle.fjall_engine.proofs.CrashesInRuns.{passes_still}
use Rattle.fjall_engine.proofs.Refusals.{is_fault, never_due, no_attempt, no_sync}
use Rattle.fjall_engine.proofs.KeptEntries.{Finishes, HasGiven, KeepsTables, no_fault_keeps, step_keeps}
use Rattle.fjall_engine.proofs.TablesAtHome.{KeepsReads, keeps_same, said_same}
use Rattle.fjall_engine.proofs.OwedSteps.{due_step, memory_step, owes_step}
use Rattle.fjall_engine.proofs.DeviceFaults.{refusal_blames}
use Rattle.fjall_engine.proofs.JournalWrites.{Leads}
use Rattle.fjall_engine.proofs.RecordedTables.{recorded_step}

-- the core stands on some disk now, to which such a call leads
abbrev pub Led : Held → State → Durable → CallShape → Reply → Type 0
Led new s d shape reply = (e : Durable) × StandsOn new s.parts.entries e × CallLeaves s d shape reply e

-- what the device is to blame for, wherever the core stood
abbrev pub Blames : Held → Reply → Held → Type 0
Blames old reply new = (s : State) (d : Durable) → StandsFor old s → StandsOn old s.parts.entries d → IsTidy (state_in old.disk) → BlamesDevice reply old.disk new.disk

-- where the call leads, wherever the core stood
abbrev pub LeadsFrom : Held → CallShape → Reply → Held → Type 0
LeadsFrom old shape reply new = (s : State) (d : Durable) → StandsFor old s → StandsOn old s.parts.entries d → Led new s d shape reply

-- A call for which it matters what tables hold: a read of some, a merge that begins, a flush or a merge that is finished, and an ingestion of
-- some items.
abbrev pub NeedsTables : Held → CallShape → Type 0
NeedsTables core (OfRead view id query) = HasTables id core.memory.trees
NeedsTables core (OfFlushFinish job) = Unit {0}
NeedsTables core (OfMergeBegin kind id) = begins_merge_in core kind id ≡ true
NeedsTables core (OfMergeFinish job) = Unit {0}
NeedsTables core (OfIngestion id (item ∷ items)) = Unit {0}
NeedsTables core shape = ⊥

reads_none : (core : Held) (shape : CallShape) (reply : Reply) → (NeedsTables core shape → ⊥) → RestsOnTables core shape reply → ⊥
reads_none core (OfRead view id query) reply plain = plain
reads_none core (OfMergeBegin kind id) (Refused (Storage told)) plain = plain
reads_none core (OfMergeBegin kind id) reply plain = λ reads. reads
reads_none core (OfMergeFinish job) reply plain = λ rests. plain tt
reads_none core (OfChange change how) reply plain = λ reads. reads
reads_none core (OfIngestion id items) reply plain = λ reads. reads
reads_none core (OfCreation name options) reply plain = λ reads. reads
reads_none core (OfDeletion id) reply plain = λ reads. reads
reads_none core (OfHandle call id) reply plain = λ reads. reads
reads_none core (OfRotation id) reply plain = λ reads. reads
reads_none core OfJournalRotation reply plain = λ reads. reads
reads_none core (OfFlushBegin id) reply plain = λ reads. reads
reads_none core (OfFlushFinish job) reply plain = λ reads. reads
reads_none core OfMaintenance reply plain = λ reads. reads
reads_none core (OfTickets call) reply plain = λ reads. reads
reads_none core (OfPersist mode) reply plain = λ reads. reads
reads_none core (OfCount count) reply plain = λ reads. reads

finishes_none : (core : Held) (shape : CallShape) → (NeedsTables core shape → ⊥) → Finishes shape → ⊥
finishes_none core (OfFlushFinish job) plain = plain
finishes_none core (OfMergeFinish job) plain = plain
finishes_none core (OfMergeBegin kind id) plain = λ is. is
finishes_none core (OfRead view id query) plain = λ is. is
finishes_none core (OfChange change how) plain = λ is. is
finishes_none core (OfIngestion id []) plain = λ is. is
finishes_none core (OfIngestion id (item ∷ items)) plain = plain
finishes_none core (OfCreation name options) plain = λ is. is
finishes_none core (OfDeletion id) plain = λ is. is
finishes_none core (OfHandle call id) plain = λ is. is
finishes_none core (OfRotation id) plain = λ is. is
finishes_none core OfJournalRotation plain = λ is. is
finishes_none core (OfFlushBegin id) plain = λ is. is
finishes_none core OfMaintenance plain = λ is. is
finishes_none core (OfTickets call) plain = λ is. is
finishes_none core (OfPersist mode) plain = λ is. is
finishes_none core (OfCount count) plain = λ is. is

-- a keyspace that is made has no tables yet
given_else : (core : Held) (s t : State) → StandsFor core s → HasGiven s t → (id : ℕ) → ((s.parts.records id).next_table_id ≤ (t.parts.records id).next_table_id) ⊎ (s.parts.entries id ≡ [])
given_else core s t stands given id = elim (given id) [
  | inl le ↦ inl le
  | inr new ↦ inr (stands.remembered.beside.unused id (let next = ap (λ (x : Store). x.next) stands.remembered.present in omega (arith, new, next)))
]

-- What a call steps to, what it did to the disk, and where it leads, is what it serves, where it and its disk keep the tables.
pub served : (old new : Held) (shape : CallShape) (reply : Reply) → ((s t : State) → StepOf s shape reply t → KeepsTables s t) → ((s : State) → StandsFor old s → ReadsOn old s → (t : State) × StandsFor new t × StepOf s shape reply t) → OnDisk old shape reply new → StaysTidy old.disk new.disk → KeepsReads old new
    → Blames old reply new → LeadsFrom old shape reply new → Serves old shape reply new
served old new shape reply leaves steps disk stays keeps device led = record {
  disk = disk;
  goes_on = λ s stands reads.
      let stepped = steps s stands reads in
      let t = stepped.0 in
      let same = leaves s t stepped.2 in
      let kept = keeps s stands reads in (
        t,
        stepped.1,
        record { tables = said_same new.disk s t new.memory.trees same.entries same.damaged (given_else old s t stands same.given) kept.tables; writer = kept.writer; recorded = recorded_step old s t shape reply stands stepped.2 reads.recorded },
        stepped.2,
        λ d on.
            let way = led s d stands on in
            let blames = subst (λ (m : Meaning). IsTidy (state_in m) → BlamesDevice reply m way.0.meaning) (sym on.same)
            (subst (λ (m : Meaning). IsTidy (state_in old.disk) → BlamesDevice reply old.disk m) (sym way.1.same) (device s d stands on)) in
            let kinds = subst (λ (m : Meaning). StaysTidy m way.0.meaning) (sym on.same) (subst (λ (m : Meaning). StaysTidy old.disk m) (sym way.1.same) stays) in
            (way.0, subst (λ (e : ℕ → List (List Entry)). StandsOn new e way.0) (sym same.entries) way.1, (way.2.0, way.2.1, blames, kinds)),
      );
}

-- so it is of a call that needs no tables, by what it owes
pub serves_by : (old new : Held) (shape : CallShape) (reply : Reply) → Owes old shape reply new → (NeedsTables old shape → ⊥) → OnDisk old shape reply new → StaysTidy old.disk new.disk → KeepsReads old new
    → Blames old reply new → LeadsFrom old shape reply new → Serves old shape reply new
serves_by old new shape reply owes plain disk stays keeps device led =
    served old new shape reply (λ s t. step_keeps s t shape reply (finishes_none old shape plain)) (λ s stands reads. owes_step old new shape reply s (reads_none old shape reply plain) owes stands) disk stays keeps device led

-- a way that these commands lead, of a call that tried just them and was no sync
pub led_by : (new : Held) (s : State) (d : Durable) (shape : CallShape) (reply : Reply) (tried : List Command) → attempt s shape reply ≡ tried → (IsSync s shape reply → ⊥) → Leads s.parts.entries new d tried → Led new s d shape reply
led_by new s d shape reply tried is unsynced leads = (leads.0, leads.1, (subst (λ l. Passes d l leads.0) (sym is) leads.2, λ sync. absurd (unsynced sync)))

-- nothing was done, and nothing tried
pub still_led : (old new : Held) (s : State) (d : Durable) (shape : CallShape) (reply : Reply) → attempt s shape reply ≡ [] → (IsSync s shape reply → ⊥) → new ≡ old → StandsOn old s.parts.entries d → Led new s d shape reply
still_led old new s d shape reply none unsynced same on =
    led_by new s d shape reply [] none unsynced (d, subst (λ core. StandsOn core s.parts.entries d) (sym same) on, passes_still d on.rests)

-- ---- refusals

-- a core is as a read leaves it that looked at nothing
looks_same : (tables : List Reader) (core : Held) → LooksAt tables core core
looks_same [] core = refl
looks_same (t ∷ tables) core = record { memory_is = refl; trees = same_trees core.memory.trees; catalog = refl; journal = refl; faults = omega arith }

read_nothing : (tables : List Reader) (core : Held) → DiskRead tables core core
read_nothing [] core = refl
read_nothing (t ∷ tables) core = record { state = refl; steps = sym (append-nil core.disk.steps) }

out_untouched : (core : Held) (shape : CallShape) → DiskLooked core shape core
out_untouched core (OfHandle OneLess id) = record { state = refl; steps = sym (append-nil core.disk.steps) }
out_untouched core (OfMergeBegin kind id) = record { state = refl; steps = sym (append-nil core.disk.steps) }
out_untouched core (OfMergeFinish job) = refl
out_untouched core (OfHandle OneMore id) = refl
out_untouched core (OfRead view id query) = read_nothing (tables_of core id) core
out_untouched core (OfChange change how) = refl
out_untouched core (OfIngestion id items) = refl
out_untouched core (OfCreation name options) = refl
out_untouched core (OfDeletion id) = refl
out_untouched core (OfRotation id) = refl
out_untouched core OfJournalRotation = refl
out_untouched core (OfFlushBegin id) = refl
out_untouched core (OfFlushFinish job) = refl
out_untouched core OfMaintenance = refl
out_untouched core (OfTickets call) = refl
out_untouched core (OfPersist mode) = refl
out_untouched core (OfCount count) = refl

untouched : (core : Held) (shape : CallShape) (error : Error) → is_io error ≡ false → OnDisk core shape (Refused error) core
untouched core shape (Io kind) other = absurd (true≢false other)
untouched core shape OutOfMemory other = out_untouched core shape
untouched core shape (Storage told) other = out_untouched core shape
untouched core shape error other = refl

-- a refusal that is no fault and changes nothing
pub refusal_serves : (core : Held) (shape : CallShape) (error : Error) → is_io error ≡ false → ((s : State) → StandsFor core s → (t : State) × StandsFor core t × StepOf s shape (Refused error) t) → Serves core shape (Refused error) core
refusal_serves core shape error other steps = served core core shape (Refused error) (λ s t. no_fault_keeps s t shape error other) (λ s stands reads. steps s stands) (untouched core shape error other) (stays_start core.disk) (keeps_same core core refl)
    (λ s d stands on tidy. refusal_blames error core.disk other)
    (λ s d stands on. still_led core core s d shape (Refused error) (no_attempt s shape error other) (no_sync s shape error) refl on)

pub due_owes : (core : Held) (shape : CallShape) (error : Error) → held_due core shape ≡ Some error → Owes core shape (Refused error) core
due_owes core shape error due = subst (λ first. OwesRefusal first core shape error core) (sym due) (refl, refl)

-- a refusal that is due
pub due_serves : (core : Held) (shape : CallShape) (error : Error) → held_due core shape ≡ Some error → Serves core shape (Refused error) core
due_serves core shape error due = refusal_serves core shape error (ap is_fault (sym due) ∙ never_due (facts_of core.memory core.catalog.next_table_id) shape) (λ s stands. due_step core s shape error due stands)

-- a call that memory may run out in before it looks at the disk
abbrev pub RunsOut : Held → CallShape → Type 0
RunsOut core (OfMergeBegin kind id) = ⊥
RunsOut core shape = AsksMemoryIn core shape

asks_out : (core : Held) (shape : CallShape) → RunsOut core shape → AsksMemoryIn core shape
asks_out core (OfMergeBegin kind id) runs = absurd runs
asks_out core shape runs = runs

-- want of memory
ran_out : (core : Held) (shape : CallShape) → RunsOut core shape → RanOut core shape core
ran_out core (OfHandle OneLess id) runs = (refl, omega arith)
ran_out core (OfMergeBegin kind id) runs = absurd runs
ran_out core (OfMergeFinish job) runs = refl
ran_out core (OfHandle OneMore id) runs = refl
ran_out core (OfRead view id query) runs = looks_same (tables_of core id) core
ran_out core (OfChange change how) runs = refl
ran_out core (OfIngestion id items) runs = refl
ran_out core (OfCreation name options) runs = refl
ran_out core (OfDeletion id) runs = refl
ran_out core (OfRotation id) runs = refl
ran_out core OfJournalRotation runs = refl
ran_out core (OfFlushBegin id) runs = refl
ran_out core (OfFlushFinish job) runs = refl
ran_out core OfMaintenance runs = refl
ran_out core (OfTickets call) runs = refl
ran_out core (OfPersist mode) runs = refl
ran_out core (OfCount count) runs = refl

pub memory_owes : (core : Held) (shape : CallShape) → RunsOut core shape → held_due core shape ≡ None → Owes core shape (Refused OutOfMemory) core
memory_owes core shape runs due = subst (λ first. OwesRefusal first core shape OutOfMemory core) (sym due) (asks_out core shape runs, ran_out core shape runs)

pub memory_serves : (core : Held) (shape : CallShape) → RunsOut core shape → held_due core shape ≡ None → Serves core shape (Refused OutOfMemory) core
memory_serves core shape runs due = refusal_serves core shape OutOfMemory refl (λ s stands. memory_step core core s shape (asks_out core shape runs) due (ran_out core shape runs) stands)

-- an option that is too long
pub long_owes : (core : Held) (shape : CallShape) → TooLong (store_in core) shape → held_due core shape ≡ None → Owes core shape (Refused ValueTooLong) core
long_owes core shape long due = subst (λ first. OwesRefusal first core shape ValueTooLong core) (sym due) (long, refl)

pub long_serves : (core : Held) (shape : CallShape) → (RestsOnTables core shape (Refused ValueTooLong) → ⊥) → TooLong (store_in core) shape → held_due core shape ≡ None → Serves core shape (Refused ValueTooLong) core
long_serves core shape bare long due = refusal_serves core shape ValueTooLong refl (λ s stands. owes_step core core shape (Refused ValueTooLong) s bare (long_owes core shape long due) stands)

-- the refusal that is due, or want of memory where none is
pub either_owes : (core : Held) (shape : CallShape) (error : Error) → RunsOut core shape → IsDueOrMemory (held_due core shape) error → Owes core shape (Refused error) core
either_owes core shape error takes is = by_due (held_due core shape) refl is
  where
    by_due : (first : Option Error) → held_due core shape ≡ first → IsDueOrMemory first error → Owes core shape (Refused error) core
    by_due (Some first) due same = subst (λ e. Owes core shape (Refused e) core) (sym same) (due_owes core shape first due)
    by_due None due same = subst (λ e. Owes core shape (Refused e) core) (sym same) (memory_owes core shape takes due)

pub either_serves : (core : Held) (shape : CallShape) (error : Error) → RunsOut core shape → IsDueOrMemory (held_due core shape) error → Serves core shape (Refused error) core
either_serves core shape error takes is = by_due (held_due core shape) refl is
  where
    by_due : (first : Option Error) → held_due core shape ≡ first → IsDueOrMemory first error → Serves core shape (Refused error) core
    by_due (Some first) due same = subst (λ e. Serves core shape (Refused e) core) (sym same) (due_serves core shape first due)
    by_due None due same = subst (λ e. Serves core shape (Refused e) core) (sym same) (memory_serves core shape takes due)

-- ---- reads

-- an answer that changes nothing, of a call that asks for no command
pub answer_serves : (core : Held) (shape : CallShape) (reply : Reply) → (NeedsTables core shape → ⊥) → Owes core shape reply core → OnDisk core shape reply core → BlamesDevice reply core.disk core.disk → ((s : State) → attempt s shape reply ≡ [])
    → ((s : State) → IsSync s shape reply → ⊥) → Serves core shape reply core
answer_serves core shape reply bare owes disk blames none unsynced =
    serves_by core core shape reply owes bare disk (stays_start core.disk) (keeps_same core core refl) (λ s d stands on tidy. blames)
    (λ s d stands on. still_led core core s d shape reply (none s) (unsynced s) refl on)

-- ---- tree 0's table

-- A core that no fault poisoned has the table that its catalog names on the disk that it stands on.
table_there : (core : Held) (entries : ℕ → List (List Entry)) (d : Durable) → StandsOn core entries d → core.memory.poisoned ≡ false → HasTable (state_in core.disk) core.catalog
table_there core entries d on well =
    let lies = on.lies well in
    subst (λ (m : Meaning). HasTable (state_in m) core.catalog) on.same (subst (λ (c : Catalog). HasTable (state_in d.meaning) c) lies.last (of (state_in d.meaning) lies.tree.last.table _ lies.in_tree.rests.catalog.home.tables))
  where
    of : (state : disk.DiskState) (table : Option TableInfo) (texts : List (List ℕ)) → AreSafe state 0 (listed table) texts → IfSome table (λ t. (bytes : List ℕ) × IsSafe state (table_name 0 t.id) bytes)
    of state None texts safe = tt
    of state (Some t) [] safe = absurd safe
    of state (Some t) (bytes ∷ texts) safe = (bytes, safe.0)

-- The old table is gone, and the new one is there wherever the call leads the core.
pub replaces_table : (old new : Held) (shape : CallShape) (reply : Reply) → IsTableGone (state_in new.disk) old.catalog → new.memory.poisoned ≡ false → LeadsFrom old shape reply new → ReplacesTable old new
replaces_table old new shape reply gone well led = record {
  gone = gone;
  there = λ s d stands on. let way = led s d stands on in table_there new s.parts.entries way.0 way.1 well;
}
