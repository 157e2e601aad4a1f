-- Each step of the machine is one small move of its history and its tickets.
use Rattle.std.proofs.Common.{◌≡◌, inl, inr, ℕ, Bool, true, false, if◌then◌else◌, List, [], ◌∷◌, Option, None, Some, refl, sym, ap, subst, ◌∙◌}
use Rattle.std.proofs.lemmas.Option.{none-some}
use Rattle.fjall_base.specs.Pairs.{Bytes}
use Rattle.fjall_base.specs.Store.{Create, Delete}
use Rattle.fjall_base.specs.declared.error.Error.{Error}
use Rattle.fjall_base.specs.declared.error.Error.TheVariants.{Io, NumbersUsedUp, OutOfMemory, Poisoned, SnapshotClosed, Storage, TooManyItems, ValueTooLong}
use Rattle.fjall_compaction.specs.Ingests.{ingestion}
use Rattle.fjall_reading.specs.Ingestions.{KeyOp}
use Rattle.fjall_journal.specs.Changes.{Emptied, Items, command_of}
use Rattle.fjall_meta.specs.Replays.{option_pairs}
use Rattle.fjall_history.specs.declared.job.JobId.{JobId}
use Rattle.fjall_history.specs.declared.reply.Reply.{Reply}
use Rattle.fjall_history.specs.declared.reply.Reply.TheVariants.{Refused}
use Rattle.fjall_history.specs.Histories.{grown, number, plain}
use Rattle.fjall_history.specs.Moves.{Accepts, Closes, Collects, Moves, MovesOn, NoMove, OneMove, Opens, Rests, Times}
use Rattle.fjall_history.specs.Tickets.{Tickets, closing_refusal, is_open}
use Rattle.fjall_machine.specs.declared.call.Call.{Call}
use Rattle.fjall_machine.specs.Shapes.{CallShape, Clone, Close, Collect, OfChange, OfCount, OfCreation, OfDeletion, OfFlushBegin, OfFlushFinish, OfHandle, OfIngestion, OfJournalRotation, OfMaintenance, OfMergeBegin, OfMergeFinish, OfPersist, OfRead, OfRotation, OfTickets, OneLess, OneMore, Open, TicketCall, shape_of}
use Rattle.fjall_machine.specs.Machine.{Answers, BeginsFlush, BeginsMerge, CreatesOrFinds, EvictsSome, FinishesFlush, FinishesMerge, IngestionFails, IngestsInto, IsPoisoned, MayFail, Refuses, Run, State, Step, StepOf, TurnsTickets, WorkFails, at_fault, begins_flush, begins_merge, deleted, due, is_flushing, is_merging, is_living, is_long, journal_rotated, journal_synced, present, rotated, rotates, takes_effect, ticket_refusal, times, parts_written_out}

still : (s t : State) → times t ≡ times s → Moves (times s) (times t)
still s t same = Rests same

as_it_was : (s t : State) → t ≡ s → Moves (times s) (times t)
as_it_was s t same = Rests (ap times same)

-- a fault leaves the history and the tickets
fault_times : (s : State) (shape : CallShape) → times (at_fault s shape) ≡ times s
fault_times s (OfChange change how) = refl
fault_times s (OfIngestion id items) = refl
fault_times s (OfCreation name options) = refl
fault_times s (OfDeletion id) = refl
fault_times s (OfHandle OneMore id) = refl
fault_times s (OfHandle OneLess id) = refl
fault_times s (OfRotation id) = refl
fault_times s OfJournalRotation = refl
fault_times s (OfFlushBegin id) = refl
fault_times s (OfFlushFinish job) = refl
fault_times s (OfMergeBegin kind id) = refl
fault_times s (OfMergeFinish job) = refl
fault_times s OfMaintenance = refl
fault_times s (OfRead view id query) = refl
fault_times s (OfTickets call) = refl
fault_times s (OfPersist mode) = refl
fault_times s (OfCount count) = refl

-- a synced journal leaves them, whether it is sealed or not
synced_times : (s : State) → times (journal_synced s) ≡ times s
synced_times s = by (is_long s.parts)
  where
    by : (b : Bool) → times (if b then journal_rotated s else record s { parts = parts_written_out s.parts 0 }) ≡ times s
    by true = refl
    by false = refl

-- a worker's step that fails leaves them too
evicted_times : (s mid t : State) → EvictsSome s mid → IsPoisoned mid t → times t ≡ times s
evicted_times s mid t (gone, left, all, may, is) poisoned = ap times poisoned.is ∙ ap times is

ingestion_times : (s t : State) (id : ℕ) (items : List KeyOp) → IngestionFails s id items t → times t ≡ times s
ingestion_times s t id items (inl poisoned) = ap times poisoned.is
ingestion_times s t id items (inr (inl poisoned)) = ap times poisoned.is ∙ synced_times s
ingestion_times s t id items (inr (inr (mid, left, ingests, evicts, poisoned))) = ap times poisoned.is ∙ synced_times s

work_times : (s t : State) (shape : CallShape) → WorkFails shape s t → times t ≡ times s
work_times s t (OfFlushBegin id) (begins, left, poisoned) = ap times poisoned.is
work_times s t (OfFlushFinish job) (due, well, inl poisoned) = ap times poisoned.is
work_times s t (OfFlushFinish job) (due, well, inr (parts, mid, flushed, evicts, poisoned)) = evicted_times (record s { parts = parts }) mid t evicts poisoned
work_times s t (OfMergeBegin kind id) (begins, left, same) = ap times same
work_times s t (OfMergeFinish job) (due, well, inl poisoned) = ap times poisoned.is
work_times s t (OfMergeFinish job) (due, well, inr (parts, merged, poisoned)) = ap times poisoned.is
work_times s t OfMaintenance (mid, evicts, poisoned) = evicted_times s mid t evicts poisoned
work_times s t (OfIngestion id []) fails = absurd fails
work_times s t (OfIngestion id (item ∷ items)) (left, fails) = ingestion_times s t id (item ∷ items) fails
work_times s t (OfChange change how) fails = absurd fails
work_times s t (OfCreation name options) fails = absurd fails
work_times s t (OfDeletion id) fails = absurd fails
work_times s t (OfHandle call id) fails = absurd fails
work_times s t (OfRotation id) fails = absurd fails
work_times s t OfJournalRotation fails = absurd fails
work_times s t (OfRead view id query) fails = absurd fails
work_times s t (OfTickets call) fails = absurd fails
work_times s t (OfPersist mode) fails = absurd fails
work_times s t (OfCount count) fails = absurd fails

failure_moves : (s t : State) (shape : CallShape) (error : Error) → MayFail shape error s t → Moves (times s) (times t)
failure_moves s t shape (Io kind) (inl (changes, fault)) = still s t (ap times fault.is ∙ fault_times s shape)
failure_moves s t shape (Io kind) (inr (inl (reads, same))) = as_it_was s t same
failure_moves s t shape (Io kind) (inr (inr fails)) = still s t (work_times s t shape fails)
failure_moves s t shape OutOfMemory (takes, same) = as_it_was s t same
failure_moves s t shape (Storage told) (is, damaged, same) = as_it_was s t same
failure_moves s t shape ValueTooLong (long, same) = as_it_was s t same
failure_moves s t shape Poisoned (late, same) = as_it_was s t same
failure_moves s t shape NumbersUsedUp (used_up, same) = as_it_was s t same
failure_moves s t shape TooManyItems (none_left, same) = as_it_was s t same
failure_moves s t shape error none = absurd none

refusal_moves : (s t : State) (shape : CallShape) (error : Error) (first : Option Error) → Refuses first shape error s t → Moves (times s) (times t)
refusal_moves s t shape error (Some first) (is, same) = as_it_was s t same
refusal_moves s t shape error None failure = failure_moves s t shape error failure

created_moves : (s t : State) (name : Bytes) (options : List Bytes) (id : ℕ) → CreatesOrFinds s name options id t → Moves (times s) (times t)
created_moves s t name options id (inl (had, found, same)) = as_it_was s t same
created_moves s t name options id (inr (fresh, is, made)) = Accepts (plain (Create name (option_pairs options))) (ap times made)

deleted_moves : (s t : State) (id : ℕ) (living : Bool) → t ≡ (if living then deleted s id else s) → Moves (times s) (times t)
deleted_moves s t id true is = Accepts (plain (Delete id)) (ap times is)
deleted_moves s t id false is = as_it_was s t is

rotated_moves : (s t : State) (id : ℕ) (seals : Bool) → t ≡ (if seals then rotated s id else s) → Moves (times s) (times t)
rotated_moves s t id true is = Collects (ap times is)
rotated_moves s t id false is = as_it_was s t is

begun_moves : (s t : State) (id : ℕ) (reply : Reply) (begins : Bool) → BeginsFlush begins s id reply t → Moves (times s) (times t)
begun_moves s t id reply true (told, left, is) = still s t (ap times is ∙ synced_times s)
begun_moves s t id reply false (told, same) = as_it_was s t same

finished_moves : (s t : State) (job : JobId) (reply : Reply) (out takes : Bool) → FinishesFlush out takes s job reply t → Moves (times s) (times t)
finished_moves s t job reply true true (told, well, parts, flushed, is) = still s t (ap times is)
finished_moves s t job reply true false (told, is) = still s t (ap times is)
finished_moves s t job reply false takes (told, same) = as_it_was s t same

merge_begun_moves : (s t : State) (id : ℕ) (reply : Reply) (begins : Bool) → BeginsMerge begins s id reply t → Moves (times s) (times t)
merge_begun_moves s t id reply true (told, small, is) = still s t (ap times is)
merge_begun_moves s t id reply false (told, same) = as_it_was s t same

merge_finished_moves : (s t : State) (job : JobId) (reply : Reply) (out lives : Bool) → FinishesMerge out lives s job reply t → Moves (times s) (times t)
merge_finished_moves s t job reply true true (told, well, parts, merged, is) = still s t (ap times is)
merge_finished_moves s t job reply true false (told, is) = still s t (ap times is)
merge_finished_moves s t job reply false lives (told, same) = as_it_was s t same

-- a ticket whose closing nothing refuses is open
pub open_there : (t : Tickets) (id : ℕ) → closing_refusal id t ≡ None → is_open t id ≡ true
open_there t id none = either (is_open t id) none
  where
    either : (b : Bool) → (if b then None else Some SnapshotClosed) ≡ None → b ≡ true
    either true e = refl
    either false e = absurd (none-some SnapshotClosed (sym e))

tickets_move : (s t : State) (call : TicketCall) (reply : Reply) → ticket_refusal s.tickets call ≡ None → TurnsTickets (number s.history) s.tickets call reply t.tickets → t ≡ record s { tickets = t.tickets } → Moves (times s) (times t)
tickets_move s t Open reply none (told, is) same = Opens (number s.history) (inl refl) (ap times same ∙ ap (λ (k : Tickets). record (times s) { tickets = k }) is)
tickets_move s t (Clone id) reply none (instant, there, told, is) same = Opens instant (inr (id, there)) (ap times same ∙ ap (λ (k : Tickets). record (times s) { tickets = k }) is)
tickets_move s t (Close id) reply none (told, is) same = Closes id (open_there s.tickets id none) (ap times same ∙ ap (λ (k : Tickets). record (times s) { tickets = k }) is)
tickets_move s t Collect reply none (told, is) same = Collects (ap times same ∙ ap (λ (k : Tickets). record (times s) { tickets = k }) is)

ingested_moves : (s t : State) (id : ℕ) (items : List KeyOp) (reply : Reply) → IngestsInto id items s reply t → Moves (times s) (times t)
ingested_moves s t id [] reply (told, is) = as_it_was s t is
ingested_moves s t id (item ∷ items) reply (told, left, mid, ingests, is) =
    Accepts (plain (ingestion id (item ∷ items)))
    (ap times is ∙ ap times ingests.is ∙ ap (λ (k : Times). record k { history = grown k.history (plain (ingestion id (item ∷ items))) }) (synced_times s))

answer_moves : (s t : State) (shape : CallShape) (reply : Reply) → due s shape ≡ None → Answers s shape reply t → Moves (times s) (times t)
answer_moves s t (OfChange (Items []) how) reply none (told, is) = as_it_was s t is
answer_moves s t (OfChange (Items (item ∷ items)) how) reply none (told, is) = Accepts (plain (command_of (Items (item ∷ items)))) (ap times is)
answer_moves s t (OfChange (Emptied id) how) reply none (told, is) = Accepts (plain (command_of (Emptied id))) (ap times is)
answer_moves s t (OfIngestion id items) reply none ingests = ingested_moves s t id items reply ingests
answer_moves s t (OfCreation name options) reply none (id, told, makes) = created_moves s t name options id makes
answer_moves s t (OfDeletion id) reply none (told, is) = deleted_moves s t id (is_living (present s) id) is
answer_moves s t (OfHandle OneMore id) reply none (told, is) = still s t (ap times is)
answer_moves s t (OfHandle OneLess id) reply none (told, is) = still s t (ap times is)
answer_moves s t (OfRotation id) reply none (told, is) = rotated_moves s t id (rotates s.parts.trees id) is
answer_moves s t OfJournalRotation reply none (told, is) = still s t (ap times is)
answer_moves s t (OfFlushBegin id) reply none begun = begun_moves s t id reply (begins_flush s.parts.trees id) begun
answer_moves s t (OfFlushFinish job) reply none finished = finished_moves s t job reply (is_flushing s.parts.trees job) (takes_effect s job) finished
answer_moves s t (OfMergeBegin kind id) reply none begun = merge_begun_moves s t id reply (begins_merge (present s) s.parts.trees kind id) begun
answer_moves s t (OfMergeFinish job) reply none finished = merge_finished_moves s t job reply (is_merging s.parts.trees job) (is_living (present s) job.keyspace_id) finished
answer_moves s t OfMaintenance reply none (told, is) = still s t (ap times is)
answer_moves s t (OfRead view id query) reply none (told, same) = as_it_was s t same
answer_moves s t (OfTickets call) reply none (turns, same) = tickets_move s t call reply none turns same
answer_moves s t (OfPersist mode) reply none (told, is) = still s t (ap times is)
answer_moves s t (OfCount count) reply none (told, same) = as_it_was s t same

pub shape_moves : (s t : State) (shape : CallShape) (reply : Reply) → StepOf s shape reply t → Moves (times s) (times t)
shape_moves s t shape (Refused error) refuses = refusal_moves s t shape error (due s shape) refuses
shape_moves s t shape reply (none, answers) = answer_moves s t shape reply none answers

pub step_moves : (s t : State) (call : Call) (reply : Reply) → Step s call reply t → Moves (times s) (times t)
step_moves s t call reply step = shape_moves s t (shape_of call) reply step

pub run_moves : (s t : State) (calls : List Call) (replies : List Reply) → Run s calls replies t → MovesOn (times s) (times t)
run_moves s t [] [] run = subst (λ k. MovesOn (times s) (times k)) (sym run) (NoMove (times s))
run_moves s t (call ∷ calls) (reply ∷ replies) (mid, step, run) = OneMove (times s) (times mid) (times t) (step_moves s mid call reply step) (run_moves mid t calls replies run)
run_moves s t [] (reply ∷ replies) run = absurd run
run_moves s t (call ∷ calls) [] run = absurd run
