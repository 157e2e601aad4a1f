-- What steps of the machine make of the list of accepted commands.
use Rattle.std.proofs.Common.{◌≡◌, inl, inr, ℕ, ◌+◌, Bool, true, false, if◌then◌else◌, List, [], ◌∷◌, ◌++◌, Option, Some, None, map, drop, length, refl, ◌∙◌, ap}
use Rattle.std.proofs.Math.Seq.{drop-append_seam, drop-length}
use Rattle.std.proofs.lemmas.List.{append-nil}
use Rattle.fjall_base.specs.Pairs.{Bytes}
use Rattle.fjall_base.specs.Store.{Command, Create, Delete}
use Rattle.fjall_base.specs.declared.error.Error.{Error}
use Rattle.fjall_base.specs.declared.error.Error.TheVariants.{Io, NumbersUsedUp, OutOfMemory, Poisoned, Storage, TooManyItems, ValueTooLong}
use Rattle.fjall_compaction.specs.Ingests.{ingestion}
use Rattle.fjall_reading.specs.Ingestions.{KeyOp}
use Rattle.fjall_journal.specs.Changes.{Emptied, Items}
use Rattle.fjall_meta.specs.Replays.{option_pairs}
use Rattle.fjall_history.specs.declared.job.JobId.{JobId}
use Rattle.fjall_history.specs.declared.reply.Reply.{Reply}
use Rattle.fjall_history.specs.declared.reply.Reply.TheVariants.{Refused}
use Rattle.fjall_history.specs.Histories.{Accepted, History, commands_of, grown, plain}
use Rattle.fjall_machine.specs.Shapes.{OfChange, OfCount, OfCreation, OfDeletion, OfFlushBegin, OfFlushFinish, OfHandle, OfIngestion, OfJournalRotation, OfMaintenance, OfMergeBegin, OfMergeFinish, OfPersist, OfRead, OfRotation, OfTickets, OneLess, OneMore, CallShape}
use Rattle.fjall_machine.specs.Machine.{Answers, BeginsFlush, BeginsMerge, CreatesOrFinds, EvictsSome, FinishesFlush, FinishesMerge, IngestionFails, IngestsInto, IsPoisoned, MayFail, Refuses, State, StepOf, WorkFails, at_fault, begins_flush, begins_merge, deleted, due, is_flushing, is_merging}
use Rattle.fjall_machine.specs.Machine.{is_living, is_long, journal_rotated, journal_synced, present, rotated, rotates, takes_effect, parts_written_out}
use Rattle.fjall_core.specs.Standing.{CoreState, gone_on, history_of}
use Rattle.fjall_shared.specs.Takings.{Adds, Always, Lists, May, Never, Taking, taking}

abbrev history : State → History
history s = s.history

as_it_was : (s t : State) → t ≡ s → t.history ≡ s.history
as_it_was s t same = ap history same

fault_history : (s : State) (shape : CallShape) → (at_fault s shape).history ≡ s.history
fault_history s (OfChange change how) = refl
fault_history s (OfIngestion id items) = refl
fault_history s (OfCreation name options) = refl
fault_history s (OfDeletion id) = refl
fault_history s (OfHandle OneMore id) = refl
fault_history s (OfHandle OneLess id) = refl
fault_history s (OfRotation id) = refl
fault_history s OfJournalRotation = refl
fault_history s (OfFlushBegin id) = refl
fault_history s (OfFlushFinish job) = refl
fault_history s (OfMergeBegin kind id) = refl
fault_history s (OfMergeFinish job) = refl
fault_history s OfMaintenance = refl
fault_history s (OfRead view id query) = refl
fault_history s (OfTickets call) = refl
fault_history s (OfPersist mode) = refl
fault_history s (OfCount count) = refl

synced_history : (s : State) → (journal_synced s).history ≡ s.history
synced_history s = by (is_long s.parts)
  where
    by : (b : Bool) → (if b then journal_rotated s else record s { parts = parts_written_out s.parts 0 }).history ≡ s.history
    by true = refl
    by false = refl

evicted_history : (s mid t : State) → EvictsSome s mid → IsPoisoned mid t → t.history ≡ s.history
evicted_history s mid t (gone, left, all, may, is) poisoned = ap history poisoned.is ∙ ap history is

ingestion_history : (s t : State) (id : ℕ) (items : List KeyOp) → IngestionFails s id items t → t.history ≡ s.history
ingestion_history s t id items (inl poisoned) = ap history poisoned.is
ingestion_history s t id items (inr (inl poisoned)) = ap history poisoned.is ∙ synced_history s
ingestion_history s t id items (inr (inr (mid, left, ingests, evicts, poisoned))) = ap history poisoned.is ∙ synced_history s

work_history : (s t : State) (shape : CallShape) → WorkFails shape s t → t.history ≡ s.history
work_history s t (OfFlushBegin id) (begins, left, poisoned) = ap history poisoned.is
work_history s t (OfFlushFinish job) (due, well, inl poisoned) = ap history poisoned.is
work_history s t (OfFlushFinish job) (due, well, inr (parts, mid, flushed, evicts, poisoned)) = evicted_history (record s { parts = parts }) mid t evicts poisoned
work_history s t (OfMergeBegin kind id) (begins, left, same) = ap history same
work_history s t (OfMergeFinish job) (due, well, inl poisoned) = ap history poisoned.is
work_history s t (OfMergeFinish job) (due, well, inr (parts, merged, poisoned)) = ap history poisoned.is
work_history s t OfMaintenance (mid, evicts, poisoned) = evicted_history s mid t evicts poisoned
work_history s t (OfIngestion id []) fails = absurd fails
work_history s t (OfIngestion id (item ∷ items)) (left, fails) = ingestion_history s t id (item ∷ items) fails
work_history s t (OfChange change how) fails = absurd fails
work_history s t (OfCreation name options) fails = absurd fails
work_history s t (OfDeletion id) fails = absurd fails
work_history s t (OfHandle call id) fails = absurd fails
work_history s t (OfRotation id) fails = absurd fails
work_history s t OfJournalRotation fails = absurd fails
work_history s t (OfRead view id query) fails = absurd fails
work_history s t (OfTickets call) fails = absurd fails
work_history s t (OfPersist mode) fails = absurd fails
work_history s t (OfCount count) fails = absurd fails

failure_history : (s t : State) (shape : CallShape) (error : Error) → MayFail shape error s t → t.history ≡ s.history
failure_history s t shape (Io kind) (inl (changes, fault)) = ap history fault.is ∙ fault_history s shape
failure_history s t shape (Io kind) (inr (inl (reads, same))) = as_it_was s t same
failure_history s t shape (Io kind) (inr (inr fails)) = work_history s t shape fails
failure_history s t shape OutOfMemory (takes, same) = as_it_was s t same
failure_history s t shape (Storage told) (is, damaged, same) = as_it_was s t same
failure_history s t shape ValueTooLong (long, same) = as_it_was s t same
failure_history s t shape Poisoned (late, same) = as_it_was s t same
failure_history s t shape NumbersUsedUp (used_up, same) = as_it_was s t same
failure_history s t shape TooManyItems (none_left, same) = as_it_was s t same
failure_history s t shape error none = absurd none

refusal_history : (s t : State) (shape : CallShape) (error : Error) (first : Option Error) → Refuses first shape error s t → t.history ≡ s.history
refusal_history s t shape error (Some first) (is, same) = as_it_was s t same
refusal_history s t shape error None failure = failure_history s t shape error failure

created_history : (s t : State) (name : Bytes) (options : List Bytes) (id : ℕ) → CreatesOrFinds s name options id t → Adds (May (Create name (option_pairs options))) s.history t.history
created_history s t name options id (inl (had, found, same)) = inl (as_it_was s t same)
created_history s t name options id (inr (fresh, is, made)) = inr (ap history made)

deleted_history : (s t : State) (id : ℕ) (living : Bool) → t ≡ (if living then deleted s id else s) → Adds (May (Delete id)) s.history t.history
deleted_history s t id true is = inr (ap history is)
deleted_history s t id false is = inl (as_it_was s t is)

rotated_history : (s t : State) (id : ℕ) (seals : Bool) → t ≡ (if seals then rotated s id else s) → t.history ≡ s.history
rotated_history s t id true is = ap history is
rotated_history s t id false is = as_it_was s t is

begun_history : (s t : State) (id : ℕ) (reply : Reply) (begins : Bool) → BeginsFlush begins s id reply t → t.history ≡ s.history
begun_history s t id reply true (told, left, is) = ap history is ∙ synced_history s
begun_history s t id reply false (told, same) = as_it_was s t same

finished_history : (s t : State) (job : JobId) (reply : Reply) (out takes : Bool) → FinishesFlush out takes s job reply t → t.history ≡ s.history
finished_history s t job reply true true (told, well, parts, flushed, is) = ap history is
finished_history s t job reply true false (told, is) = ap history is
finished_history s t job reply false takes (told, same) = as_it_was s t same

merge_begun_history : (s t : State) (id : ℕ) (reply : Reply) (begins : Bool) → BeginsMerge begins s id reply t → t.history ≡ s.history
merge_begun_history s t id reply true (told, small, is) = ap history is
merge_begun_history s t id reply false (told, same) = as_it_was s t same

merge_finished_history : (s t : State) (job : JobId) (reply : Reply) (out lives : Bool) → FinishesMerge out lives s job reply t → t.history ≡ s.history
merge_finished_history s t job reply true true (told, well, parts, merged, is) = ap history is
merge_finished_history s t job reply true false (told, is) = ap history is
merge_finished_history s t job reply false lives (told, same) = as_it_was s t same

ingested_history : (s t : State) (id : ℕ) (items : List KeyOp) (reply : Reply) → IngestsInto id items s reply t → Adds (taking (OfIngestion id items)) s.history t.history
ingested_history s t id [] reply (told, is) = as_it_was s t is
ingested_history s t id (item ∷ items) reply (told, left, mid, ingests, is) =
    ap history is ∙ ap history ingests.is ∙ ap (λ (h : History). grown h (plain (ingestion id (item ∷ items)))) (synced_history s)

answer_history : (s t : State) (shape : CallShape) (reply : Reply) → Answers s shape reply t → Adds (taking shape) s.history t.history
answer_history s t (OfChange (Items []) how) reply (told, is) = as_it_was s t is
answer_history s t (OfChange (Items (item ∷ items)) how) reply (told, is) = ap history is
answer_history s t (OfChange (Emptied id) how) reply (told, is) = ap history is
answer_history s t (OfIngestion id items) reply ingests = ingested_history s t id items reply ingests
answer_history s t (OfCreation name options) reply (id, told, makes) = created_history s t name options id makes
answer_history s t (OfDeletion id) reply (told, is) = deleted_history s t id (is_living (present s) id) is
answer_history s t (OfHandle OneMore id) reply (told, is) = ap history is
answer_history s t (OfHandle OneLess id) reply (told, is) = ap history is
answer_history s t (OfRotation id) reply (told, is) = rotated_history s t id (rotates s.parts.trees id) is
answer_history s t OfJournalRotation reply (told, is) = ap history is
answer_history s t (OfFlushBegin id) reply begun = begun_history s t id reply (begins_flush s.parts.trees id) begun
answer_history s t (OfFlushFinish job) reply finished = finished_history s t job reply (is_flushing s.parts.trees job) (takes_effect s job) finished
answer_history s t (OfMergeBegin kind id) reply begun = merge_begun_history s t id reply (begins_merge (present s) s.parts.trees kind id) begun
answer_history s t (OfMergeFinish job) reply finished = merge_finished_history s t job reply (is_merging s.parts.trees job) (is_living (present s) job.keyspace_id) finished
answer_history s t OfMaintenance reply (told, is) = ap history is
answer_history s t (OfRead view id query) reply (told, same) = as_it_was s t same
answer_history s t (OfTickets call) reply (turns, same) = ap history same
answer_history s t (OfPersist mode) reply (told, is) = ap history is
answer_history s t (OfCount count) reply (told, same) = as_it_was s t same

-- a step adds just the command of its call to the history, or nothing
pub step_history : (s t : State) (shape : CallShape) (reply : Reply) → StepOf s shape reply t → Lists (taking shape) reply s.history t.history
step_history s t shape (Refused error) refuses = refusal_history s t shape error (due s shape) refuses
step_history s t shape reply (none, answers) = answer_history s t shape reply answers

-- ---- as it is told

same_told : (t : CoreState) (s : State) → s.history ≡ t.state.history → history_of (gone_on t s) ≡ history_of t
same_told t s e =
    ap (λ (h : History). record h { accepted = t.accepted ++ map plain (commands_of (drop (length t.state.history.accepted) h.accepted)) }) e
    ∙ ap (λ (l : List Accepted). record t.state.history { accepted = t.accepted ++ map plain (commands_of l) }) (drop-length t.state.history.accepted)
    ∙ ap (λ (l : List Accepted). record t.state.history { accepted = l }) (append-nil t.accepted)

more_told : (t : CoreState) (s : State) (command : Command) → s.history ≡ grown t.state.history (plain command) → history_of (gone_on t s) ≡ grown (history_of t) (plain command)
more_told t s command e =
    ap (λ (h : History). record h { accepted = t.accepted ++ map plain (commands_of (drop (length t.state.history.accepted) h.accepted)) }) e
    ∙ ap (λ (l : List Accepted). record t.state.history { accepted = t.accepted ++ map plain (commands_of l) }) (drop-append_seam t.state.history.accepted (plain command ∷ []))

adds_told : (t : CoreState) (s : State) (takes : Taking) → Adds takes t.state.history s.history → Adds takes (history_of t) (history_of (gone_on t s))
adds_told t s Never same = same_told t s same
adds_told t s (Always command) grew = more_told t s command grew
adds_told t s (May command) (inl same) = inl (same_told t s same)
adds_told t s (May command) (inr grew) = inr (more_told t s command grew)

pub lists_told : (t : CoreState) (s : State) (takes : Taking) (reply : Reply) → Lists takes reply t.state.history s.history → Lists takes reply (history_of t) (history_of (gone_on t s))
lists_told t s takes (Refused error) same = same_told t s same
lists_told t s takes reply adds = adds_told t s takes adds
