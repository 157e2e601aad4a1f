-- A step leaves the history as it is or adds one command, and a poisoned state tries nothing.
use Rattle.std.proofs.Common.{◌≡◌, inl, inr, ℕ, Bool, true, false, List, [], ◌∷◌, ◌++◌, Option, Some, None, if◌then◌else◌, refl, sym, ◌∙◌, ap, subst, append_assoc}
use Rattle.std.proofs.lemmas.List.{append-nil}
use Rattle.std.proofs.lemmas.Bool.{true≢false}
use Rattle.fjall_base.specs.Pairs.{Bytes}
use Rattle.fjall_base.specs.Store.{Command, Create, Delete}
use Rattle.fjall_base.specs.declared.error.Error.{Error}
use Rattle.fjall_base.specs.declared.error.Error.TheVariants.{Io, NumbersUsedUp, OutOfMemory, Poisoned, Storage, TooManyItems, ValueTooLong}
use Rattle.fjall_compaction.specs.Ingests.{ingestion}
use Rattle.fjall_reading.specs.Ingestions.{KeyOp}
use Rattle.fjall_meta.specs.Replays.{option_pairs}
use Rattle.fjall_journal.specs.Changes.{Emptied, Items, command_of}
use Rattle.fjall_history.specs.declared.job.JobId.{JobId}
use Rattle.fjall_history.specs.declared.reply.Reply.{Reply}
use Rattle.fjall_history.specs.declared.reply.Reply.TheVariants.{Refused}
use Rattle.fjall_history.specs.Histories.{Accepted, History, grown, extended, plain}
use Rattle.fjall_machine.specs.declared.call.Call.{Call}
use Rattle.fjall_machine.specs.Shapes.{CallShape, OfChange, OfCount, OfCreation, OfDeletion, OfFlushBegin, OfFlushFinish, OfHandle, OfIngestion, OfJournalRotation, OfMaintenance, OfMergeBegin, OfMergeFinish, OfPersist, OfRead, OfRotation, OfTickets, OneLess, OneMore, shape_of}
use Rattle.fjall_machine.specs.Machine.{Answers, BeginsFlush, BeginsMerge, CreatesOrFinds, FinishesFlush, FinishesMerge, IngestionFails, IngestsInto, State, StepOf, ReadsTables, Refuses, MayFail, IsPoisoned, WorkFails, at_fault, begins_flush, begins_merge, deleted, due, facts, is_flushing, is_living, is_long, is_merging, journal_rotated, journal_synced, present, rotated, rotates, takes_effect, with_sealed, parts_written_out}
use Rattle.fjall_trees.specs.Forests.{Forest}
use Rattle.fjall_engine.specs.Durables.{Durable}
use Rattle.fjall_engine.specs.Crashes.{commands_asked, attempt, RunOn, Tried, is_io}
use Rattle.fjall_engine.proofs.Refusals.{Asks, asks, asks_nothing, asks_one, is_fault, never_due, no_attempt}

-- what a step tried and what it did to the history
pub data Moves (s : State) (tried : List Command) (t : State) : Type 0 where
  stays : (nothing : tried ≡ []) (history : t.history ≡ s.history) (flag : s.poisoned ≡ true → t.poisoned ≡ true) → Moves s tried t
  accepts : (command : Command) (one : tried ≡ command ∷ []) (history : t.history ≡ grown s.history (plain command)) (well : s.poisoned ≡ false) → Moves s tried t
  faults : (command : Command) (one : tried ≡ command ∷ []) (history : t.history ≡ s.history) (flag : t.poisoned ≡ true) (well : s.poisoned ≡ false) → Moves s tried t

as_it_was : (s t : State) (tried : List Command) → tried ≡ [] → t ≡ s → Moves s tried t
as_it_was s t tried none same = stays none (ap (λ (x : State). x.history) same) (λ bad. ap (λ (x : State). x.poisoned) same ∙ bad)

-- what a fault leaves, but that it poisons, has the history and the flag
same_history : (s : State) (shape : CallShape) → (at_fault s shape).history ≡ s.history
same_history s (OfHandle OneLess id) = refl
same_history s (OfHandle OneMore id) = refl
same_history s (OfChange change how) = refl
same_history s (OfIngestion id items) = refl
same_history s (OfCreation name options) = refl
same_history s (OfDeletion id) = refl
same_history s (OfRotation id) = refl
same_history s OfJournalRotation = refl
same_history s (OfFlushBegin id) = refl
same_history s (OfFlushFinish job) = refl
same_history s (OfMergeBegin kind id) = refl
same_history s (OfMergeFinish job) = refl
same_history s OfMaintenance = refl
same_history s (OfRead view id query) = refl
same_history s (OfTickets call) = refl
same_history s (OfPersist mode) = refl
same_history s (OfCount count) = refl

-- a fault, of whatever was asked
fault_moves : (s left t : State) (shape : CallShape) → Asks s shape → due s shape ≡ None → left.history ≡ s.history → IsPoisoned left t → Moves s (commands_asked s shape) t
fault_moves s left t shape (asks_nothing none) due_is same fault = stays none (ap (λ (x : State). x.history) fault.is ∙ same) (λ _. ap (λ (x : State). x.poisoned) fault.is)
fault_moves s left t shape (asks_one command is well) due_is same fault = faults command is (ap (λ (x : State). x.history) fault.is ∙ same) (ap (λ (x : State). x.poisoned) fault.is) (well due_is)

-- a read asks for nothing
reads_ask : (s : State) (trees : Forest) (shape : CallShape) → ReadsTables trees shape → commands_asked s shape ≡ []
reads_ask s trees (OfRead view id query) reads = refl
reads_ask s trees (OfHandle call id) reads = absurd reads
reads_ask s trees (OfChange change how) reads = absurd reads
reads_ask s trees (OfIngestion id items) reads = absurd reads
reads_ask s trees (OfCreation name options) reads = absurd reads
reads_ask s trees (OfDeletion id) reads = absurd reads
reads_ask s trees (OfRotation id) reads = absurd reads
reads_ask s trees OfJournalRotation reads = absurd reads
reads_ask s trees (OfFlushBegin id) reads = absurd reads
reads_ask s trees (OfFlushFinish job) reads = absurd reads
reads_ask s trees (OfMergeBegin kind id) reads = absurd reads
reads_ask s trees (OfMergeFinish job) reads = absurd reads
reads_ask s trees OfMaintenance reads = absurd reads
reads_ask s trees (OfTickets call) reads = absurd reads
reads_ask s trees (OfPersist mode) reads = absurd reads
reads_ask s trees (OfCount count) reads = absurd reads

-- a fault of a call that asks for nothing
worked : (s left t : State) (shape : CallShape) → commands_asked s shape ≡ [] → left.history ≡ s.history → IsPoisoned left t → Moves s (commands_asked s shape) t
worked s left t shape none same fault = stays none (ap (λ (x : State). x.history) fault.is ∙ same) (λ _. ap (λ (x : State). x.poisoned) fault.is)

-- a sync of the journal leaves the history and the flag
synced_history : (s : State) (long : Bool) → is_long s.parts ≡ long → ((journal_synced s).history ≡ s.history) × ((journal_synced s).poisoned ≡ s.poisoned)
synced_history s true is =
    let made : journal_synced s ≡ journal_rotated s = ap (λ b. if b then journal_rotated s else record s { parts = parts_written_out s.parts 0 }) is in
    (ap (λ (x : State). x.history) made, ap (λ (x : State). x.poisoned) made)
synced_history s false is =
    let made : journal_synced s ≡ record s { parts = parts_written_out s.parts 0 } = ap (λ b. if b then journal_rotated s else record s { parts = parts_written_out s.parts 0 }) is in
    (ap (λ (x : State). x.history) made, ap (λ (x : State). x.poisoned) made)

-- what a fault leaves of an ingestion has the history
ingestion_moves : (s t : State) (id : ℕ) (items : List KeyOp) → due s (OfIngestion id items) ≡ None → IngestionFails s id items t → Moves s (commands_asked s (OfIngestion id items)) t
ingestion_moves s t id items none (inl fault) = fault_moves s s t (OfIngestion id items) (asks s (OfIngestion id items)) none refl fault
ingestion_moves s t id items none (inr (inl fault)) =
    fault_moves s (journal_synced s) t (OfIngestion id items) (asks s (OfIngestion id items)) none (synced_history s (is_long s.parts) refl).0 fault
ingestion_moves s t id items none (inr (inr (mid, left, ingests, evicts, fault))) =
    fault_moves s (with_sealed left.parts.journals.sealed (journal_synced s)) t (OfIngestion id items) (asks s (OfIngestion id items)) none (synced_history s (is_long s.parts) refl).0 fault

-- a worker's step asks for nothing, an ingestion for one command, and a fault leaves the history
work_moves : (s t : State) (shape : CallShape) → due s shape ≡ None → WorkFails shape s t → Moves s (commands_asked s shape) t
work_moves s t (OfFlushBegin id) none (begins, numbered, fault) = worked s s t (OfFlushBegin id) refl refl fault
work_moves s t (OfFlushFinish job) none (due_so, well, inl fault) = worked s s t (OfFlushFinish job) refl refl fault
work_moves s t (OfFlushFinish job) none (due_so, well, inr (parts, mid, flushes, (gone, left, all, may, is), fault)) = worked s mid t (OfFlushFinish job) refl (ap (λ (x : State). x.history) is) fault
work_moves s t (OfMergeBegin kind id) none (begins, left, same) = as_it_was s t _ refl same
work_moves s t (OfMergeFinish job) none (due_so, well, inl fault) = worked s s t (OfMergeFinish job) refl refl fault
work_moves s t (OfMergeFinish job) none (due_so, well, inr (parts, merged, fault)) = worked s (record s { parts = parts }) t (OfMergeFinish job) refl refl fault
work_moves s t OfMaintenance none (mid, (gone, left, all, may, is), fault) = worked s mid t OfMaintenance refl (ap (λ (x : State). x.history) is) fault
work_moves s t (OfIngestion id []) none fails = absurd fails
work_moves s t (OfIngestion id (item ∷ items)) due_is (left, fails) = ingestion_moves s t id (item ∷ items) due_is fails
work_moves s t (OfChange change how) none fails = absurd fails
work_moves s t (OfCreation name options) none fails = absurd fails
work_moves s t (OfDeletion id) none fails = absurd fails
work_moves s t (OfHandle call id) none fails = absurd fails
work_moves s t (OfRotation id) none fails = absurd fails
work_moves s t OfJournalRotation none fails = absurd fails
work_moves s t (OfRead view id query) none fails = absurd fails
work_moves s t (OfTickets call) none fails = absurd fails
work_moves s t (OfPersist mode) none fails = absurd fails
work_moves s t (OfCount count) none fails = absurd fails

failure_moves : (s t : State) (shape : CallShape) (error : Error) → due s shape ≡ None → MayFail shape error s t → Moves s (attempt s shape (Refused error)) t
failure_moves s t shape (Io kind) none (inl (changes, fault)) = fault_moves s (at_fault s shape) t shape (asks s shape) none (same_history s shape) fault
failure_moves s t shape (Io kind) none (inr (inl (reads, same))) = as_it_was s t _ (reads_ask s s.parts.trees shape reads) same
failure_moves s t shape (Io kind) none (inr (inr fails)) = work_moves s t shape none fails
failure_moves s t shape OutOfMemory none (takes, same) = as_it_was s t _ refl same
failure_moves s t shape (Storage told) none (is, damage, same) = as_it_was s t _ refl same
failure_moves s t shape ValueTooLong none (long, same) = as_it_was s t _ refl same
failure_moves s t shape Poisoned none (late, same) = as_it_was s t _ refl same
failure_moves s t shape NumbersUsedUp none (used, same) = as_it_was s t _ refl same
failure_moves s t shape TooManyItems none (room, same) = as_it_was s t _ refl same
failure_moves s t shape error none fault = absurd fault

refusal_moves : (s t : State) (shape : CallShape) (error : Error) (first : Option Error) → due s shape ≡ first → Refuses first shape error s t → Moves s (attempt s shape (Refused error)) t
refusal_moves s t shape error (Some first) due_is (is, same) =
    as_it_was s t _ (no_attempt s shape error (ap is_io is ∙ ap is_fault (sym due_is) ∙ never_due (facts s) shape)) same
refusal_moves s t shape error None due_is failure = failure_moves s t shape error due_is failure

-- what was asked was accepted
accepted_moves : (s t : State) (shape : CallShape) (command : Command) → Asks s shape → commands_asked s shape ≡ command ∷ [] → due s shape ≡ None → t.history ≡ grown s.history (plain command) → Moves s (commands_asked s shape) t
accepted_moves s t shape command (asks_nothing none) is due_is history = let bad : ⊥ = cc in absurd bad
accepted_moves s t shape command (asks_one other other_is well) is due_is history = accepts command is history (well due_is)

-- nothing is asked, and the history and the flag stay
quiet : (s t : State) (tried : List Command) → tried ≡ [] → t.history ≡ s.history → t.poisoned ≡ s.poisoned → Moves s tried t
quiet s t tried none history flag = stays none history (λ bad. flag ∙ bad)

created_moves : (s t : State) (name : Bytes) (options : List Bytes) (id : ℕ) → due s (OfCreation name options) ≡ None → CreatesOrFinds s name options id t → Moves s (commands_asked s (OfCreation name options)) t
created_moves s t name options id none (inl (had, found, same)) = as_it_was s t _ (ap (λ b. if b then [] else (Create name (option_pairs options) ∷ [])) had) same
created_moves s t name options id none (inr (fresh, is, made)) =
    accepted_moves s t (OfCreation name options) (Create name (option_pairs options)) (asks s (OfCreation name options)) (ap (λ b. if b then [] else (Create name (option_pairs options) ∷ [])) fresh) none (ap (λ (x : State). x.history) made)

deleted_moves : (s t : State) (id : ℕ) (living : Bool) → is_living (present s) id ≡ living → due s (OfDeletion id) ≡ None → t ≡ (if living then deleted s id else s) → Moves s (commands_asked s (OfDeletion id)) t
deleted_moves s t id true living none is =
    accepted_moves s t (OfDeletion id) (Delete id) (asks s (OfDeletion id)) (ap (λ b. if b then (Delete id ∷ []) else []) living) none (ap (λ (x : State). x.history) is)
deleted_moves s t id false living none is = as_it_was s t _ (ap (λ b. if b then (Delete id ∷ []) else []) living) is

rotated_moves : (s t : State) (id : ℕ) (seals : Bool) → t ≡ (if seals then rotated s id else s) → Moves s [] t
rotated_moves s t id true is = quiet s t [] refl (ap (λ (x : State). x.history) is) (ap (λ (x : State). x.poisoned) is)
rotated_moves s t id false is = as_it_was s t [] refl is

begun_moves : (s t : State) (id : ℕ) (reply : Reply) (begins : Bool) → BeginsFlush begins s id reply t → Moves s [] t
begun_moves s t id reply true (told, numbered, is) =
    let synced = synced_history s (is_long s.parts) refl in
    quiet s t [] refl (ap (λ (x : State). x.history) is ∙ synced.0) (ap (λ (x : State). x.poisoned) is ∙ synced.1)
begun_moves s t id reply false (told, same) = as_it_was s t [] refl same

finished_moves : (s t : State) (job : JobId) (reply : Reply) (out takes : Bool) → FinishesFlush out takes s job reply t → Moves s [] t
finished_moves s t job reply true true (told, well, parts, flushes, is) = quiet s t [] refl (ap (λ (x : State). x.history) is) (ap (λ (x : State). x.poisoned) is)
finished_moves s t job reply true false (told, is) = quiet s t [] refl (ap (λ (x : State). x.history) is) (ap (λ (x : State). x.poisoned) is)
finished_moves s t job reply false takes (told, same) = as_it_was s t [] refl same

merge_begun_moves : (s t : State) (id : ℕ) (reply : Reply) (begins : Bool) → BeginsMerge begins s id reply t → Moves s [] t
merge_begun_moves s t id reply true (told, numbered, is) = quiet s t [] refl (ap (λ (x : State). x.history) is) (ap (λ (x : State). x.poisoned) is)
merge_begun_moves s t id reply false (told, same) = as_it_was s t [] refl same

merge_finished_moves : (s t : State) (job : JobId) (reply : Reply) (out lives : Bool) → FinishesMerge out lives s job reply t → Moves s [] t
merge_finished_moves s t job reply true true (told, well, parts, merged, is) = quiet s t [] refl (ap (λ (x : State). x.history) is) (ap (λ (x : State). x.poisoned) is)
merge_finished_moves s t job reply true false (told, is) = quiet s t [] refl (ap (λ (x : State). x.history) is) (ap (λ (x : State). x.poisoned) is)
merge_finished_moves s t job reply false lives (told, same) = as_it_was s t [] refl same

ingested_moves : (s t : State) (id : ℕ) (items : List KeyOp) (reply : Reply) → due s (OfIngestion id items) ≡ None → IngestsInto id items s reply t → Moves s (commands_asked s (OfIngestion id items)) t
ingested_moves s t id [] reply none (told, is) = as_it_was s t [] refl is
ingested_moves s t id (item ∷ items) reply none (told, left, mid, ingests, is) =
    let all = item ∷ items in
    let shape = OfIngestion id all in
    accepted_moves s t shape (ingestion id all) (asks s shape) refl none
    (ap (λ (x : State). x.history) is ∙ ap (λ (x : State). x.history) ingests.is ∙ ap (λ (h : History). grown h (plain (ingestion id all))) (synced_history s (is_long s.parts) refl).0)

answer_moves : (s t : State) (shape : CallShape) (reply : Reply) → due s shape ≡ None → Answers s shape reply t → Moves s (commands_asked s shape) t
answer_moves s t (OfChange (Items []) how) reply none (told, is) = as_it_was s t [] refl is
answer_moves s t (OfChange (Items (item ∷ items)) how) reply none (told, is) =
    let all = Items (item ∷ items) in
    accepted_moves s t (OfChange all how) (command_of all) (asks s (OfChange all how)) refl none (ap (λ (x : State). x.history) is)
answer_moves s t (OfChange (Emptied id) how) reply none (told, is) =
    accepted_moves s t (OfChange (Emptied id) how) (command_of (Emptied id)) (asks s (OfChange (Emptied id) how)) refl none (ap (λ (x : State). x.history) is)
answer_moves s t (OfIngestion id items) reply none ingests = ingested_moves s t id items reply none ingests
answer_moves s t (OfCreation name options) reply none (id, told, makes) = created_moves s t name options id none makes
answer_moves s t (OfDeletion id) reply none (told, is) = deleted_moves s t id (is_living (present s) id) refl none is
answer_moves s t (OfHandle OneMore id) reply none (told, is) = quiet s t [] refl (ap (λ (x : State). x.history) is) (ap (λ (x : State). x.poisoned) is)
answer_moves s t (OfHandle OneLess id) reply none (told, is) = quiet s t [] refl (ap (λ (x : State). x.history) is) (ap (λ (x : State). x.poisoned) is)
answer_moves s t (OfRotation id) reply none (told, is) = rotated_moves s t id (rotates s.parts.trees id) is
answer_moves s t OfJournalRotation reply none (told, is) = quiet s t [] refl (ap (λ (x : State). x.history) is) (ap (λ (x : State). x.poisoned) is)
answer_moves s t (OfFlushBegin id) reply none begins = begun_moves s t id reply (begins_flush s.parts.trees id) begins
answer_moves s t (OfFlushFinish job) reply none finishes = finished_moves s t job reply (is_flushing s.parts.trees job) (takes_effect s job) finishes
answer_moves s t (OfMergeBegin kind id) reply none begins = merge_begun_moves s t id reply (begins_merge (present s) s.parts.trees kind id) begins
answer_moves s t (OfMergeFinish job) reply none finishes = merge_finished_moves s t job reply (is_merging s.parts.trees job) (is_living (present s) job.keyspace_id) finishes
answer_moves s t OfMaintenance reply none (told, is) = quiet s t [] refl (ap (λ (x : State). x.history) is) (ap (λ (x : State). x.poisoned) is)
answer_moves s t (OfRead view id query) reply none (told, same) = as_it_was s t [] refl same
answer_moves s t (OfTickets call) reply none (turns, is) = quiet s t [] refl (ap (λ (x : State). x.history) is) (ap (λ (x : State). x.poisoned) is)
answer_moves s t (OfPersist mode) reply none (told, is) = quiet s t [] refl (ap (λ (x : State). x.history) is) (ap (λ (x : State). x.poisoned) is)
answer_moves s t (OfCount count) reply none (told, same) = as_it_was s t [] refl same

-- each step of the machine is one of these
pub step_moves : (s t : State) (shape : CallShape) (reply : Reply) → StepOf s shape reply t → Moves s (attempt s shape reply) t
step_moves s t shape (Refused error) refuses = refusal_moves s t shape error (due s shape) refl refuses
step_moves s t shape reply (none, answers) = answer_moves s t shape reply none answers

poisoned_moves : (s t : State) (tried : List Command) → s.poisoned ≡ true → Moves s tried t → (tried ≡ []) × (t.history ≡ s.history) × (t.poisoned ≡ true)
poisoned_moves s t tried bad (stays nothing history flag) = (nothing, history, flag bad)
poisoned_moves s t tried bad (accepts command one history well) = absurd (true≢false (sym bad ∙ well))
poisoned_moves s t tried bad (faults command one history flag well) = absurd (true≢false (sym bad ∙ well))

-- a poisoned state tries nothing any more
pub poisoned_run : (s t : State) (d e : Durable) (calls : List Call) (replies : List Reply) (tried : List Command) → s.poisoned ≡ true → RunOn s d calls replies tried t e → (tried ≡ []) × (t.history ≡ s.history) × (t.poisoned ≡ true)
poisoned_run s t d e [] [] tried bad run = (run.0, ap (λ (x : State). x.history) run.1, ap (λ (x : State). x.poisoned) run.1 ∙ bad)
poisoned_run s t d e (c ∷ calls) (r ∷ replies) tried bad (mid, on, rest, step, call, is, run) =
    let one = poisoned_moves s mid (attempt s (shape_of c) r) bad (step_moves s mid (shape_of c) r step) in
    let more = poisoned_run mid t on e calls replies rest one.2 run in
    (is ∙ ap (λ (l : List Command). l ++ rest) one.0 ∙ more.0, more.1 ∙ one.1, more.2)
poisoned_run s t d e [] (r ∷ replies) tried bad run = absurd run
poisoned_run s t d e (c ∷ calls) [] tried bad run = absurd run

tries_more : (s mid t : State) (first rest : List Command) → Moves s first mid → Tried mid rest t → (mid.poisoned ≡ true → (rest ≡ []) × (t.history ≡ mid.history) × (t.poisoned ≡ true)) → Tried s (first ++ rest) t
tries_more s mid t first rest (stays nothing history flag) more ends = record {
  accepted = more.accepted;
  history = more.history ∙ ap (λ h. extended h more.accepted) history;
  refused = more.refused;
  all = ap (λ (l : List Command). l ++ rest) nothing ∙ more.all;
  fault = more.fault;
}
tries_more s mid t first rest (accepts command one history well) more ends = record {
  accepted = plain command ∷ more.accepted;
  history = more.history ∙ ap (λ h. extended h more.accepted) history ∙ ap (λ (l : List Accepted). record s.history { accepted = l }) (append_assoc s.history.accepted (plain command ∷ []) more.accepted);
  refused = more.refused;
  all = ap (λ (l : List Command). l ++ rest) one ∙ ap (λ (l : List Command). command ∷ l) more.all;
  fault = more.fault;
}
tries_more s mid t first rest (faults command one history flag well) more ends =
    let end = ends flag in
    record {
      accepted = [];
      history = end.1 ∙ history ∙ ap (λ (l : List Accepted). record s.history { accepted = l }) (sym (append-nil s.history.accepted));
      refused = Some command;
      all = ap (λ (l : List Command). l ++ rest) one ∙ ap (λ (l : List Command). command ∷ l) end.0;
      fault = λ _. end.2;
    }

-- what a run tried was accepted, and at most one more at the end
pub run_tries : (s t : State) (d e : Durable) (calls : List Call) (replies : List Reply) (tried : List Command) → RunOn s d calls replies tried t e → Tried s tried t
run_tries s t d e [] [] tried run = record {
  accepted = [];
  history = ap (λ (x : State). x.history) run.1 ∙ ap (λ (l : List Accepted). record s.history { accepted = l }) (sym (append-nil s.history.accepted));
  refused = None;
  all = run.0;
  fault = λ some. absurd (true≢false (sym some));
}
run_tries s t d e (c ∷ calls) (r ∷ replies) tried (mid, on, rest, step, call, is, run) =
    subst (λ l. Tried s l t) (sym is)
    (tries_more s mid t (attempt s (shape_of c) r) rest (step_moves s mid (shape_of c) r step) (run_tries mid t on e calls replies rest run) (λ bad. poisoned_run mid t on e calls replies rest bad run))
run_tries s t d e [] (r ∷ replies) tried run = absurd run
run_tries s t d e (c ∷ calls) [] tried run = absurd run
