-- What each step of the machine does to the store, to the tickets, to what is told, and to whether the engine is well.
use Rattle.std.proofs.Common.{◌≡◌, ◌⊎◌, inl, inr, ℕ, ◌||◌, ◌&&◌, not, Bool, true, false, if◌then◌else◌, List, [], ◌∷◌, Option, None, Some, refl, sym, ap, ◌∙◌}
use Rattle.std.proofs.lemmas.Bool.{true≢false}
use Rattle.std.proofs.lemmas.Option.{none-some}
use Rattle.std.specs.List.{list_any}
use Rattle.std.specs.declared.io.ErrorKind.{ErrorKind}
use Rattle.fjall_base.specs.Pairs.{Bytes}
use Rattle.fjall_base.specs.Store.{Command, Create, Delete, Store, fold}
use Rattle.fjall_base.specs.declared.error.Error.{Error}
use Rattle.fjall_base.specs.declared.error.Error.TheVariants.{Io, NumbersUsedUp, OutOfMemory, Poisoned, Storage, TooManyItems, ValueTooLong}
use Rattle.fjall_compaction.specs.Ingests.{ingestion}
use Rattle.fjall_reading.specs.Ingestions.{KeyOp}
use Rattle.fjall_journal.specs.Changes.{Emptied, Items, command_of}
use Rattle.fjall_meta.specs.Replays.{option_pairs}
use Rattle.fjall_history.specs.declared.job.JobId.{JobId}
use Rattle.fjall_history.specs.declared.reply.Reply.{Reply}
use Rattle.fjall_history.specs.declared.reply.Reply.TheVariants.{Opened, Refused}
use Rattle.fjall_history.specs.declared.ticket.Ticket.{Ticket}
use Rattle.fjall_history.specs.Histories.{grown, latest, plain}
use Rattle.fjall_history.specs.Moves.{Times}
use Rattle.fjall_history.specs.Queries.{Get, Page}
use Rattle.fjall_history.specs.Tickets.{Tickets}
use Rattle.fjall_machine.specs.Shapes.{CallShape, Count, DiskSpace, Entries, Exists, Flushes, JournalSpace, Keyspaces, MergesDone, MergesOut, Next, OfChange, OfCount, OfCreation, OfDeletion, OfFlushBegin, OfFlushFinish, OfHandle, OfIngestion, OfJournalRotation, OfMaintenance, OfMergeBegin, OfMergeFinish, OfPersist, OfRead, OfRotation, OfTickets, OneLess, OneMore, OpenTickets, SealedMemtables, Tables, TablesL0, TicketCall, ToFlush, Visible, WriteBuffer}
use Rattle.fjall_machine.specs.Shapes as shapes
use Rattle.fjall_machine.specs.Machine.{Answers, BeginsFlush, BeginsMerge, CountIs, CreatesOrFinds, EvictsSome, FinishesFlush, FinishesMerge, IngestionFails, IngestsInto, IsPoisoned, MayFail, ReadsTables, Refuses, State, StepOf, WorkFails, at_fault, begins_flush, begins_merge, clear_refusals, creation_refusals, deleted, deletion_refusals, due, facts, first_due, names_one, ingestion_refusals, is_flushing, is_living, is_long, is_merging, items_refusals, journal_rotated, journal_synced, present, rotated, rotates, takes_effect, times, parts_written_out}
use Rattle.fjall_machine.proofs.Dues.{is_so, neither, none_due}
use Rattle.fjall_machine.proofs.Viewing.{latest_grown}
use Rattle.fjall_consistency.specs.Consistency.{is_fault}
use Rattle.fjall_calls.specs.Crashes.{commands_asked, is_io}

-- ---- refused

-- what no refusal changes: the history and the tickets, and which keyspaces are damaged
abbrev standing : State → Times × List ℕ
standing s = (times s, s.damaged)

-- a fault leaves it
fault_standing : (s : State) (shape : CallShape) → standing (at_fault s shape) ≡ standing s
fault_standing s (OfChange change how) = refl
fault_standing s (OfIngestion id items) = refl
fault_standing s (OfCreation name options) = refl
fault_standing s (OfDeletion id) = refl
fault_standing s (OfHandle OneMore id) = refl
fault_standing s (OfHandle OneLess id) = refl
fault_standing s (OfRotation id) = refl
fault_standing s OfJournalRotation = refl
fault_standing s (OfFlushBegin id) = refl
fault_standing s (OfFlushFinish job) = refl
fault_standing s (OfMergeBegin kind id) = refl
fault_standing s (OfMergeFinish job) = refl
fault_standing s OfMaintenance = refl
fault_standing s (OfRead view id query) = refl
fault_standing s (OfTickets call) = refl
fault_standing s (OfPersist mode) = refl
fault_standing s (OfCount count) = refl

-- so does a sync of the journal, whether it is sealed or not
synced_standing : (s : State) → standing (journal_synced s) ≡ standing s
synced_standing s = by (is_long s.parts)
  where
    by : (b : Bool) → standing (if b then journal_rotated s else record s { parts = parts_written_out s.parts 0 }) ≡ standing s
    by true = refl
    by false = refl

synced_times : (s : State) → times (journal_synced s) ≡ times s
synced_times s = ap (λ (k : Times × List ℕ). k.0) (synced_standing s)

-- a worker's step or an ingestion that fails leaves it too
evicted_standing : (s mid t : State) → EvictsSome s mid → IsPoisoned mid t → standing t ≡ standing s
evicted_standing s mid t (gone, left, all, may, is) poisoned = ap standing poisoned.is ∙ ap standing is

ingestion_standing : (s t : State) (id : ℕ) (items : List KeyOp) → IngestionFails s id items t → standing t ≡ standing s
ingestion_standing s t id items (inl poisoned) = ap standing poisoned.is
ingestion_standing s t id items (inr (inl poisoned)) = ap standing poisoned.is ∙ synced_standing s
ingestion_standing s t id items (inr (inr (mid, left, ingests, evicts, poisoned))) = ap standing poisoned.is ∙ synced_standing s

work_standing : (s t : State) (shape : CallShape) → WorkFails shape s t → standing t ≡ standing s
work_standing s t (OfFlushBegin id) (begins, left, poisoned) = ap standing poisoned.is
work_standing s t (OfFlushFinish job) (due, well, inl poisoned) = ap standing poisoned.is
work_standing s t (OfFlushFinish job) (due, well, inr (parts, mid, flushed, evicts, poisoned)) = evicted_standing (record s { parts = parts }) mid t evicts poisoned
work_standing s t (OfMergeBegin kind id) (begins, left, same) = ap standing same
work_standing s t (OfMergeFinish job) (due, well, inl poisoned) = ap standing poisoned.is
work_standing s t (OfMergeFinish job) (due, well, inr (parts, merged, poisoned)) = ap standing poisoned.is
work_standing s t OfMaintenance (mid, evicts, poisoned) = evicted_standing s mid t evicts poisoned
work_standing s t (OfIngestion id []) fails = absurd fails
work_standing s t (OfIngestion id (item ∷ items)) (left, fails) = ingestion_standing s t id (item ∷ items) fails
work_standing s t (OfChange change how) fails = absurd fails
work_standing s t (OfCreation name options) fails = absurd fails
work_standing s t (OfDeletion id) fails = absurd fails
work_standing s t (OfHandle call id) fails = absurd fails
work_standing s t (OfRotation id) fails = absurd fails
work_standing s t OfJournalRotation fails = absurd fails
work_standing s t (OfRead view id query) fails = absurd fails
work_standing s t (OfTickets call) fails = absurd fails
work_standing s t (OfPersist mode) fails = absurd fails
work_standing s t (OfCount count) fails = absurd fails

failure_standing : (s t : State) (shape : CallShape) (error : Error) → MayFail shape error s t → standing t ≡ standing s
failure_standing s t shape (Io kind) (inl (changes, fault)) = ap standing fault.is ∙ fault_standing s shape
failure_standing s t shape (Io kind) (inr (inl (reads, same))) = ap standing same
failure_standing s t shape (Io kind) (inr (inr fails)) = work_standing s t shape fails
failure_standing s t shape OutOfMemory (takes, same) = ap standing same
failure_standing s t shape (Storage told) (is, damaged, same) = ap standing same
failure_standing s t shape ValueTooLong (long, same) = ap standing same
failure_standing s t shape Poisoned (late, same) = ap standing same
failure_standing s t shape NumbersUsedUp (used_up, same) = ap standing same
failure_standing s t shape TooManyItems (none_left, same) = ap standing same
failure_standing s t shape error none = absurd none

refused_standing : (s t : State) (shape : CallShape) (error : Error) (first : Option Error) → Refuses first shape error s t → standing t ≡ standing s
refused_standing s t shape error (Some first) (is, same) = ap standing same
refused_standing s t shape error None fails = failure_standing s t shape error fails

-- a call that is refused leaves the history and the tickets
pub refused_times : (s t : State) (shape : CallShape) (error : Error) → StepOf s shape (Refused error) t → times t ≡ times s
refused_times s t shape error refuses = ap (λ (k : Times × List ℕ). k.0) (refused_standing s t shape error (due s shape) refuses)

-- ---- poisoned

-- where a call fails that isn't told of a fault of the disk, nothing changes
failure_poisoned : (s t : State) (shape : CallShape) (error : Error) → MayFail shape error s t → (t ≡ s) ⊎ (is_fault (Refused error) ≡ true)
failure_poisoned s t shape (Io kind) fails = inr refl
failure_poisoned s t shape OutOfMemory (takes, same) = inl same
failure_poisoned s t shape (Storage told) (is, damaged, same) = inl same
failure_poisoned s t shape ValueTooLong (long, same) = inl same
failure_poisoned s t shape Poisoned (late, same) = inl same
failure_poisoned s t shape NumbersUsedUp (used_up, same) = inl same
failure_poisoned s t shape TooManyItems (none_left, same) = inl same
failure_poisoned s t shape error none = absurd none

refused_poisoned : (s t : State) (shape : CallShape) (error : Error) (first : Option Error) → Refuses first shape error s t → (t ≡ s) ⊎ (is_fault (Refused error) ≡ true)
refused_poisoned s t shape error (Some first) (is, same) = inl same
refused_poisoned s t shape error None fails = failure_poisoned s t shape error fails

only_by_fault : (s t : State) (fault : Bool) → (t ≡ s) ⊎ (fault ≡ true) → t.poisoned ≡ true → (s.poisoned ≡ true) ⊎ (fault ≡ true)
only_by_fault s t fault (inl same) poisoned = inl (ap (λ (x : State). x.poisoned) (sym same) ∙ poisoned)
only_by_fault s t fault (inr is) poisoned = inr is

-- ---- accepted

stays : (s t : State) → times t ≡ times s → present t ≡ present s
stays s t same = ap (λ (k : Times). latest k.history) same

grows : (s t : State) (c : Command) → t.history ≡ grown s.history (plain c) → present t ≡ fold (present s) (c ∷ [])
grows s t c is = ap latest is ∙ latest_grown s.history (plain c)

-- where a choice asks for a command, or for none
pub chosen : (s : Store) (c : Command) (is : Bool) (b : Bool) → b ≡ is → fold s (if b then [] else (c ∷ [])) ≡ fold s (if is then [] else (c ∷ []))
chosen s c is b e = ap (λ x. fold s (if x then [] else (c ∷ []))) e

created_present : (s t : State) (name : Bytes) (options : List Bytes) (id : ℕ) → CreatesOrFinds s name options id t → present t ≡ fold (present s) (commands_asked s (OfCreation name options))
created_present s t name options id (inl (had, found, same)) = ap present same ∙ sym (chosen (present s) (Create name (option_pairs options)) true (names_one (present s) name) had)
created_present s t name options id (inr (fresh, is, made)) =
    grows s t (Create name (option_pairs options)) (ap (λ (x : State). x.history) made) ∙ sym (chosen (present s) (Create name (option_pairs options)) false (names_one (present s) name) fresh)

deleted_present : (s t : State) (id : ℕ) (living : Bool) → is_living (present s) id ≡ living → t ≡ (if living then deleted s id else s) → present t ≡ fold (present s) (commands_asked s (OfDeletion id))
deleted_present s t id true living is = grows s t (Delete id) (ap (λ (x : State). x.history) is) ∙ ap (λ b. fold (present s) (if b then (Delete id ∷ []) else [])) (sym living)
deleted_present s t id false living is = ap present is ∙ ap (λ b. fold (present s) (if b then (Delete id ∷ []) else [])) (sym living)

rotated_present : (s t : State) (id : ℕ) (seals : Bool) → t ≡ (if seals then rotated s id else s) → present t ≡ present s
rotated_present s t id true is = ap present is
rotated_present s t id false is = ap present is

begun_present : (s t : State) (id : ℕ) (reply : Reply) (begins : Bool) → BeginsFlush begins s id reply t → present t ≡ present s
begun_present s t id reply true (told, left, is) = ap present is ∙ stays s (journal_synced s) (synced_times s)
begun_present s t id reply false (told, same) = ap present same

finished_present : (s t : State) (job : JobId) (reply : Reply) (out takes : Bool) → FinishesFlush out takes s job reply t → present t ≡ present s
finished_present s t job reply true true (told, well, parts, flushed, is) = ap present is
finished_present s t job reply true false (told, is) = ap present is
finished_present s t job reply false takes (told, same) = ap present same

merge_begun_present : (s t : State) (id : ℕ) (reply : Reply) (begins : Bool) → BeginsMerge begins s id reply t → present t ≡ present s
merge_begun_present s t id reply true (told, small, is) = ap present is
merge_begun_present s t id reply false (told, same) = ap present same

merge_finished_present : (s t : State) (job : JobId) (reply : Reply) (out lives : Bool) → FinishesMerge out lives s job reply t → present t ≡ present s
merge_finished_present s t job reply true true (told, well, parts, merged, is) = ap present is
merge_finished_present s t job reply true false (told, is) = ap present is
merge_finished_present s t job reply false lives (told, same) = ap present same

ingested_present : (s t : State) (id : ℕ) (items : List KeyOp) (reply : Reply) → IngestsInto id items s reply t → present t ≡ fold (present s) (commands_asked s (OfIngestion id items))
ingested_present s t id [] reply (told, is) = ap present is
ingested_present s t id (item ∷ items) reply (told, left, mid, ingests, is) =
    grows s t (ingestion id (item ∷ items)) (ap (λ (x : State). x.history) is ∙ ap (λ (x : State). x.history) ingests.is ∙ ap (λ (k : Times). grown k.history (plain (ingestion id (item ∷ items)))) (synced_times s))

-- a call that is answered leaves what it asked for
pub answered_present : (s t : State) (shape : CallShape) (reply : Reply) → Answers s shape reply t → present t ≡ fold (present s) (commands_asked s shape)
answered_present s t (OfChange (Items []) how) reply (told, is) = ap present is
answered_present s t (OfChange (Items (item ∷ items)) how) reply (told, is) = grows s t (command_of (Items (item ∷ items))) (ap (λ (x : State). x.history) is)
answered_present s t (OfChange (Emptied id) how) reply (told, is) = grows s t (command_of (Emptied id)) (ap (λ (x : State). x.history) is)
answered_present s t (OfIngestion id items) reply ingests = ingested_present s t id items reply ingests
answered_present s t (OfCreation name options) reply (id, told, makes) = created_present s t name options id makes
answered_present s t (OfDeletion id) reply (told, is) = deleted_present s t id (is_living (present s) id) refl is
answered_present s t (OfHandle OneMore id) reply (told, is) = ap present is
answered_present s t (OfHandle OneLess id) reply (told, is) = ap present is
answered_present s t (OfRotation id) reply (told, is) = rotated_present s t id (rotates s.parts.trees id) is
answered_present s t OfJournalRotation reply (told, is) = ap present is
answered_present s t (OfFlushBegin id) reply begun = begun_present s t id reply (begins_flush s.parts.trees id) begun
answered_present s t (OfFlushFinish job) reply finished = finished_present s t job reply (is_flushing s.parts.trees job) (takes_effect s job) finished
answered_present s t (OfMergeBegin kind id) reply begun = merge_begun_present s t id reply (begins_merge (present s) s.parts.trees kind id) begun
answered_present s t (OfMergeFinish job) reply finished = merge_finished_present s t job reply (is_merging s.parts.trees job) (is_living (present s) job.keyspace_id) finished
answered_present s t OfMaintenance reply (told, is) = ap present is
answered_present s t (OfRead view id query) reply (told, same) = ap present same
answered_present s t (OfTickets call) reply (turns, same) = ap present same
answered_present s t (OfPersist mode) reply (told, is) = ap present is
answered_present s t (OfCount count) reply (told, same) = ap present same

-- ---- what is kept

-- a call on tickets
abbrev pub is_of_tickets : CallShape → Bool
is_of_tickets (OfTickets call) = true
is_of_tickets shape = false

-- What no other call changes that is answered: whether the engine is poisoned, which keyspaces are damaged, and of the tickets all but
-- the watermark.
record Kept : Type 0 where
  poisoned : Bool
  damaged : List ℕ
  tickets : Tickets

abbrev kept : State → Kept
kept s = record { poisoned = s.poisoned; damaged = s.damaged; tickets = record s.tickets { watermark = 0 } }

synced_kept : (s : State) → kept (journal_synced s) ≡ kept s
synced_kept s = by (is_long s.parts)
  where
    by : (b : Bool) → kept (if b then journal_rotated s else record s { parts = parts_written_out s.parts 0 }) ≡ kept s
    by true = refl
    by false = refl

deleted_kept : (s t : State) (id : ℕ) (living : Bool) → t ≡ (if living then deleted s id else s) → kept t ≡ kept s
deleted_kept s t id true is = ap kept is
deleted_kept s t id false is = ap kept is

rotated_kept : (s t : State) (id : ℕ) (seals : Bool) → t ≡ (if seals then rotated s id else s) → kept t ≡ kept s
rotated_kept s t id true is = ap kept is
rotated_kept s t id false is = ap kept is

begun_kept : (s t : State) (id : ℕ) (reply : Reply) (begins : Bool) → BeginsFlush begins s id reply t → kept t ≡ kept s
begun_kept s t id reply true (told, left, is) = ap kept is ∙ synced_kept s
begun_kept s t id reply false (told, same) = ap kept same

finished_kept : (s t : State) (job : JobId) (reply : Reply) (out takes : Bool) → FinishesFlush out takes s job reply t → kept t ≡ kept s
finished_kept s t job reply true true (told, well, parts, flushed, is) = ap kept is
finished_kept s t job reply true false (told, is) = ap kept is
finished_kept s t job reply false takes (told, same) = ap kept same

merge_begun_kept : (s t : State) (id : ℕ) (reply : Reply) (begins : Bool) → BeginsMerge begins s id reply t → kept t ≡ kept s
merge_begun_kept s t id reply true (told, small, is) = ap kept is
merge_begun_kept s t id reply false (told, same) = ap kept same

merge_finished_kept : (s t : State) (job : JobId) (reply : Reply) (out lives : Bool) → FinishesMerge out lives s job reply t → kept t ≡ kept s
merge_finished_kept s t job reply true true (told, well, parts, merged, is) = ap kept is
merge_finished_kept s t job reply true false (told, is) = ap kept is
merge_finished_kept s t job reply false lives (told, same) = ap kept same

ingested_kept : (s t : State) (id : ℕ) (items : List KeyOp) (reply : Reply) → IngestsInto id items s reply t → kept t ≡ kept s
ingested_kept s t id [] reply (told, is) = ap kept is
ingested_kept s t id (item ∷ items) reply (told, left, mid, ingests, is) = ap kept is ∙ ap kept ingests.is ∙ synced_kept s

created_kept : (s t : State) (name : Bytes) (options : List Bytes) (id : ℕ) → CreatesOrFinds s name options id t → kept t ≡ kept s
created_kept s t name options id (inl (had, found, same)) = ap kept same
created_kept s t name options id (inr (fresh, is, made)) = ap kept made

answered_kept : (s t : State) (shape : CallShape) (reply : Reply) → is_of_tickets shape ≡ false → Answers s shape reply t → kept t ≡ kept s
answered_kept s t (OfTickets call) reply other answers = absurd (true≢false other)
answered_kept s t (OfChange (Items []) how) reply other (told, is) = ap kept is
answered_kept s t (OfChange (Items (item ∷ items)) how) reply other (told, is) = ap kept is
answered_kept s t (OfChange (Emptied id) how) reply other (told, is) = ap kept is
answered_kept s t (OfIngestion id items) reply other ingests = ingested_kept s t id items reply ingests
answered_kept s t (OfCreation name options) reply other (id, told, makes) = created_kept s t name options id makes
answered_kept s t (OfDeletion id) reply other (told, is) = deleted_kept s t id (is_living (present s) id) is
answered_kept s t (OfHandle OneMore id) reply other (told, is) = ap kept is
answered_kept s t (OfHandle OneLess id) reply other (told, is) = ap kept is
answered_kept s t (OfRotation id) reply other (told, is) = rotated_kept s t id (rotates s.parts.trees id) is
answered_kept s t OfJournalRotation reply other (told, is) = ap kept is
answered_kept s t (OfFlushBegin id) reply other begun = begun_kept s t id reply (begins_flush s.parts.trees id) begun
answered_kept s t (OfFlushFinish job) reply other finished = finished_kept s t job reply (is_flushing s.parts.trees job) (takes_effect s job) finished
answered_kept s t (OfMergeBegin kind id) reply other begun = merge_begun_kept s t id reply (begins_merge (present s) s.parts.trees kind id) begun
answered_kept s t (OfMergeFinish job) reply other finished = merge_finished_kept s t job reply (is_merging s.parts.trees job) (is_living (present s) job.keyspace_id) finished
answered_kept s t OfMaintenance reply other (told, is) = ap kept is
answered_kept s t (OfRead view id query) reply other (told, same) = ap kept same
answered_kept s t (OfPersist mode) reply other (told, is) = ap kept is
answered_kept s t (OfCount count) reply other (told, same) = ap kept same

-- Only a call on tickets changes more of them than the watermark, which a rotation of a keyspace's memtable raises.
pub answered_open : (s t : State) (shape : CallShape) (reply : Reply) → is_of_tickets shape ≡ false → Answers s shape reply t → t.tickets ≡ record s.tickets { watermark = t.tickets.watermark }
answered_open s t shape reply other answers = ap (λ (k : Kept). record k.tickets { watermark = t.tickets.watermark }) (answered_kept s t shape reply other answers)

-- a call on tickets changes nothing else
pub turned_history : (s t : State) (call : TicketCall) (reply : Reply) → Answers s (OfTickets call) reply t → t.history ≡ s.history
turned_history s t call reply (turns, same) = ap (λ (x : State). x.history) same

-- ---- well

-- whether the engine is poisoned, and which keyspaces are damaged
abbrev health : State → Bool × List ℕ
health s = (s.poisoned, s.damaged)

-- an answer changes neither
answered_health : (s t : State) (shape : CallShape) (reply : Reply) → Answers s shape reply t → health t ≡ health s
answered_health s t (OfTickets call) reply (turns, same) = ap health same
answered_health s t shape reply answers = ap (λ (k : Kept). (k.poisoned, k.damaged)) (answered_kept s t shape reply refl answers)

well_kept : (s t : State) (fault : Bool) → health t ≡ health s → (t.damaged ≡ s.damaged) × (t.poisoned ≡ true → (s.poisoned ≡ true) ⊎ (fault ≡ true))
well_kept s t fault same = (ap (λ (k : Bool × List ℕ). k.1) same, λ poisoned. inl (ap (λ (k : Bool × List ℕ). k.0) (sym same) ∙ poisoned))

-- which keyspaces are damaged stays as it is, and only a fault of the disk poisons the engine
pub stays_well : (s t : State) (shape : CallShape) (reply : Reply) → StepOf s shape reply t → (t.damaged ≡ s.damaged) × (t.poisoned ≡ true → (s.poisoned ≡ true) ⊎ (is_fault reply ≡ true))
stays_well s t shape (Refused error) refuses = (
  ap (λ (k : Times × List ℕ). k.1) (refused_standing s t shape error (due s shape) refuses),
  only_by_fault s t (is_fault (Refused error)) (refused_poisoned s t shape error (due s shape) refuses),
)
stays_well s t shape reply (none, answers) = well_kept s t (is_fault reply) (answered_health s t shape reply answers)

-- ---- who opens a ticket

-- whether a reply tells of a ticket that was opened
abbrev is_opening : Reply → Bool
is_opening (Opened ticket) = true
is_opening reply = false

other_reply : (ticket : Ticket) (reply : Reply) → Opened ticket ≡ reply → is_opening reply ≡ false → ⊥
other_reply ticket reply is other = true≢false (ap is_opening is ∙ other)

begun_other : (s t : State) (id : ℕ) (ticket : Ticket) (begins : Bool) → BeginsFlush begins s id (Opened ticket) t → ⊥
begun_other s t id ticket true (told, left, is) = other_reply ticket _ told refl
begun_other s t id ticket false (told, same) = other_reply ticket _ told refl

finished_other : (s t : State) (job : JobId) (ticket : Ticket) (out takes : Bool) → FinishesFlush out takes s job (Opened ticket) t → ⊥
finished_other s t job ticket true true (told, well, parts, flushed, is) = other_reply ticket _ told refl
finished_other s t job ticket true false (told, is) = other_reply ticket _ told refl
finished_other s t job ticket false takes (told, same) = other_reply ticket _ told refl

merge_begun_other : (s t : State) (id : ℕ) (ticket : Ticket) (begins : Bool) → BeginsMerge begins s id (Opened ticket) t → ⊥
merge_begun_other s t id ticket true (told, small, is) = other_reply ticket _ told refl
merge_begun_other s t id ticket false (told, same) = other_reply ticket _ told refl

merge_finished_other : (s t : State) (job : JobId) (ticket : Ticket) (out lives : Bool) → FinishesMerge out lives s job (Opened ticket) t → ⊥
merge_finished_other s t job ticket true true (told, well, parts, merged, is) = other_reply ticket _ told refl
merge_finished_other s t job ticket true false (told, is) = other_reply ticket _ told refl
merge_finished_other s t job ticket false lives (told, same) = other_reply ticket _ told refl

ingested_other : (s t : State) (id : ℕ) (items : List KeyOp) (ticket : Ticket) → IngestsInto id items s (Opened ticket) t → ⊥
ingested_other s t id [] ticket (told, is) = other_reply ticket _ told refl
ingested_other s t id (item ∷ items) ticket (told, left, mid, ingests, is) = other_reply ticket _ told refl

count_other : (s : State) (count : Count) (ticket : Ticket) → CountIs s count (Opened ticket) → ⊥
count_other s Keyspaces ticket told = other_reply ticket _ told refl
count_other s shapes.Names ticket (names, told, all, sorted) = other_reply ticket _ told refl
count_other s (Exists name) ticket told = other_reply ticket _ told refl
count_other s Next ticket told = other_reply ticket _ told refl
count_other s Visible ticket told = other_reply ticket _ told refl
count_other s shapes.Journals ticket told = other_reply ticket _ told refl
count_other s JournalSpace ticket told = other_reply ticket _ told refl
count_other s OpenTickets ticket told = other_reply ticket _ told refl
count_other s (Entries id) ticket told = other_reply ticket _ told refl
count_other s (SealedMemtables id) ticket told = other_reply ticket _ told refl
count_other s WriteBuffer ticket told = other_reply ticket _ told refl
count_other s (shapes.WantsRotation id) ticket told = other_reply ticket _ told refl
count_other s (Tables id) ticket told = other_reply ticket _ told refl
count_other s (TablesL0 id) ticket told = other_reply ticket _ told refl
count_other s (DiskSpace id) ticket told = other_reply ticket _ told refl
count_other s Flushes ticket told = other_reply ticket _ told refl
count_other s MergesOut ticket told = other_reply ticket _ told refl
count_other s MergesDone ticket told = other_reply ticket _ told refl
count_other s ToFlush ticket (ids, told, ascend, are) = other_reply ticket _ told refl

-- no other call opens one
pub no_other : (s t : State) (shape : CallShape) (ticket : Ticket) → is_of_tickets shape ≡ false → Answers s shape (Opened ticket) t → ⊥
no_other s t (OfTickets call) ticket other answers = true≢false other
no_other s t (OfChange change how) ticket other (told, is) = other_reply ticket _ told refl
no_other s t (OfIngestion id items) ticket other ingests = ingested_other s t id items ticket ingests
no_other s t (OfCreation name options) ticket other (id, told, makes) = other_reply ticket _ told refl
no_other s t (OfDeletion id) ticket other (told, is) = other_reply ticket _ told refl
no_other s t (OfHandle call id) ticket other (told, is) = other_reply ticket _ told refl
no_other s t (OfRotation id) ticket other (told, is) = other_reply ticket _ told refl
no_other s t OfJournalRotation ticket other (told, is) = other_reply ticket _ told refl
no_other s t (OfFlushBegin id) ticket other begun = begun_other s t id ticket (begins_flush s.parts.trees id) begun
no_other s t (OfFlushFinish job) ticket other finished = finished_other s t job ticket (is_flushing s.parts.trees job) (takes_effect s job) finished
no_other s t (OfMergeBegin kind id) ticket other begun = merge_begun_other s t id ticket (begins_merge (present s) s.parts.trees kind id) begun
no_other s t (OfMergeFinish job) ticket other finished = merge_finished_other s t job ticket (is_merging s.parts.trees job) (is_living (present s) job.keyspace_id) finished
no_other s t OfMaintenance ticket other (told, is) = other_reply ticket _ told refl
no_other s t (OfRead view id (Get key)) ticket other (told, same) = other_reply ticket _ told refl
no_other s t (OfRead view id (Page range back max)) ticket other ((found, told, are), same) = other_reply ticket _ told refl
no_other s t (OfPersist mode) ticket other (told, is) = other_reply ticket _ told refl
no_other s t (OfCount count) ticket other (told, same) = count_other s count ticket told

-- ---- behind a fault

-- what is poisoned is so
poisoned_by : (s t : State) → IsPoisoned s t → t.poisoned ≡ true
poisoned_by s t poisoned = ap (λ (x : State). x.poisoned) poisoned.is

-- where an ingestion fails, the engine is poisoned; where a worker's step fails, it is, or nothing changes
ingestion_poisons : (s t : State) (id : ℕ) (items : List KeyOp) → IngestionFails s id items t → t.poisoned ≡ true
ingestion_poisons s t id items (inl poisoned) = poisoned_by s t poisoned
ingestion_poisons s t id items (inr (inl poisoned)) = poisoned_by (journal_synced s) t poisoned
ingestion_poisons s t id items (inr (inr (mid, left, ingests, evicts, poisoned))) = poisoned_by _ t poisoned

work_poisons : (s t : State) (shape : CallShape) → WorkFails shape s t → (t ≡ s) ⊎ (t.poisoned ≡ true)
work_poisons s t (OfFlushBegin id) (begins, left, poisoned) = inr (poisoned_by s t poisoned)
work_poisons s t (OfFlushFinish job) (due, well, inl poisoned) = inr (poisoned_by s t poisoned)
work_poisons s t (OfFlushFinish job) (due, well, inr (parts, mid, flushed, evicts, poisoned)) = inr (poisoned_by mid t poisoned)
work_poisons s t (OfMergeBegin kind id) (begins, left, same) = inl same
work_poisons s t (OfMergeFinish job) (due, well, inl poisoned) = inr (poisoned_by s t poisoned)
work_poisons s t (OfMergeFinish job) (due, well, inr (parts, merged, poisoned)) = inr (poisoned_by (record s { parts = parts }) t poisoned)
work_poisons s t OfMaintenance (mid, evicts, poisoned) = inr (poisoned_by mid t poisoned)
work_poisons s t (OfIngestion id []) fails = absurd fails
work_poisons s t (OfIngestion id (item ∷ items)) (left, fails) = inr (ingestion_poisons s t id (item ∷ items) fails)
work_poisons s t (OfChange change how) fails = absurd fails
work_poisons s t (OfCreation name options) fails = absurd fails
work_poisons s t (OfDeletion id) fails = absurd fails
work_poisons s t (OfHandle call id) fails = absurd fails
work_poisons s t (OfRotation id) fails = absurd fails
work_poisons s t OfJournalRotation fails = absurd fails
work_poisons s t (OfRead view id query) fails = absurd fails
work_poisons s t (OfTickets call) fails = absurd fails
work_poisons s t (OfPersist mode) fails = absurd fails
work_poisons s t (OfCount count) fails = absurd fails

-- so it is where any call is refused
failure_leaves : (s t : State) (shape : CallShape) (error : Error) → MayFail shape error s t → (t ≡ s) ⊎ (t.poisoned ≡ true)
failure_leaves s t shape (Io kind) (inl (changes, fault)) = inr (poisoned_by (at_fault s shape) t fault)
failure_leaves s t shape (Io kind) (inr (inl (reads, same))) = inl same
failure_leaves s t shape (Io kind) (inr (inr fails)) = work_poisons s t shape fails
failure_leaves s t shape OutOfMemory (takes, same) = inl same
failure_leaves s t shape (Storage told) (is, damaged, same) = inl same
failure_leaves s t shape ValueTooLong (long, same) = inl same
failure_leaves s t shape Poisoned (late, same) = inl same
failure_leaves s t shape NumbersUsedUp (used_up, same) = inl same
failure_leaves s t shape TooManyItems (none_left, same) = inl same
failure_leaves s t shape error none = absurd none

refused_leaves : (s t : State) (shape : CallShape) (error : Error) (first : Option Error) → Refuses first shape error s t → (t ≡ s) ⊎ (t.poisoned ≡ true)
refused_leaves s t shape error (Some first) (is, same) = inl same
refused_leaves s t shape error None fails = failure_leaves s t shape error fails

poisoned_still : (s t : State) → (t ≡ s) ⊎ (t.poisoned ≡ true) → s.poisoned ≡ true → t.poisoned ≡ true
poisoned_still s t (inl same) poisoned = ap (λ (x : State). x.poisoned) same ∙ poisoned
poisoned_still s t (inr is) poisoned = is

-- a poisoned engine stays so
pub stays_poisoned : (s t : State) (shape : CallShape) (reply : Reply) → StepOf s shape reply t → s.poisoned ≡ true → t.poisoned ≡ true
stays_poisoned s t shape (Refused error) refuses poisoned = poisoned_still s t (refused_leaves s t shape error (due s shape) refuses) poisoned
stays_poisoned s t shape reply (none, answers) poisoned = ap (λ (k : Bool × List ℕ). k.0) (answered_health s t shape reply answers) ∙ poisoned

-- where none of these refusals tells of a fault of the disk, none that is due does
no_fault_due : (refusals : List (Bool × Error)) (kind : ErrorKind) → list_any (λ refusal. is_io refusal.1) refusals ≡ false → first_due refusals ≡ Some (Io kind) → ⊥
no_fault_due [] kind none is = none-some _ is
no_fault_due ((true, first) ∷ refusals) kind none is =
    let same : first ≡ Io kind = cc in
    true≢false (sym (ap (λ e. is_io e || list_any (λ refusal. is_io refusal.1) refusals) same) ∙ none)
no_fault_due ((false, first) ∷ refusals) kind none is = no_fault_due refusals kind (neither (is_io first) (list_any (λ refusal. is_io refusal.1) refusals) none).1 is

-- so a fault is met behind them
fault_behind : (s t : State) (shape : CallShape) (kind : ErrorKind) (refusals : List (Bool × Error)) → list_any (λ refusal. is_io refusal.1) refusals ≡ false
    → Refuses (first_due refusals) shape (Io kind) s t → MayFail shape (Io kind) s t
fault_behind s t shape kind refusals none = by (first_due refusals) refl
  where
    by : (first : Option Error) → first_due refusals ≡ first → Refuses first shape (Io kind) s t → MayFail shape (Io kind) s t
    by (Some first) is (told, same) = absurd (no_fault_due refusals kind none (is ∙ ap Some (sym told)))
    by None is fails = fails

-- then it poisons the engine, but for one in a read
changes_poisons : (s t : State) (shape : CallShape) (kind : ErrorKind) → (ReadsTables s.parts.trees shape → ⊥) → (WorkFails shape s t → t.poisoned ≡ true) → MayFail shape (Io kind) s t → t.poisoned ≡ true
changes_poisons s t shape kind reads works (inl (changes, fault)) = poisoned_by (at_fault s shape) t fault
changes_poisons s t shape kind reads works (inr (inl (asks, same))) = absurd (reads asks)
changes_poisons s t shape kind reads works (inr (inr fails)) = works fails

-- a fault in a call that was to change the store poisons the engine
pub fault_poisons : (s t : State) (shape : CallShape) (kind : ErrorKind) → (commands_asked s shape ≡ [] → ⊥) → StepOf s shape (Refused (Io kind)) t → t.poisoned ≡ true
fault_poisons s t (OfChange (Items []) how) kind some step = absurd (some refl)
fault_poisons s t (OfChange (Items (item ∷ items)) how) kind some step =
    let shape : CallShape = OfChange (Items (item ∷ items)) how in
    changes_poisons s t shape kind (λ none. none) (λ none. absurd none) (fault_behind s t shape kind (items_refusals (facts s) (item ∷ items)) refl step)
fault_poisons s t (OfChange (Emptied id) how) kind some step =
    let shape : CallShape = OfChange (Emptied id) how in
    changes_poisons s t shape kind (λ none. none) (λ none. absurd none) (fault_behind s t shape kind (clear_refusals (facts s) id) refl step)
fault_poisons s t (OfIngestion id []) kind some step = absurd (some refl)
fault_poisons s t (OfIngestion id (item ∷ items)) kind some step =
    let shape : CallShape = OfIngestion id (item ∷ items) in
    changes_poisons s t shape kind (λ none. none) (λ fails. ingestion_poisons s t id (item ∷ items) fails.1) (fault_behind s t shape kind (ingestion_refusals (facts s) id (item ∷ items)) refl step)
fault_poisons s t (OfCreation name options) kind some step =
    let shape : CallShape = OfCreation name options in
    changes_poisons s t shape kind (λ none. none) (λ none. absurd none) (fault_behind s t shape kind (creation_refusals (facts s) name) refl step)
fault_poisons s t (OfDeletion id) kind some step =
    let shape : CallShape = OfDeletion id in
    changes_poisons s t shape kind (λ none. none) (λ none. absurd none) (fault_behind s t shape kind (deletion_refusals (facts s) id) refl step)
fault_poisons s t shape kind some step = absurd (some refl)

-- what holds with it doesn't hold
before_true : (a b : Bool) → b ≡ true → (a && b) ≡ false → a ≡ false
before_true true b is none = absurd (true≢false (sym is ∙ none))
before_true false b is none = refl

-- no engine is both poisoned and well
well_there : (s : State) → s.poisoned ≡ true → s.poisoned ≡ false → ⊥
well_there s poisoned well = true≢false (sym poisoned ∙ well)

-- a poisoned engine accepts no change any more
pub poisoned_refuses : (s : State) (shape : CallShape) → s.poisoned ≡ true → due s shape ≡ None → commands_asked s shape ≡ []
poisoned_refuses s (OfChange (Items []) how) poisoned none = refl
poisoned_refuses s (OfChange (Items (item ∷ items)) how) poisoned none = absurd (well_there s poisoned (none_due (items_refusals (facts s) (item ∷ items)) none).1.1.1.1.1.0)
poisoned_refuses s (OfChange (Emptied id) how) poisoned none = absurd (well_there s poisoned (none_due (clear_refusals (facts s) id) none).1.1.0)
poisoned_refuses s (OfIngestion id []) poisoned none = refl
poisoned_refuses s (OfIngestion id (item ∷ items)) poisoned none = absurd (well_there s poisoned (none_due (ingestion_refusals (facts s) id (item ∷ items)) none).1.1.1.1.1.1.0)
poisoned_refuses s (OfCreation name options) poisoned none =
    let had = is_so (names_one (present s) name) (before_true (not (names_one (present s) name)) s.poisoned poisoned (none_due (creation_refusals (facts s) name) none).1.0) in
    ap (λ b. if b then [] else (Create name (option_pairs options) ∷ [])) had
poisoned_refuses s (OfDeletion id) poisoned none =
    ap (λ b. if b then (Delete id ∷ []) else []) (before_true (is_living (present s) id) s.poisoned poisoned (none_due (deletion_refusals (facts s) id) none).1.0)
poisoned_refuses s shape poisoned none = refl

-- where a call is told of a fault that no refusal tells of, none is due
fault_undue : (s t : State) (shape : CallShape) (kind : ErrorKind) (refusals : List (Bool × Error)) → list_any (λ refusal. is_io refusal.1) refusals ≡ false
    → Refuses (first_due refusals) shape (Io kind) s t → first_due refusals ≡ None
fault_undue s t shape kind refusals none = by (first_due refusals) refl
  where
    by : (first : Option Error) → first_due refusals ≡ first → Refuses first shape (Io kind) s t → first_due refusals ≡ None
    by (Some first) is (told, same) = absurd (no_fault_due refusals kind none (is ∙ ap Some (sym told)))
    by None is fails = is

-- in a poisoned engine no call that was to change the store meets a fault
pub poisoned_faults : (s t : State) (shape : CallShape) (kind : ErrorKind) → s.poisoned ≡ true → StepOf s shape (Refused (Io kind)) t → commands_asked s shape ≡ []
poisoned_faults s t (OfChange (Items []) how) kind poisoned step = refl
poisoned_faults s t (OfChange (Items (item ∷ items)) how) kind poisoned step =
    let shape : CallShape = OfChange (Items (item ∷ items)) how in poisoned_refuses s shape poisoned (fault_undue s t shape kind (items_refusals (facts s) (item ∷ items)) refl step)
poisoned_faults s t (OfChange (Emptied id) how) kind poisoned step =
    let shape : CallShape = OfChange (Emptied id) how in poisoned_refuses s shape poisoned (fault_undue s t shape kind (clear_refusals (facts s) id) refl step)
poisoned_faults s t (OfIngestion id []) kind poisoned step = refl
poisoned_faults s t (OfIngestion id (item ∷ items)) kind poisoned step =
    let shape : CallShape = OfIngestion id (item ∷ items) in poisoned_refuses s shape poisoned (fault_undue s t shape kind (ingestion_refusals (facts s) id (item ∷ items)) refl step)
poisoned_faults s t (OfCreation name options) kind poisoned step =
    let shape : CallShape = OfCreation name options in poisoned_refuses s shape poisoned (fault_undue s t shape kind (creation_refusals (facts s) name) refl step)
poisoned_faults s t (OfDeletion id) kind poisoned step =
    let shape : CallShape = OfDeletion id in poisoned_refuses s shape poisoned (fault_undue s t shape kind (deletion_refusals (facts s) id) refl step)
poisoned_faults s t shape kind poisoned step = refl
