-- No step but a flush or a merge that is finished and an ingestion changes what tables hold, and none which keyspaces are damaged.
use Rattle.std.proofs.Common.{◌≡◌, ◌⊎◌, inl, inr, ℕ, ◌≤◌, ◌==◌, Bool, true, false, if◌then◌else◌, List, [], ◌∷◌, Option, Some, None, refl, sym, ◌∙◌, ap, arith}
use Rattle.std.proofs.lemmas.Bool.{eqb-true, true≢false}
use Rattle.fjall_base.specs.Pairs.{Bytes}
use Rattle.fjall_base.specs.declared.error.Error.{Error}
use Rattle.fjall_base.specs.declared.error.Error.TheVariants.{Io, NumbersUsedUp, OutOfMemory, Poisoned, Storage, TooManyItems, ValueTooLong}
use Rattle.fjall_manifest.specs.Catalog.{fields, first_of}
use Rattle.fjall_journal.specs.Changes.{Emptied, Items}
use Rattle.fjall_manifest.specs.Records.{Fields}
use Rattle.fjall_history.specs.declared.reply.Reply.{Reply}
use Rattle.fjall_history.specs.declared.reply.Reply.TheVariants.{Refused}
use Rattle.fjall_machine.specs.Shapes.{CallShape, OfChange, OfCount, OfCreation, OfDeletion, OfFlushBegin, OfFlushFinish, OfHandle, OfIngestion, OfJournalRotation, OfMaintenance, OfMergeBegin, OfMergeFinish, OfPersist, OfRead, OfRotation, OfTickets, OneLess, OneMore}
use Rattle.fjall_history.specs.Histories.{number}
use Rattle.fjall_engine.specs.Crashes.{is_io}
use Rattle.fjall_machine.specs.Machine.{Answers, BeginsFlush, BeginsMerge, CreatesOrFinds, State, StepOf, Refuses, MayFail, IsPoisoned, WorkFails, at_fault, begins_flush, begins_merge, created, deleted, due, is_living, is_long, journal_rotated, journal_synced, present, records_with, rotated, rotates, parts_written_out}

-- Of each keyspace but one that is made the number below which the ids of its tables are is no less.
abbrev pub HasGiven : State → State → Type 0
HasGiven s t = (id : ℕ) → ((s.parts.records id).next_table_id ≤ (t.parts.records id).next_table_id) ⊎ (id ≡ (present s).next)

-- a state says the same of tables as another one
pub record KeepsTables (s t : State) : Type 0 where
  pub entries : t.parts.entries ≡ s.parts.entries
  pub damaged : t.damaged ≡ s.damaged
  pub given : HasGiven s t

-- the same records
pub same_given : (s t : State) → t.parts.records ≡ s.parts.records → HasGiven s t
same_given s t same id = let e : (t.parts.records id).next_table_id ≡ (s.parts.records id).next_table_id = ap (λ (r : ℕ → Fields). (r id).next_table_id) same in inl (omega (arith, e))

given_both : (a b c : State) → HasGiven a b → c.parts.records ≡ b.parts.records → HasGiven a c
given_both a b c given same id = elim (given id) [
  | inl le ↦ inl (let e : (c.parts.records id).next_table_id ≡ (b.parts.records id).next_table_id = ap (λ (r : ℕ → Fields). (r id).next_table_id) same in omega (arith, le, e))
  | inr new ↦ inr new
]

-- such a state
alike : (s t : State) → t.parts.entries ≡ s.parts.entries → t.damaged ≡ s.damaged → t.parts.records ≡ s.parts.records → KeepsTables s t
alike s t entries damaged records = record { entries = entries; damaged = damaged; given = same_given s t records }

as_before : (s t : State) → t ≡ s → KeepsTables s t
as_before s t same = alike s t (ap (λ (x : State). x.parts.entries) same) (ap (λ (x : State). x.damaged) same) (ap (λ (x : State). x.parts.records) same)

fault_keeps : (s : State) (shape : CallShape) → KeepsTables s (at_fault s shape)
fault_keeps s (OfHandle OneLess id) = alike s (at_fault s (OfHandle OneLess id)) refl refl refl
fault_keeps s (OfHandle OneMore id) = alike s (at_fault s (OfHandle OneMore id)) refl refl refl
fault_keeps s (OfChange change how) = alike s (at_fault s (OfChange change how)) refl refl refl
fault_keeps s (OfIngestion id items) = alike s (at_fault s (OfIngestion id items)) refl refl refl
fault_keeps s (OfCreation name options) = alike s (at_fault s (OfCreation name options)) refl refl refl
fault_keeps s (OfDeletion id) = alike s (at_fault s (OfDeletion id)) refl refl refl
fault_keeps s (OfRotation id) = alike s (at_fault s (OfRotation id)) refl refl refl
fault_keeps s OfJournalRotation = alike s (at_fault s OfJournalRotation) refl refl refl
fault_keeps s (OfFlushBegin id) = alike s (at_fault s (OfFlushBegin id)) refl refl refl
fault_keeps s (OfFlushFinish job) = alike s (at_fault s (OfFlushFinish job)) refl refl refl
fault_keeps s (OfMergeBegin kind id) = alike s (at_fault s (OfMergeBegin kind id)) refl refl refl
fault_keeps s (OfMergeFinish job) = alike s (at_fault s (OfMergeFinish job)) refl refl refl
fault_keeps s OfMaintenance = alike s (at_fault s OfMaintenance) refl refl refl
fault_keeps s (OfRead view id query) = alike s (at_fault s (OfRead view id query)) refl refl refl
fault_keeps s (OfTickets call) = alike s (at_fault s (OfTickets call)) refl refl refl
fault_keeps s (OfPersist mode) = alike s (at_fault s (OfPersist mode)) refl refl refl
fault_keeps s (OfCount count) = alike s (at_fault s (OfCount count)) refl refl refl

-- a call that finishes a flush or a merge, or ingests some items
abbrev pub Finishes : CallShape → Type 0
Finishes (OfFlushFinish job) = Unit {0}
Finishes (OfMergeFinish job) = Unit {0}
Finishes (OfIngestion id (item ∷ items)) = Unit {0}
Finishes shape = ⊥

-- a fault keeps what was left
poison_keeps : (s left t : State) → KeepsTables s left → IsPoisoned left t → KeepsTables s t
poison_keeps s left t kept fault = record { entries = fault.entries ∙ kept.entries; damaged = ap (λ (x : State). x.damaged) fault.is ∙ kept.damaged; given = given_both s left t kept.given fault.records }

work_keeps : (s t : State) (shape : CallShape) → (Finishes shape → ⊥) → WorkFails shape s t → KeepsTables s t
work_keeps s t (OfFlushBegin id) other (begins, numbered, fault) = poison_keeps s s t (as_before s s refl) fault
work_keeps s t (OfFlushFinish job) other fails = absurd (other tt)
work_keeps s t (OfMergeBegin kind id) other (begins, left, same) = as_before s t same
work_keeps s t (OfMergeFinish job) other fails = absurd (other tt)
work_keeps s t OfMaintenance other (mid, (gone, left, all, may, is), fault) =
    poison_keeps s mid t (alike s mid (ap (λ (x : State). x.parts.entries) is) (ap (λ (x : State). x.damaged) is) (ap (λ (x : State). x.parts.records) is)) fault
work_keeps s t (OfIngestion id []) other fails = absurd fails
work_keeps s t (OfIngestion id (item ∷ items)) other fails = absurd (other tt)
work_keeps s t (OfChange change how) other fails = absurd fails
work_keeps s t (OfCreation name options) other fails = absurd fails
work_keeps s t (OfDeletion id) other fails = absurd fails
work_keeps s t (OfHandle call id) other fails = absurd fails
work_keeps s t (OfRotation id) other fails = absurd fails
work_keeps s t OfJournalRotation other fails = absurd fails
work_keeps s t (OfRead view id query) other fails = absurd fails
work_keeps s t (OfTickets call) other fails = absurd fails
work_keeps s t (OfPersist mode) other fails = absurd fails
work_keeps s t (OfCount count) other fails = absurd fails

failure_keeps : (s t : State) (shape : CallShape) (error : Error) → (is_io error ≡ true → Finishes shape → ⊥) → MayFail shape error s t → KeepsTables s t
failure_keeps s t shape (Io kind) other (inl (changes, fault)) = poison_keeps s (at_fault s shape) t (fault_keeps s shape) fault
failure_keeps s t shape (Io kind) other (inr (inl (reads, same))) = as_before s t same
failure_keeps s t shape (Io kind) other (inr (inr fails)) = work_keeps s t shape (other refl) fails
failure_keeps s t shape OutOfMemory other (takes, same) = as_before s t same
failure_keeps s t shape (Storage told) other (is, damage, same) = as_before s t same
failure_keeps s t shape ValueTooLong other (long, same) = as_before s t same
failure_keeps s t shape Poisoned other (late, same) = as_before s t same
failure_keeps s t shape NumbersUsedUp other (used, same) = as_before s t same
failure_keeps s t shape TooManyItems other (room, same) = as_before s t same
failure_keeps s t shape error other fails = absurd fails

refusal_keeps : (s t : State) (shape : CallShape) (error : Error) (first : Option Error) → (is_io error ≡ true → Finishes shape → ⊥) → Refuses first shape error s t → KeepsTables s t
refusal_keeps s t shape error (Some first) other (is, same) = as_before s t same
refusal_keeps s t shape error None other fails = failure_keeps s t shape error other fails

-- a refusal that is no fault
pub no_fault_keeps : (s t : State) (shape : CallShape) (error : Error) → is_io error ≡ false → StepOf s shape (Refused error) t → KeepsTables s t
no_fault_keeps s t shape error none refuses = refusal_keeps s t shape error (due s shape) (λ io. absurd (true≢false (sym io ∙ none))) refuses

created_keeps : (s t : State) (name : Bytes) (options : List Bytes) (id : ℕ) → CreatesOrFinds s name options id t → KeepsTables s t
created_keeps s t name options id (inl (had, found, same)) = as_before s t same
created_keeps s t name options id (inr (fresh, is, made)) = record {
  entries = ap (λ (x : State). x.parts.entries) made;
  damaged = ap (λ (x : State). x.damaged) made;
  given = given_both s (created s name options) t (λ other. by other (other == (present s).next) refl) (ap (λ (x : State). x.parts.records) made);
}
  where
    first : Fields
    first = fields (first_of (number s.history))

    by : (other : ℕ) (b : Bool) → (other == (present s).next) ≡ b
        → ((s.parts.records other).next_table_id ≤ (records_with (present s).next first s.parts.records other).next_table_id) ⊎ (other ≡ (present s).next)
    by other true is = inr (eqb-true other (present s).next is)
    by other false is =
        let e : (records_with (present s).next first s.parts.records other).next_table_id ≡ (s.parts.records other).next_table_id =
        ap (λ (b : Bool). (if b then first else s.parts.records other).next_table_id) is in
        inl (omega (arith, e))

deleted_keeps : (s t : State) (id : ℕ) (living : Bool) → t ≡ (if living then deleted s id else s) → KeepsTables s t
deleted_keeps s t id true is = alike s t (ap (λ (x : State). x.parts.entries) is) (ap (λ (x : State). x.damaged) is) (ap (λ (x : State). x.parts.records) is)
deleted_keeps s t id false is = as_before s t is

rotated_keeps : (s t : State) (id : ℕ) (seals : Bool) → t ≡ (if seals then rotated s id else s) → KeepsTables s t
rotated_keeps s t id true is = alike s t (ap (λ (x : State). x.parts.entries) is) (ap (λ (x : State). x.damaged) is) (ap (λ (x : State). x.parts.records) is)
rotated_keeps s t id false is = as_before s t is

synced_keeps : (s : State) (long : Bool) → is_long s.parts ≡ long → KeepsTables s (journal_synced s)
synced_keeps s true is =
    let made : journal_synced s ≡ journal_rotated s = ap (λ b. if b then journal_rotated s else record s { parts = parts_written_out s.parts 0 }) is in
    alike s (journal_synced s) (ap (λ (x : State). x.parts.entries) made) (ap (λ (x : State). x.damaged) made) (ap (λ (x : State). x.parts.records) made)
synced_keeps s false is =
    let made : journal_synced s ≡ record s { parts = parts_written_out s.parts 0 } = ap (λ b. if b then journal_rotated s else record s { parts = parts_written_out s.parts 0 }) is in
    alike s (journal_synced s) (ap (λ (x : State). x.parts.entries) made) (ap (λ (x : State). x.damaged) made) (ap (λ (x : State). x.parts.records) made)

begun_keeps : (s t : State) (id : ℕ) (reply : Reply) (begins : Bool) → BeginsFlush begins s id reply t → KeepsTables s t
begun_keeps s t id reply true (told, numbered, is) =
    let synced = synced_keeps s (is_long s.parts) refl in
    record {
      entries = ap (λ (x : State). x.parts.entries) is ∙ synced.entries;
      damaged = ap (λ (x : State). x.damaged) is ∙ synced.damaged;
      given = given_both s (journal_synced s) t synced.given (ap (λ (x : State). x.parts.records) is);
    }
begun_keeps s t id reply false (told, same) = as_before s t same

merge_begun_keeps : (s t : State) (id : ℕ) (reply : Reply) (begins : Bool) → BeginsMerge begins s id reply t → KeepsTables s t
merge_begun_keeps s t id reply true (told, numbered, is) = alike s t (ap (λ (x : State). x.parts.entries) is) (ap (λ (x : State). x.damaged) is) (ap (λ (x : State). x.parts.records) is)
merge_begun_keeps s t id reply false (told, same) = as_before s t same

answer_keeps : (s t : State) (shape : CallShape) (reply : Reply) → (Finishes shape → ⊥) → Answers s shape reply t → KeepsTables s t
answer_keeps s t (OfChange (Items []) how) reply other (told, is) = as_before s t is
answer_keeps s t (OfChange (Items (item ∷ items)) how) reply other (told, is) = alike s t (ap (λ (x : State). x.parts.entries) is) (ap (λ (x : State). x.damaged) is) (ap (λ (x : State). x.parts.records) is)
answer_keeps s t (OfChange (Emptied id) how) reply other (told, is) = alike s t (ap (λ (x : State). x.parts.entries) is) (ap (λ (x : State). x.damaged) is) (ap (λ (x : State). x.parts.records) is)
answer_keeps s t (OfIngestion id []) reply other (told, is) = as_before s t is
answer_keeps s t (OfIngestion id (item ∷ items)) reply other ingests = absurd (other tt)
answer_keeps s t (OfCreation name options) reply other (id, told, makes) = created_keeps s t name options id makes
answer_keeps s t (OfDeletion id) reply other (told, is) = deleted_keeps s t id (is_living (present s) id) is
answer_keeps s t (OfHandle OneMore id) reply other (told, is) = alike s t (ap (λ (x : State). x.parts.entries) is) (ap (λ (x : State). x.damaged) is) (ap (λ (x : State). x.parts.records) is)
answer_keeps s t (OfHandle OneLess id) reply other (told, is) = alike s t (ap (λ (x : State). x.parts.entries) is) (ap (λ (x : State). x.damaged) is) (ap (λ (x : State). x.parts.records) is)
answer_keeps s t (OfRotation id) reply other (told, is) = rotated_keeps s t id (rotates s.parts.trees id) is
answer_keeps s t OfJournalRotation reply other (told, is) = alike s t (ap (λ (x : State). x.parts.entries) is) (ap (λ (x : State). x.damaged) is) (ap (λ (x : State). x.parts.records) is)
answer_keeps s t (OfFlushBegin id) reply other begins = begun_keeps s t id reply (begins_flush s.parts.trees id) begins
answer_keeps s t (OfFlushFinish job) reply other finishes = absurd (other tt)
answer_keeps s t (OfMergeBegin kind id) reply other begins = merge_begun_keeps s t id reply (begins_merge (present s) s.parts.trees kind id) begins
answer_keeps s t (OfMergeFinish job) reply other finishes = absurd (other tt)
answer_keeps s t OfMaintenance reply other (told, is) = alike s t (ap (λ (x : State). x.parts.entries) is) (ap (λ (x : State). x.damaged) is) (ap (λ (x : State). x.parts.records) is)
answer_keeps s t (OfRead view id query) reply other (told, same) = as_before s t same
answer_keeps s t (OfTickets call) reply other (turns, is) = alike s t (ap (λ (x : State). x.parts.entries) is) (ap (λ (x : State). x.damaged) is) (ap (λ (x : State). x.parts.records) is)
answer_keeps s t (OfPersist mode) reply other (told, is) = alike s t (ap (λ (x : State). x.parts.entries) is) (ap (λ (x : State). x.damaged) is) (ap (λ (x : State). x.parts.records) is)
answer_keeps s t (OfCount count) reply other (told, same) = as_before s t same

pub step_keeps : (s t : State) (shape : CallShape) (reply : Reply) → (Finishes shape → ⊥) → StepOf s shape reply t → KeepsTables s t
step_keeps s t shape (Refused error) other refuses = refusal_keeps s t shape error (due s shape) (λ io. other) refuses
step_keeps s t shape reply other (none, answers) = answer_keeps s t shape reply other answers
