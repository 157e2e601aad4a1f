-- What calls make of the next number, whatever the disk is.
use Rattle.std.proofs.Common.{◌≡◌, inl, inr, ℕ, ◌+◌, Bool, true, false, if◌then◌else◌, List, [], ◌∷◌, Option, Some, None, refl, ◌∙◌, ap}
use Rattle.fjall_base.specs.declared.error.Error.{Error}
use Rattle.fjall_base.specs.declared.error.Error.TheVariants.{Io, NumbersUsedUp, OutOfMemory, Poisoned, Storage, TooManyItems, ValueTooLong}
use Rattle.fjall_table_reader.specs.Readers.{Reader}
use Rattle.fjall_history.specs.declared.job.JobId.{JobId}
use Rattle.fjall_history.specs.declared.reply.Reply.{Reply}
use Rattle.fjall_history.specs.declared.reply.Reply.TheVariants.{Refused}
use Rattle.fjall_journal.specs.Changes.{Change, Emptied, Items}
use Rattle.fjall_journal.specs.Writer.{written_out}
use Rattle.fjall_reading.specs.Ingestions.{KeyOp}
use Rattle.fjall_machine.specs.Machine.{begins_flush, is_flushing, is_living, is_merging, rotates}
use Rattle.fjall_machine.specs.Remembered.{Remembered}
use Rattle.fjall_machine.specs.Remembered as memory
use Rattle.fjall_machine.specs.Shapes.{OfChange, OfCount, OfCreation, OfDeletion, OfFlushBegin, OfFlushFinish, OfHandle, OfIngestion, OfJournalRotation, OfMaintenance, OfMergeBegin, OfMergeFinish, OfPersist, OfRead, OfRotation, OfTickets, OneLess, OneMore, Persistence, CallShape}
use Rattle.fjall_core.specs.Holding.{Held}
use Rattle.fjall_core.specs.CoreStanding.{EvictsInMemory, FindsDisorder, Gives, IngestionPoisons, Looks, LooksAt, Owes, OwesBegin, OwesChange, OwesFailure, OwesFinish, OwesIngestion, OwesMerge, OwesMergeBegin}
use Rattle.fjall_core.specs.CoreStanding.{OwesRefusal, RanOut, WorkPoisons, memory_at_fault, begins_merge_in, evicted_in_memory, held_due, is_journal_long, journal_synced_in, store_in, tables_of, takes_effect_in}
use Rattle.fjall_shared.specs.Takings.{Counts, CountsOn, taking}

module _ (old new : Held) where
  abbrev Still : Type 0
  Still = new.memory.next ≡ old.memory.next

  same_core : new ≡ old → Still
  same_core same = ap (λ (h : Held). h.memory.next) same

  becomes : (m : Remembered) → new.memory ≡ m → m.next ≡ old.memory.next → Still
  becomes m is same = ap (λ (k : Remembered). k.next) is ∙ same

  fault_next : (shape : CallShape) → (memory_at_fault shape old.memory).next ≡ old.memory.next
  fault_next (OfHandle OneLess id) = refl
  fault_next (OfHandle OneMore id) = refl
  fault_next (OfChange change how) = refl
  fault_next (OfIngestion id items) = refl
  fault_next (OfCreation name options) = refl
  fault_next (OfDeletion id) = refl
  fault_next (OfRotation id) = refl
  fault_next OfJournalRotation = refl
  fault_next (OfFlushBegin id) = refl
  fault_next (OfFlushFinish job) = refl
  fault_next (OfMergeBegin kind id) = refl
  fault_next (OfMergeFinish job) = refl
  fault_next OfMaintenance = refl
  fault_next (OfRead view id query) = refl
  fault_next (OfTickets call) = refl
  fault_next (OfPersist mode) = refl
  fault_next (OfCount count) = refl

  looks_next : Looks old new → Still
  looks_next looks = becomes (memory.with_trees new.memory.trees old.memory) looks.memory_is refl

  looked_next : (tables : List Reader) → LooksAt tables old new → Still
  looked_next [] same = same_core same
  looked_next (t ∷ tables) looks = looks_next looks

  evicts_next : (m left : Remembered) → EvictsInMemory m left → left.next ≡ m.next
  evicts_next m left (gone, rest, stopped, is) = ap (λ (k : Remembered). k.next) is

  sealed_next : (long : Bool) (len : ℕ) → (if long then memory.journal_rotated_in_memory len old.memory else old.memory).next ≡ old.memory.next
  sealed_next true len = refl
  sealed_next false len = refl

  synced_next : (journal_synced_in old).next ≡ old.memory.next
  synced_next = sealed_next (is_journal_long old.journal) (written_out old.journal).len

  ingestion_next : (id : ℕ) (items : List KeyOp) → IngestionPoisons old id items new → Still
  ingestion_next id items (inl fault) = becomes (memory.poisoned old.memory) fault.memory_is refl
  ingestion_next id items (inr (inl fault)) = becomes (memory.poisoned (journal_synced_in old)) fault.memory_is synced_next
  ingestion_next id items (inr (inr (mid, left, f, evicts, fault))) = becomes (memory.poisoned (memory.with_sealed_in_memory left.journals.sealed (journal_synced_in old))) fault.memory_is synced_next

  work_next : (shape : CallShape) → WorkPoisons old shape new → Still
  work_next (OfFlushBegin id) (begins, free, fault) = becomes (memory.poisoned old.memory) fault.memory_is refl
  work_next (OfFlushFinish job) (due, well, inl fault) = becomes (memory.poisoned old.memory) fault.memory_is refl
  work_next (OfFlushFinish job) (due, well, inr (mid, left, f, evicts, fault)) = becomes (memory.poisoned left) fault.memory_is (evicts_next mid left evicts ∙ ap (λ (k : Remembered). k.next) f.is)
  work_next (OfMergeBegin kind id) (begins, numbered, looks, rose) = looks_next looks
  work_next (OfMergeFinish job) (due, well, inl fault) = becomes (memory.poisoned old.memory) fault.memory_is refl
  work_next (OfMergeFinish job) (due, well, inr (mid, f, fault)) = becomes (memory.poisoned mid) fault.memory_is (ap (λ (k : Remembered). k.next) f.is)
  work_next OfMaintenance (left, evicts, fault) = becomes (memory.poisoned left) fault.memory_is (evicts_next old.memory left evicts)
  work_next (OfIngestion id []) fails = absurd fails
  work_next (OfIngestion id (item ∷ items)) (left, fails) = ingestion_next id (item ∷ items) fails
  work_next (OfChange change how) fails = absurd fails
  work_next (OfCreation name options) fails = absurd fails
  work_next (OfDeletion id) fails = absurd fails
  work_next (OfHandle call id) fails = absurd fails
  work_next (OfRotation id) fails = absurd fails
  work_next OfJournalRotation fails = absurd fails
  work_next (OfRead view id query) fails = absurd fails
  work_next (OfTickets call) fails = absurd fails
  work_next (OfPersist mode) fails = absurd fails
  work_next (OfCount count) fails = absurd fails

  out_next : (shape : CallShape) → RanOut old shape new → Still
  out_next (OfHandle OneLess id) (same, later) = ap (λ (h : Held). h.memory.next) same
  out_next (OfHandle OneMore id) same = same_core same
  out_next (OfChange change how) same = same_core same
  out_next (OfIngestion id items) same = same_core same
  out_next (OfCreation name options) same = same_core same
  out_next (OfDeletion id) same = same_core same
  out_next (OfRotation id) same = same_core same
  out_next OfJournalRotation same = same_core same
  out_next (OfFlushBegin id) same = same_core same
  out_next (OfFlushFinish job) same = same_core same
  out_next (OfMergeBegin kind id) (begins, looks) = looks_next looks
  out_next (OfMergeFinish job) same = same_core same
  out_next OfMaintenance same = same_core same
  out_next (OfRead view id query) looks = looked_next (tables_of old id) looks
  out_next (OfTickets call) same = same_core same
  out_next (OfPersist mode) same = same_core same
  out_next (OfCount count) same = same_core same

  disorder_next : (shape : CallShape) → FindsDisorder old shape new → Still
  disorder_next (OfMergeBegin kind id) (begins, numbered, looks) = looks_next looks
  disorder_next (OfMergeFinish job) (out, same) = same_core same
  disorder_next shape none = absurd none

  failure_next : (shape : CallShape) (error : Error) → OwesFailure old shape error new → Still
  failure_next shape (Io kind) (inl (changes, fault)) = becomes (memory.poisoned (memory_at_fault shape old.memory)) fault.memory_is (fault_next shape)
  failure_next shape (Io kind) (inr (inl (reads, looks, rose))) = looks_next looks
  failure_next shape (Io kind) (inr (inr fails)) = work_next shape fails
  failure_next shape OutOfMemory (takes, out) = out_next shape out
  failure_next shape (Storage told) (is, inl (reads, looks)) = looks_next looks
  failure_next shape (Storage told) (is, inr found) = disorder_next shape found
  failure_next shape ValueTooLong (long, same) = same_core same
  failure_next shape Poisoned (late, same) = same_core same
  failure_next shape NumbersUsedUp (used, same) = same_core same
  failure_next shape TooManyItems (room, same) = same_core same
  failure_next shape error bad = absurd bad

  refusal_next : (shape : CallShape) (error : Error) (first : Option Error) → OwesRefusal first old shape error new → Still
  refusal_next shape error (Some first) (is, same) = same_core same
  refusal_next shape error None failure = failure_next shape error failure

  change_next : (change : Change) (how : Persistence) → OwesChange old change how new → Counts (taking (OfChange change how)) old.memory.next new.memory.next
  change_next (Items []) how same = same_core same
  change_next (Items (item ∷ items)) how grows = ap (λ (k : Remembered). k.next) grows.memory_is
  change_next (Emptied id) how grows = ap (λ (k : Remembered). k.next) grows.memory_is

  rotation_next : (id : ℕ) (seals : Bool) → new ≡ (if seals then record old { memory = memory.rotated_in_memory id old.memory } else old) → Still
  rotation_next id true is = ap (λ (h : Held). h.memory.next) is
  rotation_next id false is = same_core is

  begin_next : (id : ℕ) (reply : Reply) (begins : Bool) → OwesBegin begins old id reply new → Still
  begin_next id reply true (told, free, at) = becomes (memory.flush_out_in_memory id (journal_synced_in old)) at.memory_is synced_next
  begin_next id reply false (told, same) = same_core same

  finish_next : (job : JobId) (reply : Reply) (out takes : Bool) → OwesFinish out takes old job reply new → Still
  finish_next job reply true true (told, well, mid, f, at) = becomes (evicted_in_memory mid) at.memory_is (ap (λ (k : Remembered). k.next) f.is)
  finish_next job reply true false (told, is) = ap (λ (h : Held). h.memory.next) is
  finish_next job reply false takes (told, same) = same_core same

  merge_begin_next : (id : ℕ) (reply : Reply) (begins : Bool) → OwesMergeBegin begins old id reply new → Still
  merge_begin_next id reply true (told, numbered, at) = becomes (memory.with_trees new.memory.trees (memory.merge_out_in_memory id old.memory)) at.memory_is refl
  merge_begin_next id reply false (told, same) = same_core same

  merge_next : (job : JobId) (reply : Reply) (out lives : Bool) → OwesMerge out lives old job reply new → Still
  merge_next job reply true true (told, well, mid, f, at) = becomes (memory.with_merge_done mid) at.memory_is (ap (λ (k : Remembered). k.next) f.is)
  merge_next job reply true false (told, is) = ap (λ (h : Held). h.memory.next) is
  merge_next job reply false lives (told, same) = same_core same

  ingest_next : (id : ℕ) (items : List KeyOp) (reply : Reply) → OwesIngestion id items old reply new → Counts (taking (OfIngestion id items)) old.memory.next new.memory.next
  ingest_next id [] reply (told, same) = same_core same
  ingest_next id (item ∷ items) reply (told, left, at) =
      ap (λ (k : Remembered). k.next) at.memory_is ∙ ap (λ (k : Remembered). k.next) at.ingested.is ∙ ap (λ n. n + 1) synced_next

  gives_next : (shape : CallShape) (reply : Reply) → Gives old shape reply new → Counts (taking shape) old.memory.next new.memory.next
  gives_next (OfChange change how) reply (told, owes) = change_next change how owes
  gives_next (OfIngestion id items) reply owes = ingest_next id items reply owes
  gives_next (OfCreation name options) reply (id, told, inl (found, same)) = inl (same_core same)
  gives_next (OfCreation name options) reply (id, told, inr (fresh, is, creates)) = inr (ap (λ (k : Remembered). k.next) creates.memory_is)
  gives_next (OfDeletion id) reply (told, inl (gone, same)) = inl (same_core same)
  gives_next (OfDeletion id) reply (told, inr (living, deletes)) = inr (ap (λ (k : Remembered). k.next) deletes.memory_is)
  gives_next (OfHandle OneMore id) reply (told, is) = ap (λ (h : Held). h.memory.next) is
  gives_next (OfHandle OneLess id) reply (told, counts) = becomes (memory.released_in_memory id old.memory) counts.memory_is refl
  gives_next (OfRotation id) reply (told, is) = rotation_next id (rotates old.memory.trees id) is
  gives_next OfJournalRotation reply (told, turns) = becomes (memory.journal_rotated_in_memory (written_out old.journal).len old.memory) turns.memory_is refl
  gives_next (OfFlushBegin id) reply begins = begin_next id reply (begins_flush old.memory.trees id) begins
  gives_next (OfFlushFinish job) reply finishes = finish_next job reply (is_flushing old.memory.trees job) (takes_effect_in old job) finishes
  gives_next (OfMergeBegin kind id) reply begins = merge_begin_next id reply (begins_merge_in old kind id) begins
  gives_next (OfMergeFinish job) reply finishes = merge_next job reply (is_merging old.memory.trees job) (is_living (store_in old) job.keyspace_id) finishes
  gives_next OfMaintenance reply (told, at) = becomes (evicted_in_memory old.memory) at.memory_is refl
  gives_next (OfRead view id query) reply (told, looks) = looked_next (tables_of old id) looks
  gives_next (OfTickets call) reply (turns, is) = ap (λ (h : Held). h.memory.next) is
  gives_next (OfPersist mode) reply (told, hands) = becomes old.memory hands.memory_is refl
  gives_next (OfCount count) reply (told, same) = same_core same

  pub owed_next : (shape : CallShape) (reply : Reply) → Owes old shape reply new → CountsOn (taking shape) reply old.memory.next new.memory.next
  owed_next shape (Refused error) owes = refusal_next shape error (held_due old shape) owes
  owed_next shape reply (none, gives) = gives_next shape reply gives
