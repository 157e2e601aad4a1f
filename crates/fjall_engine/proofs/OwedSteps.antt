-- What a call owes is a step of the machine, for each state that the core stood for.
use Rattle.std.proofs.Common.{◌≡◌, ◌≢◌, inl, inr, ℕ, ◌+◌, ◌-◌, ◌^◌, Bool, true, false, if◌then◌else◌, List, [], ◌∷◌, ◌++◌, length, Option, None, Some, All, refl, sym, ◌∙◌, ap, subst, arith, length-append}
use Rattle.std.proofs.lemmas.List.Elements.{All-head, All-tail}
use Rattle.std.specs.Option.{is_none, is_some}
use Rattle.std.specs.Prelude.{IsPermutation}
use Rattle.std.specs.FinMap.{get, len, values}
use Rattle.fjall_base.specs.Pairs.{Bytes}
use Rattle.fjall_base.specs.declared.error.Error.{Error}
use Rattle.fjall_base.specs.declared.error.StorageError.{StorageError}
use Rattle.fjall_base.specs.declared.error.Error.TheVariants.{Io, NumbersUsedUp, OutOfMemory, Poisoned, Storage, TooManyItems, ValueTooLong}
use Rattle.fjall_journal.specs.Changes.{Change, Emptied, Items, change_text}
use Rattle.fjall_journal.specs.Writer.{Journal, after_command, counted, filled, goes_out}
use Rattle.fjall_journal.specs.Writer as writer
use Rattle.fjall_journal.specs.declared.persist_mode.PersistMode.TheVariants.{Buffer}
use Rattle.fjall_options.specs.Options.{AreOptions}
use Rattle.fjall_meta.specs.declared.living.LivingKeyspace.{LivingKeyspace}
use Rattle.fjall_meta.specs.Keyspaces.{id_of}
use Rattle.fjall_history.specs.declared.ticket.View.{View}
use Rattle.fjall_history.specs.declared.reply.Reply.{Reply}
use Rattle.fjall_history.specs.declared.reply.Reply.TheVariants.{Done, Number, Flag, Opened, Refused}
use Rattle.fjall_history.specs.Histories as history
use Rattle.fjall_history.specs.Histories.{number}
use Rattle.fjall_history.specs.Queries.{Query, Tells}
use Rattle.fjall_history.specs.Tickets.{Tickets, closed, collected, opened}
use Rattle.fjall_machine.specs.declared.call.Call.{Call}
use Rattle.fjall_machine.specs.Shapes.{AsKeyspace, ByMode, Clone, Close, Collect, Count, DiskSpace, Exists, Flushes, JournalSpace, Keyspaces, MergesDone, MergesOut, Next, OfChange, OfCount, OfCreation, OfDeletion, OfFlushBegin, OfFlushFinish, OfHandle, OfIngestion, OfJournalRotation, OfMaintenance, OfMergeBegin, OfMergeFinish, OfPersist, OfRead, OfRotation, OfTickets, OneLess, OneMore, Open, OpenTickets, Persistence, Entries, SealedMemtables, CallShape, Tables, TablesL0, TicketCall, ToFlush, Visible, WriteBuffer, shape_of}
use Rattle.fjall_machine.specs.Shapes as shapes
use Rattle.fjall_machine.specs.Allowed.{MayChange}
use Rattle.fjall_machine.specs.Machine.{ChangesDisk, CountIs, MayFail, Parts, ReadsTables, Refuses, State, TooLong, TurnsTickets, accepted, begins_flush, created, creation_refusals, deleted, due, facts, first_due, names_one, is_flushing, is_living, is_merging, leaves_buffer, mode_in, present, rotates, parts_written, parts_written_out}
use Rattle.fjall_machine.specs.Machine as machine
use Rattle.fjall_machine.specs.Remembered.{IsLawful, Remembered, facts_of, instant_in, poisoned}
use Rattle.fjall_machine.specs.Remembered as memory
use Rattle.fjall_files.specs.Journals.{Journals, bytes_of}
use Rattle.fjall_machine.proofs.ByHand.{options_agree}
use Rattle.fjall_machine.proofs.MergeSettings.{merges_counted}
use Rattle.fjall_machine.proofs.Sizes.{awaited_agree, buffers_agree, l0_counts_agree, rotations_agree, sealed_agree, space_agrees, spaces_agree, table_counts_agree, versions_agree, waits_agree, wants_agree}
use Rattle.fjall_machine.proofs.Dues.{may_change, may_create, may_delete}
use Rattle.fjall_machine.proofs.Standing as law
use Rattle.fjall_engine.specs.Holding.{Held}
use Rattle.fjall_table_reader.specs.Readers.{Reader}
use Rattle.fjall_engine.proofs.OwedStates.{Answered, Steps, looked_stands, none_more, poisoned_stands, poisoned_state, same_due, still}
use Rattle.fjall_engine.proofs.OwedMerges.{finish_merge_steps, merge_begin_steps}
use Rattle.fjall_engine.proofs.OwedWork.{begin_steps, finish_steps, ingestion_steps, maintenance_steps, same_asks, same_late, same_room, same_used, work_steps}
use Rattle.fjall_engine.specs.Standing.{AsksMemoryIn, StandsFor, memory_at_fault, tables_of, LooksAt, GivesRead, Gives, Owes, OwesAll, RotatesJournal, OwesChange, OwesCreation, OwesDeletion, OwesRefusal, OwesFailure, RanOut, Grows, HandsOver, HeldCount, Alters, Counts, Creates, Deletes, FindsDisorder, RestsOnTables, begins_merge_in, held_due, mode_of, store_in, takes_effect_in, text_of}

-- ---- refusals

-- what a fault leaves in memory, but that it poisons the core, stands for what it leaves of a state
fault_left : (old : Held) (s : State) (shape : CallShape) → StandsFor old s → memory.MemoryStandsFor (memory_at_fault shape old.memory) old.catalog.next_table_id (machine.at_fault s shape)
fault_left old s (OfChange change how) stands = stands.remembered
fault_left old s (OfIngestion id items) stands = stands.remembered
fault_left old s (OfCreation name options) stands = stands.remembered
fault_left old s (OfDeletion id) stands = stands.remembered
fault_left old s (OfHandle OneMore id) stands = stands.remembered
fault_left old s (OfHandle OneLess id) stands = law.a_release_stands old.memory old.catalog.next_table_id s stands.remembered id
fault_left old s (OfRotation id) stands = stands.remembered
fault_left old s OfJournalRotation stands = stands.remembered
fault_left old s (OfFlushBegin id) stands = stands.remembered
fault_left old s (OfFlushFinish job) stands = stands.remembered
fault_left old s (OfMergeBegin kind id) stands = stands.remembered
fault_left old s (OfMergeFinish job) stands = stands.remembered
fault_left old s OfMaintenance stands = stands.remembered
fault_left old s (OfRead view id query) stands = stands.remembered
fault_left old s (OfTickets call) stands = stands.remembered
fault_left old s (OfPersist mode) stands = stands.remembered
fault_left old s (OfCount count) stands = stands.remembered

pub looked_at_stands : (old new : Held) (s : State) (tables : List Reader) → LooksAt tables old new → StandsFor old s → StandsFor new s
looked_at_stands old new s [] same stands = subst (λ c. StandsFor c s) (sym same) stands
looked_at_stands old new s (t ∷ tables) looks stands = looked_stands old new s looks stands

-- what is too long for the core is so for the state
same_long : (old : Held) (s : State) (shape : CallShape) → StandsFor old s → TooLong (store_in old) shape → TooLong (present s) shape
same_long old s (OfCreation name options) stands long = law.long_creation old.memory old.catalog.next_table_id s stands.remembered name options long
same_long old s (OfDeletion id) stands long = law.long_deletion old.memory old.catalog.next_table_id s stands.remembered id long
same_long old s (OfChange change how) stands long = absurd long
same_long old s (OfIngestion id items) stands long = absurd long
same_long old s (OfHandle call id) stands long = absurd long
same_long old s (OfRotation id) stands long = absurd long
same_long old s OfJournalRotation stands long = absurd long
same_long old s (OfFlushBegin id) stands long = absurd long
same_long old s (OfFlushFinish job) stands long = absurd long
same_long old s (OfMergeBegin kind id) stands long = absurd long
same_long old s (OfMergeFinish job) stands long = absurd long
same_long old s OfMaintenance stands long = absurd long
same_long old s (OfRead view id query) stands long = absurd long
same_long old s (OfTickets call) stands long = absurd long
same_long old s (OfPersist mode) stands long = absurd long
same_long old s (OfCount count) stands long = absurd long

-- the mode of a change is the state's
pub same_mode : (old : Held) (s : State) → StandsFor old s → (how : Persistence) → mode_in (present s) how ≡ mode_of old how
same_mode old s stands (AsKeyspace id) = ap (λ b. if b then None else Some Buffer) (options_agree old.memory old.catalog.next_table_id s stands.remembered id)
same_mode old s stands (ByMode mode) = refl

-- a change leaves the buffer of a state as it does the core's
same_leaves : (old : Held) (s : State) → StandsFor old s → (change : Change) (how : Persistence) → leaves_buffer (facts s) s.parts.buffer change how ≡ leaves_buffer (facts_of old.memory old.catalog.next_table_id) (length old.journal.buffer) change how
same_leaves old s stands change how =
    let mode = same_mode old s stands how in
    λ i. goes_out (is_none (mode i)) (stands.buffer i + length (change_text change (stands.remembered.number i)))

-- what changes the core's disk does so for the state
same_changes : (old : Held) (s : State) (shape : CallShape) → StandsFor old s → ChangesDisk (facts_of old.memory old.catalog.next_table_id) (length old.journal.buffer) shape → ChangesDisk (facts s) s.parts.buffer shape
same_changes old s (OfChange (Items []) how) stands changes = absurd changes
same_changes old s (OfChange (Items (item ∷ items)) how) stands out = same_leaves old s stands (Items (item ∷ items)) how ∙ out
same_changes old s (OfChange (Emptied id) how) stands out = same_leaves old s stands (Emptied id) how ∙ out
same_changes old s (OfIngestion id items) stands changes = absurd changes
same_changes old s (OfCreation name options) stands changes = tt
same_changes old s (OfDeletion id) stands changes = tt
same_changes old s (OfHandle OneMore id) stands changes = absurd changes
same_changes old s (OfHandle OneLess id) stands changes = tt
same_changes old s (OfRotation id) stands changes = absurd changes
same_changes old s OfJournalRotation stands changes = tt
same_changes old s (OfFlushBegin id) stands changes = absurd changes
same_changes old s (OfFlushFinish job) stands changes = absurd changes
same_changes old s (OfMergeBegin kind id) stands changes = absurd changes
same_changes old s (OfMergeFinish job) stands changes = absurd changes
same_changes old s OfMaintenance stands changes = absurd changes
same_changes old s (OfRead view id query) stands changes = absurd changes
same_changes old s (OfTickets call) stands changes = absurd changes
same_changes old s (OfPersist mode) stands changes = tt
same_changes old s (OfCount count) stands changes = absurd changes

-- where memory ran out the core stands for the same state
ran_out_still : (old new : Held) (s : State) (shape : CallShape) → RanOut old shape new → StandsFor old s → StandsFor new s
ran_out_still old new s (OfHandle OneLess id) (same, later) stands = subst (λ (c : Held). StandsFor c s) (sym same) (record { remembered = stands.remembered; journal = stands.journal; buffer = stands.buffer })
ran_out_still old new s (OfHandle OneMore id) same stands = still old new s same stands
ran_out_still old new s (OfChange change how) same stands = still old new s same stands
ran_out_still old new s (OfIngestion id items) same stands = still old new s same stands
ran_out_still old new s (OfCreation name options) same stands = still old new s same stands
ran_out_still old new s (OfDeletion id) same stands = still old new s same stands
ran_out_still old new s (OfRotation id) same stands = still old new s same stands
ran_out_still old new s OfJournalRotation same stands = still old new s same stands
ran_out_still old new s (OfFlushBegin id) same stands = still old new s same stands
ran_out_still old new s (OfFlushFinish job) same stands = still old new s same stands
ran_out_still old new s (OfMergeBegin kind id) (begins, looks) stands = looked_stands old new s looks stands
ran_out_still old new s (OfMergeFinish job) same stands = still old new s same stands
ran_out_still old new s OfMaintenance same stands = still old new s same stands
ran_out_still old new s (OfRead view id query) looks stands = looked_at_stands old new s (tables_of old id) looks stands
ran_out_still old new s (OfTickets call) same stands = still old new s same stands
ran_out_still old new s (OfPersist mode) same stands = still old new s same stands
ran_out_still old new s (OfCount count) same stands = still old new s same stands

-- what reads tables rests on them, and so does what met a wrong block
reads_rest : (core : Held) (shape : CallShape) (reply : Reply) → ReadsTables core.memory.trees shape → RestsOnTables core shape reply
reads_rest core (OfMergeBegin kind id) reply reads = absurd reads
reads_rest core (OfMergeFinish job) reply reads = absurd reads
reads_rest core shape reply reads = reads

disorder_rests : (old new : Held) (shape : CallShape) (told : StorageError) → FindsDisorder old shape new → RestsOnTables old shape (Refused (Storage told))
disorder_rests old new (OfMergeBegin kind id) told (begins, left, looks) = begins
disorder_rests old new (OfMergeFinish job) told (out, same) = out
disorder_rests old new shape told found = absurd found

failure_steps : (old new : Held) (s : State) (shape : CallShape) (error : Error) → held_due old shape ≡ None → (RestsOnTables old shape (Refused error) → ⊥) → StandsFor old s → OwesFailure old shape error new → (t : State) × StandsFor new t × MayFail shape error s t
failure_steps old new s shape (Io kind) due_is none stands (inl (changes, fault)) =
    let left = machine.at_fault s shape in (
      poisoned_state new left,
      poisoned_stands (memory_at_fault shape old.memory) old new old.catalog.next_table_id left fault (fault_left old s shape stands),
      inl (same_changes old s shape stands changes, record { is = refl; trees = refl; entries = refl; records = refl; journals = refl }),
    )
failure_steps old new s shape (Io kind) due_is none stands (inr (inl (reads, looks, rose))) = absurd (none (reads_rest old shape (Refused (Io kind)) reads))
failure_steps old new s shape (Io kind) due_is none stands (inr (inr poisons)) = let left = work_steps old new s stands shape (Io kind) due_is none poisons in (left.0, left.1, inr (inr left.2))
failure_steps old new s shape OutOfMemory due_is none stands (asks, out) = (s, ran_out_still old new s shape out stands, (same_asks old s stands shape due_is asks, refl))
failure_steps old new s shape (Storage told) due_is none stands (is, inl (reads, looks)) = absurd (none (reads_rest old shape (Refused (Storage told)) reads))
failure_steps old new s shape (Storage told) due_is none stands (is, inr found) = absurd (none (disorder_rests old new shape told found))
failure_steps old new s shape ValueTooLong due_is none stands (long, same) = (s, still old new s same stands, (same_long old s shape stands long, refl))
failure_steps old new s shape Poisoned due_is none stands (late, same) = (s, still old new s same stands, (same_late old s stands shape late, refl))
failure_steps old new s shape NumbersUsedUp due_is none stands (used, same) = (s, still old new s same stands, (same_used old s stands shape NumbersUsedUp due_is none used, refl))
failure_steps old new s shape TooManyItems due_is none stands (room, same) = (s, still old new s same stands, (same_room old s stands shape TooManyItems none room, refl))
failure_steps old new s shape error due_is none stands bad = absurd bad

refusal_steps : (old new : Held) (s : State) (shape : CallShape) (error : Error) (first : Option Error) → held_due old shape ≡ first → (RestsOnTables old shape (Refused error) → ⊥) → StandsFor old s → OwesRefusal first old shape error new → (t : State) × StandsFor new t × Refuses first shape error s t
refusal_steps old new s shape error (Some first) due_is none stands (is, same) = (s, still old new s same stands, (is, refl))
refusal_steps old new s shape error None due_is none stands failure = failure_steps old new s shape error due_is none stands failure

-- a refusal that is due, and changes nothing
pub due_step : (core : Held) (s : State) (shape : CallShape) (error : Error) → held_due core shape ≡ Some error → StandsFor core s → Steps core s shape (Refused error)
due_step core s shape error due stands = (s, stands, subst (λ first. Refuses first shape error s s) (sym (same_due core s shape stands ∙ due)) (refl, refl))

-- want of memory, where none is due
pub memory_step : (old new : Held) (s : State) (shape : CallShape) → AsksMemoryIn old shape → held_due old shape ≡ None → RanOut old shape new → StandsFor old s → Steps new s shape (Refused OutOfMemory)
memory_step old new s shape asks none out stands =
    (s, ran_out_still old new s shape out stands, subst (λ first. Refuses first shape OutOfMemory s s) (sym (same_due old s shape stands ∙ none)) (same_asks old s stands shape none asks, refl))

-- ---- changes

-- lengths that stop at the greatest number, as a state counts them and as the writer does
journal_more : (j : Journal) (parts : Parts) (text : List ℕ) → parts.journal ≡ j.len → parts.buffer ≡ length j.buffer → (parts_written_out parts (length text)).journal ≡ (writer.written_out (filled j text)).len
journal_more j parts text journal buffer = ap counted (let all = length-append j.buffer text in let sum : parts.journal + (parts.buffer + length text) ≡ j.len + length (j.buffer ++ text) = omega (arith, all, journal, buffer) in sum)

-- lengths after a write, whether it went out or waits
parts_after : (out : Bool) (j : Journal) (parts : Parts) (text : List ℕ) → parts.journal ≡ j.len → parts.buffer ≡ length j.buffer
    → ((parts_written out parts (length text)).journal ≡ (if out then writer.written_out (filled j text) else filled j text).len) × ((parts_written out parts (length text)).buffer ≡ length (if out then writer.written_out (filled j text) else filled j text).buffer)
parts_after true j parts text journal buffer = (journal_more j parts text journal buffer, refl)
parts_after false j parts text journal buffer = (journal, let all = length-append j.buffer text in omega (arith, all, buffer))

grown_stands : (old new : Held) (s : State) (change : Change) (how : Persistence) → change ≢ Items [] → accepted s change how ≡ machine.made s change how → MayChange (facts_of old.memory old.catalog.next_table_id) change → Grows old change how new → StandsFor old s
    → StandsFor new (accepted s change how)
grown_stands old new s change how some is_made may grows stands =
    let text = text_of old change in
    let hand = is_none (mode_of old how) in
    let t = machine.made s change how in
    let same : change_text change (history.number s.history) ≡ text = ap (change_text change) stands.remembered.number in
    let out : leaves_buffer (facts s) s.parts.buffer change how ≡ goes_out hand (length (old.journal.buffer ++ text)) =
    same_leaves old s stands change how ∙ ap (goes_out hand) (sym (length-append old.journal.buffer text)) in
    let after = parts_after (goes_out hand (length (old.journal.buffer ++ text))) old.journal s.parts text stands.journal stands.buffer in
    let held = law.a_change_stands old.memory old.catalog.next_table_id s stands.remembered change how some may.living may.fits may.numbered in
    subst (λ (u : State). StandsFor new u) (sym is_made) (record {
      remembered = subst (λ (m : Remembered). memory.MemoryStandsFor m new.catalog.next_table_id t) (sym grows.memory_is)
          (subst (λ c. memory.MemoryStandsFor (memory.with_change change old.memory) c t) (ap (λ c. c.next_table_id) (sym grows.catalog)) (subst (λ (u : State). memory.MemoryStandsFor (memory.with_change change old.memory) old.catalog.next_table_id u) is_made held));
      journal = (λ i. (parts_written (out i) s.parts (length (same i))).journal) ∙ after.0 ∙ ap (λ (j : Journal). j.len) (sym grows.journal);
      buffer = (λ i. (parts_written (out i) s.parts (length (same i))).buffer) ∙ after.1 ∙ ap (λ (j : Journal). length j.buffer) (sym grows.journal);
    })

changed_steps : (old new : Held) (s : State) (change : Change) (how : Persistence) → held_due old (OfChange change how) ≡ None → OwesChange old change how new → StandsFor old s → Steps new s (OfChange change how) Done
changed_steps old new s (Items []) how none same stands = (s, still old new s same stands, (refl, (refl, refl)))
changed_steps old new s (Items (item ∷ items)) how none grows stands =
    let all = Items (item ∷ items) in
    let some : all ≢ Items [] = λ is. let bad : ⊥ = cc in bad in
    (accepted s all how, grown_stands old new s all how some refl (may_change (facts_of old.memory old.catalog.next_table_id) all none) grows stands, (same_due old s (OfChange all how) stands ∙ none, (refl, refl)))
changed_steps old new s (Emptied id) how none grows stands =
    let some : Emptied id ≢ Items [] = λ is. let bad : ⊥ = cc in bad in
    (accepted s (Emptied id) how, grown_stands old new s (Emptied id) how some refl (may_change (facts_of old.memory old.catalog.next_table_id) (Emptied id) none) grows stands, (same_due old s (OfChange (Emptied id) how) stands ∙ none, (refl, refl)))

-- ---- what else changes

-- the parts are others, and the history and what is held are as before
handed_stands : (old new : Held) (s : State) → HandsOver old new → StandsFor old s → StandsFor new (record s { parts = parts_written_out s.parts 0 })
handed_stands old new s hands stands = record {
  remembered = subst (λ (m : Remembered). memory.MemoryStandsFor m new.catalog.next_table_id (record s { parts = parts_written_out s.parts 0 })) (sym hands.memory_is)
      (law.other_parts_stand old.memory new.catalog.next_table_id s (subst (λ c. memory.MemoryStandsFor old.memory c s) (ap (λ c. c.next_table_id) (sym hands.catalog)) stands.remembered) (parts_written_out s.parts 0)
      (stands.remembered.next_table ∙ ap (λ c. c.next_table_id) (sym hands.catalog)) refl refl refl refl);
  journal = none_more old.journal s.parts stands.journal stands.buffer ∙ ap (λ (j : Journal). j.len) (sym hands.journal);
  buffer = ap (λ (j : Journal). length j.buffer) (sym hands.journal);
}

-- the keyspaces changed
altered_stands : (old new : Held) (s t : State) (after : Remembered) (table : ℕ) → Alters old after table new → memory.MemoryStandsFor after table t → t.parts.journal ≡ (parts_written_out s.parts 0).journal → t.parts.buffer ≡ 0 → StandsFor old s → StandsFor new t
altered_stands old new s t after table alters held journal buffer stands = record {
  remembered = subst (λ (m : Remembered). memory.MemoryStandsFor m new.catalog.next_table_id t) (sym alters.memory_is) (subst (λ c. memory.MemoryStandsFor after c t) (sym alters.next_table) held);
  journal = journal ∙ none_more old.journal s.parts stands.journal stands.buffer ∙ ap (λ (j : Journal). j.len) (sym alters.journal);
  buffer = buffer ∙ ap (λ (j : Journal). length j.buffer) (sym alters.journal);
}

counted_stands : (old new : Held) (s t : State) (after : Remembered) → Counts old after new → memory.MemoryStandsFor after old.catalog.next_table_id t → t.parts.journal ≡ s.parts.journal → t.parts.buffer ≡ s.parts.buffer → StandsFor old s → StandsFor new t
counted_stands old new s t after counts held journal buffer stands = record {
  remembered = subst (λ (m : Remembered). memory.MemoryStandsFor m new.catalog.next_table_id t) (sym counts.memory_is) (subst (λ c. memory.MemoryStandsFor after c t) (ap (λ c. c.next_table_id) (sym counts.catalog)) held);
  journal = journal ∙ stands.journal ∙ ap (λ (j : Journal). j.len) (sym counts.journal);
  buffer = buffer ∙ stands.buffer ∙ ap (λ (j : Journal). length j.buffer) (sym counts.journal);
}

-- ---- a creation

last_of : {X : Type 0} (P : X → Type 0) (front : List X) (x : X) → All P (front ++ x ∷ []) → P x
last_of P [] x all = All-head P x [] all
last_of P (y ∷ front) x all = last_of P front x (All-tail P y (front ++ x ∷ []) all)

-- where a name that none has may be made, an id is left
some_id : (core : Held) (name : Bytes) → first_due (creation_refusals (facts_of core.memory core.catalog.next_table_id) name) ≡ None → names_one (store_in core) name ≡ false → core.memory.keyspaces.next ≢ 2 ^ 64 - 1
some_id core name none fresh same =
    let room = (may_create (facts_of core.memory core.catalog.next_table_id) name none).room fresh in
    room.free same

created_steps : (old new : Held) (s : State) (name : Bytes) (options : List Bytes) (id : ℕ) → held_due old (OfCreation name options) ≡ None → names_one (store_in old) name ≡ false → id ≡ old.memory.keyspaces.next → Creates old name options new
    → StandsFor old s → Steps new s (OfCreation name options) (Number id)
created_steps old new s name options id none fresh is creates stands =
    let held = stands.remembered in
    let named = (may_create (facts_of old.memory old.catalog.next_table_id) name none).named in
    let option_list = last_of (λ (k : LivingKeyspace). AreOptions k.options) old.memory.keyspaces.living (record { id = old.memory.keyspaces.next; number = old.memory.next; name = name; options = options }) creates.lawful.keyspaces.options in
    let after = law.a_creation_stands old.memory old.catalog.next_table_id s held name options named fresh option_list (some_id old name none fresh) ((may_create (facts_of old.memory old.catalog.next_table_id) name none).room fresh).numbered in (
      created s name options,
      altered_stands old new s (created s name options) _ _ creates after refl refl stands,
      (same_due old s (OfCreation name options) stands ∙ none, (id, refl, inr (law.a_name_agrees old.memory old.catalog.next_table_id s held name ∙ fresh, is ∙ sym (law.next_agrees old.memory old.catalog.next_table_id s held), refl))),
    )

found_steps : (old new : Held) (s : State) (name : Bytes) (options : List Bytes) (id : ℕ) → held_due old (OfCreation name options) ≡ None → id_of name old.memory.keyspaces.living ≡ Some id → new ≡ old → StandsFor old s
    → Steps new s (OfCreation name options) (Number id)
found_steps old new s name options id none found same stands =
    let held = stands.remembered in (
      s,
      still old new s same stands,
      (
        same_due old s (OfCreation name options) stands ∙ none,
        (
          id,
          refl,
          inl (
            law.a_name_there old.memory old.catalog.next_table_id s held name ∙ ap is_some found,
            (law.a_name_resolved old.memory old.catalog.next_table_id s held id name).1 found,
            refl,
          ),
        ),
      ),
    )

-- ---- a deletion

deleted_steps : (old new : Held) (s : State) (id : ℕ) → held_due old (OfDeletion id) ≡ None → is_living (store_in old) id ≡ true → Deletes old id new → StandsFor old s → Steps new s (OfDeletion id) Done
deleted_steps old new s id none living deletes stands =
    let held = stands.remembered in
    let here : is_living (present s) id ≡ true = law.living_agree old.memory old.catalog.next_table_id s held id ∙ living in (
      deleted s id,
      altered_stands old new s (deleted s id) _ _ deletes (law.a_deletion_stands old.memory old.catalog.next_table_id s held id living ((may_delete (facts_of old.memory old.catalog.next_table_id) id none).number living).numbered) refl refl stands,
      (same_due old s (OfDeletion id) stands ∙ none, (refl, ap (λ b. if b then deleted s id else s) (sym here))),
    )

gone_steps : (old new : Held) (s : State) (id : ℕ) → held_due old (OfDeletion id) ≡ None → is_living (store_in old) id ≡ false → new ≡ old → StandsFor old s → Steps new s (OfDeletion id) Done
gone_steps old new s id none gone same stands =
    let here : is_living (present s) id ≡ false = law.living_agree old.memory old.catalog.next_table_id s stands.remembered id ∙ gone in
    (s, still old new s same stands, (same_due old s (OfDeletion id) stands ∙ none, (refl, ap (λ b. if b then deleted s id else s) (sym here))))

-- ---- handles

retained_steps : (old new : Held) (s : State) (id : ℕ) → held_due old (OfHandle OneMore id) ≡ None → new ≡ record old { memory = memory.retained id old.memory } → StandsFor old s → Steps new s (OfHandle OneMore id) Done
retained_steps old new s id none is stands =
    let t = record s { handles = machine.one_more s.handles id } in (
      t,
      subst (λ c. StandsFor c t) (sym is) (record { remembered = law.a_retained_stands old.memory old.catalog.next_table_id s stands.remembered id; journal = stands.journal; buffer = stands.buffer }),
      (same_due old s (OfHandle OneMore id) stands ∙ none, (refl, refl)),
    )

released_steps : (old new : Held) (s : State) (id : ℕ) → held_due old (OfHandle OneLess id) ≡ None → Counts old (memory.released_in_memory id old.memory) new → StandsFor old s → Steps new s (OfHandle OneLess id) Done
released_steps old new s id none counts stands = (
  machine.released s id,
  counted_stands old new s (machine.released s id) _ counts (law.a_release_stands old.memory old.catalog.next_table_id s stands.remembered id) refl refl stands,
  (same_due old s (OfHandle OneLess id) stands ∙ none, (refl, refl)),
)

-- ---- a rotation

rotation_steps : (old new : Held) (s : State) (id : ℕ) (reply : Reply) → held_due old (OfRotation id) ≡ None → (seals : Bool) → rotates old.memory.trees id ≡ seals → reply ≡ Flag seals
    → new ≡ (if seals then record old { memory = memory.rotated_in_memory id old.memory } else old) → StandsFor old s → Answered new s (OfRotation id) reply
rotation_steps old new s id reply none true rotates_so told is stands =
    let t = machine.rotated s id in
    let seals = rotations_agree old.memory old.catalog.next_table_id s stands.remembered id ∙ rotates_so in (
      t,
      subst (λ c. StandsFor c t) (sym is) (record { remembered = law.a_rotation_stands old.memory old.catalog.next_table_id s stands.remembered id; journal = stands.journal; buffer = stands.buffer }),
      (same_due old s (OfRotation id) stands ∙ none, (told ∙ ap Flag (sym seals), ap (λ b. if b then t else s) (sym seals))),
    )
rotation_steps old new s id reply none false rotates_so told is stands =
    let seals = rotations_agree old.memory old.catalog.next_table_id s stands.remembered id ∙ rotates_so in
    (s, still old new s is stands, (same_due old s (OfRotation id) stands ∙ none, (told ∙ ap Flag (sym seals), ap (λ b. if b then machine.rotated s id else s) (sym seals))))

-- the active journal was sealed
turned_steps : (old new : Held) (s : State) → held_due old OfJournalRotation ≡ None → RotatesJournal old new → StandsFor old s → Steps new s OfJournalRotation Done
turned_steps old new s none turns stands =
    let t = machine.journal_rotated s in
    let len = (writer.written_out old.journal).len in
    let same : len ≡ counted (s.parts.journal + s.parts.buffer) = λ i. counted (sym stands.journal i + sym stands.buffer i) in (
      t,
      record {
        remembered = subst (λ (m : Remembered). memory.MemoryStandsFor m new.catalog.next_table_id t) (sym turns.memory_is)
            (subst (λ c. memory.MemoryStandsFor (memory.journal_rotated_in_memory len old.memory) c t) (ap (λ c. c.next_table_id) (sym turns.catalog))
            (law.a_journal_rotation_stands old.memory old.catalog.next_table_id s stands.remembered len same));
        journal = ap (λ (j : Journal). j.len) (sym turns.journal);
        buffer = ap (λ (j : Journal). length j.buffer) (sym turns.journal);
      },
      (same_due old s OfJournalRotation stands ∙ none, (refl, refl)),
    )

-- ---- tickets

-- the core with other tickets
with_tickets_for : (old new : Held) (s : State) (tickets : Tickets) → new ≡ record old { memory = memory.with_tickets new.memory.tickets old.memory } → new.memory.tickets ≡ tickets
    → memory.MemoryStandsFor (memory.with_tickets tickets old.memory) old.catalog.next_table_id (record s { tickets = tickets }) → StandsFor old s → StandsFor new (record s { tickets = tickets })
with_tickets_for old new s tickets is at held stands =
    subst (λ c. StandsFor c (record s { tickets = tickets })) (sym (is ∙ ap (λ (t : Tickets). record old { memory = memory.with_tickets t old.memory }) at))
    (record { remembered = held; journal = stands.journal; buffer = stands.buffer })

module _ (old new : Held) (s : State) (stands : StandsFor old s) (is : new ≡ record old { memory = memory.with_tickets new.memory.tickets old.memory }) where
  same_number : number s.history ≡ old.memory.next
  same_number = stands.remembered.number

  same_tickets : s.tickets ≡ old.memory.tickets
  same_tickets = stands.remembered.tickets

  -- what the core's tickets became the state's do
  turned : (f : ℕ → Tickets → Tickets) → new.memory.tickets ≡ f old.memory.next old.memory.tickets → memory.MemoryStandsFor (memory.with_tickets (f old.memory.next old.memory.tickets) old.memory) old.catalog.next_table_id (record s { tickets = f old.memory.next s.tickets })
      → StandsFor new (record s { tickets = f (number s.history) s.tickets })
  turned f at held =
      let same : f (number s.history) s.tickets ≡ f old.memory.next old.memory.tickets = λ i. f (same_number i) (same_tickets i) in
      let half : f old.memory.next s.tickets ≡ f old.memory.next old.memory.tickets = λ i. f old.memory.next (same_tickets i) in
      subst (λ t. StandsFor new (record s { tickets = t })) (sym same)
      (with_tickets_for old new s (f old.memory.next old.memory.tickets) is at (subst (λ t. memory.MemoryStandsFor (memory.with_tickets (f old.memory.next old.memory.tickets) old.memory) old.catalog.next_table_id (record s { tickets = t })) half held) stands)

  none_due : (call : TicketCall) → held_due old (OfTickets call) ≡ None → due s (OfTickets call) ≡ None
  none_due call none = same_due old s (OfTickets call) stands ∙ none

  pub tickets_step : (call : TicketCall) (reply : Reply) → held_due old (OfTickets call) ≡ None → TurnsTickets old.memory.next old.memory.tickets call reply new.memory.tickets → Answered new s (OfTickets call) reply
  tickets_step Open reply none (told, at) = (
    record s { tickets = opened (number s.history) s.tickets },
    turned opened at (law.opened_stands old.memory old.catalog.next_table_id s stands.remembered),
    (none_due Open none, ((told ∙ sym (λ i. Opened (record { id = (same_tickets i).next; instant = same_number i })), refl), refl)),
  )
  tickets_step (Clone id) reply none (instant, there, told, at) = (
    record s { tickets = opened instant s.tickets },
    turned (λ _. opened instant) at (law.cloned_stands old.memory old.catalog.next_table_id s stands.remembered id instant there),
    (none_due (Clone id) none, ((instant, ap (λ (t : Tickets). get t.instants id) same_tickets ∙ there, told ∙ ap (λ (t : Tickets). Opened (record { id = t.next; instant = instant })) (sym same_tickets), refl), refl)),
  )
  tickets_step (Close id) reply none (told, at) = (
    record s { tickets = closed (number s.history) id s.tickets },
    turned (λ n. closed n id) at (law.closed_stands old.memory old.catalog.next_table_id s stands.remembered id),
    (none_due (Close id) none, ((told, refl), refl)),
  )
  tickets_step Collect reply none (told, at) = (
    record s { tickets = collected (number s.history) s.tickets },
    turned collected at (law.collected_stands old.memory old.catalog.next_table_id s stands.remembered),
    (none_due Collect none, ((told ∙ ap Number (ap (λ (t : Tickets). t.watermark) at ∙ sym (λ i. (collected (same_number i) (same_tickets i)).watermark)), refl), refl)),
  )

-- ---- each call

-- a read of a keyspace without tables, of a map that is the view's
read_steps : (old new : Held) (s : State) (view : View) (id : ℕ) (query : Query) (reply : Reply) (tables : List Reader) → tables_of old id ≡ tables → (tables ≢ [] → ⊥) → held_due old (OfRead view id query) ≡ None
    → GivesRead tables old view id query reply → LooksAt tables old new → StandsFor old s → Answered new s (OfRead view id query) reply
read_steps old new s view id query reply [] bare some none told same stands = (
  s,
  still old new s same stands,
  (same_due old s (OfRead view id query) stands ∙ none, (subst (λ m. Tells query m reply) (law.bare_agree old.memory old.catalog.next_table_id s stands.remembered view id none bare) told, refl)),
)
read_steps old new s view id query reply (t ∷ tables) bare some none told same stands = absurd (some (λ is. let bad : ⊥ = cc in bad))

same_counts : (old : Held) (s : State) (count : Count) (reply : Reply) → HeldCount old count reply → StandsFor old s → CountIs s count reply
same_counts old s Keyspaces reply told stands = told ∙ ap Number (sym (law.names_counted old.memory old.catalog.next_table_id s stands.remembered))
same_counts old s shapes.Names reply (names, told, all, sorted) stands = (names, told, subst (λ l. IsPermutation l names.items) (sym (ap values (law.same_names old.memory old.catalog.next_table_id s stands.remembered))) all, sorted)
same_counts old s (Exists name) reply told stands = told ∙ ap Flag (sym (law.a_name_agrees old.memory old.catalog.next_table_id s stands.remembered name))
same_counts old s Next reply told stands = told ∙ ap Number (sym stands.remembered.number)
same_counts old s Visible reply told stands = told ∙ ap Number (sym stands.remembered.number)
same_counts old s shapes.Journals reply told stands = told ∙ ap (λ (j : Journals). Number (length j.sealed + 1)) (sym stands.remembered.journals)
same_counts old s JournalSpace reply told stands = told ∙ (λ i. Number (counted (bytes_of (sym stands.remembered.journals i).sealed + sym stands.journal i)))
same_counts old s OpenTickets reply told stands = told ∙ ap (λ (t : Tickets). Number (len t.instants)) (sym stands.remembered.tickets)
same_counts old s (Entries id) reply told stands = told ∙ ap (λ n. Number (counted n)) (sym (versions_agree old.memory old.catalog.next_table_id s stands.remembered id))
same_counts old s (SealedMemtables id) reply told stands = told ∙ ap Number (sym (sealed_agree old.memory old.catalog.next_table_id s stands.remembered id))
same_counts old s WriteBuffer reply told stands = told ∙ ap (λ n. Number (counted n)) (sym (buffers_agree old.memory old.catalog.next_table_id s stands.remembered))
same_counts old s (shapes.WantsRotation id) reply told stands = told ∙ ap Flag (sym (wants_agree old.memory old.catalog.next_table_id s stands.remembered id))
same_counts old s (Tables id) reply told stands = told ∙ ap Number (sym (table_counts_agree old.memory old.catalog.next_table_id s stands.remembered id))
same_counts old s (TablesL0 id) reply told stands = told ∙ ap Number (sym (l0_counts_agree old.memory old.catalog.next_table_id s stands.remembered id))
same_counts old s (DiskSpace (Some id)) reply told stands = told ∙ ap Number (sym (space_agrees old.memory old.catalog.next_table_id s stands.remembered id))
same_counts old s (DiskSpace None) reply told stands =
    told ∙ (λ i. Number (counted (sym (spaces_agree old.memory old.catalog.next_table_id s stands.remembered) i + counted (bytes_of (sym stands.remembered.journals i).sealed + sym stands.journal i))))
same_counts old s Flushes reply told stands = told ∙ ap Number (sym (waits_agree old.memory old.catalog.next_table_id s stands.remembered))
same_counts old s MergesOut reply told stands = told ∙ ap Number (sym (merges_counted old.memory old.catalog.next_table_id s stands.remembered))
same_counts old s MergesDone reply told stands = told ∙ ap Number (sym stands.remembered.merges_done)
same_counts old s ToFlush reply (ids, told, ascend, is) stands = (ids, told, ascend, is ∙ sym (awaited_agree old.memory old.catalog.next_table_id s stands.remembered))

creation_steps : (old new : Held) (s : State) (name : Bytes) (options : List Bytes) (id : ℕ) → held_due old (OfCreation name options) ≡ None → OwesCreation old name options id new → StandsFor old s → Steps new s (OfCreation name options) (Number id)
creation_steps old new s name options id none (inl (found, same)) stands = found_steps old new s name options id none found same stands
creation_steps old new s name options id none (inr (fresh, is, creates)) stands = created_steps old new s name options id none fresh is creates stands

deletion_steps : (old new : Held) (s : State) (id : ℕ) → held_due old (OfDeletion id) ≡ None → OwesDeletion old id new → StandsFor old s → Steps new s (OfDeletion id) Done
deletion_steps old new s id none (inl (gone, same)) stands = gone_steps old new s id none gone same stands
deletion_steps old new s id none (inr (living, deletes)) stands = deleted_steps old new s id none living deletes stands

gives_step : (old new : Held) (shape : CallShape) (reply : Reply) (s : State) → (RestsOnTables old shape reply → ⊥) → held_due old shape ≡ None → Gives old shape reply new → StandsFor old s → Answered new s shape reply
gives_step old new (OfChange change how) reply s bare none (told, owes) stands = subst (λ r. Answered new s (OfChange change how) r) (sym told) (changed_steps old new s change how none owes stands)
gives_step old new (OfIngestion id items) reply s bare none owes stands = ingestion_steps old new s stands id items reply none owes
gives_step old new (OfCreation name options) reply s bare none (id, told, owes) stands = subst (λ r. Answered new s (OfCreation name options) r) (sym told) (creation_steps old new s name options id none owes stands)
gives_step old new (OfDeletion id) reply s bare none (told, owes) stands = subst (λ r. Answered new s (OfDeletion id) r) (sym told) (deletion_steps old new s id none owes stands)
gives_step old new (OfHandle OneMore id) reply s bare none (told, is) stands = subst (λ r. Answered new s (OfHandle OneMore id) r) (sym told) (retained_steps old new s id none is stands)
gives_step old new (OfHandle OneLess id) reply s bare none (told, counts) stands = subst (λ r. Answered new s (OfHandle OneLess id) r) (sym told) (released_steps old new s id none counts stands)
gives_step old new (OfRotation id) reply s bare none (told, is) stands = rotation_steps old new s id reply none (rotates old.memory.trees id) refl told is stands
gives_step old new OfJournalRotation reply s bare none (told, turns) stands = subst (λ r. Answered new s OfJournalRotation r) (sym told) (turned_steps old new s none turns stands)
gives_step old new (OfFlushBegin id) reply s bare none begins stands = begin_steps old new s stands id reply (begins_flush old.memory.trees id) refl none begins
gives_step old new (OfFlushFinish job) reply s bare none finishes stands =
    finish_steps old new s stands job reply (is_flushing old.memory.trees job) refl (takes_effect_in old job) refl none finishes
gives_step old new (OfMergeBegin kind id) reply s bare none begins stands = merge_begin_steps old s stands new kind id reply (begins_merge_in old kind id) refl none begins
gives_step old new (OfMergeFinish job) reply s bare none finishes stands =
    finish_merge_steps old s stands new job reply (is_merging old.memory.trees job) refl (is_living (store_in old) job.keyspace_id) refl none bare finishes
gives_step old new OfMaintenance reply s bare none (told, becomes) stands = subst (λ r. Answered new s OfMaintenance r) (sym told) (maintenance_steps old new s stands none becomes)
gives_step old new (OfRead view id query) reply s bare none (told, looks) stands = read_steps old new s view id query reply (tables_of old id) refl bare none told looks stands
gives_step old new (OfTickets call) reply s bare none (turns, is) stands = tickets_step old new s stands is call reply none turns
gives_step old new (OfPersist mode) reply s bare none (told, hands) stands =
    (record s { parts = parts_written_out s.parts 0 }, handed_stands old new s hands stands, (same_due old s (OfPersist mode) stands ∙ none, (told, refl)))
gives_step old new (OfCount count) reply s bare none (told, same) stands = (s, still old new s same stands, (same_due old s (OfCount count) stands ∙ none, (same_counts old s count reply told stands, refl)))

-- each call is a step, but for what rests on what tables hold
pub owes_step : (old new : Held) (shape : CallShape) (reply : Reply) (s : State) → (RestsOnTables old shape reply → ⊥) → Owes old shape reply new → StandsFor old s → Steps new s shape reply
owes_step old new shape (Refused error) s bare owes stands =
    subst (λ first. (t : State) × StandsFor new t × Refuses first shape error s t) (sym (same_due old s shape stands)) (refusal_steps old new s shape error (held_due old shape) refl bare stands owes)
owes_step old new shape reply s bare (none, gives) stands = gives_step old new shape reply s bare none gives stands

-- one call more
pub owes_push : (old mid new : Held) (calls : List Call) (replies : List Reply) (call : Call) (reply : Reply) → OwesAll old calls replies mid → Owes mid (shape_of call) reply new → OwesAll old (calls ++ call ∷ []) (replies ++ reply ∷ []) new
owes_push old mid new [] [] call reply so_far more = (new, subst (λ c. Owes c (shape_of call) reply new) so_far more, refl)
owes_push old mid new (c ∷ calls) (r ∷ replies) call reply (between, one, so_far) more = (between, one, owes_push between mid new calls replies call reply so_far more)
owes_push old mid new [] (r ∷ replies) call reply so_far more = absurd so_far
owes_push old mid new (c ∷ calls) [] call reply so_far more = absurd so_far
