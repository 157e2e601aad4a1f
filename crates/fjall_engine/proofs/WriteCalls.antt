-- What the parts of a change make of it.
use Rattle.std.proofs.Common.{◌≡◌, inl, ℕ, ◌≢◌, ◌==◌, Bool, true, false, if◌then◌else◌, All, List, [], ◌∷◌, ◌++◌, length, is_none, arith, Option, None, Result, Ok, Err, refl, sym, ◌∙◌, ap, subst, length-append}
use Rattle.std.proofs.lemmas.Bool.{eqb-true, true≢false}
use Rattle.fjall_base.specs.declared.error.Error.{Error}
use Rattle.fjall_base.specs.declared.error.Error.TheVariants.{Io}
use Rattle.fjall_journal.specs.declared.persist_mode.PersistMode.{PersistMode}
use Rattle.fjall_journal.specs.Changes.{Change, Emptied, Items, command_of}
use Rattle.fjall_journal.specs.Ops.{BatchItem}
use Rattle.fjall_journal.specs.Writer.{Journal, after_command, batch_steps, filled, goes_out, written_out}
use Rattle.fjall_base.specs.Disk.{Took}
use Rattle.fjall_changes.proofs.BatchAppends.{refused_stays, took_stays}
use Rattle.fjall_history.specs.declared.reply.Reply.TheVariants.{Done, Refused}
use Rattle.fjall_machine.specs.Allowed.{MayChange}
use Rattle.fjall_machine.specs.Machine.{ChangesDisk, Facts, State, TakesMemory, clear_refusals, first_due, is_living, items_refusals, leaves_buffer, mode_in, present}
use Rattle.fjall_machine.specs.Shapes.{OfChange, Persistence}
use Rattle.fjall_machine.specs.Remembered.{Remembered, facts_of}
use Rattle.fjall_machine.proofs.Dues.{may_change}
use Rattle.fjall_engine.specs.Holding.{Held}
use Rattle.fjall_engine.specs.Crashes.{IsSync, IsSyncOf, commands_asked}
use Rattle.fjall_engine.specs.Standing.{Gives, Grows, OnDisk, Owes, OwesRefusal, Serves, StandsFor, held_due, mode_of, reply_of, store_in, text_of}
use Rattle.fjall_engine.specs.CallParts.{Writes}
use Rattle.fjall_engine.specs.Durables.{Passes}
use Rattle.fjall_engine.proofs.DeviceFaults.{failed_on, served_on}
use Rattle.fjall_changes.proofs.KeptHomes.{unwritten_homes, wrote_homes}
use Rattle.fjall_engine.proofs.TablesAtHome.{KeepsReads, all_stay, carry_all, carry_along, carry_changed, keeps_homes, outside_ill, outside_same}
use Rattle.fjall_engine.proofs.OwedSteps.{same_mode}
use Rattle.fjall_engine.proofs.Refusals.{no_sync}
use Rattle.fjall_engine.proofs.ServedCalls.{answer_serves, led_by, memory_owes, memory_serves, serves_by}
use Rattle.fjall_engine.proofs.JournalWrites.{GoesOn, IsAdmitted, torn_leads, write_leads}

-- ---- a change that takes effect

-- the writer goes on in its file
same_name : (hand : Bool) (j : Journal) (text : List ℕ) → (after_command hand j text).name ≡ j.name
same_name hand j text = by (goes_out hand (length (j.buffer ++ text)))
  where
    by : (out : Bool) → (if out then written_out (filled j text) else filled j text).name ≡ j.name
    by true = refl
    by false = refl

-- a change of no items takes none
abbrev HasSome : Change → Type 0
HasSome (Items []) = ⊥
HasSome (Items (item ∷ items)) = Unit {0}
HasSome (Emptied id) = Unit {0}

some_change : (change : Change) → HasSome change → change ≢ Items []
some_change (Items []) some = absurd some
some_change (Items (item ∷ items)) some = λ is. let bad : ⊥ = cc in bad
some_change (Emptied id) some = λ is. let bad : ⊥ = cc in bad

may_now : (core : Held) (change : Change) (how : Persistence) → HasSome change → held_due core (OfChange change how) ≡ None → MayChange (facts_of core.memory core.catalog.next_table_id) change
may_now core (Items []) how some none = absurd some
may_now core (Items (item ∷ items)) how some none = may_change (facts_of core.memory core.catalog.next_table_id) (Items (item ∷ items)) none
may_now core (Emptied id) how some none = may_change (facts_of core.memory core.catalog.next_table_id) (Emptied id) none

gives_grown : (old new : Held) (change : Change) (how : Persistence) → HasSome change → Grows old change how new → Gives old (OfChange change how) Done new
gives_grown old new (Items []) how some grown = absurd some
gives_grown old new (Items (item ∷ items)) how some grown = (refl, grown)
gives_grown old new (Emptied id) how some grown = (refl, grown)

disk_grown : (old new : Held) (change : Change) (how : Persistence) → HasSome change → Took old.disk new.disk (batch_steps (mode_of old how) old.journal (text_of old change)) → OnDisk old (OfChange change how) Done new
disk_grown old new (Items []) how some took = absurd some
disk_grown old new (Items (item ∷ items)) how some took = took
disk_grown old new (Emptied id) how some took = took

changes_disk : (f : Facts) (waiting : ℕ) (change : Change) (how : Persistence) → HasSome change → leaves_buffer f waiting change how ≡ true → ChangesDisk f waiting (OfChange change how)
changes_disk f waiting (Items []) how some out = absurd some
changes_disk f waiting (Items (item ∷ items)) how some out = out
changes_disk f waiting (Emptied id) how some out = out

takes_memory : (change : Change) (how : Persistence) → HasSome change → TakesMemory (OfChange change how)
takes_memory (Items []) how some = absurd some
takes_memory (Items (item ∷ items)) how some = tt
takes_memory (Emptied id) how some = tt

asks_command : (s : State) (change : Change) (how : Persistence) → HasSome change → commands_asked s (OfChange change how) ≡ command_of change ∷ []
asks_command s (Items []) how some = absurd some
asks_command s (Items (item ∷ items)) how some = refl
asks_command s (Emptied id) how some = refl

sync_of : (s : State) (change : Change) (how : Persistence) → HasSome change → IsSync s (OfChange change how) Done → IsSyncOf (mode_in (present s) how)
sync_of s (Items []) how some sync = absurd some
sync_of s (Items (item ∷ items)) how some sync = sync
sync_of s (Emptied id) how some sync = sync

module _ (honest : Type 0) (old new : Held) (change : Change) (some : HasSome change) (how : Persistence) (none : held_due old (OfChange change how) ≡ None) where
  abbrev mode : Option PersistMode
  mode = mode_of old how

  may : MayChange (facts_of old.memory old.catalog.next_table_id) change
  may = may_now old change how some none

  admits : (s : State) → StandsFor old s → IsAdmitted old change
  admits s stands = record { well = may.well; some = some_change change some; living = may.living; room = may.numbered; fits = may.fits; lawful = stands.remembered.lawful }

  grows : Writes honest old change mode (Ok tt) new → Grows old change how new
  grows w = record { memory_is = ap (λ (h : Held). h.memory) w.0; catalog = ap (λ (h : Held). h.catalog) w.0; journal = ap (λ (h : Held). h.journal) w.0; faults = w.1; waits = w.4 }

  -- what came of a change is what its call owes
  pub written_owes : (result : Result Unit Error) → Writes honest old change mode result new → Owes old (OfChange change how) (reply_of result) new
  written_owes (Ok _) w = (none, gives_grown old new change how some (grows w))
  written_owes (Err (Io kind)) w =
      subst (λ first. OwesRefusal first old (OfChange change how) (Io kind) new) (sym none)
      (inl (changes_disk (facts_of old.memory old.catalog.next_table_id) (length old.journal.buffer) change how some (ap (goes_out (is_none mode)) (sym (length-append old.journal.buffer (text_of old change))) ∙ w.4), record { memory_is = w.0; faults = w.1 }))
  written_owes (Err error) w =
      subst (λ (h : Held). Owes old (OfChange change how) (Refused error) h) (sym w.0)
      (subst (λ e. Owes old (OfChange change how) (Refused e) old) (sym w.1) (memory_owes old (OfChange change how) (takes_memory change how some) none))

  -- its disk keeps the tables
  grown_keeps : Writes honest old change mode (Ok tt) new → honest → KeepsReads old new
  grown_keeps w h =
      keeps_homes old new (carry_along old.memory.trees _ new.memory.trees (ap (λ (c : Held). c.memory.trees) w.0) (carry_changed old.memory.next change old.memory.trees))
      (λ s stands reads. all_stay old.disk new.disk new.memory.trees (wrote_homes old.journal old.disk new.disk (reads.writer may.well) mode (text_of old change) (w.2 h)))
      (outside_same old new (ap (λ (c : Held). c.memory.poisoned) w.0) (ap (λ (c : Held). c.journal.name) w.0 ∙ same_name (is_none mode) old.journal (text_of old change)))

  torn_keeps : (kind : _) → Writes honest old change mode (Err (Io kind)) new → honest → KeepsReads old new
  torn_keeps kind w h =
      keeps_homes old new (carry_all old.memory.trees new.memory.trees (ap (λ (m : Remembered). m.trees) w.0))
      (λ s stands reads. all_stay old.disk new.disk new.memory.trees (unwritten_homes old.journal old.disk new.disk (reads.writer may.well) mode (text_of old change) (w.2 h)))
      (outside_ill old new (ap (λ (m : Remembered). m.poisoned) w.0))

  pub written_serves : (result : Result Unit Error) → Writes honest old change mode result new → honest → Serves old (OfChange change how) (reply_of result) new
  written_serves (Ok _) w h =
      let out = w.3 h in
      let on_with : GoesOn old new change = record { memory_is = ap (λ (c : Held). c.memory) w.0; catalog = ap (λ (c : Held). c.catalog) w.0 } in
      serves_by old new (OfChange change how) Done (written_owes (Ok tt) w) (λ reads. reads) (disk_grown old new change how some (w.2 h)) (took_stays mode old.journal (text_of old change) old.disk new.disk (w.2 h)) (grown_keeps w h)
      (λ s d stands on tidy. served_on s.parts.entries old new.disk d may.well out.served on) (λ s d stands on.
      let led = write_leads s.parts.entries old new change mode d (admits s stands) stands.remembered.beside.older on_with out on in
      let passes = subst (λ tried. Passes d tried led.0) (sym (asks_command s change how some)) led.2 in
      (led.0, led.1, (passes, λ sync. led.3 (subst IsSyncOf (same_mode old s stands how) (sync_of s change how some sync)))))
  written_serves (Err (Io kind)) w h =
      let out = w.3 h in
      serves_by old new (OfChange change how) (Refused (Io kind)) (written_owes (Err (Io kind)) w) (λ reads. reads) (w.2 h) (refused_stays mode old.journal (text_of old change) old.disk new.disk (w.2 h)) (torn_keeps kind w h)
      (λ s d stands on tidy. failed_on s.parts.entries old new.disk d may.well w.1 out.served on) (λ s d stands on.
      led_by new s d (OfChange change how) (Refused (Io kind)) (command_of change ∷ []) (asks_command s change how some) (no_sync s (OfChange change how) (Io kind))
      (torn_leads s.parts.entries old new change mode d (admits s stands) (record { memory_is = w.0; faults = w.1 }) out on))
  written_serves (Err error) w h =
      subst (λ (c : Held). Serves old (OfChange change how) (Refused error) c) (sym w.0)
      (subst (λ e. Serves old (OfChange change how) (Refused e) old) (sym w.1) (memory_serves old (OfChange change how) (takes_memory change how some) none))

-- ---- items that may be none

pub no_items_serve : (core : Held) (items : List BatchItem) (how : Persistence) → (length items == 0) ≡ true → Serves core (OfChange (Items items) how) Done core
no_items_serve core [] how is = answer_serves core (OfChange (Items []) how) Done (λ reads. reads) (refl, (refl, refl)) refl refl (λ s. refl) (λ s sync. sync)
no_items_serve core (item ∷ items) how is = let none = eqb-true (length (item ∷ items)) 0 is in let bad : ⊥ = omega (arith, none) in absurd bad

pub no_items_owe : (core : Held) (items : List BatchItem) (how : Persistence) → (length items == 0) ≡ true → Owes core (OfChange (Items items) how) Done core
no_items_owe core [] how is = (refl, (refl, refl))
no_items_owe core (item ∷ items) how is = let none = eqb-true (length (item ∷ items)) 0 is in let bad : ⊥ = omega (arith, none) in absurd bad

-- of no items nothing is due
pub none_due : (core : Held) (items : List BatchItem) (how : Persistence) → (length items == 0) ≡ true → held_due core (OfChange (Items items) how) ≡ None
none_due core [] how is = refl
none_due core (item ∷ items) how is = let none = eqb-true (length (item ∷ items)) 0 is in let bad : ⊥ = omega (arith, none) in absurd bad

-- what is due, as it was looked for in a core's memory
pub found_due : (view core : Held) (items : List BatchItem) (how : Persistence) → view ≡ core → (length items == 0) ≡ false → (first : Option Error) → first ≡ first_due (items_refusals (facts_of view.memory 0) items)
    → held_due core (OfChange (Items items) how) ≡ first
found_due view core [] how same some first is = absurd (true≢false some)
found_due view core (item ∷ items) how same some first is = ap (λ (h : Held). first_due (items_refusals (facts_of h.memory 0) (item ∷ items))) (sym same) ∙ sym is

pub all_live : (core : Held) (items : List BatchItem) (how : Persistence) → (length items == 0) ≡ false → held_due core (OfChange (Items items) how) ≡ None → All (λ item. is_living (store_in core) item.0 ≡ true) items
all_live core [] how some none = absurd (true≢false some)
all_live core (item ∷ items) how some none = (may_now core (Items (item ∷ items)) how tt none).living

pub change_serves : (honest : Type 0) (old new : Held) (items : List BatchItem) (how : Persistence) (mode : Option PersistMode) (result : Result Unit Error) → (length items == 0) ≡ false
    → held_due old (OfChange (Items items) how) ≡ None → mode_of old how ≡ mode → Writes honest old (Items items) mode result new → honest → Serves old (OfChange (Items items) how) (reply_of result) new
change_serves honest old new [] how given result some none same w h = absurd (true≢false some)
change_serves honest old new (item ∷ items) how given result some none same w h =
    written_serves honest old new (Items (item ∷ items)) tt how none result (subst (λ m. Writes honest old (Items (item ∷ items)) m result new) (sym same) w) h

pub change_owes : (honest : Type 0) (old new : Held) (items : List BatchItem) (how : Persistence) (mode : Option PersistMode) (result : Result Unit Error) → (length items == 0) ≡ false
    → held_due old (OfChange (Items items) how) ≡ None → mode_of old how ≡ mode → Writes honest old (Items items) mode result new → Owes old (OfChange (Items items) how) (reply_of result) new
change_owes honest old new [] how given result some none same w = absurd (true≢false some)
change_owes honest old new (item ∷ items) how given result some none same w =
    written_owes honest old new (Items (item ∷ items)) tt how none result (subst (λ m. Writes honest old (Items (item ∷ items)) m result new) (sym same) w)

-- ---- a clear

pub clear_due : (view core : Held) (id : ℕ) (how : Persistence) → view ≡ core → (first : Option Error) → first ≡ first_due (clear_refusals (facts_of view.memory 0) id) → held_due core (OfChange (Emptied id) how) ≡ first
clear_due view core id how same first is = ap (λ (h : Held). first_due (clear_refusals (facts_of h.memory 0) id)) (sym same) ∙ sym is

pub it_lives : (core : Held) (id : ℕ) (how : Persistence) → held_due core (OfChange (Emptied id) how) ≡ None → is_living (store_in core) id ≡ true
it_lives core id how none = (may_now core (Emptied id) how tt none).living

pub clear_serves : (honest : Type 0) (old new : Held) (id : ℕ) (how : Persistence) (mode : Option PersistMode) (result : Result Unit Error) → held_due old (OfChange (Emptied id) how) ≡ None → mode_of old how ≡ mode
    → Writes honest old (Emptied id) mode result new → honest → Serves old (OfChange (Emptied id) how) (reply_of result) new
clear_serves honest old new id how given result none same w h = written_serves honest old new (Emptied id) tt how none result (subst (λ m. Writes honest old (Emptied id) m result new) (sym same) w) h

pub clear_owes : (honest : Type 0) (old new : Held) (id : ℕ) (how : Persistence) (mode : Option PersistMode) (result : Result Unit Error) → held_due old (OfChange (Emptied id) how) ≡ None → mode_of old how ≡ mode
    → Writes honest old (Emptied id) mode result new → Owes old (OfChange (Emptied id) how) (reply_of result) new
clear_owes honest old new id how given result none same w = written_owes honest old new (Emptied id) tt how none result (subst (λ m. Writes honest old (Emptied id) m result new) (sym same) w)
