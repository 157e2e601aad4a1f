-- Where a rotation of the journal leads a core and its disk.
use Rattle.std.proofs.Common.{◌≡◌, inl, inr, ℕ, ◌+◌, ◌<◌, ◌≤◌, ◌-◌, ◌^◌, arith, Bool, true, false, if◌then◌else◌, List, [], ◌++◌, Option, None, Result, Ok, Err, refl, sym, ◌∙◌, ap, subst}
use Rattle.std.proofs.lemmas.List.{append-nil}
use Rattle.fjall_base.specs.Store.{Store, Command, fold, kept}
use Rattle.fjall_base.specs.Disk.{LeavesOnly, Meaning, state_in}
use Rattle.fjall_base.specs.Errors.{IsFaultOrMemory}
use Rattle.fjall_base.specs.declared.error.Error.{Error}
use Rattle.fjall_base.specs.declared.error.Error.TheVariants.{Io, OutOfMemory}
use Rattle.fjall_base.proofs.Moments.{at_end, weaken}
use Rattle.fjall_files.specs.Names.{Journal as JournalFile, journal_name}
use Rattle.fjall_files.specs.Tidy.{IsTidy}
use Rattle.fjall_journal.specs.Writer.{Journal, written_out}
use Rattle.fjall_files.specs.Journals.{Journals, next_journal}
use Rattle.fjall_journal.specs.Rotations.{RotationTook}
use Rattle.fjall_files.specs.Rotations.{sealed_of}
use Rattle.fjall_recovery.specs.Folders.{number_of_contents}
use Rattle.fjall_recovery.specs.Places.{Journaling, contents_with}
use Rattle.fjall_changes.specs.Journaling.{IsWriting}
use Rattle.fjall_changes.specs.Rotations.{LeavesRotation, rotated}
use Rattle.fjall_changes.proofs.CrashedJournals.{rotated_base, rotation_stands}
use Rattle.fjall_changes.proofs.MarkedJournals.{marked_more}
use Rattle.fjall_changes.proofs.StoredJournals.{rotated_number}
use Rattle.fjall_history.specs.declared.reply.Reply.TheVariants.{Done, Refused}
use Rattle.fjall_machine.specs.Machine.{first_due, journal_refusals}
use Rattle.fjall_machine.specs.Remembered.{Remembered, facts_of, poisoned}
use Rattle.fjall_machine.specs.Shapes.{OfJournalRotation}
use Rattle.fjall_machine.proofs.Dues.{may_rotate}
use Rattle.fjall_table.specs.Blocks.{Entry}
use Rattle.fjall_trees.specs.MapTables.{store_with}
use Rattle.fjall_recovery.specs.Halves.{is_of_keyspaces}
use Rattle.fjall_changes.proofs.KeepingKeyspaces.{journal_apart}
use Rattle.fjall_changes.proofs.KeptHomes.{rotated_homes, unrotated_homes}
use Rattle.fjall_engine.specs.Holding.{Held}
use Rattle.fjall_engine.specs.CallParts.{Turns, WentOver}
use Rattle.fjall_engine.specs.Crashes.{is_io}
use Rattle.fjall_engine.specs.Durables.{AreKnown, CrashLeavesPending, Durable, Knows, Lies, StandsAmid, StaysFinished}
use Rattle.fjall_engine.specs.Standing.{Owes, OwesRefusal, Poisons, RotatesJournal, Serves, StandsOn, held_due, next_name, reply_of}
use Rattle.fjall_engine.proofs.CrashImages.{has_finished}
use Rattle.fjall_engine.proofs.JournalWrites.{Leads, Settles, held_on, leads_on, present_of, settles_on, stands_ill, stands_well}
use Rattle.fjall_engine.proofs.KeyspacesUnchanged.{SameKeyspaces, tree_along}
use Rattle.fjall_engine.proofs.KnownBatches.{rotated_same}
use Rattle.fjall_engine.proofs.KnownCores.{knows_journals, knows_same}
use Rattle.fjall_engine.proofs.Refusals.{no_sync}
use Rattle.fjall_engine.proofs.ServedCalls.{led_by, memory_owes, memory_serves, serves_by}
use Rattle.fjall_engine.proofs.Syncs.{synced_passes}
use Rattle.fjall_engine.proofs.TablesAtHome.{KeepsReads, all_stay, carry_all, keeps_homes, outside_ill}

-- what is due, as it was looked for in a core's memory
pub journal_due : (view core : Held) → view ≡ core → (first : Option Error) → first ≡ first_due (journal_refusals (facts_of view.memory 0)) → held_due core OfJournalRotation ≡ first
journal_due view core same first is = ap (λ (h : Held). first_due (journal_refusals (facts_of h.memory 0))) (sym same) ∙ sym is

pub is_numbered : (core : Held) → held_due core OfJournalRotation ≡ None → core.memory.journals.active < 2 ^ 64 - 2
is_numbered core none = (may_rotate (facts_of core.memory core.catalog.next_table_id) none).1

-- ---- what is known of the journals

-- what is known of them tells of them once the active one is sealed
known_rotated : (j : Journaling) (writer : Journal) (known : Journals) → AreKnown j known → AreKnown (rotated j) (next_journal (written_out writer).len known)
known_rotated j writer known is = record {
  sealed = marked_more known.sealed j.sealed (sealed_of known.active writer known.watermarks) (record { id = j.active; batches = j.whole ++ j.later }) is.sealed (sym is.active) is.marks;
  active = ap (λ n. n + 1) is.active;
  marks = λ id. refl;
}

-- ---- where base and pending lie

module _ (old new : Held) (base : Store) (pending : List Command) (lies : Lies old (held_on old base pending)) where
  abbrev j : Journaling
  j = lies.journals

  -- what a crash leaves
  pub turn_leaves : (done : Bool) → WentOver old.disk new.disk old.journal new.journal old.memory.journals.active done → LeavesOnly old.disk new.disk (StandsAmid base [] (pending ++ []))
  turn_leaves done over =
      subst (λ (l : List Command). LeavesOnly old.disk new.disk (StandsAmid base [] l)) (sym lies.waits ∙ sym (append-nil pending))
      (weaken old.disk new.disk _ _ (over.leaves j lies.writing lies.told.active) (λ image left. rotation_stands (state_in old.disk) j lies.records lies.tree base image lies.in_tree.rests lies.made left))

  pub turn_finished : (done : Bool) → WentOver old.disk new.disk old.journal new.journal old.memory.journals.active done → StaysFinished (state_in new.disk)
  turn_finished done over image is =
      let left = at_end old.disk new.disk (LeavesRotation (state_in old.disk) j) (over.leaves j lies.writing lies.told.active) image is in
      elim left.root [
        | inl some ↦ has_finished image j some.0 some.3
        | inr all ↦ has_finished image (rotated j) [] all
      ]

  -- what stands in `keyspaces` is the same
  turn_same : WentOver old.disk new.disk old.journal new.journal old.memory.journals.active true → SameKeyspaces (state_in old.disk) (state_in new.disk)
  turn_same over = over.elsewhere j lies.writing lies.told.active (ap (λ p. p.older) lies.in_tree.rests.catalog.home.keyspaces_folder)

  -- where they lie once it was done: nothing is pending
  pub turn_lies : RotatesJournal old new → WentOver old.disk new.disk old.journal new.journal old.memory.journals.active true → Lies new (held_on new (fold base pending) [])
  turn_lies turns over =
      let t = lies.tree in
      record {
        journals = rotated j;
        records = lies.records;
        tree = t;
        writing = over.lies refl j lies.writing lies.told.active;
        in_tree = tree_along (state_in old.disk) (state_in new.disk) lies.records t (turn_same over) lies.in_tree;
        told = subst (AreKnown (rotated j)) (sym (ap (λ (m : Remembered). m.journals) turns.memory_is)) (known_rotated j old.journal old.memory.journals lies.told);
        last = lies.last ∙ sym turns.catalog;
        keyspaces = lies.keyspaces ∙ ap (λ (m : Remembered). m.keyspaces) (sym turns.memory_is);
        made = ap (λ (l : List Command). kept (fold base l)) lies.waits ∙ rotated_base t lies.in_tree.rests.versions base j lies.made lies.writing.root.sound;
        waits = refl;
        next = subst (λ (n : ℕ). number_of_contents (contents_with (rotated j) t []) ≤ n) (sym (ap (λ (m : Remembered). m.next) turns.memory_is)) (subst (λ (n : ℕ). n ≤ old.memory.next) (sym (rotated_number j t)) lies.next);
      }

  pub turn_empty : (turns : RotatesJournal old new) (over : WentOver old.disk new.disk old.journal new.journal old.memory.journals.active true) → (turn_lies turns over).journals.later ≡ []
  unfolding turn_lies
  turn_empty turns over = refl

  -- what is known of homes stays
  pub turn_knows : (entries : ℕ → List (List Entry)) (turns : RotatesJournal old new) (over : WentOver old.disk new.disk old.journal new.journal old.memory.journals.active true)
      → Knows old entries lies.journals lies.tree → Knows new entries (turn_lies turns over).journals (turn_lies turns over).tree
  unfolding turn_lies
  turn_knows entries turns over knows =
      let t = lies.tree in
      knows_journals entries new j (rotated j) t (rotated_same j) (inr refl)
      (knows_same entries old new j t (ap (λ (m : Remembered). m.trees) turns.memory_is) (ap (λ (m : Remembered). m.records) turns.memory_is) knows)

-- ---- where it leads

same_present : (entries : ℕ → List (List Entry)) (old new : Held) → RotatesJournal old new → kept (store_with entries old.memory.keyspaces old.memory.trees) ≡ kept (store_with entries new.memory.keyspaces new.memory.trees)
same_present entries old new turns = ap (λ (m : Remembered). kept (store_with entries m.keyspaces m.trees)) (sym turns.memory_is)

turn_settles : (entries : ℕ → List (List Entry)) (old new : Held) (d : Durable) → old.memory.poisoned ≡ false → RotatesJournal old new → WentOver old.disk new.disk old.journal new.journal old.memory.journals.active true → StandsOn old entries d → Settles entries new d []
turn_settles entries old new d well turns over = settles_on entries old new d [] (λ base pending on.
    let lies = on.lies well in
    let after = turn_lies old new base pending lies turns over in
    let knows = turn_knows old new base pending lies entries turns over (on.knows well) in
    let still = stands_well entries new (fold base pending) [] (ap (λ (m : Remembered). m.poisoned) turns.memory_is ∙ well) after knows
    (present_of entries old (held_on old base pending) false well on ∙ same_present entries old new turns) in
    (held_on new (fold base pending) [], still, synced_passes old new base pending (turn_leaves old new base pending lies true over) still.rests, refl))

pub turn_fails : (entries : ℕ → List (List Entry)) (old new : Held) (d : Durable) → old.memory.poisoned ≡ false → Poisons old.memory old new → WentOver old.disk new.disk old.journal new.journal old.memory.journals.active false → StandsOn old entries d → Leads entries new d []
turn_fails entries old new d well fault over = leads_on entries old new d [] (λ base pending on.
    let lies = on.lies well in
    let leaves = turn_leaves old new base pending lies false over in
    let rests : CrashLeavesPending (held_on new base (pending ++ [])) = at_end old.disk new.disk _ leaves in
    let was = present_of entries old (held_on old base pending) false well on ∙ ap (λ (m : Remembered). kept (store_with entries m.keyspaces m.trees)) (sym fault.memory_is) in
    let still = stands_ill entries new base (pending ++ []) (ap (λ (m : Remembered). m.poisoned) fault.memory_is) rests (turn_finished old new base pending lies false over) (inl (ap (λ (l : List Command). kept (fold base l)) (append-nil pending) ∙ was)) in
    (held_on new base (pending ++ []), still, record { leaves = leaves; safe = []; base = refl; rest = refl; rests = rests }))

-- no call was one that no disk can serve, where nothing stands in the way
pub turn_served : (entries : ℕ → List (List Entry)) (old : Held) (new : Held) (d : Durable) (done : Bool) → old.memory.poisoned ≡ false → old.memory.journals.active < 2 ^ 64 - 2 → WentOver old.disk new.disk old.journal new.journal old.memory.journals.active done
    → StandsOn old entries d → IsTidy (state_in old.disk) → new.disk.misuses ≡ old.disk.misuses
turn_served entries old new d done well numbered over on tidy =
    let lies = on.lies well in
    let next = old.memory.journals.active + 1 in
    over.served lies.journals (subst (λ (m : Meaning). IsWriting (state_in m) old.journal lies.journals) on.same lies.writing) lies.told.active
    ((tidy (journal_name next)).0.kind (JournalFile next) (omega (arith, numbered)) refl)

-- ---- the call

is_well : (core : Held) → held_due core OfJournalRotation ≡ None → core.memory.poisoned ≡ false
is_well core none = (may_rotate (facts_of core.memory core.catalog.next_table_id) none).0

next_apart : (core : Held) → held_due core OfJournalRotation ≡ None → is_of_keyspaces (next_name core) ≡ false
next_apart core none = let small = is_numbered core none in journal_apart (core.memory.journals.active + 1) (omega (arith, small))

pub turned_owes : (honest : Type 0) (old new : Held) (result : Result Unit Error) → held_due old OfJournalRotation ≡ None → Turns honest old result new → Owes old OfJournalRotation (reply_of result) new
turned_owes honest old new (Ok _) none t = (none, (refl, t.0))
turned_owes honest old new (Err (Io kind)) none t =
    subst (λ first. OwesRefusal first old OfJournalRotation (Io kind) new) (sym none) (inl (tt, record { memory_is = t.0; faults = t.1 }))
turned_owes honest old new (Err error) none t =
    subst (λ (h : Held). Owes old OfJournalRotation (Refused error) h) (sym t.0) (subst (λ e. Owes old OfJournalRotation (Refused e) old) (sym t.1) (memory_owes old OfJournalRotation tt none))

-- its disk keeps the tables
turned_keeps : (honest : Type 0) (old new : Held) → held_due old OfJournalRotation ≡ None → Turns honest old (Ok tt) new → honest → KeepsReads old new
turned_keeps honest old new none t h =
    let next : is_of_keyspaces (next_name old) ≡ false = next_apart old none in
    keeps_homes old new (carry_all old.memory.trees new.memory.trees (ap (λ (m : Remembered). m.trees) t.0.memory_is))
    (λ s stands reads. all_stay old.disk new.disk new.memory.trees (rotated_homes old.disk new.disk old.journal (next_name old) (reads.writer (is_well old none)) next (t.1 h)))
    (λ out well. ap (λ (j : Journal). is_of_keyspaces j.name) t.0.journal ∙ next)

unturned_keeps : (honest : Type 0) (old new : Held) (kind : _) → held_due old OfJournalRotation ≡ None → Turns honest old (Err (Io kind)) new → honest → KeepsReads old new
unturned_keeps honest old new kind none t h =
    keeps_homes old new (carry_all old.memory.trees new.memory.trees (ap (λ (m : Remembered). m.trees) t.0))
    (λ s stands reads. all_stay old.disk new.disk new.memory.trees (unrotated_homes old.disk new.disk old.journal (next_name old) (reads.writer (is_well old none)) (next_apart old none) new.journal (t.2 h)))
    (outside_ill old new (ap (λ (m : Remembered). m.poisoned) t.0))

pub turned_serves : (honest : Type 0) (old new : Held) (result : Result Unit Error) → held_due old OfJournalRotation ≡ None → Turns honest old result new → honest → Serves old OfJournalRotation (reply_of result) new
turned_serves honest old new (Ok _) none t h =
    serves_by old new OfJournalRotation Done (turned_owes honest old new (Ok tt) none t) (λ reads. reads) (t.1 h) (t.2 h).kinds (turned_keeps honest old new none t h)
    (λ s d stands on tidy. turn_served s.parts.entries old new d true (is_well old none) (is_numbered old none) (t.2 h) on tidy)
    (λ s d stands on. let led = turn_settles s.parts.entries old new d (is_well old none) t.0 (t.2 h) on in (led.0, led.1, (led.2, λ _. led.3)))
turned_serves honest old new (Err (Io kind)) none t h =
    serves_by old new OfJournalRotation (Refused (Io kind)) (turned_owes honest old new (Err (Io kind)) none t) (λ reads. reads) (t.2 h) (t.3 h).kinds (unturned_keeps honest old new kind none t h)
    (λ s d stands on tidy. record { rose = t.1; served = turn_served s.parts.entries old new d false (is_well old none) (is_numbered old none) (t.3 h) on tidy })
    (λ s d stands on. led_by new s d OfJournalRotation (Refused (Io kind)) [] refl (no_sync s OfJournalRotation (Io kind)) (turn_fails s.parts.entries old new d (is_well old none) (record { memory_is = t.0; faults = t.1 }) (t.3 h) on))
turned_serves honest old new (Err error) none t h =
    subst (λ (x : Held). Serves old OfJournalRotation (Refused error) x) (sym t.0) (subst (λ e. Serves old OfJournalRotation (Refused e) old) (sym t.1) (memory_serves old OfJournalRotation tt none))

-- ---- what came of the work

pub turn_failed : (honest : Type 0) (old mid new : Held) (error : Error) → mid ≡ record old { disk = mid.disk; journal = mid.journal } → new ≡ (if is_io error then record mid { memory = poisoned mid.memory } else mid)
    → IsFaultOrMemory old.disk.faults mid.disk.faults error → (error ≡ OutOfMemory → mid.journal ≡ old.journal) → (error ≡ OutOfMemory → mid.disk ≡ old.disk)
    → (honest → RotationTook old.disk mid.disk old.journal mid.journal (next_name old)) → (honest → WentOver old.disk mid.disk old.journal mid.journal old.memory.journals.active false) → Turns honest old (Err error) new
turn_failed honest old mid new (Io fault) same is cause journal disk part over =
    subst (λ (h : Held). Turns honest old (Err (Io fault)) h) (sym is) (ap (λ (h : Held). poisoned h.memory) same, cause, part, over)
turn_failed honest old mid new OutOfMemory same is cause journal disk part over = (is ∙ same ∙ (λ i. record old { disk = disk refl i; journal = journal refl i }), refl)
turn_failed honest old mid new error same is cause journal disk part over = absurd cause
