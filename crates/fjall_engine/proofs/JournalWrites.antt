-- Where a write leads a core and its disk.
use Rattle.std.proofs.Common.{◌≡◌, ◌≢◌, All, inr, ℕ, ◌<◌, ◌≤◌, ◌^◌, ◌==◌, max, nat_lt, Bool, true, false, List, [], ◌∷◌, ◌++◌, map, Option, Some, None, unwrap_or, refl, sym, ◌∙◌, ap, subst, arith, lt-ltb}
use Rattle.std.proofs.lemmas.Bool.{true≢false}
use Rattle.std.proofs.lemmas.List.{append-nil, append_assoc}
use Rattle.std.proofs.lemmas.List.Elements.{All-weaker}
use Rattle.std.specs.Option.{is_some, option_map}
use Rattle.fjall_files.specs.Journals.{Journals}
use Rattle.fjall_files.specs.Places.{marked}
use Rattle.fjall_files.specs.Telling.{AreMarksOf}
use Rattle.fjall_files.proofs.Raised.{change_marks}
use Rattle.fjall_base.specs.Store.{Store, Command, apply, fold, kept}
use Rattle.fjall_base.specs.Disk.{LeavesOnly, state_in}
use Rattle.fjall_base.proofs.Moments.{at_end}
use Rattle.fjall_journal.specs.Batches.{Shown, Written, shown}
use Rattle.fjall_journal.specs.Changes.{Change, Emptied, Items, command_of, of_change}
use Rattle.fjall_journal.specs.Ops.{BatchItem}
use Rattle.fjall_journal.specs.declared.persist_mode.PersistMode.{PersistMode}
use Rattle.fjall_journal.specs.declared.persist_mode.PersistMode.TheVariants.{Buffer, SyncAll, SyncData}
use Rattle.fjall_meta.specs.declared.living.LivingKeyspace.{LivingKeyspace}
use Rattle.fjall_meta.specs.Keyspaces.{Keyspaces, keyspace_at}
use Rattle.fjall_meta.specs.Replays.{counts, first_fault, journal_commands}
use Rattle.fjall_table.specs.Blocks.{Entry}
use Rattle.fjall_trees.specs.MapTables.{AreOlder, pairs_with, store_with}
use Rattle.fjall_meta.proofs.Found.{found_has}
use Rattle.fjall_meta.proofs.Kept.{kept_along}
use Rattle.fjall_meta.proofs.Naming.{living_names}
use Rattle.fjall_meta.proofs.Slots.{fold-append}
use Rattle.fjall_meta.proofs.Writes.{batch_command, clear_command}
use Rattle.fjall_trees.proofs.Emptied.{clear_with}
use Rattle.fjall_trees.proofs.Pushed.{write_with}
use Rattle.fjall_trees.proofs.Stores.{kept_by}
use Rattle.fjall_manifest.specs.Catalog.{fields}
use Rattle.fjall_meta.proofs.Following.{before_least, beyond_all}
use Rattle.fjall_recovery.specs.Homes.{lasts, stored_in}
use Rattle.fjall_recovery.specs.Folders.{past_records}
use Rattle.fjall_recovery.specs.Journals.{WholeJournal, batches_in}
use Rattle.fjall_recovery.specs.Folders as folders
use Rattle.fjall_recovery.specs.Places.{Journaling, LiesInTree, contents_with, journals_with}
use Rattle.fjall_recovery.proofs.Storing.{are_within, beyond_lasts}
use Rattle.fjall_replay.specs.Beside.{MayComeNext}
use Rattle.fjall_meta.specs.Contents.{store_held}
use Rattle.fjall_changes.specs.Journaling.{CanFollow, IsWriting, after_mode, is_out, next_number, synced, with_batch, handed}
use Rattle.fjall_changes.proofs.Batches.{kept-mode, next-mode}
use Rattle.fjall_machine.specs.Allowed.{FitsBatch, IsOfLiving}
use Rattle.fjall_machine.specs.Machine.{is_living, with_marks}
use Rattle.fjall_machine.specs.Remembered.{IsLawful, Remembered, with_change}
use Rattle.fjall_engine.specs.Holding.{Held}
use Rattle.fjall_engine.specs.Durables.{Durable, Knows, Lies, MakesPresent, Passes, CrashLeavesPending, StandsAmid, StaysFinished, AreKnown}
use Rattle.fjall_engine.specs.CallParts.{WentOut}
use Rattle.fjall_engine.specs.Crashes.{IsSyncOf}
use Rattle.fjall_engine.specs.Standing.{Poisons, StandsOn, store_in, store_with_tables}
use Rattle.fjall_engine.proofs.KeyspacesUnchanged.{tree_along}
use Rattle.fjall_changes.proofs.CrashedJournals.{commanded, commands_more, kept_with}
use Rattle.fjall_engine.proofs.CrashImages.{leaves_finished, lies_rest, root_amid, root_finished}
use Rattle.fjall_engine.proofs.KnownBatches.{all_shown, written_later, written_more}
use Rattle.fjall_engine.proofs.KnownCores.{knows_changed}

-- the core stands on some disk now, to which these commands lead
abbrev pub Leads : (ℕ → List (List Entry)) → Held → Durable → List Command → Type 0
Leads entries new d tried = (e : Durable) × StandsOn new entries e × Passes d tried e

-- a core's disk with this base and this pending
abbrev pub held_on : Held → Store → List Command → Durable
held_on core base pending = record { meaning = core.disk; base = base; pending = pending }

-- it is enough to look at the core's own disk
pub leads_on : (entries : ℕ → List (List Entry)) (old new : Held) (d : Durable) (tried : List Command) → ((base : Store) (pending : List Command) → StandsOn old entries (held_on old base pending) → Leads entries new (held_on old base pending) tried) → StandsOn old entries d → Leads entries new d tried
leads_on entries old new d tried leads stands =
    let here : d ≡ held_on old d.base d.pending = λ i. record { meaning = stands.same i; base = d.base; pending = d.pending } in
    subst (λ (x : Durable). Leads entries new x tried) (sym here) (leads d.base d.pending (subst (λ (x : Durable). StandsOn old entries x) here stands))

-- the same, and nothing is pending any more
abbrev pub Settles : (ℕ → List (List Entry)) → Held → Durable → List Command → Type 0
Settles entries new d tried = (e : Durable) × StandsOn new entries e × Passes d tried e × (e.pending ≡ [])

pub settles_on : (entries : ℕ → List (List Entry)) (old new : Held) (d : Durable) (tried : List Command) → ((base : Store) (pending : List Command) → StandsOn old entries (held_on old base pending) → Settles entries new (held_on old base pending) tried) → StandsOn old entries d → Settles entries new d tried
settles_on entries old new d tried settles stands =
    let here : d ≡ held_on old d.base d.pending = λ i. record { meaning = stands.same i; base = d.base; pending = d.pending } in
    subst (λ (x : Durable). Settles entries new x tried) (sym here) (settles d.base d.pending (subst (λ (x : Durable). StandsOn old entries x) here stands))

pub present_of : (entries : ℕ → List (List Entry)) (core : Held) (d : Durable) (flag : Bool) → core.memory.poisoned ≡ flag → StandsOn core entries d → MakesPresent flag d (store_with_tables entries core)
present_of entries core d flag is stands = subst (λ b. MakesPresent b d (store_with_tables entries core)) is stands.present

-- a core that no fault has poisoned stands where base and pending lie, and where it knows its keyspaces' homes
pub stands_well : (entries : ℕ → List (List Entry)) (core : Held) (base : Store) (pending : List Command) → core.memory.poisoned ≡ false → (lies : Lies core (held_on core base pending))
    → Knows core entries lies.journals lies.tree
    → kept (fold base pending) ≡ kept (store_with_tables entries core) → StandsOn core entries (held_on core base pending)
stands_well entries core base pending well lies knows present = record {
  same = refl;
  rests = lies_rest core (held_on core base pending) lies;
  finished = root_finished (state_in core.disk) lies.journals lies.writing.root;
  lies = λ _. lies;
  knows = λ _. knows;
  present = subst (λ b. MakesPresent b (held_on core base pending) (store_with_tables entries core)) (sym well) present;
}

-- and one that a fault has poisoned where it rests
pub stands_ill : (entries : ℕ → List (List Entry)) (core : Held) (base : Store) (pending : List Command) → core.memory.poisoned ≡ true → CrashLeavesPending (held_on core base pending) → StaysFinished (state_in core.disk) → MakesPresent true (held_on core base pending) (store_with_tables entries core) → StandsOn core entries (held_on core base pending)
stands_ill entries core base pending ill rests finished present = record {
  same = refl;
  rests = rests;
  finished = finished;
  lies = λ well. absurd (true≢false (sym ill ∙ well));
  knows = λ well. absurd (true≢false (sym ill ∙ well));
  present = subst (λ b. MakesPresent b (held_on core base pending) (store_with_tables entries core)) (sym ill) present;
}

-- ---- a change that nothing refuses

pub record IsAdmitted (core : Held) (change : Change) : Type 0 where
  pub well : core.memory.poisoned ≡ false
  pub some : change ≢ Items []
  pub living : IsOfLiving (store_in core) change
  pub room : core.memory.next < 2 ^ 63
  pub fits : FitsBatch change
  pub lawful : IsLawful core.memory

is_there : {X : Type 0} (o : Option X) → is_some o ≡ true → (x : X) × (o ≡ Some x)
is_there (Some x) is = (x, refl)
is_there None is = absurd (true≢false (sym is))

-- an item of a keyspace that lives counts
it_counts : (core : Held) (id : ℕ) → IsLawful core.memory → is_living (store_in core) id ≡ true → counts core.memory.keyspaces core.memory.next id ≡ true
it_counts core id lawful is =
    let living = core.memory.keyspaces.living in
    let found = is_there (keyspace_at id living) (sym (living_names core.memory.keyspaces [] id) ∙ is) in
    let lesser : found.0.number < core.memory.next = found_has (λ (k : LivingKeyspace). k.id == id) (λ (k : LivingKeyspace). k.number < core.memory.next) living found.0 found.1 lawful.made in
    ap (λ o. unwrap_or (option_map (λ (k : LivingKeyspace). nat_lt k.number core.memory.next) o) false) found.1 ∙ lt-ltb found.0.number core.memory.next lesser

all_count : (core : Held) (items : List BatchItem) → IsLawful core.memory → All (λ item. is_living (store_in core) item.0 ≡ true) items → All (λ item. counts core.memory.keyspaces core.memory.next item.0 ≡ true) items
all_count core items lawful living =
    All-weaker (λ (i : BatchItem). is_living (store_in core) i.0 ≡ true) (λ (i : BatchItem). counts core.memory.keyspaces core.memory.next i.0 ≡ true) (λ i is. it_counts core i.0 lawful is) items living

-- the batch of a change under a core's next number
abbrev pub batch_of : Held → Change → Written
batch_of core change = of_change change core.memory.next

-- what it commands
batch_commands : (core : Held) (change : Change) → IsAdmitted core change → journal_commands core.memory.keyspaces (map shown (batch_of core change ∷ [])) ≡ command_of change ∷ []
batch_commands core (Items items) admitted =
    append-nil _ ∙ batch_command core.memory.keyspaces items core.memory.next (λ none. admitted.some (ap Items none)) (all_count core items admitted.lawful admitted.living)
batch_commands core (Emptied id) admitted = append-nil _ ∙ clear_command core.memory.keyspaces id core.memory.next (it_counts core id admitted.lawful admitted.living)

-- which is all beyond what the homes' files hold
batch_beyond : (core : Held) (base : Store) (pending : List Command) (change : Change) → IsAdmitted core change → (lies : Lies core (held_on core base pending)) → commanded lies.tree (batch_of core change ∷ []) ≡ command_of change ∷ []
batch_beyond core base pending change admitted lies =
    let t = lies.tree in
    let batch = batch_of core change in
    let past : past_records (lasts t.keyspaces.living t.homes) ≤ core.memory.next = omega (arith, lies.next) in
    let beyond = beyond_lasts t.homes t.versions t.keyspaces.living core.memory.next past in
    ap (λ (l : List Command). l ++ []) (beyond_all t.keyspaces (stored_in t.homes t.versions) (shown batch) beyond)
    ∙ ap (λ (s : Keyspaces). journal_commands s (map shown (batch ∷ []))) lies.keyspaces ∙ batch_commands core change admitted

-- it follows the batches that stand
pub it_follows : (core : Held) (base : Store) (pending : List Command) (room : core.memory.next < 2 ^ 63) (lies : Lies core (held_on core base pending)) → CanFollow lies.journals core.memory.next
it_follows core base pending room lies = record { above = omega (arith, lies.next); room = room }

-- an item's keyspace that lives is found
is_found : (core : Held) (id : ℕ) → is_living (store_in core) id ≡ true → is_some (keyspace_at id core.memory.keyspaces.living) ≡ true
is_found core id is = sym (living_names core.memory.keyspaces [] id) ∙ is

-- a change more in memory is one command more
change_store : (entries : ℕ → List (List Entry)) (old : Held) (change : Change) → IsAdmitted old change → AreOlder old.memory.trees entries → kept (apply (store_with_tables entries old) (command_of change)) ≡ store_with entries old.memory.keyspaces (with_change change old.memory).trees
change_store entries old (Items items) admitted older =
    let is = admitted.lawful in
    write_with entries old.memory.next items old.memory.trees (record { forest = is.forest; before = is.below; small = admitted.room; fits = admitted.fits }) older old.memory.keyspaces is.planted
    (All-weaker (λ (i : BatchItem). is_living (store_in old) i.0 ≡ true) (λ (i : BatchItem). is_some (keyspace_at i.0 old.memory.keyspaces.living) ≡ true) (λ i there. is_found old i.0 there) items admitted.living)
change_store entries old (Emptied id) admitted older =
    let is = admitted.lawful in
    clear_with entries old.memory.next id old.memory.trees is.forest older is.below admitted.room old.memory.keyspaces

pub present_more : (entries : ℕ → List (List Entry)) (old new : Held) (base : Store) (pending : List Command) (change : Change) → IsAdmitted old change → AreOlder old.memory.trees entries → new.memory ≡ with_change change old.memory → kept (fold base pending) ≡ kept (store_with_tables entries old)
    → kept (fold base (pending ++ command_of change ∷ [])) ≡ kept (store_with_tables entries new)
present_more entries old new base pending change admitted older is was =
    ap kept (fold-append base pending (command_of change ∷ []))
    ∙ kept_along (fold base pending) (store_with_tables entries old) (command_of change ∷ []) was
    ∙ change_store entries old change admitted older ∙ sym (kept_by (λ q. pairs_with entries q (2 ^ 63) (with_change change old.memory).trees) old.memory.keyspaces)
    ∙ ap (λ (m : Remembered). kept (store_with entries m.keyspaces m.trees)) (sym is)

-- what the change did to the disk and to the journal's writer
abbrev pub Wrote : Held → Held → Change → Option PersistMode → Bool → Type 0
Wrote old new change mode done = WentOut old.disk new.disk old.journal new.journal (batch_of old change) mode done

-- what a crash during it or after it leaves
change_leaves : (old new : Held) (base : Store) (pending : List Command) (change : Change) (mode : Option PersistMode) (done : Bool) → IsAdmitted old change → (lies : Lies old (held_on old base pending)) → Wrote old new change mode done
    → LeavesOnly old.disk new.disk (StandsAmid base [] (pending ++ command_of change ∷ []))
change_leaves old new base pending change mode done admitted lies out =
    subst (λ (l : List Command). LeavesOnly old.disk new.disk (StandsAmid base [] (pending ++ l))) (batch_beyond old base pending change admitted lies)
    (root_amid base pending old.disk new.disk lies.journals lies.records lies.tree (batch_of old change ∷ []) lies.made lies.waits lies.in_tree (out.leaves lies.journals lies.writing (it_follows old base pending admitted.room lies)))

-- what is known of journals tells of them once all is synced
pub known_synced : (j : Journaling) (known : Journals) → AreKnown j known → AreKnown (synced j) known
known_synced j known is = record {
  sealed = is.sealed;
  active = is.active;
  marks = subst (λ (l : List Written). AreMarksOf (map shown l) known.watermarks) (sym (append-nil (j.whole ++ j.later))) is.marks;
}

-- and once all was handed over
pub known_handed : (j : Journaling) (known : Journals) → AreKnown j known → AreKnown (handed j) known
known_handed j known is = record { sealed = is.sealed; active = is.active; marks = is.marks }

-- what is known of journals tells of them in whatever mode
known-mode : (mode : Option PersistMode) (j : Journaling) (known : Journals) → AreKnown j known → AreKnown (after_mode mode j) known
known-mode None j known is = is
known-mode (Some Buffer) j known is = known_handed j known is
known-mode (Some SyncData) j known is = known_synced j known is
known-mode (Some SyncAll) j known is = known_synced j known is

-- with a change more the watermarks are raised
known_more : (out : Bool) (j : Journaling) (change : Change) (number : ℕ) (known : Journals) → AreKnown j known → AreKnown (with_batch out j (of_change change number)) (with_marks number change known)
known_more out j change number known is = record {
  sealed = is.sealed;
  active = is.active;
  marks = subst (λ (l : List Written). AreMarksOf (map shown l) (marked number change known.watermarks)) (append_assoc j.whole j.later (of_change change number ∷ []))
      (change_marks (j.whole ++ j.later) change number known.watermarks is.marks);
}

-- what is held goes on from there
pub record GoesOn (old new : Held) (change : Change) : Type 0 where
  pub memory_is : new.memory ≡ with_change change old.memory
  pub catalog : new.catalog ≡ old.catalog

module _ (old new : Held) (base : Store) (pending : List Command) (change : Change) (mode : Option PersistMode) (admitted : IsAdmitted old change) (goes : GoesOn old new change) (lies : Lies old (held_on old base pending)) (out : Wrote old new change mode true) (goes_out : Bool)
    (writes : IsWriting (state_in new.disk) new.journal (after_mode mode (with_batch goes_out lies.journals (batch_of old change)))) where
  abbrev all : List Command
  all = pending ++ command_of change ∷ []

  abbrev after : Journaling
  after = after_mode mode (with_batch goes_out lies.journals (batch_of old change))

  waits_too : all ≡ commanded lies.tree (lies.journals.later ++ batch_of old change ∷ [])
  waits_too =
      ap (λ (l : List Command). l ++ command_of change ∷ []) lies.waits
      ∙ ap (λ (l : List Command). commanded lies.tree lies.journals.later ++ l) (sym (batch_beyond old base pending change admitted lies)) ∙ sym (commands_more lies.tree lies.journals.later (batch_of old change ∷ []))

  next_too : max (next_number after) (past_records (fields lies.tree.last ∷ lasts lies.tree.keyspaces.living lies.tree.homes)) ≤ new.memory.next
  next_too =
      let past = past_records (fields lies.tree.last ∷ lasts lies.tree.keyspaces.living lies.tree.homes) in
      let more = ap (λ (m : Remembered). m.next) goes.memory_is in
      let least = next-mode mode goes_out lies.journals (batch_of old change) in
      let was : max (next_number lies.journals) past ≤ old.memory.next = lies.next in
      omega (arith, more, least, was)

  in_tree_too : LiesInTree (state_in new.disk) lies.records lies.tree
  in_tree_too = tree_along (state_in old.disk) (state_in new.disk) lies.records lies.tree (out.elsewhere lies.journals lies.writing) lies.in_tree

  told_too : AreKnown after new.memory.journals
  told_too =
      subst (AreKnown after) (sym (ap (λ (m : Remembered). m.journals) goes.memory_is))
      (known-mode mode (with_batch goes_out lies.journals (batch_of old change)) (with_marks old.memory.next change old.memory.journals)
      (known_more goes_out lies.journals change old.memory.next old.memory.journals lies.told))

  -- where base and pending lie after it, while it may wait and isn't synced
  pub pending_lies : kept base ≡ folders.store_of_contents (contents_with after lies.tree []) → all ≡ commanded lies.tree after.later → Lies new (held_on new base all)
  pending_lies made waits = record {
    journals = after;
    records = lies.records;
    tree = lies.tree;
    writing = writes;
    in_tree = in_tree_too;
    told = told_too;
    last = lies.last ∙ sym goes.catalog;
    keyspaces = lies.keyspaces ∙ ap (λ (m : Remembered). m.keyspaces) (sym goes.memory_is);
    made = made;
    waits = waits;
    next = next_too;
  }

  -- and once it is synced: all is in the base
  pub settled_lies : kept (fold base all) ≡ folders.store_of_contents (contents_with after lies.tree []) → [] ≡ commanded lies.tree after.later → Lies new (held_on new (fold base all) [])
  settled_lies made waits = record {
    journals = after;
    records = lies.records;
    tree = lies.tree;
    writing = writes;
    in_tree = in_tree_too;
    told = told_too;
    last = lies.last ∙ sym goes.catalog;
    keyspaces = lies.keyspaces ∙ ap (λ (m : Remembered). m.keyspaces) (sym goes.memory_is);
    made = made;
    waits = waits;
    next = next_too;
  }

  -- the journals with a batch more are sound, since what was written is
  sound_more : first_fault 0 (map shown (batches_in (journals_with lies.journals (lies.journals.later ++ batch_of old change ∷ [])))) ≡ None
  sound_more = ap (λ (l : List WholeJournal). first_fault 0 (map shown (batches_in l))) (sym (kept-mode mode (with_batch goes_out lies.journals (batch_of old change)))) ∙ writes.root.sound

  -- the synced journals hold what they held
  synced_too : journals_with (synced (with_batch goes_out lies.journals (batch_of old change))) [] ≡ journals_with lies.journals (lies.journals.later ++ batch_of old change ∷ [])
  synced_too = ap (λ (l : List Written). lies.journals.sealed ++ record { id = lies.journals.active; batches = l } ∷ []) (append-nil (lies.journals.whole ++ (lies.journals.later ++ batch_of old change ∷ [])))

  pub settled_made : kept (fold base all) ≡ folders.store_of_contents (contents_with (synced (with_batch goes_out lies.journals (batch_of old change))) lies.tree [])
  settled_made =
      let t = lies.tree in
      ap (λ (l : List Command). kept (fold base l)) waits_too
      ∙ kept_with t lies.in_tree.rests.versions base lies.journals (lies.journals.later ++ batch_of old change ∷ []) lies.made sound_more
      ∙ ap (λ (l : List WholeJournal). store_held t.keyspaces (stored_in t.homes t.versions) (map shown (batches_in l))) (sym synced_too)

  -- ---- what is known of homes

  -- it comes next behind all batches
  comes_next : MayComeNext lies.tree.keyspaces (stored_in lies.tree.homes lies.tree.versions) (all_shown lies.journals) old.memory.next old.memory.trees
  comes_next =
      let t = lies.tree in
      let is = admitted.lawful in
      let past : past_records (lasts t.keyspaces.living t.homes) ≤ old.memory.next = omega (arith, lies.next) in
      let above = (it_follows old base pending admitted.room lies).above in
      let least = next_number lies.journals in
      record {
        forest = is.forest;
        before = is.below;
        small = admitted.room;
        within = are_within t.homes t.versions lies.in_tree.rests.versions t.keyspaces;
        older = All-weaker (λ (b : Shown). b.number < least) (λ (b : Shown). b.number < old.memory.next) (λ b low. omega (arith, low, above)) (all_shown lies.journals) (before_least 0 (all_shown lies.journals) lies.writing.root.sound).1;
        made = subst (λ (s : Keyspaces). All (λ k. k.number < old.memory.next) s.living) (sym lies.keyspaces) is.made;
        beyond = beyond_lasts t.homes t.versions t.keyspaces.living old.memory.next past;
      }

  knows_too : (entries : ℕ → List (List Entry)) → Knows old entries lies.journals lies.tree → Knows new entries after lies.tree
  knows_too entries knows =
      knows_changed entries old new change lies.journals after lies.tree goes.memory_is (written_more mode goes_out lies.journals (batch_of old change))
      (written_later mode goes_out lies.journals (batch_of old change)) comes_next admitted.fits knows

  pub pending_knows : (made : kept base ≡ folders.store_of_contents (contents_with after lies.tree [])) (waits : all ≡ commanded lies.tree after.later) (entries : ℕ → List (List Entry)) → Knows old entries lies.journals lies.tree
      → Knows new entries (pending_lies made waits).journals (pending_lies made waits).tree
  unfolding pending_lies
  pending_knows made waits entries knows = knows_too entries knows

  pub settled_knows : (made : kept (fold base all) ≡ folders.store_of_contents (contents_with after lies.tree [])) (waits : [] ≡ commanded lies.tree after.later) (entries : ℕ → List (List Entry))
      → Knows old entries lies.journals lies.tree
      → Knows new entries (settled_lies made waits).journals (settled_lies made waits).tree
  unfolding settled_lies
  settled_knows made waits entries knows = knows_too entries knows

-- a change that waits, or is in the file and isn't synced
unsynced_leads : (entries : ℕ → List (List Entry)) (old new : Held) (change : Change) (mode : Option PersistMode) (base : Store) (pending : List Command) (admitted : IsAdmitted old change) → AreOlder old.memory.trees entries → GoesOn old new change → (stands : StandsOn old entries (held_on old base pending))
    → Wrote old new change mode true → (after : Lies new (held_on new base (pending ++ command_of change ∷ []))) → Knows new entries after.journals after.tree
    → Leads entries new (held_on old base pending) (command_of change ∷ [])
unsynced_leads entries old new change mode base pending admitted older goes stands out after knows =
    let command = command_of change in
    let well : new.memory.poisoned ≡ false = ap (λ (m : Remembered). m.poisoned) goes.memory_is ∙ admitted.well in
    let on = stands_well entries new base (pending ++ command ∷ []) well after knows (present_more entries old new base pending change admitted older goes.memory_is
    (present_of entries old (held_on old base pending) false admitted.well stands)) in (
      held_on new base (pending ++ command ∷ []),
      on,
      record { leaves = change_leaves old new base pending change mode true admitted (stands.lies admitted.well) out; safe = []; base = refl; rest = refl; rests = on.rests },
    )

-- a change that was synced: nothing is pending
synced_settles : (entries : ℕ → List (List Entry)) (old new : Held) (change : Change) (mode : PersistMode) (base : Store) (pending : List Command) (admitted : IsAdmitted old change) → AreOlder old.memory.trees entries → GoesOn old new change → (stands : StandsOn old entries (held_on old base pending))
    → Wrote old new change (Some mode) true → (after : Lies new (held_on new (fold base (pending ++ command_of change ∷ [])) []))
    → Knows new entries after.journals after.tree → Settles entries new (held_on old base pending) (command_of change ∷ [])
synced_settles entries old new change mode base pending admitted older goes stands out after knows =
    let command = command_of change in
    let all = pending ++ command ∷ [] in
    let well : new.memory.poisoned ≡ false = ap (λ (m : Remembered). m.poisoned) goes.memory_is ∙ admitted.well in
    let on = stands_well entries new (fold base all) [] well after knows (present_more entries old new base pending change admitted older goes.memory_is (present_of entries old (held_on old base pending) false admitted.well stands)) in (
      held_on new (fold base all) [],
      on,
      record { leaves = change_leaves old new base pending change (Some mode) true admitted (stands.lies admitted.well) out; safe = all; base = refl; rest = append-nil all; rests = on.rests },
      refl,
    )

-- what a change that was done leads to: where its mode syncs, nothing is pending
abbrev pub LeadsBy : (ℕ → List (List Entry)) → Held → Durable → Change → Option PersistMode → Type 0
LeadsBy entries new d change mode = (e : Durable) × StandsOn new entries e × Passes d (command_of change ∷ []) e × (IsSyncOf mode → e.pending ≡ [])

-- that the batch was written as the mode has it
writes_so : (old new : Held) (base : Store) (pending : List Command) (change : Change) (mode : Option PersistMode) → IsAdmitted old change → (lies : Lies old (held_on old base pending)) → Wrote old new change mode true
    → IsWriting (state_in new.disk) new.journal (after_mode mode (with_batch (is_out mode old.journal (batch_of old change)) lies.journals (batch_of old change)))
writes_so old new base pending change mode admitted lies out = out.lies refl lies.journals lies.writing (it_follows old base pending admitted.room lies)

pub write_leads : (entries : ℕ → List (List Entry)) (old new : Held) (change : Change) (mode : Option PersistMode) (d : Durable) → IsAdmitted old change → AreOlder old.memory.trees entries → GoesOn old new change → Wrote old new change mode true → StandsOn old entries d → LeadsBy entries new d change mode
write_leads entries old new change None d admitted older goes out stands =
    let led = leads_on entries old new d (command_of change ∷ []) (λ base pending on.
    let lies = on.lies admitted.well in
    let writes = writes_so old new base pending change None admitted lies out in
    let goes_out = is_out None old.journal (batch_of old change) in
    let waits = waits_too old new base pending change None admitted goes lies out goes_out writes in
    unsynced_leads entries old new change None base pending admitted older goes on out
    (pending_lies old new base pending change None admitted goes lies out goes_out writes lies.made waits)
    (pending_knows old new base pending change None admitted goes lies out goes_out writes lies.made waits entries (on.knows admitted.well))) stands in
    (led.0, led.1, led.2, λ sync. absurd sync)
write_leads entries old new change (Some Buffer) d admitted older goes out stands =
    let led = leads_on entries old new d (command_of change ∷ []) (λ base pending on.
    let lies = on.lies admitted.well in
    let writes = writes_so old new base pending change (Some Buffer) admitted lies out in
    let goes_out = is_out (Some Buffer) old.journal (batch_of old change) in
    let waits = waits_too old new base pending change (Some Buffer) admitted goes lies out goes_out writes in
    unsynced_leads entries old new change (Some Buffer) base pending admitted older goes on out
    (pending_lies old new base pending change (Some Buffer) admitted goes lies out goes_out writes lies.made waits)
    (pending_knows old new base pending change (Some Buffer) admitted goes lies out goes_out writes lies.made waits entries (on.knows admitted.well))) stands in
    (led.0, led.1, led.2, λ sync. absurd sync)
write_leads entries old new change (Some SyncData) d admitted older goes out stands =
    let led = settles_on entries old new d (command_of change ∷ []) (λ base pending on.
    let lies = on.lies admitted.well in
    let writes = writes_so old new base pending change (Some SyncData) admitted lies out in
    let goes_out = is_out (Some SyncData) old.journal (batch_of old change) in
    let made = settled_made old new base pending change (Some SyncData) admitted goes lies out goes_out writes in
    synced_settles entries old new change SyncData base pending admitted older goes on out
    (settled_lies old new base pending change (Some SyncData) admitted goes lies out goes_out writes made refl)
    (settled_knows old new base pending change (Some SyncData) admitted goes lies out goes_out writes made refl entries (on.knows admitted.well))) stands in
    (led.0, led.1, led.2, λ _. led.3)
write_leads entries old new change (Some SyncAll) d admitted older goes out stands =
    let led = settles_on entries old new d (command_of change ∷ []) (λ base pending on.
    let lies = on.lies admitted.well in
    let writes = writes_so old new base pending change (Some SyncAll) admitted lies out in
    let goes_out = is_out (Some SyncAll) old.journal (batch_of old change) in
    let made = settled_made old new base pending change (Some SyncAll) admitted goes lies out goes_out writes in
    synced_settles entries old new change SyncAll base pending admitted older goes on out
    (settled_lies old new base pending change (Some SyncAll) admitted goes lies out goes_out writes made refl)
    (settled_knows old new base pending change (Some SyncAll) admitted goes lies out goes_out writes made refl entries (on.knows admitted.well))) stands in
    (led.0, led.1, led.2, λ _. led.3)

-- a change that a fault refused: a crash may leave it or not
pub torn_leads : (entries : ℕ → List (List Entry)) (old new : Held) (change : Change) (mode : Option PersistMode) (d : Durable) → IsAdmitted old change → Poisons old.memory old new → Wrote old new change mode false → StandsOn old entries d → Leads entries new d (command_of change ∷ [])
torn_leads entries old new change mode d admitted fault out = leads_on entries old new d (command_of change ∷ []) (λ base pending stands.
    let command = command_of change in
    let lies = stands.lies admitted.well in
    let leaves = change_leaves old new base pending change mode false admitted lies out in
    let finished = leaves_finished old.disk new.disk (state_in old.disk) lies.journals _ (out.leaves lies.journals lies.writing (it_follows old base pending admitted.room lies)) in
    let rests : CrashLeavesPending (held_on new base (pending ++ command ∷ [])) = at_end old.disk new.disk _ leaves in
    let was = present_of entries old (held_on old base pending) false admitted.well stands ∙ ap (λ (m : Remembered). kept (store_with entries m.keyspaces m.trees)) (sym fault.memory_is) in
    let on = stands_ill entries new base (pending ++ command ∷ []) (ap (λ (m : Remembered). m.poisoned) fault.memory_is) rests finished (inr (pending, command, refl, was)) in
    (held_on new base (pending ++ command ∷ []), on, record { leaves = leaves; safe = []; base = refl; rest = refl; rests = rests }))
