-- Where a sync of the journal leads a core and its disk.
use Rattle.std.proofs.Common.{◌≡◌, ◌≤◌, inl, ℕ, Bool, true, false, List, [], ◌∷◌, ◌++◌, max, map, refl, sym, ◌∙◌, ap, subst}
use Rattle.std.proofs.lemmas.Bool.{true≢false}
use Rattle.std.proofs.lemmas.List.{append-nil}
use Rattle.fjall_base.specs.Store.{Store, Command, fold, kept}
use Rattle.fjall_base.specs.Disk.{LeavesOnly, state_in}
use Rattle.fjall_base.proofs.Moments.{at_end}
use Rattle.fjall_journal.specs.Batches.{Written, shown}
use Rattle.fjall_journal.specs.declared.persist_mode.PersistMode.{PersistMode}
use Rattle.fjall_journal.specs.declared.persist_mode.PersistMode.TheVariants.{Buffer, SyncAll, SyncData}
use Rattle.fjall_manifest.specs.Catalog.{fields}
use Rattle.fjall_meta.specs.Replays.{least_after}
use Rattle.fjall_meta.specs.Contents.{store_held}
use Rattle.fjall_recovery.specs.Homes.{lasts, stored_in}
use Rattle.fjall_recovery.specs.Folders.{number_of_contents, past_records}
use Rattle.fjall_recovery.specs.Journals.{WholeJournal, batches_in}
use Rattle.fjall_recovery.specs.Places.{Journaling, contents_with, journals_with}
use Rattle.fjall_changes.specs.Journaling.{LeavesRoot, after_persist, synced}
use Rattle.fjall_machine.specs.Shapes.{OfPersist}
use Rattle.fjall_history.specs.declared.reply.Reply.TheVariants.{Done}
use Rattle.fjall_machine.specs.Machine as Machine
use Rattle.fjall_machine.specs.Remembered.{Remembered}
use Rattle.fjall_table.specs.Blocks.{Entry}
use Rattle.fjall_trees.specs.MapTables.{store_with}
use Rattle.fjall_engine.specs.Holding.{Held}
use Rattle.fjall_engine.specs.Durables.{AreKnown, CrashLeavesPending, Durable, Knows, Lies, Passes, StandsAmid}
use Rattle.fjall_changes.specs.SyncedChanges as on_disk
use Rattle.fjall_engine.specs.Crashes.{IsSync}
use Rattle.fjall_engine.specs.Standing.{HandsOver, Poisons, StandsOn}
use Rattle.fjall_engine.specs.Standing as standing
use Rattle.fjall_engine.proofs.KeyspacesUnchanged.{tree_along}
use Rattle.fjall_changes.proofs.CrashedJournals.{kept_with}
use Rattle.fjall_engine.proofs.CrashImages.{leaves_finished, root_amid}
use Rattle.fjall_engine.proofs.KnownBatches.{persisted_later, persisted_same}
use Rattle.fjall_engine.proofs.KnownCores.{knows_journals, knows_same}
use Rattle.fjall_engine.proofs.JournalWrites.{Leads, Settles, held_on, known_handed, known_synced, leads_on, settles_on, present_of, stands_ill, stands_well}

-- what a persist did to the disk and to the journal's writer of a core
abbrev pub Persisted : Held → Held → PersistMode → Bool → Type 0
Persisted old new mode done = on_disk.Persisted old.disk new.disk old.journal new.journal mode done

-- what a crash during it or after it leaves
pub hand_leaves : (old new : Held) (mode : PersistMode) (done : Bool) (base : Store) (pending : List Command) → (lies : Lies old (held_on old base pending)) → Persisted old new mode done → LeavesOnly old.disk new.disk (StandsAmid base [] (pending ++ []))
hand_leaves old new mode done base pending lies out =
    root_amid base pending old.disk new.disk lies.journals lies.records lies.tree [] lies.made lies.waits lies.in_tree
    (subst (λ (l : List Written). LeavesOnly old.disk new.disk (LeavesRoot (state_in old.disk) lies.journals l)) (sym (append-nil lies.journals.later)) (out.leaves lies.journals lies.writing))

-- the same keyspaces with their trees and last records, the same catalog and number in memory
pub record StaysSame (old new : Held) : Type 0 where
  pub keyspaces : new.memory.keyspaces ≡ old.memory.keyspaces
  pub trees : new.memory.trees ≡ old.memory.trees
  pub records : new.memory.records ≡ old.memory.records
  pub next : new.memory.next ≡ old.memory.next
  pub catalog : new.catalog ≡ old.catalog
  pub journals : new.memory.journals ≡ old.memory.journals

-- where base and pending lie once the bytes are in the file
buffer_lies : (old new : Held) (base : Store) (pending : List Command) → StaysSame old new → (lies : Lies old (held_on old base pending)) → Persisted old new Buffer true → Lies new (held_on new base pending)
buffer_lies old new base pending same lies out = record {
  journals = after_persist Buffer lies.journals;
  records = lies.records;
  tree = lies.tree;
  writing = out.lies refl lies.journals lies.writing;
  in_tree = tree_along (state_in old.disk) (state_in new.disk) lies.records lies.tree (out.elsewhere lies.journals lies.writing) lies.in_tree;
  told = known_handed lies.journals new.memory.journals (subst (AreKnown lies.journals) (sym same.journals) lies.told);
  last = lies.last ∙ sym same.catalog;
  keyspaces = lies.keyspaces ∙ sym same.keyspaces;
  made = lies.made;
  waits = lies.waits;
  next = subst (λ (n : ℕ). number_of_contents (contents_with (after_persist Buffer lies.journals) lies.tree (after_persist Buffer lies.journals).later) ≤ n) (sym same.next) lies.next;
}

-- what is known of homes stays, of which nothing is in the journals
module _ (entries : ℕ → List (List Entry)) (old new : Held) (mode : PersistMode) (base : Store) (pending : List Command) (same : StaysSame old new) (lies : Lies old (held_on old base pending)) (out : Persisted old new mode true) where
  persisted_knows : Knows old entries lies.journals lies.tree → Knows new entries (after_persist mode lies.journals) lies.tree
  persisted_knows knows =
      let j = lies.journals in
      let t = lies.tree in
      knows_journals entries new j (after_persist mode j) t (persisted_same mode j) (persisted_later mode j) (knows_same entries old new j t same.trees same.records knows)

buffer_knows : (entries : ℕ → List (List Entry)) (old new : Held) (base : Store) (pending : List Command) (same : StaysSame old new) (lies : Lies old (held_on old base pending))
    (out : Persisted old new Buffer true) → Knows old entries lies.journals lies.tree
    → Knows new entries (buffer_lies old new base pending same lies out).journals (buffer_lies old new base pending same lies out).tree
unfolding buffer_lies
buffer_knows entries old new base pending same lies out = persisted_knows entries old new Buffer base pending same lies out

-- the synced journals hold what they held
synced_journals : (j : Journaling) → journals_with (synced j) [] ≡ journals_with j j.later
synced_journals j = ap (λ (l : List Written). j.sealed ++ record { id = j.active; batches = l } ∷ []) (append-nil (j.whole ++ j.later))

-- where they lie once all is synced: nothing is pending
pub sync_lies : (old new : Held) (base : Store) (pending : List Command) → StaysSame old new → (lies : Lies old (held_on old base pending)) → Persisted old new SyncAll true → Lies new (held_on new (fold base pending) [])
sync_lies old new base pending same lies out =
    let j = lies.journals in
    let t = lies.tree in
    record {
      journals = synced j;
      records = lies.records;
      tree = t;
      writing = out.lies refl j lies.writing;
      in_tree = tree_along (state_in old.disk) (state_in new.disk) lies.records t (out.elsewhere j lies.writing) lies.in_tree;
      told = known_synced j new.memory.journals (subst (AreKnown j) (sym same.journals) lies.told);
      last = lies.last ∙ sym same.catalog;
      keyspaces = lies.keyspaces ∙ sym same.keyspaces;
      made = ap (λ (l : List Command). kept (fold base l)) lies.waits ∙ kept_with t lies.in_tree.rests.versions base j j.later lies.made lies.writing.root.sound
          ∙ ap (λ (l : List WholeJournal). store_held t.keyspaces (stored_in t.homes t.versions) (map shown (batches_in l))) (sym (synced_journals j));
      waits = refl;
      next = subst (λ (n : ℕ). number_of_contents (contents_with (synced j) t []) ≤ n) (sym same.next)
          (subst (λ (l : List WholeJournal). max (least_after 0 (map shown (batches_in l))) (past_records (fields t.last ∷ lasts t.keyspaces.living t.homes)) ≤ old.memory.next) (sym (synced_journals j)) lies.next);
    }

pub sync_empty : (old new : Held) (base : Store) (pending : List Command) (same : StaysSame old new) (lies : Lies old (held_on old base pending)) (out : Persisted old new SyncAll true) → (sync_lies old new base pending same lies out).journals.later ≡ []
unfolding sync_lies
sync_empty old new base pending same lies out = refl

pub sync_knows : (entries : ℕ → List (List Entry)) (old new : Held) (base : Store) (pending : List Command) (same : StaysSame old new) (lies : Lies old (held_on old base pending))
    (out : Persisted old new SyncAll true) → Knows old entries lies.journals lies.tree
    → Knows new entries (sync_lies old new base pending same lies out).journals (sync_lies old new base pending same lies out).tree
unfolding sync_lies
sync_knows entries old new base pending same lies out = persisted_knows entries old new SyncAll base pending same lies out

-- commands that a base has already
pub synced_passes : (old new : Held) (base : Store) (pending : List Command) → LeavesOnly old.disk new.disk (StandsAmid base [] (pending ++ [])) → CrashLeavesPending (held_on new (fold base pending) [])
    → Passes (held_on old base pending) [] (held_on new (fold base pending) [])
synced_passes old new base pending leaves rests = record { leaves = leaves; safe = pending; base = refl; rest = refl; rests = rests }

pub same_of : (old new : Held) → HandsOver old new → StaysSame old new
same_of old new hands = record {
  keyspaces = ap (λ (m : Remembered). m.keyspaces) hands.memory_is;
  trees = ap (λ (m : Remembered). m.trees) hands.memory_is;
  records = ap (λ (m : Remembered). m.records) hands.memory_is;
  next = ap (λ (m : Remembered). m.next) hands.memory_is;
  catalog = hands.catalog;
  journals = ap (λ (m : Remembered). m.journals) hands.memory_is;
}

same_store : (entries : ℕ → List (List Entry)) (old new : Held) → new.memory ≡ old.memory → kept (standing.store_with_tables entries old) ≡ kept (standing.store_with_tables entries new)
same_store entries old new is = ap (λ (m : Remembered). kept (store_with entries m.keyspaces m.trees)) (sym is)

-- a sync that was done: nothing is pending
pub sync_settles : (entries : ℕ → List (List Entry)) (old new : Held) (d : Durable) → old.memory.poisoned ≡ false → HandsOver old new → Persisted old new SyncAll true → StandsOn old entries d → Settles entries new d []
sync_settles entries old new d well hands out = settles_on entries old new d [] (λ base pending on.
    let lies = on.lies well in
    let after = sync_lies old new base pending (same_of old new hands) lies out in
    let knows = sync_knows entries old new base pending (same_of old new hands) lies out (on.knows well) in
    let still = stands_well entries new (fold base pending) [] (ap (λ (m : Remembered). m.poisoned) hands.memory_is ∙ well) after knows
    (present_of entries old (held_on old base pending) false well on ∙ same_store entries old new hands.memory_is) in
    (held_on new (fold base pending) [], still, synced_passes old new base pending (hand_leaves old new SyncAll true base pending lies out) still.rests, refl))

-- what waited is in the file
buffer_leads : (entries : ℕ → List (List Entry)) (old new : Held) (d : Durable) → old.memory.poisoned ≡ false → HandsOver old new → Persisted old new Buffer true → StandsOn old entries d → Leads entries new d []
buffer_leads entries old new d well hands out = leads_on entries old new d [] (λ base pending on.
    let lies = on.lies well in
    let after = buffer_lies old new base pending (same_of old new hands) lies out in
    let knows = buffer_knows entries old new base pending (same_of old new hands) lies out (on.knows well) in
    let still = stands_well entries new base pending (ap (λ (m : Remembered). m.poisoned) hands.memory_is ∙ well) after knows (present_of entries old (held_on old base pending) false well on ∙ same_store entries old new hands.memory_is) in
    (held_on new base pending, still, record { leaves = hand_leaves old new Buffer true base pending lies out; safe = []; base = refl; rest = sym (append-nil pending); rests = still.rests }))

-- a persist that was done, and where it synced, nothing is pending
pub persist_leads : (entries : ℕ → List (List Entry)) (old new : Held) (mode : PersistMode) (d : Durable) → old.memory.poisoned ≡ false → HandsOver old new → Persisted old new mode true → StandsOn old entries d
    → (e : Durable) × StandsOn new entries e × Passes d [] e × ((s : Machine.State) → IsSync s (OfPersist mode) Done → e.pending ≡ [])
persist_leads entries old new Buffer d well hands out stands =
    let led = buffer_leads entries old new d well hands out stands in
    (led.0, led.1, led.2, λ s none. absurd none)
persist_leads entries old new SyncData d well hands out stands =
    let led = sync_settles entries old new d well hands (record { leaves = out.leaves; lies = out.lies; elsewhere = out.elsewhere; homes = out.homes; served = out.served; kinds = out.kinds; took = out.took; left = λ e. absurd (true≢false e) }) stands in
    (led.0, led.1, led.2, λ s _. led.3)
persist_leads entries old new SyncAll d well hands out stands =
    let led = sync_settles entries old new d well hands out stands in
    (led.0, led.1, led.2, λ s _. led.3)

-- a persist that a fault refused
pub unpersist_leads : (entries : ℕ → List (List Entry)) (old new : Held) (mode : PersistMode) (d : Durable) → old.memory.poisoned ≡ false → Poisons old.memory old new → Persisted old new mode false → StandsOn old entries d → Leads entries new d []
unpersist_leads entries old new mode d well fault out = leads_on entries old new d [] (λ base pending on.
    let lies = on.lies well in
    let leaves = hand_leaves old new mode false base pending lies out in
    let finished = leaves_finished old.disk new.disk (state_in old.disk) lies.journals _ (out.leaves lies.journals lies.writing) in
    let rests : CrashLeavesPending (held_on new base (pending ++ [])) = at_end old.disk new.disk _ leaves in
    let was = present_of entries old (held_on old base pending) false well on ∙ ap (λ (m : Remembered). kept (store_with entries m.keyspaces m.trees)) (sym fault.memory_is) in
    let still = stands_ill entries new base (pending ++ []) (ap (λ (m : Remembered). m.poisoned) fault.memory_is) rests finished (inl (ap (λ (l : List Command). kept (fold base l)) (append-nil pending) ∙ was)) in
    (held_on new base (pending ++ []), still, record { leaves = leaves; safe = []; base = refl; rest = refl; rests = rests }))
