-- Where a creation, a deletion and a release lead a core and its disk.
use Rattle.std.proofs.Common.{◌≡◌, ◌≤◌, inl, inr, ℕ, Bool, true, false, List, [], ◌∷◌, ◌++◌, refl, sym, ◌∙◌, ap, subst, codes}
use Rattle.std.proofs.lemmas.List.{append-nil}
use Rattle.fjall_base.specs.Store.{Store, Command, apply, fold, kept}
use Rattle.fjall_base.specs.Disk.{LeavesOnly, state_in}
use Rattle.fjall_base.proofs.Moments.{at_end, runs_on, weaken}
use Rattle.fjall_files.specs.Regions.{Within}
use Rattle.fjall_journal.specs.declared.persist_mode.PersistMode.TheVariants.{SyncAll}
use Rattle.fjall_trees.specs.MapTables.{store_with}
use Rattle.fjall_meta.specs.Keyspaces.{Keyspaces}
use Rattle.fjall_meta.proofs.Kept.{kept_along}
use Rattle.fjall_recovery.specs.Halves.{HasTree, Tree}
use Rattle.fjall_recovery.specs.Folders.{number_of_contents}
use Rattle.fjall_recovery.specs.Places.{Journaling, LiesInTree, contents_with}
use Rattle.fjall_changes.specs.Journaling.{IsWriting}
use Rattle.fjall_machine.specs.Remembered.{Remembered}
use Rattle.fjall_table.specs.Blocks.{Entry}
use Rattle.fjall_engine.specs.Holding.{Held}
use Rattle.fjall_engine.specs.Crashes.{SafeSince}
use Rattle.fjall_engine.specs.Durables.{Durable, Knows, Lies, MakesPresent, CrashLeavesPending, StandsAmid, AreKnown}
use Rattle.fjall_engine.specs.Standing.{Poisons, StandsOn, store_with_tables}
use Rattle.fjall_engine.proofs.CatalogChanges.{AreUnused, Changed, change_leaves, changed_settles, ill_leads}
use Rattle.fjall_engine.proofs.CrashesInRuns.{amid_least, amid_more, amid_shift, passes_on, passes_still, safe_now}
use Rattle.fjall_engine.proofs.CatalogOnDisk.{removal_leaves}
use Rattle.fjall_engine.proofs.CrashImages.{leaves_finished, lies_rest}
use Rattle.fjall_engine.proofs.RootUnchanged.{within_finished, within_root, writing_along}
use Rattle.fjall_engine.proofs.Syncs.{Persisted, hand_leaves, StaysSame, sync_empty, sync_knows, sync_lies, synced_passes}
use Rattle.fjall_engine.proofs.JournalWrites.{Leads, Settles, held_on, leads_on, present_of, settles_on, stands_ill, stands_well}

-- what happens to the keyspaces, once all is synced
abbrev pub ChangesTo : Held → Held → Command → Bool → Type 0
ChangesTo mid new command done = (base : Store) (lies : Lies mid (held_on mid base [])) → lies.journals.later ≡ [] → Changed mid new lies.journals lies.tree command done

-- a change of the keyspaces that was done: nothing is pending
pub alter_settles : (entries : ℕ → List (List Entry)) (old mid new : Held) (d : Durable) (command : Command) → old.memory.poisoned ≡ false → StaysSame old mid → Persisted old mid SyncAll true → ChangesTo mid new command true → new.memory.poisoned ≡ false
    → AreUnused entries old.memory.keyspaces.next → kept (apply (store_with_tables entries old) command) ≡ kept (store_with_tables entries new) → StandsOn old entries d → Settles entries new d (command ∷ [])
alter_settles entries old mid new d command well same out changes well' unused present = settles_on entries old new d (command ∷ []) (λ base pending on.
    let lies = on.lies well in
    let after = sync_lies old mid base pending same lies out in
    let none = sync_empty old mid base pending same lies out in
    let was = present_of entries old (held_on old base pending) false well on in
    let knows = sync_knows entries old mid base pending same lies out (on.knows well) in
    let unused_mid = subst (λ (s : Keyspaces). AreUnused entries s.next) (sym same.keyspaces) unused in
    let settled = changed_settles entries mid new (fold base pending) command after none (changes (fold base pending) after none) well' unused_mid knows
    (kept_along (fold base pending) (store_with_tables entries old) (command ∷ []) was ∙ present) in
    let first = synced_passes old mid base pending (hand_leaves old mid SyncAll true base pending lies out) (lies_rest mid (held_on mid (fold base pending) []) after) in
    (settled.0, settled.1, passes_on (held_on old base pending) (held_on mid (fold base pending) []) settled.0 [] (command ∷ []) first settled.2, settled.3))

-- more may be asked for
asked_more : (old new : Held) (base : Store) (pending : List Command) (command : Command) → LeavesOnly old.disk new.disk (StandsAmid base [] (pending ++ [])) → LeavesOnly old.disk new.disk (StandsAmid base [] (pending ++ command ∷ []))
asked_more old new base pending command leaves =
    weaken old.disk new.disk _ _ leaves (λ image s. amid_more base [] pending (command ∷ []) image (subst (λ (l : List Command). StandsAmid base [] l image) (append-nil pending) s))

-- a sync that failed, before any change
pub unsynced_leads : (entries : ℕ → List (List Entry)) (old new : Held) (d : Durable) (command : Command) → old.memory.poisoned ≡ false → Poisons old.memory old new → Persisted old new SyncAll false → StandsOn old entries d → Leads entries new d (command ∷ [])
unsynced_leads entries old new d command well fault out =
    ill_leads entries old new d command well fault (λ base pending lies. asked_more old new base pending command (hand_leaves old new SyncAll false base pending lies out))
    (λ base pending lies. leaves_finished old.disk new.disk (state_in old.disk) lies.journals _ (out.leaves lies.journals lies.writing))

-- a change that failed
pub unaltered_leads : (entries : ℕ → List (List Entry)) (old mid new : Held) (d : Durable) (command : Command) → old.memory.poisoned ≡ false → StaysSame old mid → Persisted old mid SyncAll true → ChangesTo mid new command false → Poisons old.memory old new → StandsOn old entries d
    → Leads entries new d (command ∷ [])
unaltered_leads entries old mid new d command well same out changes fault = ill_leads entries old new d command well fault (λ base pending lies.
    let after = sync_lies old mid base pending same lies out in
    let none = sync_empty old mid base pending same lies out in
    let c = changes (fold base pending) after none in
    let first = asked_more old mid base pending command (hand_leaves old mid SyncAll true base pending lies out) in
    let second = change_leaves (fold base pending) mid.disk new.disk after.journals after.tree c.next command after.made c.after none after.writing.root c.run c.leaves in
    runs_on old.disk mid.disk new.disk (StandsAmid base [] (pending ++ command ∷ [])) first
    (weaken mid.disk new.disk _ _ second (λ image s. amid_least base _ _ image (amid_shift base (fold base pending) pending [] (command ∷ []) image refl s))))
    (λ base pending lies.
    let after = sync_lies old mid base pending same lies out in
    within_finished mid.disk new.disk after.journals after.writing.root (changes (fold base pending) after (sync_empty old mid base pending same lies out)).run)

-- and from the sync on a crash leaves all that was pending
pub unaltered_keeps : (entries : ℕ → List (List Entry)) (old mid new : Held) (d : Durable) (command : Command) → old.memory.poisoned ≡ false → StaysSame old mid → Persisted old mid SyncAll true → ChangesTo mid new command false → StandsOn old entries d
    → SafeSince d [] (command ∷ []) new.disk
unaltered_keeps entries old mid new d command well same out changes stands =
    let here : d ≡ held_on old d.base d.pending = λ i. record { meaning = stands.same i; base = d.base; pending = d.pending } in
    subst (λ (x : Durable). SafeSince x [] (command ∷ []) new.disk) (sym here) (keeps d.base d.pending ((subst (λ (x : Durable). StandsOn old entries x) here stands).lies well))
  where
    keeps : (base : Store) (pending : List Command) → Lies old (held_on old base pending) → SafeSince (held_on old base pending) [] (command ∷ []) new.disk
    keeps base pending lies =
        let after = sync_lies old mid base pending same lies out in
        let c = changes (fold base pending) after (sync_empty old mid base pending same lies out) in
        let first = synced_passes old mid base pending (hand_leaves old mid SyncAll true base pending lies out) (lies_rest mid (held_on mid (fold base pending) []) after) in
        safe_now (held_on old base pending) (held_on mid (fold base pending) []) new.disk [] (command ∷ []) first refl
        (change_leaves (fold base pending) mid.disk new.disk after.journals after.tree c.next command after.made c.after (sync_empty old mid base pending same lies out) after.writing.root c.run c.leaves)

-- ---- handles

-- What counting handles leaves of a core: keyspaces, number and flag, what the versions make of the keyspaces, and what is known of
-- their homes.
pub record Recounts (entries : ℕ → List (List Entry)) (old new : Held) : Type 0 where
  pub keyspaces : new.memory.keyspaces ≡ old.memory.keyspaces
  pub next : new.memory.next ≡ old.memory.next
  pub poisoned : new.memory.poisoned ≡ old.memory.poisoned
  pub store : kept (store_with_tables entries old) ≡ kept (store_with_tables entries new)
  pub catalog : new.catalog ≡ old.catalog
  pub journal : new.journal ≡ old.journal
  pub journals : new.memory.journals ≡ old.memory.journals
  pub known : (j : Journaling) (t : Tree) → t.keyspaces ≡ old.memory.keyspaces → Knows old entries j t → Knows new entries j t

present_along : (flag : Bool) (d : Durable) (a b : Store) → kept a ≡ kept b → MakesPresent flag d a → MakesPresent flag d b
present_along false d a b same is = is ∙ same
present_along true d a b same (inl is) = inl (is ∙ same)
present_along true d a b same (inr (front, last, all, is)) = inr (front, last, all, is ∙ same)

pub recounted_lies : (entries : ℕ → List (List Entry)) (old new : Held) (base : Store) (pending : List Command) → Recounts entries old new → (lies : Lies old (held_on old base pending)) → Within (codes "keyspaces") old.disk new.disk → LiesInTree (state_in new.disk) lies.records lies.tree
    → Lies new (held_on new base pending)
recounted_lies entries old new base pending c lies run in_tree = record {
  journals = lies.journals;
  records = lies.records;
  tree = lies.tree;
  writing = subst (λ w. IsWriting (state_in new.disk) w lies.journals) (sym c.journal) (writing_along (state_in old.disk) (state_in new.disk) old.journal lies.journals (within_root old.disk new.disk run) lies.writing);
  in_tree = in_tree;
  told = subst (AreKnown lies.journals) (sym c.journals) lies.told;
  last = lies.last ∙ sym c.catalog;
  keyspaces = lies.keyspaces ∙ sym c.keyspaces;
  made = lies.made;
  waits = lies.waits;
  next = subst (λ (n : ℕ). number_of_contents (contents_with lies.journals lies.tree lies.journals.later) ≤ n) (sym c.next) lies.next;
}

-- what is known of homes
pub recounted_knows : (entries : ℕ → List (List Entry)) (old new : Held) (base : Store) (pending : List Command) (c : Recounts entries old new)
    (lies : Lies old (held_on old base pending)) (run : Within (codes "keyspaces") old.disk new.disk) (in_tree : LiesInTree (state_in new.disk) lies.records lies.tree)
    → Knows old entries lies.journals lies.tree
    → Knows new entries (recounted_lies entries old new base pending c lies run in_tree).journals (recounted_lies entries old new base pending c lies run in_tree).tree
unfolding recounted_lies
recounted_knows entries old new base pending c lies run in_tree knows = c.known lies.journals lies.tree lies.keyspaces knows

-- handles counted anew, on a disk that stays as it is
pub recount_leads : (entries : ℕ → List (List Entry)) (old new : Held) (d : Durable) → new.disk ≡ old.disk → Recounts entries old new → StandsOn old entries d → Leads entries new d []
recount_leads entries old new d same c stands = (
  d,
  record {
    same = stands.same ∙ sym same;
    rests = stands.rests;
    finished = stands.finished;
    lies = λ well.
        let lies = stands.lies (sym c.poisoned ∙ well) in
        record {
          journals = lies.journals;
          records = lies.records;
          tree = lies.tree;
          writing = subst (λ w. IsWriting (state_in d.meaning) w lies.journals) (sym c.journal) lies.writing;
          in_tree = lies.in_tree;
          told = subst (AreKnown lies.journals) (sym c.journals) lies.told;
          last = lies.last ∙ sym c.catalog;
          keyspaces = lies.keyspaces ∙ sym c.keyspaces;
          made = lies.made;
          waits = lies.waits;
          next = subst (λ (n : ℕ). number_of_contents (contents_with lies.journals lies.tree lies.journals.later) ≤ n) (sym c.next) lies.next;
        };
    knows = λ well. let lies = stands.lies (sym c.poisoned ∙ well) in c.known lies.journals lies.tree lies.keyspaces (stands.knows (sym c.poisoned ∙ well));
    present = present_along new.memory.poisoned d (store_with_tables entries old) (store_with_tables entries new) c.store (subst (λ b. MakesPresent b d (store_with_tables entries old)) (sym c.poisoned) stands.present);
  },
  passes_still d stands.rests,
)

-- what a removal did to the disk
pub record Removed (old new : Held) : Type 0 where
  pub within : Within (codes "keyspaces") old.disk new.disk
  pub leaves : (base : Store) (pending : List Command) (lies : Lies old (held_on old base pending)) → LeavesOnly old.disk new.disk (λ image. HasTree image lies.tree)
  pub lies : (base : Store) (pending : List Command) (lies : Lies old (held_on old base pending)) → LiesInTree (state_in new.disk) lies.records lies.tree

-- a release that removed a deleted keyspace
pub removed_leads : (entries : ℕ → List (List Entry)) (old new : Held) (d : Durable) → old.memory.poisoned ≡ false → Recounts entries old new → Removed old new → StandsOn old entries d → Leads entries new d []
removed_leads entries old new d well c gone = leads_on entries old new d [] (λ base pending on.
    let lies = on.lies well in
    let after = recounted_lies entries old new base pending c lies gone.within (gone.lies base pending lies) in
    let knows = recounted_knows entries old new base pending c lies gone.within (gone.lies base pending lies) (on.knows well) in
    let still = stands_well entries new base pending (c.poisoned ∙ well) after knows (present_of entries old (held_on old base pending) false well on ∙ c.store) in
    let leaves = removal_leaves old new base pending lies gone.within (gone.leaves base pending lies) in (
      held_on new base pending,
      still,
      record { leaves = weaken old.disk new.disk _ _ leaves (λ image s. amid_more base [] pending [] image s); safe = []; base = refl; rest = sym (append-nil pending); rests = still.rests },
    ))

-- a removal that a fault refused
pub unremoved_leads : (entries : ℕ → List (List Entry)) (left : Remembered) (old new : Held) (d : Durable) → old.memory.poisoned ≡ false → Poisons left old new
    → kept (store_with_tables entries old) ≡ kept (store_with entries left.keyspaces left.trees) → Removed old new → StandsOn old entries d → Leads entries new d []
unremoved_leads entries left old new d well fault same gone = leads_on entries old new d [] (λ base pending on.
    let lies = on.lies well in
    let leaves = removal_leaves old new base pending lies gone.within (gone.leaves base pending lies) in
    let rests : CrashLeavesPending (held_on new base pending) = at_end old.disk new.disk _ leaves in
    let was = present_of entries old (held_on old base pending) false well on ∙ same ∙ ap (λ (m : Remembered). kept (store_with entries m.keyspaces m.trees)) (sym fault.memory_is) in
    let still = stands_ill entries new base pending (ap (λ (m : Remembered). m.poisoned) fault.memory_is) rests (within_finished old.disk new.disk lies.journals lies.writing.root gone.within) (inl was) in
    (held_on new base pending, still, record { leaves = weaken old.disk new.disk _ _ leaves (λ image s. amid_more base [] pending [] image s); safe = []; base = refl; rest = sym (append-nil pending); rests = rests }))
