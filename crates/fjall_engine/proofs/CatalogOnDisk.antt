-- What a creation, a deletion and a removal are on the disk of a core.
use Rattle.std.proofs.Common.{◌≡◌, ℕ, ◌<◌, ◌≤◌, ◌==◌, Bool, true, false, cond, not, List, [], ◌∷◌, ◌++◌, map, All, refl, sym, ◌∙◌, ap, subst, codes, arith}
use Rattle.std.proofs.lemmas.Bool.Decides.{nat_tests}
use Rattle.std.proofs.lemmas.List.Elements.{All-weaker, filter_passes}
use Rattle.std.specs.FinMap.{insert, remove}
use Rattle.std.proofs.lemmas.List.{append-nil}
use Rattle.fjall_base.specs.Store.{Store, Command, Create, Delete, apply, kept}
use Rattle.fjall_base.specs.Disk.{LeavesOnly, state_in}
use Rattle.fjall_base.proofs.Moments.{weaken}
use Rattle.fjall_files.specs.Regions.{Within}
use Rattle.fjall_journal.specs.Batches.{shown}
use Rattle.fjall_meta.specs.declared.living.LivingKeyspace.{LivingKeyspace}
use Rattle.fjall_meta.specs.Keyspaces.{AreKeyspaces, with_keyspace, without_keyspace}
use Rattle.fjall_manifest.specs.declared.catalog.Catalog.{Catalog}
use Rattle.fjall_manifest.specs.declared.update.Update.{Update}
use Rattle.fjall_manifest.specs.Catalog.{fields}
use Rattle.fjall_manifest.specs.Updates.{IsUpdate}
use Rattle.fjall_meta.specs.Replays.{option_pairs}
use Rattle.fjall_meta.specs.Contents.{Stored, nothing_stored}
use Rattle.fjall_meta.proofs.Held.{same_stored}
use Rattle.fjall_meta.proofs.Keyspacing.{creation, deletion, nothing_to_keep}
use Rattle.fjall_recovery.specs.Folders.{past_record}
use Rattle.fjall_recovery.specs.Folders as folders
use Rattle.fjall_recovery.specs.Journals.{batches_in}
use Rattle.fjall_recovery.specs.Halves.{HasTree, Tree}
use Rattle.fjall_recovery.specs.Homes.{Homes, Versions, stored_in, stored_of}
use Rattle.fjall_recovery.specs.Places.{Journaling, LiesInRoot, LiesInTree, contents_with, journals_with}
use Rattle.fjall_recovery.proofs.Roots.{crashes_leave_the_root, fewer_sound}
use Rattle.fjall_recovery.proofs.Storing.{stored_inserted, stored_removed}
use Rattle.fjall_changes.specs.declared.creation.Creation.{Creation}
use Rattle.fjall_changes.specs.Changes.{HasRoomForKeyspace, IsCreation, first_home, with_home, without_home}
use Rattle.fjall_machine.specs.Remembered.{Remembered, with_creation, with_deletion}
use Rattle.fjall_engine.specs.Holding.{Held}
use Rattle.fjall_changes.specs.SyncedChanges as on_disk
use Rattle.fjall_engine.specs.Durables.{Durable, Lies, StandsAmid}
use Rattle.fjall_engine.proofs.CatalogChanges.{Changed, numbers_below, store_of_tree}
use Rattle.fjall_engine.proofs.CrashImages.{folder_amid}
use Rattle.fjall_engine.proofs.NextNumbers.{below_number, created_number, deleted_number}
use Rattle.fjall_engine.proofs.RootUnchanged.{leaves_beside}
use Rattle.fjall_engine.proofs.JournalWrites.{held_on}
use Rattle.fjall_engine.proofs.KnownBatches.{all_shown}
use Rattle.fjall_engine.proofs.KnownCores.{knows_created, knows_deleted}

-- the tree of a core
abbrev pub tree_held : Held → Homes → Versions → Tree
tree_held core homes versions = record { last = core.catalog; keyspaces = core.memory.keyspaces; homes = homes; versions = versions }

same_tree : (core : Held) (d : Durable) (lies : Lies core d) → tree_held core lies.tree.homes lies.tree.versions ≡ lies.tree
same_tree core d lies = λ i. record { last = sym lies.last i; keyspaces = sym lies.keyspaces i; homes = lies.tree.homes; versions = lies.tree.versions }

-- the number of a core on whose disk nothing is pending
number_is : (core : Held) (base : Store) (lies : Lies core (held_on core base [])) → lies.journals.later ≡ [] → folders.number_of_contents (contents_with lies.journals (tree_held core lies.tree.homes lies.tree.versions) []) ≤ core.memory.next
number_is core base lies none =
    subst (λ (t : Tree). folders.number_of_contents (contents_with lies.journals t []) ≤ core.memory.next) (sym (same_tree core (held_on core base []) lies))
    (subst (λ l. folders.number_of_contents (contents_with lies.journals lies.tree l) ≤ core.memory.next) none lies.next)

-- ---- a creation

-- what is stored of each id after a creation of this number
abbrev pub stored_then : Tree → ℕ → ℕ → Stored
stored_then t number = stored_in (insert t.homes t.keyspaces.next (first_home number)) (insert t.versions t.keyspaces.next [])

-- no version of the new keyspace is
nothing_new : (t : Tree) (number : ℕ) → (stored_then t number t.keyspaces.next).versions ≡ []
nothing_new t number =
    let new = t.keyspaces.next in
    let itself : (new == new) ≡ true = grind (arith, nat_tests) in
    ap (λ (h : Stored). h.versions) (stored_inserted t.homes t.versions new (first_home number) [] new ∙ ap (λ b. cond b (stored_of (first_home number) []) (stored_in t.homes t.versions new)) itself)

-- and of those that lived what was
stays_stored : (t : Tree) (number : ℕ) → AreKeyspaces t.keyspaces → All (λ k. stored_then t number k.id ≡ stored_in t.homes t.versions k.id) t.keyspaces.living
stays_stored t number are =
    All-weaker (λ (k : LivingKeyspace). k.id < t.keyspaces.next) (λ (k : LivingKeyspace). stored_then t number k.id ≡ stored_in t.homes t.versions k.id) (λ k lt.
    let other : (k.id == t.keyspaces.next) ≡ false = grind (arith, nat_tests) in
    stored_inserted t.homes t.versions t.keyspaces.next (first_home number) [] k.id
    ∙ ap (λ b. cond b (stored_of (first_home number) []) (stored_in t.homes t.versions k.id)) other) t.keyspaces.living are.given

-- the store of the keyspaces with one more
created_store : (state : _) (j : Journaling) (t : Tree) (name : List ℕ) (options : List (List ℕ)) (number : ℕ) (c : Catalog) → LiesInRoot state j → AreKeyspaces t.keyspaces → folders.number_of_contents (contents_with j t []) ≤ number
    → store_of_tree j (with_home name options number c t) ≡ kept (apply (store_of_tree j t) (Create name (option_pairs options)))
created_store state j t name options number c root are is =
    let batches = map shown (batches_in (journals_with j [])) in
    let sound = fewer_sound j [] j.later refl root.sound in
    let older = numbers_below number 0 batches sound (below_number j t number is).0 in
    let stored = stored_then t number in
    let more = creation name options number t.keyspaces are stored batches (nothing_new t number) older in
    let same = same_stored t.keyspaces stored (stored_in t.homes t.versions) batches (stays_stored t number are) in
    sym (nothing_to_keep (with_keyspace name options number t.keyspaces) stored batches) ∙ ap kept (more ∙ ap (λ (s : Store). apply s (Create name (option_pairs options))) same)

-- what is known of a creation on the disk of a core
abbrev pub CreatedKeyspace : Held → Held → Creation → Bool → Type 0
CreatedKeyspace mid new creation done = on_disk.CreatedKeyspace mid.disk new.disk creation done

-- what a creation leaves of a core
pub record Becomes (mid new : Held) (after : Remembered) (catalog : Catalog) (done : Bool) : Type 0 where
  pub memory_is : done ≡ true → new.memory ≡ after
  pub catalog_is : done ≡ true → new.catalog ≡ catalog
  pub journal_is : done ≡ true → new.journal ≡ mid.journal

pub creation_changed : (mid new : Held) (base : Store) (name : List ℕ) (options : List (List ℕ)) (creation : Creation) (done : Bool) (lies : Lies mid (held_on mid base [])) → lies.journals.later ≡ []
    → IsCreation mid.catalog (with_keyspace name options mid.memory.next mid.memory.keyspaces) mid.memory.keyspaces.next mid.memory.next creation → AreKeyspaces mid.memory.keyspaces
    → AreKeyspaces (with_keyspace name options mid.memory.next mid.memory.keyspaces) → All (λ k. k.id < mid.memory.keyspaces.next) mid.memory.trees → CreatedKeyspace mid new creation done
    → Becomes mid new (with_creation name options mid.memory) creation.update.catalog done → Changed mid new lies.journals lies.tree (Create name (option_pairs options)) done
creation_changed mid new base name options creation done lies none is were are given disk core =
    let j = lies.journals in
    let t = tree_held mid lies.tree.homes lies.tree.versions in
    let number = mid.memory.next in
    let catalog = creation.update.catalog in
    let numbered = number_is mid base lies none in
    let same = same_tree mid (held_on mid base []) lies in
    let there : LiesInTree (state_in mid.disk) lies.records t = subst (λ (x : Tree). LiesInTree (state_in mid.disk) lies.records x) (sym same) lies.in_tree in
    let below = (below_number j t number numbered).1 in
    subst (λ (x : Tree). Changed mid new j x (Create name (option_pairs options)) done) same (record {
      next = with_home name options number catalog t;
      after = created_store (state_in mid.disk) j t name options number catalog lies.writing.root were numbered;
      run = disk.within;
      leaves = disk.leaves lies.records t name options number there is are below were.fits;
      number = λ ok. subst (λ (n : ℕ). folders.number_of_contents (contents_with j (with_home name options number catalog t) []) ≤ n) (sym (ap (λ (m : Remembered). m.next) (core.memory_is ok)))
          (created_number j t name options number catalog is.update.persisted is.update.highest numbered);
      records = λ ok. lies.records ++ fields catalog ∷ [];
      in_tree = λ ok. disk.lies ok lies.records t name options number there is are below were.fits;
      last = λ ok. sym (core.catalog_is ok);
      keyspaces = λ ok. ap (λ (m : Remembered). m.keyspaces) (sym (core.memory_is ok));
      journal = core.journal_is;
      journals = λ ok. ap (λ (m : Remembered). m.journals) (core.memory_is ok);
      known = λ ok entries unused.
          let older = numbers_below number 0 (all_shown j) lies.writing.root.sound (let next = lies.next in omega (arith, next)) in
          knows_created entries mid new name options catalog j t refl (core.memory_is ok) were given (unused mid.memory.keyspaces.next (omega arith)) older;
    })

-- no call of it was one that no disk can serve
pub creation_served : (mid new : Held) (base : Store) (name : List ℕ) (options : List (List ℕ)) (creation : Creation) (done : Bool) (lies : Lies mid (held_on mid base [])) → lies.journals.later ≡ []
    → IsCreation mid.catalog (with_keyspace name options mid.memory.next mid.memory.keyspaces) mid.memory.keyspaces.next mid.memory.next creation → AreKeyspaces mid.memory.keyspaces
    → AreKeyspaces (with_keyspace name options mid.memory.next mid.memory.keyspaces) → CreatedKeyspace mid new creation done → HasRoomForKeyspace (state_in mid.disk) mid.memory.keyspaces.next → new.disk.misuses ≡ mid.disk.misuses
creation_served mid new base name options creation done lies none is were are disk room =
    let t = tree_held mid lies.tree.homes lies.tree.versions in
    let there : LiesInTree (state_in mid.disk) lies.records t = subst (λ (x : Tree). LiesInTree (state_in mid.disk) lies.records x) (sym (same_tree mid (held_on mid base []) lies)) lies.in_tree in
    disk.served lies.records t name options mid.memory.next there is are (below_number lies.journals t mid.memory.next (number_is mid base lies none)).1 were.fits room

-- ---- a deletion

-- the store of the keyspaces but one
deleted_store : (j : Journaling) (t : Tree) (id : ℕ) (c : Catalog) → store_of_tree j (without_home id c t) ≡ kept (apply (store_of_tree j t) (Delete id))
deleted_store j t id c =
    let less = without_keyspace id t.keyspaces in
    let batches = map shown (batches_in (journals_with j [])) in
    let stays : All (λ k. stored_in (remove t.homes id) (remove t.versions id) k.id ≡ stored_in t.homes t.versions k.id) less.living =
    All-weaker (λ (k : LivingKeyspace). not (k.id == id) ≡ true) (λ (k : LivingKeyspace). stored_in (remove t.homes id) (remove t.versions id) k.id ≡ stored_in t.homes t.versions k.id) (λ k is.
    let other : (k.id == id) ≡ false = grind (arith, nat_tests) in
    stored_removed t.homes t.versions id k.id ∙ ap (λ b. cond b nothing_stored (stored_in t.homes t.versions k.id)) other) less.living
    (filter_passes (λ (k : LivingKeyspace). not (k.id == id)) t.keyspaces.living) in
    same_stored less (stored_in (remove t.homes id) (remove t.versions id)) (stored_in t.homes t.versions) batches stays ∙ deletion id t.keyspaces (stored_in t.homes t.versions) batches

-- the same of a deletion
abbrev pub DeletedKeyspace : Held → Held → Update → Bool → Type 0
DeletedKeyspace mid new update done = on_disk.DeletedKeyspace mid.disk new.disk update done

pub deletion_changed : (mid new : Held) (base : Store) (id : ℕ) (update : Update) (done : Bool) (lies : Lies mid (held_on mid base [])) → lies.journals.later ≡ []
    → IsUpdate mid.catalog (without_keyspace id mid.memory.keyspaces) mid.memory.next update → AreKeyspaces mid.memory.keyspaces → DeletedKeyspace mid new update done → Becomes mid new (with_deletion id mid.memory) update.catalog done
    → Changed mid new lies.journals lies.tree (Delete id) done
deletion_changed mid new base id update done lies none is were disk core =
    let j = lies.journals in
    let t = tree_held mid lies.tree.homes lies.tree.versions in
    let number = mid.memory.next in
    let numbered = number_is mid base lies none in
    let same = same_tree mid (held_on mid base []) lies in
    let there : LiesInTree (state_in mid.disk) lies.records t = subst (λ (x : Tree). LiesInTree (state_in mid.disk) lies.records x) (sym same) lies.in_tree in
    let below = (below_number j t number numbered).1 in
    subst (λ (x : Tree). Changed mid new j x (Delete id) done) same (record {
      next = without_home id update.catalog t;
      after = deleted_store j t id update.catalog;
      run = disk.within;
      leaves = disk.leaves lies.records t id number there is below;
      number = λ ok. subst (λ (n : ℕ). folders.number_of_contents (contents_with j (without_home id update.catalog t) []) ≤ n) (sym (ap (λ (m : Remembered). m.next) (core.memory_is ok)))
          (deleted_number j t id number update.catalog is.persisted is.highest numbered);
      records = λ ok. lies.records ++ fields update.catalog ∷ [];
      in_tree = λ ok. disk.lies ok lies.records t id number there is below;
      last = λ ok. sym (core.catalog_is ok);
      keyspaces = λ ok. ap (λ (m : Remembered). m.keyspaces) (sym (core.memory_is ok));
      journal = core.journal_is;
      journals = λ ok. ap (λ (m : Remembered). m.journals) (core.memory_is ok);
      known = λ ok entries unused.
          knows_deleted entries mid new id update.catalog j t (ap (λ (m : Remembered). m.trees) (core.memory_is ok)) (ap (λ (m : Remembered). m.records) (core.memory_is ok));
    })

-- no call of it was one that no disk can serve
pub deletion_served : (mid new : Held) (base : Store) (id : ℕ) (update : Update) (done : Bool) (lies : Lies mid (held_on mid base [])) → lies.journals.later ≡ []
    → IsUpdate mid.catalog (without_keyspace id mid.memory.keyspaces) mid.memory.next update → DeletedKeyspace mid new update done → new.disk.misuses ≡ mid.disk.misuses
deletion_served mid new base id update done lies none is disk =
    let t = tree_held mid lies.tree.homes lies.tree.versions in
    let there : LiesInTree (state_in mid.disk) lies.records t = subst (λ (x : Tree). LiesInTree (state_in mid.disk) lies.records x) (sym (same_tree mid (held_on mid base []) lies)) lies.in_tree in
    disk.served lies.records t id mid.memory.next there is (below_number lies.journals t mid.memory.next (number_is mid base lies none)).1

-- ---- a removal

-- what a removal leaves, whatever is pending: nothing of it is of a keyspace that lives
pub removal_leaves : (old new : Held) (base : Store) (pending : List Command) (lies : Lies old (held_on old base pending)) → Within (codes "keyspaces") old.disk new.disk → LeavesOnly old.disk new.disk (λ image. HasTree image lies.tree)
    → LeavesOnly old.disk new.disk (StandsAmid base [] pending)
removal_leaves old new base pending lies run leaves =
    weaken old.disk new.disk _ _ (leaves_beside old.disk new.disk (λ image. HasTree image lies.tree) run leaves) (λ image left.
    let root = crashes_leave_the_root (state_in old.disk) image lies.journals lies.writing.root left.1 in
    subst (λ (l : List Command). StandsAmid base [] l image) (append-nil pending)
    (folder_amid base pending lies.journals lies.tree image root.0 root.1 [] lies.made lies.waits (root.2 ∙ sym (append-nil lies.journals.later)) root.3 left.0))
