-- Where a change of the keyspaces leads a core and its disk.
use Rattle.std.proofs.Common.{◌≡◌, ◌⊎◌, inl, inr, ℕ, ◌<◌, ◌≤◌, Bool, true, false, List, [], ◌∷◌, ◌++◌, None, All, refl, sym, ◌∙◌, ap, subst, arith, codes}
use Rattle.std.proofs.lemmas.List.{append-nil}
use Rattle.std.proofs.lemmas.List.Elements.{All-weaker}
use Rattle.fjall_base.specs.Store.{Store, Command, apply, kept}
use Rattle.fjall_base.specs.Disk.{Image, LeavesOnly, Meaning, state_in}
use Rattle.fjall_base.proofs.Moments.{at_end, weaken}
use Rattle.fjall_files.specs.Regions.{Within}
use Rattle.fjall_journal.specs.Batches.{Shown}
use Rattle.fjall_meta.specs.Keyspaces.{Keyspaces}
use Rattle.fjall_manifest.specs.Records.{Fields}
use Rattle.fjall_meta.specs.Replays.{first_fault, least_after}
use Rattle.fjall_meta.proofs.Kept.{kept_along}
use Rattle.fjall_meta.proofs.Following.{before_least}
use Rattle.fjall_recovery.specs.Folders.{past_record, past_records}
use Rattle.fjall_recovery.specs.Folders as folders
use Rattle.fjall_recovery.specs.Halves.{HasRoot, HasTree, Tree}
use Rattle.fjall_recovery.specs.Places.{Journaling, LiesInRoot, LiesInTree, contents_with, journals_with}
use Rattle.fjall_recovery.proofs.Roots.{crashes_leave_the_root}
use Rattle.fjall_recovery.proofs.Holding.{made}
use Rattle.fjall_changes.specs.Journaling.{IsWriting}
use Rattle.fjall_changes.specs.Changes.{HasEither}
use Rattle.fjall_machine.specs.Remembered.{Remembered}
use Rattle.fjall_table.specs.Blocks.{Entry}
use Rattle.fjall_trees.specs.MapTables.{store_with}
use Rattle.fjall_engine.specs.Holding.{Held}
use Rattle.fjall_engine.specs.Durables.{Durable, Knows, Lies, CrashLeavesPending, StandsAmid, StaysFinished, AreKnown}
use Rattle.fjall_engine.specs.Standing.{Poisons, StandsOn}
use Rattle.fjall_engine.proofs.CrashesInRuns.{amid_more}
use Rattle.fjall_changes.proofs.CrashedJournals.{commanded, store_is_kept}
use Rattle.fjall_engine.proofs.CrashImages.{folder_amid}
use Rattle.fjall_engine.proofs.RootUnchanged.{leaves_beside, within_root, writing_along}
use Rattle.fjall_engine.proofs.JournalWrites.{Leads, Settles, held_on, leads_on, present_of, stands_ill, stands_well}

-- ---- numbers

-- sound batches lie below each number from the least one on that may follow
pub numbers_below : (limit least : ℕ) (batches : List Shown) → first_fault least batches ≡ None → least_after least batches ≤ limit → All (λ b. b.number < limit) batches
numbers_below limit least batches none le =
    All-weaker (λ (b : Shown). b.number < least_after least batches) (λ (b : Shown). b.number < limit) (λ b is. omega (arith, is, le)) batches (before_least least batches none).1

-- ---- what a crash leaves

-- the store of the synced batches
abbrev pub store_of_tree : Journaling → Tree → Store
store_of_tree j t = folders.store_of_contents (contents_with j t [])

no_more : {X : Type 0} (front rest : List X) → front ++ rest ≡ [] → front ≡ []
no_more [] rest e = refl
no_more (x ∷ front) rest e = cc

-- the images of a change: one where the tree is as before stands for the base, and one where it is the next for the
-- command too
change_amid : (base : Store) (j : Journaling) (t next : Tree) (command : Command) (image : Image) → kept base ≡ store_of_tree j t → store_of_tree j next ≡ kept (apply (store_of_tree j t) command)
    → HasRoot image (journals_with j []) → HasTree image t ⊎ HasTree image next → j.later ≡ [] → StandsAmid base [] (command ∷ []) image
change_amid base j t next command image is after root (inl tree) none =
    amid_more base [] [] (command ∷ []) image (folder_amid base [] j t image [] [] [] is (sym (ap (commanded t) none)) (sym (append-nil j.later ∙ none)) root tree)
change_amid base j t next command image is after root (inr tree) none = record {
  front = command ∷ [];
  holds = (command ∷ [], refl);
  within = ([], refl);
  stands = inl (contents_with j next [], made image (contents_with j next []) root tree, kept_along base (store_of_tree j t) (command ∷ []) (is ∙ sym (store_is_kept (contents_with j t []))) ∙ sym after);
}

pub change_leaves : (base : Store) (mid new : Meaning) (j : Journaling) (t next : Tree) (command : Command) → kept base ≡ store_of_tree j t → store_of_tree j next ≡ kept (apply (store_of_tree j t) command)
    → j.later ≡ [] → LiesInRoot (state_in mid) j → Within (codes "keyspaces") mid new → LeavesOnly mid new (HasEither t next) → LeavesOnly mid new (StandsAmid base [] (command ∷ []))
change_leaves base mid new j t next command is after none lies run leaves =
    weaken mid new _ _ (leaves_beside mid new (HasEither t next) run leaves) (λ image left.
    let root = crashes_leave_the_root (state_in mid) image j lies left.1 in
    change_amid base j t next command image is after (subst (λ l. HasRoot image (journals_with j l)) (no_more root.0 root.1 (root.2 ∙ none)) root.3) left.0 none)

-- a fault before a command was done, or while it was
pub ill_leads : (entries : ℕ → List (List Entry)) (old new : Held) (d : Durable) (command : Command) → old.memory.poisoned ≡ false → Poisons old.memory old new
    → ((base : Store) (pending : List Command) → Lies old (held_on old base pending) → LeavesOnly old.disk new.disk (StandsAmid base [] (pending ++ command ∷ [])))
    → ((base : Store) (pending : List Command) → Lies old (held_on old base pending) → StaysFinished (state_in new.disk)) → StandsOn old entries d → Leads entries new d (command ∷ [])
ill_leads entries old new d command well fault leaves finished = leads_on entries old new d (command ∷ []) (λ base pending on.
    let left = leaves base pending (on.lies well) in
    let rests : CrashLeavesPending (held_on new base (pending ++ command ∷ [])) = at_end old.disk new.disk _ left in
    let was = present_of entries old (held_on old base pending) false well on ∙ ap (λ (m : Remembered). kept (store_with entries m.keyspaces m.trees)) (sym fault.memory_is) in
    let still = stands_ill entries new base (pending ++ command ∷ []) (ap (λ (m : Remembered). m.poisoned) fault.memory_is) rests (finished base pending (on.lies well)) (inr (pending, command, refl, was)) in
    (held_on new base (pending ++ command ∷ []), still, record { leaves = left; safe = []; base = refl; rest = refl; rests = rests }))

-- ---- a change that was done

-- no table of an id that wasn't given out has an entry
abbrev pub AreUnused : (ℕ → List (List Entry)) → ℕ → Type 0
AreUnused entries next = (id : ℕ) → next ≤ id → entries id ≡ []

-- What is known of a change of the keyspaces by one command, from a disk on which nothing is pending: the tree after it,
-- that a crash meanwhile leaves the one or the other, and that what is known of homes stays.
pub record Changed (mid new : Held) (j : Journaling) (t : Tree) (command : Command) (done : Bool) : Type 0 where
  pub next : Tree
  pub after : store_of_tree j next ≡ kept (apply (store_of_tree j t) command)
  pub run : Within (codes "keyspaces") mid.disk new.disk
  pub leaves : LeavesOnly mid.disk new.disk (HasEither t next)
  pub number : done ≡ true → folders.number_of_contents (contents_with j next []) ≤ new.memory.next
  pub records : done ≡ true → List Fields
  pub in_tree : (is : done ≡ true) → LiesInTree (state_in new.disk) (records is) next
  pub last : done ≡ true → next.last ≡ new.catalog
  pub keyspaces : done ≡ true → next.keyspaces ≡ new.memory.keyspaces
  pub journal : done ≡ true → new.journal ≡ mid.journal
  pub journals : done ≡ true → new.memory.journals ≡ mid.memory.journals
  pub known : done ≡ true → (entries : ℕ → List (List Entry)) → AreUnused entries t.keyspaces.next → Knows mid entries j t → Knows new entries j next

-- where base and pending lie after it
changed_lies : (mid new : Held) (base : Store) (command : Command) (lies : Lies mid (held_on mid base [])) → lies.journals.later ≡ [] → Changed mid new lies.journals lies.tree command true → Lies new (held_on new (apply base command) [])
changed_lies mid new base command lies none c =
    let j = lies.journals in
    record {
      journals = j;
      records = c.records refl;
      tree = c.next;
      writing = subst (λ w. IsWriting (state_in new.disk) w j) (sym (c.journal refl)) (writing_along (state_in mid.disk) (state_in new.disk) mid.journal j (within_root mid.disk new.disk c.run) lies.writing);
      in_tree = c.in_tree refl;
      told = subst (AreKnown j) (sym (c.journals refl)) lies.told;
      last = c.last refl;
      keyspaces = c.keyspaces refl;
      made = kept_along base (store_of_tree j lies.tree) (command ∷ []) (lies.made ∙ sym (store_is_kept (contents_with j lies.tree []))) ∙ sym c.after;
      waits = sym (ap (commanded c.next) none);
      next = subst (λ l. folders.number_of_contents (contents_with j c.next l) ≤ new.memory.next) (sym none) (c.number refl);
    }

-- what is known of homes there
changed_knows : (entries : ℕ → List (List Entry)) (mid new : Held) (base : Store) (command : Command) (lies : Lies mid (held_on mid base [])) (none : lies.journals.later ≡ [])
    (c : Changed mid new lies.journals lies.tree command true) → AreUnused entries lies.tree.keyspaces.next
    → Knows mid entries lies.journals lies.tree → Knows new entries (changed_lies mid new base command lies none c).journals (changed_lies mid new base command lies none c).tree
unfolding changed_lies
changed_knows entries mid new base command lies none c unused knows = c.known refl entries unused knows

-- and what passes on the way
pub changed_settles : (entries : ℕ → List (List Entry)) (mid new : Held) (base : Store) (command : Command) (lies : Lies mid (held_on mid base [])) → lies.journals.later ≡ [] → Changed mid new lies.journals lies.tree command true → new.memory.poisoned ≡ false
    → AreUnused entries mid.memory.keyspaces.next → Knows mid entries lies.journals lies.tree
    → kept (apply base command) ≡ kept (store_with entries new.memory.keyspaces new.memory.trees) → Settles entries new (held_on mid base []) (command ∷ [])
changed_settles entries mid new base command lies none c well unused knows present =
    let after = changed_knows entries mid new base command lies none c (subst (λ (s : Keyspaces). AreUnused entries s.next) (sym lies.keyspaces) unused) knows in
    let still = stands_well entries new (apply base command) [] well (changed_lies mid new base command lies none c) after present in (
      held_on new (apply base command) [],
      still,
      record {
        leaves = change_leaves base mid.disk new.disk lies.journals lies.tree c.next command lies.made c.after none lies.writing.root c.run c.leaves;
        safe = command ∷ [];
        base = refl;
        rest = refl;
        rests = still.rests;
      },
      refl,
    )
