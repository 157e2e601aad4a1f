-- What a core knows of its keyspaces' homes, while its memory and its disk change.
use Rattle.std.proofs.Common.{◌≡◌, ◌≢◌, ◌⊎◌, inl, inr, ℕ, ◌<◌, Bool, true, false, not, List, [], ◌∷◌, ◌++◌, All, None, Some, refl, sym, ◌∙◌, ap, subst}
use Rattle.std.specs.FinMap.{insert, remove}
use Rattle.std.proofs.lemmas.Bool.{true≢false}
use Rattle.fjall_base.specs.Pairs.{Bytes}
use Rattle.fjall_manifest.specs.declared.catalog.Catalog.{Catalog}
use Rattle.fjall_manifest.specs.Catalog.{fields, first_of}
use Rattle.fjall_changes.specs.Changes.{with_home, without_home}
use Rattle.fjall_journal.specs.Batches.{Shown, Written, shown}
use Rattle.fjall_journal.specs.Changes.{Change, Emptied, Items, of_change}
use Rattle.fjall_tree.specs.Trees.{Shape, sealed_off}
use Rattle.fjall_meta.specs.Keyspaces.{AreKeyspaces, Keyspaces, keyspace_at}
use Rattle.fjall_memtable.specs.Parts.{holds_nothing}
use Rattle.fjall_recovery.specs.Halves.{Tree}
use Rattle.fjall_recovery.specs.Homes.{stored_in}
use Rattle.fjall_recovery.specs.Places.{Journaling}
use Rattle.fjall_replay.specs.Beside.{AreReplayedWith, MayComeNext}
use Rattle.fjall_replay.proofs.Following.{clear_more, items_more}
use Rattle.fjall_replay.proofs.Staying.{dropped_stay, same_stay, sealed_stay}
use Rattle.fjall_machine.specs.Allowed.{FitsBatch}
use Rattle.fjall_machine.specs.Machine.{changed, holds_some, rotates}
use Rattle.fjall_machine.specs.Remembered.{Remembered, with_change, with_creation}
use Rattle.fjall_replay.specs.Known.{LastFields}
use Rattle.fjall_table.specs.Blocks.{Entry}
use Rattle.fjall_trees.specs.Forests.{Forest, altered_at, tree_at, without}
use Rattle.fjall_trees.specs.Tables.{AreSameTrees}
use Rattle.fjall_trees.specs.Writes.{with_tree}
use Rattle.fjall_engine.specs.Holding.{Held}
use Rattle.fjall_engine.specs.Durables.{Knows}
use Rattle.fjall_engine.proofs.KnownBatches.{all_shown, shown_created, shown_deleted}
use Rattle.fjall_engine.proofs.KnownFlushes.{AreCovered, covered_emptied, covered_more, covered_planted, covered_pushed, covered_same, covered_sealed, covered_without, inside_of}
use Rattle.fjall_engine.proofs.KnownHomes.{AreAllKnown, GoesOnAt, emptied_on, known_created, known_deleted, known_dropped, known_trees, pushed_on, same_on, sealed_on}

module _ (entries : ℕ → List (List Entry)) where
  -- ---- journals

  -- journals of the same batches, of which the same wait or none
  pub knows_journals : (core : Held) (old new : Journaling) (t : Tree) → all_shown new ≡ all_shown old → (new.later ≡ old.later) ⊎ (new.later ≡ []) → Knows core entries old t → Knows core entries new t
  knows_journals core old new t same later knows = record {
    shown = subst (λ (batches : List Shown). AreReplayedWith entries t.keyspaces (stored_in t.homes t.versions) batches core.memory.trees) (sym same) knows.shown;
    homes = knows.homes;
    covered = by later;
  }
    where
      by : (new.later ≡ old.later) ⊎ (new.later ≡ []) → AreCovered new.later core.memory.trees
      by (inl is) = subst (λ (l : List Written). AreCovered l core.memory.trees) (sym is) knows.covered
      by (inr none) = subst (λ (l : List Written). AreCovered l core.memory.trees) (sym none) (inside_of old.later core.memory.trees knows.covered)

  -- ---- memory

  -- the trees and the last records stay
  pub knows_same : (old new : Held) (j : Journaling) (t : Tree) → new.memory.trees ≡ old.memory.trees → new.memory.records ≡ old.memory.records → Knows old entries j t → Knows new entries j t
  knows_same old new j t trees records knows = record {
    shown = subst (AreReplayedWith entries t.keyspaces (stored_in t.homes t.versions) (all_shown j)) (sym trees) knows.shown;
    homes = subst (λ (f : Forest). AreAllKnown new.memory.records f entries t.homes t.versions t.keyspaces.living) (sym trees)
        (subst (λ (r : LastFields). AreAllKnown r old.memory.trees entries t.homes t.versions t.keyspaces.living) (sym records) knows.homes);
    covered = subst (AreCovered j.later) (sym trees) knows.covered;
  }

  -- memory is another one of these trees and these records
  pub knows_memory : (old new : Held) (m : Remembered) (j : Journaling) (t : Tree) → new.memory ≡ m → Knows (record old { memory = m }) entries j t → Knows new entries j t
  knows_memory old new m j t is =
      knows_same (record old { memory = m }) new j t (ap (λ (x : Remembered). x.trees) is) (ap (λ (x : Remembered). x.records) is)

  -- trees that change, and the last records stay
  knows_trees : (old new : Held) (j : Journaling) (t : Tree) → new.memory.records ≡ old.memory.records → ((id : ℕ) → GoesOnAt id old.memory.trees new.memory.trees)
      → (AreReplayedWith entries t.keyspaces (stored_in t.homes t.versions) (all_shown j) old.memory.trees → AreReplayedWith entries t.keyspaces (stored_in t.homes t.versions) (all_shown j) new.memory.trees)
      → (AreCovered j.later old.memory.trees → AreCovered j.later new.memory.trees) → Knows old entries j t → Knows new entries j t
  knows_trees old new j t records on shows covers knows = record {
    shown = shows knows.shown;
    homes = subst (λ (r : LastFields). AreAllKnown r new.memory.trees entries t.homes t.versions t.keyspaces.living) (sym records)
        (known_trees old.memory.records old.memory.trees new.memory.trees entries t.homes t.versions t.keyspaces.living on knows.homes);
    covered = covers knows.covered;
  }

  -- whatever is kept of tables
  pub knows_looked : (old new : Held) (j : Journaling) (t : Tree) → new.memory.records ≡ old.memory.records → AreSameTrees old.memory.trees new.memory.trees → Knows old entries j t → Knows new entries j t
  knows_looked old new j t records same =
      knows_trees old new j t records (same_on old.memory.trees new.memory.trees same)
      (same_stay old.memory.trees new.memory.trees same entries t.keyspaces (stored_in t.homes t.versions) (all_shown j)) (covered_same j.later old.memory.trees new.memory.trees same)

  -- a memtable is sealed that holds something
  pub knows_sealed : (old new : Held) (id : ℕ) (j : Journaling) (t : Tree) → new.memory.records ≡ old.memory.records → new.memory.trees ≡ altered_at id sealed_off old.memory.trees → rotates old.memory.trees id ≡ true
      → Knows old entries j t → Knows new entries j t
  knows_sealed old new id j t records is rotated =
      knows_trees old new j t records
      (subst (λ (f : Forest). (other : ℕ) → GoesOnAt other old.memory.trees f) (sym is) (sealed_on id old.memory.trees holds))
      (λ shows. subst (AreReplayedWith entries t.keyspaces (stored_in t.homes t.versions) (all_shown j)) (sym is) (sealed_stay id old.memory.trees entries t.keyspaces (stored_in t.homes t.versions) (all_shown j) shows))
      (λ covered. subst (AreCovered j.later) (sym is) (covered_sealed j.later id old.memory.trees covered))
    where
      turned : (b : Bool) → not b ≡ true → b ≡ false
      turned true none = absurd (true≢false (sym none))
      turned false none = refl

      holds : (shape : Shape) → tree_at id old.memory.trees ≡ Some shape → holds_nothing shape.memory.active ≡ false
      holds shape at = turned (holds_nothing shape.memory.active) (sym (ap holds_some at) ∙ rotated)

  -- the tree and the last record of an id that no keyspace has are dropped
  pub knows_dropped : (old new : Held) (id : ℕ) (j : Journaling) (t : Tree) → new.memory.records ≡ remove old.memory.records id → new.memory.trees ≡ without id old.memory.trees → keyspace_at id t.keyspaces.living ≡ None
      → All (λ k. k.id ≢ id) t.keyspaces.living → Knows old entries j t → Knows new entries j t
  knows_dropped old new id j t records is none differ knows = record {
    shown = subst (AreReplayedWith entries t.keyspaces (stored_in t.homes t.versions) (all_shown j)) (sym is)
        (dropped_stay id old.memory.trees entries t.keyspaces (stored_in t.homes t.versions) (all_shown j) none knows.shown);
    homes = subst (λ (f : Forest). AreAllKnown new.memory.records f entries t.homes t.versions t.keyspaces.living) (sym is)
        (subst (λ (r : LastFields). AreAllKnown r (without id old.memory.trees) entries t.homes t.versions t.keyspaces.living) (sym records)
        (known_dropped id old.memory.records old.memory.trees entries t.homes t.versions t.keyspaces.living differ knows.homes));
    covered = subst (AreCovered j.later) (sym is) (covered_without j.later id old.memory.trees knows.covered);
  }

  -- ---- a change, which comes next

  changed_on : (n : ℕ) (change : Change) (trees : Forest) (id : ℕ) → GoesOnAt id trees (changed n change trees)
  changed_on n (Items items) trees = pushed_on n items trees
  changed_on n (Emptied id) trees = emptied_on n id trees

  changed_more : (s : Keyspaces) (stored : _) (batches : List Shown) (n : ℕ) (trees : Forest) (change : Change) → MayComeNext s stored batches n trees → FitsBatch change → AreReplayedWith entries s stored batches trees
      → AreReplayedWith entries s stored (batches ++ shown (of_change change n) ∷ []) (changed n change trees)
  changed_more s stored batches n trees (Items items) next fits = items_more entries s stored batches n trees items next fits
  changed_more s stored batches n trees (Emptied id) next fits = clear_more entries s stored batches n trees id next

  covered_changed : (later : List Written) (n : ℕ) (change : Change) (trees : Forest) → AreCovered later trees → AreCovered later (changed n change trees)
  covered_changed later n (Items items) trees = covered_pushed later n items trees
  covered_changed later n (Emptied id) trees = covered_emptied later n id trees

  -- its batch waits behind the others, or none waits any more
  abbrev WaitsToo : Journaling → Journaling → Written → Type 0
  WaitsToo j after batch = (after.later ≡ j.later ++ batch ∷ []) ⊎ (after.later ≡ [])

  pub knows_changed : (old new : Held) (change : Change) (j after : Journaling) (t : Tree) → new.memory ≡ with_change change old.memory
      → all_shown after ≡ all_shown j ++ shown (of_change change old.memory.next) ∷ [] → WaitsToo j after (of_change change old.memory.next)
      → MayComeNext t.keyspaces (stored_in t.homes t.versions) (all_shown j) old.memory.next old.memory.trees → FitsBatch change
      → Knows old entries j t → Knows new entries after t
  knows_changed old new change j after t is batches waits next fits knows =
      knows_memory old new (with_change change old.memory) after t is (record {
        shown = subst (λ (l : List Shown). AreReplayedWith entries t.keyspaces (stored_in t.homes t.versions) l trees) (sym batches)
            (changed_more t.keyspaces (stored_in t.homes t.versions) (all_shown j) old.memory.next old.memory.trees change next fits knows.shown);
        homes = known_trees old.memory.records old.memory.trees trees entries t.homes t.versions t.keyspaces.living (changed_on old.memory.next change old.memory.trees) knows.homes;
        covered = by waits;
      })
    where
      trees : Forest
      trees = changed old.memory.next change old.memory.trees

      batch : Written
      batch = of_change change old.memory.next

      by : WaitsToo j after batch → AreCovered after.later trees
      by (inl is) =
          subst (λ (l : List Written). AreCovered l trees) (sym is)
          (covered_changed (j.later ++ batch ∷ []) old.memory.next change old.memory.trees (covered_more j.later batch old.memory.trees next.forest next.before knows.covered))
      by (inr none) =
          subst (λ (l : List Written). AreCovered l trees) (sym none)
          (covered_changed [] old.memory.next change old.memory.trees (inside_of j.later old.memory.trees knows.covered))

  -- ---- keyspaces

  -- a keyspace is made, behind all batches
  pub knows_created : (old new : Held) (name : Bytes) (options : List Bytes) (c : Catalog) (j : Journaling) (t : Tree) → t.keyspaces ≡ old.memory.keyspaces → new.memory ≡ with_creation name options old.memory
      → AreKeyspaces old.memory.keyspaces → All (λ k. k.id < old.memory.keyspaces.next) old.memory.trees → entries old.memory.keyspaces.next ≡ [] → All (λ b. b.number < old.memory.next) (all_shown j)
      → Knows old entries j t → Knows new entries j (with_home name options old.memory.next c t)
  knows_created old new name options c j t same is are given none older knows =
      let m = old.memory in
      let t_are = subst AreKeyspaces (sym same) are in
      let t_given = subst (λ (s : Keyspaces). All (λ k. k.id < s.next) m.trees) (sym same) given in
      let t_none = subst (λ (s : Keyspaces). entries s.next ≡ []) (sym same) none in
      knows_same (record old { memory = record m { trees = with_tree t.keyspaces.next m.next m.trees; records = insert m.records t.keyspaces.next (fields (first_of m.next)) } }) new j (with_home name options m.next c t)
      (ap (λ (x : Remembered). x.trees) is ∙ ap (λ (s : Keyspaces). with_tree s.next m.next m.trees) (sym same))
      (ap (λ (x : Remembered). x.records) is ∙ ap (λ (s : Keyspaces). insert m.records s.next (fields (first_of m.next))) (sym same))
      (record {
        shown = shown_created name options m.next c t t_are entries t_none (all_shown j) older m.trees t_given knows.shown;
        homes = known_created name options m.next t.keyspaces t_are m.records m.trees entries t.homes t.versions t_given t_none knows.homes;
        covered = covered_planted j.later t.keyspaces.next m.next m.trees knows.covered;
      })

  -- or deleted: its tree and its last record stay in memory
  pub knows_deleted : (old new : Held) (id : ℕ) (c : Catalog) (j : Journaling) (t : Tree) → new.memory.trees ≡ old.memory.trees → new.memory.records ≡ old.memory.records
      → Knows old entries j t → Knows new entries j (without_home id c t)
  knows_deleted old new id c j t trees records knows =
      knows_same old new j (without_home id c t) trees records (record {
        shown = shown_deleted id c t entries (all_shown j) old.memory.trees knows.shown;
        homes = known_deleted id old.memory.records old.memory.trees entries t.homes t.versions t.keyspaces knows.homes;
        covered = knows.covered;
      })
