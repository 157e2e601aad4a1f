-- Where the writing of a flush that was out leads a core and its disk.
use Rattle.std.proofs.Common.{◌≡◌, ◌≢◌, ◌⊎◌, inl, ℕ, ◌<◌, ◌≤◌, ◌==◌, Bool, true, false, List, [], ◌++◌, take, Some, refl, sym, ◌∙◌, ap, subst, arith}
use Rattle.std.proofs.lemmas.List.{append-nil}
use Rattle.std.specs.FinMap.{insert}
use Rattle.fjall_base.specs.Store.{Store, Command, kept}
use Rattle.fjall_base.specs.Disk.{LeavesOnly, state_in}
use Rattle.fjall_base.proofs.Moments.{at_end}
use Rattle.fjall_changes.specs.Journaling.{IsWriting}
use Rattle.fjall_files.specs.Names.{Table, table_name}
use Rattle.fjall_files.specs.Tidy.{IsTidy}
use Rattle.fjall_compaction.specs.FlushFinishing.{CanFinish}
use Rattle.fjall_compaction.specs.Flushes.{Flush, Follows, HasAt, flushed_infos, record_after_flush, tree_after}
use Rattle.fjall_compaction.specs.Covering.{MayCount}
use Rattle.fjall_compaction.proofs.Composed.{is_home}
use Rattle.fjall_compaction.proofs.FlushFinishing.{above, are_after, end_inside, end_is_small, follows_last, may_count}
use Rattle.fjall_compaction.proofs.SameNumber.{between_numbers, run_stands}
use Rattle.fjall_compaction.proofs.FlushSameStore.{same_pending, same_store}
use Rattle.fjall_manifest.specs.Homes.{Home}
use Rattle.fjall_manifest.proofs.Outside.{within_keyspaces}
use Rattle.fjall_manifest.proofs.Resting.{last_record}
use Rattle.fjall_jobs.specs.declared.flush_made.FlushMade.{FlushMade}
use Rattle.fjall_jobs.specs.declared.made_table.MadeTable.{MadeTable}
use Rattle.fjall_jobs.specs.Made.{flush_tables, flushed_task}
use Rattle.fjall_jobs.specs.Tasks.{IsFlushed, Task}
use Rattle.fjall_journal.specs.Writer as writer
use Rattle.fjall_replay.specs.Known.{IsKnown, last_known}
use Rattle.fjall_tree.specs.Jobs.{IsFlushing, flush_end, flush_finished}
use Rattle.fjall_tree.specs.Trees.{Flushing, Shape}
use Rattle.fjall_trees.specs.MapTables.{store_with}
use Rattle.fjall_meta.specs.declared.living.LivingKeyspace.{LivingKeyspace}
use Rattle.fjall_meta.specs.Keyspaces.{Keyspaces, keyspace_at}
use Rattle.fjall_memtable.specs.Parts.{clears_in}
use Rattle.fjall_recovery.specs.Folders.{number_of_contents}
use Rattle.fjall_recovery.specs.Halves.{HasTree, Tree}
use Rattle.fjall_recovery.specs.Places.{Journaling, contents_with}
use Rattle.fjall_memtable.specs.Sorted.{flat}
use Rattle.fjall_machine.specs.Finishing.{IsFlushFinished, keyspace_of}
use Rattle.fjall_machine.specs.Machine.{flush_with, is_living}
use Rattle.fjall_machine.specs.Remembered.{IsLawful, Remembered, with_flush}
use Rattle.fjall_machine.proofs.Facts.{living_names, some_there}
use Rattle.fjall_table.specs.Blocks.{Entry}
use Rattle.fjall_manifest.specs.Records.{Fields}
use Rattle.fjall_trees.specs.Forests.{IsTree, altered_at, tree_at}
use Rattle.fjall_trees.specs.Tables.{entries_with, shape_in}
use Rattle.fjall_trees.proofs.Changing.{tree_under}
use Rattle.fjall_trees.proofs.Outstanding.{flushing_tree}
use Rattle.fjall_trees.proofs.Places.{tree_has}
use Rattle.fjall_meta.proofs.Found.{found_has, found_passes}
use Rattle.fjall_meta.proofs.Slots.{same_id}
use Rattle.fjall_engine.specs.Holding.{Held}
use Rattle.fjall_engine.specs.CallParts.{WroteFlush}
use Rattle.fjall_engine.specs.Durables.{AreKnown, CoversSynced, CrashLeavesPending, Durable, Knows, Lies, StandsAmid, StaysFinished}
use Rattle.fjall_engine.specs.Standing.{Becomes, Poisons, StandsOn, store_in, store_with_tables}
use Rattle.fjall_engine.proofs.JournalWrites.{Leads, held_on, leads_on, present_of, stands_ill, stands_well}
use Rattle.fjall_engine.proofs.KnownCores.{knows_memory}
use Rattle.fjall_engine.proofs.KnownFlushes.{covered_finished}
use Rattle.fjall_engine.proofs.KnownHomes.{AreAllKnown}
use Rattle.fjall_engine.proofs.MadeFlushes.{flushed_of}
use Rattle.fjall_engine.proofs.RootUnchanged.{within_finished, within_root, writing_along}

-- A flush is out of a keyspace that lives, as it was begun with some memtables, in a core that no fault has poisoned.
pub record MayPut (old : Held) (made : FlushMade) : Type 0 where
  pub well : old.memory.poisoned ≡ false
  pub living : is_living (store_in old) (keyspace_of made) ≡ true
  pub out : IsFlushing (shape_in (keyspace_of made) old.memory.trees) (flushed_task made)
  pub some : (flushed_task made).runs ≢ []

module _ (old : Held) (made : FlushMade) (may : MayPut old made) where
  abbrev id : ℕ
  id = keyspace_of made

  abbrev m : Remembered
  m = old.memory

  abbrev task : Task
  task = flushed_task made

  abbrev shape : Shape
  shape = shape_in id m.trees

  abbrev pub out : Flushing
  out = may.out.out

  abbrev tables : List MadeTable
  tables = flush_tables made

  -- the keyspace
  pub found : (k : LivingKeyspace) × (keyspace_at id m.keyspaces.living ≡ Some k)
  found = some_there (keyspace_at id m.keyspaces.living) (sym (living_names m.keyspaces m.trees id) ∙ may.living)

  abbrev pub living_there : LivingKeyspace
  living_there = record found.0 { id = id }

  pub lives_there : keyspace_at id m.keyspaces.living ≡ Some living_there
  lives_there =
      let same : found.0.id ≡ id = same_id found.0.id id (found_passes (λ j. j.id == id) m.keyspaces.living found.0 found.1) in
      found.1 ∙ (λ i. Some (record found.0 { id = same i }))

  abbrev last : Fields
  last = last_known m.records living_there

  -- what was made of the task, by the clears of the memtables
  abbrev pub clears_there : List ℕ
  clears_there = clears_in (take out.count shape.memory.sealed)

  pub flushed_there : IsFlushed task tables clears_there
  flushed_there = let is = flushed_of made in subst (IsFlushed task tables) (is.clears_are ∙ may.out.clears) is

  abbrev pub lists_there : List (List Entry)
  lists_there = flushed_there.lists

  abbrev f : Flush
  f = flush_with shape out tables

  -- what tables have after it
  abbrev pub entries_after : (ℕ → List (List Entry)) → ℕ → List (List Entry)
  entries_after entries = entries_with id (entries id ++ lists_there) entries

  module _ (lawful : IsLawful old.memory) (entries : ℕ → List (List Entry)) (base : Store) (pending : List Command) (lies : Lies old (held_on old base pending)) (knows : Knows old entries lies.journals lies.tree) where
    abbrev j : Journaling
    j = lies.journals

    abbrev t : Tree
    t = lies.tree

    lives_in : keyspace_at id t.keyspaces.living ≡ Some living_there
    lives_in = ap (λ (s : Keyspaces). keyspace_at id s.living) lies.keyspaces ∙ lives_there

    has : tree_at id m.trees ≡ Some shape
    has = flushing_tree id m.trees task may.out

    can : CanFinish j t m.trees entries m.records living_there task
    can = record {
      forest = lawful.forest;
      have = lies.in_tree.rests.versions;
      living = lives_in;
      are = record { replayed = knows.shown; known = knows.homes };
      flushing = may.out;
      some = may.some;
      small = end_is_small m.trees id task lawful.forest may.out;
      later = (tree_under (CoversSynced j.later) m.trees id shape knows.covered has out may.out.is).1;
    }

    -- its home
    known : IsKnown m.records m.trees entries t.homes t.versions living_there
    known = found_has (λ i. i.id == id) (IsKnown m.records m.trees entries t.homes t.versions) t.keyspaces.living living_there lives_in knows.homes

    abbrev h : Home
    h = known.h

    at : HasAt t id h (flat (entries id))
    at = record { home = known.home; stored = known.stored }

    counts : MayCount j t id f lists_there h (flat (entries id))
    counts = may_count j t m.trees entries m.records living_there task can h known.home tables clears_there flushed_there

    follows : Follows f lists_there h.last
    follows = follows_last j t m.trees entries m.records living_there task can h known.home tables clears_there flushed_there

    abbrev next : Tree
    next = tree_after id f lists_there h (flat (entries id)) t

    -- ---- meanwhile

    module _ (new : Held) (done : Bool) (wrote : WroteFlush old.memory made old.disk new.disk done) where
      leaves : LeavesOnly old.disk new.disk (λ image. HasTree image t ⊎ HasTree image next)
      leaves = wrote.leaves living_there out lives_there may.out.is lies.records t h (flat (entries id)) lists_there lies.in_tree at (sym known.last) follows

      pub put_leaves : LeavesOnly old.disk new.disk (StandsAmid base [] pending)
      put_leaves =
          subst (λ (l : List Command). LeavesOnly old.disk new.disk (StandsAmid base [] l)) (sym lies.waits)
          (run_stands j t id f lists_there h (flat (entries id)) counts base old.disk new.disk lies.made lies.writing.root wrote.within leaves)

      pub put_finished : StaysFinished (state_in new.disk)
      put_finished = within_finished old.disk new.disk j lies.writing.root (within_keyspaces id old.disk new.disk wrote.within)

      -- no call was one that no disk can serve, where nothing stands in the way
      pub put_served : IsTidy (state_in old.disk) → new.disk.misuses ≡ old.disk.misuses
      put_served tidy =
          let home = is_home (state_in old.disk) lies.records t id h (flat (entries id)) lies.in_tree at in
          let fits = (last_record (state_in old.disk) id home.safe.records h home.safe.rests).fits.room.next_table_id in
          let given : id < m.keyspaces.next = tree_under (λ k. k.id < m.keyspaces.next) m.trees id shape lawful.given has in
          let small = lawful.keyspaces.fits in
          let number = h.last.next_table_id in
          wrote.served living_there out lives_there may.out.is lies.records t h (flat (entries id)) lists_there lies.in_tree at (sym known.last) follows
          ((tidy (table_name id number)).0.kind (Table id number) (omega (arith, given, small), fits) refl)

    -- ---- once it was done

    module _ (new : Held) (wrote : WroteFlush old.memory made old.disk new.disk true) (fin : IsFlushFinished old.memory (keyspace_of made) (last_known old.memory.records living_there) may.out.out (flush_tables made) new.memory)
        (becomes : Becomes old new.memory new) where
      -- memory ends before the next number, and so does what the flush takes
      below : flush_end shape ≤ m.next
      below =
          let tree = tree_has IsTree m.trees id shape lawful.forest.each has in
          let inside = (end_inside shape tree).0 in
          let ends : shape.memory.active.until ≤ m.next = tree_under (λ k. k.shape.memory.active.until ≤ m.next) m.trees id shape lawful.below has in
          omega (arith, inside, ends)

      number_below : number_of_contents (contents_with j next j.later) ≤ m.next
      number_below =
          let some : 0 < flush_end shape = above j t m.trees entries m.records living_there task can in
          let between = (between_numbers j t id f lists_there h (flat (entries id)) counts j.later).1 in
          let was = lies.next in
          let most = below in
          omega (arith, some, between, was, most)

      pub put_lies : Lies new (held_on new base pending)
      put_lies = record {
        journals = j;
        records = lies.records;
        tree = next;
        writing = subst (λ (w : writer.Journal). IsWriting (state_in new.disk) w j) (sym becomes.journal)
            (writing_along (state_in old.disk) (state_in new.disk) old.journal j (within_root old.disk new.disk (within_keyspaces id old.disk new.disk wrote.within)) lies.writing);
        in_tree = wrote.lies refl living_there out lives_there may.out.is lies.records t h (flat (entries id)) lists_there lies.in_tree at (sym known.last) follows;
        told = subst (λ (x : Remembered). AreKnown j x.journals) (sym fin.is) lies.told;
        last = lies.last ∙ sym becomes.catalog;
        keyspaces = lies.keyspaces ∙ ap (λ (x : Remembered). x.keyspaces) (sym fin.is);
        made = lies.made ∙ sym (same_store j t id f lists_there h (flat (entries id)) counts [] j.later refl);
        waits = lies.waits ∙ sym (same_pending j t id f lists_there h (flat (entries id)) counts);
        next = subst (λ (n : ℕ). number_of_contents (contents_with j next j.later) ≤ n) (sym (ap (λ (x : Remembered). x.next) fin.is)) number_below;
      }

      pub put_knows : Knows new (entries_after entries) put_lies.journals put_lies.tree
      unfolding can put_lies
      put_knows =
          let infos = fin.are.infos ∙ ap (λ (l : Fields). flushed_infos l.next_table_id tables) known.last in
          let after = are_after j t m.trees entries m.records living_there task can h known.home tables clears_there flushed_there fin.readers infos in
          let trees = altered_at id (flush_finished fin.readers out) m.trees in
          knows_memory (entries_after entries) old new (with_flush id out fin.readers (record_after_flush f last) m) j next fin.is (record {
            shown = after.replayed;
            homes = subst (λ (l : Fields). AreAllKnown (insert m.records id (record_after_flush f l)) trees (entries_after entries) next.homes next.versions next.keyspaces.living) (sym known.last) after.known;
            covered = covered_finished j.later id fin.readers out m.trees knows.covered;
          })

-- ---- where it leads

-- it is enough to look at the core's own disk, also where tables have more
pub leads_over : (entries others : ℕ → List (List Entry)) (old new : Held) (d : Durable) (tried : List Command)
    → ((base : Store) (pending : List Command) → StandsOn old entries (held_on old base pending) → Leads others new (held_on old base pending) tried) → StandsOn old entries d → Leads others new d tried
leads_over entries others old new d tried leads stands =
    let here : d ≡ held_on old d.base d.pending = λ i. record { meaning = stands.same i; base = d.base; pending = d.pending } in
    subst (λ (x : Durable). Leads others new x tried) (sym here) (leads d.base d.pending (subst (λ (x : Durable). StandsOn old entries x) here stands))

-- the flush was finished: base and pending stay
pub put_leads : (entries : ℕ → List (List Entry)) (old new : Held) (made : FlushMade) (may : MayPut old made) (d : Durable) → IsLawful old.memory → WroteFlush old.memory made old.disk new.disk true
    → IsFlushFinished old.memory (keyspace_of made) (last_known old.memory.records (living_there old made may)) may.out.out (flush_tables made) new.memory → Becomes old new.memory new
    → kept (store_with_tables entries old) ≡ kept (store_with_tables (entries_after old made may entries) new) → StandsOn old entries d → Leads (entries_after old made may entries) new d []
put_leads entries old new made may d lawful wrote fin becomes same = leads_over entries (entries_after old made may entries) old new d [] (λ base pending on.
    let lies = on.lies may.well in
    let knows = on.knows may.well in
    let after = put_lies old made may lawful entries base pending lies knows new wrote fin becomes in
    let still = stands_well (entries_after old made may entries) new base pending (ap (λ (x : Remembered). x.poisoned) fin.is ∙ may.well) after (put_knows old made may lawful entries base pending lies knows new wrote fin becomes)
    (present_of entries old (held_on old base pending) false may.well on ∙ same) in
    let leaves = put_leaves old made may lawful entries base pending lies knows new true wrote in (
      held_on new base pending,
      still,
      record {
        leaves = subst (λ (l : List Command). LeavesOnly old.disk new.disk (StandsAmid base [] l)) (sym (append-nil pending)) leaves;
        safe = [];
        base = refl;
        rest = sym (append-nil pending);
        rests = still.rests;
      },
    ))

-- a fault stopped it: the flush may have reached the disk or not
pub unput_leads : (entries : ℕ → List (List Entry)) (old new : Held) (made : FlushMade) (may : MayPut old made) (d : Durable) → IsLawful old.memory → WroteFlush old.memory made old.disk new.disk false → Poisons old.memory old new
    → StandsOn old entries d → Leads entries new d []
unput_leads entries old new made may d lawful wrote fault = leads_on entries old new d [] (λ base pending on.
    let lies = on.lies may.well in
    let knows = on.knows may.well in
    let leaves = put_leaves old made may lawful entries base pending lies knows new false wrote in
    let rests : CrashLeavesPending (held_on new base pending) = at_end old.disk new.disk _ leaves in
    let was = present_of entries old (held_on old base pending) false may.well on ∙ ap (λ (x : Remembered). kept (store_with entries x.keyspaces x.trees)) (sym fault.memory_is) in
    let still = stands_ill entries new base pending (ap (λ (x : Remembered). x.poisoned) fault.memory_is) rests (put_finished old made may lawful entries base pending lies knows new false wrote) (inl was) in (
      held_on new base pending,
      still,
      record {
        leaves = subst (λ (l : List Command). LeavesOnly old.disk new.disk (StandsAmid base [] l)) (sym (append-nil pending)) leaves;
        safe = [];
        base = refl;
        rest = sym (append-nil pending);
        rests = rests;
      },
    ))

-- wherever the core stood, no call was one that no disk can serve
pub put_serves : (entries : ℕ → List (List Entry)) (old new : Held) (made : FlushMade) (may : MayPut old made) (d : Durable) (done : Bool) → IsLawful old.memory → WroteFlush old.memory made old.disk new.disk done
    → StandsOn old entries d → IsTidy (state_in old.disk) → new.disk.misuses ≡ old.disk.misuses
put_serves entries old new made may d done lawful wrote on tidy =
    let here : d ≡ held_on old d.base d.pending = λ i. record { meaning = on.same i; base = d.base; pending = d.pending } in
    let stands = subst (λ (x : Durable). StandsOn old entries x) here on in
    put_served old made may lawful entries d.base d.pending (stands.lies may.well) (stands.knows may.well) new done wrote tidy
