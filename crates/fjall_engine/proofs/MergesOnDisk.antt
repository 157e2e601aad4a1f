-- Where a merge that was out leads a core and its disk: as it is written, and as the tables that it took are removed.
use Rattle.std.proofs.Common.{◌≡◌, inl, ℕ, ◌<◌, ◌≤◌, ◌^◌, ◌==◌, Bool, true, false, List, [], map, take, Some, String, refl, sym, ◌∙◌, ap, subst, arith}
use Rattle.std.specs.FinMap.{get, insert}
use Rattle.std.specs.declared.alloc.Global.{Global}
use Rattle.std.proofs.lemmas.Bool.{cond-true, eq-eqb}
use Rattle.std.proofs.lemmas.List.{append-nil}
use Rattle.fjall_base.specs.Store.{Store, Command, kept}
use Rattle.fjall_base.specs.Disk.{LeavesOnly, state_in}
use Rattle.fjall_base.proofs.Moments.{at_end, runs_on}
use Rattle.fjall_changes.specs.Journaling.{IsWriting}
use Rattle.fjall_files.specs.Names.{Table, keyspace_folder, table_name}
use Rattle.fjall_files.specs.Regions.{Within}
use Rattle.fjall_files.specs.Tidy.{IsTidy}
use Rattle.fjall_files.proofs.Tidying.{tidy_on}
use Rattle.fjall_compaction.specs.Flushes.{HasAt}
use Rattle.fjall_compaction.proofs.Composed.{is_home}
use Rattle.fjall_manifest.specs.Homes.{Home}
use Rattle.fjall_manifest.proofs.Outside.{within_keyspaces}
use Rattle.fjall_manifest.proofs.Resting.{last_record}
use Rattle.fjall_jobs.specs.declared.made_table.MadeTable.{MadeTable}
use Rattle.fjall_jobs.specs.declared.merge_made.MergeMade.{MergeMade}
use Rattle.fjall_jobs.specs.Made.{merge_clears, merge_tables, merged_target, merged_task}
use Rattle.fjall_jobs.specs.Merges.{IsMerged}
use Rattle.fjall_jobs.specs.Tasks.{Task}
use Rattle.fjall_journal.specs.Batches.{shown}
use Rattle.fjall_journal.specs.Writer as writer
use Rattle.fjall_replay.specs.Known.{IsKnown, last_known}
use Rattle.fjall_tree.specs.Jobs.{IsMerging, is_merge_out, merge_finished}
use Rattle.fjall_tree.specs.Trees.{Merging, Shape}
use Rattle.fjall_trees.specs.MapTables.{store_with}
use Rattle.fjall_compaction.specs.MergeFinishing.{CanMerge}
use Rattle.fjall_compaction.specs.Merges.{Merge, MergesTables, home_after, merged_infos, record_after_merge, tree_after}
use Rattle.fjall_compaction.specs.Merges as merges
use Rattle.fjall_compaction.specs.MergePlans as merging
use Rattle.fjall_compaction.proofs.MergeFinishing as Finishing
use Rattle.fjall_compaction.proofs.MergeSameStore as SameStore
use Rattle.fjall_compaction.proofs.Taking.{named_ids}
use Rattle.fjall_meta.specs.declared.living.LivingKeyspace.{LivingKeyspace}
use Rattle.fjall_meta.specs.Keyspaces.{Keyspaces, keyspace_at}
use Rattle.fjall_recovery.specs.Folders.{number_of_contents}
use Rattle.fjall_recovery.specs.Halves.{HasTree, Tree}
use Rattle.fjall_recovery.specs.Places.{Journaling, LiesInTree, contents_with}
use Rattle.fjall_memtable.specs.Sorted.{flat}
use Rattle.fjall_machine.specs.Machine.{is_living, is_merging}
use Rattle.fjall_machine.specs.Merging.{AreTaken, IsMergeFinished, counted_as, keyspace_of}
use Rattle.fjall_machine.specs.Remembered.{IsLawful, Remembered, with_merge, with_merge_done}
use Rattle.fjall_machine.proofs.Facts.{living_names, some_there}
use Rattle.fjall_table.specs.Blocks.{Entry}
use Rattle.fjall_table.specs.declared.table_info.TableInfo.{TableInfo}
use Rattle.fjall_manifest.specs.Records.{Fields}
use Rattle.fjall_trees.specs.Forests.{Forest, altered_at}
use Rattle.fjall_trees.specs.Tables.{entries_with, shape_in}
use Rattle.fjall_trees.proofs.Changing.{tree_under}
use Rattle.fjall_trees.proofs.Outstanding.{merging_tree}
use Rattle.fjall_meta.proofs.Found.{found_has, found_passes}
use Rattle.fjall_meta.proofs.Slots.{get_put, same_id}
use Rattle.fjall_engine.specs.Holding.{Held}
use Rattle.fjall_engine.specs.CallParts.{TookAway, WroteMerge}
use Rattle.fjall_engine.specs.Durables.{AreKnown, CrashLeavesPending, Durable, Knows, Lies, StandsAmid, StaysFinished}
use Rattle.fjall_engine.specs.Standing.{Becomes, IsDueToMergeIn, Poisons, StandsOn, job_of, store_in, store_with_tables}
use Rattle.fjall_engine.proofs.CatalogOnDisk.{removal_leaves}
use Rattle.fjall_engine.proofs.FlushesOnDisk.{leads_over}
use Rattle.fjall_engine.proofs.JournalWrites.{Leads, held_on, leads_on, present_of, stands_ill, stands_well}
use Rattle.fjall_engine.proofs.KeyspaceCalls.{Recounts, recounted_knows, recounted_lies}
use Rattle.fjall_engine.proofs.KnownCores.{knows_memory, knows_same}
use Rattle.fjall_engine.proofs.KnownFlushes.{covered_altered}
use Rattle.fjall_engine.proofs.KnownHomes.{AreAllKnown}
use Rattle.fjall_engine.proofs.RootUnchanged.{within_finished, within_root, writing_along}

-- A merge is out of a keyspace that lives, in a core that no fault has poisoned.
pub record MayMerge (old : Held) (made : MergeMade) : Type 0 where
  pub well : old.memory.poisoned ≡ false
  pub living : is_living (store_in old) (keyspace_of made) ≡ true
  pub out : is_merge_out (merged_task made).id (shape_in (keyspace_of made) old.memory.trees).merge ≡ true

-- the name of its job
pub named_by : (made : MergeMade) (trees : Forest) (number id : ℕ) → number ≡ (merged_task made).id → id ≡ keyspace_of made
    → is_merging trees (record { number = number; keyspace_id = id }) ≡ is_merging trees (job_of (merged_task made))
named_by made trees number id numbered at = λ i. is_merging trees (record { number = numbered i; keyspace_id = at i })

-- so it is where all that was looked for in a core's memory
pub may_merge : (view core : Held) (made : MergeMade) (number id : ℕ) → view ≡ core → number ≡ (merged_task made).id → id ≡ keyspace_of made → is_merging view.memory.trees (record { number = number; keyspace_id = id }) ≡ true
    → is_living (store_in view) id ≡ true → view.memory.poisoned ≡ false → MayMerge core made
may_merge view core made number id same numbered at out lives well = record {
  well = ap (λ (h : Held). h.memory.poisoned) (sym same) ∙ well;
  living = (λ i. is_living (store_in (sym same i)) (sym at i)) ∙ lives;
  out = ap (λ (h : Held). is_merging h.memory.trees (job_of (merged_task made))) (sym same) ∙ sym (named_by made view.memory.trees number id numbered at) ∙ out;
}

-- so where it was looked for by its job's name, and nothing has changed
pub may_go_on : (old mid : Held) (made : MergeMade) (number id : ℕ) → number ≡ (merged_task made).id → id ≡ keyspace_of made
    → IsDueToMergeIn old (record { number = number; keyspace_id = id }) × (old.memory.poisoned ≡ false) × (mid ≡ old) → MayMerge mid made
may_go_on old mid made number id numbered at (due, well, same) = subst (λ (h : Held). MayMerge h made) (sym same) (may_merge old old made number id refl numbered at due.0 due.1 well)

-- the keyspace, which lives
module _ (core : Held) (id : ℕ) (lives : is_living (store_in core) id ≡ true) where
  pub found : (k : LivingKeyspace) × (keyspace_at id core.memory.keyspaces.living ≡ Some k)
  found = some_there (keyspace_at id core.memory.keyspaces.living) (sym (living_names core.memory.keyspaces core.memory.trees id) ∙ lives)

  abbrev pub living_keyspace : LivingKeyspace
  living_keyspace = record found.0 { id = id }

  pub lives_so : keyspace_at id core.memory.keyspaces.living ≡ Some living_keyspace
  lives_so =
      let same : found.0.id ≡ id = same_id found.0.id id (found_passes (λ j. j.id == id) core.memory.keyspaces.living found.0 found.1) in
      found.1 ∙ (λ i. Some (record found.0 { id = same i }))

-- A merge that is out was begun with its task, where tables have these entries, and made of it what it should.
pub record HasMade (old : Held) (made : MergeMade) (entries : ℕ → List (List Entry)) : Type 0 where
  pub may : MayMerge old made
  pub begun : IsMerging (shape_in (keyspace_of made) old.memory.trees) (entries (keyspace_of made)) (merged_task made)
  pub merged : IsMerged (merged_target made) (merged_task made) (merge_tables made) (merge_clears made)

module _ (old : Held) (made : MergeMade) (entries : ℕ → List (List Entry)) (has : HasMade old made entries) where
  abbrev id : ℕ
  id = keyspace_of made

  abbrev m : Remembered
  m = old.memory

  abbrev task : Task
  task = merged_task made

  abbrev shape : Shape
  shape = shape_in id m.trees

  abbrev pub out : Merging
  out = has.begun.out

  abbrev tables : List MadeTable
  tables = merge_tables made

  abbrev pub does : Merge
  does = counted_as out made

  abbrev pub living_there : LivingKeyspace
  living_there = living_keyspace old id has.may.living

  pub lives_there : keyspace_at id m.keyspaces.living ≡ Some living_there
  lives_there = lives_so old id has.may.living

  abbrev pub last : Fields
  last = last_known m.records living_there

  abbrev pub lists : List (List Entry)
  lists = has.merged.lists

  -- what tables have after it
  abbrev pub entries_after : ℕ → List (List Entry)
  entries_after = entries_with id (merges.entries_after does lists (entries id)) entries

  -- the merge is finished in memory
  abbrev pub IsPut : Held → Type 0
  IsPut mid = IsMergeFinished m id last out does mid.memory

  module _ (lawful : IsLawful old.memory) (base : Store) (pending : List Command) (lies : Lies old (held_on old base pending)) (knows : Knows old entries lies.journals lies.tree) where
    abbrev j : Journaling
    j = lies.journals

    abbrev t : Tree
    t = lies.tree

    abbrev can : CanMerge j t m.trees entries m.records living_there task
    can = record {
      forest = lawful.forest;
      have = lies.in_tree.rests.versions;
      living = ap (λ (s : Keyspaces). keyspace_at id s.living) lies.keyspaces ∙ lives_there;
      are = record { replayed = knows.shown; known = knows.homes };
      merging = has.begun;
    }

    -- its home
    known : IsKnown m.records m.trees entries t.homes t.versions living_there
    known = found_has (λ i. i.id == id) (IsKnown m.records m.trees entries t.homes t.versions) t.keyspaces.living living_there can.living knows.homes

    abbrev h : Home
    h = known.h

    at : HasAt t id h (flat (entries id))
    at = record { home = known.home; stored = known.stored }

    counts : MergesTables does lists (entries id) h.last
    counts = Finishing.counts j t m.trees entries m.records living_there task can h known.home (merged_target made) tables (merge_clears made) has.merged

    abbrev home_then : Home
    home_then = home_after does h

    abbrev next : Tree
    next = tree_after id does lists h (entries id) t

    -- the home after it is in the tree after it
    at_next : HasAt next id home_then (flat (merges.entries_after does lists (entries id)))
    at_next =
        let here = eq-eqb id id refl in
        let then = flat (merges.entries_after does lists (entries id)) in
        record {
          home = get_put t.homes id home_then id ∙ cond-true (id == id) (Some home_then) (get t.homes id) here;
          stored = get_put t.versions id then id ∙ cond-true (id == id) (Some then) (get t.versions id) here;
        }

    -- its id has its place
    small : id < 2 ^ 64
    small =
        let given : id < m.keyspaces.next = tree_under (λ k. k.id < m.keyspaces.next) m.trees id shape lawful.given (merging_tree id m.trees (entries id) task has.begun) in
        let fits = lawful.keyspaces.fits in
        omega (arith, given, fits)

    -- ---- while it is written

    module _ (new : Held) (done : Bool) (wrote : WroteMerge old.memory made old.disk new.disk done) where
      put_leaves : LeavesOnly old.disk new.disk (StandsAmid base [] pending)
      put_leaves =
          let leaves = wrote.leaves living_there out lives_there has.begun.is lies.records t h (entries id) lists lies.in_tree at known.right (sym known.last) counts in
          subst (λ (l : List Command). LeavesOnly old.disk new.disk (StandsAmid base [] l)) (sym lies.waits)
          (SameStore.run_stands t id does lists h (entries id) at lies.in_tree.rests.versions counts j base lies.made old.disk new.disk lies.writing.root wrote.within leaves)

      put_finished : StaysFinished (state_in new.disk)
      put_finished = within_finished old.disk new.disk j lies.writing.root (within_keyspaces id old.disk new.disk wrote.within)

      -- no call was one that no disk can serve, where nothing stands in the way
      put_served : merging.HasNoTableFolder old.disk id → new.disk.misuses ≡ old.disk.misuses
      put_served = wrote.served living_there out lives_there has.begun.is lies.records t h (entries id) lists lies.in_tree at known.right (sym known.last) counts

    -- ---- once it was written

    module _ (mid : Held) (wrote : WroteMerge old.memory made old.disk mid.disk true) (fin : IsPut mid) (becomes : Becomes old mid.memory mid) where
      put_lies : Lies mid (held_on mid base pending)
      put_lies = record {
        journals = j;
        records = lies.records;
        tree = next;
        writing = subst (λ (w : writer.Journal). IsWriting (state_in mid.disk) w j) (sym becomes.journal)
            (writing_along (state_in old.disk) (state_in mid.disk) old.journal j (within_root old.disk mid.disk (within_keyspaces id old.disk mid.disk wrote.within)) lies.writing);
        in_tree = wrote.lies refl living_there out lives_there has.begun.is lies.records t h (entries id) lists lies.in_tree at known.right (sym known.last) counts;
        told = subst (λ (x : Remembered). AreKnown j x.journals) (sym fin.is) lies.told;
        last = lies.last ∙ sym becomes.catalog;
        keyspaces = lies.keyspaces ∙ ap (λ (x : Remembered). x.keyspaces) (sym fin.is);
        made = lies.made ∙ sym (SameStore.same_store t id does lists h (entries id) at lies.in_tree.rests.versions counts j []);
        waits = lies.waits ∙ sym (SameStore.same_pending t id does lists h (entries id) at lies.in_tree.rests.versions counts (map shown j.later));
        next = subst (λ (n : ℕ). number_of_contents (contents_with j next j.later) ≤ n) (sym (ap (λ (x : Remembered). x.next) fin.is))
            (subst (λ (n : ℕ). n ≤ m.next) (sym (SameStore.same_number t id does lists h (entries id) at lies.in_tree.rests.versions counts j j.later)) lies.next);
      }

      put_knows : Knows mid entries_after put_lies.journals put_lies.tree
      unfolding put_lies
      put_knows =
          let infos = fin.are.infos ∙ ap (λ (l : Fields). merged_infos l.next_table_id tables) known.last in
          let after = Finishing.are_then j t m.trees entries m.records living_there task can h known.home (merged_target made) tables (merge_clears made) has.merged fin.readers infos in
          let trees = altered_at id (merge_finished fin.readers out) m.trees in
          knows_memory entries_after old mid (with_merge id out fin.readers (record_after_merge does last) m) j next fin.is (record {
            shown = after.replayed;
            homes = subst (λ (l : Fields). AreAllKnown (insert m.records id (record_after_merge does l)) trees entries_after next.homes next.versions next.keyspaces.living) (sym known.last) after.known;
            covered = covered_altered j.later id (merge_finished fin.readers out) (λ i s covers. covers) m.trees knows.covered;
          })

      -- ---- as the tables that it took are removed

      module _ (taken : List (String Global)) (are : AreTaken id last out taken) (new : Held) (done : Bool) (away : TookAway taken mid.disk new.disk done) where
        abbrev took : List TableInfo
        took = take out.tables last.tables

        -- they are those of the home's record
        taken_there : merging.AreTakenFiles id h.last does taken
        taken_there =
            let home = is_home (state_in old.disk) lies.records t id h (flat (entries id)) lies.in_tree at in
            record {
              small = small;
              record_is = last_record (state_in old.disk) id home.safe.records h home.safe.rests;
              named = are ∙ sym (named_ids id took) ∙ ap (λ (l : Fields). map (λ t. table_name id t.id) (take out.tables l.tables)) known.last;
            }

        away_within : Within (keyspace_folder id) mid.disk new.disk
        away_within = away.within id (map (λ t. t.id) took) are

        in_tree_still : LiesInTree (state_in new.disk) put_lies.records put_lies.tree
        unfolding put_lies
        in_tree_still = away.lies lies.records next id does h (flat (merges.entries_after does lists (entries id))) put_lies.in_tree at_next taken_there

        away_leaves : LeavesOnly mid.disk new.disk (λ image. HasTree image put_lies.tree)
        unfolding put_lies
        away_leaves = away.leaves lies.records next id does h (flat (merges.entries_after does lists (entries id))) put_lies.in_tree at_next taken_there

        both_leave : LeavesOnly old.disk new.disk (StandsAmid base [] pending)
        both_leave =
            runs_on old.disk mid.disk new.disk (StandsAmid base [] pending) (put_leaves mid true wrote)
            (removal_leaves mid new base pending put_lies (within_keyspaces id mid.disk new.disk away_within) away_leaves)

        away_finished : StaysFinished (state_in new.disk)
        away_finished = within_finished mid.disk new.disk put_lies.journals put_lies.writing.root (within_keyspaces id mid.disk new.disk away_within)

        away_served : merging.HasNoTableFolder mid.disk id → new.disk.misuses ≡ mid.disk.misuses
        away_served = away.served id does h.last taken_there

  -- no folder has the name of one of its tables, where nothing stands in the way
  no_folders : IsLawful old.memory → (core : Held) → IsTidy (state_in core.disk) → merging.HasNoTableFolder core.disk id
  no_folders lawful core tidy n fits =
      let given : id < m.keyspaces.next = tree_under (λ k. k.id < m.keyspaces.next) m.trees id shape lawful.given (merging_tree id m.trees (entries id) task has.begun) in
      let room = lawful.keyspaces.fits in
      (tidy (table_name id n)).0.kind (Table id n) (omega (arith, given, room), fits) refl

-- ---- where it leads

-- A merge was written, and then this was done to the disk: the tables that it took were removed, or some of them.
pub record IsTakenAway (old mid new : Held) (made : MergeMade) (entries : ℕ → List (List Entry)) (has : HasMade old made entries) (done : Bool) : Type 0 where
  pub wrote : WroteMerge old.memory made old.disk mid.disk true
  pub fin : IsPut old made entries has mid
  pub becomes : Becomes old mid.memory mid
  pub taken : List (String Global)
  pub are : AreTaken (keyspace_of made) (last old made entries has) (out old made entries has) taken
  pub away : TookAway taken mid.disk new.disk done

-- what counting a merge leaves of a core
recounts : (entries : ℕ → List (List Entry)) (mid new : Held) → Becomes mid (with_merge_done mid.memory) new → Recounts entries mid new
recounts entries mid new counted = record {
  keyspaces = ap (λ (x : Remembered). x.keyspaces) counted.memory_is;
  next = ap (λ (x : Remembered). x.next) counted.memory_is;
  poisoned = ap (λ (x : Remembered). x.poisoned) counted.memory_is;
  store = ap (λ (x : Remembered). kept (store_with entries x.keyspaces x.trees)) (sym counted.memory_is);
  catalog = counted.catalog;
  journal = counted.journal;
  journals = ap (λ (x : Remembered). x.journals) counted.memory_is;
  known = λ j t same. knows_same entries mid new j t (ap (λ (x : Remembered). x.trees) counted.memory_is) (ap (λ (x : Remembered). x.records) counted.memory_is);
}

module _ (old : Held) (made : MergeMade) (entries : ℕ → List (List Entry)) (has : HasMade old made entries) (d : Durable) (lawful : IsLawful old.memory) (on : StandsOn old entries d) where
  abbrev well : old.memory.poisoned ≡ false
  well = has.may.well

  abbrev more : ℕ → List (List Entry)
  more = entries_after old made entries has

  -- ---- one that was finished

  module _ (mid new : Held) (away : IsTakenAway old mid new made entries has true) (counted : Becomes mid (with_merge_done mid.memory) new) (same : kept (store_with_tables entries old) ≡ kept (store_with_tables more mid)) where
    pub merged_leads : Leads more new d []
    merged_leads = leads_over entries more old new d [] (λ base pending stands.
        let lies = stands.lies well in
        let knows = stands.knows well in
        let wrote = away.wrote in
        let fin = away.fin in
        let c = recounts more mid new counted in
        let put = put_lies old made entries has lawful base pending lies knows mid wrote fin away.becomes in
        let put_known = put_knows old made entries has lawful base pending lies knows mid wrote fin away.becomes in
        let run = within_keyspaces (keyspace_of made) mid.disk new.disk (away_within old made entries has lawful base pending lies knows mid wrote fin away.becomes away.taken away.are new true away.away) in
        let in_tree = in_tree_still old made entries has lawful base pending lies knows mid wrote fin away.becomes away.taken away.are new true away.away in
        let leaves = both_leave old made entries has lawful base pending lies knows mid wrote fin away.becomes away.taken away.are new true away.away in
        let still = stands_well more new base pending (c.poisoned ∙ ap (λ (x : Remembered). x.poisoned) fin.is ∙ well) (recounted_lies more mid new base pending c put run in_tree)
        (recounted_knows more mid new base pending c put run in_tree put_known) (present_of entries old (held_on old base pending) false well stands ∙ same ∙ c.store) in (
          held_on new base pending,
          still,
          record {
            leaves = subst (λ (l : List Command). LeavesOnly old.disk new.disk (StandsAmid base [] l)) (sym (append-nil pending)) leaves;
            safe = [];
            base = refl;
            rest = sym (append-nil pending);
            rests = still.rests;
          },
        )) on

  -- ---- one whose tables a fault kept from being removed

  module _ (mid new : Held) (away : IsTakenAway old mid new made entries has false) (fault : Poisons mid.memory mid new) (same : kept (store_with_tables entries old) ≡ kept (store_with_tables more mid)) where
    pub kept_leads : Leads more new d []
    kept_leads = leads_over entries more old new d [] (λ base pending stands.
        let lies = stands.lies well in
        let knows = stands.knows well in
        let leaves = both_leave old made entries has lawful base pending lies knows mid away.wrote away.fin away.becomes away.taken away.are new false away.away in
        let finished = away_finished old made entries has lawful base pending lies knows mid away.wrote away.fin away.becomes away.taken away.are new false away.away in
        let rests : CrashLeavesPending (held_on new base pending) = at_end old.disk new.disk _ leaves in
        let was = present_of entries old (held_on old base pending) false well stands ∙ same ∙ ap (λ (x : Remembered). kept (store_with more x.keyspaces x.trees)) (sym fault.memory_is) in
        let still = stands_ill more new base pending (ap (λ (x : Remembered). x.poisoned) fault.memory_is) rests finished (inl was) in (
          held_on new base pending,
          still,
          record {
            leaves = subst (λ (l : List Command). LeavesOnly old.disk new.disk (StandsAmid base [] l)) (sym (append-nil pending)) leaves;
            safe = [];
            base = refl;
            rest = sym (append-nil pending);
            rests = rests;
          },
        )) on

  -- ---- one that a fault stopped: it may have reached the disk or not

  pub unput_leads : (new : Held) → WroteMerge old.memory made old.disk new.disk false → Poisons old.memory old new → Leads entries new d []
  unput_leads new wrote fault = leads_on entries old new d [] (λ base pending stands.
      let lies = stands.lies well in
      let knows = stands.knows well in
      let leaves = put_leaves old made entries has lawful base pending lies knows new false wrote in
      let rests : CrashLeavesPending (held_on new base pending) = at_end old.disk new.disk _ leaves in
      let was = present_of entries old (held_on old base pending) false well stands ∙ ap (λ (x : Remembered). kept (store_with entries x.keyspaces x.trees)) (sym fault.memory_is) in
      let still = stands_ill entries new base pending (ap (λ (x : Remembered). x.poisoned) fault.memory_is) rests (put_finished old made entries has lawful base pending lies knows new false wrote) (inl was) in (
        held_on new base pending,
        still,
        record {
          leaves = subst (λ (l : List Command). LeavesOnly old.disk new.disk (StandsAmid base [] l)) (sym (append-nil pending)) leaves;
          safe = [];
          base = refl;
          rest = sym (append-nil pending);
          rests = rests;
        },
      )) on

  -- ---- no call was one that no disk can serve, wherever the core stood

  -- it stands on its own disk
  here : StandsOn old entries (held_on old d.base d.pending)
  here = subst (λ (x : Durable). StandsOn old entries x) (λ i. record { meaning = on.same i; base = d.base; pending = d.pending }) on

  pub put_serves : (new : Held) (done : Bool) → WroteMerge old.memory made old.disk new.disk done → IsTidy (state_in old.disk) → new.disk.misuses ≡ old.disk.misuses
  put_serves new done wrote tidy =
      put_served old made entries has lawful d.base d.pending (here.lies well) (here.knows well) new done wrote (no_folders old made entries has lawful old tidy)

  pub away_serves : (mid new : Held) (done : Bool) → IsTakenAway old mid new made entries has done → IsTidy (state_in old.disk) → new.disk.misuses ≡ old.disk.misuses
  away_serves mid new done away tidy =
      away_served old made entries has lawful d.base d.pending (here.lies well) (here.knows well) mid away.wrote away.fin away.becomes away.taken away.are new done away.away
      (no_folders old made entries has lawful mid (tidy_on old.disk mid.disk away.wrote.kinds tidy))
      ∙ put_serves mid true away.wrote tidy
