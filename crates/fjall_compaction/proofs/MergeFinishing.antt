-- A merge that is out of a tree, once it is finished.
use Rattle.std.proofs.Common.{◌≡◌, ℕ, zero, suc, ◌<◌, ◌≤◌, ◌^◌, ◌==◌, Bool, true, false, List, [], ◌∷◌, ◌++◌, All, Option, Some, None, IfSome, filter, map, take, drop, unwrap_or, refl, sym, ◌∙◌, ap, subst, arith}
use Rattle.std.specs.FinMap.{get, insert}
use Rattle.std.specs.Option.{option_map}
use Rattle.std.specs.List.{list_any}
use Rattle.std.proofs.lemmas.Bool.{cond-false, cond-true, eq-eqb, true≢false}
use Rattle.std.proofs.lemmas.List.{map-append}
use Rattle.std.proofs.lemmas.List.Elements.{All-weaker, filter_passes}
use Rattle.fjall_base.proofs.Codecs.{some_is}
use Rattle.fjall_table_reader.specs.Readers.{Reader}
use Rattle.fjall_manifest.specs.Catalog.{fields, first_of}
use Rattle.fjall_meta.specs.Contents.{Stored, clears_held, is_beyond, versions_held}
use Rattle.fjall_compaction.specs.FlushFinishing.{AreTreesKnown}
use Rattle.fjall_compaction.specs.Flushes.{HasAt}
use Rattle.fjall_compaction.proofs.FlushAfterHomes.{versions_at}
use Rattle.fjall_compaction.proofs.FlushFinishing.{end_inside, past_is_beyond}
use Rattle.fjall_manifest.specs.Homes.{Home}
use Rattle.fjall_manifest.specs.Reading.{AreRight}
use Rattle.fjall_jobs.specs.declared.made_table.MadeTable.{MadeTable}
use Rattle.fjall_jobs.specs.Merges.{IsMerged}
use Rattle.fjall_jobs.specs.Tasks.{Task}
use Rattle.fjall_journal.specs.Batches.{Shown, shown}
use Rattle.fjall_replay.specs.Known.{GoesOnFrom, IsKnown, LastFields, last_known}
use Rattle.fjall_tree.specs.Jobs.{flush_dropped, merge_finished}
use Rattle.fjall_tree.specs.Trees.{Merging, Shape, first_from, floor_of}
use Rattle.fjall_tree.proofs.Flushed.{from_floor}
use Rattle.fjall_meta.specs.declared.living.LivingKeyspace.{LivingKeyspace}
use Rattle.fjall_memtable.specs.Parts.{AreApart, HeldPart, IsHeld, clears_in, parts_of, versions_in}
use Rattle.fjall_memtable.proofs.Apart.{clears_numbered, from_first}
use Rattle.fjall_recovery.specs.Halves.{Tree}
use Rattle.fjall_recovery.specs.Homes.{HasVersions, stored_at, stored_in, stored_of}
use Rattle.fjall_recovery.specs.Journals.{batches_in}
use Rattle.fjall_recovery.specs.Places.{Journaling, journals_with}
use Rattle.fjall_recovery.proofs.Storing.{stored_inserted}
use Rattle.fjall_replay.specs.Beside.{AreReplayedWith, ShowsWith}
use Rattle.fjall_replay.specs.Replayed.{past}
use Rattle.fjall_memtable.specs.Sorted.{flat}
use Rattle.fjall_table.specs.Blocks.{Entry}
use Rattle.fjall_manifest.specs.Records.{Fields}
use Rattle.fjall_trees.specs.Forests.{Forest, IsTree, altered_at, tree_at}
use Rattle.fjall_trees.specs.Tables.{entries_with, shape_in}
use Rattle.fjall_trees.proofs.Others.{altered_here, altered_other}
use Rattle.fjall_trees.proofs.Outstanding.{merging_tree}
use Rattle.fjall_trees.proofs.Places.{tree_has}
use Rattle.fjall_trees.proofs.Reading.{entries_here}
use Rattle.fjall_meta.specs.Views.{clears_of, versions_of}
use Rattle.fjall_meta.proofs.Found.{found_has}
use Rattle.fjall_meta.proofs.Slots.{get_put, same_id}
use Rattle.fjall_memtable.specs.Jobs.{AreBelow, merged, merged_clears}
use Rattle.fjall_memtable.specs.Views.{value_at}
use Rattle.fjall_compaction.specs.MergeFinishing.{CanMerge, merge_out}
use Rattle.fjall_compaction.specs.Merges.{Merge, MergesTables, entries_after, home_after, merged_infos, record_after_merge, tree_after}
use Rattle.fjall_compaction.proofs.MergeAfterHomes.{right_after}
use Rattle.fjall_compaction.proofs.Shows.{each_new, shows_alike}

-- where all that is persisted lies below a number up to 2^63, the persisted number does
persisted_small : (p : Option ℕ) (bound : ℕ) → past p ≤ bound → bound ≤ 2 ^ 63 → IfSome p (λ n. n < 2 ^ 63)
persisted_small None bound low small = tt
persisted_small (Some n) bound low small = omega (arith, low, small)

dropped_infos : (n : ℕ) (readers : List Reader) → map (λ r. r.info) (drop n readers) ≡ drop n (map (λ r. r.info) readers)
dropped_infos zero readers = refl
dropped_infos (suc n) [] = refl
dropped_infos (suc n) (r ∷ readers) = dropped_infos n readers

-- the clears of parts that stand apart are numbered from where the first one begins
from_parts : (sealed : List HeldPart) (active : HeldPart) → All IsHeld (sealed ++ active ∷ []) → AreApart (sealed ++ active ∷ []) → All (λ n. first_from sealed active ≤ n) (clears_in (sealed ++ active ∷ []))
from_parts [] active held apart = from_first (λ (h : HeldPart). h.clears) (λ (n : ℕ). n) clears_numbered active [] held apart
from_parts (h ∷ sealed) active held apart = from_first (λ (h : HeldPart). h.clears) (λ (n : ℕ). n) clears_numbered h (sealed ++ active ∷ []) held apart

-- ---- before it is finished

module _ (j : Journaling) (t : Tree) (trees : Forest) (entries : ℕ → List (List Entry)) (records : LastFields) (k : LivingKeyspace) (task : Task) (can : CanMerge j t trees entries records k task) where
  abbrev shape : Shape
  shape = shape_in k.id trees

  abbrev out : Merging
  out = can.merging.out

  abbrev batches : List Shown
  batches = map shown (batches_in (journals_with j j.later))

  has : tree_at k.id trees ≡ Some shape
  has = merging_tree k.id trees (entries k.id) task can.merging

  tree : IsTree shape
  tree = tree_has IsTree trees k.id shape can.forest.each has

  here : IsKnown records trees entries t.homes t.versions k
  here = found_has (λ i. i.id == k.id) (IsKnown records trees entries t.homes t.versions) t.keyspaces.living k can.living can.are.known

  goes : GoesOnFrom here.h.last shape
  goes = subst (GoesOnFrom here.h.last) (some_is here.shape shape (sym here.tree ∙ has)) here.goes_on

  floor_small : floor_of shape.memory ≤ 2 ^ 63
  floor_small = let end = end_inside (flush_dropped shape) (record { held = tree.held; apart = tree.apart; clears = tree.clears }) in omega (arith, end)

  -- the clears in memory are numbered from where it begins
  memory_clears : All (λ n. floor_of shape.memory ≤ n) (clears_in (parts_of shape.memory))
  memory_clears = from_parts shape.memory.sealed shape.memory.active tree.held tree.apart

  -- what the tree shows with its tables
  abbrev Shown_at : ℕ → Shape → Type 0
  Shown_at id s = ShowsWith (entries id) (clears_held t.keyspaces (stored_in t.homes t.versions id) id batches) (versions_held t.keyspaces (stored_in t.homes t.versions id) id batches) s

  replayed_here : Shown_at k.id shape
  replayed_here =
      let found = found_has (λ i. i.id == k.id) (λ i. (s : Shape) × (tree_at i.id trees ≡ Some s) × Shown_at i.id s) t.keyspaces.living k can.living can.are.replayed in
      subst (Shown_at k.id) (some_is found.0 shape (sym found.1 ∙ has)) found.2

  module _ (h : Home) (home : get t.homes k.id ≡ Some h) where
    same : here.h ≡ h
    same = some_is here.h h (sym here.home ∙ home)

    pub last_is : last_known records k ≡ h.last
    last_is = here.last ∙ ap (λ (o : Home). o.last) same

    goes_on : GoesOnFrom h.last shape
    goes_on = subst (λ (o : Home). GoesOnFrom o.last shape) same goes

    pub at : HasAt t k.id h (flat (entries k.id))
    at = record { home = home; stored = here.stored }

    pub right : AreRight h.last.tables h.texts (entries k.id)
    right = subst (λ (o : Home). AreRight o.last.tables o.texts (entries k.id)) same here.right

    stored_is : stored_in t.homes t.versions k.id ≡ stored_of h (flat (entries k.id))
    stored_is i = stored_at (home i) (here.stored i)

    versions : HasVersions h (flat (entries k.id))
    versions = versions_at t k.id h (flat (entries k.id)) at can.have

    -- all that is in memory is beyond the persisted number
    beyond_floor : (n : ℕ) → floor_of shape.memory ≤ n → is_beyond h.last.persisted n ≡ true
    beyond_floor n le = past_is_beyond h.last.persisted n (let ends = goes_on.beyond in omega (arith, ends, le))

    module _ (target : ℕ) (tables : List MadeTable) (clears : List ℕ) (made : IsMerged target task tables clears) where
      abbrev m : Merge
      m = merge_out out tables clears

      taken_clears : task.clears ≡ take out.clears h.last.clears
      taken_clears = can.merging.clears ∙ ap (take out.clears) goes_on.clears

      pub counts : MergesTables m made.lists (entries k.id) h.last
      counts = record {
        watermark = task.watermark;
        persisted = persisted_small h.last.persisted (floor_of shape.memory) goes_on.beyond floor_small;
        bound = out.bound;
        made = made.made;
        ordered = made.ordered;
        kept = λ test. made.kept test ∙ (λ i. list_any test (merged task.watermark (taken_clears i) (flat (can.merging.runs i))));
        clears = made.clears_are ∙ ap (merged_clears task.watermark) taken_clears;
        below = subst (λ (l : List (List Entry)). AreBelow out.bound (flat l)) can.merging.runs can.merging.below;
        clears_below = subst (All (λ n. n < out.bound)) taken_clears can.merging.clears_below;
        from = can.merging.from;
      }

      -- ---- after it

      abbrev lists : List (List Entry)
      lists = entries_after m made.lists (entries k.id)

      abbrev next : Tree
      next = tree_after k.id m made.lists h (entries k.id) t

      module _ (readers : List Reader) (infos : map (λ r. r.info) readers ≡ merged_infos h.last.next_table_id tables) where
        abbrev after : Forest
        after = altered_at k.id (merge_finished readers out) trees

        abbrev entries_then : ℕ → List (List Entry)
        entries_then = entries_with k.id lists entries

        abbrev records_then : LastFields
        records_then = insert records k.id (record_after_merge m h.last)

        abbrev shape_then : Shape
        shape_then = merge_finished readers out shape

        abbrev Shown_then : ℕ → Shape → Type 0
        Shown_then id s =
            ShowsWith (entries_then id) (clears_held t.keyspaces (stored_in next.homes next.versions id) id batches) (versions_held t.keyspaces (stored_in next.homes next.versions id) id batches) s

        tree_then : tree_at k.id after ≡ Some shape_then
        tree_then = altered_here k.id (merge_finished readers out) trees ∙ ap (option_map (merge_finished readers out)) has

        -- the clears of its record are those of the tree
        own_clears : shape_then.clears ≡ (record_after_merge m h.last).clears
        unfolding counts
        own_clears =
            (λ i. merged_clears (sym can.merging.watermark i) (take out.clears (goes_on.clears i)) ++ drop out.clears (goes_on.clears i))
            ∙ ap (λ (l : List ℕ). l ++ drop out.clears h.last.clears) (sym counts.clears)

        -- the keyspace's tree shows with its tables what is stored now and what the batches make beyond that
        shows_then : ShowsWith lists (clears_held t.keyspaces (stored_of (home_after m h) (flat lists)) k.id batches) (versions_held t.keyspaces (stored_of (home_after m h) (flat lists)) k.id batches) shape_then
        shows_then = record {
          below = each_new m made.lists (entries k.id) h.last counts versions.once (λ v. v.number < floor_of shape.memory) replayed_here.below;
          shows = λ key instant.
              let told_clears = filter (is_beyond h.last.persisted) (clears_of t.keyspaces k.id batches) in
              let told = filter (λ (v : Entry). is_beyond h.last.persisted v.number) (versions_of t.keyspaces k.id batches) in
              let parts = parts_of shape.memory in
              let held_clears = All-weaker (λ (n : ℕ). floor_of shape.memory ≤ n) (λ n. is_beyond h.last.persisted n ≡ true) (λ n le. beyond_floor n le) (clears_in parts) memory_clears in
              let held = All-weaker (λ (v : Entry). floor_of shape.memory ≤ v.number) (λ v. is_beyond h.last.persisted v.number ≡ true) (λ v le. beyond_floor v.number le) (versions_in parts)
              (from_floor shape.memory.sealed shape.memory.active tree.held tree.apart) in
              ap (λ (l : List ℕ). value_at key instant (l ++ clears_in parts) (flat lists ++ versions_in parts)) own_clears
              ∙ shows_alike m made.lists (entries k.id) h.last counts versions.once versions.within key instant (clears_in parts) told_clears (versions_in parts) told held_clears
              (filter_passes (is_beyond h.last.persisted) (clears_of t.keyspaces k.id batches)) held
              (filter_passes (λ (v : Entry). is_beyond h.last.persisted v.number) (versions_of t.keyspaces k.id batches))
              (sym (ap (λ (l : List ℕ). value_at key instant (l ++ clears_in parts) (flat (entries k.id) ++ versions_in parts)) goes_on.clears)
              ∙ replayed_here.shows key instant
              ∙ (λ i. value_at key instant (clears_held t.keyspaces (stored_is i) k.id batches) (versions_held t.keyspaces (stored_is i) k.id batches)));
        }

        here_then : Shown_then k.id shape_then
        here_then =
            let stored = stored_inserted t.homes t.versions k.id (home_after m h) (flat lists) k.id
            ∙ cond-true (k.id == k.id) (stored_of (home_after m h) (flat lists)) (stored_in t.homes t.versions k.id) (eq-eqb k.id k.id refl) in
            subst (λ (st : Stored). ShowsWith (entries_then k.id) (clears_held t.keyspaces st k.id batches) (versions_held t.keyspaces st k.id batches) shape_then) (sym stored)
            (subst
            (λ (l : List (List Entry)). ShowsWith l (clears_held t.keyspaces (stored_of (home_after m h) (flat lists)) k.id batches)
            (versions_held t.keyspaces (stored_of (home_after m h) (flat lists)) k.id batches) shape_then)
            (sym (entries_here k.id lists entries)) shows_then)

        other_then : (id : ℕ) (s : Shape) → (id == k.id) ≡ false → Shown_at id s → Shown_then id s
        other_then id s differ there =
            let stored = stored_inserted t.homes t.versions k.id (home_after m h) (flat lists) id
            ∙ cond-false (id == k.id) (stored_of (home_after m h) (flat lists)) (stored_in t.homes t.versions id) differ in
            subst (λ (st : Stored). ShowsWith (entries_then id) (clears_held t.keyspaces st id batches) (versions_held t.keyspaces st id batches) s) (sym stored)
            (subst (λ (l : List (List Entry)). ShowsWith l (clears_held t.keyspaces (stored_in t.homes t.versions id) id batches) (versions_held t.keyspaces (stored_in t.homes t.versions id) id batches) s)
            (sym (cond-false (id == k.id) lists (entries id) differ)) there)

        other_tree : (id : ℕ) → (id == k.id) ≡ false → tree_at id after ≡ tree_at id trees
        other_tree id differ = altered_other k.id id (merge_finished readers out) trees (λ same. true≢false (sym (eq-eqb id k.id same) ∙ differ))

        replayed_then : AreReplayedWith entries_then next.keyspaces (stored_in next.homes next.versions) batches after
        replayed_then =
            All-weaker (λ (i : LivingKeyspace). (s : Shape) × (tree_at i.id trees ≡ Some s) × Shown_at i.id s) (λ i. (s : Shape) × (tree_at i.id after ≡ Some s) × Shown_then i.id s)
            (λ i there. by i.id there (i.id == k.id) refl) t.keyspaces.living can.are.replayed
          where
            by : (id : ℕ) → (s : Shape) × (tree_at id trees ≡ Some s) × Shown_at id s → (b : Bool) → (id == k.id) ≡ b → (s : Shape) × (tree_at id after ≡ Some s) × Shown_then id s
            by id there true same = subst (λ n. (s : Shape) × (tree_at n after ≡ Some s) × Shown_then n s) (sym (same_id id k.id same)) (shape_then, tree_then, here_then)
            by id there false differ = (there.0, other_tree id differ ∙ there.1, other_then id there.0 differ there.2)

        -- its tree goes on from the record after the merge
        goes_then : GoesOnFrom (record_after_merge m h.last) shape_then
        goes_then = record {
          tables = map-append (λ (r : Reader). r.info) readers (drop out.tables shape.tables)
              ∙ (λ i. infos i ++ (dropped_infos out.tables shape.tables ∙ ap (drop out.tables) goes_on.tables) i);
          clears = own_clears;
          beyond = goes_on.beyond;
          some = goes_on.some;
        }

        known_then : All (IsKnown records_then after entries_then next.homes next.versions) next.keyspaces.living
        known_then =
            All-weaker (IsKnown records trees entries t.homes t.versions) (IsKnown records_then after entries_then next.homes next.versions) (λ i known. by i known (i.id == k.id) refl)
            t.keyspaces.living can.are.known
          where
            by : (i : LivingKeyspace) → IsKnown records trees entries t.homes t.versions i → (b : Bool) → (i.id == k.id) ≡ b → IsKnown records_then after entries_then next.homes next.versions i
            by i known true same = record {
              h = home_after m h;
              home = get_put t.homes k.id (home_after m h) i.id ∙ cond-true (i.id == k.id) (Some (home_after m h)) (get t.homes i.id) same;
              stored = get_put t.versions k.id (flat lists) i.id ∙ cond-true (i.id == k.id) (Some (flat lists)) (get t.versions i.id) same
                  ∙ ap (λ (l : List (List Entry)). Some (flat l)) (sym (cond-true (i.id == k.id) lists (entries i.id) same));
              right = subst (AreRight (home_after m h).last.tables (home_after m h).texts) (sym (cond-true (i.id == k.id) lists (entries i.id) same))
                  (right_after m made.lists (entries k.id) h counts right);
              last = ap (λ (o : Option Fields). unwrap_or o (fields (first_of i.number)))
                  (get_put records k.id (record_after_merge m h.last) i.id ∙ cond-true (i.id == k.id) (Some (record_after_merge m h.last)) (get records i.id) same);
              shape = shape_then;
              tree = subst (λ n. tree_at n after ≡ Some shape_then) (sym (same_id i.id k.id same)) tree_then;
              goes_on = goes_then;
            }
            by i known false differ = record {
              h = known.h;
              home = get_put t.homes k.id (home_after m h) i.id ∙ cond-false (i.id == k.id) (Some (home_after m h)) (get t.homes i.id) differ ∙ known.home;
              stored = get_put t.versions k.id (flat lists) i.id ∙ cond-false (i.id == k.id) (Some (flat lists)) (get t.versions i.id) differ ∙ known.stored
                  ∙ ap (λ (l : List (List Entry)). Some (flat l)) (sym (cond-false (i.id == k.id) lists (entries i.id) differ));
              right = subst (AreRight known.h.last.tables known.h.texts) (sym (cond-false (i.id == k.id) lists (entries i.id) differ)) known.right;
              last = ap (λ (o : Option Fields). unwrap_or o (fields (first_of i.number)))
                  (get_put records k.id (record_after_merge m h.last) i.id ∙ cond-false (i.id == k.id) (Some (record_after_merge m h.last)) (get records i.id) differ)
                  ∙ known.last;
              shape = known.shape;
              tree = other_tree i.id differ ∙ known.tree;
              goes_on = known.goes_on;
            }

        pub are_then : AreTreesKnown j next after entries_then records_then
        are_then = record { replayed = replayed_then; known = known_then }
