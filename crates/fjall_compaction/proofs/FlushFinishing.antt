-- A flush that is out of a tree, once it is finished.
use Rattle.std.proofs.Common.{◌≡◌, ◌≢◌, ℕ, zero, suc, ◌+◌, ◌-◌, ◌<◌, ◌≤◌, ◌^◌, ◌==◌, ◌&&◌, Bool, true, false, List, [], ◌∷◌, ◌++◌, All, Option, Some, None, length, map, take, drop, unwrap_or, refl, sym, ◌∙◌, ap, subst, arith}
use Rattle.std.specs.FinMap.{get, insert}
use Rattle.std.specs.Option.{option_map}
use Rattle.std.proofs.lemmas.Bool.{cond-false, cond-true, eq-eqb, lt-ltb, true≢false}
use Rattle.std.proofs.lemmas.Grind.{flat_map-append}
use Rattle.std.proofs.lemmas.List.{map-append}
use Rattle.std.proofs.lemmas.List.Elements.{All-append, All-cons, All-drop, All-head, All-nil, All-tail, All-weaker}
use Rattle.fjall_base.proofs.Codecs.{some_is}
use Rattle.fjall_table_reader.specs.Readers.{Reader}
use Rattle.fjall_manifest.specs.Catalog.{fields, first_of}
use Rattle.fjall_meta.specs.Contents.{Stored, clears_held, is_beyond, versions_held}
use Rattle.fjall_manifest.specs.Homes.{Home}
use Rattle.fjall_manifest.specs.Reading.{AreRight}
use Rattle.fjall_jobs.specs.declared.made_table.MadeTable.{MadeTable}
use Rattle.fjall_jobs.specs.Tasks.{IsFlushed, Task}
use Rattle.fjall_journal.specs.Batches.{Shown, Written, shown}
use Rattle.fjall_replay.specs.Known.{GoesOnFrom, IsKnown, LastFields, last_known}
use Rattle.fjall_tree.specs.Jobs.{IsFlushing, count_out, flush_end, flush_finished}
use Rattle.fjall_tree.specs.Trees.{Flushing, Shape, first_from, floor_of}
use Rattle.fjall_meta.specs.declared.living.LivingKeyspace.{LivingKeyspace}
use Rattle.fjall_memtable.specs.Parts.{AreApart, Ascends, HeldPart, IsHeld, clears_in, holds_nothing, parts_of, versions_in}
use Rattle.fjall_recovery.specs.Halves.{Tree}
use Rattle.fjall_recovery.specs.Homes.{ClearsAreWithin, stored_at, stored_in, stored_of}
use Rattle.fjall_recovery.specs.Journals.{batches_in}
use Rattle.fjall_recovery.specs.Places.{Journaling, journals_with}
use Rattle.fjall_recovery.proofs.Storing.{stored_inserted}
use Rattle.fjall_replay.specs.Beside.{AreReplayedWith, ShowsWith}
use Rattle.fjall_replay.specs.Replayed.{past}
use Rattle.fjall_memtable.specs.Sorted.{flat}
use Rattle.fjall_table.specs.Blocks.{Entry}
use Rattle.fjall_manifest.specs.Records.{Fields}
use Rattle.fjall_trees.specs.Forests.{Forest, IsForest, IsTree, altered_at, tree_at}
use Rattle.fjall_trees.specs.Tables.{entries_with, shape_in}
use Rattle.fjall_trees.proofs.Others.{altered_here, altered_other}
use Rattle.fjall_trees.proofs.Outstanding.{flushing_tree}
use Rattle.fjall_trees.proofs.Places.{tree_has}
use Rattle.fjall_trees.proofs.Reading.{entries_here}
use Rattle.fjall_meta.proofs.Found.{found_has}
use Rattle.fjall_meta.proofs.Slots.{get_put, same_id}
use Rattle.fjall_memtable.specs.Views.{value_at}
use Rattle.fjall_compaction.specs.Covering.{MayCount, ShowsBatches, TakesParts}
use Rattle.fjall_compaction.specs.FlushFinishing.{AreTreesKnown, CanFinish, flush_out}
use Rattle.fjall_compaction.specs.Flushes.{Flush, Follows, HasAt, home_after, flushed_infos, record_after_flush, texts_of, tree_after}
use Rattle.fjall_compaction.proofs.FlushAfterHomes.{both_right, new_right, versions_at}
use Rattle.fjall_compaction.proofs.FlushAfterRecords.{raised_is}
use Rattle.fjall_compaction.proofs.FlushSameStore.{first_all, same_memory}
use Rattle.fjall_compaction.proofs.Taken.{apart_behind, counts, follows_from, from_on, last_all, own_clears, parts_parted, takes}

-- ---- parts of memory

-- parts end where those behind them begin, or before
end_before : (parts left : List HeldPart) (active : HeldPart) → All IsHeld (parts ++ (left ++ active ∷ [])) → AreApart (parts ++ (left ++ active ∷ [])) → All (λ h. h.until ≤ first_from left active) parts
end_before [] left active held apart = All-nil (λ (h : HeldPart). h.until ≤ first_from left active)
end_before (h ∷ []) [] active held apart = All-cons (λ (h : HeldPart). h.until ≤ active.from) h [] apart.0 (All-nil (λ (h : HeldPart). h.until ≤ active.from))
end_before (h ∷ []) (k ∷ left) active held apart = All-cons (λ (h : HeldPart). h.until ≤ k.from) h [] apart.0 (All-nil (λ (h : HeldPart). h.until ≤ k.from))
end_before (h ∷ g ∷ parts) left active held apart =
    let rest = end_before (g ∷ parts) left active (All-tail IsHeld h (g ∷ (parts ++ (left ++ active ∷ []))) held) apart.1 in
    let bounds = (All-head IsHeld g (parts ++ (left ++ active ∷ [])) (All-tail IsHeld h (g ∷ (parts ++ (left ++ active ∷ []))) held)).bounds in
    let behind = All-head (λ (h : HeldPart). h.until ≤ first_from left active) g parts rest in
    All-cons (λ (h : HeldPart). h.until ≤ first_from left active) h (g ∷ parts) (let next = apart.0 in omega (arith, next, bounds, behind)) rest

-- a part that holds something ends behind where it begins
pub some_between : (h : HeldPart) → IsHeld h → holds_nothing h ≡ false → h.from < h.until
some_between h held some = by h.versions h.clears some held.low held.high held.low_clears held.high_clears
  where
    by : (versions : List Entry) (clears : List ℕ) → (length versions == 0 && length clears == 0) ≡ false → All (λ v. h.from ≤ v.number) versions → All (λ v. v.number < h.until) versions
        → All (λ n. h.from ≤ n) clears → All (λ n. n < h.until) clears → h.from < h.until
    by [] [] some low high low_clears high_clears = absurd cc
    by [] (n ∷ clears) some low high low_clears high_clears =
        let one = All-head (λ (n : ℕ). h.from ≤ n) n clears low_clears in
        let two = All-head (λ (n : ℕ). n < h.until) n clears high_clears in
        omega (arith, one, two)
    by (v ∷ versions) clears some low high low_clears high_clears =
        let one = All-head (λ (v : Entry). h.from ≤ v.number) v versions low in
        let two = All-head (λ (v : Entry). v.number < h.until) v versions high in
        omega (arith, one, two)

-- where a flush takes some parts, which hold something, memory begins before those that it leaves
begins_before : (count : ℕ) (sealed : List HeldPart) (active : HeldPart) → take count sealed ≢ [] → All IsHeld (sealed ++ active ∷ []) → All (λ h. holds_nothing h ≡ false) sealed
    → All (λ h. h.until ≤ first_from (drop count sealed) active) (take count sealed) → first_from sealed active < first_from (drop count sealed) active
begins_before zero sealed active some held holds until = absurd (some refl)
begins_before (suc count) [] active some held holds until = absurd (some refl)
begins_before (suc count) (h ∷ sealed) active some held holds until =
    let lt = some_between h (All-head IsHeld h (sealed ++ active ∷ []) held) (All-head (λ (h : HeldPart). holds_nothing h ≡ false) h sealed holds) in
    let le = All-head (λ (k : HeldPart). k.until ≤ first_from (drop count sealed) active) h (take count sealed) until in
    omega (arith, lt, le)

-- each part begins where memory does, or behind it
pub begin_behind : (sealed : List HeldPart) (active : HeldPart) → All IsHeld (sealed ++ active ∷ []) → AreApart (sealed ++ active ∷ []) → All (λ h. first_from sealed active ≤ h.from) (sealed ++ active ∷ [])
begin_behind [] active held apart = from_on active.from active [] apart held (omega arith)
begin_behind (h ∷ sealed) active held apart = from_on h.from h (sealed ++ active ∷ []) apart held (omega arith)

-- the parts that a flush leaves begin before memory ends
pub end_inside : (shape : Shape) → IsTree shape → (flush_end shape ≤ shape.memory.active.until) × (shape.memory.active.until ≤ 2 ^ 63)
end_inside shape tree =
    let active = shape.memory.active in
    let taken = take (count_out shape.flush) shape.memory.sealed in
    let left = drop (count_out shape.flush) shape.memory.sealed in
    let parted = parts_parted (count_out shape.flush) shape.memory in
    let held : All IsHeld (left ++ active ∷ []) = last_all IsHeld taken (left ++ active ∷ []) (subst (All IsHeld) parted tree.held) in
    let apart : AreApart (left ++ active ∷ []) = apart_behind taken (left ++ active ∷ []) (subst AreApart parted tree.apart) in
    let here = All-head IsHeld active [] (last_all IsHeld left (active ∷ []) held) in
    let below = All-head (λ (h : HeldPart). first_from left active ≤ h.from) active []
    (last_all (λ (h : HeldPart). first_from left active ≤ h.from) left (active ∷ []) (begin_behind left active held apart)) in
    let bounds = here.bounds in
    (omega (arith, below, bounds), here.small)

-- all that a flush takes is numbered below 2 ^ 63
pub end_is_small : (trees : Forest) (id : ℕ) (task : Task) → IsForest trees → IsFlushing (shape_in id trees) task → flush_end (shape_in id trees) ≤ 2 ^ 63
end_is_small trees id task forest is =
    let end = end_inside (shape_in id trees) (tree_has IsTree trees id (shape_in id trees) forest.each (flushing_tree id trees task is)) in
    let low = end.0 in
    let most = end.1 in
    omega (arith, low, most)

-- a number that isn't below where what is persisted ends is beyond it
pub past_is_beyond : (p : Option ℕ) (n : ℕ) → past p ≤ n → is_beyond p n ≡ true
past_is_beyond None n le = refl
past_is_beyond (Some m) n le = lt-ltb m n (omega (arith, le))

pub begun_with : (sealed : List HeldPart) → sealed ≢ [] → map (λ h. h.versions) sealed ≢ []
begun_with [] some none = some refl
begun_with (h ∷ sealed) some none = absurd cc

none_taken : (parts : List HeldPart) → parts ≡ [] → map (λ h. h.versions) parts ≡ []
none_taken parts none = ap (map (λ h. h.versions)) none

-- ---- before it is finished

module _ (j : Journaling) (t : Tree) (trees : Forest) (entries : ℕ → List (List Entry)) (records : LastFields) (k : LivingKeyspace) (task : Task) (can : CanFinish j t trees entries records k task) where
  abbrev shape : Shape
  shape = shape_in k.id trees

  abbrev out : Flushing
  out = can.flushing.out

  abbrev sealed : List HeldPart
  sealed = shape.memory.sealed

  abbrev active : HeldPart
  active = shape.memory.active

  abbrev taken : List HeldPart
  taken = take out.count sealed

  abbrev left : List HeldPart
  left = drop out.count sealed ++ active ∷ []

  abbrev number : ℕ
  number = flush_end shape - 1

  abbrev batches : List Shown
  batches = map shown (batches_in (journals_with j j.later))

  has : tree_at k.id trees ≡ Some shape
  has = flushing_tree k.id trees task can.flushing

  tree : IsTree shape
  tree = tree_has IsTree trees k.id shape can.forest.each has

  here : IsKnown records trees entries t.homes t.versions k
  here = found_has (λ i. i.id == k.id) (IsKnown records trees entries t.homes t.versions) t.keyspaces.living k can.living can.are.known

  -- where the parts begin that it leaves
  end_is : flush_end shape ≡ first_from (drop out.count sealed) active
  end_is = ap (λ (o : Option Flushing). first_from (drop (count_out o) sealed) active) can.flushing.is

  goes : GoesOnFrom here.h.last shape
  goes = subst (GoesOnFrom here.h.last) (some_is here.shape shape (sym here.tree ∙ has)) here.goes_on

  parted : parts_of shape.memory ≡ taken ++ left
  parted = parts_parted out.count shape.memory

  until : All (λ h. h.until ≤ first_from (drop out.count sealed) active) taken
  until = end_before taken (drop out.count sealed) active (subst (All IsHeld) parted tree.held) (subst AreApart parted tree.apart)

  floor_below : floor_of shape.memory < first_from (drop out.count sealed) active
  floor_below = begins_before out.count sealed active (λ none. can.some (can.flushing.runs ∙ none_taken taken none)) tree.held goes.some until

  pub above : 0 < flush_end shape
  above = omega (arith, end_is, floor_below)

  small : number < 2 ^ 63
  small = let most = can.small in omega (arith, above, most)

  taken_by : TakesParts number task taken left
  taken_by = takes shape task can.flushing number tree.held tree.apart
      (All-weaker (λ (h : HeldPart). h.until ≤ first_from (drop out.count sealed) active) (λ h. h.until ≤ number + 1) (λ h le. omega (arith, le, end_is, above)) taken until)
      (omega (arith, end_is, above))

  -- what the tree shows with its tables
  abbrev Shown_at : ℕ → Shape → Type 0
  Shown_at id s = ShowsWith (entries id) (clears_held t.keyspaces (stored_in t.homes t.versions id) id batches) (versions_held t.keyspaces (stored_in t.homes t.versions id) id batches) s

  replayed_here : Shown_at k.id shape
  replayed_here =
      let found = found_has (λ i. i.id == k.id) (λ i. (s : Shape) × (tree_at i.id trees ≡ Some s) × Shown_at i.id s) t.keyspaces.living k can.living can.are.replayed in
      subst (Shown_at k.id) (some_is found.0 shape (sym found.1 ∙ has)) found.2

  module _ (h : Home) (home : get t.homes k.id ≡ Some h) where
    same : here.h ≡ h
    same = some_is here.h h (sym here.home ∙ home)

    pub last_is : last_known records k ≡ h.last
    last_is = here.last ∙ ap (λ (o : Home). o.last) same

    goes_on : GoesOnFrom h.last shape
    goes_on = subst (λ (o : Home). GoesOnFrom o.last shape) same goes

    right : AreRight h.last.tables h.texts (entries k.id)
    right = subst (λ (o : Home). AreRight o.last.tables o.texts (entries k.id)) same here.right

    at : HasAt t k.id h (flat (entries k.id))
    at = record { home = home; stored = here.stored }

    stored_is : stored_in t.homes t.versions k.id ≡ stored_of h (flat (entries k.id))
    stored_is i = stored_at (home i) (here.stored i)

    beyond : is_beyond h.last.persisted number ≡ true
    beyond = past_is_beyond h.last.persisted number (let ends = goes_on.beyond in omega (arith, ends, end_is, floor_below))

    shows : ShowsBatches t.keyspaces (stored_of h (flat (entries k.id))) k.id batches (clears_in (taken ++ left)) (versions_in (taken ++ left))
    shows key instant =
        sym (λ i. value_at key instant (goes_on.clears i ++ clears_in (parted i)) (flat (entries k.id) ++ versions_in (parted i)))
        ∙ replayed_here.shows key instant
        ∙ (λ i. value_at key instant (clears_held t.keyspaces (stored_is i) k.id batches) (versions_held t.keyspaces (stored_is i) k.id batches))

    within : ClearsAreWithin h.last
    within = (versions_at t k.id h (flat (entries k.id)) at can.have).within.1

    module _ (tables : List MadeTable) (clears : List ℕ) (made : IsFlushed task tables clears) where
      abbrev f : Flush
      f = flush_out k.id trees tables clears

      counted : (may : MayCount j t k.id f made.lists h (flat (entries k.id))) × (may.rest_clears ≡ clears_in left) × (may.rest ≡ versions_in left)
      counted =
          let later = All-weaker (λ (b : Written). flush_end shape ≤ b.number) (λ (b : Written). number < b.number) (λ b le. omega (arith, le, above)) j.later can.later in
          counts number task taken left taken_by tables clears made j t k.id h (flat (entries k.id)) at can.have beyond small later shows

      pub may_count : MayCount j t k.id f made.lists h (flat (entries k.id))
      may_count = counted.0

      pub follows_last : Follows f made.lists h.last
      follows_last =
          follows_from number task taken left taken_by tables clears made h.last small (subst Ascends goes_on.clears tree.clears.ascend) within
          (All-weaker (λ (p : HeldPart). floor_of shape.memory ≤ p.from) (λ p. is_beyond h.last.persisted p.from ≡ true)
          (λ p le. past_is_beyond h.last.persisted p.from (let ends = goes_on.beyond in omega (arith, ends, le))) taken
          (first_all (λ (p : HeldPart). floor_of shape.memory ≤ p.from) taken left (subst (All (λ (p : HeldPart). floor_of shape.memory ≤ p.from)) parted (begin_behind sealed active tree.held tree.apart))))

      -- ---- after it

      abbrev next : Tree
      next = tree_after k.id f made.lists h (flat (entries k.id)) t

      own : clears ≡ clears_in taken
      own = own_clears number task taken left taken_by tables clears made

      all_entries : flat (entries k.id ++ made.lists) ≡ flat (entries k.id) ++ flat made.lists
      all_entries = flat_map-append (λ (l : List Entry). l) (entries k.id) made.lists

      -- these are what its tables hold then
      right_after : AreRight (h.last.tables ++ flushed_infos h.last.next_table_id tables) (h.texts ++ texts_of tables) (entries k.id ++ made.lists)
      right_after =
          both_right h.last.tables (flushed_infos h.last.next_table_id tables) h.texts (texts_of tables) (entries k.id) made.lists right (new_right h.last.next_table_id tables made.lists made.made)

      module _ (readers : List Reader) (infos : map (λ (r : Reader). r.info) readers ≡ flushed_infos h.last.next_table_id tables) where
        abbrev after : Forest
        after = altered_at k.id (flush_finished readers out) trees

        abbrev entries_after : ℕ → List (List Entry)
        entries_after = entries_with k.id (entries k.id ++ made.lists) entries

        abbrev records_after : LastFields
        records_after = insert records k.id (record_after_flush f h.last)

        abbrev shape_after : Shape
        shape_after = flush_finished readers out shape

        abbrev Shown_after : ℕ → Shape → Type 0
        Shown_after id s =
            ShowsWith (entries_after id) (clears_held t.keyspaces (stored_in next.homes next.versions id) id batches) (versions_held t.keyspaces (stored_in next.homes next.versions id) id batches) s

        tree_after_it : tree_at k.id after ≡ Some shape_after
        tree_after_it = altered_here k.id (flush_finished readers out) trees ∙ ap (option_map (flush_finished readers out)) has

        -- the keyspace's tree shows with its tables what is stored now and what the batches make beyond that
        shows_after : ShowsWith (entries k.id ++ made.lists) (clears_held t.keyspaces (stored_of (home_after f h) (flat (entries k.id) ++ flat made.lists)) k.id batches)
            (versions_held t.keyspaces (stored_of (home_after f h) (flat (entries k.id) ++ flat made.lists)) k.id batches) shape_after
        shows_after = record {
          below = subst (All (λ (v : Entry). v.number < first_from (drop out.count sealed) active)) (sym all_entries)
              (All-append (λ (v : Entry). v.number < first_from (drop out.count sealed) active) (flat (entries k.id)) (flat made.lists)
              (All-weaker (λ (v : Entry). v.number < floor_of shape.memory) (λ v. v.number < first_from (drop out.count sealed) active) (λ v lt. omega (arith, lt, floor_below)) (flat (entries k.id))
              replayed_here.below)
              (All-weaker (λ (v : Entry). v.number ≤ number) (λ v. v.number < first_from (drop out.count sealed) active) (λ v le. omega (arith, le, end_is, above)) (flat made.lists) follows_last.versions));
          shows = λ key instant.
              (λ i. value_at key instant ((goes_on.clears i ++ sym own i) ++ sym counted.1 i) (all_entries i ++ sym counted.2 i))
              ∙ same_memory j t k.id f made.lists h (flat (entries k.id)) counted.0 key instant;
        }

        here_after : Shown_after k.id shape_after
        here_after =
            let stored = stored_inserted t.homes t.versions k.id (home_after f h) (flat (entries k.id) ++ flat made.lists) k.id
            ∙ cond-true (k.id == k.id) (stored_of (home_after f h) (flat (entries k.id) ++ flat made.lists)) (stored_in t.homes t.versions k.id) (eq-eqb k.id k.id refl) in
            subst (λ (st : Stored). ShowsWith (entries_after k.id) (clears_held t.keyspaces st k.id batches) (versions_held t.keyspaces st k.id batches) shape_after) (sym stored)
            (subst
            (λ (l : List (List Entry)). ShowsWith l (clears_held t.keyspaces (stored_of (home_after f h) (flat (entries k.id) ++ flat made.lists)) k.id batches)
            (versions_held t.keyspaces (stored_of (home_after f h) (flat (entries k.id) ++ flat made.lists)) k.id batches) shape_after)
            (sym (entries_here k.id (entries k.id ++ made.lists) entries)) shows_after)

        other_after : (id : ℕ) (s : Shape) → (id == k.id) ≡ false → Shown_at id s → Shown_after id s
        other_after id s differ there =
            let stored = stored_inserted t.homes t.versions k.id (home_after f h) (flat (entries k.id) ++ flat made.lists) id
            ∙ cond-false (id == k.id) (stored_of (home_after f h) (flat (entries k.id) ++ flat made.lists)) (stored_in t.homes t.versions id) differ in
            subst (λ (st : Stored). ShowsWith (entries_after id) (clears_held t.keyspaces st id batches) (versions_held t.keyspaces st id batches) s) (sym stored)
            (subst (λ (l : List (List Entry)). ShowsWith l (clears_held t.keyspaces (stored_in t.homes t.versions id) id batches) (versions_held t.keyspaces (stored_in t.homes t.versions id) id batches) s)
            (sym (cond-false (id == k.id) (entries k.id ++ made.lists) (entries id) differ)) there)

        other_tree : (id : ℕ) → (id == k.id) ≡ false → tree_at id after ≡ tree_at id trees
        other_tree id differ = altered_other k.id id (flush_finished readers out) trees (λ same. true≢false (sym (eq-eqb id k.id same) ∙ differ))

        replayed_after : AreReplayedWith entries_after next.keyspaces (stored_in next.homes next.versions) batches after
        replayed_after =
            All-weaker (λ (i : LivingKeyspace). (s : Shape) × (tree_at i.id trees ≡ Some s) × Shown_at i.id s) (λ i. (s : Shape) × (tree_at i.id after ≡ Some s) × Shown_after i.id s)
            (λ i there. by i.id there (i.id == k.id) refl) t.keyspaces.living can.are.replayed
          where
            by : (id : ℕ) → (s : Shape) × (tree_at id trees ≡ Some s) × Shown_at id s → (b : Bool) → (id == k.id) ≡ b → (s : Shape) × (tree_at id after ≡ Some s) × Shown_after id s
            by id there true same = subst (λ n. (s : Shape) × (tree_at n after ≡ Some s) × Shown_after n s) (sym (same_id id k.id same)) (shape_after, tree_after_it, here_after)
            by id there false differ = (there.0, other_tree id differ ∙ there.1, other_after id there.0 differ there.2)

        -- its tree goes on from the record after the flush
        goes_after : GoesOnFrom (record_after_flush f h.last) shape_after
        goes_after = record {
          tables = map-append (λ (r : Reader). r.info) shape.tables readers ∙ (λ i. goes_on.tables i ++ infos i);
          clears = λ i. goes_on.clears i ++ sym own i;
          beyond = let e = raised_is h.last.persisted number beyond in omega (arith, e, end_is, above);
          some = All-drop (λ (p : HeldPart). holds_nothing p ≡ false) out.count sealed goes_on.some;
        }

        known_after : All (IsKnown records_after after entries_after next.homes next.versions) next.keyspaces.living
        known_after =
            All-weaker (IsKnown records trees entries t.homes t.versions) (IsKnown records_after after entries_after next.homes next.versions) (λ i known. by i known (i.id == k.id) refl)
            t.keyspaces.living can.are.known
          where
            by : (i : LivingKeyspace) → IsKnown records trees entries t.homes t.versions i → (b : Bool) → (i.id == k.id) ≡ b → IsKnown records_after after entries_after next.homes next.versions i
            by i known true same = record {
              h = home_after f h;
              home = get_put t.homes k.id (home_after f h) i.id ∙ cond-true (i.id == k.id) (Some (home_after f h)) (get t.homes i.id) same;
              right = subst (λ (l : List (List Entry)). AreRight (home_after f h).last.tables (home_after f h).texts l) (sym (cond-true (i.id == k.id) (entries k.id ++ made.lists) (entries i.id) same)) right_after;
              stored = get_put t.versions k.id (flat (entries k.id) ++ flat made.lists) i.id
                  ∙ cond-true (i.id == k.id) (Some (flat (entries k.id) ++ flat made.lists)) (get t.versions i.id) same
                  ∙ ap (λ (l : List Entry). Some l) (sym all_entries ∙ ap flat (sym (cond-true (i.id == k.id) (entries k.id ++ made.lists) (entries i.id) same)));
              last = ap (λ (o : Option Fields). unwrap_or o (fields (first_of i.number)))
                  (get_put records k.id (record_after_flush f h.last) i.id ∙ cond-true (i.id == k.id) (Some (record_after_flush f h.last)) (get records i.id) same);
              shape = shape_after;
              tree = subst (λ n. tree_at n after ≡ Some shape_after) (sym (same_id i.id k.id same)) tree_after_it;
              goes_on = goes_after;
            }
            by i known false differ = record {
              h = known.h;
              home = get_put t.homes k.id (home_after f h) i.id ∙ cond-false (i.id == k.id) (Some (home_after f h)) (get t.homes i.id) differ ∙ known.home;
              right = subst (λ (l : List (List Entry)). AreRight known.h.last.tables known.h.texts l) (sym (cond-false (i.id == k.id) (entries k.id ++ made.lists) (entries i.id) differ)) known.right;
              stored = get_put t.versions k.id (flat (entries k.id) ++ flat made.lists) i.id
                  ∙ cond-false (i.id == k.id) (Some (flat (entries k.id) ++ flat made.lists)) (get t.versions i.id) differ
                  ∙ known.stored
                  ∙ ap (λ (l : List (List Entry)). Some (flat l)) (sym (cond-false (i.id == k.id) (entries k.id ++ made.lists) (entries i.id) differ));
              last = ap (λ (o : Option Fields). unwrap_or o (fields (first_of i.number)))
                  (get_put records k.id (record_after_flush f h.last) i.id ∙ cond-false (i.id == k.id) (Some (record_after_flush f h.last)) (get records i.id) differ)
                  ∙ known.last;
              shape = known.shape;
              tree = other_tree i.id differ ∙ known.tree;
              goes_on = known.goes_on;
            }

        pub are_after : AreTreesKnown j next after entries_after records_after
        are_after = record { replayed = replayed_after; known = known_after }
