-- What an ingestion makes of trees, of their maps and of the store.
use Rattle.std.proofs.Common.{◌≡◌, ◌≢◌, ℕ, ◌+◌, ◌<◌, ◌≤◌, ◌^◌, ◌==◌, Bool, true, false, cond, List, [], ◌∷◌, ◌++◌, filter, get_or, map, All, Option, Some, inr, refl, sym, ap, subst, ◌∙◌, arith}
use Rattle.std.specs.Option.{is_some, option_map}
use Rattle.std.proofs.lemmas.Bool.{eqb-true, false_from_ne_true, true≢false}
use Rattle.std.proofs.lemmas.Bool.Decides.{nat_tests}
use Rattle.std.proofs.lemmas.List.Elements.{All-cons, All-head, All-nil, All-tail, All-weaker}
use Rattle.fjall_base.specs.Pairs.{Pairs}
use Rattle.fjall_journal.specs.Ops.{BatchItem}
use Rattle.fjall_meta.specs.Keyspaces.{Keyspaces}
use Rattle.fjall_table.specs.Blocks.{Entry}
use Rattle.fjall_memtable.specs.Jobs.{IsAbove, OnceEach}
use Rattle.fjall_memtable.specs.Views.{value_at}
use Rattle.fjall_memtable.proofs.Shown as Shown
use Rattle.fjall_table_reader.specs.Readers.{Reader}
use Rattle.fjall_memtable.specs.Sorted.{flat}
use Rattle.fjall_memtable.specs.Parts.{IsHeld, empty_from}
use Rattle.fjall_jobs.specs.declared.made_table.MadeTable.{MadeTable}
use Rattle.fjall_jobs.specs.Tasks.{IsFlushed}
use Rattle.fjall_tree.specs.Ingestions.{ingested, memory_task}
use Rattle.fjall_tree.specs.Puts.{put_all}
use Rattle.fjall_tree.specs.Trees.{Shape, clears_of, versions_of}
use Rattle.fjall_tree.proofs.Ingested.{empty_held, ingested_below, ingested_once, ingested_shape, ingested_view}
use Rattle.fjall_trees.specs.Forests.{AreBefore, Forest, IsForest, IsTree, Planted, altered_at, tree_at}
use Rattle.fjall_trees.specs.Tables.{entries_with}
use Rattle.fjall_trees.specs.Writes.{MayPush, pushed, version_of_item, versions_of_items}
use Rattle.fjall_trees.proofs.Changing.{altered_keeps, tree_under}
use Rattle.fjall_trees.proofs.Places.{tree_each, tree_has}
use Rattle.fjall_trees.specs.MapTables.{AreOlder, IsOlder, map_with, pairs_with, store_by, store_with}
use Rattle.fjall_trees.proofs.Changed.{altered_forest, altered_some, change_at, changed_has, either}
use Rattle.fjall_trees.proofs.Items.{entries_numbered}
use Rattle.fjall_trees.proofs.Parts.{active_held}
use Rattle.fjall_trees.proofs.Pushed.{absent_above, put_all_shows, pushed_at}

-- ---- trees

ingested_tree : (n : ℕ) (readers : List Reader) (shape : Shape) → n < 2 ^ 63 → shape.memory.active.until ≤ n → IsTree shape → IsTree (ingested n readers shape)
ingested_tree n readers shape small until tree = record {
  held = All-cons IsHeld (empty_from (n + 1)) [] (empty_held (n + 1) (omega (arith, small))) (All-nil IsHeld);
  apart = tt;
  clears = ingested_shape (n + 1) shape.clears shape.memory (omega (arith, small)) (omega (arith, until)) tree.held tree.apart tree.clears;
}

pub ingested_forest : (n : ℕ) (readers : List Reader) (id : ℕ) (trees : Forest) → n < 2 ^ 63 → IsForest trees → AreBefore n trees → IsForest (altered_at id (ingested n readers) trees)
ingested_forest n readers id trees small is before =
    altered_forest id (ingested n readers) trees is (λ i d lt. ingested_tree n readers (get_or trees i d).shape small (before i d lt) (is.each i d lt))

pub ingested_before : (n : ℕ) (readers : List Reader) (id : ℕ) (trees : Forest) → AreBefore n trees → AreBefore (n + 1) (altered_at id (ingested n readers) trees)
ingested_before n readers id trees before =
    changed_has (λ k. k.shape.memory.active.until ≤ n + 1) (change_at id (ingested n readers)) trees
    (All-weaker (λ (k : Planted). k.shape.memory.active.until ≤ n) (λ k. (change_at id (ingested n readers) k.id k.shape).memory.active.until ≤ n + 1)
    (λ k le. either (λ s. s.memory.active.until ≤ n + 1) (k.id == id) k.shape (ingested n readers k.shape) (omega arith) (omega (arith, le))) trees before)

pub ingested_has : (n : ℕ) (readers : List Reader) (id other : ℕ) (trees : Forest) → is_some (tree_at other (altered_at id (ingested n readers) trees)) ≡ is_some (tree_at other trees)
ingested_has n readers id other trees = altered_some id (ingested n readers) other trees

-- ---- versions of one keyspace

-- of other keyspaces there are none
none_of : (id other n : ℕ) (items : List BatchItem) → All (λ item. item.0 ≡ id) items → other ≢ id → versions_of_items other n items ≡ []
none_of id other n [] of differ = refl
none_of id other n (item ∷ items) of differ =
    let here = All-head (λ (i : BatchItem). i.0 ≡ id) item items of in
    let no : (item.0 == other) ≡ false = grind (arith, nat_tests, here, differ) in
    ap (λ (b : Bool). map (version_of_item n) (cond b (item ∷ filter (λ i. i.0 == other) items) (filter (λ i. i.0 == other) items))) no
    ∙ none_of id other n items (All-tail (λ (i : BatchItem). i.0 ≡ id) item items of) differ

module _ (entries : ℕ → List (List Entry)) (n : ℕ) (items : List BatchItem) (trees : Forest) (may : MayPush n items trees) (id : ℕ) (shape : Shape) (has : tree_at id trees ≡ Some shape) (of : All (λ item. item.0 ≡ id) items)
    (keyspace watermark : ℕ) (tables : List MadeTable) (clears : List ℕ) (made : IsFlushed (memory_task keyspace watermark shape.memory) tables clears)
    (lists : List (List Entry)) (are : flat lists ≡ versions_of_items id n items) (readers : List Reader) where
  abbrev new_lists : List (List Entry)
  new_lists = entries id ++ (made.lists ++ lists)

  abbrev new_trees : Forest
  new_trees = altered_at id (ingested n readers) trees

  tree : IsTree shape
  tree = tree_has IsTree trees id shape may.forest.each has

  until : shape.memory.active.until ≤ n
  until = tree_has (λ s. s.memory.active.until ≤ n) trees id shape may.before has

  -- what tables hold is older than what is in memory then, which is nothing
  pub ingested_older : AreOlder trees entries → OnceEach (flat lists) → AreOlder new_trees (entries_with id new_lists entries)
  ingested_older older each =
      let small : n ≤ 2 ^ 63 = (let lt = may.small in omega (arith, lt)) in
      let old = tree_under (λ k. IsOlder k.shape (entries k.id)) trees id shape older has in
      let at = subst (λ (vs : List Entry). All (λ v. v.number ≡ n) vs) (sym are) (entries_numbered (λ m. m ≡ n) id n items refl) in
      altered_keeps IsOlder trees entries older may.forest id shape has (ingested n readers) new_lists
      (record {
        below = ingested_below shape tree.held tree.apart keyspace watermark tables clears made n small until (entries id) lists old.below old.once at each;
        once = ingested_once shape tree.held tree.apart keyspace watermark tables clears made n small until (entries id) lists old.below old.once at each;
      })

  -- at an instant above the watermark its map is that of a tree into which the versions are put
  view_same : (instant : ℕ) → IsAbove watermark instant → map_with new_lists instant (Some (ingested n readers shape)) ≡ map_with (entries id) instant (Some (put_all (versions_of_items id n items) shape))
  unfolding map_with
  view_same instant above =
      let more = put_all (versions_of_items id n items) shape in
      let after = ingested n readers shape in
      let held = active_held shape tree in
      let absent = absent_above n (versions_of_items id n items) shape held until (entries_numbered (λ m. n ≤ m) id n items (omega arith)) in
      Shown.same_views instant (clears_of after) (clears_of more) (versions_of after new_lists) (versions_of more (entries id))
      (λ key.
      ingested_view shape tree.held tree.apart keyspace watermark tables clears made n readers (entries id) lists key instant above
      ∙ ap (λ (vs : List Entry). value_at key instant (clears_of shape) (versions_of shape (entries id) ++ vs)) are
      ∙ sym (put_all_shows (versions_of_items id n items) shape held absent key instant (entries id)))

  -- each keyspace shows what it would if the items were put into memory
  pub ingested_with : (other instant : ℕ) → IsAbove watermark instant → pairs_with (entries_with id new_lists entries) other instant new_trees ≡ pairs_with entries other instant (pushed n items trees)
  ingested_with other instant above =
      ap (map_with (entries_with id new_lists entries other) instant) (tree_each (change_at id (ingested n readers)) other trees) ∙ by (other == id) refl
      ∙ sym (ap (map_with (entries other) instant) (pushed_at n items trees other))
    where
      by : (b : Bool) → (other == id) ≡ b
          → map_with (cond b new_lists (entries other)) instant (option_map (λ s. cond b (ingested n readers s) s) (tree_at other trees))
          ≡ map_with (entries other) instant (option_map (put_all (versions_of_items other n items)) (tree_at other trees))
      by true e =
          let same = eqb-true other id e in
          subst (λ (q : ℕ). map_with new_lists instant (option_map (ingested n readers) (tree_at q trees))
          ≡ map_with (entries q) instant (option_map (put_all (versions_of_items q n items)) (tree_at q trees))) (sym same)
          (subst (λ (o : Option Shape). map_with new_lists instant (option_map (ingested n readers) o) ≡ map_with (entries id) instant (option_map (put_all (versions_of_items id n items)) o)) (sym has) (view_same instant above))
      by false e =
          let none = none_of id other n items of (λ same. true≢false (sym (grind (arith, nat_tests, same)) ∙ e)) in
          ap (map_with (entries other) instant) (ap (λ (vs : List Entry). option_map (put_all vs) (tree_at other trees)) (sym none))

  -- so does the store
  pub ingested_store : watermark < 2 ^ 63 → (s : Keyspaces) → store_with (entries_with id new_lists entries) s new_trees ≡ store_with entries s (pushed n items trees)
  ingested_store low s = ap (λ (pairs : ℕ → Pairs). store_by pairs s) (λ i q. ingested_with q (2 ^ 63) (inr low) i)
