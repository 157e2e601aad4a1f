-- What a clear makes of trees, of their maps and of the store.
use Rattle.std.proofs.Common.{◌≡◌, ℕ, ◌+◌, ◌<◌, ◌≤◌, ◌^◌, ◌==◌, Bool, true, false, cond, List, get_or, All, Option, Some, None, unwrap_or, refl, sym, ap, subst, ◌∙◌, arith}
use Rattle.std.specs.Option.{is_some, option_map}
use Rattle.std.specs.FinMap.{empty, get, get-empty}
use Rattle.std.proofs.lemmas.List.Elements.{All-weaker}
use Rattle.fjall_base.specs.Pairs.{Bytes, byte_order}
use Rattle.fjall_base.specs.Store.{Clear, Store, apply, kept, map_at}
use Rattle.fjall_meta.specs.Keyspaces.{Keyspaces, keyspace_at}
use Rattle.fjall_table.specs.Blocks.{Entry}
use Rattle.fjall_memtable.specs.Views.{value_at}
use Rattle.fjall_memtable.proofs.Shown as Shown
use Rattle.fjall_memtable.proofs.Writing.{clear_empties, clear_keeps}
use Rattle.fjall_meta.proofs.Slots.{get_put}
use Rattle.fjall_memtable.specs.Parts.{with_clear}
use Rattle.fjall_memtable.proofs.Changes.{clear_held}
use Rattle.fjall_tree.specs.Trees.{Shape, clears_of, emptied, versions_of}
use Rattle.fjall_tree.proofs.Changes.{emptied_clears, emptied_versions}
use Rattle.fjall_trees.specs.Forests.{AreBefore, Forest, IsForest, IsTree, altered_at, tree_at}
use Rattle.fjall_trees.proofs.Changing.{tree_under}
use Rattle.fjall_trees.proofs.Places.{tree_has}
use Rattle.fjall_trees.specs.Maps.{pairs_in, store_of}
use Rattle.fjall_trees.specs.MapTables.{AreOlder, IsOlder, map_with, no_entries, pairs_with, store_by, store_with}
use Rattle.fjall_trees.proofs.Bare.{Shows, bare_shows}
use Rattle.fjall_trees.proofs.Changed.{altered_forest, altered_found, altered_some, changed_has, change_at, either}
use Rattle.fjall_trees.proofs.Commands.{cleared_by}
use Rattle.fjall_trees.proofs.Older.{emptied_older, none_older}
use Rattle.fjall_trees.proofs.Parts.{active_held, tree_with, versions_end}
use Rattle.fjall_trees.proofs.MapReading.{above_with}

-- ---- one tree

emptied_tree : (n : ℕ) (shape : Shape) → IsTree shape → shape.memory.active.until ≤ n → n < 2 ^ 63 → IsTree (emptied n shape)
emptied_tree n shape tree le small =
    let h = shape.memory.active in
    let held = active_held shape tree in
    let bounds : h.from ≤ h.until = held.bounds in
    tree_with (with_clear n h) shape tree
    (clear_held n h held (omega arith) small (All-weaker (λ c. c < h.until) (λ c. c < n) (λ c low. omega arith) h.clears held.high_clears)) refl

-- a view up to it
value_early : (n : ℕ) (shape : Shape) (entries : List (List Entry)) (key : Bytes) (instant : ℕ) → instant ≤ n
    → value_at key instant (clears_of (emptied n shape)) (versions_of (emptied n shape) entries) ≡ value_at key instant (clears_of shape) (versions_of shape entries)
value_early n shape entries key instant le =
    (λ i. value_at key instant (emptied_clears shape n i) (emptied_versions shape entries n i)) ∙ clear_keeps key instant (clears_of shape) n (versions_of shape entries) le

-- the view behind it
value_late : (n : ℕ) (shape : Shape) (entries : List (List Entry)) (key : Bytes) → IsTree shape → IsOlder shape entries → shape.memory.active.until ≤ n
    → value_at key (n + 1) (clears_of (emptied n shape)) (versions_of (emptied n shape) entries) ≡ None
value_late n shape entries key tree older le =
    (λ i. value_at key (n + 1) (emptied_clears shape n i) (emptied_versions shape entries n i))
    ∙ clear_empties key (n + 1) (clears_of shape) n (versions_of shape entries) (omega arith) (versions_end shape entries n tree older le)

-- ---- all trees

pub emptied_forest : (n id : ℕ) (trees : Forest) → IsForest trees → AreBefore n trees → n < 2 ^ 63 → IsForest (altered_at id (emptied n) trees)
emptied_forest n id trees is before small =
    altered_forest id (emptied n) trees is (λ i d lt. emptied_tree n (get_or trees i d).shape (is.each i d lt) (before i d lt) small)

pub emptied_before : (n id : ℕ) (trees : Forest) → AreBefore n trees → AreBefore (n + 1) (altered_at id (emptied n) trees)
emptied_before n id trees before =
    changed_has (λ k. k.shape.memory.active.until ≤ n + 1) (change_at id (emptied n)) trees
    (All-weaker (λ k. k.shape.memory.active.until ≤ n) (λ k. (change_at id (emptied n) k.id k.shape).memory.active.until ≤ n + 1)
    (λ k le. either (λ s. s.memory.active.until ≤ n + 1) (k.id == id) k.shape (emptied n k.shape) (omega arith) (omega arith)) trees before)

pub emptied_ids : (P : ℕ → Type 0) (n id : ℕ) (trees : Forest) → All (λ k. P k.id) trees → All (λ k. P k.id) (altered_at id (emptied n) trees)
emptied_ids P n id trees all = changed_has (λ k. P k.id) (change_at id (emptied n)) trees all

pub emptied_has : (n id other : ℕ) (trees : Forest) → is_some (tree_at other (altered_at id (emptied n) trees)) ≡ is_some (tree_at other trees)
emptied_has n id other trees = altered_some id (emptied n) other trees

-- ---- maps, over tables

-- no instant up to its number shows it
pub clear_early : (entries : ℕ → List (List Entry)) (n id : ℕ) (trees : Forest) (other instant : ℕ) → instant ≤ n
    → pairs_with entries other instant (altered_at id (emptied n) trees) ≡ pairs_with entries other instant trees
unfolding map_with
clear_early entries n id trees other instant le =
    altered_found id (emptied n) other trees (λ b o. map_with (entries other) instant o ≡ map_with (entries other) instant (tree_at other trees)) (λ same. by (tree_at other trees)) refl
  where
    by : (o : Option Shape) → map_with (entries other) instant (option_map (emptied n) o) ≡ map_with (entries other) instant o
    by None = refl
    by (Some shape) =
        Shown.same_views instant (clears_of (emptied n shape)) (clears_of shape) (versions_of (emptied n shape) (entries other)) (versions_of shape (entries other))
        (λ key. value_early n shape (entries other) key instant le)

-- at the next instant one keyspace has nothing, and another what it had
pub clear_next : (entries : ℕ → List (List Entry)) (n id : ℕ) (trees : Forest) → IsForest trees → AreOlder trees entries → AreBefore n trees → (other : ℕ)
    → cond (other == id) empty (pairs_with entries other n trees) ≡ pairs_with entries other (n + 1) (altered_at id (emptied n) trees)
unfolding map_with
clear_next entries n id trees is older before other =
    altered_found id (emptied n) other trees (λ b o. cond b empty (pairs_with entries other n trees) ≡ map_with (entries other) (n + 1) o)
    (λ same. by (tree_at other trees) refl) (sym (above_with entries n trees is older before other (n + 1) (omega arith)))
  where
    by : (o : Option Shape) → tree_at other trees ≡ o → empty ≡ map_with (entries other) (n + 1) (option_map (emptied n) o)
    by None here = refl
    by (Some shape) here =
        let tree = tree_has IsTree trees other shape is.each here in
        let le = tree_has (λ s. s.memory.active.until ≤ n) trees other shape before here in
        let old = tree_under (λ k. IsOlder k.shape (entries k.id)) trees other shape older here in
        let new = emptied n shape in
        Shown.one_view (n + 1) (clears_of new) (versions_of new (entries other)) empty (map_with (entries other) (n + 1) (Some new))
        (λ key. get-empty byte_order key ∙ sym (value_late n shape (entries other) key tree old le)) (Shown.is_view (n + 1) (clears_of new) (versions_of new (entries other)))

-- behind its number it is the command
pub clear_late : (entries : ℕ → List (List Entry)) (n id : ℕ) (trees : Forest) → IsForest trees → AreOlder trees entries → AreBefore n trees
    → (t : Store) (other : ℕ) → map_at t.maps other ≡ pairs_with entries other n trees → map_at (apply t (Clear id)).maps other ≡ pairs_with entries other (n + 1) (altered_at id (emptied n) trees)
clear_late entries n id trees is older before t other same =
    ap (λ slot. unwrap_or slot empty) (get_put t.maps id empty other) ∙ by (other == id) ∙ clear_next entries n id trees is older before other
  where
    by : (b : Bool) → unwrap_or (cond b (Some empty) (get t.maps other)) empty ≡ cond b empty (pairs_with entries other n trees)
    by true = refl
    by false = same

pub clear_with : (entries : ℕ → List (List Entry)) (n id : ℕ) (trees : Forest) → IsForest trees → AreOlder trees entries → AreBefore n trees → n < 2 ^ 63 → (s : Keyspaces)
    → kept (apply (store_with entries s trees) (Clear id)) ≡ store_with entries s (altered_at id (emptied n) trees)
clear_with entries n id trees is older before small s =
    cleared_by (λ q. pairs_with entries q (2 ^ 63) trees) (λ q. pairs_with entries q (2 ^ 63) new) s id
    (λ q.
    ap (cond (q == id) empty) (above_with entries n trees is older before q (2 ^ 63) (omega arith))
    ∙ clear_next entries n id trees is older before q
    ∙ sym (above_with entries (n + 1) new (emptied_forest n id trees is before small) (emptied_older n id trees entries older) (emptied_before n id trees before) q (2 ^ 63) (omega arith)))
  where
    new : Forest
    new = altered_at id (emptied n) trees

-- ---- maps, without tables

pub emptied_early : (n id : ℕ) (trees : Forest) → IsForest trees → AreBefore n trees → (other instant : ℕ) → instant ≤ n → pairs_in other instant (altered_at id (emptied n) trees) ≡ pairs_in other instant trees
emptied_early n id trees is before other instant le =
    subst (λ (p : Shows). p other instant (altered_at id (emptied n) trees) ≡ p other instant trees) bare_shows (clear_early no_entries n id trees other instant le)

pub emptied_late : (n id : ℕ) (trees : Forest) → IsForest trees → AreBefore n trees
    → (t : Store) (other : ℕ) → map_at t.maps other ≡ pairs_in other n trees → map_at (apply t (Clear id)).maps other ≡ pairs_in other (n + 1) (altered_at id (emptied n) trees)
emptied_late n id trees is before t other =
    subst (λ (p : Shows). map_at t.maps other ≡ p other n trees → map_at (apply t (Clear id)).maps other ≡ p other (n + 1) (altered_at id (emptied n) trees)) bare_shows
    (clear_late no_entries n id trees is (none_older trees) before t other)

pub emptied_store : (n id : ℕ) (trees : Forest) → IsForest trees → AreBefore n trees → n < 2 ^ 63 → (s : Keyspaces) → is_some (keyspace_at id s.living) ≡ true
    → kept (apply (store_of s trees) (Clear id)) ≡ store_of s (altered_at id (emptied n) trees)
emptied_store n id trees is before small s living =
    subst (λ (p : Shows). kept (apply (store_by (λ q. p q (2 ^ 63) trees) s) (Clear id)) ≡ store_by (λ q. p q (2 ^ 63) (altered_at id (emptied n) trees)) s) bare_shows
    (clear_with no_entries n id trees is (none_older trees) before small s)
