-- What the items of a batch make of trees, of their maps and of the store.
use Rattle.std.proofs.Common.{◌≡◌, ◌≢◌, ℕ, ◌+◌, ◌<◌, ◌≤◌, ◌^◌, true, List, ◌++◌, get_or, All, Option, Some, None, refl, sym, ap, subst, ◌∙◌, arith}
use Rattle.std.specs.Option.{is_some, option_map}
use Rattle.std.specs.FinMap.{empty, get}
use Rattle.std.proofs.lemmas.Bool.{true≢false}
use Rattle.std.proofs.lemmas.List.Elements.{All-weaker}
use Rattle.fjall_base.specs.Pairs.{Bytes, Pairs}
use Rattle.fjall_base.specs.Store.{Store, apply, kept, map_at}
use Rattle.fjall_journal.specs.Ops.{BatchItem, write_of}
use Rattle.fjall_meta.specs.declared.living.LivingKeyspace.{LivingKeyspace}
use Rattle.fjall_meta.specs.Keyspaces.{Keyspaces, keyspace_at}
use Rattle.fjall_table.specs.Blocks.{Entry, IsEntry}
use Rattle.fjall_memtable.specs.Entries.{IsAbsent, stamp_of}
use Rattle.fjall_memtable.specs.Stamps.{Stamp}
use Rattle.fjall_memtable.specs.Views.{IsView, value_at, view_of}
use Rattle.fjall_memtable.proofs.Shown as Shown
use Rattle.fjall_meta.specs.Versions.{pairs_after}
use Rattle.fjall_meta.proofs.Ids.{living_has}
use Rattle.fjall_memtable.specs.Parts.{IsHeld, with_version}
use Rattle.fjall_memtable.proofs.Changes.{version_held}
use Rattle.fjall_tree.specs.Trees.{Shape, clears_of, versions_of}
use Rattle.fjall_tree.specs.Puts.{put_all}
use Rattle.fjall_trees.specs.Forests.{AreBefore, Forest, IsForest, IsTree, tree_at}
use Rattle.fjall_trees.specs.Writes.{MayPush, pushed, versions_of_items}
use Rattle.fjall_trees.proofs.Changing.{put_all_keeps, tree_under}
use Rattle.fjall_trees.proofs.Places.{tree_each, tree_has}
use Rattle.fjall_trees.specs.Maps.{pairs_in, store_of}
use Rattle.fjall_trees.specs.MapTables.{AreOlder, IsOlder, map_with, no_entries, pairs_with, store_by, store_with}
use Rattle.fjall_trees.proofs.Above.{unseen_keep, views_same}
use Rattle.fjall_trees.proofs.Bare.{Shows, bare_shows}
use Rattle.fjall_trees.proofs.Changed.{changed_forest, changed_has, changed_some}
use Rattle.fjall_trees.proofs.Commands.{written_by}
use Rattle.fjall_trees.proofs.Items.{entries_are, entries_numbered, items_view, made, map_after, others_made}
use Rattle.fjall_trees.proofs.Older.{none_older, pushed_older}
use Rattle.fjall_trees.proofs.Parts.{active_held, clears_end, tree_with, versions_end}
use Rattle.fjall_trees.proofs.Puts as Puts
use Rattle.fjall_trees.proofs.MapReading.{above_with}

-- ---- versions that are put into one tree

-- to each view they are versions more, behind all others
pub put_all_shows : (vs : List Entry) (shape : Shape) → IsHeld shape.memory.active → All (λ v. IsAbsent v.key v.number shape.memory.active.versions) vs
    → (key : Bytes) (instant : ℕ) (entries : List (List Entry))
    → value_at key instant (clears_of (put_all vs shape)) (versions_of (put_all vs shape) entries) ≡ value_at key instant (clears_of shape) (versions_of shape entries ++ vs)
put_all_shows vs shape held absent key instant entries = Puts.shows vs shape held.ordered absent key instant entries

pub put_all_from : (vs : List Entry) (shape : Shape) → (put_all vs shape).memory.active.from ≡ shape.memory.active.from
put_all_from vs shape = put_all_keeps (λ s. s.memory.active.from ≡ shape.memory.active.from) (λ v s same. same) vs shape refl

pub put_all_clears : (vs : List Entry) (shape : Shape) → (put_all vs shape).clears ≡ shape.clears
put_all_clears vs shape = put_all_keeps (λ s. s.clears ≡ shape.clears) (λ v s same. same) vs shape refl

pub put_all_clears_of : (vs : List Entry) (shape : Shape) → clears_of (put_all vs shape) ≡ clears_of shape
put_all_clears_of vs shape = Puts.put_all_clears_of vs shape

pub put_all_sealed : (vs : List Entry) (shape : Shape) → (put_all vs shape).memory.sealed ≡ shape.memory.sealed
put_all_sealed vs shape = Puts.put_all_sealed vs shape

pub put_all_tables : (vs : List Entry) (shape : Shape) → (put_all vs shape).tables ≡ shape.tables
put_all_tables vs shape = put_all_keeps (λ s. s.tables ≡ shape.tables) (λ v s same. same) vs shape refl

pub put_all_until : (n : ℕ) (vs : List Entry) (shape : Shape) → shape.memory.active.until ≤ n → All (λ v. v.number < n) vs → (put_all vs shape).memory.active.until ≤ n
put_all_until n vs shape le low = Puts.put_all_has (λ v. v.number < n) (λ s. s.memory.active.until ≤ n) (λ v s lt is. omega arith) vs shape low le

pub put_all_tree : (vs : List Entry) (shape : Shape) → IsTree shape → All IsEntry vs → All (λ v. shape.memory.active.from ≤ v.number) vs → All (λ v. v.number < 2 ^ 63) vs
    → IsTree (put_all vs shape)
put_all_tree vs shape tree entries from small =
    (Puts.put_all_has (λ v. IsEntry v × (shape.memory.active.from ≤ v.number) × (v.number < 2 ^ 63)) (λ s. IsTree s × (s.memory.active.from ≡ shape.memory.active.from))
    (λ v s fits is.
    let low = fits.1 in
    let same = is.1 in
    (tree_with (with_version v s.memory.active) s is.0 (version_held v s.memory.active fits.0 (active_held s is.0) (omega arith) fits.2) refl, same))
    vs shape (λ i d lt. (entries i d lt, from i d lt, small i d lt)) (tree, refl)).0

-- where all numbers in memory are lesser ones
pub absent_above : (n : ℕ) (vs : List Entry) (shape : Shape) → IsHeld shape.memory.active → shape.memory.active.until ≤ n → All (λ v. n ≤ v.number) vs
    → All (λ v. IsAbsent v.key v.number shape.memory.active.versions) vs
absent_above n vs shape held le from =
    All-weaker (λ v. n ≤ v.number) (λ v. IsAbsent v.key v.number shape.memory.active.versions)
    (λ v high. All-weaker (λ w. w.number < shape.memory.active.until) (λ w. stamp_of w ≢ record { key = v.key; number = v.number })
    (λ w low same. let equal = ap (λ (s : Stamp). s.number) same in absurd (omega arith)) shape.memory.active.versions held.high) vs from

-- ---- all trees

pub pushed_at : (n : ℕ) (items : List BatchItem) (trees : Forest) (id : ℕ) → tree_at id (pushed n items trees) ≡ option_map (put_all (versions_of_items id n items)) (tree_at id trees)
unfolding pushed
pushed_at n items trees id = tree_each (λ k. put_all (versions_of_items k n items)) id trees

pub pushed_has : (n : ℕ) (items : List BatchItem) (trees : Forest) (id : ℕ) → is_some (tree_at id (pushed n items trees)) ≡ is_some (tree_at id trees)
unfolding pushed
pushed_has n items trees id = changed_some (λ k. put_all (versions_of_items k n items)) id trees

pub pushed_ids : (P : ℕ → Type 0) (n : ℕ) (items : List BatchItem) (trees : Forest) → All (λ k. P k.id) trees → All (λ k. P k.id) (pushed n items trees)
unfolding pushed
pushed_ids P n items trees all = changed_has (λ k. P k.id) (λ k. put_all (versions_of_items k n items)) trees all

pub pushed_forest : (n : ℕ) (items : List BatchItem) (trees : Forest) → MayPush n items trees → IsForest (pushed n items trees)
unfolding pushed
pushed_forest n items trees may =
    changed_forest (λ k. put_all (versions_of_items k n items)) trees may.forest (λ i d lt. each (get_or trees i d).id (get_or trees i d).shape (may.forest.each i d lt) (may.before i d lt))
  where
    each : (id : ℕ) (shape : Shape) → IsTree shape → shape.memory.active.until ≤ n → IsTree (put_all (versions_of_items id n items) shape)
    each id shape tree le =
        let bounds = (active_held shape tree).bounds in
        put_all_tree (versions_of_items id n items) shape tree (entries_are id n items may.small may.fits)
        (entries_numbered (λ m. shape.memory.active.from ≤ m) id n items (omega arith)) (entries_numbered (λ m. m < 2 ^ 63) id n items may.small)

pub pushed_before : (n : ℕ) (items : List BatchItem) (trees : Forest) → MayPush n items trees → AreBefore (n + 1) (pushed n items trees)
unfolding pushed
pushed_before n items trees may =
    changed_has (λ k. k.shape.memory.active.until ≤ n + 1) (λ k. put_all (versions_of_items k n items)) trees
    (All-weaker (λ k. k.shape.memory.active.until ≤ n) (λ k. (put_all (versions_of_items k.id n items) k.shape).memory.active.until ≤ n + 1)
    (λ k le. put_all_until (n + 1) (versions_of_items k.id n items) k.shape (omega arith) (entries_numbered (λ m. m < n + 1) k.id n items (omega arith))) trees may.before)

-- ---- maps, over tables

-- what is told of the tree of a keyspace
pushed_shows : (entries : List (List Entry)) (n : ℕ) (items : List BatchItem) (trees : Forest) → MayPush n items trees → (id : ℕ) (shape : Shape) → tree_at id trees ≡ Some shape → (key : Bytes) (instant : ℕ)
    → value_at key instant (clears_of (put_all (versions_of_items id n items) shape)) (versions_of (put_all (versions_of_items id n items) shape) entries)
    ≡ value_at key instant (clears_of shape) (versions_of shape entries ++ versions_of_items id n items)
pushed_shows entries n items trees may id shape is key instant =
    let held = active_held shape (tree_has IsTree trees id shape may.forest.each is) in
    put_all_shows (versions_of_items id n items) shape held
    (absent_above n (versions_of_items id n items) shape held (tree_has (λ s. s.memory.active.until ≤ n) trees id shape may.before is) (entries_numbered (λ m. n ≤ m) id n items (omega arith)))
    key instant entries

-- no instant up to their number shows them
pub early_with : (entries : ℕ → List (List Entry)) (n : ℕ) (items : List BatchItem) (trees : Forest) → MayPush n items trees → (id instant : ℕ) → instant ≤ n
    → pairs_with entries id instant (pushed n items trees) ≡ pairs_with entries id instant trees
unfolding map_with
early_with entries n items trees may id instant le = ap (map_with (entries id) instant) (pushed_at n items trees id) ∙ by (tree_at id trees) refl
  where
    by : (o : Option Shape) → tree_at id trees ≡ o → map_with (entries id) instant (option_map (put_all (versions_of_items id n items)) o) ≡ map_with (entries id) instant o
    by None is = refl
    by (Some shape) is =
        let more = put_all (versions_of_items id n items) shape in
        Shown.same_views instant (clears_of more) (clears_of shape) (versions_of more (entries id)) (versions_of shape (entries id))
        (λ key.
        pushed_shows (entries id) n items trees may id shape is key instant
        ∙ unseen_keep key instant (clears_of shape) (versions_of shape (entries id)) (versions_of_items id n items) (entries_numbered (λ m. instant ≤ m) id n items le))

-- at the next instant the map of a keyspace is what they make of it
made_with : (entries : ℕ → List (List Entry)) (n : ℕ) (items : List BatchItem) (trees : Forest) → MayPush n items trees → AreOlder trees entries
    → All (λ item. is_some (tree_at item.0 trees) ≡ true) items → (id : ℕ)
    → pairs_after (pairs_with entries id n trees) id (made n items) ≡ pairs_with entries id (n + 1) (pushed n items trees)
unfolding map_with
made_with entries n items trees may older there id = by (tree_at id trees) refl ∙ sym (ap (map_with (entries id) (n + 1)) (pushed_at n items trees id))
  where
    by : (o : Option Shape) → tree_at id trees ≡ o
        → pairs_after (map_with (entries id) n o) id (made n items) ≡ map_with (entries id) (n + 1) (option_map (put_all (versions_of_items id n items)) o)
    by None is =
        others_made empty n id items
        (All-weaker (λ item. is_some (tree_at item.0 trees) ≡ true) (λ item. item.0 ≢ id)
        (λ item some same. true≢false (sym some ∙ ap (λ (k : ℕ). is_some (tree_at k trees)) same ∙ ap is_some is)) items there)
    by (Some shape) is =
        let es = entries id in
        let more = put_all (versions_of_items id n items) shape in
        let tree = tree_has IsTree trees id shape may.forest.each is in
        let le = tree_has (λ s. s.memory.active.until ≤ n) trees id shape may.before is in
        let clears = clears_end shape n tree le in
        let versions = versions_end shape es n tree (tree_under (λ k. IsOlder k.shape (entries k.id)) trees id shape older is) le in
        let old = views_same n n (n + 1) (clears_of shape) (versions_of shape es) (omega arith) (omega arith) clears versions in
        let view : IsView (n + 1) (clears_of shape) (versions_of shape es) (view_of n (clears_of shape) (versions_of shape es)) =
        λ key. ap (λ (p : Pairs). get p key) old ∙ Shown.is_view (n + 1) (clears_of shape) (versions_of shape es) key in
        let put = items_view (n + 1) n id (clears_of shape) items (versions_of shape es) (view_of n (clears_of shape) (versions_of shape es)) (omega arith)
        (All-weaker (λ v. v.number < n) (λ v. v.number ≤ n) (λ v low. omega arith) (versions_of shape es) versions)
        (All-weaker (λ c. c < n) (λ c. c ≤ n) (λ c low. omega arith) (clears_of shape) clears) view in
        Shown.one_view (n + 1) (clears_of more) (versions_of more es) (pairs_after (view_of n (clears_of shape) (versions_of shape es)) id (made n items))
        (view_of (n + 1) (clears_of more) (versions_of more es))
        (λ key. put key ∙ sym (pushed_shows es n items trees may id shape is key (n + 1))) (Shown.is_view (n + 1) (clears_of more) (versions_of more es))

-- behind their number they are one write
pub late_with : (entries : ℕ → List (List Entry)) (n : ℕ) (items : List BatchItem) (trees : Forest) → MayPush n items trees → AreOlder trees entries
    → All (λ item. is_some (tree_at item.0 trees) ≡ true) items → (t : Store) (id : ℕ) → map_at t.maps id ≡ pairs_with entries id n trees
    → map_at (apply t (write_of items)).maps id ≡ pairs_with entries id (n + 1) (pushed n items trees)
late_with entries n items trees may older there t id same =
    map_after t items n id ∙ ap (λ (p : Pairs). pairs_after p id (made n items)) same ∙ made_with entries n items trees may older there id

-- each item's keyspace has a tree, where all that live have one
all_planted : (items : List BatchItem) (trees : Forest) (s : Keyspaces) → All (λ k. is_some (tree_at k.id trees) ≡ true) s.living → All (λ item. is_some (keyspace_at item.0 s.living) ≡ true) items
    → All (λ item. is_some (tree_at item.0 trees) ≡ true) items
all_planted items trees s there living =
    All-weaker (λ item. is_some (keyspace_at item.0 s.living) ≡ true) (λ item. is_some (tree_at item.0 trees) ≡ true) (λ item here. by item.0 (keyspace_at item.0 s.living) refl here) items living
  where
    by : (id : ℕ) (found : Option LivingKeyspace) → keyspace_at id s.living ≡ found → is_some found ≡ true → is_some (tree_at id trees) ≡ true
    by id None is here = absurd (true≢false (sym here))
    by id (Some k) is here = living_has (λ j. is_some (tree_at j trees) ≡ true) s.living id k is there

pub write_with : (entries : ℕ → List (List Entry)) (n : ℕ) (items : List BatchItem) (trees : Forest) → MayPush n items trees → AreOlder trees entries → (s : Keyspaces)
    → All (λ k. is_some (tree_at k.id trees) ≡ true) s.living → All (λ item. is_some (keyspace_at item.0 s.living) ≡ true) items
    → kept (apply (store_with entries s trees) (write_of items)) ≡ store_with entries s (pushed n items trees)
write_with entries n items trees may older s there living =
    written_by (λ id. pairs_with entries id (2 ^ 63) trees) (λ id. pairs_with entries id (2 ^ 63) new) s n items
    (λ id.
    ap (λ (p : Pairs). pairs_after p id (made n items)) (above_with entries n trees may.forest older may.before id (2 ^ 63) (omega arith))
    ∙ made_with entries n items trees may older (all_planted items trees s there living) id
    ∙ sym (above_with entries (n + 1) new (pushed_forest n items trees may) (pushed_older n items trees entries older) (pushed_before n items trees may) id (2 ^ 63) (omega arith)))
  where
    new : Forest
    new = pushed n items trees

    small : n < 2 ^ 63
    small = may.small

-- ---- maps, without tables

pub pushed_early : (n : ℕ) (items : List BatchItem) (trees : Forest) → MayPush n items trees → (id instant : ℕ) → instant ≤ n → pairs_in id instant (pushed n items trees) ≡ pairs_in id instant trees
pushed_early n items trees may id instant le =
    subst (λ (p : Shows). p id instant (pushed n items trees) ≡ p id instant trees) bare_shows (early_with no_entries n items trees may id instant le)

pub pushed_late : (n : ℕ) (items : List BatchItem) (trees : Forest) → MayPush n items trees → All (λ item. is_some (tree_at item.0 trees) ≡ true) items
    → (t : Store) (id : ℕ) → map_at t.maps id ≡ pairs_in id n trees → map_at (apply t (write_of items)).maps id ≡ pairs_in id (n + 1) (pushed n items trees)
pushed_late n items trees may there t id =
    subst (λ (p : Shows). map_at t.maps id ≡ p id n trees → map_at (apply t (write_of items)).maps id ≡ p id (n + 1) (pushed n items trees)) bare_shows
    (late_with no_entries n items trees may (none_older trees) there t id)

pub pushed_store : (n : ℕ) (items : List BatchItem) (trees : Forest) → MayPush n items trees → (s : Keyspaces)
    → All (λ k. is_some (tree_at k.id trees) ≡ true) s.living → All (λ item. is_some (keyspace_at item.0 s.living) ≡ true) items
    → kept (apply (store_of s trees) (write_of items)) ≡ store_of s (pushed n items trees)
pushed_store n items trees may s there living =
    subst (λ (p : Shows). kept (apply (store_by (λ id. p id (2 ^ 63) trees) s) (write_of items)) ≡ store_by (λ id. p id (2 ^ 63) (pushed n items trees)) s) bare_shows
    (write_with no_entries n items trees may (none_older trees) s there living)
