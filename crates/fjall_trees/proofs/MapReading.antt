-- What reads find in trees, and the store that they show.
use Rattle.std.proofs.Common.{◌≡◌, ℕ, ◌≤◌, ◌^◌, List, [], All, Option, Some, None, refl, sym, ap, subst, arith}
use Rattle.std.specs.FinMap.{empty}
use Rattle.fjall_base.specs.Pairs.{Bytes, lookup}
use Rattle.fjall_base.specs.Store.{kept, map_at}
use Rattle.fjall_meta.specs.declared.living.LivingKeyspace.{LivingKeyspace}
use Rattle.fjall_meta.specs.Keyspaces.{Keyspaces, keyspace_at}
use Rattle.fjall_table.specs.Blocks.{Entry}
use Rattle.fjall_memtable.specs.Views.{IsView, value_at}
use Rattle.fjall_memtable.proofs.Shown as Shown
use Rattle.fjall_tree.specs.Trees.{Shape, clears_of, versions_of}
use Rattle.fjall_trees.specs.Forests.{AreBefore, Forest, IsForest, IsTree, tree_at}
use Rattle.fjall_trees.proofs.Changing.{tree_under}
use Rattle.fjall_trees.proofs.Places.{tree_has}
use Rattle.fjall_trees.specs.Maps.{pairs_in, store_of}
use Rattle.fjall_trees.specs.MapTables.{AreOlder, IsOlder, map_with, no_entries, pairs_with}
use Rattle.fjall_trees.proofs.Above.{views_same}
use Rattle.fjall_trees.proofs.Bare.{Shows, bare_shows}
use Rattle.fjall_trees.proofs.Older.{none_older}
use Rattle.fjall_trees.proofs.Parts.{clears_end, versions_end}
use Rattle.fjall_trees.proofs.Stores.{kept_by, reads_by, same_by}

-- ---- over tables

-- a keyspace with a tree has the view of all that the tree holds
pub view_with : (entries : ℕ → List (List Entry)) (id instant : ℕ) (trees : Forest) (shape : Shape) → tree_at id trees ≡ Some shape
    → IsView instant (clears_of shape) (versions_of shape (entries id)) (pairs_with entries id instant trees)
unfolding map_with
view_with entries id instant trees shape is =
    subst (λ o. IsView instant (clears_of shape) (versions_of shape (entries id)) (map_with (entries id) instant o)) (sym is)
    (Shown.is_view instant (clears_of shape) (versions_of shape (entries id)))

pub key_with : (entries : ℕ → List (List Entry)) (id instant : ℕ) (trees : Forest) (shape : Shape) → tree_at id trees ≡ Some shape → (key : Bytes)
    → lookup (pairs_with entries id instant trees) key ≡ value_at key instant (clears_of shape) (versions_of shape (entries id))
key_with entries id instant trees shape is key = view_with entries id instant trees shape is key

-- without a tree it has nothing
pub nothing_with : (entries : ℕ → List (List Entry)) (id instant : ℕ) (trees : Forest) → tree_at id trees ≡ None → pairs_with entries id instant trees ≡ empty
unfolding map_with
nothing_with entries id instant trees none = ap (map_with (entries id) instant) none

-- above all numbers nothing changes any more
pub above_with : (entries : ℕ → List (List Entry)) (n : ℕ) (trees : Forest) → IsForest trees → AreOlder trees entries → AreBefore n trees → (id instant : ℕ) → n ≤ instant
    → pairs_with entries id instant trees ≡ pairs_with entries id n trees
unfolding map_with
above_with entries n trees is older before id instant le = by (tree_at id trees) refl
  where
    by : (o : Option Shape) → tree_at id trees ≡ o → map_with (entries id) instant o ≡ map_with (entries id) n o
    by None e = refl
    by (Some shape) e =
        let tree = tree_has IsTree trees id shape is.each e in
        let ends = tree_has (λ s. s.memory.active.until ≤ n) trees id shape before e in
        let old = tree_under (λ k. IsOlder k.shape (entries k.id)) trees id shape older e in
        views_same n instant n (clears_of shape) (versions_of shape (entries id)) le (omega arith) (clears_end shape n tree ends) (versions_end shape (entries id) n tree old ends)

-- ---- without tables

pub is_view : (id instant : ℕ) (trees : Forest) (shape : Shape) → tree_at id trees ≡ Some shape → IsView instant (clears_of shape) (versions_of shape []) (pairs_in id instant trees)
is_view id instant trees shape is =
    subst (λ (p : Shows). IsView instant (clears_of shape) (versions_of shape []) (p id instant trees)) bare_shows (view_with no_entries id instant trees shape is)

pub read_key : (id instant : ℕ) (trees : Forest) (shape : Shape) → tree_at id trees ≡ Some shape → (key : Bytes) → lookup (pairs_in id instant trees) key ≡ value_at key instant (clears_of shape) (versions_of shape [])
read_key id instant trees shape is key = is_view id instant trees shape is key

pub read_nothing : (id instant : ℕ) (trees : Forest) → tree_at id trees ≡ None → pairs_in id instant trees ≡ empty
read_nothing id instant trees none = subst (λ (p : Shows). p id instant trees ≡ empty) bare_shows (nothing_with no_entries id instant trees none)

pub pairs_above : (n : ℕ) (trees : Forest) → IsForest trees → AreBefore n trees → (id instant : ℕ) → n ≤ instant → pairs_in id instant trees ≡ pairs_in id n trees
pairs_above n trees is before id instant le =
    subst (λ (p : Shows). p id instant trees ≡ p id n trees) bare_shows (above_with no_entries n trees is (none_older trees) before id instant le)

pub store_is_kept : (s : Keyspaces) (trees : Forest) → kept (store_of s trees) ≡ store_of s trees
store_is_kept s trees = kept_by (λ id. pairs_in id (2 ^ 63) trees) s

pub a_keyspace_reads : (s : Keyspaces) (trees : Forest) (id : ℕ) (k : LivingKeyspace) → keyspace_at id s.living ≡ Some k → map_at (store_of s trees).maps id ≡ pairs_in id (2 ^ 63) trees
a_keyspace_reads s trees id k is = reads_by (λ id. pairs_in id (2 ^ 63) trees) s id k is

pub same_store : (s : Keyspaces) (trees others : Forest) → All (λ k. pairs_in k.id (2 ^ 63) trees ≡ pairs_in k.id (2 ^ 63) others) s.living → store_of s trees ≡ store_of s others
same_store s trees others same = same_by (λ id. pairs_in id (2 ^ 63) trees) (λ id. pairs_in id (2 ^ 63) others) s same
