-- What a new keyspace makes of trees, of their maps and of the store, and a deleted one of the store.
use Rattle.std.proofs.Common.{◌≡◌, ℕ, ◌<◌, ◌≤◌, ◌^◌, ◌==◌, Bool, true, false, cond, not, List, [], ◌∷◌, ◌++◌, All, Option, Some, None, refl, sym, ap, subst, ◌∙◌, arith}
use Rattle.std.specs.Option.{is_some, option_or}
use Rattle.std.proofs.lemmas.Bool.{cond-true, eq-eqb, eqb-true}
use Rattle.std.proofs.lemmas.List.{append-nil}
use Rattle.std.proofs.lemmas.List.Elements.{All-cons, All-head, All-nil, All-push, All-tail, All-weaker, filter-append}
use Rattle.fjall_base.specs.Pairs.{Bytes}
use Rattle.fjall_base.specs.Store.{Create, Delete, apply, kept}
use Rattle.fjall_meta.specs.Keyspaces.{AreKeyspaces, Keyspaces, with_keyspace, without_keyspace}
use Rattle.fjall_table.specs.Blocks.{Entry, IsEntry}
use Rattle.fjall_meta.specs.Replays.{option_pairs}
use Rattle.fjall_memtable.specs.Parts.{IsHeld, empty_from}
use Rattle.fjall_tree.specs.Trees.{Shape}
use Rattle.fjall_tree.specs.Puts.{bare_tree}
use Rattle.fjall_trees.specs.Forests.{AreBefore, Forest, IsForest, IsTree, Planted, tree_at, without}
use Rattle.fjall_trees.specs.Writes.{with_tree}
use Rattle.fjall_trees.proofs.Places.{id_differs}
use Rattle.fjall_trees.specs.Maps.{pairs_in, store_of}
use Rattle.fjall_trees.specs.MapTables.{map_with, no_entries, pairs_with, store_by, store_with}
use Rattle.fjall_trees.proofs.Bare.{Shows, bare_shows}
use Rattle.fjall_trees.proofs.Changed.{filter_whole, forest_with, tree_with}
use Rattle.fjall_trees.proofs.Commands.{created_by, deleted_by}
use Rattle.fjall_trees.proofs.MapReading.{nothing_with}

-- the tree of nothing
abbrev new_tree : ℕ → ℕ → Planted
new_tree id from = record { id = id; shape = bare_tree from }

pub empty_held : (from : ℕ) → from ≤ 2 ^ 63 → IsHeld (empty_from from)
empty_held from small = record {
  each = All-nil IsEntry;
  ordered = tt;
  bounds = omega arith;
  small = small;
  low = All-nil (λ (v : Entry). from ≤ v.number);
  high = All-nil (λ (v : Entry). v.number < from);
  low_clears = All-nil (λ (n : ℕ). from ≤ n);
  high_clears = All-nil (λ (n : ℕ). n < from);
  ascend = tt;
}

bare_is : (from : ℕ) → from ≤ 2 ^ 63 → IsTree (bare_tree from)
bare_is from small = record {
  held = All-cons IsHeld (empty_from from) [] (empty_held from small) (All-nil IsHeld);
  apart = tt;
  clears = record { low = All-nil (λ (n : ℕ). n < from); ascend = tt };
}

-- an id above all others has no tree
pub no_tree : (id : ℕ) (trees : Forest) → All (λ k. k.id < id) trees → tree_at id trees ≡ None
no_tree id [] below = refl
no_tree id (k ∷ trees) below =
    ap (λ b. cond b (Some k.shape) (tree_at id trees)) (id_differs k.id id (All-head (λ (j : Planted). j.id < id) k trees below))
    ∙ no_tree id trees (All-tail (λ (j : Planted). j.id < id) k trees below)

pub planted_forest : (id from : ℕ) (trees : Forest) → IsForest trees → All (λ k. k.id < id) trees → from ≤ 2 ^ 63 → IsForest (with_tree id from trees)
planted_forest id from trees is below small = forest_with (new_tree id from) trees is below (bare_is from small)

pub planted_before : (n id from : ℕ) (trees : Forest) → AreBefore n trees → from ≤ n → AreBefore n (with_tree id from trees)
planted_before n id from trees before le = All-push (λ k. k.shape.memory.active.until ≤ n) trees (new_tree id from) before le

pub planted_has : (id from : ℕ) (trees : Forest) (other : ℕ) → is_some (tree_at other trees) ≡ true → is_some (tree_at other (with_tree id from trees)) ≡ true
planted_has id from trees other there = ap is_some (tree_with other trees (new_tree id from)) ∙ by (tree_at other trees) there
  where
    by : (o : Option Shape) → is_some o ≡ true → is_some (option_or o (cond (id == other) (Some (bare_tree from)) None)) ≡ true
    by None e = absurd cc
    by (Some shape) e = refl

pub planted_here : (id from : ℕ) (trees : Forest) → All (λ k. k.id < id) trees → is_some (tree_at id (with_tree id from trees)) ≡ true
planted_here id from trees below =
    ap is_some (tree_with id trees (new_tree id from) ∙ ap (λ o. option_or o (cond (id == id) (Some (bare_tree from)) None)) (no_tree id trees below)
    ∙ cond-true (id == id) (Some (bare_tree from)) None (eq-eqb id id refl))

-- no map changes, where no table of it has an entry
pub planted_with : (entries : ℕ → List (List Entry)) (id from : ℕ) (trees : Forest) → entries id ≡ [] → (other instant : ℕ)
    → pairs_with entries other instant (with_tree id from trees) ≡ pairs_with entries other instant trees
unfolding map_with
planted_with entries id from trees none other instant = ap (map_with (entries other) instant) (tree_with other trees (new_tree id from)) ∙ by (tree_at other trees) (id == other) refl
  where
    by : (o : Option Shape) (b : Bool) → (id == other) ≡ b → map_with (entries other) instant (option_or o (cond b (Some (bare_tree from)) None)) ≡ map_with (entries other) instant o
    by None true e = ap (λ (es : List (List Entry)). map_with es instant (Some (bare_tree from))) (ap entries (sym (eqb-true id other e)) ∙ none)
    by None false e = refl
    by (Some shape) b e = refl

pub planted_pairs : (id from : ℕ) (trees : Forest) → All (λ k. k.id < id) trees → (other instant : ℕ) → pairs_in other instant (with_tree id from trees) ≡ pairs_in other instant trees
planted_pairs id from trees below other instant =
    subst (λ (p : Shows). p other instant (with_tree id from trees) ≡ p other instant trees) bare_shows (planted_with no_entries id from trees refl other instant)

-- it is taken back where it is dropped again
pub planted_gone : (id from : ℕ) (trees : Forest) → All (λ k. k.id < id) trees → without id (with_tree id from trees) ≡ trees
planted_gone id from trees below =
    filter-append others trees (new_tree id from ∷ [])
    ∙ (λ i. filter_whole others trees (All-weaker (λ k. k.id < id) (λ k. others k ≡ true) (λ k lt. ap not (id_differs k.id id lt)) trees below) i
    ++ cond (not (eq-eqb id id refl i)) (new_tree id from ∷ []) [])
    ∙ append-nil trees
  where
    others : Planted → Bool
    others k = not (k.id == id)

pub creation_with : (entries : ℕ → List (List Entry)) (name : Bytes) (options : List Bytes) (number : ℕ) (s : Keyspaces) → AreKeyspaces s → (from : ℕ) (trees : Forest)
    → All (λ k. k.id < s.next) trees → entries s.next ≡ []
    → store_with entries (with_keyspace name options number s) (with_tree s.next from trees) ≡ apply (store_with entries s trees) (Create name (option_pairs options))
creation_with entries name options number s are from trees below none =
    created_by (λ id. pairs_with entries id (2 ^ 63) trees) (λ id. pairs_with entries id (2 ^ 63) (with_tree s.next from trees)) name options number s are
    (planted_with entries s.next from trees none s.next (2 ^ 63) ∙ nothing_with entries s.next (2 ^ 63) trees (no_tree s.next trees below))
    (λ id. planted_with entries s.next from trees none id (2 ^ 63))

pub creation_of_trees : (name : Bytes) (options : List Bytes) (number : ℕ) (s : Keyspaces) → AreKeyspaces s → (from : ℕ) (trees : Forest) → All (λ k. k.id < s.next) trees
    → store_of (with_keyspace name options number s) (with_tree s.next from trees) ≡ apply (store_of s trees) (Create name (option_pairs options))
creation_of_trees name options number s are from trees below =
    subst (λ (p : Shows). store_by (λ id. p id (2 ^ 63) (with_tree s.next from trees)) (with_keyspace name options number s)
    ≡ apply (store_by (λ id. p id (2 ^ 63) trees) s) (Create name (option_pairs options))) bare_shows
    (creation_with no_entries name options number s are from trees below refl)

pub deletion_of_trees : (id : ℕ) (s : Keyspaces) (trees : Forest) → kept (store_of (without_keyspace id s) trees) ≡ kept (apply (store_of s trees) (Delete id))
deletion_of_trees id s trees = deleted_by (λ q. pairs_in q (2 ^ 63) trees) id s
