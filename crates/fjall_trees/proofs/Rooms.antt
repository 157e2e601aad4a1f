-- Room for tables and clears in the tree of one keyspace.
use Rattle.std.proofs.Common.{◌≡◌, ℕ, zero, suc, ◌<◌, ◌==◌, Bool, true, false, cond, List, [], ◌∷◌, set, slice_get, All, Some, None, refl, sym, subst, ◌∙◌, arith}
use Rattle.std.proofs.lemmas.Bool.{eq-eqb, true≢false}
use Rattle.std.proofs.lemmas.List.Elements.{All-cons, All-head, All-nil, All-tail}
use Rattle.fjall_base.proofs.Codecs.{some_is}
use Rattle.fjall_tree.specs.declared.tree.Tree.{Tree}
use Rattle.fjall_tree.specs.Jobs.{HasRoomForTables}
use Rattle.fjall_tree.specs.Shapes.{shape_of}
use Rattle.fjall_memtable.specs.Parts.{Ascends}
use Rattle.fjall_trees.specs.declared.trees.KeyspaceTree.{KeyspaceTree}
use Rattle.fjall_trees.specs.Forests.{IsForest, tree_at}
use Rattle.fjall_trees.specs.Lists.{forest_in}
use Rattle.fjall_trees.proofs.Places.{ascends_of, ids_of}

-- what holds of each holds of the one at a place
all_there : (P : KeyspaceTree → Type 0) (ks : List KeyspaceTree) (place : ℕ) (k : KeyspaceTree) → All P ks → slice_get ks place ≡ Some k → P k
all_there P [] place k all here = absurd cc
all_there P (j ∷ ks) zero k all here = subst P (some_is j k here) (All-head P j ks all)
all_there P (j ∷ ks) (suc place) k all here = all_there P ks place k (All-tail P j ks all) here

above : (n : ℕ) (ks : List KeyspaceTree) → All (λ m. n < m) (ids_of (forest_in ks)) → All (λ k. n < k.id) ks
above n [] all = All-nil (λ (k : KeyspaceTree). n < k.id)
above n (k ∷ ks) all =
    All-cons (λ (j : KeyspaceTree). n < j.id) k ks (All-head (λ (m : ℕ). n < m) k.id (ids_of (forest_in ks)) all) (above n ks (All-tail (λ (m : ℕ). n < m) k.id (ids_of (forest_in ks)) all))

pub room_here : (ks : List KeyspaceTree) (place id : ℕ) (k : KeyspaceTree) (tables clears : ℕ) → All (λ j. j.id ≡ id → HasRoomForTables j.tree tables clears) ks → slice_get ks place ≡ Some k → k.id ≡ id
    → HasRoomForTables k.tree tables clears
room_here ks place id k tables clears room here same = all_there (λ j. j.id ≡ id → HasRoomForTables j.tree tables clears) ks place k room here same

room_up : (ks : List KeyspaceTree) (place id : ℕ) (k : KeyspaceTree) (t : Tree) (tables clears : ℕ) → Ascends (ids_of (forest_in ks)) → slice_get ks place ≡ Some k → k.id ≡ id → HasRoomForTables t tables clears
    → All (λ j. j.id ≡ id → HasRoomForTables j.tree tables clears) (set ks place (record { id = k.id; tree = t }))
room_up [] place id k t tables clears up here same room = absurd cc
room_up (j ∷ ks) zero id k t tables clears up here same room =
    let low = above j.id ks up.0 in
    let first : j.id ≡ k.id = subst (λ (x : KeyspaceTree). j.id ≡ x.id) (some_is j k here) refl in
    All-cons (λ (x : KeyspaceTree). x.id ≡ id → HasRoomForTables x.tree tables clears) (record { id = k.id; tree = t }) ks (λ its. room)
    (λ i d lt its. let next = low i d lt in absurd (omega arith))
room_up (j ∷ ks) (suc place) id k t tables clears up here same room =
    let low = all_there (λ x. j.id < x.id) ks place k (above j.id ks up.0) here in
    All-cons (λ (x : KeyspaceTree). x.id ≡ id → HasRoomForTables x.tree tables clears) j (set ks place (record { id = k.id; tree = t })) (λ its. absurd (omega arith))
    (room_up ks place id k t tables clears up.1 here same room)

pub room_set : (ks : List KeyspaceTree) (place id : ℕ) (k : KeyspaceTree) (t : Tree) (tables clears : ℕ) → IsForest (forest_in ks) → slice_get ks place ≡ Some k → k.id ≡ id → HasRoomForTables t tables clears
    → All (λ j. j.id ≡ id → HasRoomForTables j.tree tables clears) (set ks place (record { id = k.id; tree = t }))
room_set ks place id k t tables clears is here same room = room_up ks place id k t tables clears (ascends_of (forest_in ks) is.ascend) here same room

pub room_none : (ks : List KeyspaceTree) (id tables clears : ℕ) → tree_at id (forest_in ks) ≡ None → All (λ j. j.id ≡ id → HasRoomForTables j.tree tables clears) ks
room_none [] id tables clears none = All-nil (λ (j : KeyspaceTree). j.id ≡ id → HasRoomForTables j.tree tables clears)
room_none (k ∷ ks) id tables clears none = by (k.id == id) refl none (room_none ks id tables clears)
  where
    P : KeyspaceTree → Type 0
    P j = j.id ≡ id → HasRoomForTables j.tree tables clears

    by : (b : Bool) → (k.id == id) ≡ b → cond b (Some (shape_of k.tree)) (tree_at id (forest_in ks)) ≡ None → (tree_at id (forest_in ks) ≡ None → All P ks) → All P (k ∷ ks)
    by true e none more = absurd cc
    by false e none more = All-cons P k ks (λ same. absurd (true≢false (sym (eq-eqb k.id id same) ∙ e))) (more none)
