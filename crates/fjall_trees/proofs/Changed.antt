-- Trees that are changed, each by its id, and trees with one more behind all others.
use Rattle.std.proofs.Common.{◌≡◌, ℕ, suc, ◌<◌, ◌==◌, Bool, true, false, cond, List, [], ◌∷◌, ◌++◌, filter, get_or, All, AllPairs, Option, Some, None, refl, sym, ap, subst, ◌∙◌, arith}
use Rattle.std.specs.Option.{is_some, option_map, option_or}
use Rattle.std.proofs.lemmas.Bool.{eqb-true}
use Rattle.std.proofs.lemmas.List.Elements.{All-head, All-map, All-nil, All-push, All-tail, All-weaker}
use Rattle.std.proofs.lemmas.List.Kept.{AllPairs-cons}
use Rattle.fjall_memtable.specs.Parts.{Ascends}
use Rattle.fjall_tree.specs.Trees.{Shape}
use Rattle.fjall_trees.specs.Forests.{Forest, IsForest, IsTree, Planted, altered_at, tree_at}
use Rattle.fjall_trees.proofs.Places.{ascends_of, each_by, ids_each, pairs_of, tree_each}

-- ---- each changed by its id

abbrev pub changed_one : (ℕ → Shape → Shape) → Planted → Planted
changed_one change k = record { id = k.id; shape = change k.id k.shape }

pub changed_has : (P : Planted → Type 0) (change : ℕ → Shape → Shape) (trees : Forest) → All (λ k. P (changed_one change k)) trees → All P (each_by change trees)
changed_has P change trees all = All-map P (changed_one change) trees all

pub changed_forest : (change : ℕ → Shape → Shape) (trees : Forest) → IsForest trees → All (λ k. IsTree (change k.id k.shape)) trees → IsForest (each_by change trees)
changed_forest change trees is each = record {
  ascend = pairs_of (each_by change trees) (subst Ascends (sym (ids_each change trees)) (ascends_of trees is.ascend));
  each = changed_has (λ k. IsTree k.shape) change trees each;
}

pub some_map : {X Y : Type 0} (f : X → Y) (o : Option X) → is_some (option_map f o) ≡ is_some o
some_map f None = refl
some_map f (Some x) = refl

pub changed_some : (change : ℕ → Shape → Shape) (id : ℕ) (trees : Forest) → is_some (tree_at id (each_by change trees)) ≡ is_some (tree_at id trees)
changed_some change id trees = ap is_some (tree_each change id trees) ∙ some_map (change id) (tree_at id trees)

-- ---- one of them changed

-- a tree that is changed, or not
pub either : (P : Shape → Type 0) (b : Bool) (shape new : Shape) → P new → P shape → P (cond b new shape)
either P true shape new changed same = changed
either P false shape new changed same = same

-- the change of the tree of one id
abbrev pub change_at : ℕ → (Shape → Shape) → ℕ → Shape → Shape
change_at id change k shape = cond (k == id) (change shape) shape

pub altered_each : (P : Shape → Type 0) (id : ℕ) (change : Shape → Shape) (trees : Forest) → ((shape : Shape) → P shape → P (change shape)) → All (λ k. P k.shape) trees
    → All (λ k. P k.shape) (altered_at id change trees)
altered_each P id change trees keeps all =
    changed_has (λ k. P k.shape) (change_at id change) trees
    (All-weaker (λ k. P k.shape) (λ k. P (change_at id change k.id k.shape)) (λ k is. either P (k.id == id) k.shape (change k.shape) (keeps k.shape is) is) trees all)

pub altered_forest : (id : ℕ) (change : Shape → Shape) (trees : Forest) → IsForest trees → All (λ k. IsTree (change k.shape)) trees → IsForest (altered_at id change trees)
altered_forest id change trees is each =
    changed_forest (change_at id change) trees is
    (λ i d lt. let k = get_or trees i d in either IsTree (k.id == id) k.shape (change k.shape) (each i d lt) (is.each i d lt))

pub altered_some : (id : ℕ) (change : Shape → Shape) (other : ℕ) (trees : Forest) → is_some (tree_at other (altered_at id change trees)) ≡ is_some (tree_at other trees)
altered_some id change other trees = changed_some (change_at id change) other trees

none_mapped : (o : Option Shape) → option_map (λ shape. shape) o ≡ o
none_mapped None = refl
none_mapped (Some shape) = refl

-- what any keyspace has then, its own tree or the one that it had
pub altered_found : (id : ℕ) (change : Shape → Shape) (other : ℕ) (trees : Forest) (P : Bool → Option Shape → Type 0)
    → (other ≡ id → P true (option_map change (tree_at other trees))) → P false (tree_at other trees) → P (other == id) (tree_at other (altered_at id change trees))
altered_found id change other trees P here there =
    subst (P (other == id)) (sym (tree_each (change_at id change) other trees)) (by (other == id) refl)
  where
    by : (b : Bool) → (other == id) ≡ b → P b (option_map (λ shape. cond b (change shape) shape) (tree_at other trees))
    by true e = here (eqb-true other id e)
    by false e = subst (P false) (sym (none_mapped (tree_at other trees))) there

-- ---- one more

pairs_push : {X : Type 0} (R : X → X → Type 0) (xs : List X) (x : X) → AllPairs R xs → All (λ y. R y x) xs → AllPairs R (xs ++ x ∷ [])
pairs_push {X} R [] x up all = AllPairs-cons R x [] (All-nil (R x)) up
pairs_push {X} R (y ∷ xs) x up all =
    AllPairs-cons R y (xs ++ x ∷ []) (All-push (R y) xs x (λ i d lt. up 0 (suc i) d (omega arith) (omega arith)) (All-head (λ (z : X). R z x) y xs all))
    (pairs_push R xs x (λ i j d lt within. up (suc i) (suc j) d (omega arith) (omega arith)) (All-tail (λ (z : X). R z x) y xs all))

pub forest_with : (k : Planted) (trees : Forest) → IsForest trees → All (λ j. j.id < k.id) trees → IsTree k.shape → IsForest (trees ++ k ∷ [])
forest_with k trees is below tree = record {
  ascend = pairs_push (λ (i j : Planted). i.id < j.id) trees k is.ascend below;
  each = All-push (λ (j : Planted). IsTree j.shape) trees k is.each tree;
}

-- the first tree of an id counts
pub tree_with : (id : ℕ) (trees : Forest) (k : Planted) → tree_at id (trees ++ k ∷ []) ≡ option_or (tree_at id trees) (cond (k.id == id) (Some k.shape) None)
tree_with id [] k = refl
tree_with id (j ∷ trees) k = by (j.id == id) (tree_with id trees k)
  where
    by : (b : Bool) → tree_at id (trees ++ k ∷ []) ≡ option_or (tree_at id trees) (cond (k.id == id) (Some k.shape) None)
        → cond b (Some j.shape) (tree_at id (trees ++ k ∷ [])) ≡ option_or (cond b (Some j.shape) (tree_at id trees)) (cond (k.id == id) (Some k.shape) None)
    by true more = refl
    by false more = more

-- where each passes a filter keeps all
pub filter_whole : {X : Type 0} (p : X → Bool) (xs : List X) → All (λ x. p x ≡ true) xs → filter p xs ≡ xs
filter_whole {X} p [] all = refl
filter_whole {X} p (x ∷ xs) all =
    let here = All-head (λ (y : X). p y ≡ true) x xs all in
    let rest = filter_whole p xs (All-tail (λ (y : X). p y ≡ true) x xs all) in
    ap (λ b. cond b (x ∷ filter p xs) (filter p xs)) here ∙ ap (λ ys. x ∷ ys) rest
