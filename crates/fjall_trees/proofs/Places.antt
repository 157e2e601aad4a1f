-- Trees at their places, and one of them changed.
use Rattle.std.proofs.Common.{◌≡◌, ℕ, zero, suc, ◌<◌, ◌==◌, Bool, true, false, cond, List, [], ◌∷◌, ◌++◌, length, map, filter, not, set, get_or, slice_get, All, AllPairs, Option, Some, None, OnOk, OnErr, Result, Ok, Err, refl, sym, ap, subst, ◌∙◌, arith}
use Rattle.std.specs.Option.{IsSomeAnd, option_map}
use Rattle.std.proofs.lemmas.Bool.{cond-false, cond-true, eq-eqb, eqb-true, false_from_ne_true}
use Rattle.std.proofs.lemmas.List.{map-set}
use Rattle.std.proofs.lemmas.List.Elements.{All-cons, All-head, All-map, All-nil, All-push, All-tail}
use Rattle.std.proofs.lemmas.List.Kept.{AllPairs-cons}
use Rattle.std.proofs.lemmas.Option.{get_or_from_slice_get, slice_get-map, slice_get_within}
use Rattle.std.proofs.Math.Seq.{map-set_same}
use Rattle.fjall_base.proofs.Codecs.{some_is}
use Rattle.fjall_memtable.specs.Held.{held_of}
use Rattle.fjall_memtable.specs.Parts.{Ascends, IsHeld}
use Rattle.fjall_memtable.specs.Shares.{shared}
use Rattle.fjall_memtable.proofs.Apart.{all_held}
use Rattle.fjall_tree.specs.declared.tree.Tree.{Tree}
use Rattle.fjall_tree.specs.Shapes.{shape_of}
use Rattle.fjall_tree.specs.Trees.{Shape}
use Rattle.fjall_trees.specs.declared.trees.KeyspaceTree.{KeyspaceTree}
use Rattle.fjall_trees.specs.Forests.{Forest, IsForest, IsTree, Planted, altered_at, tree_at, without}
use Rattle.fjall_trees.specs.declared.trees.Trees.{Trees}
use Rattle.fjall_trees.specs.Lists.{forest_in, planted}
use Rattle.fjall_trees.specs.Views.{forest_of}

-- ---- what holds of each tree

pub tree_is : (t : Tree) → IsTree (shape_of t)
tree_is t = record {
  held = All-push IsHeld (shared t.parts.sealed.items) (held_of t.parts.active) (all_held t.parts.sealed.items) t.parts.active.held;
  apart = t.parts.apart;
  clears = t.shape;
}

pub trees_are : (ks : List KeyspaceTree) → All (λ k. IsTree k.shape) (forest_in ks)
trees_are [] = All-nil (λ (k : Planted). IsTree k.shape)
trees_are (k ∷ ks) = All-cons (λ (k : Planted). IsTree k.shape) (planted k) (forest_in ks) (tree_is k.tree) (trees_are ks)

-- what holds of each tree holds of a keyspace's
pub tree_has : (P : Shape → Type 0) (trees : Forest) (id : ℕ) (shape : Shape) → All (λ k. P k.shape) trees → tree_at id trees ≡ Some shape → P shape
tree_has P [] id shape all is = absurd cc
tree_has P (k ∷ trees) id shape all is = by (k.id == id) is (tree_has P trees id shape (All-tail (λ (k : Planted). P k.shape) k trees all))
  where
    by : (b : Bool) → cond b (Some k.shape) (tree_at id trees) ≡ Some shape → (tree_at id trees ≡ Some shape → P shape) → P shape
    by true is more = subst P (some_is k.shape shape is) (All-head (λ (k : Planted). P k.shape) k trees all)
    by false is more = more is

-- and of the one at a place
pub place_has : (P : Planted → Type 0) (ks : List KeyspaceTree) (place : ℕ) (k : KeyspaceTree) → All P (forest_in ks) → slice_get ks place ≡ Some k → P (planted k)
place_has P [] place k all is = absurd cc
place_has P (j ∷ ks) zero k all is = subst (λ (x : KeyspaceTree). P (planted x)) (some_is j k is) (All-head P (planted j) (forest_in ks) all)
place_has P (j ∷ ks) (suc place) k all is = place_has P ks place k (All-tail P (planted j) (forest_in ks) all) is

-- ---- ids

abbrev pub ids_of : Forest → List ℕ
ids_of trees = map (λ k. k.id) trees

pub ascends_of : (trees : Forest) → AllPairs (λ j k. j.id < k.id) trees → Ascends (ids_of trees)
ascends_of [] up = tt
ascends_of (k ∷ trees) up = (
  All-map (λ (n : ℕ). k.id < n) (λ (j : Planted). j.id) trees (λ i d lt. up 0 (suc i) d (omega arith) (omega arith)),
  ascends_of trees (λ i j d lt within. up (suc i) (suc j) d (omega arith) (omega arith)),
)

of_ids : (P : ℕ → Type 0) (trees : Forest) → All P (ids_of trees) → All (λ k. P k.id) trees
of_ids P [] all = All-nil (λ (k : Planted). P k.id)
of_ids P (k ∷ trees) all = All-cons (λ (k : Planted). P k.id) k trees (All-head P k.id (ids_of trees) all) (of_ids P trees (All-tail P k.id (ids_of trees) all))

pub pairs_of : (trees : Forest) → Ascends (ids_of trees) → AllPairs (λ j k. j.id < k.id) trees
pairs_of [] up = λ i j d lt within. absurd (omega arith)
pairs_of (k ∷ trees) up = AllPairs-cons (λ (j k : Planted). j.id < k.id) k trees (of_ids (λ (n : ℕ). k.id < n) trees up.0) (pairs_of trees up.1)

-- trees of the same ids are a forest again
pub forest_still : (trees : Forest) (ks : List KeyspaceTree) → IsForest trees → ids_of (forest_in ks) ≡ ids_of trees → IsForest (forest_in ks)
forest_still trees ks is same = record { ascend = pairs_of (forest_in ks) (subst Ascends (sym same) (ascends_of trees is.ascend)); each = trees_are ks }

-- with one more behind all others
ascends_push : (ns : List ℕ) (n : ℕ) → Ascends ns → All (λ m. m < n) ns → Ascends (ns ++ n ∷ [])
ascends_push [] n up all = (All-nil (λ (m : ℕ). n < m), tt)
ascends_push (m ∷ ns) n up all = (
  All-push (λ (k : ℕ). m < k) ns n up.0 (All-head (λ (k : ℕ). k < n) m ns all),
  ascends_push ns n up.1 (All-tail (λ (k : ℕ). k < n) m ns all),
)

ids_push : (ks : List KeyspaceTree) (k : KeyspaceTree) → ids_of (forest_in (ks ++ k ∷ [])) ≡ ids_of (forest_in ks) ++ k.id ∷ []
ids_push [] k = refl
ids_push (j ∷ ks) k = ap (λ (ns : List ℕ). j.id ∷ ns) (ids_push ks k)

pub forest_push : (ks : List KeyspaceTree) (k : KeyspaceTree) → IsForest (forest_in ks) → All (λ j. j.id < k.id) (forest_in ks) → IsForest (forest_in (ks ++ k ∷ []))
forest_push ks k is below = record {
  ascend = pairs_of (forest_in (ks ++ k ∷ [])) (subst Ascends (sym (ids_push ks k))
      (ascends_push (ids_of (forest_in ks)) k.id (ascends_of (forest_in ks) is.ascend) (All-map (λ (n : ℕ). n < k.id) (λ (j : Planted). j.id) (forest_in ks) below)));
  each = trees_are (ks ++ k ∷ []);
}

-- with one less
ids_kept : (P : ℕ → Type 0) (id : ℕ) (trees : Forest) → All P (ids_of trees) → All P (ids_of (without id trees))
ids_kept P id [] all = all
ids_kept P id (k ∷ trees) all = by (k.id == id) (ids_kept P id trees (All-tail P k.id (ids_of trees) all))
  where
    by : (b : Bool) → All P (ids_of (without id trees)) → All P (ids_of (cond (not b) (k ∷ without id trees) (without id trees)))
    by true more = more
    by false more = All-cons P k.id (ids_of (without id trees)) (All-head P k.id (ids_of trees) all) more

ascends_kept : (id : ℕ) (trees : Forest) → Ascends (ids_of trees) → Ascends (ids_of (without id trees))
ascends_kept id [] up = up
ascends_kept id (k ∷ trees) up = by (k.id == id) (ascends_kept id trees up.1)
  where
    by : (b : Bool) → Ascends (ids_of (without id trees)) → Ascends (ids_of (cond (not b) (k ∷ without id trees) (without id trees)))
    by true more = more
    by false more = (ids_kept (λ (n : ℕ). k.id < n) id trees up.0, more)

pub kept_without : (id : ℕ) (ks : List KeyspaceTree) → forest_in (filter (λ k. not (k.id == id)) ks) ≡ without id (forest_in ks)
kept_without id [] = refl
kept_without id (k ∷ ks) = by (k.id == id) (kept_without id ks)
  where
    by : (b : Bool) → forest_in (filter (λ k. not (k.id == id)) ks) ≡ without id (forest_in ks)
        → forest_in (cond (not b) (k ∷ filter (λ k. not (k.id == id)) ks) (filter (λ k. not (k.id == id)) ks)) ≡ cond (not b) (planted k ∷ without id (forest_in ks)) (without id (forest_in ks))
    by true more = more
    by false more = ap (λ (trees : Forest). planted k ∷ trees) more

pub forest_without : (id : ℕ) (ks : List KeyspaceTree) → IsForest (forest_in ks) → IsForest (forest_in (filter (λ k. not (k.id == id)) ks))
forest_without id ks is = record {
  ascend = pairs_of (forest_in (filter (λ k. not (k.id == id)) ks))
      (subst (λ (trees : Forest). Ascends (ids_of trees)) (sym (kept_without id ks)) (ascends_kept id (forest_in ks) (ascends_of (forest_in ks) is.ascend)));
  each = trees_are (filter (λ k. not (k.id == id)) ks);
}

pub id_differs : (a b : ℕ) → a < b → (a == b) ≡ false
id_differs a b lt = false_from_ne_true (a == b) (λ t. let e = eqb-true a b t in absurd (omega arith))

pub id_differs_above : (a b : ℕ) → a < b → (b == a) ≡ false
id_differs_above a b lt = false_from_ne_true (b == a) (λ t. let e = eqb-true b a t in absurd (omega arith))

none_above : (id : ℕ) (trees : Forest) → All (λ n. id < n) (ids_of trees) → tree_at id trees ≡ None
none_above id [] all = refl
none_above id (k ∷ trees) all =
    cond-false (k.id == id) (Some k.shape) (tree_at id trees) (id_differs_above id k.id (All-head (λ (n : ℕ). id < n) k.id (ids_of trees) all))
    ∙ none_above id trees (All-tail (λ (n : ℕ). id < n) k.id (ids_of trees) all)

below_place : (n : ℕ) (trees : Forest) (place : ℕ) (k : Planted) → All (λ m. n < m) (ids_of trees) → slice_get trees place ≡ Some k → n < k.id
below_place n [] place k all is = absurd cc
below_place n (j ∷ trees) zero k all is = subst (λ (x : Planted). n < x.id) (some_is j k is) (All-head (λ (m : ℕ). n < m) j.id (ids_of trees) all)
below_place n (j ∷ trees) (suc place) k all is = below_place n trees place k (All-tail (λ (m : ℕ). n < m) j.id (ids_of trees) all) is

-- the tree at a place is its keyspace's
tree_placed : (trees : Forest) (place : ℕ) (k : Planted) → Ascends (ids_of trees) → slice_get trees place ≡ Some k → tree_at k.id trees ≡ Some k.shape
tree_placed [] place k up is = absurd cc
tree_placed (j ∷ trees) zero k up is =
    subst (λ (x : Planted). tree_at x.id (j ∷ trees) ≡ Some x.shape) (some_is j k is) (cond-true (j.id == j.id) (Some j.shape) (tree_at j.id trees) (eq-eqb j.id j.id refl))
tree_placed (j ∷ trees) (suc place) k up is =
    cond-false (j.id == k.id) (Some j.shape) (tree_at k.id trees) (id_differs j.id k.id (below_place j.id trees place k up.0 is)) ∙ tree_placed trees place k up.1 is

pub tree_here : (ks : List KeyspaceTree) (place id : ℕ) (k : KeyspaceTree) → IsForest (forest_in ks) → slice_get ks place ≡ Some k → k.id ≡ id → tree_at id (forest_in ks) ≡ Some (shape_of k.tree)
tree_here ks place id k is here same =
    subst (λ (n : ℕ). tree_at n (forest_in ks) ≡ Some (shape_of k.tree)) same
    (tree_placed (forest_in ks) place (planted k) (ascends_of (forest_in ks) is.ascend) (slice_get-map planted ks place ∙ ap (option_map planted) here))

-- what stands at a place
pub place_is : (ks : List KeyspaceTree) (place : ℕ) (d : KeyspaceTree) (P : KeyspaceTree → Type 0) → IsSomeAnd (slice_get ks place) P → (slice_get ks place ≡ Some (get_or ks place d)) × P (get_or ks place d)
place_is ks place d P is = by (slice_get ks place) refl is
  where
    by : (o : Option KeyspaceTree) → slice_get ks place ≡ o → IsSomeAnd o P → (slice_get ks place ≡ Some (get_or ks place d)) × P (get_or ks place d)
    by None e is = absurd is
    by (Some k) e is = let same = sym (get_or_from_slice_get ks place k d e) in (e ∙ ap (λ (x : KeyspaceTree). Some x) same, subst P same is)

pub place_within : (ks seen : List KeyspaceTree) (place : ℕ) (P : KeyspaceTree → Type 0) → seen ≡ ks → IsSomeAnd (slice_get seen place) P → place < length ks
place_within ks seen place P same is = subst (λ (xs : List KeyspaceTree). place < length xs) same (by (slice_get seen place) refl is)
  where
    by : (o : Option KeyspaceTree) → slice_get seen place ≡ o → IsSomeAnd o P → place < length seen
    by None e is = absurd is
    by (Some k) e is = slice_get_within seen place k e

-- what a search found, lent out to be changed
pub found_tree : (ks seen : List KeyspaceTree) (place id : ℕ) (k : KeyspaceTree) → seen ≡ ks → IsSomeAnd (slice_get seen place) (λ j. j.id ≡ id) → k ≡ get_or ks place k
    → (slice_get ks place ≡ Some k) × (k.id ≡ id)
found_tree ks seen place id k same is here =
    let p = place_is ks place k (λ (j : KeyspaceTree). j.id ≡ id) (subst (λ (xs : List KeyspaceTree). IsSomeAnd (slice_get xs place) (λ (j : KeyspaceTree). j.id ≡ id)) same is) in (
      subst (λ (x : KeyspaceTree). slice_get ks place ≡ Some x) (sym here) p.0,
      subst (λ (x : KeyspaceTree). x.id ≡ id) (sym here) p.1,
    )

-- ---- one tree changed

pub altered_none : (id : ℕ) (change : Shape → Shape) (trees : Forest) → tree_at id trees ≡ None → altered_at id change trees ≡ trees
altered_none id change [] none = refl
altered_none id change (k ∷ trees) none = by (k.id == id) none (altered_none id change trees)
  where
    by : (b : Bool) → cond b (Some k.shape) (tree_at id trees) ≡ None → (tree_at id trees ≡ None → altered_at id change trees ≡ trees)
        → (let j : Planted = record { id = k.id; shape = cond b (change k.shape) k.shape } in j ∷ altered_at id change trees) ≡ k ∷ trees
    by true none more = absurd cc
    by false none more = ap (λ (xs : Forest). k ∷ xs) (more none)

altered_place : (trees : Forest) (place : ℕ) (k : Planted) (change : Shape → Shape) → Ascends (ids_of trees) → slice_get trees place ≡ Some k
    → altered_at k.id change trees ≡ set trees place (record { id = k.id; shape = change k.shape })
altered_place [] place k change up is = absurd cc
altered_place (j ∷ trees) zero k change up is =
    let same = some_is j k is in
    subst (λ (x : Planted). altered_at x.id change (j ∷ trees) ≡ (let y : Planted = record { id = x.id; shape = change x.shape } in y ∷ trees)) same
    (λ i. (let y : Planted = record { id = j.id; shape = cond-true (j.id == j.id) (change j.shape) j.shape (eq-eqb j.id j.id refl) i } in y) ∷ altered_none j.id change trees (none_above j.id trees up.0) i)
altered_place (j ∷ trees) (suc place) k change up is =
    λ i. (let y : Planted = record { id = j.id; shape = cond-false (j.id == k.id) (change j.shape) j.shape (id_differs j.id k.id (below_place j.id trees place k up.0 is)) i } in y)
    ∷ altered_place trees place k change up.1 is i

-- the tree at a place was changed
pub set_altered : (ks : List KeyspaceTree) (place id : ℕ) (k : KeyspaceTree) (new : Tree) (change : Shape → Shape) → IsForest (forest_in ks) → slice_get ks place ≡ Some k → k.id ≡ id
    → shape_of new ≡ change (shape_of k.tree) → forest_in (set ks place (record { id = k.id; tree = new })) ≡ altered_at id change (forest_in ks)
set_altered ks place id k new change is here same made =
    map-set planted ks place (record { id = k.id; tree = new })
    ∙ ap (λ (s : Shape). set (forest_in ks) place (record { id = k.id; shape = s })) made
    ∙ sym (altered_place (forest_in ks) place (planted k) change (ascends_of (forest_in ks) is.ascend) (slice_get-map planted ks place ∙ ap (option_map planted) here))
    ∙ ap (λ (n : ℕ). altered_at n change (forest_in ks)) same

-- or stayed as it was
pub set_same : (ks : List KeyspaceTree) (place : ℕ) (k : KeyspaceTree) (new : Tree) → slice_get ks place ≡ Some k → shape_of new ≡ shape_of k.tree
    → forest_in (set ks place (record { id = k.id; tree = new })) ≡ forest_in ks
set_same ks place k new here made =
    map-set_same planted ks place (record { id = k.id; tree = new }) k
    ((λ i. record { id = k.id; shape = made i }) ∙ ap planted (sym (get_or_from_slice_get ks place k k here)))

-- its id stays
pub set_ids : (ks : List KeyspaceTree) (place : ℕ) (k : KeyspaceTree) (new : Tree) → slice_get ks place ≡ Some k → ids_of (forest_in (set ks place (record { id = k.id; tree = new }))) ≡ ids_of (forest_in ks)
set_ids [] place k new here = absurd cc
set_ids (j ∷ ks) zero k new here = ap (λ (x : KeyspaceTree). x.id ∷ ids_of (forest_in ks)) (sym (some_is j k here))
set_ids (j ∷ ks) (suc place) k new here = ap (λ (xs : List ℕ). j.id ∷ xs) (set_ids ks place k new here)

pub set_forest : (ks : List KeyspaceTree) (place : ℕ) (k : KeyspaceTree) (new : Tree) → IsForest (forest_in ks) → slice_get ks place ≡ Some k → IsForest (forest_in (set ks place (record { id = k.id; tree = new })))
set_forest ks place k new is here = forest_still (forest_in ks) (set ks place (record { id = k.id; tree = new })) is (set_ids ks place k new here)

-- ---- all trees changed, each by its id

abbrev pub each_by : (ℕ → Shape → Shape) → Forest → Forest
each_by change trees = map (λ k. record { id = k.id; shape = change k.id k.shape }) trees

pub ids_each : (change : ℕ → Shape → Shape) (trees : Forest) → ids_of (each_by change trees) ≡ ids_of trees
ids_each change [] = refl
ids_each change (k ∷ trees) = ap (λ (xs : List ℕ). k.id ∷ xs) (ids_each change trees)

pub tree_each : (change : ℕ → Shape → Shape) (id : ℕ) (trees : Forest) → tree_at id (each_by change trees) ≡ option_map (change id) (tree_at id trees)
tree_each change id [] = refl
tree_each change id (k ∷ trees) = by (k.id == id) refl (tree_each change id trees)
  where
    by : (b : Bool) → (k.id == id) ≡ b → tree_at id (each_by change trees) ≡ option_map (change id) (tree_at id trees)
        → cond b (Some (change k.id k.shape)) (tree_at id (each_by change trees)) ≡ option_map (change id) (cond b (Some k.shape) (tree_at id trees))
    by true e more = ap (λ (n : ℕ). Some (change n k.shape)) (eqb-true k.id id e)
    by false e more = more

-- ---- results

pub ok_so : {T E : Type 0} (r : Result T E) (P Q : Type 0) → (P → Q) → OnOk r P → OnOk r Q
ok_so (Ok x) P Q so p = so p
ok_so (Err e) P Q so p = tt

pub err_so : {T E : Type 0} (r : Result T E) (P Q : Type 0) → (P → Q) → OnErr r P → OnErr r Q
err_so (Ok x) P Q so p = tt
err_so (Err e) P Q so p = so p

pub err_given : {T E : Type 0} (r : Result T E) (P : Type 0) → P → OnErr r P
err_given (Ok x) P p = tt
err_given (Err e) P p = p

-- ---- all trees

-- what holds of the trees of an engine
pub forest_is : (t : Trees) → IsForest (forest_of t)
forest_is t = t.lawful
