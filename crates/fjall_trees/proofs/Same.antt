-- The same trees but for what is kept of their tables, and the tree of one keyspace.
use Rattle.std.proofs.Common.{◌≡◌, ℕ, zero, suc, ◌<◌, ◌≤◌, ◌==◌, Bool, true, false, cond, List, [], ◌∷◌, set, slice_get, unwrap_or, All, AllPairs, Option, Some, None, Result, Ok, Err, refl, sym, ap, subst, ◌∙◌, arith}
use Rattle.std.specs.Prelude.{◌↔◌, IfSome}
use Rattle.std.specs.Result.{IfErr, IfOk}
use Rattle.std.proofs.lemmas.Bool.{eq-eqb, eqb-true, true≢false}
use Rattle.std.proofs.lemmas.List.Elements.{All-cons, All-nil}
use Rattle.fjall_base.proofs.Codecs.{some_is}
use Rattle.fjall_base.specs.declared.error.Error.{Error}
use Rattle.fjall_table_reader.specs.Files.{IsRefused}
use Rattle.fjall_table_reader.proofs.TableFiles.{refused_later}
use Rattle.fjall_tree.specs.declared.tree.Tree.{Tree}
use Rattle.fjall_tree.specs.Puts.{bare_tree}
use Rattle.fjall_tree.specs.Shapes.{shape_of}
use Rattle.fjall_tree.specs.Trees.{IsSameShape, Shape}
use Rattle.fjall_tree.proofs.Outstanding.{same_shape}
use Rattle.fjall_trees.specs.declared.trees.KeyspaceTree.{KeyspaceTree}
use Rattle.fjall_trees.specs.Forests.{Forest, IsForest, Planted, altered_at, tree_at}
use Rattle.fjall_trees.specs.Lists.{forest_in}
use Rattle.fjall_trees.specs.Tables.{AreSameTrees, shape_in}
use Rattle.fjall_trees.proofs.Places.{set_altered, set_forest, tree_here}

-- ---- the tree of a keyspace

pub shape_here : (ks : List KeyspaceTree) (place id : ℕ) (k : KeyspaceTree) → IsForest (forest_in ks) → slice_get ks place ≡ Some k → k.id ≡ id → shape_in id (forest_in ks) ≡ shape_of k.tree
shape_here ks place id k is here same = ap (λ o. unwrap_or o (bare_tree 0)) (tree_here ks place id k is here same)

pub shape_none : (id : ℕ) (trees : Forest) → tree_at id trees ≡ None → shape_in id trees ≡ bare_tree 0
shape_none id trees none = ap (λ o. unwrap_or o (bare_tree 0)) none

-- where it has none nothing is begun
pub nothing_begun : (T : Type 0) (P : Shape → Type 0) (id : ℕ) (trees : Forest) → tree_at id trees ≡ None → P (bare_tree 0) → (let none : Option T = None in (none ≡ None) ↔ P (shape_in id trees))
nothing_begun T P id trees none is = (λ same. subst P (sym (shape_none id trees none)) is, λ nothing. refl)

set_there : (ks : List KeyspaceTree) (place : ℕ) (k new : KeyspaceTree) → slice_get ks place ≡ Some k → slice_get (set ks place new) place ≡ Some new
set_there [] place k new here = absurd cc
set_there (j ∷ ks) zero k new here = refl
set_there (j ∷ ks) (suc place) k new here = set_there ks place k new here

-- after another one was put there
pub shape_set : (ks : List KeyspaceTree) (place id : ℕ) (k : KeyspaceTree) (t : Tree) → IsForest (forest_in ks) → slice_get ks place ≡ Some k → k.id ≡ id
    → shape_in id (forest_in (set ks place (record { id = k.id; tree = t }))) ≡ shape_of t
shape_set ks place id k t is here same =
    let new : KeyspaceTree = record { id = k.id; tree = t } in
    shape_here (set ks place new) place id new (set_forest ks place k t is here) (set_there ks place k new here) same

-- no other tree has its id
pub only_tree : (id : ℕ) (trees : Forest) (shape : Shape) → AllPairs (λ j k. j.id < k.id) trees → tree_at id trees ≡ Some shape → All (λ k. k.id ≡ id → k.shape ≡ shape) trees
only_tree id [] shape up is = All-nil (λ (k : Planted). k.id ≡ id → k.shape ≡ shape)
only_tree id (k ∷ trees) shape up is = by (k.id == id) refl is (only_tree id trees shape (λ i j d lt within. up (suc i) (suc j) d (omega arith) (omega arith)))
  where
    P : Planted → Type 0
    P j = j.id ≡ id → j.shape ≡ shape

    by : (b : Bool) → (k.id == id) ≡ b → cond b (Some k.shape) (tree_at id trees) ≡ Some shape → (tree_at id trees ≡ Some shape → All P trees) → All P (k ∷ trees)
    by true e is more =
        All-cons P k trees (λ same. some_is k.shape shape is)
        (λ i d lt same. let above = up 0 (suc i) d (omega arith) (omega arith) in let here = eqb-true k.id id e in absurd (omega arith))
    by false e is more = All-cons P k trees (λ same. absurd (true≢false (sym (eq-eqb k.id id same) ∙ e))) (more is)

-- ---- the same trees

pub same_trees : (trees : Forest) → AreSameTrees trees trees
same_trees [] = tt
same_trees (k ∷ trees) = (refl, same_shape k.shape, same_trees trees)

-- the same where the tree of one id is
altered_same : (id : ℕ) (old new : Shape → Shape) (trees : Forest) → All (λ k. k.id ≡ id → IsSameShape (old k.shape) (new k.shape)) trees
    → AreSameTrees (altered_at id old trees) (altered_at id new trees)
altered_same id old new [] all = tt
altered_same id old new (k ∷ trees) all =
    (refl, by (k.id == id) refl, altered_same id old new trees (λ i d lt. all (suc i) d (omega arith)))
  where
    here : k.id ≡ id → IsSameShape (old k.shape) (new k.shape)
    here = all 0 k (omega arith)

    by : (b : Bool) → (k.id == id) ≡ b → IsSameShape (cond b (old k.shape) k.shape) (cond b (new k.shape) k.shape)
    by true e = here (eqb-true k.id id e)
    by false e = same_shape k.shape

-- another one at a place, which is the same as what a change makes of the tree there
pub set_same_change : (ks : List KeyspaceTree) (place id : ℕ) (k : KeyspaceTree) (t : Tree) (change : Shape → Shape) → IsForest (forest_in ks) → slice_get ks place ≡ Some k → k.id ≡ id
    → IsSameShape (change (shape_of k.tree)) (shape_of t) → AreSameTrees (altered_at id change (forest_in ks)) (forest_in (set ks place (record { id = k.id; tree = t })))
set_same_change ks place id k t change is here same alike =
    subst (AreSameTrees (altered_at id change (forest_in ks))) (sym (set_altered ks place id k t (λ s. shape_of t) is here same refl))
    (altered_same id change (λ s. shape_of t) (forest_in ks)
    (λ i d lt its. subst (λ (s : Shape). IsSameShape (change s) (shape_of t)) (sym (only_tree id (forest_in ks) (shape_of k.tree) is.ascend (tree_here ks place id k is here same) i d lt its)) alike))

-- or the same as the tree there
pub set_same_trees : (ks : List KeyspaceTree) (place : ℕ) (k : KeyspaceTree) (t : Tree) → slice_get ks place ≡ Some k → IsSameShape (shape_of k.tree) (shape_of t)
    → AreSameTrees (forest_in ks) (forest_in (set ks place (record { id = k.id; tree = t })))
set_same_trees [] place k t here alike = absurd cc
set_same_trees (j ∷ ks) zero k t here alike =
    let same = some_is j k here in
    (sym (ap (λ (x : KeyspaceTree). x.id) same), subst (λ (x : KeyspaceTree). IsSameShape (shape_of x.tree) (shape_of t)) (sym same) alike, same_trees (forest_in ks))
set_same_trees (j ∷ ks) (suc place) k t here alike = (refl, same_shape (shape_of j.tree), set_same_trees ks place k t here alike)

-- ---- results

pub if_ok_so : {T E : Type 0} (r : Result T E) (P Q : T → Type 0) → ((x : T) → P x → Q x) → IfOk r P → IfOk r Q
if_ok_so (Ok x) P Q so p = so x p
if_ok_so (Err e) P Q so p = tt

pub some_so : {T : Type 0} (o : Option T) (P Q : T → Type 0) → ((x : T) → P x → Q x) → IfSome o P → IfSome o Q
some_so None P Q so p = tt
some_so (Some x) P Q so p = so x p

pub job_so : {T E : Type 0} (r : Result (Option T) E) (P Q : T → Type 0) → ((x : T) → P x → Q x) → IfOk r (λ o. IfSome o P) → IfOk r (λ o. IfSome o Q)
job_so r P Q so p = if_ok_so r (λ o. IfSome o P) (λ o. IfSome o Q) (λ o. some_so o P Q so) p

pub refused_so : {T : Type 0} (r : Result T Error) (P Q : Type 0) (before after : ℕ) → before ≤ after → (P → Q) → IfErr r (IsRefused P before after) → IfErr r (IsRefused Q before after)
refused_so (Ok x) P Q before after le so is = tt
refused_so (Err e) P Q before after le so is = refused_later P Q before before after e (omega arith) le so is
