-- What holds of each tree and of its tables' entries, and what changes of trees leave of it.
use Rattle.std.proofs.Common.{◌≡◌, ℕ, ◌==◌, Bool, true, false, cond, List, [], ◌∷◌, get_or, All, Some, refl, sym, subst}
use Rattle.std.proofs.lemmas.Bool.{eqb-true}
use Rattle.std.proofs.lemmas.List.Elements.{All-head, All-map, All-tail, All-weaker}
use Rattle.fjall_base.proofs.Codecs.{some_is}
use Rattle.fjall_journal.specs.Ops.{BatchItem}
use Rattle.fjall_table.specs.Blocks.{Entry}
use Rattle.fjall_tree.specs.Puts.{has_stamp, put, put_all}
use Rattle.fjall_tree.specs.Trees.{Shape, written}
use Rattle.fjall_trees.specs.Forests.{Forest, IsForest, Planted, altered_at, tree_at}
use Rattle.fjall_trees.specs.Tables.{entries_with}
use Rattle.fjall_trees.specs.Writes.{pushed, versions_of_items}
use Rattle.fjall_trees.proofs.Places.{each_by}
use Rattle.fjall_trees.proofs.Same.{only_tree}

-- what holds of each tree under its id holds of a keyspace's
pub tree_under : (P : Planted → Type 0) (trees : Forest) (id : ℕ) (shape : Shape) → All P trees → tree_at id trees ≡ Some shape → P (record { id = id; shape = shape })
tree_under P [] id shape all has = absurd cc
tree_under P (k ∷ trees) id shape all has = by (k.id == id) refl has (tree_under P trees id shape (All-tail P k trees all))
  where
    by : (b : Bool) → (k.id == id) ≡ b → cond b (Some k.shape) (tree_at id trees) ≡ Some shape → (tree_at id trees ≡ Some shape → P (record { id = id; shape = shape })) → P (record { id = id; shape = shape })
    by true e has more = let n = eqb-true k.id id e in let s = some_is k.shape shape has in subst P (λ i. record { id = n i; shape = s i }) (All-head P k trees all)
    by false e has more = more has

-- ---- one tree that is written

-- a version is written, or passed over
pub put_has : (P : Shape → Type 0) (v : Entry) (shape : Shape) → (has_stamp v shape ≡ true → P shape) → (has_stamp v shape ≡ false → P (written v shape)) → P (put v shape)
unfolding put
put_has P v shape passed wrote = by (has_stamp v shape) refl
  where
    by : (b : Bool) → has_stamp v shape ≡ b → P (cond b shape (written v shape))
    by true e = passed e
    by false e = wrote e

-- what each write keeps of whatever version
pub put_all_keeps : (P : Shape → Type 0) → ((v : Entry) (shape : Shape) → P shape → P (written v shape)) → (vs : List Entry) (shape : Shape) → P shape → P (put_all vs shape)
put_all_keeps P step [] shape is = is
put_all_keeps P step (v ∷ vs) shape is =
    let rest = put_all_keeps P step vs shape is in
    put_has P v (put_all vs shape) (λ e. rest) (λ e. step v (put_all vs shape) rest)

-- ---- all trees, and what their tables hold

module _ (R : Shape → List (List Entry) → Type 0) (trees : Forest) (entries : ℕ → List (List Entry)) (all : All (λ k. R k.shape (entries k.id)) trees) where
  pub each_keeps : (change : ℕ → Shape → Shape) → ((id : ℕ) (shape : Shape) (es : List (List Entry)) → R shape es → R (change id shape) es) → All (λ k. R k.shape (entries k.id)) (each_by change trees)
  each_keeps change keeps =
      All-map (λ k. R k.shape (entries k.id)) (λ k. record { id = k.id; shape = change k.id k.shape }) trees
      (All-weaker (λ k. R k.shape (entries k.id)) (λ k. R (change k.id k.shape) (entries k.id)) (λ k here. keeps k.id k.shape (entries k.id) here) trees all)

  pub pushed_keeps : ((v : Entry) (shape : Shape) (es : List (List Entry)) → R shape es → R (written v shape) es) → (n : ℕ) (items : List BatchItem) → All (λ k. R k.shape (entries k.id)) (pushed n items trees)
  unfolding pushed
  pushed_keeps keeps n items =
      each_keeps (λ id. put_all (versions_of_items id n items)) (λ id shape es here. put_all_keeps (λ s. R s es) (λ v s is. keeps v s es is) (versions_of_items id n items) shape here)

  pub one_keeps : (change : Shape → Shape) → ((shape : Shape) (es : List (List Entry)) → R shape es → R (change shape) es) → (id : ℕ) → All (λ k. R k.shape (entries k.id)) (altered_at id change trees)
  one_keeps change keeps id = each_keeps (λ k shape. cond (k == id) (change shape) shape) (λ k. by (k == id))
    where
      by : (b : Bool) (shape : Shape) (es : List (List Entry)) → R shape es → R (cond b (change shape) shape) es
      by true shape es here = keeps shape es here
      by false shape es here = here

  -- the tree of one keyspace and its tables' entries changed
  pub altered_keeps : IsForest trees → (id : ℕ) (shape : Shape) → tree_at id trees ≡ Some shape → (change : Shape → Shape) (new : List (List Entry)) → R (change shape) new
      → All (λ k. R k.shape (entries_with id new entries k.id)) (altered_at id change trees)
  altered_keeps is id shape has change new now =
      All-map (λ k. R k.shape (entries_with id new entries k.id)) (λ k. record { id = k.id; shape = cond (k.id == id) (change k.shape) k.shape }) trees
      (λ i d lt. let k = get_or trees i d in by k (only_tree id trees shape is.ascend has i d lt) (all i d lt) (k.id == id) refl)
    where
      by : (k : Planted) → (k.id ≡ id → k.shape ≡ shape) → R k.shape (entries k.id) → (b : Bool) → (k.id == id) ≡ b → R (cond b (change k.shape) k.shape) (cond b new (entries k.id))
      by k only here true e = subst (λ (s : Shape). R (change s) new) (sym (only (eqb-true k.id id e))) now
      by k only here false e = here
