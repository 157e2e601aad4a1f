-- What batches make of the tree of each keyspace.
use Rattle.std.proofs.Common.{◌≡◌, ◌≢◌, ℕ, ◌==◌, ◌&&◌, ◌||◌, Bool, true, false, cond, List, [], ◌∷◌, Option, None, Some, filter, map, refl, sym, ◌∙◌, ap, subst, arith}
use Rattle.std.specs.List.{list_any}
use Rattle.std.specs.Option.{option_map}
use Rattle.std.proofs.lemmas.Bool.{true≢false}
use Rattle.std.proofs.lemmas.Bool.Decides.{nat_tests}
use Rattle.fjall_journal.specs.declared.batch.ReadBatchItem.{ReadBatchItem}
use Rattle.fjall_journal.specs.Batches.{Shown}
use Rattle.fjall_meta.specs.Views.{entry_of}
use Rattle.fjall_meta.proofs.Slots.{same_id}
use Rattle.fjall_meta.proofs.Beyond.{entries_where}
use Rattle.fjall_table.specs.Blocks.{Entry}
use Rattle.fjall_tree.specs.Puts.{emptied_once, put, put_all}
use Rattle.fjall_tree.specs.Trees.{Shape}
use Rattle.fjall_trees.specs.Forests.{Forest, altered_at, tree_at}
use Rattle.fjall_trees.proofs.Others.{altered_here, altered_other}
use Rattle.fjall_replay.specs.Steps.{with_batch, with_clears, with_item, with_items}
use Rattle.fjall_replay.proofs.Stepping.{cleared_by, emptied_twice, stepped}

map_both : (f g h : Shape → Shape) (o : Option Shape) → ((s : Shape) → f (g s) ≡ h s) → option_map f (option_map g o) ≡ option_map h o
map_both f g h None same = refl
map_both f g h (Some s) same = ap (λ (t : Shape). Some t) (same s)

map_same : (o : Option Shape) → option_map (λ s. s) o ≡ o
map_same None = refl
map_same (Some s) = refl

other_id : (k id : ℕ) → (k == id) ≡ false → id ≢ k
other_id k id e same = let e' = e in absurd (let is : (k == id) ≡ true = grind (arith, nat_tests) in true≢false (sym is ∙ e'))

-- ---- items

one_item : (counted : ℕ → Bool) (n : ℕ) (item : ReadBatchItem) (id : ℕ) (vs : List Entry) (old rest : Forest)
    → tree_at id rest ≡ option_map (put_all (cond (counted id) vs [])) (tree_at id old)
    → tree_at id (with_item counted n item rest) ≡ option_map (put_all (cond (counted id) (cond (item.keyspace_id == id) (entry_of n item ∷ vs) vs) [])) (tree_at id old)
one_item counted n item id vs old rest so_far = by (item.keyspace_id == id) refl
  where
    v : Entry
    v = entry_of n item

    k : ℕ
    k = item.keyspace_id

    own : (c : Bool) → counted id ≡ c → tree_at id (cond c (altered_at id (put v) rest) rest) ≡ option_map (put_all (cond c (v ∷ vs) [])) (tree_at id old)
    own true e =
        altered_here id (put v) rest
        ∙ ap (option_map (put v)) (so_far ∙ ap (λ (b : Bool). option_map (put_all (cond b vs [])) (tree_at id old)) e)
        ∙ map_both (put v) (put_all vs) (put_all (v ∷ vs)) (tree_at id old) (λ s. refl)
    own false e = so_far ∙ ap (λ (b : Bool). option_map (put_all (cond b vs [])) (tree_at id old)) e

    other : (c : Bool) → (k == id) ≡ false → tree_at id (cond c (altered_at k (put v) rest) rest) ≡ tree_at id rest
    other true e = altered_other k id (put v) rest (other_id k id e)
    other false e = refl

    by : (b : Bool) → (k == id) ≡ b
        → tree_at id (cond (counted k) (altered_at k (put v) rest) rest) ≡ option_map (put_all (cond (counted id) (cond b (v ∷ vs) vs) [])) (tree_at id old)
    by true e =
        subst (λ (j : ℕ). tree_at id (cond (counted j) (altered_at j (put v) rest) rest) ≡ option_map (put_all (cond (counted id) (v ∷ vs) [])) (tree_at id old))
        (sym (same_id k id e)) (own (counted id) refl ∙ refl)
    by false e = other (counted k) e ∙ so_far

pub at_items : (counted : ℕ → Bool) (n : ℕ) (items : List ReadBatchItem) (id : ℕ) (trees : Forest)
    → tree_at id (with_items counted n items trees)
    ≡ option_map (put_all (cond (counted id) (map (entry_of n) (filter (λ item. item.keyspace_id == id) items)) [])) (tree_at id trees)
at_items counted n [] id trees = by (counted id)
  where
    by : (b : Bool) → tree_at id trees ≡ option_map (put_all (cond b [] [])) (tree_at id trees)
    by true = sym (map_same (tree_at id trees))
    by false = sym (map_same (tree_at id trees))
at_items counted n (item ∷ items) id trees =
    one_item counted n item id (map (entry_of n) (filter (λ i. i.keyspace_id == id) items)) trees (with_items counted n items trees) (at_items counted n items id trees)
    ∙ ap (λ (l : List Entry). option_map (put_all (cond (counted id) l [])) (tree_at id trees)) (by (item.keyspace_id == id))
  where
    by : (b : Bool) → cond b (entry_of n item ∷ map (entry_of n) (filter (λ i. i.keyspace_id == id) items)) (map (entry_of n) (filter (λ i. i.keyspace_id == id) items))
        ≡ map (entry_of n) (cond b (item ∷ filter (λ i. i.keyspace_id == id) items) (filter (λ i. i.keyspace_id == id) items))
    by true = refl
    by false = refl

-- ---- clears

one_clear : (counted : ℕ → Bool) (n k id : ℕ) (more : Bool) (trees : Forest)
    → option_map (λ s. cond (counted id && more) (emptied_once n s) s) (tree_at id (cond (counted k) (altered_at k (emptied_once n) trees) trees))
    ≡ option_map (λ s. cond (counted id && ((k == id) || more)) (emptied_once n s) s) (tree_at id trees)
one_clear counted n k id more trees = by (k == id) refl
  where
    twice : (b : Bool) (s : Shape) → cond b (emptied_once n (emptied_once n s)) (emptied_once n s) ≡ emptied_once n s
    twice true s = emptied_twice n s
    twice false s = refl

    own : (c : Bool) → option_map (λ s. cond (c && more) (emptied_once n s) s) (tree_at id (cond c (altered_at id (emptied_once n) trees) trees))
        ≡ option_map (λ s. cond (c && (true || more)) (emptied_once n s) s) (tree_at id trees)
    own true =
        ap (option_map (λ s. cond more (emptied_once n s) s)) (altered_here id (emptied_once n) trees)
        ∙ map_both (λ s. cond more (emptied_once n s) s) (emptied_once n) (emptied_once n) (tree_at id trees) (twice more)
    own false = refl

    other : (c : Bool) → (k == id) ≡ false → tree_at id (cond c (altered_at k (emptied_once n) trees) trees) ≡ tree_at id trees
    other true e = altered_other k id (emptied_once n) trees (other_id k id e)
    other false e = refl

    by : (b : Bool) → (k == id) ≡ b
        → option_map (λ s. cond (counted id && more) (emptied_once n s) s) (tree_at id (cond (counted k) (altered_at k (emptied_once n) trees) trees))
        ≡ option_map (λ s. cond (counted id && (b || more)) (emptied_once n s) s) (tree_at id trees)
    by true e =
        subst (λ (j : ℕ). option_map (λ s. cond (counted id && more) (emptied_once n s) s) (tree_at id (cond (counted j) (altered_at j (emptied_once n) trees) trees))
        ≡ option_map (λ s. cond (counted id && (true || more)) (emptied_once n s) s) (tree_at id trees)) (sym (same_id k id e)) (own (counted id))
    by false e = ap (option_map (λ s. cond (counted id && more) (emptied_once n s) s)) (other (counted k) e)

pub at_clears : (counted : ℕ → Bool) (n : ℕ) (ids : List ℕ) (id : ℕ) (trees : Forest)
    → tree_at id (with_clears counted n ids trees) ≡ option_map (λ s. cond (counted id && list_any (λ k. k == id) ids) (emptied_once n s) s) (tree_at id trees)
at_clears counted n [] id trees = by (counted id)
  where
    by : (b : Bool) → tree_at id trees ≡ option_map (λ s. cond (b && false) (emptied_once n s) s) (tree_at id trees)
    by true = sym (map_same (tree_at id trees))
    by false = sym (map_same (tree_at id trees))
at_clears counted n (k ∷ ids) id trees =
    at_clears counted n ids id (cond (counted k) (altered_at k (emptied_once n) trees) trees)
    ∙ one_clear counted n k id (list_any (λ j. j == id) ids) trees

-- ---- a batch

pub at_batch : (counted : ℕ → Bool) (b : Shown) (id : ℕ) (trees : Forest) → tree_at id (with_batch counted b trees) ≡ option_map (stepped (counted id) id b) (tree_at id trees)
at_batch counted b id trees =
    at_items counted b.number b.items id (with_clears counted b.number b.clears trees)
    ∙ ap (option_map (put_all (entries_where (counted id) id b))) (at_clears counted b.number b.clears id trees)
    ∙ map_both (put_all (entries_where (counted id) id b)) (cleared_by (counted id) id b) (stepped (counted id) id b) (tree_at id trees) (λ s. refl)
