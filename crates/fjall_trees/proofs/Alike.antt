-- Trees with the same clears and memories: as before, whatever is kept of their tables and which jobs are out.
use Rattle.std.proofs.Common.{◌≡◌, ℕ, ◌≤◌, ◌^◌, ◌==◌, Bool, true, false, cond, List, [], ◌∷◌, ◌++◌, All, Option, Some, None, refl, sym, ap, subst, ◌∙◌}
use Rattle.std.specs.Option.{is_some, option_map}
use Rattle.std.proofs.lemmas.List.Elements.{All-cons, All-head, All-nil, All-tail, All-weaker}
use Rattle.fjall_base.specs.Pairs.{Pairs}
use Rattle.fjall_meta.specs.Keyspaces.{Keyspaces}
use Rattle.fjall_table.specs.Blocks.{Entry}
use Rattle.fjall_memtable.specs.Jobs.{AreBelow}
use Rattle.fjall_memtable.specs.Views.{view_of}
use Rattle.fjall_memtable.specs.Sorted.{flat}
use Rattle.fjall_memtable.specs.Parts.{AreApart, Ascends, IsHeld, Memory, clears_in, parts_of, versions_in}
use Rattle.fjall_tree.specs.Jobs.{flush_begun, merge_begun}
use Rattle.fjall_tree.specs.Trees.{IsShape, Shape, floor_of}
use Rattle.fjall_trees.specs.Forests.{AreBefore, Forest, IsForest, IsTree, Planted, altered_at, tree_at}
use Rattle.fjall_trees.specs.Tables.{AreSameTrees}
use Rattle.fjall_trees.proofs.Changing.{one_keeps}
use Rattle.fjall_trees.proofs.Places.{ascends_of, ids_of, pairs_of}
use Rattle.fjall_trees.specs.MapTables.{AreOlder, IsOlder, LeavesMemory, map_with, pairs_with, store_by, store_with}
use Rattle.fjall_trees.proofs.Changed.{altered_each, altered_forest, altered_found, altered_some}

-- ---- one tree

-- The clears and the memory are the same.
pub record IsAlike (old new : Shape) : Type 0 where
  pub clears : new.clears ≡ old.clears
  pub memory : new.memory ≡ old.memory

tree_alike : (old new : Shape) → IsAlike old new → IsTree old → IsTree new
tree_alike old new alike is = record {
  held = subst (λ (m : Memory). All IsHeld (parts_of m)) (sym alike.memory) is.held;
  apart = subst (λ (m : Memory). AreApart (parts_of m)) (sym alike.memory) is.apart;
  clears = subst (λ (m : Memory). IsShape new.clears m) (sym alike.memory) (subst (λ (cs : List ℕ). IsShape cs old.memory) (sym alike.clears) is.clears);
}

until_alike : (n : ℕ) (old new : Shape) → IsAlike old new → old.memory.active.until ≤ n → new.memory.active.until ≤ n
until_alike n old new alike le = subst (λ (m : Memory). m.active.until ≤ n) (sym alike.memory) le

older_alike : (entries : List (List Entry)) (old new : Shape) → IsAlike old new → IsOlder old entries → IsOlder new entries
older_alike entries old new alike is = record { below = subst (λ (m : Memory). AreBelow (floor_of m) (flat entries)) (sym alike.memory) is.below; once = is.once }

map_alike : (entries : List (List Entry)) (instant : ℕ) (old new : Shape) → IsAlike old new → map_with entries instant (Some new) ≡ map_with entries instant (Some old)
unfolding map_with
map_alike entries instant old new alike = λ i. view_of instant (alike.clears i ++ clears_in (parts_of (alike.memory i))) (flat entries ++ versions_in (parts_of (alike.memory i)))

-- ---- all trees, of which one is changed

module _ (change : Shape → Shape) (leaves : LeavesMemory change) (id : ℕ) (trees : Forest) where
  alike : (shape : Shape) → IsAlike shape (change shape)
  alike shape = let same = leaves shape in record { clears = same.0; memory = same.1 }

  pub changed_alike_forest : IsForest trees → IsForest (altered_at id change trees)
  changed_alike_forest is =
      altered_forest id change trees is (All-weaker (λ k. IsTree k.shape) (λ k. IsTree (change k.shape)) (λ k tree. tree_alike k.shape (change k.shape) (alike k.shape) tree) trees is.each)

  pub changed_alike_before : (n : ℕ) → AreBefore n trees → AreBefore n (altered_at id change trees)
  changed_alike_before n before = altered_each (λ s. s.memory.active.until ≤ n) id change trees (λ s le. until_alike n s (change s) (alike s) le) before

  pub changed_alike_older : (entries : ℕ → List (List Entry)) → AreOlder trees entries → AreOlder (altered_at id change trees) entries
  changed_alike_older entries older = one_keeps IsOlder trees entries older change (λ s es is. older_alike es s (change s) (alike s) is) id

  pub changed_alike_pairs : (entries : ℕ → List (List Entry)) (other instant : ℕ) → pairs_with entries other instant (altered_at id change trees) ≡ pairs_with entries other instant trees
  unfolding map_with
  changed_alike_pairs entries other instant =
      altered_found id change other trees (λ b o. map_with (entries other) instant o ≡ map_with (entries other) instant (tree_at other trees)) (λ same. by (tree_at other trees)) refl
    where
      by : (o : Option Shape) → map_with (entries other) instant (option_map change o) ≡ map_with (entries other) instant o
      by None = refl
      by (Some shape) = map_alike (entries other) instant shape (change shape) (alike shape)

  pub changed_alike_has : (other : ℕ) → is_some (tree_at other (altered_at id change trees)) ≡ is_some (tree_at other trees)
  changed_alike_has other = altered_some id change other trees

  pub changed_alike_store : (entries : ℕ → List (List Entry)) (s : Keyspaces) → store_with entries s (altered_at id change trees) ≡ store_with entries s trees
  changed_alike_store entries s = ap (λ (pairs : ℕ → Pairs). store_by pairs s) (λ i q. changed_alike_pairs entries q (2 ^ 63) i)

-- jobs that are begun
pub flush_leaves : (job watermark : ℕ) → LeavesMemory (flush_begun job watermark)
flush_leaves job watermark shape = (refl, refl)

pub merge_leaves : (job watermark : ℕ) → LeavesMemory (merge_begun job watermark)
merge_leaves job watermark shape = (refl, refl)

-- ---- the same trees, whatever is kept of their tables

same_all : (P : ℕ → Shape → Type 0) → ((id : ℕ) (old new : Shape) → IsAlike old new → P id old → P id new) → (old new : Forest) → AreSameTrees old new → All (λ k. P k.id k.shape) old → All (λ k. P k.id k.shape) new
same_all P keeps [] [] same all = All-nil (λ (k : Planted). P k.id k.shape)
same_all P keeps [] (k ∷ new) same all = absurd same
same_all P keeps (j ∷ old) [] same all = absurd same
same_all P keeps (j ∷ old) (k ∷ new) same all =
    let here = All-head (λ (x : Planted). P x.id x.shape) j old all in
    All-cons (λ (x : Planted). P x.id x.shape) k new
    (keeps k.id j.shape k.shape (record { clears = same.1.clears; memory = same.1.memory }) (subst (λ (n : ℕ). P n j.shape) (sym same.0) here))
    (same_all P keeps old new same.2 (All-tail (λ (x : Planted). P x.id x.shape) j old all))

same_ids : (old new : Forest) → AreSameTrees old new → ids_of new ≡ ids_of old
same_ids [] [] same = refl
same_ids [] (k ∷ new) same = absurd same
same_ids (j ∷ old) [] same = absurd same
same_ids (j ∷ old) (k ∷ new) same = λ i. same.0 i ∷ same_ids old new same.2 i

pub same_forest : (old new : Forest) → AreSameTrees old new → IsForest old → IsForest new
same_forest old new same is = record {
  ascend = pairs_of new (subst Ascends (sym (same_ids old new same)) (ascends_of old is.ascend));
  each = same_all (λ id s. IsTree s) (λ id s t alike tree. tree_alike s t alike tree) old new same is.each;
}

pub same_before : (n : ℕ) (old new : Forest) → AreSameTrees old new → AreBefore n old → AreBefore n new
same_before n old new same before = same_all (λ id s. s.memory.active.until ≤ n) (λ id s t alike le. until_alike n s t alike le) old new same before

pub same_older : (entries : ℕ → List (List Entry)) (old new : Forest) → AreSameTrees old new → AreOlder old entries → AreOlder new entries
same_older entries old new same older = same_all (λ id s. IsOlder s (entries id)) (λ id s t alike is. older_alike (entries id) s t alike is) old new same older

pub same_has : (id : ℕ) (old new : Forest) → AreSameTrees old new → is_some (tree_at id new) ≡ is_some (tree_at id old)
same_has id [] [] same = refl
same_has id [] (k ∷ new) same = absurd same
same_has id (j ∷ old) [] same = absurd same
same_has id (j ∷ old) (k ∷ new) same = ap (λ (n : ℕ). is_some (cond (n == id) (Some k.shape) (tree_at id new))) same.0 ∙ by (j.id == id) (same_has id old new same.2)
  where
    by : (b : Bool) → is_some (tree_at id new) ≡ is_some (tree_at id old) → is_some (cond b (Some k.shape) (tree_at id new)) ≡ is_some (cond b (Some j.shape) (tree_at id old))
    by true more = refl
    by false more = more

pub same_pairs : (entries : ℕ → List (List Entry)) (id instant : ℕ) (old new : Forest) → AreSameTrees old new → pairs_with entries id instant new ≡ pairs_with entries id instant old
same_pairs entries id instant [] [] same = refl
same_pairs entries id instant [] (k ∷ new) same = absurd same
same_pairs entries id instant (j ∷ old) [] same = absurd same
same_pairs entries id instant (j ∷ old) (k ∷ new) same =
    ap (λ (n : ℕ). map_with (entries id) instant (cond (n == id) (Some k.shape) (tree_at id new))) same.0 ∙ by (j.id == id) (same_pairs entries id instant old new same.2)
  where
    by : (b : Bool) → pairs_with entries id instant new ≡ pairs_with entries id instant old
        → map_with (entries id) instant (cond b (Some k.shape) (tree_at id new)) ≡ map_with (entries id) instant (cond b (Some j.shape) (tree_at id old))
    by true more = map_alike (entries id) instant j.shape k.shape (record { clears = same.1.clears; memory = same.1.memory })
    by false more = more

pub same_store_with : (entries : ℕ → List (List Entry)) (s : Keyspaces) (old new : Forest) → AreSameTrees old new → store_with entries s new ≡ store_with entries s old
same_store_with entries s old new same = ap (λ (pairs : ℕ → Pairs). store_by pairs s) (λ i q. same_pairs entries q (2 ^ 63) old new same i)
