-- Trees whose kept blocks are let go, all of them, the older ones, or where they count for more than a bound.
use Rattle.std.proofs.Common.{◌≡◌, ℕ, zero, suc, ◌+◌, ◌<◌, ◌≤◌, Bool, true, false, cond, ◌||◌, List, [], ◌∷◌, ◌++◌, drop, length, map, set, slice_get, take, unwrap_or, Option, Some, None, inl, inr, add-one, refl, sym, ap, subst, ◌∙◌, arith}
use Rattle.std.specs.List.{sum_by}
use Rattle.std.specs.Option.{option_map}
use Rattle.std.proofs.lemmas.Bool.{cases_Bool, cases_lt, cond-false, cond-true, false_from_ne_true, lt-ltb, ltb-true}
use Rattle.std.proofs.lemmas.List.{map-set}
use Rattle.std.proofs.lemmas.List.Elements.{All-map, All-weaker}
use Rattle.std.proofs.lemmas.List.Sums.{sum_by-cons}
use Rattle.std.proofs.lemmas.Option.{slice_get-map}
use Rattle.fjall_base.specs.Disk.{Meaning}
use Rattle.fjall_base.proofs.Codecs.{some_is}
use Rattle.fjall_table.specs.Blocks.{Entry}
use Rattle.fjall_table_reader.specs.Readers.{kept_sizes, recent_sizes}
use Rattle.fjall_table_reader.proofs.Several.{all_aged_read, all_aged_same, all_unread_read, all_unread_same, all_unread_size}
use Rattle.fjall_jobs.specs.Tasks.{Task}
use Rattle.fjall_tree.specs.declared.tree.Tree.{Tree}
use Rattle.fjall_tree.specs.Jobs.{IsMerging}
use Rattle.fjall_tree.specs.Puts.{bare_tree}
use Rattle.fjall_tree.specs.Shapes.{shape_of}
use Rattle.fjall_tree.specs.Trees.{IsSameShape, ReadsAll, Shape, aged_shape, unread_shape}
use Rattle.fjall_trees.specs.declared.trees.KeyspaceTree.{KeyspaceTree}
use Rattle.fjall_trees.specs.Forests.{Forest, Planted, tree_at}
use Rattle.fjall_trees.specs.Kept.{all_aged, all_unread, bounded, emptied_above, is_full, kept_bytes}
use Rattle.fjall_trees.specs.Lists.{forest_in, planted}
use Rattle.fjall_trees.specs.Tables.{AreReadOn, AreSameTrees, shape_in}
use Rattle.fjall_trees.proofs.Places.{tree_each}

-- ---- for how much they count

pub kept_planted : (ks : List KeyspaceTree) → sum_by (λ k. kept_sizes (shape_of k.tree).tables) ks ≡ sum_by (λ k. kept_sizes k.shape.tables) (forest_in ks)
kept_planted [] = refl
kept_planted (k ∷ ks) =
    sum_by-cons (λ (j : KeyspaceTree). kept_sizes (shape_of j.tree).tables) k ks ∙ ap (λ (n : ℕ). kept_sizes (shape_of k.tree).tables + n) (kept_planted ks)
    ∙ sym (sum_by-cons (λ (j : Planted). kept_sizes j.shape.tables) (planted k) (forest_in ks))

pub recent_planted : (ks : List KeyspaceTree) → sum_by (λ k. recent_sizes (shape_of k.tree).tables) ks ≡ sum_by (λ k. recent_sizes k.shape.tables) (forest_in ks)
recent_planted [] = refl
recent_planted (k ∷ ks) =
    sum_by-cons (λ (j : KeyspaceTree). recent_sizes (shape_of j.tree).tables) k ks ∙ ap (λ (n : ℕ). recent_sizes (shape_of k.tree).tables + n) (recent_planted ks)
    ∙ sym (sum_by-cons (λ (j : Planted). recent_sizes j.shape.tables) (planted k) (forest_in ks))

none_kept : (trees : Forest) → sum_by (λ k. kept_sizes k.shape.tables) (all_unread trees) ≡ 0
none_kept [] = refl
none_kept (k ∷ trees) =
    let j : Planted = record { id = k.id; shape = unread_shape k.shape } in
    omega (arith, sum_by-cons (λ (j : Planted). kept_sizes j.shape.tables) j (all_unread trees), all_unread_size k.shape.tables, none_kept trees)

-- ---- one tree after another

-- the trees with each shape changed alike
abbrev pub each_changed : (Shape → Shape) → Forest → Forest
each_changed f trees = map (λ k. record { id = k.id; shape = f k.shape }) trees

-- the first of them so, as many as that, and the others as they are
abbrev pub first_changed : (Shape → Shape) → ℕ → Forest → Forest
first_changed f count trees = each_changed f (take count trees) ++ drop count trees

one_changed : (f : Shape → Shape) (trees : Forest) (n : ℕ) (k : Planted) → slice_get (first_changed f n trees) n ≡ Some k
    → set (first_changed f n trees) n (record { id = k.id; shape = f k.shape }) ≡ first_changed f (suc n) trees
one_changed f [] zero k here = cc
one_changed f [] (suc n) k here = cc
one_changed f (j ∷ trees) zero k here = ap (λ (x : Planted). (let y : Planted = record { id = x.id; shape = f x.shape } in y ∷ trees)) (sym (some_is j k here))
one_changed f (j ∷ trees) (suc n) k here = ap (λ (more : Forest). (let y : Planted = record { id = j.id; shape = f j.shape } in y ∷ more)) (one_changed f trees n k here)

pub changed_more : (f : Shape → Shape) (trees : Forest) (ks : List KeyspaceTree) (n : ℕ) (k : KeyspaceTree) (new : Tree) → forest_in ks ≡ first_changed f n trees → slice_get ks n ≡ Some k
    → shape_of new ≡ f (shape_of k.tree)
    → forest_in (set ks n (record { id = k.id; tree = new })) ≡ first_changed f (n + 1) trees
changed_more f trees ks n k new so_far here made =
    map-set planted ks n (record { id = k.id; tree = new })
    ∙ (λ i. set (so_far i) n (record { id = k.id; shape = made i }))
    ∙ one_changed f trees n (planted k) (ap (λ (more : Forest). slice_get more n) (sym so_far) ∙ slice_get-map planted ks n ∙ ap (option_map planted) here)
    ∙ ap (λ m. first_changed f m trees) (sym (add-one n))

pub changed_all : (f : Shape → Shape) (n : ℕ) (trees : Forest) → length trees ≤ n → first_changed f n trees ≡ each_changed f trees
changed_all f zero [] le = refl
changed_all f zero (k ∷ trees) le = absurd (omega arith)
changed_all f (suc n) [] le = refl
changed_all f (suc n) (k ∷ trees) le = ap (λ (more : Forest). (let y : Planted = record { id = k.id; shape = f k.shape } in y ∷ more)) (changed_all f n trees (omega arith))

-- ---- what stays

changed_read : (f : Shape → Shape) (disk : Meaning) → ((shape : Shape) (lists : List (List Entry)) → ReadsAll disk shape lists → ReadsAll disk (f shape) lists)
    → (trees : Forest) (entries : ℕ → List (List Entry)) → AreReadOn disk trees entries → AreReadOn disk (each_changed f trees) entries
changed_read f disk stays trees entries r =
    All-map (λ (k : Planted). ReadsAll disk k.shape (entries k.id)) (λ (k : Planted). (let y : Planted = record { id = k.id; shape = f k.shape } in y)) trees
    (All-weaker (λ (k : Planted). ReadsAll disk k.shape (entries k.id)) (λ (k : Planted). ReadsAll disk (f k.shape) (entries k.id)) (λ k here. stays k.shape (entries k.id) here) trees r)

changed_same : (f : Shape → Shape) → ((shape other : Shape) → IsSameShape shape other → IsSameShape shape (f other)) → (old new : Forest) → AreSameTrees old new → AreSameTrees old (each_changed f new)
changed_same f stays [] [] same = tt
changed_same f stays [] (k ∷ new) same = same
changed_same f stays (j ∷ old) [] same = same
changed_same f stays (j ∷ old) (k ∷ new) same = (same.0, stays j.shape k.shape same.1, changed_same f stays old new same.2)

changed_there : (f : Shape → Shape) → f (bare_tree 0) ≡ bare_tree 0 → (id : ℕ) (trees : Forest) → shape_in id (each_changed f trees) ≡ f (shape_in id trees)
changed_there f bare id trees = ap (λ (o : Option Shape). unwrap_or o (bare_tree 0)) (tree_each (λ _. f) id trees) ∙ by (tree_at id trees)
  where
    by : (o : Option Shape) → unwrap_or (option_map f o) (bare_tree 0) ≡ f (unwrap_or o (bare_tree 0))
    by None = sym bare
    by (Some shape) = refl

-- with no block kept
unread_read : (disk : Meaning) (shape : Shape) (lists : List (List Entry)) → ReadsAll disk shape lists → ReadsAll disk (unread_shape shape) lists
unread_read disk shape lists r = record { tables = all_unread_read disk shape.tables lists r.tables; below = r.below; once = r.once }

unread_same : (shape other : Shape) → IsSameShape shape other → IsSameShape shape (unread_shape other)
unread_same shape other same = record { tables = all_unread_same shape.tables other.tables same.tables; clears = same.clears; memory = same.memory; flush = same.flush; merge = same.merge }

-- with the older ones gone
aged_read : (disk : Meaning) (shape : Shape) (lists : List (List Entry)) → ReadsAll disk shape lists → ReadsAll disk (aged_shape shape) lists
aged_read disk shape lists r = record { tables = all_aged_read disk shape.tables lists r.tables; below = r.below; once = r.once }

aged_same : (shape other : Shape) → IsSameShape shape other → IsSameShape shape (aged_shape other)
aged_same shape other same = record { tables = all_aged_same shape.tables other.tables same.tables; clears = same.clears; memory = same.memory; flush = same.flush; merge = same.merge }

-- ---- up to a bound

pub above_bound : (bytes : ℕ) (trees : Forest) → bytes < kept_bytes trees → emptied_above bytes trees ≡ all_unread trees
unfolding emptied_above
above_bound bytes trees lt = cond-true _ (all_unread trees) trees (lt-ltb bytes (kept_bytes trees) lt)

pub within_bound : (bytes : ℕ) (trees : Forest) → kept_bytes trees ≤ bytes → emptied_above bytes trees ≡ trees
unfolding emptied_above
within_bound bytes trees le = cond-false _ (all_unread trees) trees (false_from_ne_true _ (λ t. let lt = ltb-true bytes (kept_bytes trees) t in absurd (omega arith)))

pub full : (bytes : ℕ) (trees : Forest) → is_full bytes trees ≡ true → bounded bytes trees ≡ emptied_above bytes (all_aged trees)
unfolding bounded
full bytes trees t = cond-true (is_full bytes trees) (emptied_above bytes (all_aged trees)) trees t

pub not_full : (bytes : ℕ) (trees : Forest) → is_full bytes trees ≡ false → bounded bytes trees ≡ trees
unfolding bounded
not_full bytes trees f = cond-false (is_full bytes trees) (emptied_above bytes (all_aged trees)) trees f

-- what holds of the trees, of them with the older blocks gone, and of those with none
pub bounded_has : (P : Forest → Type 0) (bytes : ℕ) (trees new : Forest) → new ≡ bounded bytes trees → P trees → P (all_aged trees) → P (all_unread (all_aged trees)) → P new
bounded_has P bytes trees new is here aged there = elim (cases_Bool (is_full bytes trees)) [
  | inl t ↦ elim (cases_lt bytes (kept_bytes (all_aged trees))) [
    | inl lt ↦ subst P (sym (is ∙ full bytes trees t ∙ above_bound bytes (all_aged trees) lt)) there
    | inr le ↦ subst P (sym (is ∙ full bytes trees t ∙ within_bound bytes (all_aged trees) le)) aged
  ]
  | inr f ↦ subst P (sym (is ∙ not_full bytes trees f)) here
]

pub bounded_kept : (bytes : ℕ) (trees new : Forest) → new ≡ bounded bytes trees → kept_bytes new ≤ bytes
bounded_kept bytes trees new is = elim (cases_Bool (is_full bytes trees)) [
  | inl t ↦ elim (cases_lt bytes (kept_bytes (all_aged trees))) [
    | inl lt ↦ (let none = ap kept_bytes (is ∙ full bytes trees t ∙ above_bound bytes (all_aged trees) lt) in let zero = none_kept (all_aged trees) in omega arith)
    | inr le ↦ (let same = ap kept_bytes (is ∙ full bytes trees t ∙ within_bound bytes (all_aged trees) le) in omega arith)
  ]
  | inr f ↦ elim (cases_lt bytes (kept_bytes trees)) [
    | inl lt ↦ absurd (or_second _ _ f (lt-ltb bytes (kept_bytes trees) lt))
    | inr le ↦ (let same = ap kept_bytes (is ∙ not_full bytes trees f) in omega arith)
  ]
]
  where
    or_second : (b c : Bool) → (b || c) ≡ false → c ≡ true → ⊥
    or_second true c f t = absurd cc
    or_second false c f t = absurd cc

pub bounded_read : (disk : Meaning) (bytes : ℕ) (trees new : Forest) (entries : ℕ → List (List Entry)) → new ≡ bounded bytes trees → AreReadOn disk trees entries → AreReadOn disk new entries
bounded_read disk bytes trees new entries is r =
    let aged = changed_read aged_shape disk (aged_read disk) trees entries r in
    bounded_has (λ (f : Forest). AreReadOn disk f entries) bytes trees new is r aged (changed_read unread_shape disk (unread_read disk) (all_aged trees) entries aged)

pub bounded_same : (bytes : ℕ) (old trees new : Forest) → new ≡ bounded bytes trees → AreSameTrees old trees → AreSameTrees old new
bounded_same bytes old trees new is same =
    let aged = changed_same aged_shape aged_same old trees same in
    bounded_has (AreSameTrees old) bytes trees new is same aged (changed_same unread_shape unread_same old (all_aged trees) aged)

-- a merge that is out of a shape is out of the same one with other blocks kept
merging_on : (f : Shape → Shape) → ((shape : Shape) (lists : List (List Entry)) (task : Task) → IsMerging shape lists task → IsMerging (f shape) lists task) → f (bare_tree 0) ≡ bare_tree 0
    → (id : ℕ) (trees : Forest) (lists : List (List Entry)) (task : Task) → IsMerging (shape_in id trees) lists task → IsMerging (shape_in id (each_changed f trees)) lists task
merging_on f stays bare id trees lists task m = subst (λ (s : Shape). IsMerging s lists task) (sym (changed_there f bare id trees)) (stays (shape_in id trees) lists task m)

unread_merging : (shape : Shape) (lists : List (List Entry)) (task : Task) → IsMerging shape lists task → IsMerging (unread_shape shape) lists task
unread_merging shape lists task m = record {
  out = m.out;
  is = m.is;
  id = m.id;
  watermark = m.watermark;
  within = m.within;
  within_clears = m.within_clears;
  runs = m.runs;
  clears = m.clears;
  below = m.below;
  clears_below = m.clears_below;
  from = m.from;
  floor = m.floor;
}

aged_merging : (shape : Shape) (lists : List (List Entry)) (task : Task) → IsMerging shape lists task → IsMerging (aged_shape shape) lists task
aged_merging shape lists task m = record {
  out = m.out;
  is = m.is;
  id = m.id;
  watermark = m.watermark;
  within = m.within;
  within_clears = m.within_clears;
  runs = m.runs;
  clears = m.clears;
  below = m.below;
  clears_below = m.clears_below;
  from = m.from;
  floor = m.floor;
}

pub bounded_merging : (bytes id : ℕ) (trees new : Forest) (entries : List (List Entry)) (task : Task) → new ≡ bounded bytes trees → IsMerging (shape_in id trees) entries task
    → IsMerging (shape_in id new) entries task
bounded_merging bytes id trees new entries task is m =
    let aged = merging_on aged_shape aged_merging refl id trees entries task m in
    bounded_has (λ (f : Forest). IsMerging (shape_in id f) entries task) bytes trees new is m aged (merging_on unread_shape unread_merging refl id (all_aged trees) entries task aged)
