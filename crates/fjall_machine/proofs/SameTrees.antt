-- The same trees but for what is kept of their tables: what changes of them leave the same, and what of them is the same.
use Rattle.std.proofs.Common.{◌≡◌, ℕ, ◌==◌, not, Bool, true, false, cond, List, [], ◌∷◌, map, unwrap_or, All, Option, Some, refl, sym, ap, subst, ◌∙◌}
use Rattle.std.proofs.lemmas.List.Elements.{All-cons, All-head, All-map, All-nil, All-tail, All-weaker}
use Rattle.fjall_journal.specs.Changes.{Change, Emptied, Items}
use Rattle.fjall_journal.specs.Ops.{BatchItem}
use Rattle.fjall_table.specs.Blocks.{Entry}
use Rattle.fjall_table_reader.specs.Readers.{AreSameTables, Reader}
use Rattle.fjall_tree.specs.Puts.{bare_tree, has_stamp, put, put_all}
use Rattle.fjall_tree.specs.Trees.{Flushing, IsSameShape, Merging, Shape, emptied, sealed_off, written}
use Rattle.fjall_tree.proofs.Outstanding.{same_shape}
use Rattle.fjall_trees.specs.Forests.{Forest, Planted, altered_at, tree_at, without}
use Rattle.fjall_trees.specs.Tables.{AreSameTrees, shape_in}
use Rattle.fjall_trees.specs.Writes.{pushed, versions_of_items, with_tree}
use Rattle.fjall_trees.proofs.Changing.{one_keeps, pushed_keeps}
use Rattle.fjall_trees.proofs.Places.{each_by}
use Rattle.fjall_trees.proofs.Pushed.{put_all_tables}
use Rattle.fjall_machine.specs.Machine.{changed}

-- ---- tables

tables_along : (a b c : List Reader) → AreSameTables a b → AreSameTables b c → AreSameTables a c
tables_along [] [] [] one two = tt
tables_along [] [] (v ∷ c) one two = two
tables_along [] (u ∷ b) c one two = absurd one
tables_along (t ∷ a) [] c one two = absurd one
tables_along (t ∷ a) (u ∷ b) [] one two = two
tables_along (t ∷ a) (u ∷ b) (v ∷ c) one two = (
  record { name = two.0.name ∙ one.0.name; info = two.0.info ∙ one.0.info; handles = two.0.handles ∙ one.0.handles },
  tables_along a b c one.1 two.1,
)

tables_back : (a b : List Reader) → AreSameTables a b → AreSameTables b a
tables_back [] [] same = tt
tables_back [] (u ∷ b) same = absurd same
tables_back (t ∷ a) [] same = absurd same
tables_back (t ∷ a) (u ∷ b) same = (record { name = sym same.0.name; info = sym same.0.info; handles = sym same.0.handles }, tables_back a b same.1)

-- none stay none
pub none_same : (a b : List Reader) → AreSameTables a b → a ≡ [] → b ≡ []
none_same [] [] same none = refl
none_same [] (u ∷ b) same none = absurd same
none_same (t ∷ a) b same none = let bad : ⊥ = cc in absurd bad

pub none_before : (a b : List Reader) → AreSameTables a b → b ≡ [] → a ≡ []
none_before [] b same none = refl
none_before (t ∷ a) [] same none = absurd same
none_before (t ∷ a) (u ∷ b) same none = let bad : ⊥ = cc in absurd bad

pub counts_same : (a b : List Reader) → AreSameTables a b → map (λ t. t.info.entry_count) b ≡ map (λ t. t.info.entry_count) a
counts_same [] [] same = refl
counts_same [] (u ∷ b) same = absurd same
counts_same (t ∷ a) [] same = absurd same
counts_same (t ∷ a) (u ∷ b) same = λ i. (same.0.info i).entry_count ∷ counts_same a b same.1 i

pub infos_same : (a b : List Reader) → AreSameTables a b → map (λ t. t.info) b ≡ map (λ t. t.info) a
infos_same [] [] same = refl
infos_same [] (u ∷ b) same = absurd same
infos_same (t ∷ a) [] same = absurd same
infos_same (t ∷ a) (u ∷ b) same = λ i. same.0.info i ∷ infos_same a b same.1 i

-- ---- one tree

shape_along : (a b c : Shape) → IsSameShape a b → IsSameShape b c → IsSameShape a c
shape_along a b c one two = record {
  tables = tables_along a.tables b.tables c.tables one.tables two.tables;
  clears = two.clears ∙ one.clears;
  memory = two.memory ∙ one.memory;
  flush = two.flush ∙ one.flush;
  merge = two.merge ∙ one.merge;
}

shape_back : (a b : Shape) → IsSameShape a b → IsSameShape b a
shape_back a b same = record {
  tables = tables_back a.tables b.tables same.tables;
  clears = sym same.clears;
  memory = sym same.memory;
  flush = sym same.flush;
  merge = sym same.merge;
}

-- the tree over other tables
abbrev over : List Reader → Shape → Shape
over tables shape = record shape { tables = tables }

-- a change that looks at no table
abbrev pub PassesTables : (Shape → Shape) → Type 0
PassesTables change = (tables : List Reader) (shape : Shape) → change (over tables shape) ≡ over tables (change shape)

same_over : (a b : Shape) → IsSameShape a b → b ≡ over b.tables a
same_over a b same = λ i. record { tables = b.tables; clears = same.clears i; memory = same.memory i; flush = same.flush i; merge = same.merge i }

change_same : (change : Shape → Shape) → PassesTables change → (a b : Shape) → IsSameShape a b → IsSameShape (change a) (change b)
change_same change passes a b same =
    let left : (change a).tables ≡ a.tables = ap (λ (s : Shape). s.tables) (passes a.tables a) in
    subst (IsSameShape (change a)) (sym (ap change (same_over a b same) ∙ passes b.tables a))
    (record { tables = subst (λ ts. AreSameTables ts b.tables) (sym left) same.tables; clears = refl; memory = refl; flush = refl; merge = refl })

put_passes : (v : Entry) → PassesTables (put v)
unfolding put
put_passes v tables shape = by (has_stamp v shape)
  where
    by : (b : Bool) → cond b (over tables shape) (written v (over tables shape)) ≡ over tables (cond b shape (written v shape))
    by true = refl
    by false = refl

puts_pass : (vs : List Entry) → PassesTables (put_all vs)
puts_pass [] tables shape = refl
puts_pass (v ∷ vs) tables shape = ap (put v) (puts_pass vs tables shape) ∙ put_passes v tables (put_all vs shape)

-- ---- all trees

pub along : (a b c : Forest) → AreSameTrees a b → AreSameTrees b c → AreSameTrees a c
along [] [] [] one two = tt
along [] [] (l ∷ c) one two = two
along [] (k ∷ b) c one two = absurd one
along (j ∷ a) [] c one two = absurd one
along (j ∷ a) (k ∷ b) [] one two = two
along (j ∷ a) (k ∷ b) (l ∷ c) one two = (two.0 ∙ one.0, shape_along j.shape k.shape l.shape one.1 two.1, along a b c one.2 two.2)

pub back : (a b : Forest) → AreSameTrees a b → AreSameTrees b a
back [] [] same = tt
back [] (k ∷ b) same = absurd same
back (j ∷ a) [] same = absurd same
back (j ∷ a) (k ∷ b) same = (sym same.0, shape_back j.shape k.shape same.1, back a b same.2)

each_same : (change : ℕ → Shape → Shape) → ((id : ℕ) → PassesTables (change id)) → (a b : Forest) → AreSameTrees a b → AreSameTrees (each_by change a) (each_by change b)
each_same change passes [] [] same = tt
each_same change passes [] (k ∷ b) same = absurd same
each_same change passes (j ∷ a) [] same = absurd same
each_same change passes (j ∷ a) (k ∷ b) same = (
  same.0,
  subst (λ (id : ℕ). IsSameShape (change j.id j.shape) (change id k.shape)) (sym same.0) (change_same (change j.id) (passes j.id) j.shape k.shape same.1),
  each_same change passes a b same.2,
)

pub same_altered : (id : ℕ) (change : Shape → Shape) → PassesTables change → (a b : Forest) → AreSameTrees a b → AreSameTrees (altered_at id change a) (altered_at id change b)
same_altered id change passes = each_same (λ k shape. cond (k == id) (change shape) shape) (λ k. by (k == id))
  where
    by : (b : Bool) → PassesTables (λ shape. cond b (change shape) shape)
    by true tables shape = passes tables shape
    by false tables shape = refl

pub same_emptied : (n id : ℕ) (a b : Forest) → AreSameTrees a b → AreSameTrees (altered_at id (emptied n) a) (altered_at id (emptied n) b)
same_emptied n id = same_altered id (emptied n) (λ tables shape. refl)

pub same_rotated : (id : ℕ) (a b : Forest) → AreSameTrees a b → AreSameTrees (altered_at id sealed_off a) (altered_at id sealed_off b)
same_rotated id = same_altered id sealed_off (λ tables shape. refl)

pub same_pushed : (n : ℕ) (items : List BatchItem) (a b : Forest) → AreSameTrees a b → AreSameTrees (pushed n items a) (pushed n items b)
unfolding pushed
same_pushed n items = each_same (λ id. put_all (versions_of_items id n items)) (λ id. puts_pass (versions_of_items id n items))

pub same_changed : (n : ℕ) (change : Change) (a b : Forest) → AreSameTrees a b → AreSameTrees (changed n change a) (changed n change b)
same_changed n (Items items) = same_pushed n items
same_changed n (Emptied id) = same_emptied n id

pub same_planted : (id from : ℕ) (a b : Forest) → AreSameTrees a b → AreSameTrees (with_tree id from a) (with_tree id from b)
same_planted id from [] [] same = (refl, same_shape (bare_tree from), tt)
same_planted id from [] (k ∷ b) same = absurd same
same_planted id from (j ∷ a) [] same = absurd same
same_planted id from (j ∷ a) (k ∷ b) same = (same.0, same.1, same_planted id from a b same.2)

pub same_dropped : (id : ℕ) (a b : Forest) → AreSameTrees a b → AreSameTrees (without id a) (without id b)
same_dropped id [] [] same = tt
same_dropped id [] (k ∷ b) same = absurd same
same_dropped id (j ∷ a) [] same = absurd same
same_dropped id (j ∷ a) (k ∷ b) same = by (j.id == id) (k.id == id) (ap (λ (n : ℕ). n == id) same.0) (same_dropped id a b same.2)
  where
    by : (x y : Bool) → y ≡ x → AreSameTrees (without id a) (without id b)
        → AreSameTrees (cond (not x) (j ∷ without id a) (without id a)) (cond (not y) (k ∷ without id b) (without id b))
    by true true e rest = rest
    by false false e rest = (same.0, same.1, rest)
    by true false e rest = let bad : ⊥ = cc in absurd bad
    by false true e rest = let bad : ⊥ = cc in absurd bad

-- a change of one tree, whatever is kept of its tables
pub same_altered_by : (id : ℕ) (change : Shape → Shape) → ((a b : Shape) → IsSameShape a b → IsSameShape (change a) (change b)) → (a b : Forest) → AreSameTrees a b
    → AreSameTrees (altered_at id change a) (altered_at id change b)
same_altered_by id change keeps [] [] same = tt
same_altered_by id change keeps [] (k ∷ b) same = absurd same
same_altered_by id change keeps (j ∷ a) [] same = absurd same
same_altered_by id change keeps (j ∷ a) (k ∷ b) same = (same.0, by (j.id == id) (k.id == id) (ap (λ (n : ℕ). n == id) same.0), same_altered_by id change keeps a b same.2)
  where
    by : (x y : Bool) → y ≡ x → IsSameShape (cond x (change j.shape) j.shape) (cond y (change k.shape) k.shape)
    by true true e = keeps j.shape k.shape same.1
    by false false e = same.1
    by true false e = let bad : ⊥ = cc in absurd bad
    by false true e = let bad : ⊥ = cc in absurd bad

-- what holds of each tree by its id, but for its tables, holds of the same
pub all_alike : (P : ℕ → Shape → Type 0) → ((id : ℕ) (a b : Shape) → IsSameShape a b → P id a → P id b) → (old new : Forest) → AreSameTrees old new
    → All (λ k. P k.id k.shape) old → All (λ k. P k.id k.shape) new
all_alike P keeps [] [] same all = All-nil (λ (k : Planted). P k.id k.shape)
all_alike P keeps [] (k ∷ new) same all = absurd same
all_alike P keeps (j ∷ old) [] same all = absurd same
all_alike P keeps (j ∷ old) (k ∷ new) same all =
    All-cons (λ (x : Planted). P x.id x.shape) k new
    (keeps k.id j.shape k.shape same.1 (subst (λ (n : ℕ). P n j.shape) (sym same.0) (All-head (λ (x : Planted). P x.id x.shape) j old all)))
    (all_alike P keeps old new same.2 (All-tail (λ (x : Planted). P x.id x.shape) j old all))

-- ---- the tree of a keyspace

pub same_in : (id : ℕ) (a b : Forest) → AreSameTrees a b → IsSameShape (shape_in id a) (shape_in id b)
same_in id [] [] same = same_shape (bare_tree 0)
same_in id [] (k ∷ b) same = absurd same
same_in id (j ∷ a) [] same = absurd same
same_in id (j ∷ a) (k ∷ b) same = by (j.id == id) (k.id == id) (ap (λ (n : ℕ). n == id) same.0) (same_in id a b same.2)
  where
    by : (x y : Bool) → y ≡ x → IsSameShape (shape_in id a) (shape_in id b)
        → IsSameShape (unwrap_or (cond x (Some j.shape) (tree_at id a)) (bare_tree 0)) (unwrap_or (cond y (Some k.shape) (tree_at id b)) (bare_tree 0))
    by true true e rest = same.1
    by false false e rest = rest
    by true false e rest = let bad : ⊥ = cc in absurd bad
    by false true e rest = let bad : ⊥ = cc in absurd bad

pub memory_in : (id : ℕ) (a b : Forest) → AreSameTrees a b → (shape_in id b).memory ≡ (shape_in id a).memory
memory_in id a b same = (same_in id a b same).memory

-- what holds of each tree by its id, its tables but for what is kept of them, holds of the same
pub all_same : (P : ℕ → List Reader → Type 0) → ((id : ℕ) (a b : List Reader) → AreSameTables a b → P id a → P id b) → (old new : Forest) → AreSameTrees old new
    → All (λ k. P k.id k.shape.tables) old → All (λ k. P k.id k.shape.tables) new
all_same P keeps old new same all = all_alike (λ id shape. P id shape.tables) (λ id a b alike here. keeps id a.tables b.tables alike.tables here) old new same all

-- ---- tables under changes in memory

module _ (Q : ℕ → List Reader → Type 0) (trees : Forest) (all : All (λ k. Q k.id k.shape.tables) trees) where
  pub pushed_tables : (n : ℕ) (items : List BatchItem) → All (λ k. Q k.id k.shape.tables) (pushed n items trees)
  unfolding pushed
  pushed_tables n items =
      All-map (λ (k : Planted). Q k.id k.shape.tables) (λ k. record { id = k.id; shape = put_all (versions_of_items k.id n items) k.shape }) trees
      (All-weaker (λ k. Q k.id k.shape.tables) (λ k. Q k.id (put_all (versions_of_items k.id n items) k.shape).tables) (λ k here. subst (Q k.id) (sym (put_all_tables (versions_of_items k.id n items) k.shape)) here) trees all)

  pub altered_tables : (id : ℕ) (change : Shape → Shape) → ((shape : Shape) → (change shape).tables ≡ shape.tables) → All (λ k. Q k.id k.shape.tables) (altered_at id change trees)
  altered_tables id change same =
      All-map (λ (k : Planted). Q k.id k.shape.tables) (λ k. record { id = k.id; shape = cond (k.id == id) (change k.shape) k.shape }) trees
      (All-weaker (λ k. Q k.id k.shape.tables) (λ k. Q k.id (cond (k.id == id) (change k.shape) k.shape).tables) (λ k here. by k (k.id == id) here) trees all)
    where
      by : (k : Planted) (b : Bool) → Q k.id k.shape.tables → Q k.id (cond b (change k.shape) k.shape).tables
      by k true here = subst (Q k.id) (sym (same k.shape)) here
      by k false here = here

  pub changed_tables : (n : ℕ) (change : Change) → All (λ k. Q k.id k.shape.tables) (changed n change trees)
  changed_tables n (Items items) = pushed_tables n items
  changed_tables n (Emptied id) = altered_tables id (emptied n) (λ shape. refl)

-- ---- flushes that are out, under changes in memory

-- a change that leaves the flush that is out
abbrev pub LeavesFlush : (Shape → Shape) → Type 0
LeavesFlush change = (shape : Shape) → (change shape).flush ≡ shape.flush

module _ (Q : Option Flushing → Type 0) (trees : Forest) (all : All (λ k. Q k.shape.flush) trees) where
  -- no table has a say in it
  no_entries : ℕ → List (List Entry)
  no_entries id = []

  pub pushed_flushes : (n : ℕ) (items : List BatchItem) → All (λ k. Q k.shape.flush) (pushed n items trees)
  pushed_flushes n items = pushed_keeps (λ shape entries. Q shape.flush) trees no_entries all (λ v shape entries here. here) n items

  pub altered_flushes : (id : ℕ) (change : Shape → Shape) → LeavesFlush change → All (λ k. Q k.shape.flush) (altered_at id change trees)
  altered_flushes id change leaves = one_keeps (λ shape entries. Q shape.flush) trees no_entries all change (λ shape entries here. subst Q (sym (leaves shape)) here) id

  -- or gives one for which the same holds
  pub given_flushes : (id : ℕ) (change : Shape → Shape) → ((shape : Shape) → Q (change shape).flush) → All (λ k. Q k.shape.flush) (altered_at id change trees)
  given_flushes id change gives = one_keeps (λ shape entries. Q shape.flush) trees no_entries all change (λ shape entries here. gives shape) id

-- ---- merges that are out, likewise

-- a change that leaves the merge that is out
abbrev pub LeavesMerge : (Shape → Shape) → Type 0
LeavesMerge change = (shape : Shape) → (change shape).merge ≡ shape.merge

module _ (Q : Option Merging → Type 0) (trees : Forest) (all : All (λ k. Q k.shape.merge) trees) where
  -- no table has a say in it
  none_held : ℕ → List (List Entry)
  none_held id = []

  pub pushed_merges : (n : ℕ) (items : List BatchItem) → All (λ k. Q k.shape.merge) (pushed n items trees)
  pushed_merges n items = pushed_keeps (λ shape entries. Q shape.merge) trees none_held all (λ v shape entries here. here) n items

  pub altered_merges : (id : ℕ) (change : Shape → Shape) → LeavesMerge change → All (λ k. Q k.shape.merge) (altered_at id change trees)
  altered_merges id change leaves = one_keeps (λ shape entries. Q shape.merge) trees none_held all change (λ shape entries here. subst Q (sym (leaves shape)) here) id

  -- or gives one for which the same holds
  pub given_merges : (id : ℕ) (change : Shape → Shape) → ((shape : Shape) → Q (change shape).merge) → All (λ k. Q k.shape.merge) (altered_at id change trees)
  given_merges id change gives = one_keeps (λ shape entries. Q shape.merge) trees none_held all change (λ shape entries here. gives shape) id
