-- What batches keep of trees.
use Rattle.std.proofs.Common.{◌≡◌, ℕ, ◌+◌, ◌<◌, ◌≤◌, ◌==◌, Bool, true, false, cond, List, [], ◌∷◌, ◌++◌, get_or, length, take, map, add-one, refl, sym, ◌∙◌, ap}
use Rattle.std.specs.List.{All}
use Rattle.std.proofs.Math.Seq.{take-suc}
use Rattle.std.proofs.lemmas.List.{map-append}
use Rattle.std.proofs.lemmas.List.Elements.{All-cons, All-head, All-nil, All-tail, All-weaker}
use Rattle.fjall_journal.specs.declared.batch.ReadBatchItem.{ReadBatchItem}
use Rattle.fjall_journal.specs.declared.batch.Batch.{Batch}
use Rattle.fjall_journal.specs.Batches.{Shown, view}
use Rattle.fjall_table.specs.Blocks.{Entry}
use Rattle.fjall_meta.specs.Views.{entry_of}
use Rattle.fjall_tree.specs.Puts.{emptied_once, put}
use Rattle.fjall_tree.specs.Trees.{Shape}
use Rattle.fjall_trees.specs.Forests.{AreBefore, Forest, Planted, altered_at}
use Rattle.fjall_replay.specs.Replayed.{ids_of}
use Rattle.fjall_replay.specs.Steps.{with_batch, with_batches, with_clears, with_item, with_items}
use Rattle.fjall_replay.proofs.Stepping.{emptied_until, put_until}

-- ---- one tree changed

pub altered_all : (P : Shape → Type 0) (id : ℕ) (change : Shape → Shape) (trees : Forest) → ((shape : Shape) → P shape → P (change shape))
    → All (λ k. P k.shape) trees → All (λ k. P k.shape) (altered_at id change trees)
altered_all P id change [] keeps all = All-nil (λ (k : Planted). P k.shape)
altered_all P id change (k ∷ trees) keeps all =
    All-cons (λ (j : Planted). P j.shape) (record { id = k.id; shape = cond (k.id == id) (change k.shape) k.shape }) (altered_at id change trees)
    (by (k.id == id) (All-head (λ (j : Planted). P j.shape) k trees all)) (altered_all P id change trees keeps (All-tail (λ (j : Planted). P j.shape) k trees all))
  where
    by : (b : Bool) → P k.shape → P (cond b (change k.shape) k.shape)
    by true is = keeps k.shape is
    by false is = is

pub altered_ids : (id : ℕ) (change : Shape → Shape) (trees : Forest) → ids_of (altered_at id change trees) ≡ ids_of trees
altered_ids id change [] = refl
altered_ids id change (k ∷ trees) = ap (λ (l : List ℕ). k.id ∷ l) (altered_ids id change trees)

-- ---- batches

-- what is so of a tree stays so after this version and that clear
abbrev pub KeepsPut : (Shape → Type 0) → Entry → Type 0
KeepsPut P v = (shape : Shape) → P shape → P (put v shape)

abbrev pub KeepsClear : (Shape → Type 0) → ℕ → Type 0
KeepsClear P n = (shape : Shape) → P shape → P (emptied_once n shape)

pub record Keeps (P : Shape → Type 0) (b : Shown) : Type 0 where
  pub puts : All (λ item. KeepsPut P (entry_of b.number item)) b.items
  pub clears : KeepsClear P b.number

items_all : (P : Shape → Type 0) (counted : ℕ → Bool) (n : ℕ) (items : List ReadBatchItem) (trees : Forest) → All (λ item. KeepsPut P (entry_of n item)) items
    → All (λ k. P k.shape) trees → All (λ k. P k.shape) (with_items counted n items trees)
items_all P counted n [] trees keeps all = all
items_all P counted n (item ∷ items) trees keeps all =
    by (counted item.keyspace_id) (items_all P counted n items trees (All-tail (λ i. KeepsPut P (entry_of n i)) item items keeps) all)
  where
    rest : Forest
    rest = with_items counted n items trees

    by : (c : Bool) → All (λ k. P k.shape) rest → All (λ k. P k.shape) (cond c (altered_at item.keyspace_id (put (entry_of n item)) rest) rest)
    by true more = altered_all P item.keyspace_id (put (entry_of n item)) rest (All-head (λ i. KeepsPut P (entry_of n i)) item items keeps) more
    by false more = more

clears_all : (P : Shape → Type 0) (counted : ℕ → Bool) (n : ℕ) (ids : List ℕ) (trees : Forest) → KeepsClear P n
    → All (λ k. P k.shape) trees → All (λ k. P k.shape) (with_clears counted n ids trees)
clears_all P counted n [] trees keeps all = all
clears_all P counted n (id ∷ ids) trees keeps all = clears_all P counted n ids (cond (counted id) (altered_at id (emptied_once n) trees) trees) keeps (by (counted id))
  where
    by : (c : Bool) → All (λ k. P k.shape) (cond c (altered_at id (emptied_once n) trees) trees)
    by true = altered_all P id (emptied_once n) trees keeps all
    by false = all

pub batch_all : (P : Shape → Type 0) (counted : ℕ → Bool) (b : Shown) (trees : Forest) → Keeps P b
    → All (λ k. P k.shape) trees → All (λ k. P k.shape) (with_batch counted b trees)
batch_all P counted b trees keeps all =
    items_all P counted b.number b.items (with_clears counted b.number b.clears trees) keeps.puts (clears_all P counted b.number b.clears trees keeps.clears all)

pub batches_all : (P : Shape → Type 0) (counted : ℕ → ℕ → Bool) (batches : List Shown) (trees : Forest) → All (Keeps P) batches
    → All (λ k. P k.shape) trees → All (λ k. P k.shape) (with_batches counted batches trees)
batches_all P counted [] trees keeps all = all
batches_all P counted (b ∷ batches) trees keeps all =
    batches_all P counted batches (with_batch (counted b.number) b trees) (All-tail (Keeps P) b batches keeps) (batch_all P (counted b.number) b trees (All-head (Keeps P) b batches keeps) all)

-- ---- ids

items_ids : (counted : ℕ → Bool) (n : ℕ) (items : List ReadBatchItem) (trees : Forest) → ids_of (with_items counted n items trees) ≡ ids_of trees
items_ids counted n [] trees = refl
items_ids counted n (item ∷ items) trees = by (counted item.keyspace_id) ∙ items_ids counted n items trees
  where
    rest : Forest
    rest = with_items counted n items trees

    by : (c : Bool) → ids_of (cond c (altered_at item.keyspace_id (put (entry_of n item)) rest) rest) ≡ ids_of rest
    by true = altered_ids item.keyspace_id (put (entry_of n item)) rest
    by false = refl

clears_ids : (counted : ℕ → Bool) (n : ℕ) (ids : List ℕ) (trees : Forest) → ids_of (with_clears counted n ids trees) ≡ ids_of trees
clears_ids counted n [] trees = refl
clears_ids counted n (id ∷ ids) trees = clears_ids counted n ids (cond (counted id) (altered_at id (emptied_once n) trees) trees) ∙ by (counted id)
  where
    by : (c : Bool) → ids_of (cond c (altered_at id (emptied_once n) trees) trees) ≡ ids_of trees
    by true = altered_ids id (emptied_once n) trees
    by false = refl

pub batches_ids : (counted : ℕ → ℕ → Bool) (batches : List Shown) (trees : Forest) → ids_of (with_batches counted batches trees) ≡ ids_of trees
batches_ids counted [] trees = refl
batches_ids counted (b ∷ batches) trees =
    batches_ids counted batches (with_batch (counted b.number) b trees)
    ∙ items_ids (counted b.number) b.number b.items (with_clears (counted b.number) b.number b.clears trees) ∙ clears_ids (counted b.number) b.number b.clears trees

-- ---- what they keep

pub keeps_before : (b : Shown) (bound : ℕ) → b.number < bound → Keeps (λ shape. shape.memory.active.until ≤ bound) b
keeps_before b bound low = record {
  puts = λ i d lt shape le. put_until (entry_of b.number (get_or b.items i d)) shape bound low le;
  clears = λ shape le. emptied_until b.number shape bound low le;
}

pub batches_before : (counted : ℕ → ℕ → Bool) (bound : ℕ) (batches : List Shown) (trees : Forest) → All (λ b. b.number < bound) batches → AreBefore bound trees
    → AreBefore bound (with_batches counted batches trees)
batches_before counted bound batches trees low =
    batches_all (λ shape. shape.memory.active.until ≤ bound) counted batches trees (All-weaker (λ b. b.number < bound) (Keeps (λ shape. shape.memory.active.until ≤ bound)) (λ b h. keeps_before b bound h) batches low)

-- ---- steps of the loops

-- of all items the last one is taken first
pub last_first : (counted : ℕ → Bool) (n : ℕ) (front : List ReadBatchItem) (item : ReadBatchItem) (trees : Forest)
    → with_items counted n (front ++ item ∷ []) trees ≡ with_items counted n front (with_item counted n item trees)
last_first counted n [] item trees = refl
last_first counted n (a ∷ front) item trees = ap (with_item counted n a) (last_first counted n front item trees)

-- and of all clears and batches the last one last
pub clear_last : (counted : ℕ → Bool) (n : ℕ) (front : List ℕ) (id : ℕ) (trees : Forest)
    → with_clears counted n (front ++ id ∷ []) trees ≡ with_clears counted n (id ∷ []) (with_clears counted n front trees)
clear_last counted n [] id trees = refl
clear_last counted n (a ∷ front) id trees = clear_last counted n front id (cond (counted a) (altered_at a (emptied_once n) trees) trees)

pub batch_last : (counted : ℕ → ℕ → Bool) (front : List Shown) (b : Shown) (trees : Forest)
    → with_batches counted (front ++ b ∷ []) trees ≡ with_batch (counted b.number) b (with_batches counted front trees)
batch_last counted [] b trees = refl
batch_last counted (a ∷ front) b trees = batch_last counted front b (with_batch (counted a.number) a trees)

-- a clear more
pub clear_step : (counted : ℕ → Bool) (n : ℕ) (ids : List ℕ) (i : ℕ) (trees old new : Forest) → i < length ids → old ≡ with_clears counted n (take i ids) trees
    → new ≡ cond (counted (get_or ids i 0)) (altered_at (get_or ids i 0) (emptied_once n) old) old → new ≡ with_clears counted n (take (i + 1) ids) trees
clear_step counted n ids i trees old new lt so_far one =
    one ∙ ap (λ (t : Forest). with_clears counted n (get_or ids i 0 ∷ []) t) so_far
    ∙ sym (clear_last counted n (take i ids) (get_or ids i 0) trees) ∙ ap (λ (l : List ℕ). with_clears counted n l trees) (sym (take-suc ids i 0 lt) ∙ ap (λ m. take m ids) (sym (add-one i)))

-- what is so of the trees under the test's answer
pub tested : (b c : Bool) (new changed old : Forest) → c ≡ b → new ≡ cond c changed old → new ≡ cond b changed old
tested b c new changed old same is = is ∙ ap (λ t. cond t changed old) same

pub all_but_last : {X : Type 0} (P : X → Type 0) (front : List X) (x : X) → All P (front ++ x ∷ []) → All P front
all_but_last P [] x all = All-nil P
all_but_last P (y ∷ front) x all = All-cons P y front (All-head P y (front ++ x ∷ []) all) (all_but_last P front x (All-tail P y (front ++ x ∷ []) all))

-- a batch more
pub batch_step : (counted : ℕ → ℕ → Bool) (batches : List Batch) (i : ℕ) (d : Batch) (trees old new : Forest) → i < length batches → old ≡ with_batches counted (map view (take i batches)) trees
    → new ≡ with_batch (counted (get_or batches i d).seqno) (view (get_or batches i d)) old → new ≡ with_batches counted (map view (take (i + 1) batches)) trees
batch_step counted batches i d trees old new lt so_far one =
    let b = get_or batches i d in
    one ∙ ap (with_batch (counted b.seqno) (view b)) so_far ∙ sym (batch_last counted (map view (take i batches)) (view b) trees)
    ∙ ap (λ (l : List Shown). with_batches counted l trees) (sym (map-append view (take i batches) (b ∷ [])) ∙ ap (map view) (sym (take-suc batches i d lt) ∙ ap (λ m. take m batches) (sym (add-one i))))
