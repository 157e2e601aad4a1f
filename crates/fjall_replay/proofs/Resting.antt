-- What batches keep of each tree under its id, and that they change nothing but active memtables.
use Rattle.std.proofs.Common.{◌≡◌, ℕ, ◌+◌, ◌<◌, ◌≤◌, ◌==◌, max, nat_le, Bool, true, false, cond, List, [], ◌∷◌, None, Some, get_or, refl, sym, ◌∙◌, ap, subst, arith}
use Rattle.std.specs.List.{All, list_any}
use Rattle.std.proofs.lemmas.List.Elements.{All-cons, All-head, All-nil, All-tail}
use Rattle.fjall_base.specs.Disk.{Meaning}
use Rattle.fjall_journal.specs.declared.batch.ReadBatchItem.{ReadBatchItem}
use Rattle.fjall_journal.specs.Batches.{Shown}
use Rattle.fjall_table.specs.Blocks.{Entry}
use Rattle.fjall_memtable.specs.Parts.{empty_from}
use Rattle.fjall_meta.specs.declared.recovery.Persisted.{Persisted}
use Rattle.fjall_meta.specs.Replays.{fault_of, first_fault, least_after, persisted_at}
use Rattle.fjall_meta.specs.Views.{entry_of}
use Rattle.fjall_meta.proofs.Viewing.{no_fault, number_fits}
use Rattle.fjall_tree.specs.Puts.{emptied_once, put}
use Rattle.fjall_tree.specs.Trees.{ReadsAll, Shape, emptied, floor_of}
use Rattle.fjall_tree.proofs.Changes.{emptied_read, first_same, written_read}
use Rattle.fjall_trees.specs.Forests.{Forest, Planted, altered_at, tree_at}
use Rattle.fjall_trees.specs.Tables.{AreReadOn}
use Rattle.fjall_trees.proofs.Changing.{put_has, tree_under}
use Rattle.fjall_replay.specs.Beside.{AreEndedBy, BeginBy, all_at_rest, at_rest}
use Rattle.fjall_replay.specs.Replayed.{past}
use Rattle.fjall_replay.specs.Steps.{with_batch, with_batches, with_clears, with_item, with_items}
use Rattle.fjall_replay.proofs.Putting.{put_from}
use Rattle.fjall_replay.proofs.Stepping.{emptied_from, emptied_until, put_until}

-- ---- what is kept of each tree

each_altered : (P : ℕ → Shape → Type 0) (id : ℕ) (change : Shape → Shape) (trees : Forest) → ((k : ℕ) (shape : Shape) → P k shape → P k (change shape))
    → All (λ k. P k.id k.shape) trees → All (λ k. P k.id k.shape) (altered_at id change trees)
each_altered P id change [] keeps all = All-nil (λ (k : Planted). P k.id k.shape)
each_altered P id change (k ∷ trees) keeps all =
    All-cons (λ (j : Planted). P j.id j.shape) (record { id = k.id; shape = cond (k.id == id) (change k.shape) k.shape }) (altered_at id change trees)
    (by (k.id == id) (All-head (λ (j : Planted). P j.id j.shape) k trees all)) (each_altered P id change trees keeps (All-tail (λ (j : Planted). P j.id j.shape) k trees all))
  where
    by : (b : Bool) → P k.id k.shape → P k.id (cond b (change k.shape) k.shape)
    by true is = keeps k.id k.shape is
    by false is = is

-- what is so of a tree stays so after the version that an item makes, and after the batch's clear
abbrev pub KeepsItem : (ℕ → Shape → Type 0) → ℕ → ReadBatchItem → Type 0
KeepsItem P number item = (id : ℕ) (shape : Shape) → P id shape → P id (put (entry_of number item) shape)

pub record KeepsEach (P : ℕ → Shape → Type 0) (b : Shown) : Type 0 where
  pub puts : All (KeepsItem P b.number) b.items
  pub clears : (id : ℕ) (shape : Shape) → P id shape → P id (emptied_once b.number shape)

each_items : (P : ℕ → Shape → Type 0) (counted : ℕ → Bool) (n : ℕ) (items : List ReadBatchItem) (trees : Forest) → All (KeepsItem P n) items
    → All (λ k. P k.id k.shape) trees → All (λ k. P k.id k.shape) (with_items counted n items trees)
each_items P counted n [] trees keeps all = all
each_items P counted n (item ∷ items) trees keeps all =
    by (counted item.keyspace_id) (each_items P counted n items trees (All-tail (KeepsItem P n) item items keeps) all)
  where
    rest : Forest
    rest = with_items counted n items trees

    by : (c : Bool) → All (λ k. P k.id k.shape) rest → All (λ k. P k.id k.shape) (cond c (altered_at item.keyspace_id (put (entry_of n item)) rest) rest)
    by true more = each_altered P item.keyspace_id (put (entry_of n item)) rest (All-head (KeepsItem P n) item items keeps) more
    by false more = more

each_clears : (P : ℕ → Shape → Type 0) (counted : ℕ → Bool) (n : ℕ) (ids : List ℕ) (trees : Forest) → ((id : ℕ) (shape : Shape) → P id shape → P id (emptied_once n shape))
    → All (λ k. P k.id k.shape) trees → All (λ k. P k.id k.shape) (with_clears counted n ids trees)
each_clears P counted n [] trees keeps all = all
each_clears P counted n (id ∷ ids) trees keeps all = each_clears P counted n ids (cond (counted id) (altered_at id (emptied_once n) trees) trees) keeps (by (counted id))
  where
    by : (c : Bool) → All (λ k. P k.id k.shape) (cond c (altered_at id (emptied_once n) trees) trees)
    by true = each_altered P id (emptied_once n) trees keeps all
    by false = all

pub each_batch : (P : ℕ → Shape → Type 0) (counted : ℕ → Bool) (b : Shown) (trees : Forest) → KeepsEach P b
    → All (λ k. P k.id k.shape) trees → All (λ k. P k.id k.shape) (with_batch counted b trees)
each_batch P counted b trees keeps all =
    each_items P counted b.number b.items (with_clears counted b.number b.clears trees) keeps.puts (each_clears P counted b.number b.clears trees keeps.clears all)

pub each_batches : (P : ℕ → Shape → Type 0) (counted : ℕ → ℕ → Bool) (batches : List Shown) (trees : Forest) → All (KeepsEach P) batches
    → All (λ k. P k.id k.shape) trees → All (λ k. P k.id k.shape) (with_batches counted batches trees)
each_batches P counted [] trees keeps all = all
each_batches P counted (b ∷ batches) trees keeps all =
    each_batches P counted batches (with_batch (counted b.number) b trees) (All-tail (KeepsEach P) b batches keeps)
    (each_batch P (counted b.number) b trees (All-head (KeepsEach P) b batches keeps) all)

-- ---- where memory begins

keeps_begin : (counted : ℕ → Bool) (n : ℕ) (b : Shown) → KeepsEach (λ id shape. counted id ≡ true → shape.memory.active.from ≤ n) b
keeps_begin counted n b = record {
  puts = λ i d lt id shape from counts. subst (λ m. m ≤ n) (sym (put_from (entry_of b.number (get_or b.items i d)) shape)) (from counts);
  clears = λ id shape from counts. subst (λ m. m ≤ n) (sym (emptied_from b.number shape)) (from counts);
}

pub batches_begin : (test : ℕ → Bool) (n : ℕ) (counted : ℕ → ℕ → Bool) (batches : List Shown) (trees : Forest) → BeginBy test n trees → BeginBy test n (with_batches counted batches trees)
batches_begin test n counted batches trees = each_batches (λ id shape. test id ≡ true → shape.memory.active.from ≤ n) counted batches trees (λ i d lt. keeps_begin test n (get_or batches i d))

pub item_begin : (test counted : ℕ → Bool) (n m : ℕ) (item : ReadBatchItem) (trees : Forest) → BeginBy test n trees → BeginBy test n (with_item counted m item trees)
item_begin test counted n m item trees all =
    each_items (λ id shape. test id ≡ true → shape.memory.active.from ≤ n) counted m (item ∷ []) trees
    (All-cons (KeepsItem (λ id shape. test id ≡ true → shape.memory.active.from ≤ n) m) item []
    (λ id shape from counts. subst (λ k. k ≤ n) (sym (put_from (entry_of m item) shape)) (from counts)) (All-nil (KeepsItem (λ id shape. test id ≡ true → shape.memory.active.from ≤ n) m))) all

pub clears_begin : (test counted : ℕ → Bool) (n m : ℕ) (ids : List ℕ) (trees : Forest) → BeginBy test n trees → BeginBy test n (with_clears counted m ids trees)
clears_begin test counted n m ids trees =
    each_clears (λ id shape. test id ≡ true → shape.memory.active.from ≤ n) counted m ids trees
    (λ id shape from counts. subst (λ k. k ≤ n) (sym (emptied_from m shape)) (from counts))

-- so the tree of a keyspace for which it counts begins there or before
pub begin_at : (counted : ℕ → Bool) (n : ℕ) (trees : Forest) (id : ℕ) (shape : Shape) → BeginBy counted n trees → tree_at id trees ≡ Some shape → counted id ≡ true → shape.memory.active.from ≤ n
begin_at counted n trees id shape all at = tree_under (λ k. counted k.id ≡ true → k.shape.memory.active.from ≤ n) trees id shape all at

-- ---- where it ends

keeps_end : (persisted : List Persisted) (least : ℕ) (b : Shown) → b.number < least → KeepsEach (λ id shape. shape.memory.active.until ≤ max (past (persisted_at id persisted)) least) b
keeps_end persisted least b low = record {
  puts = λ i d lt id shape le. put_until (entry_of b.number (get_or b.items i d)) shape (max (past (persisted_at id persisted)) least) (omega arith) le;
  clears = λ id shape le. emptied_until b.number shape (max (past (persisted_at id persisted)) least) (omega arith) le;
}

pub batch_end : (persisted : List Persisted) (least : ℕ) (counted : ℕ → Bool) (b : Shown) (trees : Forest) → least ≤ b.number → AreEndedBy persisted least trees
    → AreEndedBy persisted (b.number + 1) (with_batch counted b trees)
batch_end persisted least counted b trees from ended =
    each_batch (λ id shape. shape.memory.active.until ≤ max (past (persisted_at id persisted)) (b.number + 1)) counted b trees (keeps_end persisted (b.number + 1) b (omega arith))
    (λ i d lt. let le = ended i d lt in omega (arith, le))

pub batches_end : (persisted : List Persisted) (least : ℕ) (counted : ℕ → ℕ → Bool) (batches : List Shown) (trees : Forest) → first_fault least batches ≡ None → AreEndedBy persisted least trees
    → AreEndedBy persisted (least_after least batches) (with_batches counted batches trees)
batches_end persisted least counted [] trees sound ended = ended
batches_end persisted least counted (b ∷ batches) trees sound ended =
    let parts = no_fault (fault_of least b) (first_fault (b.number + 1) batches) sound in
    let from = (number_fits least b parts.0).0 in
    batches_end persisted (b.number + 1) counted batches (with_batch (counted b.number) b trees) parts.1 (batch_end persisted least (counted b.number) b trees from ended)

-- ---- what tables hold

put_read : (disk : Meaning) (entries : List (List Entry)) (v : Entry) (shape : Shape) → ReadsAll disk shape entries → ReadsAll disk (put v shape) entries
put_read disk entries v shape r = put_has (λ s. ReadsAll disk s entries) v shape (λ e. r) (λ e. written_read disk shape entries v r)

emptied_once_read : (disk : Meaning) (entries : List (List Entry)) (n : ℕ) (shape : Shape) → ReadsAll disk shape entries → ReadsAll disk (emptied_once n shape) entries
unfolding emptied_once
emptied_once_read disk entries n shape r = by (list_any (λ m. nat_le n m) shape.memory.active.clears)
  where
    by : (b : Bool) → ReadsAll disk (cond b shape (emptied n shape)) entries
    by true = r
    by false = emptied_read disk shape entries n r

pub batches_read : (disk : Meaning) (entries : ℕ → List (List Entry)) (counted : ℕ → ℕ → Bool) (batches : List Shown) (trees : Forest) → AreReadOn disk trees entries
    → AreReadOn disk (with_batches counted batches trees) entries
batches_read disk entries counted batches trees =
    each_batches (λ id shape. ReadsAll disk shape (entries id)) counted batches trees
    (λ i d lt. let b = get_or batches i d in record {
      puts = λ j e less id shape r. put_read disk (entries id) (entry_of b.number (get_or b.items j e)) shape r;
      clears = λ id shape r. emptied_once_read disk (entries id) b.number shape r;
    })

-- ---- nothing else

pub put_rests : (v : Entry) (shape : Shape) → at_rest (put v shape) ≡ at_rest shape
put_rests v shape = put_has (λ s. at_rest s ≡ at_rest shape) v shape (λ e. refl) (λ e. refl)

pub emptied_rests : (n : ℕ) (shape : Shape) → at_rest (emptied_once n shape) ≡ at_rest shape
unfolding emptied_once
emptied_rests n shape = by (list_any (λ m. nat_le n m) shape.memory.active.clears)
  where
    by : (b : Bool) → at_rest (cond b shape (emptied n shape)) ≡ at_rest shape
    by true = refl
    by false = refl

altered_rests : (id : ℕ) (change : Shape → Shape) (trees : Forest) → ((shape : Shape) → at_rest (change shape) ≡ at_rest shape) → all_at_rest (altered_at id change trees) ≡ all_at_rest trees
altered_rests id change [] same = refl
altered_rests id change (k ∷ trees) same = λ i. (let j : Planted = record { id = k.id; shape = by (k.id == id) i } in j) ∷ altered_rests id change trees same i
  where
    by : (b : Bool) → at_rest (cond b (change k.shape) k.shape) ≡ at_rest k.shape
    by true = same k.shape
    by false = refl

items_rest : (counted : ℕ → Bool) (n : ℕ) (items : List ReadBatchItem) (trees : Forest) → all_at_rest (with_items counted n items trees) ≡ all_at_rest trees
items_rest counted n [] trees = refl
items_rest counted n (item ∷ items) trees = by (counted item.keyspace_id) ∙ items_rest counted n items trees
  where
    rest : Forest
    rest = with_items counted n items trees

    by : (c : Bool) → all_at_rest (cond c (altered_at item.keyspace_id (put (entry_of n item)) rest) rest) ≡ all_at_rest rest
    by true = altered_rests item.keyspace_id (put (entry_of n item)) rest (put_rests (entry_of n item))
    by false = refl

clears_rest : (counted : ℕ → Bool) (n : ℕ) (ids : List ℕ) (trees : Forest) → all_at_rest (with_clears counted n ids trees) ≡ all_at_rest trees
clears_rest counted n [] trees = refl
clears_rest counted n (id ∷ ids) trees = clears_rest counted n ids (cond (counted id) (altered_at id (emptied_once n) trees) trees) ∙ by (counted id)
  where
    by : (c : Bool) → all_at_rest (cond c (altered_at id (emptied_once n) trees) trees) ≡ all_at_rest trees
    by true = altered_rests id (emptied_once n) trees (emptied_rests n)
    by false = refl

pub batches_rest : (counted : ℕ → ℕ → Bool) (batches : List Shown) (trees : Forest) → all_at_rest (with_batches counted batches trees) ≡ all_at_rest trees
batches_rest counted [] trees = refl
batches_rest counted (b ∷ batches) trees =
    batches_rest counted batches (with_batch (counted b.number) b trees)
    ∙ items_rest (counted b.number) b.number b.items (with_clears (counted b.number) b.number b.clears trees) ∙ clears_rest (counted b.number) b.number b.clears trees

-- so where memory begins stays
pub floor_at_rest : (shape : Shape) → floor_of (at_rest shape).memory ≡ floor_of shape.memory
floor_at_rest shape = first_same shape.memory.sealed shape.memory.active (empty_from shape.memory.active.from) refl

pub same_floor : (old new : Shape) → at_rest new ≡ at_rest old → floor_of new.memory ≡ floor_of old.memory
same_floor old new same = sym (floor_at_rest new) ∙ ap (λ (s : Shape). floor_of s.memory) same ∙ floor_at_rest old
