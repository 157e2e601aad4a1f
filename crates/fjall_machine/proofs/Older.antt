-- What tables hold is older than what is in memory, once a flush is finished too.
use Rattle.std.proofs.Common.{◌≡◌, ℕ, zero, suc, ◌<◌, ◌≤◌, List, [], ◌∷◌, ◌++◌, map, take, drop, sym, ap, subst, ◌∙◌, append_assoc, arith}
use Rattle.std.specs.List.{All, flat_map}
use Rattle.std.proofs.lemmas.List.{take-append-drop}
use Rattle.std.proofs.lemmas.List.Concat.{flat_map-append}
use Rattle.std.proofs.lemmas.List.Elements.{All-append, All-filter, All-head, All-tail, All-weaker}
use Rattle.fjall_table.specs.Blocks.{Entry}
use Rattle.fjall_memtable.specs.Jobs.{AreBelow, AreFrom, OnceEach, flushed}
use Rattle.fjall_memtable.proofs.Once.{parts_once}
use Rattle.fjall_memtable.specs.Sorted.{flat}
use Rattle.fjall_table_reader.specs.Readers.{Reader}
use Rattle.fjall_memtable.specs.Parts.{AreApart, HeldPart, IsHeld, parts_of, versions_in}
use Rattle.fjall_memtable.proofs.Apart.{apart_tail, numbers_below, versions_numbered}
use Rattle.fjall_jobs.proofs.Flushing.{flat_runs}
use Rattle.fjall_jobs.specs.declared.made_table.MadeTable.{MadeTable}
use Rattle.fjall_jobs.specs.Sequences.{AreMadeTables}
use Rattle.fjall_jobs.specs.Tasks.{IsFlushed, Task}
use Rattle.fjall_tree.specs.Trees.{Shape, first_from, floor_of}
use Rattle.fjall_tree.specs.Jobs.{IsFlushing, flush_finished}
use Rattle.fjall_tree.proofs.Flushed.{from_floor, front_of}
use Rattle.fjall_tree.proofs.Several.{all_same, flat_both, ordered_once}
use Rattle.fjall_trees.specs.Forests.{Forest, IsForest, IsTree, altered_at}
use Rattle.fjall_trees.specs.Tables.{entries_with, shape_in}
use Rattle.fjall_trees.proofs.Changing.{altered_keeps, tree_under}
use Rattle.fjall_trees.proofs.Outstanding.{flushing_tree}
use Rattle.fjall_trees.proofs.Places.{tree_has}
use Rattle.fjall_compaction.specs.Flushes.{flushed_infos}
use Rattle.fjall_trees.specs.MapTables.{AreOlder, IsOlder}

-- ---- memory

-- where the parts behind one begin
next_from : (h : HeldPart) (hs : List HeldPart) (last : HeldPart) → AreApart (h ∷ (hs ++ last ∷ [])) → h.until ≤ first_from hs last
next_from h [] last apart = apart.0
next_from h (k ∷ hs) last apart = apart.0

-- the floor doesn't fall
floor_rises : (count : ℕ) (sealed : List HeldPart) (active : HeldPart) → All IsHeld (sealed ++ active ∷ []) → AreApart (sealed ++ active ∷ []) → first_from sealed active ≤ first_from (drop count sealed) active
floor_rises zero sealed active held apart = omega arith
floor_rises (suc count) [] active held apart = omega arith
floor_rises (suc count) (h ∷ hs) active held apart =
    let bounds = (All-head IsHeld h (hs ++ active ∷ []) held).bounds in
    let next = next_from h hs active apart in
    let more = floor_rises count hs active (All-tail IsHeld h (hs ++ active ∷ []) held) (apart_tail h (hs ++ active ∷ []) apart) in
    omega (arith, bounds, next, more)

parts_parted : (count : ℕ) (sealed : List HeldPart) (active : HeldPart) → sealed ++ active ∷ [] ≡ take count sealed ++ (drop count sealed ++ active ∷ [])
parts_parted count sealed active = ap (λ (l : List HeldPart). l ++ active ∷ []) (sym (take-append-drop count sealed)) ∙ append_assoc (take count sealed) (drop count sealed) (active ∷ [])

-- the versions of the first parts lie below where the others begin
taken_below : (count : ℕ) (sealed : List HeldPart) (active : HeldPart) → All IsHeld (sealed ++ active ∷ []) → AreApart (sealed ++ active ∷ []) → AreBelow (first_from (drop count sealed) active) (versions_in (take count sealed))
taken_below count sealed active held apart = by (drop count sealed) (parts_parted count sealed active)
  where
    by : (left : List HeldPart) → sealed ++ active ∷ [] ≡ take count sealed ++ (left ++ active ∷ []) → AreBelow (first_from left active) (versions_in (take count sealed))
    by [] e = numbers_below (λ (h : HeldPart). h.versions) (λ (v : Entry). v.number) versions_numbered (take count sealed) [] active (subst (All IsHeld) e held) (subst AreApart e apart)
    by (k ∷ left) e = numbers_below (λ (h : HeldPart). h.versions) (λ (v : Entry). v.number) versions_numbered (take count sealed) (left ++ active ∷ []) k (subst (All IsHeld) e held) (subst AreApart e apart)

-- ---- one tree

module _ (shape : Shape) (task : Task) (is : IsFlushing shape task) (held : All IsHeld (parts_of shape.memory)) (apart : AreApart (parts_of shape.memory)) where
  input_is : flat task.runs ≡ versions_in (take is.out.count shape.memory.sealed)
  input_is = ap flat is.runs ∙ flat_runs (take is.out.count shape.memory.sealed)

  input_below : AreBelow (first_from (drop is.out.count shape.memory.sealed) shape.memory.active) (flat task.runs)
  input_below =
      let next = first_from (drop is.out.count shape.memory.sealed) shape.memory.active in
      subst (AreBelow next) (sym input_is) (taken_below is.out.count shape.memory.sealed shape.memory.active held apart)

  input_from : AreFrom (floor_of shape.memory) (flat task.runs)
  input_from =
      let memory = shape.memory in
      let count = is.out.count in
      let parted =
      ap (flat_map (λ (h : HeldPart). h.versions)) (parts_parted count memory.sealed memory.active) ∙ flat_map-append (λ (h : HeldPart). h.versions) (take count memory.sealed) (drop count memory.sealed ++ memory.active ∷ []) in
      let all = subst (AreFrom (floor_of memory)) parted (from_floor memory.sealed memory.active held apart) in
      subst (AreFrom (floor_of memory)) (sym input_is)
      (front_of (λ (v : Entry). floor_of memory ≤ v.number) (versions_in (take count memory.sealed)) (versions_in (drop count memory.sealed ++ memory.active ∷ [])) all)

  pub one_older : (entries : List (List Entry)) → IsOlder shape entries → (tables : List MadeTable) (clears : List ℕ) (made : IsFlushed task tables clears) (readers : List Reader)
      → IsOlder (flush_finished readers is.out shape) (entries ++ made.lists)
  one_older entries older tables clears made readers =
      let memory = shape.memory in
      let floor = first_from memory.sealed memory.active in
      let next = first_from (drop is.out.count memory.sealed) memory.active in
      let rise = floor_rises is.out.count memory.sealed memory.active held apart in
      let kept = All-filter _ (λ (v : Entry). v.number < next) (flat task.runs) input_below in
      let low = All-filter _ (λ (v : Entry). floor ≤ v.number) (flat task.runs) input_from in
      record {
        below = subst (AreBelow next) (sym (flat_both entries made.lists))
            (All-append (λ (v : Entry). v.number < next) (flat entries) (flat made.lists)
            (All-weaker (λ (v : Entry). v.number < floor) (λ (v : Entry). v.number < next) (λ v lt. omega (arith, lt, rise)) (flat entries) older.below)
            (all_same (λ (v : Entry). v.number < next) (flat made.lists) (flushed task.watermark task.clears (flat task.runs)) made.kept kept));
        once = subst OnceEach (sym (flat_both entries made.lists))
            (parts_once floor (flat entries) (flat made.lists) older.below
            (all_same (λ (v : Entry). floor ≤ v.number) (flat made.lists) (flushed task.watermark task.clears (flat task.runs)) made.kept low) older.once (ordered_once (flat made.lists) made.ordered));
      }

-- ---- all trees

pub finished_older : (entries : ℕ → List (List Entry)) (trees : Forest) → IsForest trees → AreOlder trees entries → (id : ℕ) (task : Task) (is : IsFlushing (shape_in id trees) task)
    → (tables : List MadeTable) (clears : List ℕ) (made : IsFlushed task tables clears) (readers : List Reader)
    → AreOlder (altered_at id (flush_finished readers is.out) trees) (entries_with id (entries id ++ made.lists) entries)
finished_older entries trees forest older id task is tables clears made readers =
    let shape = shape_in id trees in
    let has = flushing_tree id trees task is in
    let tree = tree_has IsTree trees id shape forest.each has in
    let old = tree_under (λ k. IsOlder k.shape (entries k.id)) trees id shape older has in
    altered_keeps IsOlder trees entries older forest id shape has (flush_finished readers is.out) (entries id ++ made.lists) (one_older shape task is tree.held tree.apart (entries id) old tables clears made readers)

-- where no reader of a made table comes, no table was made
pub none_made : (next : ℕ) (tables : List MadeTable) (readers : List Reader) → map (λ t. t.info) readers ≡ flushed_infos next tables → readers ≡ [] → tables ≡ []
none_made next [] readers infos none = let same : next ≡ next = omega arith in cc
none_made next (t ∷ tables) readers infos none = let bad : ⊥ = cc in absurd bad

pub none_listed : (tables : List MadeTable) (lists : List (List Entry)) → AreMadeTables tables lists → tables ≡ [] → lists ≡ []
none_listed [] [] made none = cc
none_listed [] (l ∷ lists) made none = absurd made
none_listed (t ∷ tables) lists made none = let bad : ⊥ = cc in absurd bad

pub both_none : {X : Type 0} (xs ys : List X) → xs ++ ys ≡ [] → (xs ≡ []) × (ys ≡ [])
both_none [] ys none = (cc, none)
both_none (x ∷ xs) ys none = let bad : ⊥ = cc in absurd bad

pub both_empty : {X : Type 0} (xs ys : List X) → xs ≡ [] → ys ≡ [] → xs ++ ys ≡ []
both_empty [] ys none also = also
both_empty (x ∷ xs) ys none also = let bad : ⊥ = cc in absurd bad

-- a keyspace without a table has none then
pub finished_none : (entries : ℕ → List (List Entry)) (trees : Forest) → IsForest trees → All (λ k. k.shape.tables ≡ [] → entries k.id ≡ []) trees → (id : ℕ) (task : Task) (is : IsFlushing (shape_in id trees) task)
    → (tables : List MadeTable) (clears : List ℕ) (made : IsFlushed task tables clears) (readers : List Reader) (next : ℕ) → map (λ t. t.info) readers ≡ flushed_infos next tables
    → All (λ k. k.shape.tables ≡ [] → entries_with id (entries id ++ made.lists) entries k.id ≡ []) (altered_at id (flush_finished readers is.out) trees)
finished_none entries trees forest none id task is tables clears made readers next infos =
    let shape = shape_in id trees in
    let has = flushing_tree id trees task is in
    let old = tree_under (λ k. k.shape.tables ≡ [] → entries k.id ≡ []) trees id shape none has in
    altered_keeps (λ s es. s.tables ≡ [] → es ≡ []) trees entries none forest id shape has (flush_finished readers is.out) (entries id ++ made.lists)
    (λ bare. let both = both_none shape.tables readers bare in both_empty (entries id) made.lists (old both.0) (none_listed tables made.lists made.made (none_made next tables readers infos both.1)))
