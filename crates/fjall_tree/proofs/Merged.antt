-- A tree whose merge is finished.
use Rattle.std.proofs.Common.{◌≡◌, ℕ, zero, suc, ◌<◌, ◌≤◌, Bool, true, false, leb, ltb, List, [], ◌∷◌, ◌++◌, Some, length, get_or, take, drop, refl, sym, ap, subst, ◌∙◌, append_assoc, inl, inr, arith, if◌then◌else◌}
use Rattle.std.specs.List.{All, AllWithin}
use Rattle.std.specs.List.Sorted.{IsPartitionedBy}
use Rattle.std.proofs.lemmas.Bool.{cases_lt, leb-false, leb-true, le-leb, le-ltb, lt-ltb}
use Rattle.std.proofs.lemmas.List.{drop-append-le, take-append-drop, take_all}
use Rattle.std.proofs.lemmas.List.Elements.{All-append, All-filter, All-head, All-nil, All-cons, All-tail, All-weaker}
use Rattle.fjall_base.specs.Disk.{Meaning}
use Rattle.fjall_base.specs.Pairs.{Bytes}
use Rattle.fjall_table.specs.Blocks.{Entry}
use Rattle.fjall_memtable.specs.Jobs.{AreBelow, AreFrom, IsAbove, OnceEach, merged, merged_clears}
use Rattle.fjall_memtable.specs.Views.{value_at}
use Rattle.fjall_memtable.proofs.Merging.{a_merge_keeps_views}
use Rattle.fjall_memtable.proofs.Once.{parts_once}
use Rattle.fjall_memtable.specs.Sorted.{flat}
use Rattle.fjall_table_reader.specs.Readers.{AreRead, Reader}
use Rattle.fjall_memtable.specs.Parts.{AreApart, Ascends, IsHeld, Memory, clears_in, parts_of, versions_in}
use Rattle.fjall_memtable.proofs.PartBarriers.{ascends_at}
use Rattle.fjall_jobs.specs.declared.made_table.MadeTable.{MadeTable}
use Rattle.fjall_jobs.specs.Merges.{IsMerged}
use Rattle.fjall_jobs.specs.Tasks.{Task}
use Rattle.fjall_tree.specs.Trees.{IsShape, Merging, ReadsAll, Shape, clears_of, floor_of, versions_of}
use Rattle.fjall_tree.specs.Jobs.{IsFlushing, IsMerging, merge_finished, merge_of}
use Rattle.fjall_tree.proofs.Flushed.{behind_of, from_floor, front_of}
use Rattle.fjall_tree.proofs.Several.{all_same, flat_both, flat_parted, once_behind, once_front, ordered_once, read_both, read_dropped}

-- ---- clears that a watermark reaches

-- all are kept that it doesn't reach
all_kept : (w : ℕ) (xs : List ℕ) → AllWithin (λ y. leb y w ≡ false) xs 0 (length xs) → merged_clears w xs ≡ xs
all_kept w [] h = refl
all_kept w (x ∷ xs) h =
    let above = leb-false x w (h 0 x (omega arith) (omega arith)) in
    rw (lt-ltb w x above) (ap (λ (l : List ℕ). x ∷ l) (all_kept w xs (λ k d low high. h (suc k) d (omega arith) (omega arith))))

-- those that it reaches stand first, and go
first_reached : (w : ℕ) (xs : List ℕ) (k : ℕ) → AllWithin (λ y. leb y w ≡ true) xs 0 k → AllWithin (λ y. leb y w ≡ false) xs k (length xs) → k ≤ length xs → merged_clears w xs ≡ drop k xs
first_reached w xs zero low high le = all_kept w xs high
first_reached w [] (suc k) low high le = refl
first_reached w (x ∷ xs) (suc k) low high le =
    let below = leb-true x w (low 0 x (omega arith) (omega arith)) in
    rw (le-ltb w x below) (first_reached w xs k (λ j d from to. low (suc j) d (omega arith) (omega arith)) (λ j d from to. high (suc j) d (omega arith) (omega arith)) (omega (arith, le)))

-- where they ascend, those that it reaches stand first
pub reached_first : (w : ℕ) (xs : List ℕ) → Ascends xs → IsPartitionedBy (λ y. leb y w) xs
reached_first w xs up i j d le lt pass = elim (cases_lt i j) [
  | inl h ↦ let up' = ascends_at xs i j d up h lt in let low = leb-true (get_or xs j d) w pass in le-leb (get_or xs i d) w (omega (arith, up', low))
  | inr h ↦ let e : j ≡ i = omega (arith, le, h) in subst (λ (n : ℕ). leb (get_or xs n d) w ≡ true) e pass
]

pub ascends_taken : (n : ℕ) (xs : List ℕ) → Ascends xs → Ascends (take n xs)
ascends_taken zero xs up = tt
ascends_taken (suc n) [] up = tt
ascends_taken (suc n) (x ∷ xs) up = (taken n xs up.0, ascends_taken n xs up.1)
  where
    taken : (n : ℕ) (ys : List ℕ) → All (λ m. x < m) ys → All (λ m. x < m) (take n ys)
    taken zero ys all = All-nil (λ m. x < m)
    taken (suc n) [] all = All-nil (λ m. x < m)
    taken (suc n) (y ∷ ys) all = All-cons (λ m. x < m) y (take n ys) (All-head (λ m. x < m) y ys all) (taken n ys (All-tail (λ m. x < m) y ys all))

pub removed_reached : (w : ℕ) (xs : List ℕ) (n k : ℕ) → AllWithin (λ y. leb y w ≡ true) (take n xs) 0 k → AllWithin (λ y. leb y w ≡ false) (take n xs) k (length (take n xs)) → k ≤ length (take n xs)
    → drop k xs ≡ merged_clears w (take n xs) ++ drop n xs
removed_reached w xs n k low high le =
    ap (drop k) (sym (take-append-drop n xs)) ∙ drop-append-le k (take n xs) (drop n xs) le ∙ ap (λ (l : List ℕ). l ++ drop n xs) (sym (first_reached w (take n xs) k low high le))

kept_above : (P : ℕ → Type 0) (w n : ℕ) (xs : List ℕ) → All P xs → All P (merged_clears w (take n xs) ++ drop n xs)
kept_above P w n xs all =
    let both = subst (All P) (sym (take-append-drop n xs)) all in
    All-append P (merged_clears w (take n xs)) (drop n xs) (All-filter _ P (take n xs) (front_of P (take n xs) (drop n xs) both)) (behind_of P (take n xs) (drop n xs) both)

-- where the first ones are filtered, those left ascend as before
kept_ascends : (w n : ℕ) (xs : List ℕ) → Ascends xs → Ascends (merged_clears w (take n xs) ++ drop n xs)
kept_ascends w zero xs up = up
kept_ascends w (suc n) [] up = up
kept_ascends w (suc n) (x ∷ xs) up = by (ltb w x) (kept_ascends w n xs up.1)
  where
    by : (b : Bool) → Ascends (merged_clears w (take n xs) ++ drop n xs) → Ascends ((if b then x ∷ merged_clears w (take n xs) else merged_clears w (take n xs)) ++ drop n xs)
    by false more = more
    by true more = (kept_above (λ m. x < m) w n xs up.0, more)

pub shape_merged : (w n : ℕ) (clears : List ℕ) (memory : Memory) → IsShape clears memory → IsShape (merged_clears w (take n clears) ++ drop n clears) memory
shape_merged w n clears memory is = record { low = kept_above (λ m. m < floor_of memory) w n clears is.low; ascend = kept_ascends w n clears is.ascend }

-- ---- views

merging_clears : (shape : Shape) (entries : List (List Entry)) (task : Task) (is : IsMerging shape entries task)
    → clears_of shape ≡ task.clears ++ (drop is.out.clears shape.clears ++ clears_in (parts_of shape.memory))
merging_clears shape entries task is =
    let rest = clears_in (parts_of shape.memory) in
    ap (λ (l : List ℕ). l ++ rest) (sym (take-append-drop is.out.clears shape.clears) ∙ ap (λ (l : List ℕ). l ++ drop is.out.clears shape.clears) (sym is.clears)) ∙ append_assoc task.clears (drop is.out.clears shape.clears) rest

merged_left : (shape : Shape) (entries : List (List Entry)) (task : Task) (is : IsMerging shape entries task) (readers : List Reader)
    → clears_of (merge_finished readers is.out shape) ≡ merged_clears task.watermark task.clears ++ (drop is.out.clears shape.clears ++ clears_in (parts_of shape.memory))
merged_left shape entries task is readers =
    let rest = clears_in (parts_of shape.memory) in
    append_assoc (merged_clears is.out.watermark (take is.out.clears shape.clears)) (drop is.out.clears shape.clears) rest
    ∙ sym (λ i. merged_clears (is.watermark i) (is.clears i) ++ (drop is.out.clears shape.clears ++ rest))

merging_versions : (shape : Shape) (entries : List (List Entry)) (task : Task) (is : IsMerging shape entries task)
    → versions_of shape entries ≡ flat task.runs ++ (flat (drop is.out.tables entries) ++ versions_in (parts_of shape.memory))
merging_versions shape entries task is =
    let rest = versions_in (parts_of shape.memory) in
    ap (λ (l : List Entry). l ++ rest) (flat_parted is.out.tables entries ∙ ap (λ (l : List (List Entry)). flat l ++ flat (drop is.out.tables entries)) (sym is.runs))
    ∙ append_assoc (flat task.runs) (flat (drop is.out.tables entries)) rest

merged_versions : (shape : Shape) (lists rest : List (List Entry)) (out : Merging) (readers : List Reader)
    → versions_of (merge_finished readers out shape) (lists ++ rest) ≡ flat lists ++ (flat rest ++ versions_in (parts_of shape.memory))
merged_versions shape lists rest out readers =
    let memory = versions_in (parts_of shape.memory) in
    ap (λ (l : List Entry). l ++ memory) (flat_both lists rest) ∙ append_assoc (flat lists) (flat rest) memory

-- what came since the merge began is numbered from its bound on
came_since : (shape : Shape) (entries : List (List Entry)) (task : Task) (is : IsMerging shape entries task) → All IsHeld (parts_of shape.memory) → AreApart (parts_of shape.memory)
    → AreFrom is.out.bound (flat (drop is.out.tables entries) ++ versions_in (parts_of shape.memory))
came_since shape entries task is held apart =
    let above = is.floor in
    All-append (λ (v : Entry). is.out.bound ≤ v.number) (flat (drop is.out.tables entries)) (versions_in (parts_of shape.memory)) is.from
    (All-weaker (λ (v : Entry). floor_of shape.memory ≤ v.number) (λ (v : Entry). is.out.bound ≤ v.number) (λ v le. omega (arith, le, above)) (versions_in (parts_of shape.memory)) (from_floor shape.memory.sealed shape.memory.active held apart))

pub once_of : (entries : List (List Entry)) (n : ℕ) → OnceEach (flat entries) → OnceEach (flat (take n entries)) × OnceEach (flat (drop n entries))
once_of entries n once =
    let both = subst OnceEach (flat_parted n entries) once in
    (once_front (flat (take n entries)) (flat (drop n entries)) both, once_behind (flat (take n entries)) (flat (drop n entries)) both)

pub merged_view : (shape : Shape) (entries : List (List Entry)) (task : Task) (is : IsMerging shape entries task) → All IsHeld (parts_of shape.memory) → AreApart (parts_of shape.memory) → OnceEach (flat entries)
    → (target : ℕ) (tables : List MadeTable) (clears : List ℕ) (made : IsMerged target task tables clears) (readers : List Reader) (key : Bytes) (instant : ℕ) → IsAbove task.watermark instant
    → value_at key instant (clears_of (merge_finished readers is.out shape)) (versions_of (merge_finished readers is.out shape) (made.lists ++ drop is.out.tables entries)) ≡ value_at key instant (clears_of shape) (versions_of shape entries)
merged_view shape entries task is held apart once target tables clears made readers key instant above =
    let rest = drop is.out.clears shape.clears ++ clears_in (parts_of shape.memory) in
    let since = flat (drop is.out.tables entries) ++ versions_in (parts_of shape.memory) in
    let low = All-weaker (λ (n : ℕ). n < is.out.bound) (λ (n : ℕ). n ≤ is.out.bound) (λ n lt. omega (arith, lt)) task.clears is.clears_below in
    let input_once = subst (λ (rs : List (List Entry)). OnceEach (flat rs)) (sym is.runs) (once_of entries is.out.tables once).0 in
    (λ i. value_at key instant (merged_left shape entries task is readers i) (merged_versions shape made.lists (drop is.out.tables entries) is.out readers i))
    ∙ a_merge_keeps_views key instant task.watermark is.out.bound above task.clears rest (flat task.runs) (flat made.lists) since input_once made.kept is.below low (came_since shape entries task is held apart)
    ∙ sym (λ i. value_at key instant (merging_clears shape entries task is i) (merging_versions shape entries task is i))

-- ---- what the disk has

pub merged_read : (disk : Meaning) (shape : Shape) (entries : List (List Entry)) (task : Task) (is : IsMerging shape entries task)
    → (target : ℕ) (tables : List MadeTable) (clears : List ℕ) (made : IsMerged target task tables clears) (readers : List Reader) → ReadsAll disk shape entries → AreRead disk readers made.lists
    → ReadsAll disk (merge_finished readers is.out shape) (made.lists ++ drop is.out.tables entries)
merged_read disk shape entries task is target tables clears made readers r read =
    let floor = floor_of shape.memory in
    let rest = drop is.out.tables entries in
    let above = is.floor in
    let parted = flat_parted is.out.tables entries in
    let low = all_same (λ (v : Entry). v.number < is.out.bound) (flat made.lists) (merged task.watermark task.clears (flat task.runs)) made.kept (All-filter _ (λ (v : Entry). v.number < is.out.bound) (flat task.runs) is.below) in
    record {
      tables = read_both disk readers (drop is.out.tables shape.tables) made.lists rest read (read_dropped disk is.out.tables shape.tables entries r.tables);
      below = subst (AreBelow floor) (sym (flat_both made.lists rest))
          (All-append (λ (v : Entry). v.number < floor) (flat made.lists) (flat rest)
          (All-weaker (λ (v : Entry). v.number < is.out.bound) (λ (v : Entry). v.number < floor) (λ v lt. omega (arith, lt, above)) (flat made.lists) low)
          (behind_of (λ (v : Entry). v.number < floor) (flat (take is.out.tables entries)) (flat rest) (subst (AreBelow floor) parted r.below)));
      once = subst OnceEach (sym (flat_both made.lists rest)) (parts_once is.out.bound (flat made.lists) (flat rest) low is.from (ordered_once (flat made.lists) made.ordered) (once_of entries is.out.tables r.once).1);
    }

-- ---- a merge that was begun

drop_all : {X : Type 0} (n : ℕ) (xs : List X) → length xs ≤ n → drop n xs ≡ []
drop_all zero [] le = refl
drop_all (suc n) [] le = refl
drop_all zero (x ∷ xs) le = absurd (omega (arith, le))
drop_all (suc n) (x ∷ xs) le = drop_all n xs (omega (arith, le))

pub merge_is_out : (shape new : Shape) (entries : List (List Entry)) (id keyspace watermark tables clears bound : ℕ) (task : Task) → IsShape shape.clears shape.memory → AreBelow (floor_of shape.memory) (flat entries)
    → length shape.tables ≡ length entries → task ≡ merge_of id keyspace watermark entries shape.clears → tables ≡ length shape.tables → clears ≡ length shape.clears → bound ≡ floor_of shape.memory
    → new.merge ≡ Some (record { id = id; watermark = watermark; tables = tables; clears = clears; bound = bound }) → new.clears ≡ shape.clears → new.memory ≡ shape.memory → IsMerging new entries task
merge_is_out shape new entries id keyspace watermark tables clears bound task is low count told all all_clears floor out same memory =
    let runs : task.runs ≡ entries = λ i. (told i).runs in
    let task_clears : task.clears ≡ shape.clears = λ i. (told i).clears in
    let none : drop tables entries ≡ [] = drop_all tables entries (omega (arith, all, count)) in
    let n = ap length same in
    record {
      out = record { id = id; watermark = watermark; tables = tables; clears = clears; bound = bound };
      is = out;
      id = λ i. (told i).id;
      watermark = λ i. (told i).watermark;
      within = omega (arith, all, count);
      within_clears = omega (arith, all_clears, n);
      runs = runs ∙ sym (take_all tables entries (omega (arith, all, count)));
      clears = task_clears ∙ sym same ∙ sym (take_all clears new.clears (omega (arith, all_clears, n)));
      below = subst (λ (b : ℕ). AreBelow b (flat task.runs)) (sym floor) (subst (λ (rs : List (List Entry)). AreBelow (floor_of shape.memory) (flat rs)) (sym runs) low);
      clears_below = subst (λ (b : ℕ). All (λ m. m < b) task.clears) (sym floor) (subst (λ (cs : List ℕ). All (λ m. m < floor_of shape.memory) cs) (sym task_clears) is.low);
      from = subst (λ (rs : List (List Entry)). AreFrom bound (flat rs)) (sym none) (All-nil (λ (v : Entry). bound ≤ v.number));
      floor = omega (arith, floor, ap floor_of memory);
    }

-- ---- the other job

-- a flush that is out stays so
pub merged_flushing : (readers : List Reader) (out : Merging) (shape : Shape) (task : Task) → IsFlushing shape task → IsFlushing (merge_finished readers out shape) task
merged_flushing readers out shape task is = record { out = is.out; is = is.is; id = is.id; watermark = is.watermark; within = is.within; runs = is.runs; clears = is.clears }
