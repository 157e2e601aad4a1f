-- A tree whose flush is finished.
use Rattle.std.proofs.Common.{◌≡◌, ℕ, zero, suc, ◌<◌, ◌≤◌, List, [], ◌∷◌, ◌++◌, length, get_or, take, drop, refl, sym, ap, subst, ◌∙◌, append_assoc, arith}
use Rattle.std.proofs.Math.Logic.{∥∥₁_elim}
use Rattle.std.proofs.Props.{props}
use Rattle.std.specs.List.{All, flat_map}
use Rattle.std.proofs.lemmas.List.{append-nil, drop-append-le, length-append, take-append-drop, take-append-le}
use Rattle.std.proofs.lemmas.List.Concat.{flat_map-append}
use Rattle.std.proofs.lemmas.List.Elements.{All-append, All-cons, All-head, All-nil, All-filter, All-tail, All-weaker}
use Rattle.fjall_base.specs.Disk.{Meaning}
use Rattle.fjall_base.specs.Pairs.{Bytes}
use Rattle.fjall_table.specs.Blocks.{Entry}
use Rattle.fjall_memtable.specs.Jobs.{AreBelow, AreFrom, IsAbove, OnceEach, flushed}
use Rattle.fjall_memtable.specs.Views.{value_at}
use Rattle.fjall_memtable.proofs.Hiding.{a_flush_keeps_views}
use Rattle.fjall_memtable.proofs.Once.{parts_once}
use Rattle.fjall_memtable.specs.Sorted.{flat}
use Rattle.fjall_table_reader.specs.Readers.{AreRead, Reader}
use Rattle.fjall_memtable.specs.Parts.{AreApart, Ascends, HeldPart, IsHeld, Memory, clears_in, parts_of, versions_in}
use Rattle.fjall_memtable.proofs.Apart.{apart_front, apart_tail, from_first, numbers_below, versions_numbered}
use Rattle.fjall_memtable.proofs.Onces.{once_in}
use Rattle.fjall_jobs.proofs.Flushing.{flat_runs}
use Rattle.fjall_jobs.specs.declared.made_table.MadeTable.{MadeTable}
use Rattle.fjall_jobs.specs.Tasks.{IsFlushed, Task}
use Rattle.fjall_tree.specs.Trees.{IsShape, ReadsAll, Shape, clears_of, first_from, floor_of, versions_of}
use Rattle.fjall_tree.specs.Jobs.{IsFlushing, IsMerging, flush_finished, without_sealed}
use Rattle.fjall_tree.proofs.Several.{all_same, flat_both, ordered_once, read_both}

-- ---- the clears of the record

ascends_both : (bound : ℕ) (xs ys : List ℕ) → Ascends xs → Ascends ys → All (λ x. x < bound) xs → All (λ y. bound ≤ y) ys → Ascends (xs ++ ys)
ascends_both bound [] ys up also low high = also
ascends_both bound (x ∷ xs) ys up also low high =
    let here = All-head (λ (n : ℕ). n < bound) x xs low in (
      All-append (λ (m : ℕ). x < m) xs ys up.0 (All-weaker (λ (y : ℕ). bound ≤ y) (λ (y : ℕ). x < y) (λ y le. omega (arith, here, le)) ys high),
      ascends_both bound xs ys up.1 also (All-tail (λ (n : ℕ). n < bound) x xs low) high,
    )

-- where the parts behind one begin
next_from : (h : HeldPart) (hs : List HeldPart) (last : HeldPart) → AreApart (h ∷ (hs ++ last ∷ [])) → h.until ≤ first_from hs last
next_from h [] last apart = apart.0
next_from h (k ∷ hs) last apart = apart.0

-- where the parts behind so many begin
pub from_behind : (n : ℕ) (sealed : List HeldPart) (active h : HeldPart) → n < length sealed → first_from (drop n sealed) active ≡ (get_or sealed n h).from
from_behind n [] active h lt = absurd (omega arith)
from_behind zero (part ∷ sealed) active h lt = refl
from_behind (suc n) (part ∷ sealed) active h lt = from_behind n sealed active h (omega arith)

-- the clears of the oldest part come into the record
one_flushed : (clears : List ℕ) (h : HeldPart) (hs : List HeldPart) (active : HeldPart) → IsHeld h → AreApart (h ∷ (hs ++ active ∷ [])) → IsShape clears (record { sealed = h ∷ hs; active = active })
    → IsShape (clears ++ h.clears) (record { sealed = hs; active = active })
one_flushed clears h hs active held apart is =
    let next = next_from h hs active apart in
    let bounds = held.bounds in
    let low = is.low in
    record {
      low = All-append (λ (n : ℕ). n < first_from hs active) clears h.clears
          (All-weaker (λ (n : ℕ). n < h.from) (λ (n : ℕ). n < first_from hs active) (λ n lt. omega (arith, lt, bounds, next)) clears low)
          (All-weaker (λ (n : ℕ). n < h.until) (λ (n : ℕ). n < first_from hs active) (λ n lt. omega (arith, lt, next)) h.clears held.high_clears);
      ascend = ascends_both h.from clears h.clears is.ascend held.ascend low held.low_clears;
    }

-- and those of the oldest ones
pub shape_flushed : (count : ℕ) (clears : List ℕ) (sealed : List HeldPart) (active : HeldPart) → All IsHeld (sealed ++ active ∷ []) → AreApart (sealed ++ active ∷ []) → IsShape clears (record { sealed = sealed; active = active })
    → IsShape (clears ++ clears_in (take count sealed)) (record { sealed = drop count sealed; active = active })
shape_flushed zero clears sealed active held apart is = subst (λ (l : List ℕ). IsShape l (record { sealed = sealed; active = active })) (sym (append-nil clears)) is
shape_flushed (suc count) clears [] active held apart is = subst (λ (l : List ℕ). IsShape l (record { sealed = []; active = active })) (sym (append-nil clears)) is
shape_flushed (suc count) clears (h ∷ hs) active held apart is =
    let one = one_flushed clears h hs active (All-head IsHeld h (hs ++ active ∷ []) held) apart is in
    let more = shape_flushed count (clears ++ h.clears) hs active (All-tail IsHeld h (hs ++ active ∷ []) held) (apart_tail h (hs ++ active ∷ []) apart) one in
    subst (λ (l : List ℕ). IsShape l (record { sealed = drop count hs; active = active })) (append_assoc clears h.clears (clears_in (take count hs))) more

-- ---- what is in memory

parts_parted : (count : ℕ) (sealed : List HeldPart) (active : HeldPart) → sealed ++ active ∷ [] ≡ take count sealed ++ (drop count sealed ++ active ∷ [])
parts_parted count sealed active = ap (λ (l : List HeldPart). l ++ active ∷ []) (sym (take-append-drop count sealed)) ∙ append_assoc (take count sealed) (drop count sealed) (active ∷ [])

listed_parted : {X : Type 0} (list : HeldPart → List X) (count : ℕ) (sealed : List HeldPart) (active : HeldPart)
    → flat_map list (sealed ++ active ∷ []) ≡ flat_map list (take count sealed) ++ flat_map list (drop count sealed ++ active ∷ [])
listed_parted list count sealed active = ap (flat_map list) (parts_parted count sealed active) ∙ flat_map-append list (take count sealed) (drop count sealed ++ active ∷ [])

-- the floor doesn't fall
floor_flushed : (count : ℕ) (sealed : List HeldPart) (active : HeldPart) → All IsHeld (sealed ++ active ∷ []) → AreApart (sealed ++ active ∷ []) → first_from sealed active ≤ first_from (drop count sealed) active
floor_flushed zero sealed active held apart = omega arith
floor_flushed (suc count) [] active held apart = omega arith
floor_flushed (suc count) (h ∷ hs) active held apart =
    let bounds = (All-head IsHeld h (hs ++ active ∷ []) held).bounds in
    let next = next_from h hs active apart in
    let more = floor_flushed count hs active (All-tail IsHeld h (hs ++ active ∷ []) held) (apart_tail h (hs ++ active ∷ []) apart) in
    omega (arith, bounds, next, more)

-- the flushed parts' versions lie below the new floor, and all versions in memory lie above the old one
below_floor : (count : ℕ) (sealed : List HeldPart) (active : HeldPart) → All IsHeld (sealed ++ active ∷ []) → AreApart (sealed ++ active ∷ []) → AreBelow (first_from (drop count sealed) active) (versions_in (take count sealed))
below_floor count sealed active held apart = by (drop count sealed) (parts_parted count sealed active)
  where
    by : (left : List HeldPart) → sealed ++ active ∷ [] ≡ take count sealed ++ (left ++ active ∷ []) → AreBelow (first_from left active) (versions_in (take count sealed))
    by [] e = numbers_below (λ (h : HeldPart). h.versions) (λ (v : Entry). v.number) versions_numbered (take count sealed) [] active (subst (All IsHeld) e held) (subst AreApart e apart)
    by (k ∷ left) e = numbers_below (λ (h : HeldPart). h.versions) (λ (v : Entry). v.number) versions_numbered (take count sealed) (left ++ active ∷ []) k (subst (All IsHeld) e held) (subst AreApart e apart)

pub from_floor : (sealed : List HeldPart) (active : HeldPart) → All IsHeld (sealed ++ active ∷ []) → AreApart (sealed ++ active ∷ []) → AreFrom (first_from sealed active) (versions_in (sealed ++ active ∷ []))
from_floor [] active held apart = from_first (λ (h : HeldPart). h.versions) (λ (v : Entry). v.number) versions_numbered active [] held apart
from_floor (h ∷ sealed) active held apart = from_first (λ (h : HeldPart). h.versions) (λ (v : Entry). v.number) versions_numbered h (sealed ++ active ∷ []) held apart

-- ---- what the task was

pub front_of : {X : Type 0} (P : X → Type 0) (xs ys : List X) → All P (xs ++ ys) → All P xs
front_of P [] ys all = All-nil P
front_of P (x ∷ xs) ys all = All-cons P x xs (All-head P x (xs ++ ys) all) (front_of P xs ys (All-tail P x (xs ++ ys) all))

pub behind_of : {X : Type 0} (P : X → Type 0) (xs ys : List X) → All P (xs ++ ys) → All P ys
behind_of P [] ys all = all
behind_of P (x ∷ xs) ys all = behind_of P xs ys (All-tail P x (xs ++ ys) all)

input_is : (shape : Shape) (task : Task) (is : IsFlushing shape task) → flat task.runs ≡ versions_in (take is.out.count shape.memory.sealed)
input_is shape task is = ap flat is.runs ∙ flat_runs (take is.out.count shape.memory.sealed)

input_once : (shape : Shape) (task : Task) → IsFlushing shape task → All IsHeld (parts_of shape.memory) → AreApart (parts_of shape.memory) → OnceEach (flat task.runs)
input_once shape task is held apart =
    let taken = take is.out.count shape.memory.sealed in
    let behind = drop is.out.count shape.memory.sealed ++ shape.memory.active ∷ [] in
    let line = parts_parted is.out.count shape.memory.sealed shape.memory.active in
    subst OnceEach (sym (input_is shape task is)) (once_in taken (front_of IsHeld taken behind (subst (All IsHeld) line held)) (apart_front taken behind (subst AreApart line apart)))

-- the input's versions lie above the old floor
input_from : (shape : Shape) (task : Task) → IsFlushing shape task → All IsHeld (parts_of shape.memory) → AreApart (parts_of shape.memory) → AreFrom (floor_of shape.memory) (flat task.runs)
input_from shape task is held apart =
    let memory = shape.memory in
    let behind = versions_in (drop is.out.count memory.sealed ++ memory.active ∷ []) in
    let all = subst (AreFrom (floor_of memory)) (listed_parted (λ (h : HeldPart). h.versions) is.out.count memory.sealed memory.active) (from_floor memory.sealed memory.active held apart) in
    subst (AreFrom (floor_of memory)) (sym (input_is shape task is)) (front_of (λ (v : Entry). floor_of memory ≤ v.number) (versions_in (take is.out.count memory.sealed)) behind all)

-- ---- views

-- all clears, as the flush parts them
flushed_clears : (shape : Shape) (task : Task) (is : IsFlushing shape task) → clears_of shape ≡ shape.clears ++ (task.clears ++ clears_in (drop is.out.count shape.memory.sealed ++ shape.memory.active ∷ []))
flushed_clears shape task is =
    let behind = clears_in (drop is.out.count shape.memory.sealed ++ shape.memory.active ∷ []) in
    ap (λ (l : List ℕ). shape.clears ++ l) (listed_parted (λ (h : HeldPart). h.clears) is.out.count shape.memory.sealed shape.memory.active ∙ ap (λ (l : List ℕ). l ++ behind) (sym is.clears))

finished_clears : (shape : Shape) (task : Task) (is : IsFlushing shape task) (made : List Reader)
    → clears_of (flush_finished made is.out shape) ≡ shape.clears ++ (task.clears ++ clears_in (drop is.out.count shape.memory.sealed ++ shape.memory.active ∷ []))
finished_clears shape task is made =
    let behind = clears_in (drop is.out.count shape.memory.sealed ++ shape.memory.active ∷ []) in
    append_assoc shape.clears (clears_in (take is.out.count shape.memory.sealed)) behind ∙ ap (λ (l : List ℕ). shape.clears ++ (l ++ behind)) (sym is.clears)

-- all versions alike
flushed_versions : (shape : Shape) (task : Task) (is : IsFlushing shape task) (entries : List (List Entry))
    → versions_of shape entries ≡ flat entries ++ (flat task.runs ++ versions_in (drop is.out.count shape.memory.sealed ++ shape.memory.active ∷ []))
flushed_versions shape task is entries =
    let behind = versions_in (drop is.out.count shape.memory.sealed ++ shape.memory.active ∷ []) in
    ap (λ (l : List Entry). flat entries ++ l) (listed_parted (λ (h : HeldPart). h.versions) is.out.count shape.memory.sealed shape.memory.active ∙ ap (λ (l : List Entry). l ++ behind) (sym (input_is shape task is)))

finished_versions : (shape : Shape) (task : Task) (is : IsFlushing shape task) (readers : List Reader) (entries lists : List (List Entry))
    → versions_of (flush_finished readers is.out shape) (entries ++ lists) ≡ flat entries ++ (flat lists ++ versions_in (drop is.out.count shape.memory.sealed ++ shape.memory.active ∷ []))
finished_versions shape task is readers entries lists =
    let behind = versions_in (drop is.out.count shape.memory.sealed ++ shape.memory.active ∷ []) in
    ap (λ (l : List Entry). l ++ behind) (flat_both entries lists) ∙ append_assoc (flat entries) (flat lists) behind

pub flushed_view : (shape : Shape) (entries : List (List Entry)) (task : Task) (is : IsFlushing shape task) → All IsHeld (parts_of shape.memory) → AreApart (parts_of shape.memory)
    → (tables : List MadeTable) (clears : List ℕ) (made : IsFlushed task tables clears) (readers : List Reader) (key : Bytes) (instant : ℕ) → IsAbove task.watermark instant
    → value_at key instant (clears_of (flush_finished readers is.out shape)) (versions_of (flush_finished readers is.out shape) (entries ++ made.lists)) ≡ value_at key instant (clears_of shape) (versions_of shape entries)
flushed_view shape entries task is held apart tables clears made readers key instant above =
    let behind = drop is.out.count shape.memory.sealed ++ shape.memory.active ∷ [] in
    (λ i. value_at key instant (finished_clears shape task is readers i) (finished_versions shape task is readers entries made.lists i))
    ∙ a_flush_keeps_views key instant task.watermark above shape.clears task.clears (clears_in behind) (flat entries) (flat task.runs) (flat made.lists) (versions_in behind) (input_once shape task is held apart) made.kept
    ∙ sym (λ i. value_at key instant (flushed_clears shape task is i) (flushed_versions shape task is entries i))

-- ---- what the disk has

pub flushed_read : (disk : Meaning) (shape : Shape) (entries : List (List Entry)) (task : Task) (is : IsFlushing shape task) → All IsHeld (parts_of shape.memory) → AreApart (parts_of shape.memory)
    → (tables : List MadeTable) (clears : List ℕ) (made : IsFlushed task tables clears) (readers : List Reader) → ReadsAll disk shape entries → AreRead disk readers made.lists
    → ReadsAll disk (flush_finished readers is.out shape) (entries ++ made.lists)
flushed_read disk shape entries task is held apart tables clears made readers r read =
    let memory = shape.memory in
    let floor = first_from memory.sealed memory.active in
    let next = first_from (drop is.out.count memory.sealed) memory.active in
    let rise = floor_flushed is.out.count memory.sealed memory.active held apart in
    let kept = All-filter _ (λ (v : Entry). v.number < next) (flat task.runs) (subst (AreBelow next) (sym (input_is shape task is)) (below_floor is.out.count memory.sealed memory.active held apart)) in
    let low = All-filter _ (λ (v : Entry). floor ≤ v.number) (flat task.runs) (input_from shape task is held apart) in
    record {
      tables = read_both disk shape.tables readers entries made.lists r.tables read;
      below = subst (AreBelow next) (sym (flat_both entries made.lists))
          (All-append (λ (v : Entry). v.number < next) (flat entries) (flat made.lists)
          (All-weaker (λ (v : Entry). v.number < floor) (λ (v : Entry). v.number < next) (λ v lt. omega (arith, lt, rise)) (flat entries) r.below)
          (all_same (λ (v : Entry). v.number < next) (flat made.lists) (flushed task.watermark task.clears (flat task.runs)) made.kept kept));
      once = subst OnceEach (sym (flat_both entries made.lists))
          (parts_once floor (flat entries) (flat made.lists) r.below
          (all_same (λ (v : Entry). floor ≤ v.number) (flat made.lists) (flushed task.watermark task.clears (flat task.runs)) made.kept low) r.once (ordered_once (flat made.lists) made.ordered));
    }

-- ---- what is kept in memory of it

-- the tree's own clears of the flush are its input's
pub clears_kept : (sealed : List HeldPart) (count : ℕ) (more : List ℕ) → ∥ (count ≤ length sealed) × (more ≡ clears_in (take count sealed)) ∥₁ → more ≡ clears_in (take count sealed)
clears_kept sealed count more kept = ∥∥₁_elim kept (hlevel props) (λ k. k.1)

pub shape_finished : (clears new_clears more : List ℕ) (old new : Memory) (count : ℕ) → All IsHeld (parts_of old) → AreApart (parts_of old) → IsShape clears old → new_clears ≡ clears ++ more
    → new ≡ without_sealed count old → more ≡ clears_in (take count old.sealed) → IsShape new_clears new
shape_finished clears new_clears more old new count held apart is told left same =
    subst (λ (l : List ℕ). IsShape l new) (sym (told ∙ ap (λ (l : List ℕ). clears ++ l) same)) (subst (λ (m : Memory). IsShape (clears ++ clears_in (take count old.sealed)) m) (sym left) (shape_flushed count clears old.sealed old.active held apart is))

-- ---- the other job

-- a merge that is out stays so: what was flushed came since it began
pub flushed_merging : (shape : Shape) (entries : List (List Entry)) (task other : Task) (is : IsFlushing shape task) → All IsHeld (parts_of shape.memory) → AreApart (parts_of shape.memory)
    → (tables : List MadeTable) (clears : List ℕ) (made : IsFlushed task tables clears) (readers : List Reader) → IsMerging shape entries other
    → IsMerging (flush_finished readers is.out shape) (entries ++ made.lists) other
flushed_merging shape entries task other is held apart tables clears made readers m =
    let memory = shape.memory in
    let floor = first_from memory.sealed memory.active in
    let rise = floor_flushed is.out.count memory.sealed memory.active held apart in
    let at = m.floor in
    let low = All-filter _ (λ (v : Entry). m.out.bound ≤ v.number) (flat task.runs)
    (All-weaker (λ (v : Entry). floor ≤ v.number) (λ (v : Entry). m.out.bound ≤ v.number) (λ v le. omega (arith, le, at)) (flat task.runs) (input_from shape task is held apart)) in
    let made_low = all_same (λ (v : Entry). m.out.bound ≤ v.number) (flat made.lists) (flushed task.watermark task.clears (flat task.runs)) made.kept low in
    let n = length-append entries made.lists in
    let k = length-append shape.clears (clears_in (take is.out.count memory.sealed)) in
    let within = m.within in
    let within_clears = m.within_clears in
    let rest = drop-append-le m.out.tables entries made.lists within in
    record {
      out = m.out;
      is = m.is;
      id = m.id;
      watermark = m.watermark;
      within = omega (arith, within, n);
      within_clears = omega (arith, within_clears, k);
      runs = m.runs ∙ sym (take-append-le m.out.tables entries made.lists within);
      clears = m.clears ∙ sym (take-append-le m.out.clears shape.clears (clears_in (take is.out.count memory.sealed)) within_clears);
      below = m.below;
      clears_below = m.clears_below;
      from = subst (λ (rs : List (List Entry)). AreFrom m.out.bound (flat rs)) (sym rest)
          (subst (AreFrom m.out.bound) (sym (flat_both (drop m.out.tables entries) made.lists)) (All-append (λ (v : Entry). m.out.bound ≤ v.number) (flat (drop m.out.tables entries)) (flat made.lists) m.from made_low));
      floor = omega (arith, at, rise);
    }
