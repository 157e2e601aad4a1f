-- A tree that took an ingestion.
use Rattle.std.proofs.Common.{◌≡◌, ℕ, ◌+◌, ◌<◌, ◌≤◌, ◌^◌, List, [], ◌∷◌, ◌++◌, drop, length, sym, ap, subst, ◌∙◌, append_assoc, arith}
use Rattle.std.specs.List.{All}
use Rattle.std.proofs.lemmas.List.{append-nil, drop-append-le, drop_all, length-append, take-append-le, take_all}
use Rattle.std.proofs.lemmas.List.Elements.{All-append, All-filter, All-head, All-nil, All-push, All-tail, All-weaker}
use Rattle.fjall_base.specs.Disk.{Meaning}
use Rattle.fjall_base.specs.Pairs.{Bytes}
use Rattle.fjall_table.specs.Blocks.{Entry}
use Rattle.fjall_memtable.specs.Jobs.{AreBelow, AreFrom, IsAbove, OnceEach, flushed}
use Rattle.fjall_memtable.specs.Views.{value_at}
use Rattle.fjall_memtable.proofs.Hiding.{a_flush_keeps_views}
use Rattle.fjall_memtable.proofs.Once.{parts_once}
use Rattle.fjall_memtable.specs.Sorted.{flat}
use Rattle.fjall_table_reader.specs.Readers.{AreRead, Reader}
use Rattle.fjall_memtable.specs.Parts.{AreApart, HeldPart, IsHeld, Memory, clears_in, empty_from, parts_of, versions_in}
use Rattle.fjall_memtable.proofs.Apart.{apart_more, apart_tail, numbers_below, versions_numbered}
use Rattle.fjall_memtable.proofs.Onces.{once_in}
use Rattle.fjall_jobs.proofs.Flushing.{flat_runs}
use Rattle.fjall_jobs.specs.declared.made_table.MadeTable.{MadeTable}
use Rattle.fjall_jobs.specs.Tasks.{IsFlushed, Task}
use Rattle.fjall_tree.specs.Ingestions.{ingested, memory_task}
use Rattle.fjall_tree.specs.Jobs.{IsMerging}
use Rattle.fjall_tree.specs.Trees.{IsShape, ReadsAll, Shape, clears_of, first_from, floor_of, versions_of}
use Rattle.fjall_tree.proofs.Changes.{first_sealed}
use Rattle.fjall_tree.proofs.Flushed.{from_floor, shape_flushed}
use Rattle.fjall_tree.proofs.Several.{all_same, flat_both, ordered_once, read_both}

-- ---- memory of nothing

pub empty_held : (n : ℕ) → n ≤ 2 ^ 63 → IsHeld (empty_from n)
empty_held n small = record {
  each = All-nil _;
  ordered = tt;
  bounds = omega arith;
  small = small;
  low = All-nil _;
  high = All-nil _;
  low_clears = All-nil _;
  high_clears = All-nil _;
  ascend = tt;
}

-- memory with an empty part behind all others is still in order
behind_held : (n : ℕ) (memory : Memory) → n ≤ 2 ^ 63 → All IsHeld (parts_of memory) → All IsHeld (parts_of memory ++ empty_from n ∷ [])
behind_held n memory small held = All-push IsHeld (parts_of memory) (empty_from n) held (empty_held n small)

behind_apart : (n : ℕ) (memory : Memory) → memory.active.until ≤ n → AreApart (parts_of memory) → AreApart (parts_of memory ++ empty_from n ∷ [])
behind_apart n memory until apart = apart_more memory.sealed memory.active (empty_from n) until apart

-- the first part begins no later than the last one
first_below : (hs : List HeldPart) (last : HeldPart) → All IsHeld (hs ++ last ∷ []) → AreApart (hs ++ last ∷ []) → first_from hs last ≤ last.from
first_below [] last held apart = omega arith
first_below (h ∷ hs) last held apart =
    let bounds = (All-head IsHeld h (hs ++ last ∷ []) held).bounds in
    let next = by hs apart in
    let more = first_below hs last (All-tail IsHeld h (hs ++ last ∷ []) held) (apart_tail h (hs ++ last ∷ []) apart) in
    omega (arith, bounds, next, more)
  where
    by : (gs : List HeldPart) → AreApart (h ∷ (gs ++ last ∷ [])) → h.until ≤ first_from gs last
    by [] apart = apart.0
    by (g ∷ gs) apart = apart.0

-- all clears, of the record and in memory, lie below where memory begins anew, and ascend
pub ingested_shape : (n : ℕ) (clears : List ℕ) (memory : Memory) → n ≤ 2 ^ 63 → memory.active.until ≤ n → All IsHeld (parts_of memory) → AreApart (parts_of memory) → IsShape clears memory
    → IsShape (clears ++ clears_in (parts_of memory)) (record { sealed = []; active = empty_from n })
ingested_shape n clears memory small until held apart is =
    let parts = parts_of memory in
    let as_sealed : IsShape clears (record { sealed = parts; active = empty_from n }) =
    record { low = subst (λ (floor : ℕ). All (λ (m : ℕ). m < floor) clears) (sym (first_sealed memory.sealed memory.active (empty_from n))) is.low; ascend = is.ascend } in
    subst (λ (ps : List HeldPart × List HeldPart). IsShape (clears ++ clears_in ps.0) (record { sealed = ps.1; active = empty_from n }))
    (λ i. (take_all (length parts) parts (omega arith) i, drop_all (length parts) parts (omega arith) i))
    (shape_flushed (length parts) clears parts (empty_from n) (behind_held n memory small held) (behind_apart n memory until apart) as_sealed)

-- ---- one tree

module _ (shape : Shape) (held : All IsHeld (parts_of shape.memory)) (apart : AreApart (parts_of shape.memory)) (keyspace watermark : ℕ) (tables : List MadeTable) (clears : List ℕ)
    (made : IsFlushed (memory_task keyspace watermark shape.memory) tables clears) where
  abbrev parts : List HeldPart
  parts = parts_of shape.memory

  abbrev task : Task
  task = memory_task keyspace watermark shape.memory

  input_once : OnceEach (flat task.runs)
  input_once = subst OnceEach (sym (flat_runs parts)) (once_in parts held apart)

  input_from : AreFrom (floor_of shape.memory) (flat task.runs)
  input_from = subst (AreFrom (floor_of shape.memory)) (sym (flat_runs parts)) (from_floor shape.memory.sealed shape.memory.active held apart)

  made_from : AreFrom (floor_of shape.memory) (flat made.lists)
  made_from =
      all_same (λ (v : Entry). floor_of shape.memory ≤ v.number) (flat made.lists) (flushed watermark (clears_in parts) (flat task.runs)) made.kept
      (All-filter _ (λ (v : Entry). floor_of shape.memory ≤ v.number) (flat task.runs) input_from)

  module _ (n : ℕ) (small : n ≤ 2 ^ 63) (until : shape.memory.active.until ≤ n) where
    input_below : AreBelow n (flat task.runs)
    input_below =
        subst (AreBelow n) (sym (flat_runs parts))
        (numbers_below (λ (h : HeldPart). h.versions) (λ (v : Entry). v.number) versions_numbered parts [] (empty_from n) (behind_held n shape.memory small held) (behind_apart n shape.memory until apart))

    made_below : AreBelow n (flat made.lists)
    made_below =
        all_same (λ (v : Entry). v.number < n) (flat made.lists) (flushed watermark (clears_in parts) (flat task.runs)) made.kept
        (All-filter _ (λ (v : Entry). v.number < n) (flat task.runs) input_below)

    -- memory begins no later than it ends
    floor_until : floor_of shape.memory ≤ n
    floor_until =
        let le = first_below parts (empty_from n) (behind_held n shape.memory small held) (behind_apart n shape.memory until apart) in
        let same = first_sealed shape.memory.sealed shape.memory.active (empty_from n) in
        omega (arith, le, same)

    module _ (entries lists : List (List Entry)) (below : AreBelow (floor_of shape.memory) (flat entries)) (once : OnceEach (flat entries)) (at : All (λ v. v.number ≡ n) (flat lists)) (each : OnceEach (flat lists)) where
      abbrev all_lists : List (List Entry)
      all_lists = entries ++ (made.lists ++ lists)

      lists_are : flat all_lists ≡ (flat entries ++ flat made.lists) ++ flat lists
      lists_are = flat_both entries (made.lists ++ lists) ∙ ap (λ (l : List Entry). flat entries ++ l) (flat_both made.lists lists) ∙ sym (append_assoc (flat entries) (flat made.lists) (flat lists))

      front_below : AreBelow n (flat entries ++ flat made.lists)
      front_below =
          let le = floor_until in
          All-append (λ (v : Entry). v.number < n) (flat entries) (flat made.lists)
          (All-weaker (λ (v : Entry). v.number < floor_of shape.memory) (λ (v : Entry). v.number < n) (λ v lt. omega (arith, lt, le)) (flat entries) below) made_below

      -- what the tables hold then is numbered up to the ingestion's number
      pub ingested_below : AreBelow (n + 1) (flat all_lists)
      ingested_below =
          subst (AreBelow (n + 1)) (sym lists_are)
          (All-append (λ (v : Entry). v.number < n + 1) (flat entries ++ flat made.lists) (flat lists)
          (All-weaker (λ (v : Entry). v.number < n) (λ (v : Entry). v.number < n + 1) (λ v lt. omega (arith, lt)) (flat entries ++ flat made.lists) front_below)
          (All-weaker (λ (v : Entry). v.number ≡ n) (λ (v : Entry). v.number < n + 1) (λ v same. omega (arith, same)) (flat lists) at))

      -- and no version stands twice
      pub ingested_once : OnceEach (flat all_lists)
      ingested_once =
          subst OnceEach (sym lists_are)
          (parts_once n (flat entries ++ flat made.lists) (flat lists) front_below
          (All-weaker (λ (v : Entry). v.number ≡ n) (λ (v : Entry). n ≤ v.number) (λ v same. omega (arith, same)) (flat lists) at)
          (parts_once (floor_of shape.memory) (flat entries) (flat made.lists) below made_from once (ordered_once (flat made.lists) made.ordered)) each)

      pub ingested_read : (disk : Meaning) (readers : List Reader) → AreRead disk shape.tables entries → AreRead disk readers (made.lists ++ lists) → ReadsAll disk (ingested n readers shape) all_lists
      ingested_read disk readers old read =
          record { tables = read_both disk shape.tables readers entries (made.lists ++ lists) old read; below = ingested_below; once = ingested_once }

  -- a merge that is out stays so: what was ingested came since it began
  pub merge_ingested : (n : ℕ) → n ≤ 2 ^ 63 → shape.memory.active.until ≤ n → (entries lists : List (List Entry)) → All (λ v. v.number ≡ n) (flat lists) → (readers : List Reader) (other : Task)
      → IsMerging shape entries other → IsMerging (ingested n readers shape) (entries ++ (made.lists ++ lists)) other
  merge_ingested n small until entries lists at readers other m =
      let new = made.lists ++ lists in
      let bound = m.out.bound in
      let floor = m.floor in
      let end = floor_until n small until in
      let flushes = All-weaker (λ (v : Entry). floor_of shape.memory ≤ v.number) (λ (v : Entry). bound ≤ v.number) (λ v from. omega (arith, from, floor)) (flat made.lists) made_from in
      let own = All-weaker (λ (v : Entry). v.number ≡ n) (λ (v : Entry). bound ≤ v.number) (λ v same. omega (arith, same, floor, end)) (flat lists) at in
      let came = subst (AreFrom bound) (sym (flat_both made.lists lists)) (All-append (λ (v : Entry). bound ≤ v.number) (flat made.lists) (flat lists) flushes own) in
      let tables = length-append entries new in
      let clears = length-append shape.clears (clears_in parts) in
      let within = m.within in
      let within_clears = m.within_clears in
      record {
        out = m.out;
        is = m.is;
        id = m.id;
        watermark = m.watermark;
        within = omega (arith, within, tables);
        within_clears = omega (arith, within_clears, clears);
        runs = m.runs ∙ sym (take-append-le m.out.tables entries new within);
        clears = m.clears ∙ sym (take-append-le m.out.clears shape.clears (clears_in parts) within_clears);
        below = m.below;
        clears_below = m.clears_below;
        from = subst (λ (rs : List (List Entry)). AreFrom bound (flat rs)) (sym (drop-append-le m.out.tables entries new within))
            (subst (AreFrom bound) (sym (flat_both (drop m.out.tables entries) new))
            (All-append (λ (v : Entry). bound ≤ v.number) (flat (drop m.out.tables entries)) (flat new) m.from came));
        floor = omega (arith, floor, end);
      }

  -- to each view above the watermark the ingestion's versions are versions more, behind all others
  pub ingested_view : (n : ℕ) (readers : List Reader) (entries lists : List (List Entry)) (key : Bytes) (instant : ℕ) → IsAbove watermark instant
      → value_at key instant (clears_of (ingested n readers shape)) (versions_of (ingested n readers shape) (entries ++ (made.lists ++ lists))) ≡ value_at key instant (clears_of shape) (versions_of shape entries ++ flat lists)
  ingested_view n readers entries lists key instant above =
      let told = append_assoc shape.clears (clears_in parts) [] in
      let listed = append-nil (flat (entries ++ (made.lists ++ lists))) ∙ flat_both entries (made.lists ++ lists) ∙ ap (λ (l : List Entry). flat entries ++ l) (flat_both made.lists lists) in
      let before = ap (λ (l : List Entry). flat entries ++ (l ++ flat lists)) (flat_runs parts) ∙ sym (append_assoc (flat entries) (versions_in parts) (flat lists)) in
      (λ i. value_at key instant (told i) (listed i))
      ∙ a_flush_keeps_views key instant watermark above shape.clears (clears_in parts) [] (flat entries) (flat task.runs) (flat made.lists) (flat lists) input_once made.kept
      ∙ (λ i. value_at key instant (shape.clears ++ append-nil (clears_in parts) i) (before i))
