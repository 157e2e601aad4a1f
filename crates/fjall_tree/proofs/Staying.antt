-- Jobs that are out, while the tree is written, and what they read.
use Rattle.std.proofs.Common.{◌≡◌, ℕ, zero, suc, false, List, [], ◌∷◌, length, map, take, refl, sym, ap, subst, ◌∙◌, arith}
use Rattle.std.specs.List.{All, AllByRecursion}
use Rattle.std.proofs.lemmas.List.{length-append, take-append-le}
use Rattle.std.proofs.lemmas.List.Elements.{All-cons, All-nil}
use Rattle.fjall_base.specs.Disk.{Meaning}
use Rattle.fjall_table.specs.Blocks.{Entry, IsBlock, IsEntry}
use Rattle.fjall_table.specs.Tables.{entries_of}
use Rattle.fjall_memtable.specs.Sorted.{IsInTurn, flat}
use Rattle.fjall_table_reader.specs.Readers.{AreRead, Reader}
use Rattle.fjall_memtable.specs.Parts.{HeldPart, clears_in, empty_from, with_clear, with_version}
use Rattle.fjall_jobs.specs.Keeping.{AreSorted}
use Rattle.fjall_jobs.specs.Tasks.{Task}
use Rattle.fjall_jobs.proofs.Flushing.{both_entries}
use Rattle.fjall_tree.specs.Jobs.{IsFlushing, IsMerging}
use Rattle.fjall_tree.specs.Trees.{ReadsAll, Shape, emptied, floor_of, sealed_off, written}
use Rattle.fjall_tree.proofs.Changes.{first_same, first_sealed}
use Rattle.fjall_tree.proofs.Merged.{once_of}

-- ---- flushes

pub flush_written : (shape : Shape) (v : Entry) (task : Task) → IsFlushing shape task → IsFlushing (written v shape) task
flush_written shape v task is = record { out = is.out; is = is.is; id = is.id; watermark = is.watermark; within = is.within; runs = is.runs; clears = is.clears }

pub flush_emptied : (shape : Shape) (n : ℕ) (task : Task) → IsFlushing shape task → IsFlushing (emptied n shape) task
flush_emptied shape n task is = record { out = is.out; is = is.is; id = is.id; watermark = is.watermark; within = is.within; runs = is.runs; clears = is.clears }

pub flush_rotated : (shape : Shape) (task : Task) → IsFlushing shape task → IsFlushing (sealed_off shape) task
flush_rotated shape task is =
    let sealed = shape.memory.sealed in
    let more = shape.memory.active ∷ [] in
    let n = length-append sealed more in
    let within = is.within in
    let same = sym (take-append-le is.out.count sealed more within) in
    record {
      out = is.out;
      is = is.is;
      id = is.id;
      watermark = is.watermark;
      within = omega (arith, within, n);
      runs = is.runs ∙ ap (λ (hs : List HeldPart). map (λ (h : HeldPart). h.versions) hs) same;
      clears = is.clears ∙ ap clears_in same;
    }

-- ---- merges

floor_same : (shape new : Shape) (entries : List (List Entry)) (task : Task) → new.merge ≡ shape.merge → new.clears ≡ shape.clears → floor_of new.memory ≡ floor_of shape.memory → IsMerging shape entries task → IsMerging new entries task
floor_same shape new entries task merge clears floor is =
    let at = is.floor in
    let within = is.within_clears in
    let n = ap length clears in
    record {
      out = is.out;
      is = merge ∙ is.is;
      id = is.id;
      watermark = is.watermark;
      within = is.within;
      within_clears = omega (arith, within, n);
      runs = is.runs;
      clears = is.clears ∙ ap (take is.out.clears) (sym clears);
      below = is.below;
      clears_below = is.clears_below;
      from = is.from;
      floor = omega (arith, at, floor);
    }

pub merge_written : (shape : Shape) (entries : List (List Entry)) (v : Entry) (task : Task) → IsMerging shape entries task → IsMerging (written v shape) entries task
merge_written shape entries v task = floor_same shape (written v shape) entries task refl refl (first_same shape.memory.sealed shape.memory.active (with_version v shape.memory.active) refl)

pub merge_emptied : (shape : Shape) (entries : List (List Entry)) (n : ℕ) (task : Task) → IsMerging shape entries task → IsMerging (emptied n shape) entries task
merge_emptied shape entries n task = floor_same shape (emptied n shape) entries task refl refl (first_same shape.memory.sealed shape.memory.active (with_clear n shape.memory.active) refl)

pub merge_rotated : (shape : Shape) (entries : List (List Entry)) (task : Task) → IsMerging shape entries task → IsMerging (sealed_off shape) entries task
merge_rotated shape entries task = floor_same shape (sealed_off shape) entries task refl refl (first_sealed shape.memory.sealed shape.memory.active (empty_from shape.memory.active.until))

-- ---- what a merge reads

block_entries : (blocks : List (List Entry)) → AllByRecursion IsBlock blocks → AllByRecursion IsEntry (entries_of blocks)
block_entries [] each = tt
block_entries (b ∷ blocks) each = both_entries b (entries_of blocks) each.0.each (block_entries blocks each.1)

taken_entries : (disk : Meaning) (n : ℕ) (ts : List Reader) (ess : List (List Entry)) → AreRead disk ts ess → AllByRecursion IsEntry (flat (take n ess))
taken_entries disk zero ts ess r = tt
taken_entries disk (suc n) [] [] r = tt
taken_entries disk (suc n) [] (es ∷ ess) r = absurd r
taken_entries disk (suc n) (t ∷ ts) [] r = tt
taken_entries disk (suc n) (t ∷ ts) (es ∷ ess) r =
    both_entries es (flat (take n ess)) (subst (AllByRecursion IsEntry) (sym r.0.all) (block_entries r.0.blocks r.0.reads.table.are.each)) (taken_entries disk n ts ess r.1)

taken_ordered : (disk : Meaning) (n : ℕ) (ts : List Reader) (ess : List (List Entry)) → AreRead disk ts ess → All (IsInTurn false) (take n ess)
taken_ordered disk zero ts ess r = All-nil (IsInTurn false)
taken_ordered disk (suc n) [] [] r = All-nil (IsInTurn false)
taken_ordered disk (suc n) [] (es ∷ ess) r = absurd r
taken_ordered disk (suc n) (t ∷ ts) [] r = All-nil (IsInTurn false)
taken_ordered disk (suc n) (t ∷ ts) (es ∷ ess) r =
    All-cons (IsInTurn false) es (take n ess) (subst (IsInTurn false) (sym r.0.all) r.0.reads.table.are.ordered) (taken_ordered disk n ts ess r.1)

pub input_sorted : (disk : Meaning) (shape : Shape) (entries : List (List Entry)) (task : Task) → ReadsAll disk shape entries → IsMerging shape entries task → AreSorted task.runs
input_sorted disk shape entries task r is =
    subst AreSorted (sym is.runs) (record {
      ordered = taken_ordered disk is.out.tables shape.tables entries r.tables;
      once = (once_of entries is.out.tables r.once).0;
      entries = taken_entries disk is.out.tables shape.tables entries r.tables;
    })
