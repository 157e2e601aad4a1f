-- Pages over several tables on a disk.
use Rattle.std.proofs.Common.{◌≡◌, ℕ, zero, suc, ◌+◌, ◌<◌, Bool, IsTrue, List, [], ◌∷◌, ◌++◌, length, map, get_or, slice_get, slice_set, take, Option, Some, None, refl, sym, ap, subst, ◌∙◌, arith}
use Rattle.std.proofs.lemmas.List.{append-nil}
use Rattle.fjall_base.specs.Disk.{Meaning}
use Rattle.fjall_base.specs.Pairs.{KeyRange}
use Rattle.fjall_table.specs.Blocks.{Entry}
use Rattle.fjall_table.specs.Tables.{entries_of, entries_within}
use Rattle.fjall_table_reader.specs.Readers.{AreRead, LooksOn, Reader, ReadsBlocks}
use Rattle.fjall_table_reader.proofs.Readers.{reads_on}
use Rattle.fjall_memtable.specs.Sorted.{in_turn}
use Rattle.fjall_cursors.specs.declared.page_run.PageRun.{PageRun}
use Rattle.fjall_cursors.specs.declared.page_run.PageRun.TheVariants.{Memory}
use Rattle.fjall_cursors.specs.Parts.{Ahead}
use Rattle.fjall_cursors.specs.Runs.{ahead_of, all_of, to_come}
use Rattle.fjall_cursors.specs.Tables.{AllBegin, BeginsRun, EndsWithinBlocks, all_in}

-- ---- several tables

-- on this disk the readers read the tables of these blocks, one by one
abbrev pub AreReadBlocks : Meaning → List Reader → List (List (List Entry)) → Type 0
AreReadBlocks disk [] [] = Unit {0}
AreReadBlocks disk (t ∷ tables) (blocks ∷ more) = ReadsBlocks disk t blocks × AreReadBlocks disk tables more
AreReadBlocks disk tables more = ⊥

-- the blocks that were read of
pub blocks_read : (disk : Meaning) (tables : List Reader) (entries : List (List Entry)) → AreRead disk tables entries
    → (blocks : List (List (List Entry))) × AreReadBlocks disk tables blocks × (entries ≡ map entries_of blocks)
blocks_read disk [] [] r = ([], tt, refl)
blocks_read disk (t ∷ tables) (e ∷ entries) r =
    let more = blocks_read disk tables entries r.1 in
    (r.0.blocks ∷ more.0, (r.0.reads, more.1), λ i. r.0.all i ∷ more.2 i)
blocks_read disk [] (e ∷ entries) r = absurd r
blocks_read disk (t ∷ tables) [] r = absurd r

pub are_read : (disk : Meaning) (tables : List Reader) (blocks : List (List (List Entry))) → AreReadBlocks disk tables blocks → AreRead disk tables (map entries_of blocks)
are_read disk [] [] r = tt
are_read disk (t ∷ tables) (b ∷ blocks) r = (record { blocks = b; all = refl; reads = r.0 }, are_read disk tables blocks r.1)
are_read disk [] (b ∷ blocks) r = absurd r
are_read disk (t ∷ tables) [] r = absurd r

pub all_on : (honest : Bool) (old new : Meaning) (tables : List Reader) (blocks : List (List (List Entry))) → LooksOn honest old new → IsTrue honest → AreReadBlocks old tables blocks → AreReadBlocks new tables blocks
all_on honest old new [] [] looks h r = tt
all_on honest old new (t ∷ tables) (b ∷ blocks) looks h r = (reads_on honest old new t b looks h r.0, all_on honest old new tables blocks looks h r.1)
all_on honest old new [] (b ∷ blocks) looks h r = absurd r
all_on honest old new (t ∷ tables) [] looks h r = absurd r

-- the blocks of one of them
pub read_at : (disk : Meaning) (tables : List Reader) (blocks : List (List (List Entry))) (at : ℕ) (t : Reader) → AreReadBlocks disk tables blocks → slice_get tables at ≡ Some t → (b : List (List Entry)) × (slice_get blocks at ≡ Some b) × ReadsBlocks disk t b
read_at disk [] [] at t r e = absurd (cc e)
read_at disk (u ∷ tables) (b ∷ blocks) zero t r e = let is : u ≡ t = cc e in (b, refl, subst (λ (v : Reader). ReadsBlocks disk v b) is r.0)
read_at disk (u ∷ tables) (b ∷ blocks) (suc at) t r e = read_at disk tables blocks at t r.1 e
read_at disk [] (b ∷ blocks) at t r e = absurd r
read_at disk (u ∷ tables) [] at t r e = absurd r

pub read_set : (disk : Meaning) (tables : List Reader) (blocks : List (List (List Entry))) (at : ℕ) (new : Reader) (b : List (List Entry)) → AreReadBlocks disk tables blocks → slice_get blocks at ≡ Some b → ReadsBlocks disk new b → AreReadBlocks disk (slice_set tables at new) blocks
read_set disk [] [] at new b r e is = absurd (cc e)
read_set disk (u ∷ tables) (c ∷ blocks) zero new b r e is = let same : b ≡ c = cc e in (subst (λ (d : List (List Entry)). ReadsBlocks disk new d) same is, r.1)
read_set disk (u ∷ tables) (c ∷ blocks) (suc at) new b r e is = (r.0, read_set disk tables blocks at new b r.1 e is)
read_set disk [] (c ∷ blocks) at new b r e is = absurd r
read_set disk (u ∷ tables) [] at new b r e is = absurd r

-- ---- the ends of runs

-- Each run over a table ends by the table's count of blocks, and those behind them are in memory.
abbrev pub Fit : List Reader → List (Option Ahead) → Type 0
Fit [] [] = Unit {0}
Fit [] (a ∷ more) = (a ≡ None) × Fit [] more
Fit (t ∷ tables) [] = ⊥
Fit (t ∷ tables) (a ∷ more) = EndsWithinBlocks (length t.handles) a × Fit tables more

-- the table of a run that isn't in memory
pub fit_at : (tables : List Reader) (more : List (Option Ahead)) (at : ℕ) (a : Ahead) → Fit tables more → slice_get more at ≡ Some (Some a) → (t : Reader) × (slice_get tables at ≡ Some t) × EndsWithinBlocks (length t.handles) (Some a)
fit_at [] [] at a f e = absurd (cc e)
fit_at [] (b ∷ more) zero a f e = let is : b ≡ Some a = cc e in let none = f.0 in absurd (cc (is, none))
fit_at [] (b ∷ more) (suc at) a f e = fit_at [] more at a f.1 e
fit_at (t ∷ tables) [] at a f e = absurd f
fit_at (t ∷ tables) (b ∷ more) zero a f e = let is : b ≡ Some a = cc e in (t, refl, subst (EndsWithinBlocks (length t.handles)) is f.0)
fit_at (t ∷ tables) (b ∷ more) (suc at) a f e = fit_at tables more at a f.1 e

pub fit_set : (tables : List Reader) (more : List (Option Ahead)) (at : ℕ) (t : Reader) (a : Option Ahead) → Fit tables more → slice_get tables at ≡ Some t → EndsWithinBlocks (length t.handles) a → Fit tables (slice_set more at a)
fit_set [] more at t a f e ends = absurd (cc e)
fit_set (u ∷ tables) [] at t a f e ends = absurd f
fit_set (u ∷ tables) (b ∷ more) zero t a f e ends = let is : t ≡ u = cc e in (subst (λ (v : Reader). EndsWithinBlocks (length v.handles) a) is ends, f.1)
fit_set (u ∷ tables) (b ∷ more) (suc at) t a f e ends = (f.0, fit_set tables more at t a f.1 e ends)

-- ---- the whole

-- what the runs in memory stand for is what is in memory
all_memory : (range : KeyRange) (memory : List (List Entry)) → all_of range [] (map (λ run. Memory run) memory) ≡ memory
all_memory range [] = refl
all_memory range (run ∷ memory) = λ i. append-nil run i ∷ all_memory range memory i

-- what lies between the bounds in each of these tables, as it is gone through
abbrev pub parts_of : KeyRange → Bool → List (List (List Entry)) → List (List Entry)
parts_of range back tables = map (λ blocks. in_turn back (entries_within range (entries_of blocks))) tables

-- all that the runs of a page stand for at first
pub all_at_first : (disk : Meaning) (range : KeyRange) (back : Bool) (tables : List Reader) (blocks : List (List (List Entry))) (first : List PageRun) (memory : List (List Entry)) → AreReadBlocks disk tables blocks → AllBegin range back tables first
    → all_of range blocks (first ++ map (λ run. Memory run) memory) ≡ parts_of range back blocks ++ memory
all_at_first disk range back [] [] [] memory r begin = all_memory range memory
all_at_first disk range back (t ∷ tables) (b ∷ blocks) (run ∷ first) memory r begin =
    let here = begin.0.all b r.0.table.are r.0.index in
    let more = all_at_first disk range back tables blocks first memory r.1 begin.1 in
    λ i. here i ∷ more i
all_at_first disk range back [] [] (run ∷ first) memory r begin = absurd begin
all_at_first disk range back (t ∷ tables) (b ∷ blocks) [] memory r begin = absurd begin
all_at_first disk range back [] (b ∷ blocks) first memory r begin = absurd r
all_at_first disk range back (t ∷ tables) [] first memory r begin = absurd r

fit_memory : (memory : List (List Entry)) → Fit [] (map ahead_of (map (λ run. Memory run) memory))
fit_memory [] = tt
fit_memory (run ∷ memory) = (refl, fit_memory memory)

pub fit_at_first : (range : KeyRange) (back : Bool) (tables : List Reader) (first : List PageRun) (memory : List (List Entry)) → AllBegin range back tables first → Fit tables (map ahead_of (first ++ map (λ run. Memory run) memory))
fit_at_first range back [] [] memory begin = fit_memory memory
fit_at_first range back (t ∷ tables) (run ∷ first) memory begin = (begin.0.end, fit_at_first range back tables first memory begin.1)
fit_at_first range back [] (run ∷ first) memory begin = absurd begin
fit_at_first range back (t ∷ tables) [] memory begin = absurd begin

-- one run was filled: all stand for the same
pub all_filled : (range : KeyRange) (tables : List (List (List Entry))) (runs : List PageRun) (at : ℕ) (b : List (List Entry)) (run new : PageRun) → slice_get tables at ≡ Some b → slice_get runs at ≡ Some run → all_in range b new ≡ all_in range b run
    → all_of range tables (slice_set runs at new) ≡ all_of range tables runs
all_filled range tables [] at b run new t e same = absurd (cc e)
all_filled range [] (r ∷ runs) at b run new t e same = absurd (cc t)
all_filled range (c ∷ tables) (r ∷ runs) zero b run new t e same =
    let is : r ≡ run = cc e in
    let blocks : c ≡ b = cc t in
    let here : all_in range c new ≡ all_in range c r = subst (λ (d : List (List Entry)). all_in range d new ≡ all_in range d r) (sym blocks) (same ∙ ap (all_in range b) (sym is)) in
    ap (λ (l : List Entry). l ∷ all_of range tables runs) here
all_filled range (c ∷ tables) (r ∷ runs) (suc at) b run new t e same = ap (λ (ls : List (List Entry)). all_in range c r ∷ ls) (all_filled range tables runs at b run new t e same)

-- how many blocks are still to come of all runs
abbrev pub all_to_come : List (Option Ahead) → ℕ
all_to_come [] = 0
all_to_come (a ∷ more) = to_come a + all_to_come more

pub fewer_to_come : (more : List (Option Ahead)) (at : ℕ) (a new : Option Ahead) → slice_get more at ≡ Some a → to_come new < to_come a → all_to_come (slice_set more at new) < all_to_come more
fewer_to_come [] at a new e lt = absurd (cc e)
fewer_to_come (b ∷ more) zero a new e lt = let is : b ≡ a = cc e in let n = ap to_come is in omega (arith, lt, n)
fewer_to_come (b ∷ more) (suc at) a new e lt = let less = fewer_to_come more at a new e lt in omega (arith, less)

-- ---- the runs of a page are made

all_begun : (range : KeyRange) (back : Bool) (tables : List Reader) (runs : List PageRun) (t : Reader) (run : PageRun) → AllBegin range back tables runs → BeginsRun range back t run → AllBegin range back (tables ++ t ∷ []) (runs ++ run ∷ [])
all_begun range back [] [] t run begin one = (one, tt)
all_begun range back (u ∷ tables) (r ∷ runs) t run begin one = (begin.0, all_begun range back tables runs t run begin.1 one)
all_begun range back [] (r ∷ runs) t run begin one = absurd begin
all_begun range back (u ∷ tables) [] t run begin one = absurd begin

taken_more : {A : Type 0} (xs : List A) (i : ℕ) (x : A) → i < length xs → x ≡ get_or xs i x → take (i + 1) xs ≡ take i xs ++ x ∷ []
taken_more [] i x lt e = absurd (omega (arith, lt))
taken_more (y ∷ xs) zero x lt e = ap (λ (z : _). z ∷ []) (sym e)
taken_more (y ∷ xs) (suc i) x lt e = ap (λ (k : ℕ). take k (y ∷ xs)) (plus i) ∙ ap (λ (zs : List _). y ∷ zs) (taken_more xs i x (omega (arith, lt)) e)
  where
    plus : (n : ℕ) → suc n + 1 ≡ suc (n + 1)
    plus n = omega arith

-- one table's run more
pub begun_more : (range : KeyRange) (back : Bool) (tables : List Reader) (runs : List PageRun) (i : ℕ) (t : Reader) (run : PageRun) → i < length tables → t ≡ get_or tables i t → AllBegin range back (take i tables) runs → BeginsRun range back t run
    → AllBegin range back (take (i + 1) tables) (runs ++ run ∷ [])
begun_more range back tables runs i t run lt e begin one =
    subst (λ (ts : List Reader). AllBegin range back ts (runs ++ run ∷ [])) (sym (taken_more tables i t lt e)) (all_begun range back (take i tables) runs t run begin one)
