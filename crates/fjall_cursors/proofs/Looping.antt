-- The loop of a page: what it keeps, and what it leaves.
use Rattle.std.proofs.Common.{◌≡◌, ℕ, zero, suc, ◌<◌, ◌≤◌, Bool, IsTrue, true, false, List, [], ◌∷◌, ◌++◌, length, map, get_or, slice_get, slice_set, take, append_assoc, Option, Some, IfSome, refl, sym, ap, subst, ◌∙◌, arith, position}
use Rattle.std.specs.List.{All, AllByRecursion}
use Rattle.std.proofs.lemmas.List.{reverse-reverse}
use Rattle.std.proofs.lemmas.List.Quantifiers.{position-Some}
use Rattle.std.proofs.lemmas.List.Elements.{All-from_recursion, recursion_from_All, filter-append}
use Rattle.fjall_base.specs.declared.error.Error.{Error}
use Rattle.fjall_base.specs.Disk as disk
use Rattle.fjall_base.specs.Disk.{DiskState, Meaning}
use Rattle.fjall_base.specs.Pairs.{Bytes, KeyRange, is_within}
use Rattle.fjall_base.proofs.Codecs.{some_is}
use Rattle.fjall_table.specs.Blocks.{Entry, IsOrdered}
use Rattle.fjall_table_reader.specs.Files.{IsRefused, entry_at}
use Rattle.fjall_table.specs.Tables.{Handle, entries_of, entries_within}
use Rattle.fjall_table_reader.proofs.TableFiles.{refused_later}
use Rattle.fjall_table_reader.specs.Readers.{AreRead, AreSameTables, HoldsAWrongBlock, IsSameTable, LooksOn, Reader, ReadsBlocks, SomeTableIsWrong}
use Rattle.fjall_table_reader.proofs.Readers.{looks_again, looks_none, still}
use Rattle.fjall_table_reader.proofs.Several.{all_same_none, same_at, same_set}
use Rattle.fjall_memtable.specs.Jobs.{OnceEach}
use Rattle.fjall_memtable.specs.Sorted.{IsInTurn, flat, in_turn, sorted}
use Rattle.fjall_memtable.proofs.SortedOrders.{filter_chain}
use Rattle.fjall_memtable.proofs.Sorting.{chain_of, ordered_of}
use Rattle.fjall_cursors.proofs.RunPaging.{set_run}
use Rattle.fjall_cursors.specs.declared.page_run.PageRun.{PageRun}
use Rattle.fjall_cursors.specs.declared.page_run.PageRun.TheVariants.{Memory, Table}
use Rattle.fjall_cursors.specs.declared.page_maker.PageMaker.{PageMaker}
use Rattle.fjall_cursors.specs.Parts.{Ahead}
use Rattle.fjall_cursors.specs.Runs.{ahead_of, all_of, is_dry, to_come}
use Rattle.fjall_cursors.specs.Pages.{IsMade, goes_back, made, made_with, page_of}
use Rattle.fjall_cursors.specs.Tables.{EndsWithinBlocks, StartsAt, all_in}
use Rattle.fjall_cursors.proofs.Orders.{IsShuffled, flat_shuffled, in_turn_shuffled, once_shuffled, once_within, sorted_shuffled}
use Rattle.fjall_cursors.proofs.Reading.{AreReadBlocks, Fit, all_at_first, all_filled, all_on, all_to_come, are_read, blocks_read, fewer_to_come, fit_at, fit_at_first, fit_set, parts_of, read_at, read_set}

-- ---- the tables and the disk

-- What is so of the tables and the disk after blocks were read.
pub record Looked (honest : Bool) (old new : Meaning) (before after : List Reader) : Type 0 where
  pub table : AreSameTables before after
  pub disk : LooksOn honest old new
  pub reads : IsTrue honest → (blocks : List (List (List Entry))) → AreReadBlocks old before blocks → AreReadBlocks new after blocks

-- nothing was read yet
pub looked_none : (honest : Bool) (old : Meaning) (tables : List Reader) → Looked honest old old tables tables
looked_none honest old tables = record { table = all_same_none tables; disk = looks_none honest old; reads = λ h blocks r. r }

-- the same entries are read as at first
pub entries_read : {honest : Bool} {old new : Meaning} {before after : List Reader} → Looked honest old new before after
    → IsTrue honest → (entries : List (List Entry)) → AreRead old before entries → AreRead new after entries
entries_read {old} {new} {before} {after} l h entries read =
    let b = blocks_read old before entries read in
    subst (AreRead new after) (sym b.2) (are_read new after b.0 (l.reads h b.0 b.1))

-- ---- what the loop keeps

-- all versions of these tables between the bounds, and behind them those in memory
abbrev pub versions_of : KeyRange → Bool → List (List (List Entry)) → List (List Entry) → List Entry
versions_of range back blocks memory = entries_within range (flat (map entries_of blocks)) ++ flat (map (in_turn back) memory)

-- No key has two versions of one number in all of these tables and in memory.
abbrev pub came_once : Bool → List (List (List Entry)) → List (List Entry) → Type 0
came_once back blocks memory = OnceEach (flat (map entries_of blocks) ++ flat (map (in_turn back) memory))

-- What the loop of a page keeps.
pub record Looping (honest : Bool) (old new : Meaning) (before after : List Reader) (range : KeyRange) (back : Bool) (instant bound max : ℕ) (memory : List (List Entry)) (runs : List PageRun) (page : PageMaker) : Type 0 where
  pub looked : Looked honest old new before after
  pub fits : Fit before (map ahead_of runs)
  pub end : goes_back page ≡ back
  pub few : length (made page) ≤ max
  pub whole : IsTrue honest → (blocks : List (List (List Entry))) → AreReadBlocks old before blocks → All (IsInTurn back) memory → came_once back blocks memory
      → IsMade back (all_of range blocks runs) (page_of back instant bound (in_turn back (sorted (versions_of range back blocks memory)))) (made_with page) (made page) max

-- what is turned twice stands as at first
pub turned_twice : (back : Bool) (run : List Entry) → in_turn back (in_turn back run) ≡ run
turned_twice false run = refl
turned_twice true run = reverse-reverse run

-- the same of each run
all_turned_twice : (back : Bool) (runs : List (List Entry)) → map (in_turn back) (map (in_turn back) runs) ≡ runs
all_turned_twice back [] = refl
all_turned_twice back (run ∷ runs) = λ i. turned_twice back run i ∷ all_turned_twice back runs i

-- the runs in memory hold the same versions as when they are turned
memory_shuffled : (back : Bool) (memory : List (List Entry)) → IsShuffled (flat memory) (flat (map (in_turn back) memory))
memory_shuffled back memory = subst (λ (ms : List (List Entry)). IsShuffled (flat ms) (flat (map (in_turn back) memory))) (all_turned_twice back memory) (flat_shuffled back (map (in_turn back) memory))

-- the tables' parts and the runs in memory hold the same versions as the tables between the bounds and memory in order
parts_shuffled : (range : KeyRange) (back : Bool) (blocks : List (List (List Entry))) (memory : List (List Entry)) → IsShuffled (flat (parts_of range back blocks ++ memory)) (versions_of range back blocks memory)
parts_shuffled range back [] memory = memory_shuffled back memory
parts_shuffled range back (b ∷ blocks) memory =
    let here = entries_within range (entries_of b) in
    let rest = entries_within range (flat (map entries_of blocks)) in
    let e = ap (λ (vs : List Entry). vs ++ flat (map (in_turn back) memory)) (filter-append (λ e. is_within range e.key) (entries_of b) (flat (map entries_of blocks))) ∙ append_assoc here rest (flat (map (in_turn back) memory)) in
    subst (λ (vs : List Entry). IsShuffled (flat (parts_of range back (b ∷ blocks) ++ memory)) vs) (sym e)
    (in_turn_shuffled back here (flat (parts_of range back blocks ++ memory)) (versions_of range back blocks memory) (parts_shuffled range back blocks memory))

-- the tables' parts and the runs in memory are each in the order in which they are gone through
parts_in_turn : (disk : Meaning) (range : KeyRange) (back : Bool) (tables : List Reader) (blocks : List (List (List Entry))) (memory : List (List Entry)) → AreReadBlocks disk tables blocks → AllByRecursion (IsInTurn back) memory → AllByRecursion (IsInTurn back) (parts_of range back blocks ++ memory)
parts_in_turn disk range back [] [] memory r each = each
parts_in_turn disk range back (t ∷ tables) (b ∷ blocks) memory r each =
    let up = ordered_of (entries_within range (entries_of b)) (filter_chain (λ e. is_within range e.key) (entries_of b) (chain_of (entries_of b) r.0.table.are.ordered)) in
    (subst IsOrdered (sym (turned_twice back (entries_within range (entries_of b)))) up, parts_in_turn disk range back tables blocks memory r.1 each)
parts_in_turn disk range back [] (b ∷ blocks) memory r each = absurd r
parts_in_turn disk range back (t ∷ tables) [] memory r each = absurd r

-- a page that has nothing yet, over runs of which nothing was looked at
pub looping_none : {honest : Bool} {old : Meaning} {before : List Reader} {range : KeyRange} {back : Bool} {instant bound max : ℕ} {memory : List (List Entry)} {runs : List PageRun} {page : PageMaker} → StartsAt range back before memory runs
    → goes_back page ≡ back → made page ≡ [] → ((versions : List Entry) → made_with page versions ≡ page_of back instant bound versions)
    → Looping honest old old before before range back instant bound max memory runs page
looping_none {honest} {old} {before} {range} {back} {instant} {bound} {max} {memory} {runs} {page} starts ends none all = record {
  looked = looked_none honest old before;
  fits = subst (λ (rs : List PageRun). Fit before (map ahead_of rs)) (sym starts.2) (fit_at_first range back before starts.0 memory starts.1);
  end = ends;
  few = let n = ap length none in omega (arith, n);
  whole = λ h blocks r up once.
      let is = parts_shuffled range back blocks memory in
      let once_here = once_within range (flat (map entries_of blocks)) (flat (map (in_turn back) memory)) once in
      let first : all_of range blocks runs ≡ parts_of range back blocks ++ memory = ap (all_of range blocks) starts.2 ∙ all_at_first old range back before blocks starts.0 memory r starts.1 in
      let n = ap length none in
      subst (λ (rs : List (List Entry)). IsMade back rs (page_of back instant bound (in_turn back (sorted (versions_of range back blocks memory)))) (made_with page) (made page) max) (sym first) (record {
        ordered = All-from_recursion (IsInTurn back) (parts_of range back blocks ++ memory) (parts_in_turn old range back before blocks memory r (recursion_from_All (IsInTurn back) memory up));
        once = once_shuffled (flat (parts_of range back blocks ++ memory)) (versions_of range back blocks memory) is once_here;
        told = all (in_turn back (sorted (flat (parts_of range back blocks ++ memory)))) ∙ ap (λ (vs : List Entry). page_of back instant bound (in_turn back vs)) (sorted_shuffled (flat (parts_of range back blocks ++ memory)) (versions_of range back blocks memory) is once_here);
        few = omega (arith, n);
      });
}

-- versions were looked at
pub looping_on : {honest : Bool} {old new : Meaning} {before after : List Reader} {range : KeyRange} {back : Bool} {instant bound max : ℕ} {memory : List (List Entry)} {first : List PageRun} {page : PageMaker} (runs : List PageRun) (page_new : PageMaker)
    → Looping honest old new before after range back instant bound max memory first page
    → map ahead_of runs ≡ map ahead_of first → goes_back page_new ≡ back → (length (made page) ≤ max → length (made page_new) ≤ max)
    → ((range : KeyRange) (tables : List (List (List Entry))) (whole : List (Bytes × Bytes)) → IsMade back (all_of range tables first) whole (made_with page) (made page) max → IsMade back (all_of range tables runs) whole (made_with page_new) (made page_new) max)
    → Looping honest old new before after range back instant bound max memory runs page_new
looping_on {before} {range} runs page_new l ahead ends few all = record {
  looked = l.looked;
  fits = subst (Fit before) (sym ahead) l.fits;
  end = ends;
  few = few l.few;
  whole = λ h blocks r up once. all range blocks _ (l.whole h blocks r up once);
}

-- ---- the run that is to be filled

-- a dry run is a table's with a block to come
dry_ahead : (run : PageRun) → is_dry run ≡ true → (a : Ahead) × (ahead_of run ≡ Some a)
dry_ahead (Memory run) dry = absurd (cc dry)
dry_ahead (Table part) dry = (part.ahead, refl)

-- at the place of a reader stands one of the same table now
same_after : (before after : List Reader) (at : ℕ) (t : Reader) → AreSameTables before after → slice_get before at ≡ Some t → (u : Reader) × (slice_get after at ≡ Some u) × IsSameTable t u
same_after [] [] at t s e = absurd (cc e)
same_after (v ∷ before) (w ∷ after) zero t s e = let is : v ≡ t = cc e in (w, refl, subst (λ (r : Reader). IsSameTable r w) is s.0)
same_after (v ∷ before) (w ∷ after) (suc at) t s e = same_after before after at t s.1 e
same_after [] (w ∷ after) at t s e = absurd s
same_after (v ∷ before) [] at t s e = absurd s

-- a place that is within a list has an element
stands_at : {A : Type 0} (xs : List A) (at : ℕ) (d : A) → at < length xs → slice_get xs at ≡ Some (get_or xs at d)
stands_at [] at d lt = absurd (omega (arith, lt))
stands_at (x ∷ xs) zero d lt = refl
stands_at (x ∷ xs) (suc at) d lt = stands_at xs at d (omega (arith, lt))

-- what stands at a place is what is taken from there
is_there : {A : Type 0} (xs : List A) (at : ℕ) (x d : A) → slice_get xs at ≡ Some x → x ≡ get_or xs at d
is_there [] at x d e = absurd (cc e)
is_there (y ∷ xs) zero x d e = sym (some_is y x e)
is_there (y ∷ xs) (suc at) x d e = is_there xs at x d e

-- what is ahead of the run at a place
map_at : (runs : List PageRun) (at : ℕ) (run : PageRun) → slice_get runs at ≡ Some run → slice_get (map ahead_of runs) at ≡ Some (ahead_of run)
map_at [] at run e = absurd (cc e)
map_at (r ∷ runs) zero run e = ap (λ (x : PageRun). Some (ahead_of x)) (some_is r run e)
map_at (r ∷ runs) (suc at) run e = map_at runs at run e

-- The run at a place is dry, and its table has a reader, first and now.
record HasReader (before after : List Reader) (runs : List PageRun) (at : ℕ) (run : PageRun) : Type 0 where
  here : slice_get runs at ≡ Some run
  dry : is_dry run ≡ true
  first : Reader
  was : slice_get before at ≡ Some first
  ends : EndsWithinBlocks (length first.handles) (ahead_of run)
  table : Reader
  there : slice_get after at ≡ Some table
  same : IsSameTable first table

-- the first dry run is so
reader_at : (before after : List Reader) (runs : List PageRun) (at : ℕ) (run : PageRun) → AreSameTables before after → Fit before (map ahead_of runs) → position is_dry runs ≡ Some at → HasReader before after runs at (get_or runs at run)
reader_at before after runs at run same fits found =
    let p = position-Some is_dry runs at run found in
    let here = stands_at runs at run p.0 in
    let a = dry_ahead (get_or runs at run) p.1 in
    let t = fit_at before (map ahead_of runs) at a.0 fits (map_at runs at (get_or runs at run) here ∙ ap (λ (o : Option Ahead). Some o) a.1) in
    let u = same_after before after at t.0 same t.1 in
    record { here = here; dry = p.1; first = t.0; was = t.1; ends = subst (EndsWithinBlocks (length t.0.handles)) (sym a.1) t.2; table = u.0; there = u.1; same = u.2 }

-- there is a reader at its place
pub within_tables : {honest : Bool} {old new : Meaning} {before after : List Reader} {range : KeyRange} {back : Bool} {instant bound max : ℕ} {memory : List (List Entry)} {runs : List PageRun} {page : PageMaker} {answer : Option ℕ} {at : ℕ} (run : PageRun)
    → Looping honest old new before after range back instant bound max memory runs page → IfSome answer (λ at. position is_dry runs ≡ Some at) → answer ≡ Some at → at < length after
within_tables {before} {after} {runs} {at} run l found is =
    let r = reader_at before after runs at run l.looked.table l.fits (subst (λ (o : Option ℕ). IfSome o (λ at. position is_dry runs ≡ Some at)) is found) in
    within after at r.table r.there
  where
    within : (tables : List Reader) (at : ℕ) (t : Reader) → slice_get tables at ≡ Some t → at < length tables
    within [] at t e = absurd (cc e)
    within (u ∷ tables) zero t e = omega arith
    within (u ∷ tables) (suc at) t e = let lt = within tables at t e in omega (arith, lt)

-- The run at a place is dry, this is the reader of its table, and with another run there that ends by the table's blocks the
-- runs fit the tables.
pub record IsDryAt (before after : List Reader) (runs : List PageRun) (at : ℕ) (run : PageRun) (table : Reader) : Type 0 where
  pub here : slice_get runs at ≡ Some run
  pub dry : is_dry run ≡ true
  pub there : slice_get after at ≡ Some table
  pub ends : EndsWithinBlocks (length table.handles) (ahead_of run)
  pub fits : (filled : PageRun) → EndsWithinBlocks (length table.handles) (ahead_of filled) → Fit before (map ahead_of (slice_set runs at filled))

-- the first dry run, which the answer names, is so
pub dry_at : {honest : Bool} {old new : Meaning} {before after : List Reader} {range : KeyRange} {back : Bool} {instant bound max : ℕ} {memory : List (List Entry)} {runs : List PageRun} {page : PageMaker} {answer : Option ℕ} {at : ℕ} (run : PageRun) (table : Reader)
    → Looping honest old new before after range back instant bound max memory runs page → IfSome answer (λ at. position is_dry runs ≡ Some at) → answer ≡ Some at → IsDryAt before after runs at (get_or runs at run) (get_or after at table)
dry_at {before} {after} {runs} {at} run table l found is =
    let r = reader_at before after runs at run l.looked.table l.fits (subst (λ (o : Option ℕ). IfSome o (λ at. position is_dry runs ≡ Some at)) is found) in
    let now = is_there after at r.table table r.there in
    let count : length (get_or after at table).handles ≡ length r.first.handles = ap (λ (u : Reader). length u.handles) (sym now) ∙ ap (λ (hs : List Handle). length hs) r.same.handles in
    record {
      here = r.here;
      dry = r.dry;
      there = r.there ∙ ap (λ (u : Reader). Some u) now;
      ends = subst (λ (n : ℕ). EndsWithinBlocks n (ahead_of (get_or runs at run))) (sym count) r.ends;
      fits = λ filled ends. subst (Fit before) (sym (set_run ahead_of runs at filled)) (fit_set before (map ahead_of runs) at r.first (ahead_of filled) l.fits r.was (subst (λ (n : ℕ). EndsWithinBlocks n (ahead_of filled)) count ends));
    }

-- ---- the run was filled, or could not be

-- its table was read
pub looked_more : {honest : Bool} {old mid new : Meaning} {before after : List Reader} {runs : List PageRun} {at : ℕ} {run : PageRun} {t u : Reader} → Looked honest old mid before after
    → IsDryAt before after runs at run t → IsSameTable t u → LooksOn honest mid new
    → (IsTrue honest → (blocks : List (List Entry)) → ReadsBlocks mid t blocks → ReadsBlocks new u blocks)
    → Looked honest old new before (slice_set after at u)
looked_more {honest} {old} {mid} {new} {before} {after} {at} {t} {u} l d same looks reads = record {
  table = same_set before after at t u l.table d.there same;
  disk = looks_again honest old mid new l.disk looks;
  reads = λ h blocks r.
      let now = l.reads h blocks r in
      let b = read_at mid after blocks at t now d.there in
      read_set new after blocks at u b.0 (all_on honest mid new after blocks looks h now) b.1 (reads h b.0 b.2);
}

-- what the loop keeps, with the run filled
pub looping_filled : {honest : Bool} {old mid new : Meaning} {before after : List Reader} {range : KeyRange} {back : Bool} {instant bound max : ℕ} {memory : List (List Entry)} {runs : List PageRun} {page : PageMaker} {at : ℕ} {run : PageRun} {t u : Reader} (filled : PageRun)
    → Looping honest old mid before after range back instant bound max memory runs page
    → IsDryAt before after runs at run t → IsSameTable t u → LooksOn honest mid new
    → (IsTrue honest → (blocks : List (List Entry)) → ReadsBlocks mid t blocks → ReadsBlocks new u blocks)
    → (IsTrue honest → (blocks : List (List Entry)) → ReadsBlocks mid t blocks → all_in range blocks filled ≡ all_in range blocks run)
    → ((count : ℕ) → EndsWithinBlocks count (ahead_of run) → EndsWithinBlocks count (ahead_of filled))
    → Looping honest old new before (slice_set after at u) range back instant bound max memory (slice_set runs at filled) page
looping_filled {mid} {after} {range} {back} {instant} {bound} {max} {memory} {runs} {page} {at} {run} {t} filled l d same looks reads all ends = record {
  looked = looked_more l.looked d same looks reads;
  fits = d.fits filled (ends (length t.handles) d.ends);
  end = l.end;
  few = l.few;
  whole = λ h blocks r up once.
      let b = read_at mid after blocks at t (l.looked.reads h blocks r) d.there in
      subst (λ (rs : List (List Entry)). IsMade back rs (page_of back instant bound (in_turn back (sorted (versions_of range back blocks memory)))) (made_with page) (made page) max) (sym (all_filled range blocks runs at b.0 run filled b.1 d.here (all h b.0 b.2))) (l.whole h blocks r up once);
}

-- fewer blocks are to come than before versions were looked at
pub fewer_filled : {before after : List Reader} {runs : List PageRun} {at : ℕ} {run : PageRun} {t : Reader} (first : List PageRun) (filled : PageRun) → map ahead_of runs ≡ map ahead_of first → IsDryAt before after runs at run t
    → (IsTrue (is_dry run) → to_come (ahead_of filled) < to_come (ahead_of run)) → all_to_come (map ahead_of (slice_set runs at filled)) < all_to_come (map ahead_of first)
fewer_filled {runs} {at} {run} first filled ahead d fewer =
    let less = fewer_to_come (map ahead_of runs) at (ahead_of run) (ahead_of filled) (map_at runs at run d.here) (fewer d.dry) in
    let set = ap all_to_come (set_run ahead_of runs at filled) in
    let same = ap all_to_come ahead in
    omega (arith, less, set, same)

-- a wrong block of its table was wrong at first, and it is one of the tables
wrong_table : (honest : Bool) (old mid : Meaning) (before after : List Reader) (at : ℕ) (t : Reader) → Looked honest old mid before after → IsTrue honest
    → slice_get after at ≡ Some t → HoldsAWrongBlock (entry_at mid t.name) t.handles → SomeTableIsWrong old before
wrong_table honest old mid before after at t l h there wrong =
    let first = same_at before after at t l.table there in
    let stands : entry_at mid t.name ≡ entry_at old first.0.name = ap (λ (s : DiskState). (s t.name).now) (still honest old mid l.disk h) ∙ ap (λ (n : disk.Name). entry_at old n) first.2.name in
    (at, first.0, first.1, subst (λ (hs : List Handle). HoldsAWrongBlock (entry_at old first.0.name) hs) first.2.handles (subst (λ (e : disk.DiskEntry). HoldsAWrongBlock e t.handles) stands wrong))

-- where filling it was refused, the page may be refused for the same reason
pub refused_there : {honest : Bool} {old mid new : Meaning} {before after : List Reader} {runs : List PageRun} {at : ℕ} {run : PageRun} {t : Reader} (error : Error) → Looked honest old mid before after
    → IsDryAt before after runs at run t → LooksOn honest mid new
    → (IsTrue honest → (blocks : List (List Entry)) → ReadsBlocks mid t blocks → IsRefused (HoldsAWrongBlock (entry_at mid t.name) t.handles) mid.faults new.faults error)
    → IsTrue honest → (entries : List (List Entry)) → AreRead old before entries → IsRefused (SomeTableIsWrong old before) old.faults new.faults error
refused_there {honest} {old} {mid} {before} {after} {at} {t} error l d looks refused h entries read =
    let b = blocks_read old before entries read in
    let one = read_at mid after b.0 at t (l.reads h b.0 b.1) d.there in
    refused_later _ _ _ _ _ error l.disk.later looks.later (wrong_table honest old mid before after at t l h d.there) (refused h one.0 one.2)

-- ---- the page is made

-- the pairs are those of the page that was asked for
pub page_made : {honest : Bool} {old new : Meaning} {before after : List Reader} {range : KeyRange} {back : Bool} {instant bound max : ℕ} {memory : List (List Entry)} {runs : List PageRun} {page : PageMaker} {pairs : List (Bytes × Bytes)} (page_new : PageMaker)
    → Looping honest old new before after range back instant bound max memory runs page → goes_back page_new ≡ back
    → ((range : KeyRange) (tables : List (List (List Entry))) (whole : List (Bytes × Bytes)) → IsMade back (all_of range tables runs) whole (made_with page) (made page) max → take max (made_with page_new []) ≡ take max whole)
    → pairs ≡ in_turn (goes_back page_new) (take max (made_with page_new []))
    → IsTrue honest → (entries : List (List Entry)) → AreRead old before entries → All (IsInTurn back) memory → OnceEach (flat entries ++ flat (map (in_turn back) memory))
    → pairs ≡ in_turn back (take max (page_of back instant bound (in_turn back (sorted (entries_within range (flat entries) ++ flat (map (in_turn back) memory))))))
page_made {old} {before} {range} {back} {instant} {bound} {max} {memory} page_new l ends done is h entries read up once =
    let b = blocks_read old before entries read in
    let came : came_once back b.0 memory = subst (λ (es : List (List Entry)). OnceEach (flat es ++ flat (map (in_turn back) memory))) b.2 once in
    is
    ∙ ap (λ (turned : Bool). in_turn turned (take max (made_with page_new []))) ends
    ∙ ap (λ (ps : List (Bytes × Bytes)). in_turn back ps) (done range b.0 (page_of back instant bound (in_turn back (sorted (versions_of range back b.0 memory)))) (l.whole h b.0 b.1 up came))
    ∙ ap (λ (es : List (List Entry)). in_turn back (take max (page_of back instant bound (in_turn back (sorted (entries_within range (flat es) ++ flat (map (in_turn back) memory))))))) (sym b.2)
