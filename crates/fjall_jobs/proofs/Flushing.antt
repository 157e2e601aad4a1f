-- The input of a flush.
use Rattle.std.proofs.Common.{◌≡◌, ◌∙◌, ℕ, ◌+◌, ◌<◌, Bool, true, false, max, nat_lt, if◌then◌else◌, List, [], ◌∷◌, ◌++◌, None, Global, map, take, length, get_or, refl, ap, subst, sym, arith}
use Rattle.std.specs.List.{All, AllByRecursion}
use Rattle.std.specs.declared.sync.Arc.{Arc}
use Rattle.std.proofs.lemmas.List.{append-nil, append_assoc, take_more}
use Rattle.std.proofs.lemmas.List.Elements.{All-nil, All-cons, recursion_from_All}
use Rattle.fjall_table.specs.Blocks.{Entry, IsEntry, IsOrdered}
use Rattle.fjall_memtable.specs.Jobs.{OnceEach, Same, flushed}
use Rattle.fjall_memtable.specs.Kept.{kept_of}
use Rattle.fjall_memtable.specs.SortedPages.{barrier}
use Rattle.fjall_memtable.specs.Sorted.{IsInTurn, flat, sorted}
use Rattle.fjall_memtable.proofs.Keeping.{flush_kept, kept_ordered}
use Rattle.fjall_cursors.proofs.Heads.{taken_run}
use Rattle.fjall_memtable.specs.declared.part.Part.{Part}
use Rattle.fjall_memtable.specs.Held.{held_of}
use Rattle.fjall_memtable.specs.Parts.{AreApart, HeldPart, IsHeld, clears_in, versions_in}
use Rattle.fjall_memtable.specs.Shares.{shared}
use Rattle.fjall_memtable.proofs.Apart.{all_held}
use Rattle.fjall_memtable.proofs.Onces.{once_in}
use Rattle.fjall_jobs.specs.declared.keeper.Rule.{Rule}
use Rattle.fjall_jobs.specs.declared.made_table.MadeTable.{MadeTable}
use Rattle.fjall_jobs.proofs.Keeping.{same_runs}
use Rattle.fjall_jobs.specs.Inputs.{runs_of}
use Rattle.fjall_jobs.specs.Keeping.{AreSorted, kept_by}
use Rattle.fjall_jobs.specs.Sequences.{MakesTables}
use Rattle.fjall_jobs.specs.Tasks.{IsFlushed, Task}

-- ---- clears one by one

barrier_behind : (instant : ℕ) (clears : List ℕ) (n : ℕ) → barrier instant (clears ++ n ∷ []) ≡ (if nat_lt n instant then max n (barrier instant clears) else barrier instant clears)
barrier_behind instant [] n = refl
barrier_behind instant (m ∷ clears) n = by (nat_lt m instant) (nat_lt n instant) (barrier_behind instant clears n)
  where
    by : (a b : Bool) → barrier instant (clears ++ n ∷ []) ≡ (if b then max n (barrier instant clears) else barrier instant clears)
        → (if a then max m (barrier instant (clears ++ n ∷ [])) else barrier instant (clears ++ n ∷ []))
        ≡ (if b then max n (if a then max m (barrier instant clears) else barrier instant clears) else (if a then max m (barrier instant clears) else barrier instant clears))
    by true true h = omega arith
    by true false h = ap (λ (k : ℕ). max m k) h
    by false true h = h
    by false false h = h

pub barrier_more : (instant : ℕ) (clears : List ℕ) (i bound next : ℕ) → i < length clears → bound ≡ barrier instant (take i clears)
    → next ≡ (if nat_lt (get_or clears i 0) instant then max (get_or clears i 0) bound else bound) → next ≡ barrier instant (take (i + 1) clears)
barrier_more instant clears i bound next lt so_far is =
    let n = get_or clears i 0 in
    is ∙ ap (λ (b : ℕ). if nat_lt n instant then max n b else b) so_far ∙ sym (ap (barrier instant) (take_more clears i 0 lt) ∙ barrier_behind instant (take i clears) n)

-- ---- parts one by one

pub run_more : (parts : List (Arc Part Global)) (i : ℕ) (part : Arc Part Global) (runs : List (List Entry)) (run : List Entry) → i < length parts → part ≡ get_or parts i part
    → runs ≡ take i (runs_of parts) → run ≡ (held_of part.value).versions → runs ++ run ∷ [] ≡ take (i + 1) (runs_of parts)
run_more parts i part runs run lt is so_far here =
    let next : take (i + 1) (runs_of parts) ≡ take i (runs_of parts) ++ (held_of part.value).versions ∷ [] =
    subst (λ (l : List (List Entry)). take (i + 1) l ≡ take i l ++ (held_of part.value).versions ∷ []) (composed parts) (taken_run (λ (p : Arc Part Global). (held_of p.value).versions) parts i part lt is) in
    sym (next ∙ ap (λ (l : List (List Entry)). l ++ (held_of part.value).versions ∷ []) (sym so_far) ∙ ap (λ (r : List Entry). runs ++ r ∷ []) (sym here))
  where
    composed : (ps : List (Arc Part Global)) → map (λ (p : Arc Part Global). (held_of p.value).versions) ps ≡ runs_of ps
    composed [] = refl
    composed (p ∷ ps) = ap (λ (l : List (List Entry)). (held_of p.value).versions ∷ l) (composed ps)

clears_behind : (front : List HeldPart) (h : HeldPart) → clears_in (front ++ h ∷ []) ≡ clears_in front ++ h.clears
clears_behind [] h = append-nil h.clears
clears_behind (g ∷ front) h = ap (λ (l : List ℕ). g.clears ++ l) (clears_behind front h) ∙ sym (append_assoc g.clears (clears_in front) h.clears)

pub clears_more : (parts : List (Arc Part Global)) (i : ℕ) (part : Arc Part Global) (clears more : List ℕ) → i < length parts → part ≡ get_or parts i part
    → clears ≡ clears_in (take i (shared parts)) → more ≡ (held_of part.value).clears → clears ++ more ≡ clears_in (take (i + 1) (shared parts))
clears_more parts i part clears more lt is so_far here =
    sym (ap clears_in (taken_run (λ (p : Arc Part Global). held_of p.value) parts i part lt is) ∙ clears_behind (take i (shared parts)) (held_of part.value)
    ∙ ap (λ (l : List ℕ). l ++ (held_of part.value).clears) (sym so_far) ∙ ap (λ (l : List ℕ). clears ++ l) (sym here))

-- ---- all of them

pub flat_runs : (hs : List HeldPart) → flat (map (λ (h : HeldPart). h.versions) hs) ≡ versions_in hs
flat_runs [] = refl
flat_runs (h ∷ hs) = ap (λ (l : List Entry). h.versions ++ l) (flat_runs hs)

pub input_once : (parts : List (Arc Part Global)) → AreApart (shared parts) → OnceEach (flat (runs_of parts))
input_once parts apart = subst OnceEach (sym (flat_runs (shared parts))) (once_in (shared parts) (all_held parts) apart)

pub both_entries : (xs ys : List Entry) → AllByRecursion IsEntry xs → AllByRecursion IsEntry ys → AllByRecursion IsEntry (xs ++ ys)
both_entries [] ys a b = b
both_entries (x ∷ xs) ys a b = (a.0, both_entries xs ys a.1 b)

input_entries : (parts : List (Arc Part Global)) → AllByRecursion IsEntry (flat (runs_of parts))
input_entries parts = by (shared parts) (recursion_from_All IsHeld (shared parts) (all_held parts))
  where
    by : (hs : List HeldPart) → AllByRecursion IsHeld hs → AllByRecursion IsEntry (flat (map (λ (h : HeldPart). h.versions) hs))
    by [] held = tt
    by (h ∷ hs) held = both_entries h.versions (flat (map (λ (h : HeldPart). h.versions) hs)) (recursion_from_All IsEntry h.versions held.0.each) (by hs held.1)

input_ordered : (parts : List (Arc Part Global)) → All (IsInTurn false) (runs_of parts)
input_ordered parts = by (shared parts) (recursion_from_All IsHeld (shared parts) (all_held parts))
  where
    by : (hs : List HeldPart) → AllByRecursion IsHeld hs → All (IsInTurn false) (map (λ (h : HeldPart). h.versions) hs)
    by [] held = All-nil (IsInTurn false)
    by (h ∷ hs) held = All-cons (IsInTurn false) h.versions (map (λ (h : HeldPart). h.versions) hs) held.0.ordered (by hs held.1)

-- runs that are seen as what they have left
pub runs_are : (runs : List (List Entry)) (parts : List (Arc Part Global)) → runs ≡ runs_of parts → map (λ (run : List Entry). run) runs ≡ runs_of parts
runs_are runs parts is = same_runs runs ∙ is

-- so a job can go through them
pub input_sorted : (runs : List (List Entry)) (parts : List (Arc Part Global)) → runs ≡ runs_of parts → AreApart (shared parts) → AreSorted (map (λ (run : List Entry). run) runs)
input_sorted runs parts is apart =
    subst AreSorted (sym (runs_are runs parts is)) (record { ordered = input_ordered parts; once = input_once parts apart; entries = input_entries parts })

-- ---- what was made of it

pub flushed_is : (task : Task) (rule : Rule) (tables : List MadeTable) (clears : List ℕ) → OnceEach (flat task.runs) → rule.watermark ≡ task.watermark → rule.spends ≡ false
    → rule.bound ≡ barrier (task.watermark + 1) clears → clears ≡ task.clears → MakesTables None tables (kept_by rule None (sorted (flat task.runs))) → IsFlushed task tables clears
flushed_is task rule tables clears once watermark spends bound clears_are made =
    let vs = flat task.runs in
    let rules : kept_by rule None (sorted vs) ≡ kept_of false task.watermark (barrier (task.watermark + 1) task.clears) None (sorted vs) =
    ap (λ (s : Bool). kept_of s rule.watermark rule.bound None (sorted vs)) spends
    ∙ ap (λ (w : ℕ). kept_of false w rule.bound None (sorted vs)) watermark
    ∙ ap (λ (b : ℕ). kept_of false task.watermark b None (sorted vs)) (bound ∙ ap (barrier (task.watermark + 1)) clears_are) in
    let all : flat made.0 ≡ kept_of false task.watermark (barrier (task.watermark + 1) task.clears) None (sorted vs) = made.3 ∙ rules in
    record {
      lists = made.0;
      made = made.1;
      parted = made.2;
      ordered = subst IsOrdered (sym all) (kept_ordered false task.watermark (barrier (task.watermark + 1) task.clears) vs);
      kept = subst (λ (l : List Entry). Same l (flushed task.watermark task.clears vs)) (sym all) (flush_kept task.watermark task.clears vs once);
      clears_are = clears_are;
    }
