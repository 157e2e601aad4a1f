-- Pages of a tree: what is gone through in memory, and what it makes with the tables.
use Rattle.std.proofs.Common.{◌≡◌, ℕ, suc, ◌+◌, ◌-◌, ◌<◌, ◌≤◌, Bool, true, false, List, [], ◌∷◌, ◌++◌, Global, IsFalse, IsTrue, None, length, get_or, map, reverse, take, drop, refl, sym, ap, subst, ◌∙◌, inl, inr, arith}
use Rattle.std.specs.List.{All}
use Rattle.std.specs.declared.sync.Arc.{Arc}
use Rattle.std.proofs.lemmas.Bool.{cases_lt}
use Rattle.std.proofs.lemmas.List.{length-drop, length-reverse, reverse-append, reverse-reverse, take-append-drop, take-append-le, take_all}
use Rattle.std.proofs.lemmas.List.Elements.{All-cons, All-filter, All-head, All-nil, All-tail, filter-append}
use Rattle.fjall_base.specs.Pairs.{Bytes, KeyRange, Pairs, is_within, page, pairs_between}
use Rattle.fjall_table.specs.Blocks.{Entry, IsOrdered}
use Rattle.fjall_table.specs.Tables.{entries_within}
use Rattle.fjall_memtable.specs.Jobs.{AreBelow, OnceEach}
use Rattle.fjall_memtable.specs.Views.{IsView}
use Rattle.fjall_memtable.proofs.Once.{parts_once}
use Rattle.fjall_memtable.proofs.Sameness.{fewer_once}
use Rattle.fjall_memtable.specs.SortedPages.{barrier, pairs_back, pairs_of}
use Rattle.fjall_memtable.specs.Sorted.{IsInTurn, flat, in_turn, sorted}
use Rattle.fjall_memtable.proofs.SortedOrders.{filter_chain}
use Rattle.fjall_memtable.proofs.SortedRanges.{bounds_first}
use Rattle.fjall_memtable.proofs.Sorting.{chain_of, ordered_of}
use Rattle.fjall_memtable.proofs.Viewing as Viewing
use Rattle.fjall_cursors.proofs.Heads.{taken_run}
use Rattle.fjall_memtable.specs.declared.part.Part.{Part}
use Rattle.fjall_memtable.specs.Held.{held_of}
use Rattle.fjall_memtable.specs.Parts.{AreApart, HeldPart, IsHeld, parts_of, versions_in}
use Rattle.fjall_memtable.specs.Shares.{shared}
use Rattle.fjall_memtable.proofs.Onces.{once_in}
use Rattle.fjall_cursors.specs.Pages.{page_of}
use Rattle.fjall_cursors.proofs.Looping.{turned_twice}
use Rattle.fjall_cursors.proofs.Orders.{IsShuffled, flat_shuffled, once_shuffled, sorted_shuffled}
use Rattle.fjall_tree.specs.Pages.{run_of}
use Rattle.fjall_tree.specs.Trees.{Shape, clears_of, floor_of, versions_of}
use Rattle.fjall_tree.proofs.Flushed.{from_floor}

-- ---- the runs of parts

-- those of shared parts
abbrev pub runs_in : KeyRange → Bool → List (Arc Part Global) → List (List Entry)
runs_in range back parts = map (λ (p : Arc Part Global). run_of range back (held_of p.value)) parts

pub runs_are : (range : KeyRange) (back : Bool) (parts : List (Arc Part Global)) → runs_in range back parts ≡ map (run_of range back) (shared parts)
runs_are range back [] = refl
runs_are range back (p ∷ parts) = ap (λ (l : List (List Entry)). run_of range back (held_of p.value) ∷ l) (runs_are range back parts)

pub run_taken : (range : KeyRange) (back : Bool) (parts : List (Arc Part Global)) (i : ℕ) (part : Arc Part Global) (runs all : List (List Entry)) (run : List Entry) → i < length parts → part ≡ get_or parts i part
    → runs ≡ take i (runs_in range back parts) → run ≡ run_of range back (held_of part.value) → all ≡ runs ++ run ∷ [] → all ≡ take (i + 1) (runs_in range back parts)
run_taken range back parts i part runs all run lt is so_far here told =
    told ∙ (λ j. so_far j ++ here j ∷ []) ∙ sym (taken_run (λ (p : Arc Part Global). run_of range back (held_of p.value)) parts i part lt is)

pub runs_of_all : (range : KeyRange) (back : Bool) (parts : List (Arc Part Global)) (active : HeldPart) (i : ℕ) (runs all : List (List Entry)) (run : List Entry) → length parts ≤ i
    → runs ≡ take i (runs_in range back parts) → run ≡ run_of range back active → all ≡ runs ++ run ∷ [] → all ≡ map (run_of range back) (shared parts ++ active ∷ [])
runs_of_all range back parts active i runs all run le so_far here told =
    let n = length_runs parts in
    told ∙ (λ j. so_far j ++ here j ∷ []) ∙ ap (λ (l : List (List Entry)). l ++ run_of range back active ∷ []) (take_all i (runs_in range back parts) (omega (arith, le, n)) ∙ runs_are range back parts)
    ∙ sym (map_behind (shared parts))
  where
    length_runs : (ps : List (Arc Part Global)) → length (runs_in range back ps) ≡ length ps
    length_runs [] = refl
    length_runs (p ∷ ps) = ap suc (length_runs ps)

    map_behind : (hs : List HeldPart) → map (run_of range back) (hs ++ active ∷ []) ≡ map (run_of range back) hs ++ run_of range back active ∷ []
    map_behind [] = refl
    map_behind (h ∷ hs) = ap (λ (l : List (List Entry)). run_of range back h ∷ l) (map_behind hs)

-- ---- what they hold

-- between bounds, all versions of these parts
pub memory_is : (range : KeyRange) (back : Bool) (hs : List HeldPart) → flat (map (in_turn back) (map (run_of range back) hs)) ≡ entries_within range (versions_in hs)
memory_is range back [] = refl
memory_is range back (h ∷ hs) =
    (λ i. turned_twice back (entries_within range h.versions) i ++ memory_is range back hs i) ∙ sym (filter-append (λ (e : Entry). is_within range e.key) h.versions (versions_in hs))

pub memory_ordered : (range : KeyRange) (back : Bool) (hs : List HeldPart) → All IsHeld hs → All (IsInTurn back) (map (run_of range back) hs)
memory_ordered range back [] held = All-nil (IsInTurn back)
memory_ordered range back (h ∷ hs) held =
    let up = ordered_of (entries_within range h.versions) (filter_chain (λ (e : Entry). is_within range e.key) h.versions (chain_of h.versions (All-head IsHeld h hs held).ordered)) in
    All-cons (IsInTurn back) (run_of range back h) (map (run_of range back) hs) (subst IsOrdered (sym (turned_twice back (entries_within range h.versions))) up) (memory_ordered range back hs (All-tail IsHeld h hs held))

-- ---- no version twice

module _ (shape : Shape) (entries : List (List Entry)) (held : All IsHeld (parts_of shape.memory)) (apart : AreApart (parts_of shape.memory)) (below : AreBelow (floor_of shape.memory) (flat entries)) (once : OnceEach (flat entries)) where
  pub all_once : OnceEach (versions_of shape entries)
  all_once = parts_once (floor_of shape.memory) (flat entries) (versions_in (parts_of shape.memory)) below (from_floor shape.memory.sealed shape.memory.active held apart) once (once_in (parts_of shape.memory) held apart)

  pub pages_once : (range : KeyRange) (back : Bool) → OnceEach (flat entries ++ flat (map (in_turn back) (map (run_of range back) (parts_of shape.memory))))
  pages_once range back =
      let memory = versions_in (parts_of shape.memory) in
      subst (λ (l : List Entry). OnceEach (flat entries ++ l)) (sym (memory_is range back (parts_of shape.memory)))
      (parts_once (floor_of shape.memory) (flat entries) (entries_within range memory) below
      (All-filter (λ (e : Entry). is_within range e.key) (λ (v : Entry). floor_of shape.memory ≤ v.number) memory (from_floor shape.memory.sealed shape.memory.active held apart)) once
      (fewer_once (λ (e : Entry). is_within range e.key) memory (once_in (parts_of shape.memory) held apart)))

-- ---- the page

-- the last elements, taken from behind
last_taken : {X : Type 0} (m : ℕ) (xs : List X) → reverse (take m (reverse xs)) ≡ drop (length xs - m) xs
last_taken m xs =
    let k = length xs - m in
    let left = length-drop k xs in
    let turned = length-reverse (drop k xs) in
    let front = length-reverse xs in
    elim (cases_lt (length xs) m) [
      | inl h ↦
          let none : k ≡ 0 = omega (arith, h) in
          ap (λ (l : List _). reverse l) (take_all m (reverse xs) (omega (arith, h, front))) ∙ reverse-reverse xs ∙ sym (ap (λ (n : ℕ). drop n xs) none)
      | inr h ↦
          let parted : reverse xs ≡ reverse (drop k xs) ++ reverse (take k xs) = ap (λ (l : List _). reverse l) (sym (take-append-drop k xs)) ∙ reverse-append (take k xs) (drop k xs) in
          ap (λ (l : List _). reverse (take m l)) parted
          ∙ ap (λ (l : List _). reverse l) (take-append-le m (reverse (drop k xs)) (reverse (take k xs)) (omega (arith, h, left, turned)) ∙ take_all m (reverse (drop k xs)) (omega (arith, h, left, turned)))
          ∙ reverse-reverse (drop k xs)
    ]

page_is : (back : Bool) (m : ℕ) (pairs : List (Bytes × Bytes)) → in_turn back (take m (in_turn back pairs)) ≡ page back m pairs
page_is false m pairs = refl
page_is true m pairs = last_taken m pairs

view_is : (back : Bool) (instant : ℕ) (clears : List ℕ) (range : KeyRange) (versions : List Entry) (pairs : Pairs) → OnceEach versions → IsView instant clears versions pairs
    → page_of back instant (barrier instant clears) (in_turn back (entries_within range (sorted versions))) ≡ in_turn back (pairs_between range pairs)
view_is false instant clears range versions pairs once view = Viewing.forward instant clears range versions pairs once view
view_is true instant clears range versions pairs once view = Viewing.back instant clears range versions pairs once view

-- what is made of the tables and of these runs is the view's page
pub page_found : (range : KeyRange) (back : Bool) (instant bound max : ℕ) (shape : Shape) (entries memory : List (List Entry)) (pairs : Pairs) (found : List (Bytes × Bytes))
    → OnceEach (versions_of shape entries) → IsView instant (clears_of shape) (versions_of shape entries) pairs → bound ≡ barrier instant (clears_of shape)
    → memory ≡ map (run_of range back) (parts_of shape.memory)
    → found ≡ in_turn back (take max (page_of back instant bound (in_turn back (sorted (entries_within range (flat entries) ++ flat (map (in_turn back) memory))))))
    → found ≡ page back max (pairs_between range pairs)
page_found range back instant bound max shape entries memory pairs found once view bound_is runs is =
    let all : entries_within range (flat entries) ++ flat (map (in_turn back) memory) ≡ entries_within range (versions_of shape entries) =
    ap (λ (l : List (List Entry)). entries_within range (flat entries) ++ flat (map (in_turn back) l)) runs
    ∙ ap (λ (l : List Entry). entries_within range (flat entries) ++ l) (memory_is range back (parts_of shape.memory))
    ∙ sym (filter-append (λ (e : Entry). is_within range e.key) (flat entries) (versions_in (parts_of shape.memory))) in
    let told = ap sorted all ∙ bounds_first range (versions_of shape entries) in
    is
    ∙ (λ i. in_turn back (take max (page_of back instant (bound_is i) (in_turn back (told i)))))
    ∙ ap (λ (ps : List (Bytes × Bytes)). in_turn back (take max ps)) (view_is back instant (clears_of shape) range (versions_of shape entries) pairs once view)
    ∙ page_is back max (pairs_between range pairs)

-- ---- pages of memory alone

twice : (back : Bool) (runs : List (List Entry)) → map (in_turn back) (map (in_turn back) runs) ≡ runs
twice back [] = refl
twice back (run ∷ runs) = λ i. turned_twice back run i ∷ twice back runs i

-- gone through from behind or not, runs hold the same
turned_shuffled : (back : Bool) (runs : List (List Entry)) → IsShuffled (flat runs) (flat (map (in_turn back) runs))
turned_shuffled back runs = subst (λ (l : List (List Entry)). IsShuffled (flat l) (flat (map (in_turn back) runs))) (twice back runs) (flat_shuffled back (map (in_turn back) runs))

pub runs_themselves : (runs : List (List Entry)) → map (λ run. run) runs ≡ runs
runs_themselves [] = refl
runs_themselves (run ∷ runs) = ap (λ (l : List (List Entry)). run ∷ l) (runs_themselves runs)

-- what a page is made of, from either end
pub page_told : (back : Bool) (instant bound m : ℕ) (versions : List Entry) (found : List (Bytes × Bytes))
    → (IsFalse back → found ≡ take m (pairs_of instant bound None (sorted versions)))
    → (IsTrue back → found ≡ reverse (take m (pairs_back instant bound None (reverse (sorted versions)))))
    → found ≡ in_turn back (take m (page_of back instant bound (in_turn back (sorted versions))))
page_told false instant bound m versions found forward backward = forward refl
page_told true instant bound m versions found forward backward = backward refl

module _ (shape : Shape) (held : All IsHeld (parts_of shape.memory)) (apart : AreApart (parts_of shape.memory)) where
  below : AreBelow (floor_of shape.memory) (flat [])
  below = All-nil (λ (v : Entry). v.number < floor_of shape.memory)

  pub memory_once : (range : KeyRange) (back : Bool) (runs : List (List Entry)) → runs ≡ map (run_of range back) (parts_of shape.memory) → OnceEach (flat runs)
  memory_once range back runs are =
      once_shuffled (flat runs) (flat (map (in_turn back) runs)) (turned_shuffled back runs)
      (subst (λ (l : List (List Entry)). OnceEach (flat (map (in_turn back) l))) (sym are) (pages_once shape [] held apart below tt range back))

  pub memory_page : (range : KeyRange) (back : Bool) (instant bound m : ℕ) (runs : List (List Entry)) (pairs : Pairs) (found : List (Bytes × Bytes))
      → IsView instant (clears_of shape) (versions_of shape []) pairs → bound ≡ barrier instant (clears_of shape) → runs ≡ map (run_of range back) (parts_of shape.memory)
      → found ≡ in_turn back (take m (page_of back instant bound (in_turn back (sorted (flat runs)))))
      → found ≡ page back m (pairs_between range pairs)
  memory_page range back instant bound m runs pairs found view bound_is are is =
      let same = sorted_shuffled (flat (map (in_turn back) runs)) (flat runs) (flat_shuffled back runs) (memory_once range back runs are) in
      page_found range back instant bound m shape [] runs pairs found (all_once shape [] held apart below tt) view bound_is are
      (is ∙ ap (λ (vs : List Entry). in_turn back (take m (page_of back instant bound (in_turn back vs)))) (sym same))
