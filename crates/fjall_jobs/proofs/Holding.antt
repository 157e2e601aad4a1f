-- All that a keyspace has in memory, as the input of a flush.
use Rattle.std.proofs.Common.{◌≡◌, ◌∙◌, ℕ, ◌+◌, false, List, [], ◌∷◌, ◌++◌, None, Global, map, refl, ap, subst, sym}
use Rattle.std.specs.List.{All, AllByRecursion}
use Rattle.std.specs.declared.sync.Arc.{Arc}
use Rattle.std.proofs.lemmas.List.{append-nil, append_assoc}
use Rattle.std.proofs.lemmas.List.Elements.{All-nil, All-cons, All-push, recursion_from_All}
use Rattle.fjall_table.specs.Blocks.{Entry, IsEntry}
use Rattle.fjall_memtable.specs.Jobs.{OnceEach}
use Rattle.fjall_memtable.specs.SortedPages.{barrier}
use Rattle.fjall_memtable.specs.Sorted.{IsInTurn, flat, sorted}
use Rattle.fjall_memtable.specs.declared.part.Part.{Part}
use Rattle.fjall_memtable.specs.Held.{held_of}
use Rattle.fjall_memtable.specs.Parts.{AreApart, HeldPart, IsHeld, clears_in}
use Rattle.fjall_memtable.specs.Shares.{shared}
use Rattle.fjall_memtable.proofs.Apart.{all_held}
use Rattle.fjall_memtable.proofs.Onces.{once_in}
use Rattle.fjall_jobs.specs.declared.keeper.Rule.{Rule}
use Rattle.fjall_jobs.specs.declared.made_table.MadeTable.{MadeTable}
use Rattle.fjall_jobs.proofs.Flushing.{both_entries, flat_runs, flushed_is}
use Rattle.fjall_jobs.proofs.Keeping.{same_runs}
use Rattle.fjall_jobs.specs.Inputs.{runs_of}
use Rattle.fjall_jobs.specs.Keeping.{AreSorted, kept_by}
use Rattle.fjall_jobs.specs.Sequences.{MakesTables}
use Rattle.fjall_jobs.specs.Tasks.{IsFlushed, Task}

-- the versions of each of these parts
abbrev pub runs_in : List HeldPart → List (List Entry)
runs_in parts = map (λ h. h.versions) parts

-- what a flush of these parts is begun with
abbrev pub task_of : (id keyspace watermark : ℕ) → List HeldPart → Task
task_of id keyspace watermark parts = record { id = id; keyspace = keyspace; watermark = watermark; runs = runs_in parts; clears = clears_in parts }

held_entries : (hs : List HeldPart) → AllByRecursion IsHeld hs → AllByRecursion IsEntry (flat (runs_in hs))
held_entries [] held = tt
held_entries (h ∷ hs) held = both_entries h.versions (flat (runs_in hs)) (recursion_from_All IsEntry h.versions held.0.each) (held_entries hs held.1)

held_ordered : (hs : List HeldPart) → AllByRecursion IsHeld hs → All (IsInTurn false) (runs_in hs)
held_ordered [] held = All-nil (IsInTurn false)
held_ordered (h ∷ hs) held = All-cons (IsInTurn false) h.versions (runs_in hs) held.0.ordered (held_ordered hs held.1)

held_once : (hs : List HeldPart) → All IsHeld hs → AreApart hs → OnceEach (flat (runs_in hs))
held_once hs held apart = subst OnceEach (sym (flat_runs hs)) (once_in hs held apart)

-- the versions of parts that stand apart can be gone through
held_sorted : (hs : List HeldPart) → All IsHeld hs → AreApart hs → AreSorted (runs_in hs)
held_sorted hs held apart =
    let each = recursion_from_All IsHeld hs held in
    record { ordered = held_ordered hs each; once = held_once hs held apart; entries = held_entries hs each }

-- one part more
runs_behind : (front : List HeldPart) (h : HeldPart) → runs_in (front ++ h ∷ []) ≡ runs_in front ++ h.versions ∷ []
runs_behind [] h = refl
runs_behind (g ∷ front) h = ap (λ (l : List (List Entry)). g.versions ∷ l) (runs_behind front h)

clears_behind : (front : List HeldPart) (h : HeldPart) → clears_in (front ++ h ∷ []) ≡ clears_in front ++ h.clears
clears_behind [] h = append-nil h.clears
clears_behind (g ∷ front) h = ap (λ (l : List ℕ). g.clears ++ l) (clears_behind front h) ∙ sym (append_assoc g.clears (clears_in front) h.clears)

module _ (sealed : List (Arc Part Global)) (active : Part) (held : IsHeld (held_of active)) where
  abbrev pub parts : List HeldPart
  parts = shared sealed ++ held_of active ∷ []

  each_held : All IsHeld parts
  each_held = All-push IsHeld (shared sealed) (held_of active) (all_held sealed) held

  -- the runs as they are gone through
  pub runs_seen : (runs : List (List Entry)) → runs ≡ runs_of sealed ++ (held_of active).versions ∷ [] → map (λ (run : List Entry). run) runs ≡ runs_in parts
  runs_seen runs is = same_runs runs ∙ is ∙ sym (runs_behind (shared sealed) (held_of active))

  pub clears_seen : (clears : List ℕ) → clears ≡ clears_in (shared sealed) ++ (held_of active).clears → clears ≡ clears_in parts
  clears_seen clears is = is ∙ sym (clears_behind (shared sealed) (held_of active))

  pub seen_sorted : (runs : List (List Entry)) → runs ≡ runs_of sealed ++ (held_of active).versions ∷ [] → AreApart parts → AreSorted (map (λ (run : List Entry). run) runs)
  seen_sorted runs is apart = subst AreSorted (sym (runs_seen runs is)) (held_sorted parts each_held apart)

  -- what was made of them
  pub memory_flushed : (id keyspace : ℕ) (rule : Rule) (tables : List MadeTable) (clears : List ℕ) (runs : List (List Entry)) → AreApart parts → rule.spends ≡ false
      → rule.bound ≡ barrier (rule.watermark + 1) clears → clears ≡ clears_in (shared sealed) ++ (held_of active).clears → runs ≡ runs_of sealed ++ (held_of active).versions ∷ []
      → MakesTables None tables (kept_by rule None (sorted (flat (map (λ (run : List Entry). run) runs)))) → IsFlushed (task_of id keyspace rule.watermark parts) tables clears
  memory_flushed id keyspace rule tables clears runs apart spends bound told is made =
      flushed_is (task_of id keyspace rule.watermark parts) rule tables clears (held_once parts each_held apart) refl spends bound (clears_seen clears told)
      (subst (λ (rs : List (List Entry)). MakesTables None tables (kept_by rule None (sorted (flat rs)))) (runs_seen runs is) made)
