-- All that is in memory: where it begins and ends, and what a flush of all of it takes.
use Rattle.std.proofs.Common.{◌≡◌, ℕ, ◌+◌, ◌-◌, ◌<◌, ◌≤◌, ◌==◌, ◌&&◌, ◌||◌, Bool, true, false, not, List, [], ◌∷◌, ◌++◌, All, None, length, refl, sym, ◌∙◌, ap, subst, arith}
use Rattle.std.proofs.lemmas.Bool.{lt-ltb, true≢false}
use Rattle.std.proofs.lemmas.Bool.Decides.{nat_tests}
use Rattle.std.proofs.lemmas.List.{append-nil}
use Rattle.std.proofs.lemmas.List.Elements.{All-cons, All-head, All-nil, All-tail, All-weaker}
use Rattle.fjall_compaction.specs.Covering.{TakesParts}
use Rattle.fjall_compaction.proofs.Covered.{made_of}
use Rattle.fjall_compaction.proofs.FlushFinishing.{some_between}
use Rattle.fjall_jobs.specs.declared.made_table.MadeTable.{MadeTable}
use Rattle.fjall_jobs.specs.Sequences.{AreMadeTables, AreParted}
use Rattle.fjall_tree.specs.Ingestions.{has_memory, memory_task}
use Rattle.fjall_tree.specs.Trees.{first_from}
use Rattle.fjall_memtable.specs.Parts.{AreApart, HeldPart, IsHeld, Memory, clears_in, holds_nothing, parts_of, versions_in}
use Rattle.fjall_memtable.specs.Sorted.{flat}
use Rattle.fjall_table.specs.Blocks.{Entry}
use Rattle.fjall_memtable.specs.Jobs.{Same, flushed}

-- ---- where memory begins and ends

-- each part ends where memory does, or before
pub end_by : (sealed : List HeldPart) (active : HeldPart) → All IsHeld (sealed ++ active ∷ []) → AreApart (sealed ++ active ∷ []) → All (λ h. h.until ≤ active.until) (sealed ++ active ∷ [])
end_by [] active held apart = All-cons (λ (h : HeldPart). h.until ≤ active.until) active [] (omega arith) (All-nil (λ (h : HeldPart). h.until ≤ active.until))
end_by (h ∷ []) active held apart =
    let bounds = (All-head IsHeld active [] (All-tail IsHeld h (active ∷ []) held)).bounds in
    let next = apart.0 in
    All-cons (λ (k : HeldPart). k.until ≤ active.until) h (active ∷ []) (omega (arith, bounds, next)) (end_by [] active (All-tail IsHeld h (active ∷ []) held) tt)
end_by (h ∷ g ∷ sealed) active held apart =
    let behind = All-tail IsHeld h (g ∷ (sealed ++ active ∷ [])) held in
    let rest = end_by (g ∷ sealed) active behind apart.1 in
    let bounds = (All-head IsHeld g (sealed ++ active ∷ []) behind).bounds in
    let end = All-head (λ (k : HeldPart). k.until ≤ active.until) g (sealed ++ active ∷ []) rest in
    let next = apart.0 in
    All-cons (λ (k : HeldPart). k.until ≤ active.until) h (g ∷ (sealed ++ active ∷ [])) (omega (arith, bounds, next, end)) rest

not_true : (b : Bool) → not b ≡ true → b ≡ false
not_true true is = absurd cc
not_true false is = refl

-- memory that holds something ends behind where it begins
pub begins_before : (sealed : List HeldPart) (active : HeldPart) → All IsHeld (sealed ++ active ∷ []) → AreApart (sealed ++ active ∷ []) → All (λ h. holds_nothing h ≡ false) sealed
    → has_memory (record { sealed = sealed; active = active }) ≡ true → first_from sealed active < active.until
begins_before [] active held apart holds some = some_between active (All-head IsHeld active [] held) (not_true (holds_nothing active) some)
begins_before (h ∷ sealed) active held apart holds some =
    let lt = some_between h (All-head IsHeld h (sealed ++ active ∷ []) held) (All-head (λ (k : HeldPart). holds_nothing k ≡ false) h sealed holds) in
    let le = All-head (λ (k : HeldPart). k.until ≤ active.until) h (sealed ++ active ∷ []) (end_by (h ∷ sealed) active held apart) in
    omega (arith, lt, le)

-- ---- memory that holds nothing

-- has no clear and no version
pub nothing_held : (sealed : List HeldPart) (active : HeldPart) → has_memory (record { sealed = sealed; active = active }) ≡ false
    → (clears_in (sealed ++ active ∷ []) ≡ []) × (versions_in (sealed ++ active ∷ []) ≡ [])
nothing_held [] active none = by active.versions active.clears none
  where
    by : (versions : List Entry) (clears : List ℕ) → not (length versions == 0 && length clears == 0) ≡ false → (clears ++ [] ≡ []) × (versions ++ [] ≡ [])
    by [] [] none = (refl, refl)
    by [] (n ∷ clears) none = let some : (length (n ∷ clears) == 0) ≡ false = grind (arith, nat_tests) in absurd (true≢false (sym (ap not some) ∙ none))
    by (v ∷ versions) clears none =
        let some : (length (v ∷ versions) == 0) ≡ false = grind (arith, nat_tests) in absurd (true≢false (sym (ap (λ b. not (b && length clears == 0)) some) ∙ none))
nothing_held (h ∷ sealed) active none =
    let some = lt-ltb 0 (length (h ∷ sealed)) (omega arith) in absurd (true≢false (sym (ap (λ b. b || not (holds_nothing active)) some) ∙ none))

-- and a flush of it makes nothing
pub nothing_made : (watermark : ℕ) (clears : List ℕ) (input made : List Entry) → Same made (flushed watermark clears input) → input ≡ [] → made ≡ []
nothing_made watermark clears input made same none =
    by made (made_of (λ v. ⊥) watermark clears input made same (subst (All (λ (v : Entry). ⊥)) (sym none) (All-nil (λ (v : Entry). ⊥))))
  where
    by : (made : List Entry) → All (λ v. ⊥) made → made ≡ []
    by [] never = refl
    by (v ∷ made) never = absurd (All-head (λ (v : Entry). ⊥) v made never)

-- and so no table
pub none_listed : (lists : List (List Entry)) → AreParted None lists → flat lists ≡ [] → lists ≡ []
none_listed [] parted none = refl
none_listed (l ∷ []) parted none = absurd (parted (sym (append-nil l) ∙ none))
none_listed (l ∷ k ∷ lists) parted none = absurd parted

pub none_made : (tables : List MadeTable) (lists : List (List Entry)) → AreMadeTables tables lists → lists ≡ [] → tables ≡ []
none_made [] lists made none = refl
none_made (t ∷ tables) [] made none = absurd made
none_made (t ∷ tables) (l ∷ lists) made none = let bad : ⊥ = cc in absurd bad

-- ---- a flush of all of memory

-- takes all parts, up to the number before which memory ends
pub takes_all : (id watermark : ℕ) (memory : Memory) → All IsHeld (parts_of memory) → AreApart (parts_of memory) → 0 < memory.active.until
    → TakesParts (memory.active.until - 1) (memory_task id watermark memory) (parts_of memory) []
takes_all id watermark memory held apart some =
    let parts = parts_of memory in
    record {
      runs = refl;
      clears = refl;
      held = subst (All IsHeld) (sym (append-nil parts)) held;
      apart = subst AreApart (sym (append-nil parts)) apart;
      until = All-weaker (λ (h : HeldPart). h.until ≤ memory.active.until) (λ h. h.until ≤ (memory.active.until - 1) + 1) (λ h le. omega (arith, le, some)) parts (end_by memory.sealed memory.active held apart);
      from = All-nil (λ (h : HeldPart). memory.active.until - 1 < h.from);
    }
