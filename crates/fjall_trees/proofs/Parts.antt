-- The parts of one tree: its numbers, and another part in the place of the one that is written.
use Rattle.std.proofs.Common.{◌≡◌, ℕ, ◌<◌, ◌≤◌, List, [], ◌∷◌, ◌++◌, All, Some, refl, sym, subst, arith}
use Rattle.std.specs.List.{flat_map}
use Rattle.std.proofs.lemmas.List.Concat.{flat_map-append}
use Rattle.std.proofs.lemmas.List.Elements.{All-append, All-head, All-nil, All-pop, All-push, All-tail, All-weaker}
use Rattle.fjall_table.specs.Blocks.{Entry}
use Rattle.fjall_memtable.specs.Jobs.{AreBelow}
use Rattle.fjall_memtable.specs.Sorted.{flat}
use Rattle.fjall_memtable.specs.Parts.{AreApart, HeldPart, IsHeld, clears_in, parts_of, versions_in, with_active}
use Rattle.fjall_memtable.proofs.Apart.{IsNumbered, apart_with, clears_numbered, numbers_below, versions_numbered}
use Rattle.fjall_tree.specs.Trees.{Shape, clears_of, first_from, floor_of, versions_of, with_memory}
use Rattle.fjall_tree.proofs.Changes.{first_same}
use Rattle.fjall_trees.specs.Forests.{IsTree}
use Rattle.fjall_trees.specs.MapTables.{IsOlder}

pub active_held : (shape : Shape) → IsTree shape → IsHeld shape.memory.active
active_held shape is = (All-pop IsHeld (parts_of shape.memory) shape.memory.sealed (Some shape.memory.active) refl is.held).1

-- ---- another part in the place of the one that is written

pub tree_with : (h : HeldPart) (shape : Shape) → IsTree shape → IsHeld h → h.from ≡ shape.memory.active.from → IsTree (with_memory (with_active h shape.memory) shape)
tree_with h shape is held same = record {
  held = All-push IsHeld shape.memory.sealed h (All-pop IsHeld (parts_of shape.memory) shape.memory.sealed (Some shape.memory.active) refl is.held).0 held;
  apart = apart_with shape.memory.sealed shape.memory.active h same is.apart;
  clears = record {
    low = subst (λ (n : ℕ). All (λ m. m < n) shape.clears) (sym (first_same shape.memory.sealed shape.memory.active h same)) is.clears.low;
    ascend = is.clears.ascend;
  };
}

-- ---- all numbers lie below where the last part ends

numbers_end : {X : Type 0} (list : HeldPart → List X) (number : X → ℕ) → IsNumbered list number → (shape : Shape) (n : ℕ) → IsTree shape → shape.memory.active.until ≤ n
    → All (λ x. number x < n) (flat_map list (parts_of shape.memory))
numbers_end {X} list number each shape n is le =
    let sealed = shape.memory.sealed in
    let h = shape.memory.active in
    let held = active_held shape is in
    let bounds : h.from ≤ h.until = held.bounds in
    subst (All (λ (x : X). number x < n)) (sym (flat_map-append list sealed (h ∷ [])))
    (All-append (λ (x : X). number x < n) (flat_map list sealed) (flat_map list (h ∷ []))
    (All-weaker (λ (x : X). number x < h.from) (λ (x : X). number x < n) (λ x low. omega arith) (flat_map list sealed)
    (numbers_below list number each sealed [] h is.held is.apart))
    (All-append (λ (x : X). number x < n) (list h) []
    (All-weaker (λ (x : X). number x < h.until) (λ (x : X). number x < n) (λ x low. omega arith) (list h) (each.high h held)) (All-nil (λ (x : X). number x < n))))

first_low : (sealed : List HeldPart) (h : HeldPart) → All IsHeld (sealed ++ h ∷ []) → AreApart (sealed ++ h ∷ []) → first_from sealed h ≤ h.until
first_low [] h held apart = (All-head IsHeld h [] held).bounds
first_low (g ∷ []) h held apart =
    let here = (All-head IsHeld g (h ∷ []) held).bounds in
    let last = (All-head IsHeld h [] (All-tail IsHeld g (h ∷ []) held)).bounds in
    let next = apart.0 in
    omega arith
first_low (g ∷ k ∷ sealed) h held apart =
    let here = (All-head IsHeld g (k ∷ (sealed ++ h ∷ [])) held).bounds in
    let more = first_low (k ∷ sealed) h (All-tail IsHeld g (k ∷ (sealed ++ h ∷ [])) held) apart.1 in
    let next = apart.0 in
    omega arith

pub versions_end : (shape : Shape) (entries : List (List Entry)) (n : ℕ) → IsTree shape → IsOlder shape entries → shape.memory.active.until ≤ n → AreBelow n (versions_of shape entries)
versions_end shape entries n is older le =
    let floor = first_low shape.memory.sealed shape.memory.active is.held is.apart in
    All-append (λ (v : Entry). v.number < n) (flat entries) (versions_in (parts_of shape.memory))
    (All-weaker (λ (v : Entry). v.number < floor_of shape.memory) (λ (v : Entry). v.number < n) (λ v low. omega arith) (flat entries) older.below)
    (numbers_end (λ h. h.versions) (λ v. v.number) versions_numbered shape n is le)

pub clears_end : (shape : Shape) (n : ℕ) → IsTree shape → shape.memory.active.until ≤ n → All (λ c. c < n) (clears_of shape)
clears_end shape n is le =
    let floor = first_low shape.memory.sealed shape.memory.active is.held is.apart in
    All-append (λ c. c < n) shape.clears (clears_in (parts_of shape.memory))
    (All-weaker (λ c. c < first_from shape.memory.sealed shape.memory.active) (λ c. c < n) (λ c low. omega arith) shape.clears is.clears.low)
    (numbers_end (λ h. h.clears) (λ c. c) clears_numbered shape n is le)
