-- What a tree shows of a key.
use Rattle.std.proofs.Common.{◌≡◌, ℕ, max, Bool, true, false, cond, ltb, List, [], ◌∷◌, ◌++◌, Option, Some, None, refl, sym, ap, ◌∙◌, arith}
use Rattle.std.specs.List.{All}
use Rattle.fjall_base.specs.Pairs.{Bytes}
use Rattle.fjall_table.specs.Blocks.{Entry}
use Rattle.fjall_memtable.specs.Jobs.{AreBelow, AreFrom}
use Rattle.fjall_memtable.specs.Views.{is_seen, later, newest, value_at, value_left}
use Rattle.fjall_memtable.proofs.NewestSeen.{behind_wins, later_none, newest-append}
use Rattle.fjall_memtable.proofs.Shown.{value_shown}
use Rattle.fjall_memtable.specs.SortedPages.{barrier}
use Rattle.fjall_memtable.specs.Sorted.{flat}
use Rattle.fjall_memtable.proofs.Barriers.{barrier_stands}
use Rattle.fjall_memtable.specs.Parts.{AreApart, HeldPart, IsHeld, parts_of, versions_in}
use Rattle.fjall_memtable.proofs.Apart.{from_first, versions_numbered}
use Rattle.fjall_tree.specs.Trees.{Shape, first_from, floor_of, value_from, versions_of}

-- no number in memory is below the floor
memory_from : (sealed : List HeldPart) (active : HeldPart) → All IsHeld (sealed ++ active ∷ []) → AreApart (sealed ++ active ∷ []) → AreFrom (first_from sealed active) (versions_in (sealed ++ active ∷ []))
memory_from [] active held apart = from_first (λ (h : HeldPart). h.versions) (λ (v : Entry). v.number) versions_numbered active [] held apart
memory_from (h ∷ sealed) active held apart = from_first (λ (g : HeldPart). g.versions) (λ (v : Entry). v.number) versions_numbered h (sealed ++ active ∷ []) held apart

-- a version in memory decides
pub newest_in_memory : (key : Bytes) (instant : ℕ) (shape : Shape) (entries : List (List Entry)) (v : Entry) → All IsHeld (parts_of shape.memory) → AreApart (parts_of shape.memory)
    → AreBelow (floor_of shape.memory) (flat entries) → newest key instant (versions_in (parts_of shape.memory)) ≡ Some v → newest key instant (versions_of shape entries) ≡ Some v
newest_in_memory key instant shape entries v held apart below found =
    behind_wins (is_seen key instant) (floor_of shape.memory) (flat entries) (versions_in (parts_of shape.memory)) v below (memory_from shape.memory.sealed shape.memory.active held apart) found

-- and without one the tables do
pub newest_in_tables : (key : Bytes) (instant : ℕ) (shape : Shape) (entries : List (List Entry)) → newest key instant (versions_in (parts_of shape.memory)) ≡ None
    → newest key instant (versions_of shape entries) ≡ newest key instant (flat entries)
newest_in_tables key instant shape entries none =
    newest-append (is_seen key instant) (flat entries) (versions_in (parts_of shape.memory))
    ∙ ap (λ (o : Option Entry). later (newest key instant (flat entries)) o) none ∙ later_none (newest key instant (flat entries))

left_from : (instant : ℕ) (clears : List ℕ) (o : Option Entry) → value_left instant clears o ≡ value_from (barrier instant clears) o
left_from instant clears None = refl
left_from instant clears (Some v) = ap (λ (b : Bool). cond b None v.value) (barrier_stands instant clears v.number)

-- the newest version and the barrier tell the value
pub value_told : (key : Bytes) (instant bound : ℕ) (clears : List ℕ) (versions : List Entry) (o : Option Entry) → bound ≡ barrier instant clears → o ≡ newest key instant versions
    → value_from bound o ≡ value_at key instant clears versions
value_told key instant bound clears versions o is found =
    (λ i. value_from (is i) (found i)) ∙ sym (left_from instant clears (newest key instant versions)) ∙ sym (value_shown key instant clears versions)

-- the greatest clear of two lists is the greater one of theirs
pub barrier-append : (instant : ℕ) (xs ys : List ℕ) → barrier instant (xs ++ ys) ≡ max (barrier instant xs) (barrier instant ys)
barrier-append instant [] ys = omega arith
barrier-append instant (x ∷ xs) ys = by (ltb x instant) (barrier-append instant xs ys)
  where
    by : (b : Bool) → barrier instant (xs ++ ys) ≡ max (barrier instant xs) (barrier instant ys)
        → cond b (max x (barrier instant (xs ++ ys))) (barrier instant (xs ++ ys)) ≡ max (cond b (max x (barrier instant xs)) (barrier instant xs)) (barrier instant ys)
    by true more = omega arith
    by false more = more
