-- Which numbers come into memtables, and which of them are sealed behind a journal.
use Rattle.std.proofs.Common.{◌≡◌, ℕ, ◌==◌, ◌&&◌, nat_le, Bool, true, false, cond, IsTrue, List, [], ◌∷◌, length, get_or, All, refl, sym, ◌∙◌, ap, subst, arith}
use Rattle.std.specs.List.{list_any}
use Rattle.std.proofs.lemmas.Bool.{and_parts, eqb-true}
use Rattle.std.proofs.lemmas.List.Elements.{All-from_recursion, All-map, All-nil, All-push, recursion_from_All}
use Rattle.fjall_journal.specs.Batches.{Shown}
use Rattle.fjall_table.specs.Blocks.{Entry}
use Rattle.fjall_memtable.specs.Entries.{inserted}
use Rattle.fjall_meta.specs.Views.{entry_of}
use Rattle.fjall_memtable.proofs.Sorting.{all_inserted}
use Rattle.fjall_memtable.specs.Parts.{HeldPart, Memory, empty_from, holds_nothing}
use Rattle.fjall_tree.specs.Puts.{emptied_once, put}
use Rattle.fjall_tree.specs.Trees.{Shape, emptied, floor_of, sealed_off, with_memory}
use Rattle.fjall_tree.proofs.Changes.{first_sealed}
use Rattle.fjall_trees.specs.Forests.{Forest, Planted}
use Rattle.fjall_trees.specs.Sealing.{all_sealed, sealed_once}
use Rattle.fjall_trees.proofs.Changing.{put_has}
use Rattle.fjall_replay.specs.Beside.{all_at_rest, at_rest}
use Rattle.fjall_replay.specs.Parted.{ActivesEmpty, ActivesPass, AllPass, AreUnwritten, HasSealed, all_unwritten}
use Rattle.fjall_replay.specs.Steps.{with_batches}
use Rattle.fjall_replay.proofs.Behind.{un_map}
use Rattle.fjall_replay.proofs.Resting.{KeepsEach, each_batches, floor_at_rest}
use Rattle.fjall_replay.proofs.Sealing.{sealed_has}

-- ---- what comes into active memtables

put_passes : (test : ℕ → Bool) (v : Entry) (shape : Shape) → test v.number ≡ true → AllPass test shape.memory.active → AllPass test (put v shape).memory.active
put_passes test v shape one all =
    put_has (λ s. AllPass test s.memory.active) v shape (λ e. all)
    (λ e. (
      All-from_recursion (λ (w : Entry). test w.number ≡ true) (inserted v shape.memory.active.versions)
          (all_inserted (λ (w : Entry). test w.number ≡ true) v shape.memory.active.versions one (recursion_from_All (λ (w : Entry). test w.number ≡ true) shape.memory.active.versions all.0)),
      all.1,
    ))

emptied_passes : (test : ℕ → Bool) (n : ℕ) (shape : Shape) → test n ≡ true → AllPass test shape.memory.active → AllPass test (emptied_once n shape).memory.active
unfolding emptied_once
emptied_passes test n shape one all = by (list_any (λ m. nat_le n m) shape.memory.active.clears)
  where
    by : (b : Bool) → AllPass test (cond b shape (emptied n shape)).memory.active
    by true = all
    by false = (all.0, All-push (λ (m : ℕ). test m ≡ true) shape.memory.active.clears n all.1 one)

keeps_passing : (test : ℕ → Bool) (b : Shown) → test b.number ≡ true → KeepsEach (λ id shape. AllPass test shape.memory.active) b
keeps_passing test b one = record {
  puts = λ i d lt id shape all. put_passes test (entry_of b.number (get_or b.items i d)) shape one all;
  clears = λ id shape all. emptied_passes test b.number shape one all;
}

pub batches_pass : (test : ℕ → Bool) (counted : ℕ → ℕ → Bool) (batches : List Shown) (trees : Forest) → All (λ b. test b.number ≡ true) batches → ActivesPass test trees
    → ActivesPass test (with_batches counted batches trees)
batches_pass test counted batches trees each =
    each_batches (λ id shape. AllPass test shape.memory.active) counted batches trees (λ i d lt. keeps_passing test (get_or batches i d) (each i d lt))

-- one that holds nothing has no number at all
none_pass : (test : ℕ → Bool) (h : HeldPart) → IsTrue (holds_nothing h) → AllPass test h
none_pass test h none = by h.versions h.clears none
  where
    by : (versions : List Entry) (clears : List ℕ) → (length versions == 0 && length clears == 0) ≡ true → All (λ v. test v.number ≡ true) versions × All (λ n. test n ≡ true) clears
    by [] [] none = (All-nil (λ (v : Entry). test v.number ≡ true), All-nil (λ (n : ℕ). test n ≡ true))
    by [] (n ∷ clears) none = let no = eqb-true (length (n ∷ clears)) 0 none in absurd (omega (arith, no))
    by (v ∷ versions) clears none =
        let no = eqb-true (length (v ∷ versions)) 0 (and_parts (length (v ∷ versions) == 0) (length clears == 0) none).0 in absurd (omega (arith, no))

pub empty_pass : (test : ℕ → Bool) (trees : Forest) → ActivesEmpty trees → ActivesPass test trees
empty_pass test trees none i d lt = none_pass test (get_or trees i d).shape.memory.active (none i d lt)

-- ---- what is sealed

none_sealed : (test : ℕ → Bool) (memory : Memory) → memory.sealed ≡ [] → HasSealed test memory
none_sealed test memory none = record {
  some = subst (All (λ (h : HeldPart). holds_nothing h ≡ false)) (sym none) (All-nil (λ (h : HeldPart). holds_nothing h ≡ false));
  pass = subst (All (AllPass test)) (sym none) (All-nil (AllPass test));
}

-- where nothing is in memory nothing is sealed, and the active memtables are empty
pub unwritten_sealed : (test : ℕ → Bool) (trees : Forest) → AreUnwritten trees → All (λ k. HasSealed test k.shape.memory) trees
unwritten_sealed test trees none i d lt = none_sealed test (get_or trees i d).shape.memory (none i d lt).0

pub unwritten_empty : (trees : Forest) → AreUnwritten trees → ActivesEmpty trees
unwritten_empty trees none i d lt = (none i d lt).1

some_once : (shape : Shape) → All (λ h. holds_nothing h ≡ false) shape.memory.sealed → All (λ h. holds_nothing h ≡ false) (sealed_once shape).memory.sealed
unfolding sealed_once
some_once shape all = by (holds_nothing shape.memory.active) refl
  where
    by : (b : Bool) → holds_nothing shape.memory.active ≡ b → All (λ h. holds_nothing h ≡ false) (cond b shape (sealed_off shape)).memory.sealed
    by true e = all
    by false e = All-push (λ (h : HeldPart). holds_nothing h ≡ false) shape.memory.sealed shape.memory.active all e

seals_one : (test : ℕ → Bool) (shape : Shape) → HasSealed test shape.memory → AllPass test shape.memory.active → HasSealed test (sealed_once shape).memory
seals_one test shape has here = record {
  some = some_once shape has.some;
  pass = sealed_has (λ s. All (AllPass test) s.memory.sealed) shape (λ e. has.pass) (All-push (AllPass test) shape.memory.sealed shape.memory.active has.pass here);
}

pub seals_all : (test : ℕ → Bool) (trees : Forest) → All (λ k. HasSealed test k.shape.memory) trees → ActivesPass test trees → All (λ k. HasSealed test k.shape.memory) (all_sealed trees)
seals_all test trees has here =
    All-map (λ (k : Planted). HasSealed test k.shape.memory) (λ (k : Planted). record { id = k.id; shape = sealed_once k.shape }) trees
    (λ i d lt. seals_one test (get_or trees i d).shape (has i d lt) (here i d lt))

-- the tree with nothing in its active memtable
abbrev resting : Planted → Planted
resting k = record { id = k.id; shape = at_rest k.shape }

-- trees that differ in their active memtables alone have the same ones sealed
pub still_sealed : (test : ℕ → Bool) (old new : Forest) → all_at_rest new ≡ all_at_rest old → All (λ k. HasSealed test k.shape.memory) old → All (λ k. HasSealed test k.shape.memory) new
still_sealed test old new same has =
    λ i d lt. let one = un_map (λ (k : Planted). HasSealed test k.shape.memory) resting new
    (subst (All (λ (k : Planted). HasSealed test k.shape.memory)) (sym same)
    (All-map (λ (k : Planted). HasSealed test k.shape.memory) resting old (λ j e less. record { some = (has j e less).some; pass = (has j e less).pass }))) i d lt in
    record { some = one.some; pass = one.pass }

-- ---- but for what is in memory

abbrev unwritten_from : Planted → ℕ → Planted
unwritten_from k from = record { id = k.id; shape = with_memory (record { sealed = []; active = empty_from from }) k.shape }

rest_unwritten : (trees : Forest) → all_unwritten (all_at_rest trees) ≡ all_unwritten trees
rest_unwritten [] = refl
rest_unwritten (k ∷ trees) = λ i. unwritten_from k (floor_at_rest k.shape i) ∷ rest_unwritten trees i

-- trees that differ in their active memtables alone differ in memory alone
pub same_unwritten : (old new : Forest) → all_at_rest new ≡ all_at_rest old → all_unwritten new ≡ all_unwritten old
same_unwritten old new same = sym (rest_unwritten new) ∙ ap all_unwritten same ∙ rest_unwritten old

once_unwritten : (k : Planted) → unwritten_from (record { id = k.id; shape = sealed_once k.shape }) (floor_of (sealed_once k.shape).memory) ≡ unwritten_from k (floor_of k.shape.memory)
unfolding sealed_once
once_unwritten k = by (holds_nothing k.shape.memory.active)
  where
    by : (b : Bool) → unwritten_from (record { id = k.id; shape = cond b k.shape (sealed_off k.shape) }) (floor_of (cond b k.shape (sealed_off k.shape)).memory) ≡ unwritten_from k (floor_of k.shape.memory)
    by true = refl
    by false = ap (unwritten_from k) (first_sealed k.shape.memory.sealed k.shape.memory.active (empty_from k.shape.memory.active.until))

-- and so do sealed ones
pub sealed_unwritten : (trees : Forest) → all_unwritten (all_sealed trees) ≡ all_unwritten trees
sealed_unwritten [] = refl
sealed_unwritten (k ∷ trees) = λ i. once_unwritten k i ∷ sealed_unwritten trees i
