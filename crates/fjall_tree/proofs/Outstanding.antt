-- What is kept of jobs that are out stays right.
use Rattle.std.proofs.Common.{◌≡◌, ℕ, ◌<◌, ◌≤◌, Bool, true, false, Result, Ok, Err, OnErr, List, [], ◌∷◌, ◌++◌, length, Option, Some, None, refl, ap, subst, sym, ◌∙◌, arith}
use Rattle.std.proofs.Math.Logic.{∥∥₁_map}
use Rattle.std.specs.List.{All}
use Rattle.std.specs.declared.alloc.AllocError.{AllocError}
use Rattle.std.proofs.lemmas.List.{length-append, take-append-le}
use Rattle.fjall_table_reader.specs.Readers.{AreSameTables, Reader, all_unread}
use Rattle.fjall_table_reader.proofs.Several.{all_same_none}
use Rattle.fjall_memtable.specs.Parts.{HeldPart, Memory, clears_in, empty_from, rotated}
use Rattle.fjall_tree.specs.declared.out.FlushOut.{FlushOut}
use Rattle.fjall_tree.specs.declared.out.MergeOut.{MergeOut}
use Rattle.fjall_tree.specs.Out.{IsFlushOf, IsMergeOf}
use Rattle.fjall_tree.specs.Trees.{IsSameShape, IsShape, Shape, floor_of, unread_shape}
use Rattle.fjall_tree.proofs.Changes.{first_sealed}

-- more parts are sealed
pub flush_stays : (sealed more : List HeldPart) (flush : Option FlushOut) → IsFlushOf sealed flush → IsFlushOf (sealed ++ more) flush
flush_stays sealed more None is = tt
flush_stays sealed more (Some out) is =
    let n = length-append sealed more in
    (omega (arith, is.0, n), is.1 ∙ ap clears_in (sym (take-append-le out.count sealed more is.0)))

-- as many tables and clears are there, or more
pub merge_stays : (tables others : List Reader) (clears more : List ℕ) (merge : Option MergeOut) → length tables ≤ length others → length clears ≤ length more
    → IsMergeOf tables clears merge → IsMergeOf others more merge
merge_stays tables others clears more None le also is = tt
merge_stays tables others clears more (Some out) le also is = (omega (arith, is.0, le), omega (arith, is.1, also))

pub same_count : (old new : List Reader) → AreSameTables old new → length old ≡ length new
same_count [] [] same = refl
same_count [] (u ∷ new) same = absurd same
same_count (t ∷ old) [] same = absurd same
same_count (t ∷ old) (u ∷ new) same = let n = same_count old new same.1 in omega (arith, n)

-- the record's clears stay below the same floor
pub shape_stays : (clears : List ℕ) (old new : Memory) → floor_of new ≡ floor_of old → IsShape clears old → IsShape clears new
shape_stays clears old new same is = record { low = subst (λ (n : ℕ). All (λ m. m < n) clears) (sym same) is.low; ascend = is.ascend }

-- What a rotation leaves in memory.
abbrev pub Rotated : Result Bool AllocError → Memory → Memory → Type 0
Rotated result old new = (result ≡ Ok true → new ≡ rotated old) × (result ≡ Ok false → new ≡ old) × OnErr result (new ≡ old)

rotated_is : (result : Result Bool AllocError) (old new : Memory) → Rotated result old new → (P : Memory → Type 0) → P old → P (rotated old) → P new
rotated_is (Ok true) old new is P here there = subst P (sym (is.0 refl)) there
rotated_is (Ok false) old new is P here there = subst P (sym (is.1 refl)) here
rotated_is (Err e) old new is P here there = subst P (sym is.2) here

pub rotated_shape : (result : Result Bool AllocError) (old new : Memory) (clears : List ℕ) → Rotated result old new → IsShape clears old → IsShape clears new
rotated_shape result old new clears is shape =
    rotated_is result old new is (IsShape clears) shape (shape_stays clears old (rotated old) (first_sealed old.sealed old.active (empty_from old.active.until)) shape)

pub rotated_flush : (result : Result Bool AllocError) (old new : Memory) (flush : Option FlushOut) → Rotated result old new → ∥ IsFlushOf old.sealed flush ∥₁ → ∥ IsFlushOf new.sealed flush ∥₁
rotated_flush result old new flush is out =
    rotated_is result old new is (λ (m : Memory). ∥ IsFlushOf m.sealed flush ∥₁) out (∥∥₁_map out (flush_stays old.sealed (old.active ∷ []) flush))

-- other readers of as many tables
pub merge_read : (tables others : List Reader) (clears : List ℕ) (merge : Option MergeOut) → length others ≡ length tables → ∥ IsMergeOf tables clears merge ∥₁ → ∥ IsMergeOf others clears merge ∥₁
merge_read tables others clears merge n out = ∥∥₁_map out (merge_stays tables others clears clears merge (omega (arith, n)) (omega arith))

-- what stands behind others makes them no fewer
pub more_than : {X : Type 0} (xs more all : List X) → all ≡ xs ++ more → length xs ≤ length all
more_than xs more all e = let n = ap length e in let m = length-append xs more in omega (arith, n, m)

-- nothing changed
pub same_shape : (shape : Shape) → IsSameShape shape shape
same_shape shape = record { tables = all_same_none shape.tables; clears = refl; memory = refl; flush = refl; merge = refl }

-- nothing but the blocks that are kept
pub unread_same : (shape : Shape) → IsSameShape shape (unread_shape shape)
unread_same shape = record { tables = by shape.tables; clears = refl; memory = refl; flush = refl; merge = refl }
  where
    by : (ts : List Reader) → AreSameTables ts (all_unread ts)
    by [] = tt
    by (t ∷ ts) = (record { name = refl; info = refl; handles = refl }, by ts)
