-- What is read by the entries of a field are the pairs that have it.
use Rattle.std.proofs.Common.{◌≡◌, Bool, true, false, cond, List, [], ◌∷◌, ◌++◌, drop, length, Option, None, Some, refl, ◌∙◌, ap}
use Rattle.std.proofs.Math.Seq.{drop-append_seam}
use Rattle.std.specs.Prelude.{All, filter}
use Rattle.std.proofs.lemmas.List.Elements.{All-cons, All-nil}
use Rattle.std.specs.FinMap.{entries}
use Rattle.fjall_base.specs.Pairs.{Bytes, Pairs, lookup}
use Rattle.fjall_index_entries.specs.Entries.{entry, escaped, front}
use Rattle.fjall_index_entries.specs.Index.{FieldOf, entries_of, found_in, has_field}
use Rattle.fjall_index_entries.specs.Finding.{behind_all, keys_in, valued, with_value}
use Rattle.fjall_index_entries.proofs.Standing.{AreOf, all_stand}

front_entry : (w key : Bytes) → entry w key ≡ front w ++ key
front_entry w key = again (escaped w)
  where
    again : (xs : Bytes) → xs ++ 0 ∷ 1 ∷ key ≡ (xs ++ 0 ∷ 1 ∷ []) ++ key
    again [] = refl
    again (x ∷ xs) = ap (λ ys. x ∷ ys) (again xs)

pub behind_entry : (w key : Bytes) → drop (length (front w)) (entry w key) ≡ key
behind_entry w key = ap (drop (length (front w))) (front_entry w key) ∙ drop-append_seam (front w) key

read_chosen : (m : Pairs) (w : Bytes) (p : Bytes × Bytes) (b : Bool) (fs : List (Bytes × Bytes)) → lookup m p.0 ≡ Some p.1 → valued m (behind_all (length (front w)) (keys_in (entries_of w fs))) ≡ fs
    → valued m (behind_all (length (front w)) (keys_in (entries_of w (cond b (p ∷ fs) fs)))) ≡ cond b (p ∷ fs) fs
read_chosen m w p false fs here rest = rest
read_chosen m w p true fs here rest =
    ap (λ k. with_value k (lookup m k) (valued m (behind_all (length (front w)) (keys_in (entries_of w fs))))) (behind_entry w p.0)
    ∙ ap (λ o. with_value p.0 o (valued m (behind_all (length (front w)) (keys_in (entries_of w fs))))) here
    ∙ ap (λ ps. p ∷ ps) rest

read_all : (field : FieldOf) (m : Pairs) (w : Bytes) (ps : List (Bytes × Bytes)) → AreOf m ps → valued m (behind_all (length (front w)) (keys_in (entries_of w (filter (has_field field w) ps)))) ≡ filter (has_field field w) ps
read_all field m w [] are = refl
read_all field m w (p ∷ ps) are = read_chosen m w p (has_field field w p) (filter (has_field field w) ps) are.0 (read_all field m w ps are.1)

-- what stands behind the fronts of a field's entries are the keys of just the pairs that have it
pub values_are_found : (field : FieldOf) (m : Pairs) (w : Bytes) → valued m (behind_all (length (front w)) (keys_in (entries_of w (found_in field w m)))) ≡ found_in field w m
values_are_found field m w = read_all field m w (entries m) (all_stand m)

-- and whatever keys are read, the pairs that are found stand in the map
pub valued_stand : (m : Pairs) (keys : List Bytes) → All (λ pair. lookup m pair.0 ≡ Some pair.1) (valued m keys)
valued_stand m [] = All-nil (λ (pair : Bytes × Bytes). lookup m pair.0 ≡ Some pair.1)
valued_stand m (key ∷ keys) = by (lookup m key) refl (valued_stand m keys)
  where
    by : (o : Option Bytes) → lookup m key ≡ o → All (λ pair. lookup m pair.0 ≡ Some pair.1) (valued m keys) → All (λ pair. lookup m pair.0 ≡ Some pair.1) (with_value key o (valued m keys))
    by None is rest = rest
    by (Some v) is rest = All-cons (λ (pair : Bytes × Bytes). lookup m pair.0 ≡ Some pair.1) (key, v) (valued m keys) is rest
