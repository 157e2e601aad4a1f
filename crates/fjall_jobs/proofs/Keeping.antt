-- What is kept of versions that come one by one.
use Rattle.std.proofs.Common.{◌≡◌, ◌∙◌, ◌⊎◌, inl, inr, Bool, true, false, List, [], ◌∷◌, ◌++◌, Option, Some, IfSome, refl, ap, map, slice_get, subst, sym}
use Rattle.std.proofs.lemmas.List.{append_assoc}
use Rattle.fjall_base.proofs.Lists.{last_behind}
use Rattle.std.specs.Option.{option_map}
use Rattle.fjall_table.specs.declared.table_entry.TableEntry.{TableEntry}
use Rattle.fjall_table.specs.Blocks.{Entry, IsBefore, IsOrdered, seen}
use Rattle.fjall_table.specs.Writing.{FollowsEntries}
use Rattle.fjall_table.proofs.BlockParts.{ordered_at}
use Rattle.fjall_memtable.specs.Kept.{is_kept}
use Rattle.fjall_jobs.specs.declared.keeper.Rule.{Rule}
use Rattle.fjall_jobs.specs.Keeping.{before_of, kept_by}
use Rattle.fjall_jobs.proofs.Parting.{HasLast, ended}

-- the last of two lists is that of the second, where it has one
last_of_both : (xs ys : List Entry) (v : Entry) → FollowsEntries (xs ++ ys) v → FollowsEntries ys v
last_of_both xs ys v follows = by (ended ys)
  where
    by : (ys ≡ []) ⊎ HasLast ys → FollowsEntries ys v
    by (inl none) = subst (λ (l : List Entry). FollowsEntries l v) (sym none) tt
    by (inr h) =
        let joined : xs ++ ys ≡ (xs ++ h.front) ++ h.last ∷ [] = ap (λ (l : List Entry). xs ++ l) h.is ∙ sym (append_assoc xs h.front (h.last ∷ [])) in
        let here : FollowsEntries ((xs ++ h.front) ++ h.last ∷ []) v = subst (λ (l : List Entry). FollowsEntries l v) joined follows in
        let is : IsBefore h.last v = subst (λ (o : Option Entry). IfSome o (λ w. IsBefore w v)) (last_behind (xs ++ h.front) h.last) here in
        subst (λ (l : List Entry). FollowsEntries l v) (sym h.is) (subst (λ (o : Option Entry). IfSome o (λ w. IsBefore w v)) (sym (last_behind h.front h.last)) is)

-- a version that is kept stands behind what was written
pub kept_follows : (rule : Rule) (before : Option Entry) (written writer rest whole : List Entry) (v : Entry) → is_kept rule.spends rule.watermark rule.bound before v ≡ true
    → (written ++ writer) ++ kept_by rule before (v ∷ rest) ≡ whole → IsOrdered whole → FollowsEntries writer v
kept_follows rule before written writer rest whole v kept all ordered =
    let next : kept_by rule before (v ∷ rest) ≡ v ∷ kept_by rule (Some v) rest = by (is_kept rule.spends rule.watermark rule.bound before v) refl in
    last_of_both written writer v (ordered_at (written ++ writer) (kept_by rule (Some v) rest) v
    (subst IsOrdered (sym all ∙ ap (λ (l : List Entry). (written ++ writer) ++ l) next) ordered))
  where
    by : (b : Bool) → is_kept rule.spends rule.watermark rule.bound before v ≡ b → kept_by rule before (v ∷ rest) ≡ v ∷ kept_by rule (Some v) rest
    by true e = rw e refl
    by false e = absurd (cc (kept, e))

-- of the version before the key and the number alone count
pub by_stamp : (rule : Rule) (v : Entry) (rest : List Entry) → kept_by rule (Some v) rest ≡ kept_by rule (before_of v.key (Some v.number)) rest
by_stamp rule v [] = refl
by_stamp rule v (w ∷ rest) = refl

-- the first version of a run, as it was looked at
pub first_is : (run : List Entry) (v : Entry) (left : List Entry) (found : Option TableEntry) (e : TableEntry) → option_map seen found ≡ slice_get run 0 → found ≡ Some e → run ≡ v ∷ left → seen e ≡ v
first_is run v left found e shown is begins = cc (ap (λ (l : List Entry). slice_get l 0) begins, ap (λ (o : Option TableEntry). option_map seen o) is)

-- runs that are seen as what they have left
pub same_runs : (runs : List (List Entry)) → map (λ (run : List Entry). run) runs ≡ runs
same_runs [] = refl
same_runs (run ∷ runs) = ap (λ (l : List (List Entry)). run ∷ l) (same_runs runs)
