-- The open table has room for an entry.
use Rattle.std.proofs.Common.{◌≡◌, ◌≢◌, ◌∙◌, ◌-◌, ◌^◌, ℕ, List, [], ◌∷◌, ◌++◌, Option, Some, None, Result, Ok, Err, OnOk, min, ap, subst, sym}
use Rattle.std.proofs.lemmas.List.{append-nil}
use Rattle.fjall_base.specs.declared.error.Error.{Error}
use Rattle.fjall_table.specs.Blocks.{Entry}
use Rattle.fjall_memtable.specs.Kept.{size_of_all}
use Rattle.fjall_memtable.specs.Sorted.{flat}
use Rattle.fjall_jobs.specs.declared.sequence.TableSequence.{TableSequence}
use Rattle.fjall_jobs.specs.Sequences.{AreMadeTables, AreParted, HasRoomForEntry, IsClosingDue, IsSequence, with_open}
use Rattle.fjall_jobs.proofs.Parting.{flat_more, parted_more, parted_next}

-- where none is due to be closed
pub room_kept : (s : TableSequence) (closed : List (List Entry)) (key : List ℕ) → IsSequence s closed → (IsClosingDue s.target s.writer key → ⊥) → HasRoomForEntry s closed key
room_kept s closed key is free = record {
  made = is.made;
  size_is = is.size_is;
  extends = λ e same. parted_more s.target closed s.writer e is.parted is.begun (λ due. free (subst (λ (k : List ℕ). IsClosingDue s.target s.writer k) same due));
}

-- an open table that is due to be closed holds something
due_some : (target : Option ℕ) (vs : List Entry) (key : List ℕ) → IsClosingDue target vs key → vs ≢ []
due_some None vs key due e = due
due_some (Some target) [] key due e = due.1
due_some (Some target) (v ∷ vs) key due e = cc

-- where the open one was closed
pub room_made : (old new : TableSequence) (closed : List (List Entry)) (key : List ℕ) (result : Result (Unit {0}) Error) → IsSequence old closed → IsClosingDue old.target old.writer key
    → (old.writer ≢ [] → OnOk result (AreMadeTables new.closed.items (closed ++ old.writer ∷ []))) → OnOk result (new.writer ≡ []) → OnOk result (new.size ≡ 0)
    → new.target ≡ old.target
    → OnOk result ((more : List (List Entry)) × HasRoomForEntry new more key × (flat more ++ new.writer ≡ flat closed ++ old.writer))
room_made old new closed key (Err e) is due made empty size target = tt
room_made old new closed key (Ok t) is due made empty size target = (
  closed ++ old.writer ∷ [],
  record {
    made = made (due_some old.target old.writer key due);
    size_is = size ∙ ap (λ (l : List Entry). min (size_of_all l) (2 ^ 64 - 1)) (sym empty);
    extends = λ e same. subst (λ (l : List Entry). AreParted new.target (with_open (closed ++ old.writer ∷ []) (l ++ e ∷ []))) (sym empty)
        (subst (λ (t : Option ℕ). AreParted t ((closed ++ old.writer ∷ []) ++ (e ∷ []) ∷ [])) (sym target)
        (parted_next old.target closed old.writer e is.parted (subst (λ (k : List ℕ). IsClosingDue old.target old.writer k) (sym same) due)));
  },
  ap (λ (l : List Entry). flat (closed ++ old.writer ∷ []) ++ l) empty ∙ append-nil (flat (closed ++ old.writer ∷ [])) ∙ flat_more closed old.writer,
)
