-- A refusal that the list tells of has its cause there.
use Rattle.std.proofs.Common.{◌≡◌, ℕ, Bool, true, false, not, ◌||◌, if◌then◌else◌, List, [], ◌∷◌, Option, None, Some, refl, sym, subst}
use Rattle.fjall_base.specs.declared.error.Error.{Error}
use Rattle.fjall_base.specs.declared.error.Error.TheVariants.{KeyEmpty, KeyTooLong, KeyspaceDeleted, UnknownKeyspace, ValueTooLong}
use Rattle.fjall_journal.specs.Changes.{Items}
use Rattle.fjall_journal.specs.Ops.{BatchItem}
use Rattle.fjall_history.specs.Queries.{Query}
use Rattle.fjall_history.specs.declared.reply.Reply.TheVariants.{Refused}
use Rattle.fjall_history.specs.declared.ticket.View.TheVariants.{Present}
use Rattle.fjall_machine.specs.Machine.{Facts, MayFail, Refuses, State, StepOf, due, facts, first_due, is_among, is_living, items_refusals, present, read_refusals}
use Rattle.fjall_machine.specs.Shapes.{OfChange, OfRead, Persistence}
use Rattle.fjall_seen.specs.Told.{IsChangeCause, IsReadCause}

-- the refusal that is due is one of these, whose cause is there
module _ (IsCause : Error → Type 0) where
  abbrev Explains : List (Bool × Error) → Type 0
  Explains [] = Unit {0}
  Explains (refusal ∷ rest) = (refusal.0 ≡ true → IsCause refusal.1) × Explains rest

  due_explained : (refusal : Bool × Error) (rest : List (Bool × Error)) (error : Error) (b : Bool) → refusal.0 ≡ b → (refusal.0 ≡ true → IsCause refusal.1) → (first_due rest ≡ Some error → IsCause error)
      → (if b then Some refusal.1 else first_due rest) ≡ Some error → IsCause error
  due_explained refusal rest error true holds explains later told = let same : refusal.1 ≡ error = cc in subst IsCause same (explains holds)
  due_explained refusal rest error false holds explains later told = later told

  first_explained : (refusals : List (Bool × Error)) → Explains refusals → (error : Error) → first_due refusals ≡ Some error → IsCause error
  first_explained [] explains error is = let bad : ⊥ = cc in absurd bad
  first_explained (refusal ∷ rest) explains error is = due_explained refusal rest error refusal.0 refl explains.0 (first_explained rest explains.1 error) is

-- ---- changes

changes_explained : (f : Facts) (items : List BatchItem) → Explains (IsChangeCause f.store items) (items_refusals f items)
changes_explained f items = ((λ is. is), ((λ is. is), ((λ is. is), ((λ is. is), ((λ is. is), ((λ is. tt), ((λ is. tt), ((λ is. tt), tt))))))))

fails_so : (s t : State) (items : List BatchItem) (how : Persistence) (error : Error) → MayFail (OfChange (Items items) how) error s t → IsChangeCause (present s) items error
fails_so s t items how KeyEmpty fails = absurd fails
fails_so s t items how KeyTooLong fails = absurd fails
fails_so s t items how ValueTooLong (long, same) = absurd long
fails_so s t items how UnknownKeyspace fails = absurd fails
fails_so s t items how KeyspaceDeleted fails = absurd fails
fails_so s t items how error fails = tt

pub change_cause : (s t : State) (items : List BatchItem) (how : Persistence) (error : Error) → StepOf s (OfChange (Items items) how) (Refused error) t → IsChangeCause (present s) items error
change_cause s t [] how error fails = fails_so s t [] how error fails
change_cause s t (item ∷ items) how error step = by (due s (OfChange (Items (item ∷ items)) how)) refl step
  where
    by : (first : Option Error) → due s (OfChange (Items (item ∷ items)) how) ≡ first → Refuses first (OfChange (Items (item ∷ items)) how) error s t → IsChangeCause (present s) (item ∷ items) error
    by (Some first) is (same, left) =
        subst (IsChangeCause (present s) (item ∷ items)) (sym same)
        (first_explained (IsChangeCause (present s) (item ∷ items)) (items_refusals (facts s) (item ∷ items)) (changes_explained (facts s) (item ∷ items)) first is)
    by None is fails = fails_so s t (item ∷ items) how error fails

-- ---- reads

unread : (living lasting : Bool) → not (living || lasting) ≡ true → not living ≡ true
unread true lasting is = let bad : ⊥ = cc in absurd bad
unread false lasting is = refl

reads_explained : (f : Facts) (id : ℕ) → Explains (IsReadCause f.store id) (read_refusals f id)
reads_explained f id = ((λ is. is), ((λ is. unread (is_living f.store id) (is_among f.lasting id) is), tt))

unread_so : (s t : State) (id : ℕ) (query : Query) (error : Error) → MayFail (OfRead Present id query) error s t → IsReadCause (present s) id error
unread_so s t id query UnknownKeyspace fails = absurd fails
unread_so s t id query KeyspaceDeleted fails = absurd fails
unread_so s t id query error fails = tt

pub read_cause : (s t : State) (id : ℕ) (query : Query) (error : Error) → StepOf s (OfRead Present id query) (Refused error) t → IsReadCause (present s) id error
read_cause s t id query error step = by (due s (OfRead Present id query)) refl step
  where
    by : (first : Option Error) → due s (OfRead Present id query) ≡ first → Refuses first (OfRead Present id query) error s t → IsReadCause (present s) id error
    by (Some first) is (same, left) =
        subst (IsReadCause (present s) id) (sym same) (first_explained (IsReadCause (present s) id) (read_refusals (facts s) id) (reads_explained (facts s) id) first is)
    by None is fails = unread_so s t id query error fails
