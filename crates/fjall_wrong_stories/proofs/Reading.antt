-- What reads tell.
use Rattle.std.proofs.Common.{◌≡◌, ◌≢◌, ℕ, zero, suc, ◌≤◌, true, false, true≢false, [], ◌∷◌, Any, Option, Some, refl, sym, ap, subst, ◌∙◌, inl, inr, arith}
use Rattle.fjall_base.specs.Pairs.{Bytes}
use Rattle.fjall_base.specs.Store.{Store, kept}
use Rattle.fjall_base.specs.declared.error.Error.{Error}
use Rattle.fjall_base.specs.declared.error.Error.TheVariants.{InvalidName, Io, KeyEmpty, KeyOrder, KeyTooLong, KeyspaceDeleted, Poisoned, SnapshotClosed, TransactionOpen, UnknownKeyspace, ValueTooLong}
use Rattle.fjall_history.specs.declared.reply.Reply.{Reply}
use Rattle.fjall_history.specs.declared.reply.Reply.TheVariants.{Refused, Value}
use Rattle.fjall_consistency.specs.Consistency.{HasCause, IsMade, begins, is_living, value_at}
use Rattle.fjall_wrong_stories.specs.Stories as stories
use Rattle.fjall_wrong_stories.specs.Stories.{Chapter, Ended, IsWrong}
use Rattle.fjall_wrong_stories.proofs.Values.{kept_value}
use Rattle.fjall_wrong_stories.proofs.Chapters.{Served}

-- a read of the present tells what the store has
pub told_value : (present : Store) (id : ℕ) (key : Bytes) (found : Option Bytes)
    → (s : Store) × (Some present ≡ Some s) × (Value found ≡ Value (value_at s id key)) → found ≡ value_at present id key
told_value present id key found h = value_is h.2 ∙ ap (λ (s : Store). value_at s id key) (sym (some_is h.1))
  where
    value_is : {v w : Option Bytes} → Value v ≡ Value w → v ≡ w
    value_is e = cc

    some_is : {s t : Store} → Some s ≡ Some t → s ≡ t
    some_is e = cc

-- a life that reads one key
abbrev pub reads : ℕ → Bytes → Reply → Chapter
reads id key reply = Ended ((stories.get id key, reply) ∷ [])

pub found_is : (start next : Store) (id : ℕ) (key : Bytes) (found : Option Bytes) → Served start (reads id key (Value found)) next → found ≡ value_at start id key
found_is start next id key found s = told_value start id key found s.answers.0.0

-- a store whose first keyspace lives, with what a key has in it
pub record Holds (s : Store) (id : ℕ) (key : Bytes) (value : Option Bytes) : Type 0 where
  pub is_first : id ≡ 1
  pub below : 2 ≤ s.next
  pub living : is_living s id ≡ true
  pub has : value_at s id key ≡ value

pub kept_holds : (s : Store) (id : ℕ) (key : Bytes) (value : Option Bytes) → Holds s id key value → Holds (kept s) id key value
kept_holds s id key value h = record { is_first = h.is_first; below = h.below; living = h.living; has = kept_value s id key h.living ∙ h.has }

-- the only element of a list
pub only : (id : ℕ) (P : ℕ → Type 0) → Any P (id ∷ []) → P id
only id P (zero, x, below, is, p) = subst P (sym is) p
only id P (suc k, x, below, is, p) = absurd (omega (arith, below))

no_any : {X : Type 0} (P : X → Type 0) → Any P [] → ⊥
no_any P (k, x, below, is, p) = omega (arith, below)

-- the first keyspace was made
pub first_made : (s : Store) (id : ℕ) → id ≡ 1 → 2 ≤ s.next → IsMade s id
first_made s id e below = (omega (arith, e), omega (arith, e, below))

-- no read of it is refused but since something ran out
refused : (s : Store) (id : ℕ) (key : Bytes) (value : Option Bytes) (error : Error) → Holds s id key value → HasCause (begins s) (stories.get id key) error
    → IsWrong value (Refused error) → ⊥
refused s id key value UnknownKeyspace h (inl c) wrong = only id (λ i. IsMade s i → ⊥) c (first_made s id h.is_first h.below)
refused s id key value UnknownKeyspace h (inr c) wrong = cc (c.1)
refused s id key value KeyspaceDeleted h c wrong = true≢false (sym h.living ∙ only id (λ i. is_living s i ≡ false) c)
refused s id key value SnapshotClosed h c wrong = cc
refused s id key value TransactionOpen h c wrong = cc (c.0)
refused s id key value KeyEmpty h c wrong = no_any _ c
refused s id key value KeyTooLong h c wrong = no_any _ c
refused s id key value ValueTooLong h (inl c) wrong = c
refused s id key value ValueTooLong h (inr c) wrong = no_any _ c
refused s id key value KeyOrder h c wrong = cc (c.2)
refused s id key value (Io fault) h c wrong = wrong tt
refused s id key value InvalidName h c wrong = cc (c.2)
refused s id key value Poisoned h c wrong = cc
refused s id key value error h c wrong = wrong c

-- another reply than the value isn't told
other_reply : (s : Store) (id : ℕ) (key : Bytes) (value : Option Bytes) (reply : Reply) → Holds s id key value
    → (present : Store) × (Some s ≡ Some present) × (reply ≡ Value (value_at present id key)) → reply ≢ Value value → ⊥
other_reply s id key value reply h told wrong = wrong (told.2 ∙ ap Value (told_value s id key (value_at told.0 id key) (told.0, told.1, refl) ∙ h.has))

-- nor is it told wrong
pub no_wrong_read : (s next : Store) (id : ℕ) (key : Bytes) (value : Option Bytes) (reply : Reply) → Holds s id key value → Served s (reads id key reply) next → IsWrong value reply → ⊥
no_wrong_read s next id key value (Refused error) h served wrong = refused s id key value error h served.answers.0.0 wrong
no_wrong_read s next id key value reply h served wrong = other_reply s id key value reply h served.answers.0.0 wrong
