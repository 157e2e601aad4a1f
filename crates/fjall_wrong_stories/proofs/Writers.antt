-- The single writer's transaction stays open until it is ended.
use Rattle.std.proofs.Common.{◌≡◌, ◌≢◌, ◌⊎◌, ℕ, zero, suc, ◌+◌, List, [], ◌∷◌, ◌++◌, slice_set, length, map, Option, Some, None, unwrap_or, refl, sym, ap, subst, ◌∙◌, inl, inr, arith}
use Rattle.std.specs.Prelude.{slice_get, option_map}
use Rattle.std.proofs.lemmas.List.{length-append, length-map, length-set}
use Rattle.std.proofs.lemmas.Option.{get_or_from_slice_get, slice_get-map, slice_get_within}
use Rattle.fjall_base.specs.Pairs.{Bytes}
use Rattle.fjall_base.specs.declared.error.Error.TheVariants.{SnapshotClosed}
use Rattle.fjall_history.specs.declared.reply.Reply.{Reply}
use Rattle.fjall_history.specs.declared.reply.Reply.TheVariants.{Done, Refused}
use Rattle.fjall_calls.specs.declared.call.Kind.TheVariants.{Single}
use Rattle.fjall_calls.specs.declared.call.TxCall.{TxCall}
use Rattle.fjall_calls.specs.declared.call.TxCall.TheVariants.{Begin, Commit, Rollback, Within}
use Rattle.fjall_calls.specs.declared.call.Within.{Within as Inner}
use Rattle.fjall_calls.specs.declared.call.Within.TheVariants as inner
use Rattle.fjall_consistency.specs.Consistency.{IsAnswer, IsWriting, Known, Transaction, after, after_within, begun, commits, named, transactions_after}
use Rattle.fjall_consistency.proofs.Meeting.{met_by}
use Rattle.fjall_wrong_stories.specs.Stories.{LeavesOpen, Step}
use Rattle.fjall_wrong_stories.proofs.Along.{known_after}

-- ---- lists

same_or : (i j : ℕ) → (i ≡ j) ⊎ (i ≢ j)
same_or zero zero = inl refl
same_or zero (suc j) = inr (λ e. omega (arith, e))
same_or (suc i) zero = inr (λ e. omega (arith, e))
same_or (suc i) (suc j) = by (same_or i j)
  where
    by : (i ≡ j) ⊎ (i ≢ j) → (suc i ≡ suc j) ⊎ (suc i ≢ suc j)
    by (inl e) = inl (ap suc e)
    by (inr apart) = inr (λ e. apart (omega (arith, e)))

set_same : {A : Type 0} (xs : List A) (i : ℕ) (x y : A) → slice_get xs i ≡ Some x → slice_get (slice_set xs i y) i ≡ Some y
set_same [] i x y e = cc
set_same (z ∷ xs) zero x y e = refl
set_same (z ∷ xs) (suc i) x y e = set_same xs i x y e

set_other : {A : Type 0} (xs : List A) (i j : ℕ) (y : A) → i ≢ j → slice_get (slice_set xs i y) j ≡ slice_get xs j
set_other [] i j y apart = refl
set_other (x ∷ xs) zero zero y apart = absurd (apart refl)
set_other (x ∷ xs) zero (suc j) y apart = refl
set_other (x ∷ xs) (suc i) zero y apart = refl
set_other (x ∷ xs) (suc i) (suc j) y apart = set_other xs i j y (λ e. apart (ap suc e))

get_left : {A : Type 0} (xs ys : List A) (i : ℕ) (x : A) → slice_get xs i ≡ Some x → slice_get (xs ++ ys) i ≡ Some x
get_left [] ys i x e = cc
get_left (z ∷ xs) ys zero x e = e
get_left (z ∷ xs) ys (suc i) x e = get_left xs ys i x e

get_last : {A : Type 0} (xs : List A) (i : ℕ) (x : A) → length xs ≡ i → slice_get (xs ++ x ∷ []) i ≡ Some x
get_last [] zero x e = refl
get_last [] (suc i) x e = absurd (omega (arith, e))
get_last (z ∷ xs) zero x e = absurd (omega (arith, e))
get_last (z ∷ xs) (suc i) x e = get_last xs i x (omega (arith, e))

-- ---- transactions

-- the place has a transaction of the single writer in a list of transactions
pub record HasWriter (place : ℕ) (all : List (Option Transaction)) : Type 0 where
  pub tx : Transaction
  pub is : slice_get all place ≡ Some (Some tx)
  pub single : tx.kind ≡ Single

-- so one is open
pub is_writing : (place : ℕ) (k : Known) → HasWriter place k.transactions → IsWriting k
is_writing place k w = (place, Some w.tx, slice_get_within k.transactions place (Some w.tx) w.is, get_or_from_slice_get k.transactions place (Some w.tx) (Some w.tx) w.is, w.single)

-- a call within a transaction keeps its kind
same_kind : (tx : Transaction) (call : Inner) → (after_within tx call).kind ≡ tx.kind
same_kind tx (inner.Get id key) = refl
same_kind tx (inner.Page id range back max) = refl
same_kind tx (inner.Write id key op) = refl
same_kind tx (inner.Take id key) = refl
same_kind tx (inner.FetchUpdate id key new) = refl
same_kind tx (inner.UpdateFetch id key new) = refl
same_kind tx (inner.Durability mode) = refl

-- what a call within one leaves
left_within : (k : Known) (place other : ℕ) (call : Inner) → HasWriter place k.transactions
    → HasWriter place (slice_set k.transactions other (option_map (λ tx. after_within tx call) (named k other)))
left_within k place other call w = by (same_or other place)
  where
    named_is : named k place ≡ Some w.tx
    named_is = ap (λ (found : Option (Option Transaction)). unwrap_or found None) w.is

    here : HasWriter place (slice_set k.transactions place (option_map (λ tx. after_within tx call) (named k place)))
    here = record {
      tx = after_within w.tx call;
      is = set_same k.transactions place (Some w.tx) _ w.is ∙ ap (λ (found : Option Transaction). Some (option_map (λ tx. after_within tx call) found)) named_is;
      single = same_kind w.tx call ∙ w.single;
    }

    by : (other ≡ place) ⊎ (other ≢ place) → HasWriter place (slice_set k.transactions other (option_map (λ tx. after_within tx call) (named k other)))
    by (inl e) = subst (λ (o : ℕ). HasWriter place (slice_set k.transactions o (option_map (λ tx. after_within tx call) (named k o)))) (sym e) here
    by (inr apart) = record { tx = w.tx; is = set_other k.transactions other place _ apart ∙ w.is; single = w.single }

-- a call that doesn't end it leaves it
left : (k : Known) (place : ℕ) (call : TxCall) (reply : Reply) → LeavesOpen place call → HasWriter place k.transactions → HasWriter place (transactions_after k call reply)
left k place call (Refused SnapshotClosed) leaves w = w
left k place (Within other call) (Refused error) leaves w = w
left k place (Within other call) reply leaves w = left_within k place other call w
left k place (Commit kind other) reply leaves w = record { tx = w.tx; is = set_other k.transactions other place None leaves ∙ w.is; single = w.single }
left k place (Rollback other) reply leaves w = record { tx = w.tx; is = set_other k.transactions other place None leaves ∙ w.is; single = w.single }
left k place call reply leaves w = w

-- it stays open
met : (keys : List (ℕ × Bytes)) (all more : List (Option Transaction)) (place : ℕ) → HasWriter place all → HasWriter place (map (option_map (met_by keys)) all ++ more)
met keys all more place w = record {
  tx = met_by keys w.tx;
  is = get_left (map (option_map (met_by keys)) all) more place _ (slice_get-map (option_map (met_by keys)) all place ∙ ap (option_map (option_map (met_by keys))) w.is);
  single = w.single;
}

pub writer_stays : (place : ℕ) (k : Known) (step : Step) → IsAnswer k step.0 step.1 → LeavesOpen place step.0 → HasWriter place k.transactions → HasWriter place (after k step.0 step.1).transactions
writer_stays place k step are leaves w = met _ _ _ place (left k place step.0 step.1 leaves w)

-- ---- places

-- each step has a place
same_length : (k : Known) (call : TxCall) (reply : Reply) → length (transactions_after k call reply) ≡ length k.transactions
same_length k call (Refused SnapshotClosed) = refl
same_length k (Within place call) (Refused error) = refl
same_length k (Within place call) reply = length-set _ _ _
same_length k (Commit kind place) reply = length-set _ _ _
same_length k (Rollback place) reply = length-set _ _ _
same_length k call reply = refl

one_more : (k : Known) (call : TxCall) (reply : Reply) → length (after k call reply).transactions ≡ suc (length k.transactions)
one_more k call reply = omega (arith, length-append all (begun k call reply ∷ []), length-map (transactions_after k call reply) (option_map (met_by (commits k call reply))), same_length k call reply)
  where
    all : List (Option Transaction)
    all = map (option_map (met_by (commits k call reply))) (transactions_after k call reply)

pub places : (k : Known) (steps : List Step) → length (known_after k steps).transactions ≡ length k.transactions + length steps
places k [] = omega arith
places k (step ∷ steps) = omega (arith, places (after k step.0 step.1) steps, one_more k step.0 step.1)

-- and the one of a writer's begin has that writer
pub begun_writer : (k : Known) (place : ℕ) → length k.transactions ≡ place → HasWriter place (after k (Begin Single) Done).transactions
begun_writer k place e = record { tx = _; is = get_last _ place _ (length-map _ _ ∙ e); single = refl }
