-- Of each run it is known which sync was the last that succeeded.
use Rattle.std.proofs.Common.{◌≡◌, ◌⊎◌, inl, inr, ℕ, zero, suc, ◌<◌, Bool, true, false, List, [], ◌∷◌, Option, None, Some, refl, sym, arith}
use Rattle.std.proofs.lemmas.Bool.{true≢false}
use Rattle.fjall_base.specs.Store.{Command, Store}
use Rattle.fjall_journal.specs.declared.persist_mode.PersistMode.{PersistMode}
use Rattle.fjall_journal.specs.declared.persist_mode.PersistMode.TheVariants.{Buffer, SyncAll, SyncData}
use Rattle.fjall_machine.specs.declared.call.Call.{Call}
use Rattle.fjall_journal.specs.Changes.{Emptied, Items}
use Rattle.fjall_machine.specs.Shapes.{CallShape, OfChange, OfCount, OfCreation, OfDeletion, OfFlushBegin, OfFlushFinish, OfHandle, OfIngestion, OfJournalRotation, OfMaintenance, OfMergeBegin, OfMergeFinish, OfPersist, OfRead, OfRotation, OfTickets, shape_of}
use Rattle.fjall_history.specs.declared.reply.Reply.{Reply}
use Rattle.fjall_history.specs.declared.reply.Reply.TheVariants.{Refused}
use Rattle.fjall_machine.specs.Machine.{State, begins_flush, names_one, is_living, mode_in, present}
use Rattle.fjall_engine.specs.Holding.{Held}
use Rattle.fjall_engine.specs.Durables.{Durable}
use Rattle.fjall_engine.specs.Crashes.{IsSync, IsSyncAt, IsSyncMode, IsSyncOf, RunOn, Syncs}
use Rattle.fjall_calls.specs.Lives.{LastSync, NoSync, Served, UpTo, life_begun, start_of}
use Rattle.fjall_engine.specs.Openings.{OpensAs}

is_true_or_not : (b : Bool) → (b ≡ true) ⊎ (b ≡ true → ⊥)
is_true_or_not true = inl refl
is_true_or_not false = inr (λ is. true≢false (sym is))

is_false_or_not : (b : Bool) → (b ≡ false) ⊎ (b ≡ false → ⊥)
is_false_or_not true = inr (λ is. true≢false is)
is_false_or_not false = inl refl

-- a mode syncs, or it doesn't
mode_or_not : (mode : PersistMode) → IsSyncMode mode ⊎ (IsSyncMode mode → ⊥)
mode_or_not Buffer = inr (λ sync. sync)
mode_or_not SyncData = inl tt
mode_or_not SyncAll = inl tt

given_or_not : (mode : Option PersistMode) → IsSyncOf mode ⊎ (IsSyncOf mode → ⊥)
given_or_not None = inr (λ sync. sync)
given_or_not (Some mode) = mode_or_not mode

-- a call is one that syncs, or it isn't
syncs_or_not : (s : State) (shape : CallShape) → Syncs s shape ⊎ (Syncs s shape → ⊥)
syncs_or_not s (OfChange (Items []) how) = inr (λ sync. sync)
syncs_or_not s (OfChange (Items (item ∷ items)) how) = given_or_not (mode_in (present s) how)
syncs_or_not s (OfChange (Emptied id) how) = given_or_not (mode_in (present s) how)
syncs_or_not s (OfIngestion id []) = inr (λ sync. sync)
syncs_or_not s (OfIngestion id (item ∷ items)) = inl tt
syncs_or_not s (OfCreation name options) = is_false_or_not (names_one (present s) name)
syncs_or_not s (OfDeletion id) = is_true_or_not (is_living (present s) id)
syncs_or_not s (OfHandle call id) = inr (λ sync. sync)
syncs_or_not s (OfRead view id query) = inr (λ sync. sync)
syncs_or_not s (OfRotation id) = inr (λ sync. sync)
syncs_or_not s OfJournalRotation = inl tt
syncs_or_not s (OfFlushBegin id) = is_true_or_not (begins_flush s.parts.trees id)
syncs_or_not s (OfFlushFinish job) = inr (λ sync. sync)
syncs_or_not s (OfMergeBegin kind id) = inr (λ sync. sync)
syncs_or_not s (OfMergeFinish job) = inr (λ sync. sync)
syncs_or_not s OfMaintenance = inr (λ sync. sync)
syncs_or_not s (OfTickets call) = inr (λ sync. sync)
syncs_or_not s (OfPersist mode) = mode_or_not mode
syncs_or_not s (OfCount count) = inr (λ sync. sync)

-- a call with its reply was a sync, or it wasn't
sync_or_not : (s : State) (shape : CallShape) (reply : Reply) → IsSync s shape reply ⊎ (IsSync s shape reply → ⊥)
sync_or_not s shape (Refused error) = inr (λ sync. sync)
sync_or_not s shape reply = syncs_or_not s shape

-- the last place of a run with a sync, or that it has none
abbrev pub LastPlace : (s : State) (d : Durable) (calls : List Call) (replies : List Reply) (tried : List Command) (t : State) (e : Durable) → RunOn s d calls replies tried t e → Type 0
LastPlace s d calls replies tried t e run =
    ((i : ℕ) × IsSyncAt s d calls replies tried t e run i × ((j : ℕ) → i < j → IsSyncAt s d calls replies tried t e run j → ⊥))
    ⊎ ((i : ℕ) → IsSyncAt s d calls replies tried t e run i → ⊥)

last_place : (s t : State) (d e : Durable) (calls : List Call) (replies : List Reply) (tried : List Command) (run : RunOn s d calls replies tried t e) → LastPlace s d calls replies tried t e run
last_place s t d e [] [] tried run = inr (λ i sync. sync)
last_place s t d e (c ∷ calls) (r ∷ replies) tried (mid, on, rest, step, call, is, run) = by (last_place mid t on e calls replies rest run) (sync_or_not s (shape_of c) r)
  where
    by : LastPlace mid on calls replies rest t e run → IsSync s (shape_of c) r ⊎ (IsSync s (shape_of c) r → ⊥) → LastPlace s d (c ∷ calls) (r ∷ replies) tried t e (mid, on, rest, step, call, is, run)
    by (inl (i, sync, none)) first = inl (suc i, sync, λ j lt at. later i none j lt at)
      where
        later : (i : ℕ) → ((j : ℕ) → i < j → IsSyncAt mid on calls replies rest t e run j → ⊥) → (j : ℕ) → suc i < j → IsSyncAt s d (c ∷ calls) (r ∷ replies) tried t e (mid, on, rest, step, call, is, run) j → ⊥
        later i none zero lt at = omega (arith, lt)
        later i none (suc j) lt at = none j (omega (arith, lt)) at
    by (inr none) (inl sync) = inl (zero, sync, λ j lt at. later j lt at)
      where
        later : (j : ℕ) → zero < j → IsSyncAt s d (c ∷ calls) (r ∷ replies) tried t e (mid, on, rest, step, call, is, run) j → ⊥
        later zero lt at = omega (arith, lt)
        later (suc j) lt at = none j at
    by (inr none) (inr never) = inr (λ i at. each i at)
      where
        each : (i : ℕ) → IsSyncAt s d (c ∷ calls) (r ∷ replies) tried t e (mid, on, rest, step, call, is, run) i → ⊥
        each zero at = never at
        each (suc j) at = none j at
last_place s t d e [] (r ∷ replies) tried run = absurd run
last_place s t d e (c ∷ calls) [] tried run = absurd run

pub a_last_sync : (core new : Held) (store : Store) (calls : List Call) (replies : List Reply) (opens : OpensAs core store) (run : Served core store opens calls replies new) → (synced : List Command) × LastSync core new store calls replies opens run synced
a_last_sync core new store calls replies opens run = by (last_place (start_of core store opens) run.state (life_begun core store) run.durable calls replies run.tried run.run)
  where
    by : LastPlace (start_of core store opens) (life_begun core store) calls replies run.tried run.state run.durable run.run → (synced : List Command) × LastSync core new store calls replies opens run synced
    by (inl (i, sync, none)) = ((run.synced i sync).before, UpTo i sync none)
    by (inr none) = ([], NoSync none)
