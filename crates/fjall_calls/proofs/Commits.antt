-- What a commit makes of what is told.
use Rattle.std.proofs.Common.{◌≡◌, ◌<◌, inl, inr, ℕ, ◌+◌, ◌==◌, true, false, cond, List, [], ◌∷◌, Option, None, Some, length, refl, sym, ap, subst, ◌∙◌, arith}
use Rattle.std.specs.Prelude.{slice_get}
use Rattle.std.specs.FinMap.{FinMap, get, remove}
use Rattle.std.specs.Ordering.{nat_cmp}
use Rattle.fjall_base.specs.declared.error.Error.{Error}
use Rattle.fjall_base.specs.declared.error.Error.TheVariants.{Io, NumbersUsedUp, OutOfMemory, Poisoned, Storage, TooManyItems, ValueTooLong}
use Rattle.fjall_journal.specs.Changes.{Change, Items}
use Rattle.fjall_journal.specs.Ops.{BatchItem, write_of}
use Rattle.fjall_tx.specs.declared.outcome.CommitOutcome.{CommitOutcome}
use Rattle.fjall_tx.specs.Owns.{items_of}
use Rattle.fjall_history.specs.declared.reply.Reply.TheVariants.{Done, Refused}
use Rattle.fjall_history.specs.Histories.{Accepted, grown, number, plain}
use Rattle.fjall_history.specs.Moves.{MovesOn, NoMove, OneMove}
use Rattle.fjall_history.specs.Tickets.{Tickets, collected, counted}
use Rattle.fjall_history.proofs.Maps.{none_left}
use Rattle.fjall_machine.specs.Shapes.{ByMode, Close, OfChange, OfTickets, Persistence}
use Rattle.fjall_machine.specs.Machine.{MayFail, Refuses, State, StepOf, accepted, due, times}
use Rattle.fjall_machine.proofs.Moving.{shape_moves}
use Rattle.fjall_core.specs.Commits.{change_of}
use Rattle.fjall_core.specs.Standing.{CommitStep, IsCommitted, IsGone, IsIdle, IsMet, IsRefused, CoreState, accepted_of}
use Rattle.fjall_core.specs.Transactions.{Tx}
use Rattle.fjall_core.proofs.Items.{some_items}
use Rattle.fjall_calls.proofs.Following.{GoesOn, IsSound, goes_nowhere, goes_on, goes_on_still}
use Rattle.fjall_calls.proofs.Lists.{stands_last}

-- ---- the history

failed_history : (s t : State) (change : Change) (how : Persistence) (error : Error) → MayFail (OfChange change how) error s t → t.history ≡ s.history
failed_history s t change how (Io kind) (inl (changes, fault)) = ap (λ (k : State). k.history) fault.is
failed_history s t change how (Io kind) (inr (inl (reads, same))) = ap (λ (k : State). k.history) same
failed_history s t change how (Io kind) (inr (inr fails)) = absurd fails
failed_history s t change how OutOfMemory (takes, same) = ap (λ (k : State). k.history) same
failed_history s t change how (Storage told) (is, damaged, same) = ap (λ (k : State). k.history) same
failed_history s t change how ValueTooLong (long, same) = ap (λ (k : State). k.history) same
failed_history s t change how Poisoned (late, same) = ap (λ (k : State). k.history) same
failed_history s t change how NumbersUsedUp (used_up, same) = ap (λ (k : State). k.history) same
failed_history s t change how TooManyItems (none_left, same) = ap (λ (k : State). k.history) same
failed_history s t change how error none = absurd none

-- a change that is refused accepts nothing
refused_history : (s t : State) (change : Change) (how : Persistence) (error : Error) (first : Option Error) → Refuses first (OfChange change how) error s t → t.history ≡ s.history
refused_history s t change how error (Some f) (is, same) = ap (λ (k : State). k.history) same
refused_history s t change how error None fails = failed_history s t change how error fails

-- one that is made accepts its command
made_history : (s t : State) (items : List BatchItem) (how : Persistence) → (items ≡ [] → ⊥) → t ≡ accepted s (Items items) how → t.history ≡ grown s.history (plain (write_of items))
made_history s t [] how some is = absurd (some refl)
made_history s t (item ∷ items) how some is = ap (λ (k : State). k.history) is

-- ---- a closing

closing_moves : (s t : State) (id : ℕ) → StepOf s (OfTickets (Close id)) Done t → MovesOn (times s) (times t)
closing_moves s t id closes = OneMove (times s) (times t) (times t) (shape_moves s t (OfTickets (Close id)) Done closes) (NoMove (times t))

closing_history : (s t : State) (id : ℕ) → StepOf s (OfTickets (Close id)) Done t → t.history ≡ s.history
closing_history s t id closes = ap (λ (k : State). k.history) closes.1.1

pub counted_instants : (visible : ℕ) (t : Tickets) → (counted visible t).instants ≡ t.instants
counted_instants visible t =
    elim (t.closings + 1 == 10000) as (λ b. (cond b (collected visible (record t { closings = 0 })) (record t { closings = t.closings + 1 })).instants ≡ t.instants) [
      | true ↦ refl
      | false ↦ refl
    ]

-- the ticket is open no more
pub closing_closes : (s t : State) (id : ℕ) → StepOf s (OfTickets (Close id)) Done t → get t.tickets.instants id ≡ None
closing_closes s t id closes =
    ap (λ (k : Tickets). get k.instants id) closes.1.0.1
    ∙ ap (λ (m : FinMap nat_cmp ℕ). get m id) (counted_instants (number s.history) (record s.tickets { instants = remove s.tickets.instants id }))
    ∙ none_left s.tickets.instants id

-- ---- a commit

-- what is told goes on
pub commit_goes_on : (old new : CoreState) (tx : Tx) (outcome : CommitOutcome Error) → IsSound old → CommitStep old tx outcome new → GoesOn old new
commit_goes_on old new tx outcome sound (IsGone none told same) = subst (GoesOn old) (sym same) (goes_nowhere old sound)
commit_goes_on old new tx outcome sound (IsIdle instant opened none told closes same) =
    goes_on_still old new sound (closing_moves old.state new.state tx.ticket.id closes) (closing_history old.state new.state tx.ticket.id closes) same
commit_goes_on old new tx outcome sound (IsMet instant opened some meets told closes same) =
    goes_on_still old new sound (closing_moves old.state new.state tx.ticket.id closes) (closing_history old.state new.state tx.ticket.id closes) same
commit_goes_on old new tx outcome sound (IsRefused instant opened some apart error told mid refused closes same) =
    goes_on_still old new sound
    (OneMove (times old.state) (times mid) (times new.state) (shape_moves old.state mid (change_of tx) (Refused error) refused) (closing_moves mid new.state tx.ticket.id closes))
    (closing_history mid new.state tx.ticket.id closes ∙ refused_history old.state mid (Items (items_of tx.own)) (ByMode tx.mode) error (due old.state (change_of tx)) refused)
    same
commit_goes_on old new tx outcome sound (IsCommitted instant opened some apart told mid made closes grows) =
    let items = items_of tx.own in
    goes_on old new (plain (write_of items) ∷ []) (accepted_of instant tx.marks items ∷ []) sound
    (OneMove (times old.state) (times mid) (times new.state) (shape_moves old.state mid (change_of tx) Done made) (closing_moves mid new.state tx.ticket.id closes))
    (closing_history mid new.state tx.ticket.id closes ∙ made_history old.state mid items (ByMode tx.mode) (some_items tx.own some) made.1.1)
    grows
    refl

-- whatever comes of it, its ticket is open no more
pub commit_closes : (old new : CoreState) (tx : Tx) (outcome : CommitOutcome Error) → CommitStep old tx outcome new → get new.state.tickets.instants tx.ticket.id ≡ None
commit_closes old new tx outcome (IsGone none told same) = ap (λ (t : CoreState). get t.state.tickets.instants tx.ticket.id) same ∙ none
commit_closes old new tx outcome (IsIdle instant opened none told closes same) = closing_closes old.state new.state tx.ticket.id closes
commit_closes old new tx outcome (IsMet instant opened some meets told closes same) = closing_closes old.state new.state tx.ticket.id closes
commit_closes old new tx outcome (IsRefused instant opened some apart error told mid refused closes same) = closing_closes mid new.state tx.ticket.id closes
commit_closes old new tx outcome (IsCommitted instant opened some apart told mid made closes grows) = closing_closes mid new.state tx.ticket.id closes

not_longer : (old new : List Accepted) → new ≡ old → length old < length new → ⊥
not_longer old new same longer = let n = ap length same in omega (arith, n, longer)

-- where something was accepted, it is the transaction's command
pub commit_stands_last : (old new : CoreState) (tx : Tx) (outcome : CommitOutcome Error) → ((instant : ℕ) → get old.state.tickets.instants tx.ticket.id ≡ Some instant → instant ≡ tx.ticket.instant)
    → CommitStep old tx outcome new → length old.accepted < length new.accepted
    → slice_get new.accepted (length old.accepted) ≡ Some (accepted_of tx.ticket.instant tx.marks (items_of tx.own))
commit_stands_last old new tx outcome reads (IsGone none told same) longer = absurd (not_longer old.accepted new.accepted (ap (λ (t : CoreState). t.accepted) same) longer)
commit_stands_last old new tx outcome reads (IsIdle instant opened none told closes same) longer = absurd (not_longer old.accepted new.accepted same longer)
commit_stands_last old new tx outcome reads (IsMet instant opened some meets told closes same) longer = absurd (not_longer old.accepted new.accepted same longer)
commit_stands_last old new tx outcome reads (IsRefused instant opened some apart error told mid refused closes same) longer = absurd (not_longer old.accepted new.accepted same longer)
commit_stands_last old new tx outcome reads (IsCommitted instant opened some apart told mid made closes grows) longer =
    ap (λ (l : List Accepted). slice_get l (length old.accepted)) grows
    ∙ stands_last old.accepted (accepted_of instant tx.marks (items_of tx.own))
    ∙ ap (λ (i : ℕ). Some (accepted_of i tx.marks (items_of tx.own))) (reads instant opened)
