-- How tickets and open transactions go on along a step.
use Rattle.std.proofs.Common.{◌≡◌, ◌≢◌, ◌⊎◌, inl, inr, ⊎_elim, ℕ, zero, suc, ◌+◌, ◌<◌, ◌≤◌, ◌==◌, Bool, true, false, if◌then◌else◌, cond, List, [], ◌∷◌, ◌++◌, length, map, take, drop, All, Option, None, Some, unwrap_or, refl, sym, ap, subst, ◌∙◌, arith}
use Rattle.std.specs.Prelude.{Contains, slice_get, option_map}
use Rattle.std.specs.Cmp.{nat_cmp_total}
use Rattle.std.specs.FinMap.{FinMap, get, get-insert, get-remove, insert, remove}
use Rattle.std.specs.Ordering.{eq_by_cmp, nat_cmp}
use Rattle.std.proofs.lemmas.Bool.{cases_lt}
use Rattle.std.proofs.lemmas.Bool.Decides.{nat_tests}
use Rattle.std.proofs.lemmas.List.{length-map}
use Rattle.std.proofs.lemmas.List.Elements.{All-append, All-cons, All-drop, All-head, All-nil, All-push, All-tail, All-take}
use Rattle.std.proofs.lemmas.Option.{none-some, same_Some, slice_get-map}
use Rattle.fjall_base.specs.Pairs.{Bytes}
use Rattle.fjall_base.specs.Store.{Command, Store}
use Rattle.fjall_base.specs.declared.error.Error.{Error}
use Rattle.fjall_base.specs.declared.error.Error.TheVariants.{NumbersUsedUp, SnapshotClosed}
use Rattle.fjall_tx.specs.Marks.{Marks}
use Rattle.fjall_tx.specs.Owns.{Own}
use Rattle.fjall_tx.specs.declared.outcome.CommitOutcome.{CommitOutcome}
use Rattle.fjall_journal.specs.declared.persist_mode.PersistMode.{PersistMode}
use Rattle.fjall_history.specs.Histories.{History, commands_of, number, view}
use Rattle.fjall_history.specs.Moves.{AreSound, Times}
use Rattle.fjall_history.specs.Tickets.{Tickets, cloning_refusal, ids_used_up, is_open, opening_refusal}
use Rattle.fjall_history.specs.declared.reply.Reply.{Reply}
use Rattle.fjall_history.specs.declared.reply.Reply.TheVariants.{Done, Refused}
use Rattle.fjall_history.proofs.Moving.{sound_move}
use Rattle.fjall_history.proofs.Views.{view_grown}
use Rattle.fjall_machine.specs.Machine.{Answers, State, Step, StepOf, due, ticket_refusal, times}
use Rattle.fjall_machine.specs.Places.{id_opened}
use Rattle.fjall_machine.specs.Shapes.{CallShape, Clone, Close, Collect, OfTickets, Open, TicketCall, shape_of}
use Rattle.fjall_machine.specs.declared.call.Call.{Call}
use Rattle.fjall_machine.specs.declared.call.Call.TheVariants.{CloseSnapshot}
use Rattle.fjall_machine.proofs.Moving.{shape_moves}
use Rattle.fjall_calls.specs.Commits.{change_of}
use Rattle.fjall_calls.specs.Standing.{CommitStep, IsCommitted, IsGone, IsIdle, IsMet, IsRefused, CoreState, history_of}
use Rattle.fjall_calls.specs.Transactions.{Tx}
use Rattle.fjall_calls.specs.Hearing.{tx_of}
use Rattle.fjall_calls.specs.Names.{Takes}
use Rattle.fjall_calls.specs.Worlds.{Going, World, along}
use Rattle.fjall_calls.proofs.Commits.{closing_closes, commit_closes, commit_goes_on, counted_instants}
use Rattle.fjall_calls.proofs.Following.{GoesOn, IsSound, counted_next, goes_nowhere, told_number, told_view}
use Rattle.fjall_calls.proofs.KeptWorlds.{IsKept, core_goes_on}
use Rattle.fjall_calls.proofs.Lists.{holds_at, stands_last, stays_at}
use Rattle.fjall_consistency.specs.Alike.{AreAlike}
use Rattle.fjall_consistency.specs.Consistency.{Known, Transaction, named}
use Rattle.fjall_consistency.proofs.Going.{IsSame, same_plain}
use Rattle.fjall_consistency.proofs.Known.{AreApart, AreTwo, IsGoing, IsKnown, IsShown, no_id}
use Rattle.fjall_consistency.proofs.Steps.{answered_open, refused_times}
use Rattle.fjall_consistency.proofs.Meeting.{met_by}

-- What is told goes on, ids of tickets are left, and each ticket that is open stays so but for the one that is closed, where one is.
pub record Turns (old new : CoreState) (gone : Option ℕ) : Type 0 where
  pub goes : GoesOn old new
  pub small : new.state.tickets.next ≤ no_id
  pub stays : (id instant : ℕ) → (gone ≡ Some id → ⊥) → get old.state.tickets.instants id ≡ Some instant → get new.state.tickets.instants id ≡ Some instant
  pub closes : (id : ℕ) → gone ≡ Some id → get new.state.tickets.instants id ≡ None

-- ---- ids

-- where no ticket is opened, ids are left as before
as_small : (old new : Tickets) → new.next ≡ old.next → old.next ≤ no_id → new.next ≤ no_id
as_small old new same small = omega (arith, same, small)

-- a ticket is opened where an id is left for it
one_left : (t : Tickets) (b : Bool) → ids_used_up t ≡ b → (if b then Some NumbersUsedUp else None) ≡ None → t.next ≤ no_id → t.next + 1 ≤ no_id
one_left t true is none small = absurd (none-some _ (sym none))
one_left t false is none small = grind (arith, nat_tests)

-- and where one is opened that may be
opened_small : (old new : Tickets) → new.next ≡ old.next + 1 → opening_refusal old ≡ None → old.next ≤ no_id → new.next ≤ no_id
opened_small old new is none small = let room = one_left old (ids_used_up old) refl none small in omega (arith, is, room)

-- where a ticket may be cloned, one may be opened
cloned_left : (t : Tickets) (id : ℕ) → cloning_refusal id t ≡ None → opening_refusal t ≡ None
cloned_left t id none = by (is_open t id) none
  where
    by : (b : Bool) → (if b then opening_refusal t else Some SnapshotClosed) ≡ None → opening_refusal t ≡ None
    by true e = e
    by false e = absurd (none-some _ (sym e))

-- after a call on tickets ids are left
turned_small : (s t : State) (call : TicketCall) (reply : Reply) → ticket_refusal s.tickets call ≡ None → Answers s (OfTickets call) reply t → s.tickets.next ≤ no_id → t.tickets.next ≤ no_id
turned_small s t Open reply none ((told, is), same) small = opened_small s.tickets t.tickets (ap (λ (k : Tickets). k.next) is) none small
turned_small s t (Clone id) reply none ((instant, there, told, is), same) small = opened_small s.tickets t.tickets (ap (λ (k : Tickets). k.next) is) (cloned_left s.tickets id none) small
turned_small s t (Close id) reply none ((told, is), same) small =
    as_small s.tickets t.tickets (ap (λ (k : Tickets). k.next) is ∙ counted_next (number s.history) (record s.tickets { instants = remove s.tickets.instants id })) small
turned_small s t Collect reply none ((told, is), same) small = as_small s.tickets t.tickets (ap (λ (k : Tickets). k.next) is) small

-- after any call that is answered
answered_small : (s t : State) (shape : CallShape) (reply : Reply) → due s shape ≡ None → Answers s shape reply t → s.tickets.next ≤ no_id → t.tickets.next ≤ no_id
answered_small s t (OfTickets call) reply none answers small = turned_small s t call reply none answers small
answered_small s t shape reply none answers small = as_small s.tickets t.tickets (ap (λ (k : Tickets). k.next) (answered_open s t shape reply refl answers)) small

-- and after any step
step_small : (s t : State) (shape : CallShape) (reply : Reply) → StepOf s shape reply t → s.tickets.next ≤ no_id → t.tickets.next ≤ no_id
step_small s t shape (Refused error) refuses small = as_small s.tickets t.tickets (ap (λ (k : Times). k.tickets.next) (refused_times s t shape error refuses)) small
step_small s t shape reply (none, answers) small = answered_small s t shape reply none answers small

-- ---- open tickets

-- what is found stays so as something is put beside it
put_beside : (m : FinMap nat_cmp ℕ) (k v q w : ℕ) → q < k → get m q ≡ Some w → get (insert m k v) q ≡ Some w
put_beside m k v q w below there =
    let other : eq_by_cmp nat_cmp q k ≡ false = grind (arith, nat_tests) in
    get-insert nat_cmp_total m k v q ∙ ap (λ b. cond b (Some v) (get m q)) other ∙ there

-- or taken out
taken_beside : (m : FinMap nat_cmp ℕ) (k q w : ℕ) → (k ≡ q → ⊥) → get m q ≡ Some w → get (remove m k) q ≡ Some w
taken_beside m k q w apart there = get-remove nat_cmp_total m k q ∙ by (eq_by_cmp nat_cmp q k) refl
  where
    by : (b : Bool) → eq_by_cmp nat_cmp q k ≡ b → cond b None (get m q) ≡ Some w
    by true e = absurd (apart (let same : k ≡ q = grind (arith, nat_tests) in same))
    by false e = there

-- the ticket that a call of this shape closes
abbrev closed_as : CallShape → Reply → Option ℕ
closed_as (OfTickets (Close id)) Done = Some id
closed_as shape reply = None

-- each other ticket stays open
turned_stays : (s t : State) (call : TicketCall) (reply : Reply) → AreSound (times s) → Answers s (OfTickets call) reply t → (id instant : ℕ) → (closed_as (OfTickets call) reply ≡ Some id → ⊥)
    → get s.tickets.instants id ≡ Some instant → get t.tickets.instants id ≡ Some instant
turned_stays s t Open reply sound ((told, is), same) id instant still there =
    ap (λ (k : Tickets). get k.instants id) is ∙ put_beside s.tickets.instants s.tickets.next (number s.history) id instant (sound id instant there).0 there
turned_stays s t (Clone other) reply sound ((at, found, told, is), same) id instant still there =
    ap (λ (k : Tickets). get k.instants id) is ∙ put_beside s.tickets.instants s.tickets.next at id instant (sound id instant there).0 there
turned_stays s t (Close other) reply sound ((told, is), same) id instant still there =
    ap (λ (k : Tickets). get k.instants id) is
    ∙ ap (λ (m : FinMap nat_cmp ℕ). get m id) (counted_instants (number s.history) (record s.tickets { instants = remove s.tickets.instants other }))
    ∙ taken_beside s.tickets.instants other id instant (λ e. still (ap (closed_as (OfTickets (Close other))) told ∙ ap (λ (k : ℕ). Some k) e)) there
turned_stays s t Collect reply sound ((told, is), same) id instant still there = ap (λ (k : Tickets). get k.instants id) is ∙ there

-- after any call that is answered
answered_stays : (s t : State) (shape : CallShape) (reply : Reply) → AreSound (times s) → Answers s shape reply t → (id instant : ℕ) → (closed_as shape reply ≡ Some id → ⊥)
    → get s.tickets.instants id ≡ Some instant → get t.tickets.instants id ≡ Some instant
answered_stays s t (OfTickets call) reply sound answers id instant still there = turned_stays s t call reply sound answers id instant still there
answered_stays s t shape reply sound answers id instant still there = ap (λ (k : Tickets). get k.instants id) (answered_open s t shape reply refl answers) ∙ there

-- and after any step
step_stays : (s t : State) (shape : CallShape) (reply : Reply) → AreSound (times s) → StepOf s shape reply t → (id instant : ℕ) → (closed_as shape reply ≡ Some id → ⊥)
    → get s.tickets.instants id ≡ Some instant → get t.tickets.instants id ≡ Some instant
step_stays s t shape (Refused error) sound refuses id instant still there = ap (λ (k : Times). get k.tickets.instants id) (refused_times s t shape error refuses) ∙ there
step_stays s t shape reply sound (none, answers) id instant still there = answered_stays s t shape reply sound answers id instant still there

-- and the one that is closed is open no more
step_closes : (s t : State) (shape : CallShape) (reply : Reply) → StepOf s shape reply t → (id : ℕ) → closed_as shape reply ≡ Some id → get t.tickets.instants id ≡ None
step_closes s t (OfTickets (Close other)) Done closes id is = subst (λ (k : ℕ). get t.tickets.instants k ≡ None) (same_Some other id is) (closing_closes s t other closes)
step_closes s t shape reply step id is = absurd (none-some id is)

-- ---- steps

-- the ticket that a call of the core closes
abbrev pub closed_by : Call → Reply → Option ℕ
closed_by (CloseSnapshot ticket) Done = Some ticket.id
closed_by call reply = None

-- its shape says so
closed_alike : (c : Call) (reply : Reply) → closed_as (shape_of c) reply ≡ closed_by c reply
closed_alike (CloseSnapshot ticket) Done = refl
closed_alike c reply = refl

-- a call of the core
pub core_turns : (w : World) (c : Call) (reply : Reply) (s : State) → IsKept w → w.told.state.tickets.next ≤ no_id → Step w.told.state c reply s → Turns w.told (along w s).told (closed_by c reply)
core_turns w c reply s kept small step = record {
  goes = core_goes_on w c reply s kept.sound step;
  small = step_small w.told.state s (shape_of c) reply step small;
  stays = λ id instant still. step_stays w.told.state s (shape_of c) reply kept.sound.sound step id instant (λ e. still (sym (closed_alike c reply) ∙ e));
  closes = λ id is. step_closes w.told.state s (shape_of c) reply step id (closed_alike c reply ∙ is);
}

-- nothing
pub still_turns : (w : World) → IsKept w → w.told.state.tickets.next ≤ no_id → Turns w.told w.told None
still_turns w kept small = record {
  goes = goes_nowhere w.told kept.sound;
  small = small;
  stays = λ id instant still there. there;
  closes = λ id is. absurd (none-some id is);
}

-- after a commit ids are left
commit_small : (old new : CoreState) (tx : Tx) (outcome : CommitOutcome Error) → CommitStep old tx outcome new → old.state.tickets.next ≤ no_id → new.state.tickets.next ≤ no_id
commit_small old new tx outcome (IsGone none told same) small = as_small old.state.tickets new.state.tickets (ap (λ (t : CoreState). t.state.tickets.next) same) small
commit_small old new tx outcome (IsIdle instant opened none told closes same) small = step_small old.state new.state (OfTickets (Close tx.ticket.id)) Done closes small
commit_small old new tx outcome (IsMet instant opened some meets told closes same) small = step_small old.state new.state (OfTickets (Close tx.ticket.id)) Done closes small
commit_small old new tx outcome (IsRefused instant opened some apart error told mid refused closes same) small =
    step_small mid new.state (OfTickets (Close tx.ticket.id)) Done closes (step_small old.state mid (change_of tx) (Refused error) refused small)
commit_small old new tx outcome (IsCommitted instant opened some apart told mid made closes grown) small =
    step_small mid new.state (OfTickets (Close tx.ticket.id)) Done closes (step_small old.state mid (change_of tx) Done made small)

-- a change leaves each ticket open, and then the transaction's is closed
changed_stays : (s mid t : State) (tx : Tx) (reply : Reply) → AreSound (times s) → StepOf s (change_of tx) reply mid → StepOf mid (OfTickets (Close tx.ticket.id)) Done t → (id instant : ℕ)
    → (Some tx.ticket.id ≡ Some id → ⊥) → get s.tickets.instants id ≡ Some instant → get t.tickets.instants id ≡ Some instant
changed_stays s mid t tx reply sound step closes id instant still there =
    step_stays mid t (OfTickets (Close tx.ticket.id)) Done (sound_move (times s) (times mid) sound (shape_moves s mid (change_of tx) reply step)) closes id instant still
    (step_stays s mid (change_of tx) reply sound step id instant (none-some id) there)

-- so a commit leaves each other ticket open
commit_stays : (old new : CoreState) (tx : Tx) (outcome : CommitOutcome Error) → AreSound (times old.state) → CommitStep old tx outcome new → (id instant : ℕ) → (Some tx.ticket.id ≡ Some id → ⊥)
    → get old.state.tickets.instants id ≡ Some instant → get new.state.tickets.instants id ≡ Some instant
commit_stays old new tx outcome sound (IsGone none told same) id instant still there = ap (λ (t : CoreState). get t.state.tickets.instants id) same ∙ there
commit_stays old new tx outcome sound (IsIdle instant opened none told closes same) id at still there = step_stays old.state new.state (OfTickets (Close tx.ticket.id)) Done sound closes id at still there
commit_stays old new tx outcome sound (IsMet instant opened some meets told closes same) id at still there = step_stays old.state new.state (OfTickets (Close tx.ticket.id)) Done sound closes id at still there
commit_stays old new tx outcome sound (IsRefused instant opened some apart error told mid refused closes same) id at still there =
    changed_stays old.state mid new.state tx (Refused error) sound refused closes id at still there
commit_stays old new tx outcome sound (IsCommitted instant opened some apart told mid made closes grown) id at still there = changed_stays old.state mid new.state tx Done sound made closes id at still there

-- a commit
pub commit_turns : (w : World) (tx : Tx) (outcome : CommitOutcome Error) (new : CoreState) → IsKept w → w.told.state.tickets.next ≤ no_id → CommitStep w.told tx outcome new → Turns w.told new (Some tx.ticket.id)
commit_turns w tx outcome new kept small step = record {
  goes = commit_goes_on w.told new tx outcome kept.sound step;
  small = commit_small w.told new tx outcome step small;
  stays = commit_stays w.told new tx outcome kept.sound.sound step;
  closes = λ id is. subst (λ (k : ℕ). get new.state.tickets.instants k ≡ None) (same_Some tx.ticket.id id is) (commit_closes w.told new tx outcome step);
}

-- ---- lists with one more

-- a place is before this one, or it, or behind it
where_is : (n place : ℕ) → (place < n) ⊎ ((place ≡ n) ⊎ (n < place))
where_is n place = ⊎_elim inl (λ from. ⊎_elim (λ behind. inr (inr behind)) (λ upto. inr (inl (let same : place ≡ n = omega arith in same))) (cases_lt n place)) (cases_lt place n)

-- before the end stands what stood there
at_earlier : {X : Type 0} (xs ys : List X) (place : ℕ) → place < length xs → slice_get (xs ++ ys) place ≡ slice_get xs place
at_earlier [] ys place lt = absurd (omega arith)
at_earlier (x ∷ xs) ys zero lt = refl
at_earlier (x ∷ xs) ys (suc place) lt = at_earlier xs ys place (omega arith)

-- at the end stands the one more
at_end : {X : Type 0} (xs : List X) (x : X) (place : ℕ) → place ≡ length xs → slice_get (xs ++ x ∷ []) place ≡ Some x
at_end xs x place is = ap (slice_get (xs ++ x ∷ [])) is ∙ stands_last xs x

-- and behind it nothing
past_end : {X : Type 0} (xs : List X) (x : X) (place : ℕ) → length xs < place → slice_get (xs ++ x ∷ []) place ≡ None
past_end [] x zero lt = absurd (omega arith)
past_end [] x (suc place) lt = refl
past_end (y ∷ xs) x zero lt = absurd (omega arith)
past_end (y ∷ xs) x (suc place) lt = past_end xs x place (omega arith)

-- ---- snapshots

-- no ticket of the greatest id is open
unopened : (t : CoreState) → IsSound t → t.state.tickets.next ≤ no_id → (instant : ℕ) → get t.state.tickets.instants no_id ≡ Some instant → ⊥
unopened t sound small instant found = let lt = (sound.sound no_id instant found).0 in omega (arith, lt, small)

-- an id that was given out was so before more are
still_given : (id old new : ℕ) → old ≤ new → (id < old) ⊎ (id ≡ no_id) → (id < new) ⊎ (id ≡ no_id)
still_given id old new up (inl lt) = inl (omega (arith, up, lt))
still_given id old new up (inr is) = inr is

-- a view that a ticket may show stays
same_view : (old new : CoreState) → IsSound old → GoesOn old new → (id instant : ℕ) → get old.state.tickets.instants id ≡ Some instant → view new.state.history instant ≡ view old.state.history instant
same_view old new sound goes id instant there =
    let le = (sound.sound id instant there).2 in
    let n = told_number old sound in
    sym (told_view new goes.sound instant) ∙ view_grown (history_of old) (history_of new) instant goes.follows.grown (omega (arith, le, n)) ∙ told_view old sound instant

-- one that isn't closed shows what it showed
pub shown_on : (old new : CoreState) (gone : Option ℕ) (id : ℕ) (shows : Option Store) → old.state.tickets.next ≤ no_id → GoesOn old old → Turns old new gone → IsShown old.state id shows → (gone ≡ Some id → ⊥) → IsShown new.state id shows
shown_on old new ended id shows small sound turns is open_still = record {
  given = still_given id old.state.tickets.next new.state.tickets.next turns.goes.follows.given is.given;
  there = λ instant now. by_id instant now is.given;
  closed = λ none. before none (get old.state.tickets.instants id) refl;
}
  where
    by_id : (instant : ℕ) → get new.state.tickets.instants id ≡ Some instant → (id < old.state.tickets.next) ⊎ (id ≡ no_id)
        → (store : Store) × (shows ≡ Some store) × AreAlike (view new.state.history instant) store
    by_id instant now (inl lt) =
        let was = turns.goes.follows.was_open id instant lt now in
        let has = is.there instant was in
        (has.0, has.1, subst (λ (s : Store). AreAlike s has.0) (sym (same_view old new sound.sound turns.goes id instant was)) has.2)
    by_id instant now (inr none) = absurd (unopened new turns.goes.sound turns.small instant (ap (get new.state.tickets.instants) (sym none) ∙ now))

    before : get new.state.tickets.instants id ≡ None → (o : Option ℕ) → get old.state.tickets.instants id ≡ o → shows ≡ None
    before none None was = is.closed was
    before none (Some instant) was = absurd (none-some instant (sym none ∙ turns.stays id instant open_still was))

-- and one that is closed none
pub shown_closed : (old new : CoreState) (gone : Option ℕ) (id : ℕ) (shows : Option Store) → Turns old new gone → IsShown old.state id shows → gone ≡ Some id → IsShown new.state id None
shown_closed old new ended id shows turns is closed = record {
  given = still_given id old.state.tickets.next new.state.tickets.next turns.goes.follows.given is.given;
  there = λ instant now. absurd (none-some instant (sym (turns.closes id closed) ∙ now));
  closed = λ none. refl;
}

-- a place of no ticket shows none
unshown : (t : CoreState) → IsSound t → t.state.tickets.next ≤ no_id → IsShown t.state no_id None
unshown t sound small = record { given = inr refl; there = λ instant found. absurd (unopened t sound small instant found); closed = λ none. refl }

-- whether it is this id
is_this : (o : Option ℕ) (id : ℕ) → (o ≡ Some id) ⊎ (o ≡ Some id → ⊥)
is_this None id = inr (none-some id)
is_this (Some other) id = by (other == id) refl
  where
    by : (b : Bool) → (other == id) ≡ b → (Some other ≡ Some id) ⊎ (Some other ≡ Some id → ⊥)
    by true e = inl (ap (λ (k : ℕ). Some k) (let same : other ≡ id = grind (arith, nat_tests) in same))
    by false e = inr (λ is. let same : other ≡ id = same_Some other id is in absurd (grind (arith, nat_tests)))

-- what a place shows, by what stands there
shown_at : (s : State) (a b : Option Reply) (x y : Option (Option Store)) → a ≡ b → x ≡ y → IsShown s (id_opened b) (unwrap_or y None) → IsShown s (id_opened a) (unwrap_or x None)
shown_at s a b x y same alike is = subst (λ (o : Option Reply). IsShown s (id_opened o) (unwrap_or x None)) (sym same) (subst (λ (o : Option (Option Store)). IsShown s (id_opened b) (unwrap_or o None)) (sym alike) is)

-- of each place so far, and of the one of this call
pub all_shown : (w v : World) (before : List Reply) (k : Known) (reply : Reply) (gone : Option ℕ) (left : List (Option Store)) (opened : Option Store) → IsKnown w before k → Turns w.told v.told gone
    → length left ≡ length k.snapshots
    → ((place : ℕ) → (gone ≡ Some (id_opened (slice_get before place)) → ⊥) → slice_get left place ≡ slice_get k.snapshots place)
    → ((place : ℕ) → gone ≡ Some (id_opened (slice_get before place)) → unwrap_or (slice_get left place) None ≡ None)
    → IsShown v.told.state (id_opened (Some reply)) opened
    → (place : ℕ) → IsShown v.told.state (id_opened (slice_get (before ++ reply ∷ []) place)) (unwrap_or (slice_get (left ++ opened ∷ []) place) None)
all_shown w v before k reply ended left opened known turns as_many others closed here place = by (where_is (length before) place)
  where
    as_long : length left ≡ length before
    as_long = as_many ∙ known.snapshots

    earlier : (ended ≡ Some (id_opened (slice_get before place))) ⊎ (ended ≡ Some (id_opened (slice_get before place)) → ⊥)
        → IsShown v.told.state (id_opened (slice_get before place)) (unwrap_or (slice_get left place) None)
    earlier (inl is) =
        subst (λ (o : Option Store). IsShown v.told.state (id_opened (slice_get before place)) o) (sym (closed place is))
        (shown_closed w.told v.told ended (id_opened (slice_get before place)) (unwrap_or (slice_get k.snapshots place) None) turns (known.shown place) is)
    earlier (inr other) =
        subst (λ (o : Option (Option Store)). IsShown v.told.state (id_opened (slice_get before place)) (unwrap_or o None)) (sym (others place other))
        (shown_on w.told v.told ended (id_opened (slice_get before place)) (unwrap_or (slice_get k.snapshots place) None) known.small (goes_nowhere w.told known.kept.sound) turns (known.shown place) other)

    by : (place < length before) ⊎ ((place ≡ length before) ⊎ (length before < place))
        → IsShown v.told.state (id_opened (slice_get (before ++ reply ∷ []) place)) (unwrap_or (slice_get (left ++ opened ∷ []) place) None)
    by (inl lt) =
        shown_at v.told.state (slice_get (before ++ reply ∷ []) place) (slice_get before place) (slice_get (left ++ opened ∷ []) place) (slice_get left place)
        (at_earlier before (reply ∷ []) place lt) (at_earlier left (opened ∷ []) place (omega (arith, lt, as_long))) (earlier (is_this ended (id_opened (slice_get before place))))
    by (inr (inl is)) =
        shown_at v.told.state (slice_get (before ++ reply ∷ []) place) (Some reply) (slice_get (left ++ opened ∷ []) place) (Some opened)
        (at_end before reply place is) (at_end left opened place (is ∙ sym as_long)) here
    by (inr (inr lt)) =
        shown_at v.told.state (slice_get (before ++ reply ∷ []) place) None (slice_get (left ++ opened ∷ []) place) None
        (past_end before reply place lt) (past_end left opened place (omega (arith, lt, as_long))) (unshown v.told turns.goes.sound turns.small)

-- a call that opened no ticket shows none
pub none_shown : (s : State) (reply : Reply) → s.tickets.next ≤ no_id → ((instant : ℕ) → get s.tickets.instants no_id ≡ Some instant → ⊥) → id_opened (Some reply) ≡ no_id → IsShown s (id_opened (Some reply)) None
none_shown s reply small never none = subst (λ (id : ℕ). IsShown s id None) (sym none) (record { given = inr refl; there = λ instant found. absurd (never instant found); closed = λ e. refl })

-- no ticket of the greatest id is open
pub never_open : (t : CoreState) (gone : Option ℕ) (u : CoreState) → Turns t u gone → (instant : ℕ) → get u.state.tickets.instants no_id ≡ Some instant → ⊥
never_open t ended u turns instant found = unopened u turns.goes.sound turns.small instant found

-- each ticket has one place still
pub one_each_still : (w : World) (before : List Reply) (k : Known) (reply : Reply) → IsKnown w before k → (id_opened (Some reply) ≡ no_id) ⊎ (id_opened (Some reply) ≡ w.told.state.tickets.next)
    → (place other : ℕ) → (id_opened (slice_get (before ++ reply ∷ []) place) ≡ no_id → ⊥) → id_opened (slice_get (before ++ reply ∷ []) place) ≡ id_opened (slice_get (before ++ reply ∷ []) other) → place ≡ other
one_each_still w before k reply known new place other some same = by (where_is (length before) place) (where_is (length before) other)
  where
    earlier : (p : ℕ) → p < length before → id_opened (slice_get (before ++ reply ∷ []) p) ≡ id_opened (slice_get before p)
    earlier p lt = ap id_opened (at_earlier before (reply ∷ []) p lt)

    now : (p : ℕ) → p ≡ length before → id_opened (slice_get (before ++ reply ∷ []) p) ≡ id_opened (Some reply)
    now p is = ap id_opened (at_end before reply p is)

    past : (p : ℕ) → length before < p → id_opened (slice_get (before ++ reply ∷ []) p) ≡ no_id
    past p lt = ap id_opened (past_end before reply p lt)

    -- a ticket that was given out isn't the next one
    not_next : (id : ℕ) → (id < w.told.state.tickets.next) ⊎ (id ≡ no_id) → (id_opened (Some reply) ≡ no_id) ⊎ (id_opened (Some reply) ≡ w.told.state.tickets.next) → id ≡ id_opened (Some reply) → id ≡ no_id
    not_next id given (inl none) is = is ∙ none
    not_next id (inl lt) (inr next) is = absurd (let e = is ∙ next in omega (arith, e, lt))
    not_next id (inr none) (inr next) is = none

    both : (p : ℕ) → p < length before → id_opened (slice_get (before ++ reply ∷ []) p) ≡ id_opened (Some reply) → id_opened (slice_get (before ++ reply ∷ []) p) ≡ no_id
    both p lt is = earlier p lt ∙ not_next (id_opened (slice_get before p)) (known.shown p).given new (sym (earlier p lt) ∙ is)

    by : (place < length before) ⊎ ((place ≡ length before) ⊎ (length before < place)) → (other < length before) ⊎ ((other ≡ length before) ⊎ (length before < other)) → place ≡ other
    by (inl a) (inl b) = known.one_each place other (λ none. some (earlier place a ∙ none)) (sym (earlier place a) ∙ same ∙ earlier other b)
    by (inl a) (inr (inl b)) = absurd (some (both place a (same ∙ now other b)))
    by (inr (inl a)) (inl b) = absurd (some (same ∙ both other b (sym same ∙ now place a)))
    by (inr (inl a)) (inr (inl b)) = a ∙ sym b
    by (inr (inr a)) at = absurd (some (past place a))
    by at (inr (inr b)) = absurd (some (same ∙ past other b))

-- ---- transactions

-- each transaction that is known goes on to be known, with the keys that others wrote
abbrev pub SameOn : CoreState → CoreState → List (ℕ × Bytes) → Type 0
SameOn old new keys = (instant : ℕ) (own : Own) (marks : Option Marks) (mode : Option PersistMode) (tx : Transaction) → IsSame (history_of old) instant own marks mode tx → IsSame (history_of new) instant own marks mode (met_by keys tx)

-- after calls of the core that commit no transaction
pub along_same : (w : World) (s : State) → IsKept w → GoesOn w.told (along w s).told → SameOn w.told (along w s).told []
along_same w s kept goes instant own marks mode tx is =
    let commands : List Command = commands_of (drop (length w.told.state.history.accepted) s.history.accepted) in
    subst (λ (h : History). IsSame h instant own marks mode (met_by [] tx)) (sym (ap (λ (h : History). record h { accepted = (along w s).told.accepted }) goes.follows.grown.1))
    (same_plain (history_of w.told) commands instant own marks mode tx is)

-- one that isn't ended stays open
pub going_on : (w v : World) (before : List Reply) (k after : Known) (reply : Reply) (gone : Option ℕ) (keys : List (ℕ × Bytes)) (left : List (Option Transaction)) (more : Option Transaction) (g : Going)
    → Turns w.told v.told gone → SameOn w.told v.told keys → after.transactions ≡ map (option_map (met_by keys)) left ++ more ∷ []
    → (is : IsGoing w before k g) → slice_get left g.named.place ≡ Some (Some is.tx) → (gone ≡ Some (tx_of g).ticket.id → ⊥) → (id_opened (Some reply) ≡ (tx_of g).ticket.id → ⊥) → (tx_of g).ticket.id ≢ no_id
    → IsGoing v (before ++ reply ∷ []) after g
going_on w v before k after reply ended keys left more g turns same all is at open_still other real = record {
  tx = met_by keys is.tx;
  at = ap (λ (l : List (Option Transaction)). slice_get l g.named.place) all
      ∙ stays_at (map (option_map (met_by keys)) left) (more ∷ []) g.named.place (Some (met_by keys is.tx))
      (slice_get-map (option_map (met_by keys)) left g.named.place ∙ ap (option_map (option_map (met_by keys))) at);
  there = turns.stays (tx_of g).ticket.id (tx_of g).ticket.instant open_still is.there;
  unnamed = λ place. by place (where_is (length before) place);
  same = same (tx_of g).ticket.instant (tx_of g).own (tx_of g).marks (tx_of g).mode is.tx is.same;
}
  where
    by : (place : ℕ) → (place < length before) ⊎ ((place ≡ length before) ⊎ (length before < place)) → id_opened (slice_get (before ++ reply ∷ []) place) ≡ (tx_of g).ticket.id → ⊥
    by place (inl lt) e = is.unnamed place (ap id_opened (sym (at_earlier before (reply ∷ []) place lt)) ∙ e)
    by place (inr (inl here)) e = other (ap id_opened (sym (at_end before reply place here)) ∙ e)
    by place (inr (inr lt)) e = real (sym e ∙ ap id_opened (past_end before reply place lt))

-- a ticket that is open has an id that isn't the greatest
pub real_id : (w : World) (before : List Reply) (k : Known) (g : Going) → IsKnown w before k → IsGoing w before k g → (tx_of g).ticket.id ≢ no_id
real_id w before k g known is e = unopened w.told known.kept.sound known.small (tx_of g).ticket.instant (ap (get w.told.state.tickets.instants) (sym e) ∙ is.there)

-- what is found among transactions that go on beside a commit was found before
met_before : (keys : List (ℕ × Bytes)) (o : Option (Option Transaction)) (tx : Transaction) → unwrap_or (option_map (option_map (met_by keys)) o) None ≡ Some tx → (old : Transaction) × (unwrap_or o None ≡ Some old)
met_before keys None tx is = absurd (none-some tx is)
met_before keys (Some None) tx is = absurd (none-some tx is)
met_before keys (Some (Some old)) tx is = (old, refl)

-- what is named after a call stood there before, or begins with it
pub named_after : (k after : Known) (keys : List (ℕ × Bytes)) (left : List (Option Transaction)) (more : Option Transaction) (place : ℕ) (tx : Transaction) → after.transactions ≡ map (option_map (met_by keys)) left ++ more ∷ []
    → named after place ≡ Some tx → ((old : Transaction) × (unwrap_or (slice_get left place) None ≡ Some old)) ⊎ ((place ≡ length left) × (more ≡ Some tx))
named_after k after keys left more place tx all is = by (where_is (length left) place)
  where
    met : List (Option Transaction)
    met = map (option_map (met_by keys)) left

    as_long : length met ≡ length left
    as_long = length-map left (option_map (met_by keys))

    found : (o : Option (Option Transaction)) → slice_get (met ++ more ∷ []) place ≡ o → unwrap_or o None ≡ Some tx
    found o at = ap (λ (p : Option (Option Transaction)). unwrap_or p None) (sym at) ∙ ap (λ (l : List (Option Transaction)). unwrap_or (slice_get l place) None) (sym all) ∙ is

    by : (place < length left) ⊎ ((place ≡ length left) ⊎ (length left < place)) → ((old : Transaction) × (unwrap_or (slice_get left place) None ≡ Some old)) ⊎ ((place ≡ length left) × (more ≡ Some tx))
    by (inl lt) =
        inl (met_before keys (slice_get left place) tx
        (found (option_map (option_map (met_by keys)) (slice_get left place)) (at_earlier met (more ∷ []) place (omega (arith, lt, as_long)) ∙ slice_get-map (option_map (met_by keys)) left place)))
    by (inr (inl here)) = inr (here, found (Some more) (at_end met more place (here ∙ sym as_long)))
    by (inr (inr lt)) = absurd (none-some tx (found None (past_end met more place (omega (arith, lt, as_long)))))

-- ---- lists of transactions that are apart

-- it holds both ways
pub apart_same : (g h : Going) → AreTwo g h → AreTwo h g
apart_same g h two = (λ e. two.0 (sym e), λ e. two.1 (sym e))

-- one more that is apart from each
pub apart_push : (going : List Going) (g : Going) → AreApart going → All (λ h. AreTwo h g) going → AreApart (going ++ g ∷ [])
apart_push [] g apart each = (All-nil (AreTwo g), tt)
apart_push (h ∷ going) g apart each =
    (All-push (AreTwo h) going g apart.0 (All-head (λ x. AreTwo x g) h going each), apart_push going g apart.1 (All-tail (λ x. AreTwo x g) h going each))

-- without the one at a place
abbrev without : {X : Type 0} → ℕ → List X → List X
without at xs = take at xs ++ drop (suc at) xs

-- as it is told
without_as : {X : Type 0} (at : ℕ) (xs : List X) → take at xs ++ drop (at + 1) xs ≡ without at xs
without_as at xs = ap (λ (n : ℕ). take at xs ++ drop n xs) (let same : at + 1 ≡ suc at = omega arith in same)

-- those that are left are apart, also from that one
apart_without : (at : ℕ) (going : List Going) (g : Going) → slice_get going at ≡ Some g → AreApart going → AreApart (without at going) × All (AreTwo g) (without at going)
apart_without at [] g is apart = absurd (none-some g is)
apart_without zero (h ∷ going) g is apart = (apart.1, subst (λ (x : Going). All (AreTwo x) going) (same_Some h g is) apart.0)
apart_without (suc at) (h ∷ going) g is apart =
    let rest = apart_without at going g is apart.1 in (
      (All-append (AreTwo h) (take at going) (drop (suc at) going) (All-take (AreTwo h) at going apart.0) (All-drop (AreTwo h) (suc at) going apart.0), rest.0),
      All-cons (AreTwo g) h (without at going) (apart_same h g (holds_at (AreTwo h) going at g is apart.0)) rest.1,
    )

-- one that is taken out is apart from those that are left
pub apart_taken : (is : Going → Bool) (going others : List Going) (g : Going) → Takes is going (Some g) others → AreApart going → AreApart others × All (AreTwo g) others
apart_taken is going others g (wanted, at, here, left) apart =
    subst (λ (l : List Going). AreApart l × All (AreTwo g) l) (sym (left ∙ without_as at going)) (apart_without at going g here apart)

-- one that is in a list is the one at the place, or is left without it
left_or_at : (at : ℕ) (going : List Going) (g h : Going) → slice_get going at ≡ Some g → Contains going h → (h ≡ g) ⊎ Contains (without at going) h
left_or_at at [] g h is has = absurd (none-some g is)
left_or_at zero (x ∷ going) g h is (zero, lt, same) = inl (sym same ∙ same_Some x g is)
left_or_at zero (x ∷ going) g h is (suc place, lt, same) = inr (place, omega arith, same)
left_or_at (suc at) (x ∷ going) g h is (zero, lt, same) = inr (zero, omega arith, same)
left_or_at (suc at) (x ∷ going) g h is (suc place, lt, same) = ⊎_elim inl (λ has. inr (suc has.0, (let lt = has.1 in omega (arith, lt)), has.2)) (left_or_at at going g h is (place, omega arith, same))

-- one that is in the list is the one that was taken out, or is left
pub taken_or_left : (is : Going → Bool) (going others : List Going) (g h : Going) → Takes is going (Some g) others → Contains going h → (h ≡ g) ⊎ Contains others h
taken_or_left is going others g h (wanted, at, here, left) has = subst (λ (l : List Going). (h ≡ g) ⊎ Contains l h) (sym (left ∙ without_as at going)) (left_or_at at going g h here has)
