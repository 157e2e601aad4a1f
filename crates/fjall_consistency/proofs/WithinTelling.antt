-- What a call within a transaction is told in a list, and what is known after it.
use Rattle.std.proofs.Common.{◌≡◌, ◌≢◌, ◌⊎◌, inl, inr, ⊎_elim, ℕ, zero, suc, ◌+◌, ◌≤◌, ◌==◌, ◌||◌, nat_le, not, Bool, true, false, if◌then◌else◌, List, [], ◌∷◌, ◌++◌, length, map, All, Option, None, Some, unwrap_or, refl, sym, ap, subst, ◌∙◌, arith, length-append}
use Rattle.std.proofs.Math.Bool.{or-false}
use Rattle.std.proofs.lemmas.Bool.{and_parts, cases_eq, eqb-false, eqb-true, leb-false, or_left, or_parts, or_right, true≢false}
use Rattle.std.proofs.lemmas.List.{length-map, length-set}
use Rattle.std.proofs.lemmas.List.Elements.{All-cons, All-nil, All-push, All-same, All-weaker, Contains-append_left, Contains-push}
use Rattle.std.proofs.lemmas.Option.{none-some, same_Some, slice_get-map, some_pair_parts}
use Rattle.std.specs.FinMap.{get}
use Rattle.std.specs.Option.{option_eq, option_map}
use Rattle.std.specs.Prelude.{Contains, is_none, is_some, slice_get, slice_set}
use Rattle.std.specs.Str.{bytes_eq}
use Rattle.fjall_base.specs.Limits.{item_refusal}
use Rattle.fjall_base.specs.Pairs.{Bytes, Pairs, lookup, page, pairs_between}
use Rattle.fjall_base.specs.Store.{Command, Item, Store, fold, map_at}
use Rattle.fjall_base.specs.declared.error.Error.{Error}
use Rattle.fjall_base.specs.declared.error.Error.TheVariants.{Io, KeyspaceDeleted, OutOfMemory, SnapshotClosed, UnknownKeyspace}
use Rattle.fjall_journal.specs.Ops.{bytes_in, value_in}
use Rattle.fjall_tx.specs.Marks.{Marks, OfKey, OfRange}
use Rattle.fjall_tx.specs.Owns.{own_written, wanted}
use Rattle.fjall_history.specs.Histories.{History, latest, view}
use Rattle.fjall_history.specs.Moves.{Times}
use Rattle.fjall_history.specs.Queries.{Get, Page, Query}
use Rattle.fjall_history.specs.Tickets.{is_open}
use Rattle.fjall_history.specs.declared.reply.Reply.{Reply}
use Rattle.fjall_history.specs.declared.reply.Reply.TheVariants.{Done, Opened, Refused, Value}
use Rattle.fjall_history.specs.declared.ticket.Ticket.{Ticket}
use Rattle.fjall_history.specs.declared.ticket.View.{View}
use Rattle.fjall_history.specs.declared.ticket.View.TheVariants.{At}
use Rattle.fjall_machine.specs.Machine.{State, Step, StepOf, due, facts, first_due, is_read, is_unknown, present, times}
use Rattle.fjall_machine.specs.Places.{id_opened}
use Rattle.fjall_machine.specs.Shapes.{OfRead}
use Rattle.fjall_machine.specs.declared.call.Call.{Call}
use Rattle.fjall_calls.specs.declared.call.TxCall.TheVariants.{Within}
use Rattle.fjall_calls.specs.declared.call.Within.{Within as Inner}
use Rattle.fjall_calls.specs.declared.call.Within.TheVariants as inner
use Rattle.fjall_calls.specs.Acting.{Acts, AnswersWithin, AreFine, AsksCore, AsksFor, AsksNothing, Gets, IsNotUpdated, IsUnread, IsUnwritable, Pages, Persists, RunsOut, Updates, Writes, call_for, query_of, seen_by, update_of, update_reply}
use Rattle.fjall_calls.specs.Hearing.{tx_of}
use Rattle.fjall_calls.specs.Names.{Takes}
use Rattle.fjall_calls.specs.Steps.{IsWithin, gone_by, is_transaction_named}
use Rattle.fjall_calls.specs.Worlds.{Going, World, along}
use Rattle.fjall_calls.proofs.Following.{told_view}
use Rattle.fjall_calls.proofs.KeptWorlds.{IsKept, asked_goes_on, kept_step}
use Rattle.fjall_calls.proofs.Lists.{of_others, of_taken, stays_at}
use Rattle.fjall_calls.proofs.Marking.{Keeps, keeps_answered}
use Rattle.fjall_calls.specs.Standing.{history_of}
use Rattle.fjall_calls.specs.Transactions.{Tx, having_read, having_touched, is_same_value, op_of, replace_refusal, replacing, with_own}
use Rattle.fjall_consistency.specs.Alike.{AreAlike}
use Rattle.fjall_consistency.specs.Consistency.{HasCause, IsAnswer, IsMade, IsToldWithin, Known, NamesThere, Transaction, accepted, after as known_after, after_within, attempted, ids_in, is_fault, items_in, named, one, seen, transactions_after, updating, value_at}
use Rattle.fjall_consistency.proofs.Causes.{item_cause, read_cause}
use Rattle.fjall_consistency.proofs.Going.{IsSame, same_mode, same_read, same_update, same_update_kept, same_write, sees_same}
use Rattle.fjall_consistency.proofs.Known.{IsWritersOwn, AreApart, AreTwo, IsGoing, IsKnown, Tells, no_id}
use Rattle.fjall_consistency.proofs.Steps.{refused_times, stays_poisoned, stays_well}
use Rattle.fjall_consistency.proofs.Turning.{SameOn, Turns, all_shown, along_same, apart_push, apart_taken, going_on, named_after, never_open, none_shown, one_each_still, real_id, taken_or_left}
use Rattle.fjall_consistency.proofs.Meeting.{met_by}

-- ---- lists

-- what a place has that is set
set_here : {X : Type 0} (xs : List X) (k : ℕ) (x y : X) → slice_get xs k ≡ Some x → slice_get (slice_set xs k y) k ≡ Some y
set_here [] k x y at = absurd (none-some x at)
set_here (z ∷ xs) zero x y at = refl
set_here (z ∷ xs) (suc k) x y at = set_here xs k x y at

-- and what another has
set_elsewhere : {X : Type 0} (xs : List X) (k j : ℕ) (y : X) → (j ≡ k → ⊥) → slice_get (slice_set xs k y) j ≡ slice_get xs j
set_elsewhere [] k j y other = refl
set_elsewhere (z ∷ xs) zero zero y other = absurd (other refl)
set_elsewhere (z ∷ xs) zero (suc j) y other = refl
set_elsewhere (z ∷ xs) (suc k) zero y other = refl
set_elsewhere (z ∷ xs) (suc k) (suc j) y other = set_elsewhere xs k j y (λ e. other (ap suc e))

-- a place that is set to what it has
set_same : {X : Type 0} (xs : List X) (k : ℕ) (x : X) → slice_get xs k ≡ Some x → slice_set xs k x ≡ xs
set_same [] k x at = refl
set_same (z ∷ xs) zero x at = ap (λ y. y ∷ xs) (let same : x ≡ z = cc in same)
set_same (z ∷ xs) (suc k) x at = ap (λ l. z ∷ l) (set_same xs k x at)

-- ---- what the core is asked

-- a query of one keyspace is of that one
same_id : (i id : ℕ) (query other : Query) → ◌≡◌ {A = Option (ℕ × Query)} (Some (i, query)) (Some (id, other)) → i ∷ [] ≡ id ∷ []
same_id i id query other is = ap (λ j. j ∷ []) (some_pair_parts i id query other is).0

-- the keyspace that a call reads is the one that it names
read_named : (k : Known) (name : ℕ) (call : Inner) (id : ℕ) (query : Query) → query_of call ≡ Some (id, query) → ids_in k (Within name call) ≡ id ∷ []
read_named k name (inner.Get i key) id query is = same_id i id (Get key) query is
read_named k name (inner.Page i range back max) id query is = same_id i id (Page range back max) query is
read_named k name (inner.Take i key) id query is = same_id i id (Get key) query is
read_named k name (inner.FetchUpdate i key new) id query is = same_id i id (Get key) query is
read_named k name (inner.UpdateFetch i key new) id query is = same_id i id (Get key) query is
read_named k name (inner.Write i key op) id query is = absurd (none-some (id, query) is)
read_named k name (inner.Durability mode) id query is = absurd (none-some (id, query) is)

-- so it is among those that it names
read_among : (k : Known) (name : ℕ) (call : Inner) (id : ℕ) (query : Query) → query_of call ≡ Some (id, query) → Contains (ids_in k (Within name call)) id
read_among k name call id query is = subst (λ (ids : List ℕ). Contains ids id) (sym (read_named k name call id query is)) (0, omega arith, refl)

-- a query is asked as a read within the view of the transaction
read_step : (s t : State) (tx : Tx) (id : ℕ) (query : Query) (reply : Reply) → Step s (call_for tx id query) reply t → (read : Query) × StepOf s (OfRead (At tx.ticket) id read) reply t
read_step s t tx id (Get key) reply step = (Get key, step)
read_step s t tx id (Page range back max) reply step = (Page range back (wanted tx.own id range max), step)

-- a read leaves the history and the tickets
read_rests : (s t : State) (at : View) (id : ℕ) (query : Query) (reply : Reply) → StepOf s (OfRead at id query) reply t → times t ≡ times s
read_rests s t at id query (Refused error) refuses = refused_times s t (OfRead at id query) error refuses
read_rests s t at id query reply (none, (told, same)) = ap times same

-- so does a call within a transaction
asks_rests : (s t : State) (tx : Tx) (call : Inner) (made : List Call) (told : List Reply) → AsksCore s tx call made told t → times t ≡ times s
asks_rests s t tx call made told AsksNothing = refl
asks_rests s t tx call made told (AsksFor id query is reply u step) = let read = read_step s u tx id query reply step in read_rests s u (At tx.ticket) id read.0 reply read.1

-- the core's reply, where it was asked, tells of a fault of the disk
abbrev tells_fault : List Reply → Bool
tells_fault [] = false
tells_fault (reply ∷ told) = is_fault reply

-- it leaves which keyspaces are damaged, and only a fault of the disk poisons the engine
asks_well : (s t : State) (tx : Tx) (call : Inner) (made : List Call) (told : List Reply) → AsksCore s tx call made told t
    → (t.damaged ≡ s.damaged) × (t.poisoned ≡ true → (s.poisoned ≡ true) ⊎ (tells_fault told ≡ true))
asks_well s t tx call made told AsksNothing = (refl, λ poisoned. inl poisoned)
asks_well s t tx call made told (AsksFor id query is reply u step) = let read = read_step s u tx id query reply step in stays_well s u (OfRead (At tx.ticket) id read.0) reply read.1

-- a read that the core refuses is refused for a cause
asks_cause : (s t : State) (k : Known) (name : ℕ) (tx : Tx) (call : Inner) (made : List Call) (told : List Reply) → AreAlike (present s) k.present → s.damaged ≡ [] → is_open s.tickets tx.ticket.id ≡ true
    → AsksCore s tx call made told t → (error : Error) → told ≡ Refused error ∷ [] → HasCause k (Within name call) error
asks_cause s t k name tx call made told alike undamaged stands AsksNothing error e = absurd cc
asks_cause s t k name tx call made told alike undamaged stands (AsksFor id query is reply u step) error e =
    let same : reply ≡ Refused error = cc in
    let read = read_step s u tx id query (Refused error) (subst (λ (r : Reply). Step s (call_for tx id query) r u) same step) in
    read_cause s u k (Within name call) (At tx.ticket) id read.0 error alike undamaged stands (read_among k name call id query is) tt read.1

-- and a poisoned engine stays so
asks_poisoned : (s t : State) (tx : Tx) (call : Inner) (made : List Call) (told : List Reply) → AsksCore s tx call made told t → s.poisoned ≡ true → t.poisoned ≡ true
asks_poisoned s t tx call made told AsksNothing poisoned = poisoned
asks_poisoned s t tx call made told (AsksFor id query is reply u step) poisoned =
    let read = read_step s u tx id query reply step in stays_poisoned s u (OfRead (At tx.ticket) id read.0) reply read.1 poisoned

-- where none of some refusals is due, the second isn't
second_not_due : (first second : Bool) (one_error other_error : Error) (others : List (Bool × Error)) → first_due ((first, one_error) ∷ (second, other_error) ∷ others) ≡ None → second ≡ false
second_not_due true second one_error other_error others none = absurd (none-some one_error (sym none))
second_not_due false true one_error other_error others none = absurd (none-some other_error (sym none))
second_not_due false false one_error other_error others none = refl

-- where no refusal of a read is due, its keyspace was made
due_made : (s : State) (k : Known) (ticket : Ticket) (id : ℕ) (query : Query) → AreAlike (present s) k.present → due s (OfRead (At ticket) id query) ≡ None → IsMade k.present id
due_made s k ticket id query alike none =
    let shut = not (is_open s.tickets ticket.id) in
    let known = or_parts (id == 0) (nat_le (present s).next id)
    (second_not_due shut (is_unknown (present s) id) SnapshotClosed UnknownKeyspace ((not (is_read (facts s) id), KeyspaceDeleted) ∷ []) none) in
    (omega (arith, eqb-false id 0 known.0), omega (arith, alike.next, leb-false (present s).next id known.1))

-- so it was of one that the core doesn't refuse
read_made : (s t : State) (k : Known) (ticket : Ticket) (id : ℕ) (query : Query) (reply : Reply) → AreAlike (present s) k.present → AreFine (reply ∷ []) → StepOf s (OfRead (At ticket) id query) reply t
    → IsMade k.present id
read_made s t k ticket id query (Refused error) alike fine refuses = absurd fine
read_made s t k ticket id query reply alike fine (none, answers) = due_made s k ticket id query alike none

-- so all that a call names were made, which the core didn't refuse
asks_made : (s t : State) (k : Known) (name : ℕ) (tx : Tx) (call : Inner) (made : List Call) (told : List Reply) → AreAlike (present s) k.present → AsksCore s tx call made told t
    → (below : Reply) → told ≡ below ∷ [] → AreFine (below ∷ []) → NamesThere k (Within name call)
asks_made s t k name tx call made told alike AsksNothing below e fine = absurd cc
asks_made s t k name tx call made told alike (AsksFor id query is reply u step) below e fine =
    let same : reply ≡ below = cc in
    let read = read_step s u tx id query below (subst (λ (r : Reply). Step s (call_for tx id query) r u) same step) in
    All-same (IsMade k.present) (ids_in k (Within name call)) (id ∷ []) (read_named k name call id query is)
    (All-cons (IsMade k.present) id [] (read_made s u k tx.ticket id read.0 below alike fine read.1) (All-nil (IsMade k.present)))

-- what the core didn't refuse is no fault
fine_fault : (told : List Reply) → AreFine told → tells_fault told ≡ true → ⊥
fine_fault [] fine fault = true≢false (sym fault)
fine_fault (Refused error ∷ told) fine fault = fine
fine_fault (reply ∷ told) fine fault = true≢false (sym fault)

-- where the core tells of a fault, so does the call
told_fault : (s : State) (tx after : Tx) (call : Inner) (told : List Reply) (reply : Reply) → AnswersWithin s tx call told reply after → tells_fault told ≡ true → is_fault reply ≡ true
told_fault s tx after call told reply (IsUnread c error) fault = fault
told_fault s tx after call told reply (RunsOut c t fine may) fault = absurd (fine_fault t fine fault)
told_fault s tx after call told reply (Gets id key below r fine tells) fault = absurd (fine_fault (below ∷ []) fine fault)
told_fault s tx after call told reply (Pages id range back max below r fine tells) fault = absurd (fine_fault (below ∷ []) fine fault)
told_fault s tx after call told reply (Writes id key op fits) fault = absurd (true≢false (sym fault))
told_fault s tx after call told reply (IsUnwritable id key op error due) fault = absurd (true≢false (sym fault))
told_fault s tx after call told reply (Updates c id key new found is below fine finds fits) fault = absurd (fine_fault (below ∷ []) fine fault)
told_fault s tx after call told reply (IsNotUpdated c id key new found is below fine finds error due) fault = absurd (fine_fault (below ∷ []) fine fault)
told_fault s tx after call told reply (Persists mode) fault = absurd (true≢false (sym fault))

-- ---- updates

-- an update, as its call names it
same_update_of : (i id : ℕ) (q key : Bytes) (n new : Option Bytes) → ◌≡◌ {A = Option (ℕ × Bytes × Option Bytes)} (Some (i, q, n)) (Some (id, key, new)) → (i ≡ id) × (q ≡ key) × (n ≡ new)
same_update_of i id q key n new is =
    let same : ◌≡◌ {A = ℕ × Bytes × Option Bytes} (i, q, n) (id, key, new) = same_Some (i, q, n) (id, key, new) is in
    (ap (λ (u : ℕ × Bytes × Option Bytes). u.0) same, ap (λ (u : ℕ × Bytes × Option Bytes). u.1) same, ap (λ (u : ℕ × Bytes × Option Bytes). u.2) same)

-- the write that gives a key a value, or none
op_gives : (new : Option Bytes) → value_in (op_of new) ≡ new
op_gives (Some value) = refl
op_gives None = refl

-- the item that an update writes
update_item : (k : Known) (name : ℕ) (call : Inner) (id : ℕ) (key : Bytes) (new : Option Bytes) → update_of call ≡ Some (id, key, new) → items_in k (Within name call) ≡ one id key (value_in (op_of new))
update_item k name (inner.Take i q) id key new is = let same = same_update_of i id q key None new is in λ j. one (same.0 j) (same.1 j) ((same.2 ∙ sym (op_gives new)) j)
update_item k name (inner.FetchUpdate i q n) id key new is = let same = same_update_of i id q key n new is in λ j. one (same.0 j) (same.1 j) ((same.2 ∙ sym (op_gives new)) j)
update_item k name (inner.UpdateFetch i q n) id key new is = let same = same_update_of i id q key n new is in λ j. one (same.0 j) (same.1 j) ((same.2 ∙ sym (op_gives new)) j)
update_item k name (inner.Get i q) id key new is = absurd (none-some (id, key, new) is)
update_item k name (inner.Page i range back max) id key new is = absurd (none-some (id, key, new) is)
update_item k name (inner.Write i q op) id key new is = absurd (none-some (id, key, new) is)
update_item k name (inner.Durability mode) id key new is = absurd (none-some (id, key, new) is)

-- the transaction after it
update_after : (t : Transaction) (call : Inner) (id : ℕ) (key : Bytes) (new : Option Bytes) → update_of call ≡ Some (id, key, new) → updating t id key new ≡ after_within t call
update_after t (inner.Take i q) id key new is = let same = same_update_of i id q key None new is in λ j. updating t (sym same.0 j) (sym same.1 j) (sym same.2 j)
update_after t (inner.FetchUpdate i q n) id key new is = let same = same_update_of i id q key n new is in λ j. updating t (sym same.0 j) (sym same.1 j) (sym same.2 j)
update_after t (inner.UpdateFetch i q n) id key new is = let same = same_update_of i id q key n new is in λ j. updating t (sym same.0 j) (sym same.1 j) (sym same.2 j)
update_after t (inner.Get i q) id key new is = absurd (none-some (id, key, new) is)
update_after t (inner.Page i range back max) id key new is = absurd (none-some (id, key, new) is)
update_after t (inner.Write i q op) id key new is = absurd (none-some (id, key, new) is)
update_after t (inner.Durability mode) id key new is = absurd (none-some (id, key, new) is)

-- what it is told, where it found this
update_told : (t : Transaction) (call : Inner) (id : ℕ) (key : Bytes) (new found : Option Bytes) → update_of call ≡ Some (id, key, new) → found ≡ value_at (seen t) id key
    → IsToldWithin t call (update_reply call found)
update_told t (inner.Take i q) id key new found is finds = let same = same_update_of i id q key None new is in ap Value (finds ∙ (λ j. value_at (seen t) (sym same.0 j) (sym same.1 j)))
update_told t (inner.FetchUpdate i q n) id key new found is finds = let same = same_update_of i id q key n new is in ap Value (finds ∙ (λ j. value_at (seen t) (sym same.0 j) (sym same.1 j)))
update_told t (inner.UpdateFetch i q n) id key new found is finds = refl
update_told t (inner.Get i q) id key new found is finds = absurd (none-some (id, key, new) is)
update_told t (inner.Page i range back max) id key new found is finds = absurd (none-some (id, key, new) is)
update_told t (inner.Write i q op) id key new found is finds = absurd (none-some (id, key, new) is)
update_told t (inner.Durability mode) id key new found is finds = absurd (none-some (id, key, new) is)

-- why it isn't made: what would be written has no spelling
update_due : (key : Bytes) (found new : Option Bytes) (error : Error) → replace_refusal key found new ≡ Some error → item_refusal key (bytes_in (op_of new)) ≡ Some error
update_due key found new error due = by (is_same_value found new) due
  where
    by : (b : Bool) → (if b then None else item_refusal key (bytes_in (op_of new))) ≡ Some error → item_refusal key (bytes_in (op_of new)) ≡ Some error
    by true is = absurd (none-some error is)
    by false is = is

-- an open transaction that reads at the instant is known as this one
abbrev IsKnownAs : History → ℕ → Tx → Transaction → Type 0
IsKnownAs h instant tx t = IsSame h instant tx.own tx.marks tx.mode t

-- where it is known before an update, so it is after it
update_same : (h : History) (instant : ℕ) (tx : Tx) (t : Transaction) (id : ℕ) (key : Bytes) (found new : Option Bytes) → IsKnownAs h instant tx t → found ≡ value_at (seen t) id key
    → IsKnownAs h instant (replacing (having_read tx (OfKey id key)) id key found new) (updating t id key new)
update_same h instant tx t id key found new same finds = by (is_same_value found new) refl
  where
    by : (b : Bool) → option_eq bytes_eq found new ≡ b
        → IsKnownAs h instant (if b then having_touched (having_read tx (OfKey id key)) id key else with_own (having_read tx (OfKey id key)) id key (op_of new)) (updating t id key new)
    by true e = same_update_kept h instant tx.own tx.marks tx.mode t id key found new same finds e
    by false e = same_update h instant tx.own tx.marks tx.mode t id key found new same finds e

-- ---- what comes of a call

-- a reply that is no refusal, and tells of no ticket
abbrev IsAnswered : Reply → Type 0
IsAnswered (Refused error) = ⊥
IsAnswered (Opened ticket) = ⊥
IsAnswered reply = Unit {0}

-- a call that is refused leaves all transactions
refused_leaves : (k : Known) (name : ℕ) (call : Inner) (error : Error) → transactions_after k (Within name call) (Refused error) ≡ k.transactions
refused_leaves k name call SnapshotClosed = refl
refused_leaves k name call error = refl

-- and attempts nothing
refused_attempts : (k : Known) (name : ℕ) (call : Inner) (error : Error) → attempted k (Within name call) (Refused error) ≡ []
refused_attempts k name call (Io fault) = refl
refused_attempts k name call error = refl

-- another changes the one that it names
answered_leaves : (k : Known) (name : ℕ) (call : Inner) (reply : Reply) (t : Transaction) → IsAnswered reply → named k name ≡ Some t
    → transactions_after k (Within name call) reply ≡ slice_set k.transactions name (Some (after_within t call))
answered_leaves k name call (Refused error) t answered is = absurd answered
answered_leaves k name call reply t answered is = ap (λ (o : Option Transaction). slice_set k.transactions name (option_map (λ x. after_within x call) o)) is

-- and is told so
answered_told : (k : Known) (name : ℕ) (call : Inner) (reply : Reply) (t : Transaction) → IsAnswered reply → named k name ≡ Some t → IsToldWithin t call reply → NamesThere k (Within name call)
    → IsAnswer k (Within name call) reply
answered_told k name call (Refused error) t answered is told made = absurd answered
answered_told k name call reply t answered is told made = ((t, is, told), made, λ broken. refl)

-- no ticket is opened by it
unopened : (reply : Reply) → IsAnswered reply → id_opened (Some reply) ≡ no_id
unopened (Opened ticket) answered = absurd answered
unopened reply answered = refl

-- an update is answered
update_answered : (call : Inner) (found : Option Bytes) → IsAnswered (update_reply call found)
update_answered (inner.UpdateFetch id key new) found = tt
update_answered call found = tt

-- It is told what callers may rely on, and the transaction that it names is known afterwards.
record ComesTo (h : History) (instant : ℕ) (k : Known) (name : ℕ) (call : Inner) (reply : Reply) (after : Tx) : Type 0 where
  answer : IsAnswer k (Within name call) reply
  unopened : id_opened (Some reply) ≡ no_id
  new : Transaction
  left : transactions_after k (Within name call) reply ≡ slice_set k.transactions name (Some new)
  same : IsKnownAs h instant after new

-- where the transaction of this name is known as that one
module _ (h : History) (instant : ℕ) (k : Known) (name : ℕ) (tx : Tx) (t : Transaction) (at : slice_get k.transactions name ≡ Some (Some t)) (same : IsKnownAs h instant tx t) where
  -- so callers name it
  here : named k name ≡ Some t
  here = ap (λ (o : Option (Option Transaction)). unwrap_or o None) at

  -- a refusal leaves it
  refused_comes : (call : Inner) (error : Error) → HasCause k (Within name call) error → ComesTo h instant k name call (Refused error) tx
  refused_comes call error cause = record {
    answer = (cause, λ broken. refused_attempts k name call error);
    unopened = refl;
    new = t;
    left = refused_leaves k name call error ∙ sym (set_same k.transactions name (Some t) at);
    same = same;
  }

  -- an answer leaves it as its call does
  answered_comes : (call : Inner) (reply : Reply) (after : Tx) → IsAnswered reply → IsToldWithin t call reply → NamesThere k (Within name call) → IsKnownAs h instant after (after_within t call)
      → ComesTo h instant k name call reply after
  answered_comes call reply after answered told made now = record {
    answer = answered_told k name call reply t answered here told made;
    unopened = unopened reply answered;
    new = after_within t call;
    left = answered_leaves k name call reply t answered here;
    same = now;
  }

  -- each call within it, where callers know what it sees, what the core refuses has a cause, and what it answers is of keyspaces that were made
  comes : (s : State) → ((id : ℕ) → map_at (seen t).maps id ≡ seen_by s tx id) → (call : Inner) (told : List Reply) (reply : Reply) (after : Tx) → AnswersWithin s tx call told reply after
      → ((error : Error) → told ≡ Refused error ∷ [] → HasCause k (Within name call) error)
      → ((below : Reply) → told ≡ below ∷ [] → AreFine (below ∷ []) → NamesThere k (Within name call)) → ComesTo h instant k name call reply after
  comes s sees call told reply after (IsUnread c error) causes made = refused_comes c error (causes error refl)
  comes s sees call told reply after (RunsOut c some fine may) causes made = refused_comes c OutOfMemory tt
  comes s sees call told reply after (Gets id key below r fine tells) causes made =
      answered_comes (inner.Get id key) r (having_read tx (OfKey id key)) (subst IsAnswered (sym tells) tt)
      (tells ∙ ap (λ (pairs : Pairs). Value (lookup pairs key)) (sym (sees id))) (made below refl fine)
      (same_read h instant tx.own tx.marks tx.mode t (OfKey id key) same)
  comes s sees call told reply after (Pages id range back max below r fine (found, tells, are)) causes made =
      answered_comes (inner.Page id range back max) r (having_read tx (OfRange id range.0 range.1)) (subst IsAnswered (sym tells) tt)
      (found, tells, are ∙ ap (λ (pairs : Pairs). page back max (pairs_between range pairs)) (sym (sees id))) (made below refl fine)
      (same_read h instant tx.own tx.marks tx.mode t (OfRange id range.0 range.1) same)
  comes s sees call told reply after (Writes id key op fits) causes made =
      answered_comes (inner.Write id key op) Done (with_own tx id key op) tt refl (All-nil (IsMade k.present)) (same_write h instant tx.own tx.marks tx.mode t id key op same)
  comes s sees call told reply after (IsUnwritable id key op error due) causes made =
      refused_comes (inner.Write id key op) error (item_cause k (Within name (inner.Write id key op)) id key op error (0, omega arith, refl) due)
  comes s sees call told reply after (Updates c id key new found is below fine finds fits) causes made =
      let known : found ≡ value_at (seen t) id key = finds ∙ ap (λ (pairs : Pairs). lookup pairs key) (sym (sees id)) in
      let next = replacing (having_read tx (OfKey id key)) id key found new in
      answered_comes c (update_reply c found) next (update_answered c found) (update_told t c id key new found is known) (made below refl fine)
      (subst (IsKnownAs h instant next) (update_after t c id key new is) (update_same h instant tx t id key found new same known))
  comes s sees call told reply after (IsNotUpdated c id key new found is below fine finds error due) causes made =
      refused_comes c error
      (item_cause k (Within name c) id key (op_of new) error
      (subst (λ (items : List Item). Contains items (record { id = id; key = key; value = value_in (op_of new) })) (sym (update_item k name c id key new is)) (0, omega arith, refl))
      (update_due key found new error due))
  comes s sees call told reply after (Persists mode) causes made =
      answered_comes (inner.Durability mode) Done (record tx { mode = mode }) tt refl (All-nil (IsMade k.present)) (same_mode h instant tx.own tx.marks tx.mode mode t same)

-- what a transaction sees is what callers know that it sees
seen_is : (w : World) (before : List Reply) (k : Known) (g : Going) → IsKept w → (is : IsGoing w before k g) → (id : ℕ) → map_at (seen is.tx).maps id ≡ seen_by w.told.state (tx_of g) id
seen_is w before k g kept is id =
    let tx = tx_of g in
    let instant = tx.ticket.instant in
    sees_same (history_of w.told) instant tx.own tx.marks tx.mode is.tx is.same id
    ∙ ap (λ (s : Store). map_at (own_written s.maps tx.own) id)
    (told_view w.told kept.sound instant ∙ ap (view w.told.state.history) (sym (ap (λ (o : Option ℕ). unwrap_or o 0) is.there)))

-- ---- what is known after it

-- no call within a transaction changes the store
nothing_accepted : (k : Known) (name : ℕ) (call : Inner) (reply : Reply) → accepted k (Within name call) reply ≡ []
nothing_accepted k name call (Refused error) = refl
nothing_accepted k name call reply = refl

-- so none breaks it
nothing_broken : (k : Known) (name : ℕ) (call : Inner) (reply : Reply) → (known_after k (Within name call) reply).broken ≡ k.broken
nothing_broken k name call (Refused (Io kind)) = or-false k.broken
nothing_broken k name call (Refused error) = or-false k.broken
nothing_broken k name call reply = or-false k.broken

-- what has no marks has none still
unmarked_still : (old new : Option Marks) → is_none new ≡ is_none old → old ≡ None → new ≡ None
unmarked_still old None same none = refl
unmarked_still old (Some marks) same none = absurd (true≢false (sym (same ∙ ap is_none none)))

-- the engine is known to have failed where it is poisoned
failed_still : (failed fault : Bool) → (failed ≡ true) ⊎ (fault ≡ true) → (failed || fault) ≡ true
failed_still failed fault (inl before) = or_left failed fault before
failed_still failed fault (inr now) = or_right failed fault now

-- a call within a transaction that is known
module _ (w : World) (before : List Reply) (k : Known) (name : ℕ) (call : Inner) (g : Going) (others : List Going) (reply : Reply) (made : List Call) (told : List Reply) (s : State) (after : Tx)
    (known : IsKnown w before k) (takes : Takes (is_transaction_named w name None) w.going (Some g) others) (acts : Acts w.told.state (tx_of g) call reply made told s after) where
  -- the transaction afterwards, the world afterwards, and what is known then
  abbrev called : Going
  called = gone_by g call reply after

  abbrev v : World
  v = record (along w s) { going = others ++ called ∷ [] }

  abbrev now : Known
  now = known_after k (Within name call) reply

  -- the transaction is known under its name
  is : IsGoing w before k g
  is = of_taken (IsGoing w before k) (is_transaction_named w name None) w.going others g takes known.going

  -- which is its place
  has_place : g.named.place ≡ name
  has_place = eqb-true g.named.place name (and_parts (g.named.place == name) (is_open w.told.state.tickets (tx_of g).ticket.id) takes.0).0

  at : slice_get k.transactions name ≡ Some (Some is.tx)
  at = subst (λ (n : ℕ). slice_get k.transactions n ≡ Some (Some is.tx)) has_place is.at

  -- its ticket is open
  opened : is_open w.told.state.tickets (tx_of g).ticket.id ≡ true
  opened = ap is_some is.there

  -- and stays as it is
  keeps : Keeps (tx_of g) after
  keeps = keeps_answered w.told.state (tx_of g) after call told reply acts.answers

  -- what comes of the call
  come : ComesTo (history_of w.told) (tx_of g).ticket.instant k name call reply after
  come =
      comes (history_of w.told) (tx_of g).ticket.instant k name (tx_of g) is.tx at is.same w.told.state (seen_is w before k g known.kept is) call told reply after acts.answers
      (asks_cause w.told.state s k name (tx_of g) call made told known.alike known.undamaged opened acts.asks)
      (asks_made w.told.state s k name (tx_of g) call made told known.alike acts.asks)

  -- the history and the tickets are as they were
  rests : times s ≡ times w.told.state
  rests = asks_rests w.told.state s (tx_of g) call made told acts.asks

  -- the engine is as well as it was, but for a fault of the disk
  well : (s.damaged ≡ w.told.state.damaged) × (s.poisoned ≡ true → (w.told.state.poisoned ≡ true) ⊎ (tells_fault told ≡ true))
  well = asks_well w.told.state s (tx_of g) call made told acts.asks

  -- no ticket is opened or closed
  turns : Turns w.told v.told None
  turns = record {
    goes = asked_goes_on w (tx_of g) call made told s known.kept.sound acts.asks;
    small = subst (λ (t : Times). t.tickets.next ≤ no_id) (sym rests) known.small;
    stays = λ id instant still there. ap (λ (t : Times). get t.tickets.instants id) rests ∙ there;
    closes = λ id e. absurd (none-some id e);
  }

  -- each transaction that is known is known still
  same_on : SameOn w.told v.told []
  same_on = along_same w s known.kept turns.goes

  -- the transactions that are known then
  abbrev left : List (Option Transaction)
  left = slice_set k.transactions name (Some come.new)

  -- to which the call adds none
  all : now.transactions ≡ map (option_map (met_by [])) left ++ None ∷ []
  all = ap (λ (l : List (Option Transaction)). map (option_map (met_by [])) l ++ None ∷ []) come.left

  -- the id of its ticket is one that tickets have
  real : (tx_of g).ticket.id ≢ no_id
  real = real_id w before k g known is

  -- its ticket stays open, and no call names one of its id
  stays_open : IsGoing v (before ++ reply ∷ []) (record now { transactions = map (option_map (met_by [])) k.transactions ++ None ∷ [] }) g
  stays_open = going_on w v before k (record now { transactions = map (option_map (met_by [])) k.transactions ++ None ∷ [] }) reply None [] k.transactions None g turns same_on refl is is.at
      (λ e. none-some (tx_of g).ticket.id e) (λ e. real (sym e ∙ come.unopened)) real

  -- it goes on
  goes : IsGoing v (before ++ reply ∷ []) now called
  goes = record {
    tx = met_by [] come.new;
    at = subst (λ (l : List (Option Transaction)). slice_get l g.named.place ≡ Some (Some (met_by [] come.new))) (sym all)
        (stays_at (map (option_map (met_by [])) left) (None ∷ []) g.named.place (Some (met_by [] come.new))
        (slice_get-map (option_map (met_by [])) left g.named.place ∙ ap (option_map (option_map (met_by [])))
        (ap (slice_get left) has_place ∙ set_here k.transactions name (Some is.tx) (Some come.new) at)));
    there = subst (λ (t : Ticket). get s.tickets.instants t.id ≡ Some t.instant) (sym keeps.ticket) stays_open.there;
    unnamed = λ place e. stays_open.unnamed place (e ∙ ap (λ (t : Ticket). t.id) keeps.ticket);
    same = subst (λ (t : Ticket). IsSame (history_of v.told) t.instant after.own after.marks after.mode (met_by [] come.new)) (sym keeps.ticket)
        (same_on (tx_of g).ticket.instant after.own after.marks after.mode come.new come.same);
  }

  -- the others are apart from it and from each other
  apart : AreApart others × All (AreTwo g) others
  apart = apart_taken (is_transaction_named w name None) w.going others g takes known.apart

  -- and go on
  other_goes : (h : Going) → IsGoing w before k h × AreTwo g h → IsGoing v (before ++ reply ∷ []) now h
  other_goes h (going, two) =
      let real_other = real_id w before k h known going in
      going_on w v before k now reply None [] left None h turns same_on all going
      (set_elsewhere k.transactions name h.named.place (Some come.new) (λ e. two.0 (has_place ∙ sym e)) ∙ going.at)
      (λ e. none-some (tx_of h).ticket.id e) (λ e. real_other (sym e ∙ come.unopened)) real_other

  -- all of them
  others_go : All (IsGoing v (before ++ reply ∷ []) now) others
  others_go =
      let going = of_others (IsGoing w before k) (is_transaction_named w name None) w.going others g takes known.going in
      All-weaker (λ h. IsGoing w before k h × AreTwo g h) (IsGoing v (before ++ reply ∷ []) now) other_goes others (λ i d lt. (going i d lt, apart.1 i d lt))

  -- they are apart from the transaction afterwards too
  still_apart : (h : Going) → AreTwo g h → AreTwo h called
  still_apart h two = (λ e. two.0 (sym e), λ e. two.1 (sym (e ∙ ap (λ (t : Ticket). t.id) keeps.ticket)))

  -- one that was among all is the one that was called, or is among the others
  found_still : (P : Going → Type 0) (h : Going) → Contains w.going h → P h → (h ≡ g → P called) → (x : Going) × Contains v.going x × P x
  found_still P h has holds same = ⊎_elim
      (λ e. (called, Contains-push others called, same e))
      (λ in_others. (h, Contains-append_left others (called ∷ []) h in_others, holds))
      (taken_or_left (is_transaction_named w name None) w.going others g h takes has)

  -- what is named was named before
  named_before : (place : ℕ) (t : Transaction) → unwrap_or (slice_get left place) None ≡ Some t → (old : Transaction) × (named k place ≡ Some old)
  named_before place t e = ⊎_elim
      (λ same. (is.tx, ap (λ (o : Option (Option Transaction)). unwrap_or o None) (ap (slice_get k.transactions) same ∙ at)))
      (λ other. (t, ap (λ (o : Option (Option Transaction)). unwrap_or o None) (sym (set_elsewhere k.transactions name place (Some come.new) other)) ∙ e))
      (cases_eq place name)

  -- and so each that is named is found
  found : (place : ℕ) (t : Transaction) → named now place ≡ Some t → (x : Going) × Contains v.going x × (x.named.place ≡ place)
  found place t e = ⊎_elim
      (λ old.
      let was = named_before place old.0 old.1 in
      let there = known.found place was.0 was.1 in
      found_still (λ x. x.named.place ≡ place) there.0 there.1 there.2 (λ same. ap (λ (x : Going). x.named.place) (sym same) ∙ there.2))
      (λ new. absurd (none-some t new.1))
      (named_after k now [] left None place t all e)

  -- the single writer's is found
  writer : (ticket : Ticket) → w.writer ≡ Some ticket → is_open s.tickets ticket.id ≡ true → (x : Going) × Contains v.going x × ((tx_of x).ticket ≡ ticket) × ((tx_of x).marks ≡ None)
  writer ticket e open_still =
      let there = known.writer ticket e (sym (ap (λ (t : Times). is_open t.tickets ticket.id) rests) ∙ open_still) in
      let x = found_still (λ x. ((tx_of x).ticket ≡ ticket) × ((tx_of x).marks ≡ None)) there.0 there.1 (there.2, there.3) (λ same. (
        keeps.ticket ∙ ap (λ (h : Going). (tx_of h).ticket) (sym same) ∙ there.2,
        unmarked_still (tx_of g).marks after.marks keeps.kind (ap (λ (h : Going). (tx_of h).marks) (sym same) ∙ there.3),
      )) in
      (x.0, x.1, x.2.0, x.2.1)

  -- what is known after the call stands beside the world after it
  known_now : IsKnown v (before ++ reply ∷ []) now
  known_now = record {
    kept = kept_step w v before (Within name call) reply made told known.kept (IsWithin name call g others takes reply made told s after acts);
    alike = subst (λ (h : History). AreAlike (latest h) now.present) (sym (ap (λ (t : Times). t.history) rests))
        (subst (λ (commands : List Command). AreAlike (present w.told.state) (fold k.present commands)) (sym (nothing_accepted k name call reply)) known.alike);
    small = turns.small;
    undamaged = well.0 ∙ known.undamaged;
    well = λ poisoned. failed_still k.failed (is_fault reply)
        (⊎_elim (λ before_it. inl (known.well before_it)) (λ fault. inr (told_fault w.told.state (tx_of g) after call told reply acts.answers fault)) (well.1 poisoned));
    broken = λ broken. asks_poisoned w.told.state s (tx_of g) call made told acts.asks (known.broken (sym (nothing_broken k name call reply) ∙ broken));
    snapshots = length-append k.snapshots (None ∷ []) ∙ ap (λ (n : ℕ). n + 1) known.snapshots ∙ sym (length-append before (reply ∷ []));
    transactions = ap length all ∙ length-append (map (option_map (met_by [])) left) (None ∷ [])
        ∙ ap (λ (n : ℕ). n + 1) (length-map left (option_map (met_by [])) ∙ length-set k.transactions name (Some come.new) ∙ known.transactions) ∙ sym (length-append before (reply ∷ []));
    shown = all_shown w v before k reply None k.snapshots None known turns refl (λ place others_too. refl) (λ place e. absurd (none-some (id_opened (slice_get before place)) e))
        (none_shown s reply turns.small (never_open w.told None v.told turns) come.unopened);
    one_each = one_each_still w before k reply known (inl come.unopened);
    going = All-push (IsGoing v (before ++ reply ∷ []) now) others called others_go goes;
    apart = apart_push others called apart.0 (All-weaker (AreTwo g) (λ h. AreTwo h called) still_apart others apart.1);
    found = found;
    written = All-push (IsWritersOwn w) others called (of_others (IsWritersOwn w) (is_transaction_named w name None) w.going others g takes known.written)
        (λ none. of_taken (IsWritersOwn w) (is_transaction_named w name None) w.going others g takes known.written (unmarked_still after.marks (tx_of g).marks (sym keeps.kind) none) ∙ ap (λ (t : Ticket). Some t) (sym keeps.ticket));
    writer_given = λ ticket e. let given = known.writer_given ticket e in let up = turns.goes.follows.given in omega (arith, given, up);
    writer = writer;
  }

  -- and the call was told what callers may rely on
  told_so : Tells v before k (Within name call) reply
  told_so = record { answer = come.answer; known = known_now }

pub within_tells : (w : World) (before : List Reply) (k : Known) (name : ℕ) (call : Inner) (g : Going) (others : List Going) (reply : Reply) (made : List Call) (told : List Reply) (s : State) (after : Tx) → IsKnown w before k
    → Takes (is_transaction_named w name None) w.going (Some g) others → Acts w.told.state (tx_of g) call reply made told s after
    → Tells (record (along w s) { going = others ++ gone_by g call reply after ∷ [] }) before k (Within name call) reply
within_tells w before k name call g others reply made told s after known takes acts = told_so w before k name call g others reply made told s after known takes acts
