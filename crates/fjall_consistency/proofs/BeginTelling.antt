-- What the beginning of a transaction is told in a list, and a call that names none, and what is known after it.
use Rattle.std.proofs.Common.{◌≡◌, ◌≢◌, ◌⊎◌, inl, inr, ⊎_elim, ℕ, zero, suc, ◌+◌, ◌<◌, ◌==◌, ◌&&◌, ◌||◌, Bool, true, false, if◌then◌else◌, cond, not, List, [], ◌∷◌, ◌++◌, length, map, get_or, All, Option, None, Some, is_none, is_some, unwrap_or, refl, sym, ap, subst, ◌∙◌, arith, append-nil, length-append}
use Rattle.std.proofs.Math.Bool.{or-false}
use Rattle.std.proofs.lemmas.Bool.{and_from, eq-eqb, not-false, true≢false}
use Rattle.std.proofs.lemmas.Bool.Decides.{nat_tests}
use Rattle.std.proofs.lemmas.List.{length-map}
use Rattle.std.proofs.lemmas.List.Elements.{All-contains, All-nil, All-push, Contains-append_left, Contains-push}
use Rattle.std.proofs.lemmas.Option.{get_or_from_slice_get, none-some, same_Some, slice_get_read, slice_get_within, some_pair_parts}
use Rattle.std.specs.Cmp.{nat_cmp_total}
use Rattle.std.specs.FinMap.{FinMap, empty, get, get-insert, insert}
use Rattle.std.specs.Ordering.{eq_by_cmp, nat_cmp}
use Rattle.std.specs.Prelude.{Contains, IsSomeAnd, option_map, slice_get}
use Rattle.fjall_base.specs.Pairs.{Bytes}
use Rattle.fjall_base.specs.Store.{Store}
use Rattle.fjall_base.specs.declared.error.Error.{Error}
use Rattle.fjall_base.specs.declared.error.Error.TheVariants.{Io, NumbersUsedUp, OutOfMemory, Poisoned, SnapshotClosed, Storage, TooManyItems, TransactionOpen, ValueTooLong}
use Rattle.fjall_journal.specs.declared.persist_mode.PersistMode.TheVariants.{Buffer}
use Rattle.fjall_tx.specs.Marks.{Marks}
use Rattle.fjall_history.specs.Histories.{History, latest, number, view}
use Rattle.fjall_history.specs.Moves.{Times}
use Rattle.fjall_history.specs.Tickets.{Tickets, ids_used_up, is_open}
use Rattle.fjall_history.specs.declared.reply.Reply.{Reply}
use Rattle.fjall_history.specs.declared.reply.Reply.TheVariants.{Done, Opened, Refused}
use Rattle.fjall_history.specs.declared.ticket.Ticket.{Ticket}
use Rattle.fjall_history.proofs.Views.{view_of_all}
use Rattle.fjall_machine.specs.Machine.{MayFail, Refuses, State, Step, StepOf, present}
use Rattle.fjall_machine.specs.Places.{id_opened}
use Rattle.fjall_machine.specs.Shapes.{OfTickets, Open}
use Rattle.fjall_machine.specs.declared.call.Call.TheVariants.{Snapshot}
use Rattle.fjall_calls.specs.declared.call.Kind.{Kind}
use Rattle.fjall_calls.specs.declared.call.Kind.TheVariants.{Optimistic, Single}
use Rattle.fjall_calls.specs.declared.call.TxCall.{TxCall}
use Rattle.fjall_calls.specs.declared.call.TxCall.TheVariants.{Begin, Commit, Core, Rollback, Within}
use Rattle.fjall_calls.specs.Hearing.{tx_of}
use Rattle.fjall_calls.specs.Names.{is_of_kind}
use Rattle.fjall_calls.specs.Steps.{IsBegun, OfCore, first_marks, is_transaction_named, is_one_open, is_written, may_begin, transaction_named, with_begun}
use Rattle.fjall_calls.specs.Worlds.{Going, World, along}
use Rattle.fjall_calls.proofs.Following.{told_number, told_view}
use Rattle.fjall_calls.proofs.KeptWorlds.{IsKept, IsKnown as IsKnownTo, kept_step, open_at, same_ticket}
use Rattle.fjall_calls.proofs.Lists.{stands_last}
use Rattle.fjall_calls.specs.Standing.{CoreState, history_of}
use Rattle.fjall_calls.specs.Transactions.{Tx, transaction_begun, no_marks}
use Rattle.fjall_consistency.specs.Alike.{AreAlike}
use Rattle.fjall_consistency.specs.Consistency.{HasCause, IsWriting, Known, NamesNone, Transaction, after as known_after, attempted, is_fault, named}
use Rattle.fjall_consistency.proofs.Going.{IsOfKind, IsSame, new_transaction, same_begun}
use Rattle.fjall_consistency.proofs.Known.{AreApart, AreTwo, IsGoing, IsKnown, IsShown, IsWritersOwn, Tells, no_id}
use Rattle.fjall_consistency.proofs.Steps.{refused_times, stays_poisoned, stays_well, turned_history}
use Rattle.fjall_consistency.proofs.Turning.{SameOn, Turns, all_shown, along_same, apart_push, core_turns, going_on, named_after, never_open, none_shown, one_each_still, real_id, still_turns}
use Rattle.fjall_consistency.proofs.Meeting.{met_by}

-- ---- what is known where no transaction ends

-- whether something failed, also by this call
failed_on : (failed fault : Bool) → (failed ≡ true) ⊎ (fault ≡ true) → (failed || fault) ≡ true
failed_on true fault either = refl
failed_on false fault (inl is) = absurd (true≢false (sym is))
failed_on false fault (inr is) = is

-- where nothing is told anew, all are as they were
same_here : (t : CoreState) → SameOn t t []
same_here t instant own marks mode tx is = subst (λ (since : List (ℕ × Bytes)). IsSame (history_of t) instant own marks mode (record tx { since = since })) (sym (append-nil tx.since)) is

module _ (w v : World) (before : List Reply) (k after : Known) (reply : Reply) (more : Option Transaction) (known : IsKnown w before k) (turns : Turns w.told v.told None) (same : SameOn w.told v.told [])
    (none : id_opened (Some reply) ≡ no_id) (all : after.transactions ≡ map (option_map (met_by [])) k.transactions ++ more ∷ []) where
  -- each that is open goes on
  each_goes_on : All (IsGoing v (before ++ reply ∷ []) after) w.going
  each_goes_on i d within =
      let is = known.going i d within in
      let real = real_id w before k (get_or w.going i d) known is in
      going_on w v before k after reply None [] k.transactions more (get_or w.going i d) turns same all is is.at (λ e. none-some _ e) (λ e. real (sym e ∙ none)) real

  -- one that is known after it was open, or is the one more
  found_before : (place : ℕ) (tx : Transaction) → named after place ≡ Some tx → ((h : Going) × Contains w.going h × (h.named.place ≡ place)) ⊎ ((place ≡ length before) × (more ≡ Some tx))
  found_before place tx at =
      ⊎_elim (λ old. inl (known.found place old.0 old.1)) (λ new. inr (new.0 ∙ known.transactions, new.1)) (named_after k after [] k.transactions more place tx all at)

  -- a writer that is open was so
  writer_before : (ticket : Ticket) → w.writer ≡ Some ticket → is_open v.told.state.tickets ticket.id ≡ true → (h : Going) × Contains w.going h × ((tx_of h).ticket ≡ ticket) × ((tx_of h).marks ≡ None)
  writer_before ticket is_writer opened =
      let at = open_at v.told.state.tickets ticket.id opened in
      known.writer ticket is_writer (ap is_some (turns.goes.follows.was_open ticket.id at.0 (known.writer_given ticket is_writer) at.1))

  -- no ticket is forgotten
  still_given : (ticket : Ticket) → w.writer ≡ Some ticket → ticket.id < v.told.state.tickets.next
  still_given ticket is_writer = let given = known.writer_given ticket is_writer in let up = turns.goes.follows.given in omega (arith, given, up)

  -- what is known after it stands beside the world after it, where so do the transactions
  known_on : IsKept v → AreAlike (present v.told.state) after.present → v.told.state.damaged ≡ [] → (v.told.state.poisoned ≡ true → after.failed ≡ true)
      → (after.broken ≡ true → v.told.state.poisoned ≡ true) → after.snapshots ≡ k.snapshots ++ None ∷ []
      → All (IsGoing v (before ++ reply ∷ []) after) v.going → AreApart v.going
      → ((place : ℕ) (tx : Transaction) → named after place ≡ Some tx → (g : Going) × Contains v.going g × (g.named.place ≡ place))
      → All (IsWritersOwn v) v.going → ((ticket : Ticket) → v.writer ≡ Some ticket → ticket.id < v.told.state.tickets.next)
      → ((ticket : Ticket) → v.writer ≡ Some ticket → is_open v.told.state.tickets ticket.id ≡ true → (g : Going) × Contains v.going g × ((tx_of g).ticket ≡ ticket) × ((tx_of g).marks ≡ None))
      → IsKnown v (before ++ reply ∷ []) after
  known_on kept alike undamaged well broken snapshots going apart found written writer_given writer = record {
    kept = kept;
    alike = alike;
    small = turns.small;
    undamaged = undamaged;
    well = well;
    broken = broken;
    snapshots = ap length snapshots ∙ length-append k.snapshots (None ∷ []) ∙ ap (λ n. n + 1) known.snapshots ∙ sym (length-append before (reply ∷ []));
    transactions =
        ap length all ∙ length-append (map (option_map (met_by [])) k.transactions) (more ∷ [])
        ∙ ap (λ n. n + 1) (length-map k.transactions (option_map (met_by [])) ∙ known.transactions) ∙ sym (length-append before (reply ∷ []));
    shown = λ place.
        subst (λ (l : List (Option Store)). IsShown v.told.state (id_opened (slice_get (before ++ reply ∷ []) place)) (unwrap_or (slice_get l place) None)) (sym snapshots)
        (all_shown w v before k reply None k.snapshots None known turns refl (λ i other. refl) (λ i closed. absurd (none-some _ closed))
        (none_shown v.told.state reply turns.small (never_open w.told None v.told turns) none) place);
    one_each = one_each_still w before k reply known (inl none);
    going = going;
    apart = apart;
    found = found;
    written = written;
    writer_given = writer_given;
    writer = writer;
  }

-- what is known behind a call that changed nothing, whether it met a fault or not
abbrev unchanged : Known → Bool → Known
unchanged k fault = record {
  present = k.present;
  snapshots = k.snapshots ++ None ∷ [];
  transactions = map (option_map (met_by [])) k.transactions ++ None ∷ [];
  failed = k.failed || fault;
  broken = k.broken || false;
}

-- it stands beside the world after it
unchanged_known : (w : World) (new : CoreState) (before : List Reply) (k : Known) (reply : Reply) (fault : Bool) → IsKnown w before k → Turns w.told new None → SameOn w.told new [] → id_opened (Some reply) ≡ no_id
    → IsKept (record w { told = new }) → present new.state ≡ present w.told.state → new.state.damaged ≡ w.told.state.damaged → (new.state.poisoned ≡ true → (w.told.state.poisoned ≡ true) ⊎ (fault ≡ true))
    → (w.told.state.poisoned ≡ true → new.state.poisoned ≡ true) → IsKnown (record w { told = new }) (before ++ reply ∷ []) (unchanged k fault)
unchanged_known w new before k reply fault known turns same none kept still undamaged well poisoned_still =
    let v : World = record w { told = new } in
    let now : Known = unchanged k fault in
    known_on w v before k now reply None known turns same none refl kept (subst (λ (s : Store). AreAlike s k.present) (sym still) known.alike) (undamaged ∙ known.undamaged)
    (λ poisoned. failed_on k.failed fault (⊎_elim (λ was. inl (known.well was)) inr (well poisoned))) (λ broken. poisoned_still (known.broken (sym (or-false k.broken) ∙ broken))) refl
    (each_goes_on w v before k now reply None known turns same none refl) known.apart
    (λ place tx at. ⊎_elim (λ found. found) (λ begins. absurd (none-some tx begins.1)) (found_before w v before k now reply None known turns same none refl place tx at))
    known.written
    (still_given w v before k now reply None known turns same none refl)
    (writer_before w v before k now reply None known turns same none refl)

-- where no call of the core was made
nothing_known : (w : World) (before : List Reply) (k : Known) (reply : Reply) → IsKnown w before k → id_opened (Some reply) ≡ no_id → IsKnown w (before ++ reply ∷ []) (unchanged k false)
nothing_known w before k reply known none =
    unchanged_known w w.told before k reply false known (still_turns w known.kept known.small) (same_here w.told) none known.kept refl refl (λ poisoned. inl poisoned) (λ poisoned. poisoned)

-- ---- the single writer

-- what is of the single writer's kind marks nothing
single_marks : (kind : Kind) (marks : Option Marks) → IsOfKind kind marks → kind ≡ Single → marks ≡ None
single_marks kind None is single = refl
single_marks kind (Some marks) is single = absurd (subst (λ (x : Kind). IsOfKind x (Some marks)) single is)

-- and what marks nothing is of that kind
marks_single : (kind : Kind) (marks : Option Marks) → IsOfKind kind marks → marks ≡ None → kind ≡ Single
marks_single Single marks is none = refl
marks_single Optimistic marks is none = absurd (subst (IsOfKind Optimistic) none is)

-- where a single writer's transaction is open, one is known
writing : (w : World) (before : List Reply) (k : Known) → IsKnown w before k → is_written w ≡ true → IsWriting k
writing w before k known written = by w.writer refl written
  where
    by : (o : Option Ticket) → w.writer ≡ o → is_one_open w.told.state.tickets o ≡ true → IsWriting k
    by None e opened = absurd (true≢false (sym opened))
    by (Some ticket) e opened =
        let found = known.writer ticket e opened in
        let is = All-contains (IsGoing w before k) w.going found.0 known.going found.1 in
        let place = found.0.named.place in (
          place,
          Some is.tx,
          slice_get_within k.transactions place (Some is.tx) is.at,
          get_or_from_slice_get k.transactions place (Some is.tx) (Some is.tx) is.at,
          marks_single is.tx.kind (tx_of found.0).marks is.same.kind found.3,
        )

-- where the single writer's may not begin, one is open
pub held_back_tells : (w : World) (before : List Reply) (k : Known) → IsKnown w before k → may_begin w Single ≡ false → Tells w before k (Begin Single) (Refused TransactionOpen)
held_back_tells w before k known due = record {
  answer = ((refl, writing w before k known (not-false (is_written w) due)), λ broken. refl);
  known = nothing_known w before k (Refused TransactionOpen) known refl;
}

-- where one may begin, none that is open is the single writer's
none_unmarked : (w : World) (before : List Reply) (k : Known) (h : Going) → may_begin w Single ≡ true → IsGoing w before k h → IsWritersOwn w h → (tx_of h).marks ≡ None → ⊥
none_unmarked w before k h free is own none =
    let written : is_written w ≡ true = ap (is_one_open w.told.state.tickets) (own none) ∙ ap is_some is.there in
    true≢false (sym free ∙ ap not written)

-- nor is any that is known
none_writing : (w : World) (before : List Reply) (k : Known) → IsKnown w before k → may_begin w Single ≡ true → IsWriting k → ⊥
none_writing w before k known free (place, o, within, same, single) = by o (slice_get_read k.transactions (length k.transactions) place o refl within (sym same)) single
  where
    by : (o : Option Transaction) → slice_get k.transactions place ≡ Some o → IsSomeAnd o (λ tx. tx.kind ≡ Single) → ⊥
    by None at single = single
    by (Some tx) at single =
        let found = known.found place tx (ap (λ (x : Option (Option Transaction)). unwrap_or x None) at) in
        let is = All-contains (IsGoing w before k) w.going found.0 known.going found.1 in
        let same_tx : is.tx ≡ tx = same_Some is.tx tx (same_Some (Some is.tx) (Some tx) (sym is.at ∙ ap (slice_get k.transactions) found.2 ∙ at)) in
        none_unmarked w before k found.0 free is (All-contains (IsWritersOwn w) w.going found.0 known.written found.1)
        (single_marks is.tx.kind (tx_of found.0).marks is.same.kind (ap (λ (t : Transaction). t.kind) same_tx ∙ single))

-- ---- no ticket is opened

-- only memory runs out, where nothing is due
open_fails : (k : Known) (kind : Kind) (error : Error) (s t : State) → MayFail (OfTickets Open) error s t → HasCause k (Begin kind) error
open_fails k kind (Io told) s t fails = tt
open_fails k kind OutOfMemory s t fails = tt
open_fails k kind (Storage told) s t (is, damaged, same) = absurd damaged
open_fails k kind ValueTooLong s t (long, same) = absurd long
open_fails k kind Poisoned s t (late, same) = absurd late
open_fails k kind NumbersUsedUp s t fails = tt
open_fails k kind TooManyItems s t fails = tt
open_fails k kind error s t none = absurd none

-- and else the numbers
open_cause : (k : Known) (kind : Kind) (error : Error) (s t : State) → StepOf s (OfTickets Open) (Refused error) t → HasCause k (Begin kind) error
open_cause k kind error s t refuses = by (ids_used_up s.tickets) refuses
  where
    by : (b : Bool) → Refuses (if b then Some NumbersUsedUp else None) (OfTickets Open) error s t → HasCause k (Begin kind) error
    by true (is, same) = subst (HasCause k (Begin kind)) (sym is) tt
    by false fails = open_fails k kind error s t fails

-- nothing is known anew then
not_begun_after : (k : Known) (kind : Kind) (error : Error) → unchanged k (is_fault (Refused error)) ≡ known_after k (Begin kind) (Refused error)
not_begun_after k kind SnapshotClosed = refl
not_begun_after k kind error = refl

-- and nothing was attempted
nothing_attempted : (k : Known) (kind : Kind) (error : Error) → attempted k (Begin kind) (Refused error) ≡ []
nothing_attempted k kind (Io fault) = refl
nothing_attempted k kind error = refl

pub not_begun_tells : (w : World) (before : List Reply) (k : Known) (kind : Kind) (error : Error) (s : State) → IsKnown w before k → Step w.told.state Snapshot (Refused error) s → Tells (along w s) before k (Begin kind) (Refused error)
not_begun_tells w before k kind error s known step =
    let turns = core_turns w Snapshot (Refused error) s known.kept known.small step in
    let well = stays_well w.told.state s (OfTickets Open) (Refused error) step in
    record {
      answer = (open_cause k kind error w.told.state s step, λ broken. nothing_attempted k kind error);
      known =
          subst (IsKnown (along w s) (before ++ Refused error ∷ [])) (not_begun_after k kind error)
          (unchanged_known w (along w s).told before k (Refused error) (is_fault (Refused error)) known turns (along_same w s known.kept turns.goes) refl
          (kept_step w (along w s) before (Core Snapshot) (Refused error) (Snapshot ∷ []) (Refused error ∷ []) known.kept (OfCore Snapshot (Refused error) s step))
          (ap (λ (t : Times). latest t.history) (refused_times w.told.state s (OfTickets Open) error step)) well.0 well.1
          (stays_poisoned w.told.state s (OfTickets Open) (Refused error) step));
    }

-- ---- one begins

-- what is put in is found
put_there : (m : FinMap nat_cmp ℕ) (id instant : ℕ) → get (insert m id instant) id ≡ Some instant
put_there m id instant = let same : eq_by_cmp nat_cmp id id ≡ true = grind (arith, nat_tests) in get-insert nat_cmp_total m id instant id ∙ ap (λ b. cond b (Some instant) (get m id)) same

-- with one more at the end, a place has what it had, or the one more
had_or_last : {X : Type 0} (xs : List X) (x : X) (place : ℕ) → (slice_get (xs ++ x ∷ []) place ≡ slice_get xs place) ⊎ (slice_get (xs ++ x ∷ []) place ≡ Some x)
had_or_last [] x zero = inr refl
had_or_last [] x (suc place) = inl refl
had_or_last (y ∷ xs) x zero = inl refl
had_or_last (y ∷ xs) x (suc place) = had_or_last xs x place

module _ (w : World) (before : List Reply) (k : Known) (kind : Kind) (ticket : Ticket) (s : State) (known : IsKnown w before k) (free : may_begin w kind ≡ true) (step : Step w.told.state Snapshot (Opened ticket) s) where
  -- the one that begins, the world afterwards, and what is known then
  abbrev new : Going
  new = record { named = record { place = length before; transaction = transaction_begun (first_marks kind) ticket }; heard = [] }

  abbrev v : World
  v = with_begun (along w s) kind (length before) ticket

  abbrev now : Known
  now = known_after k (Begin kind) Done

  -- its ticket is the next one
  is_next : ticket ≡ record { id = w.told.state.tickets.next; instant = number w.told.state.history }
  is_next = same_ticket ticket (record { id = w.told.state.tickets.next; instant = number w.told.state.history }) step.1.0.0

  id_is : ticket.id ≡ w.told.state.tickets.next
  id_is = ap (λ (t : Ticket). t.id) is_next

  -- and is given out now
  next_is : s.tickets.next ≡ w.told.state.tickets.next + 1
  next_is = ap (λ (t : Tickets). t.next) step.1.0.1

  -- it is open
  opened : get s.tickets.instants ticket.id ≡ Some ticket.instant
  opened =
      ap (λ (t : Tickets). get t.instants ticket.id) step.1.0.1
      ∙ ap (get (insert w.told.state.tickets.instants w.told.state.tickets.next (number w.told.state.history))) id_is
      ∙ put_there w.told.state.tickets.instants w.told.state.tickets.next (number w.told.state.history)
      ∙ ap (λ (t : Ticket). Some t.instant) (sym is_next)

  -- the history is as it was
  history_is : s.history ≡ w.told.state.history
  history_is = turned_history w.told.state s Open (Opened ticket) step.1

  -- no ticket is closed
  turns : Turns w.told v.told None
  turns = core_turns w Snapshot (Opened ticket) s known.kept known.small step

  same : SameOn w.told v.told []
  same = along_same w s known.kept turns.goes

  -- no call named a ticket of its id
  unnamed : (place : ℕ) → id_opened (slice_get (before ++ Done ∷ []) place) ≡ ticket.id → ⊥
  unnamed place e = ⊎_elim
      (λ had. given (ap id_opened (sym had) ∙ e) (known.shown place).given)
      (λ last. let is : ticket.id ≡ no_id = sym e ∙ ap id_opened last in let small = turns.small in absurd (omega (arith, id_is, next_is, small, is)))
      (had_or_last before Done place)
    where
      given : {id : ℕ} → id ≡ ticket.id → (id < w.told.state.tickets.next) ⊎ (id ≡ no_id) → ⊥
      given is (inl lt) = omega (arith, is, lt, id_is)
      given is (inr none) = let small = turns.small in omega (arith, is, none, id_is, next_is, small)

  -- it shows what is known of now
  shows : AreAlike (view (history_of v.told) (number (history_of v.told))) k.present
  shows =
      let counted = told_number v.told turns.goes.sound in
      subst (λ (x : Store). AreAlike x k.present)
      (sym (told_view v.told turns.goes.sound (number (history_of v.told)) ∙ view_of_all s.history (number (history_of v.told)) (omega (arith, counted)) ∙ ap latest history_is)) known.alike

  -- the place of the call has it
  stands_there : slice_get now.transactions (length before) ≡ Some (Some (new_transaction kind k.present))
  stands_there =
      ap (slice_get now.transactions) (sym known.transactions ∙ sym (length-map k.transactions (option_map (met_by []))))
      ∙ stands_last (map (option_map (met_by [])) k.transactions) (Some (new_transaction kind k.present))

  -- so it is known
  begins : IsGoing v (before ++ Done ∷ []) now new
  begins = record {
    tx = new_transaction kind k.present;
    at = stands_there;
    there = opened;
    unnamed = unnamed;
    same = subst (λ (n : ℕ). IsSame (history_of v.told) n empty (first_marks kind) (Some Buffer) (new_transaction kind k.present))
        (told_number v.told turns.goes.sound ∙ ap number history_is ∙ ap (λ (t : Ticket). t.instant) (sym is_next))
        (same_begun (history_of v.told) kind k.present shows);
  }

  -- another is apart from it
  two : (h : Going) → IsGoing w before k h → IsKnownTo w.told h → AreTwo h new
  two h is given = (
    λ e. let lt = slice_get_within k.transactions h.named.place (Some is.tx) is.at in let long = known.transactions in absurd (omega (arith, e, lt, long)),
    λ e. let lt = given.given in absurd (omega (arith, e, lt, id_is)),
  )

  -- what is found before or is the new one is found
  found : (place : ℕ) (tx : Transaction) → named now place ≡ Some tx → (g : Going) × Contains v.going g × (g.named.place ≡ place)
  found place tx at = ⊎_elim
      (λ old. (old.0, Contains-append_left w.going (new ∷ []) old.0 old.1, old.2))
      (λ last. (new, Contains-push w.going new, sym last.0))
      (found_before w v before k now Done (Some (new_transaction kind k.present)) known turns same refl refl place tx at)

  -- what is known after it stands beside the world after it, where so does the single writer
  begun_known : All (IsWritersOwn v) v.going → ((t : Ticket) → v.writer ≡ Some t → t.id < s.tickets.next)
      → ((t : Ticket) → v.writer ≡ Some t → is_open s.tickets t.id ≡ true → (g : Going) × Contains v.going g × ((tx_of g).ticket ≡ t) × ((tx_of g).marks ≡ None))
      → IsKnown v (before ++ Done ∷ []) now
  begun_known written writer_given writer =
      let well = stays_well w.told.state s (OfTickets Open) (Opened ticket) step in
      let more : Option Transaction = Some (new_transaction kind k.present) in
      known_on w v before k now Done more known turns same refl refl
      (kept_step w v before (Begin kind) Done (Snapshot ∷ []) (Opened ticket ∷ []) known.kept (IsBegun kind free ticket s step))
      (subst (λ (h : History). AreAlike (latest h) k.present) (sym history_is) known.alike)
      (well.0 ∙ known.undamaged) (λ poisoned. failed_on k.failed false (⊎_elim (λ was. inl (known.well was)) inr (well.1 poisoned)))
      (λ broken. stays_poisoned w.told.state s (OfTickets Open) (Opened ticket) step (known.broken (sym (or-false k.broken) ∙ broken))) refl
      (All-push (IsGoing v (before ++ Done ∷ []) now) w.going new (each_goes_on w v before k now Done more known turns same refl refl) begins)
      (apart_push w.going new known.apart (λ i d lt. two (get_or w.going i d) (known.going i d lt) (known.kept.going i d lt)))
      found written writer_given writer

-- an optimistic one
optimistic_begun : (w : World) (before : List Reply) (k : Known) (ticket : Ticket) (s : State) → IsKnown w before k → Step w.told.state Snapshot (Opened ticket) s
    → IsKnown (with_begun (along w s) Optimistic (length before) ticket) (before ++ Done ∷ []) (known_after k (Begin Optimistic) Done)
optimistic_begun w before k ticket s known step =
    let g : Going = new w before k Optimistic ticket s known refl step in
    let x : World = v w before k Optimistic ticket s known refl step in
    let after : Known = now w before k Optimistic ticket s known refl step in
    let more : Option Transaction = Some (new_transaction Optimistic k.present) in
    let goes = turns w before k Optimistic ticket s known refl step in
    let on = same w before k Optimistic ticket s known refl step in
    begun_known w before k Optimistic ticket s known refl step
    (All-push (IsWritersOwn x) w.going g known.written (λ none. absurd (none-some no_marks (sym none))))
    (still_given w x before k after Done more known goes on refl refl)
    (λ t e opened. let old = writer_before w x before k after Done more known goes on refl refl t e opened in (old.0, Contains-append_left w.going (g ∷ []) old.0 old.1, old.2, old.3))

-- and the single writer's
single_begun : (w : World) (before : List Reply) (k : Known) (ticket : Ticket) (s : State) → IsKnown w before k → may_begin w Single ≡ true → Step w.told.state Snapshot (Opened ticket) s
    → IsKnown (with_begun (along w s) Single (length before) ticket) (before ++ Done ∷ []) (known_after k (Begin Single) Done)
single_begun w before k ticket s known free step =
    let g : Going = new w before k Single ticket s known free step in
    let x : World = v w before k Single ticket s known free step in
    let id = id_is w before k Single ticket s known free step in
    let next = next_is w before k Single ticket s known free step in
    begun_known w before k Single ticket s known free step
    (All-push (IsWritersOwn x) w.going g (λ i d lt none. absurd (none_unmarked w before k (get_or w.going i d) free (known.going i d lt) (known.written i d lt) none)) (λ none. refl))
    (λ t e. let same_id = ap (λ (o : Ticket). o.id) (same_Some ticket t e) in omega (arith, same_id, id, next))
    (λ t e opened. (g, Contains-push w.going g, same_Some ticket t e, refl))

pub begun_tells : (w : World) (before : List Reply) (k : Known) (kind : Kind) (ticket : Ticket) (s : State) → IsKnown w before k → may_begin w kind ≡ true → Step w.told.state Snapshot (Opened ticket) s
    → Tells (with_begun (along w s) kind (length before) ticket) before k (Begin kind) Done
begun_tells w before k Optimistic ticket s known free step = record { answer = (refl, All-nil _, λ broken. refl); known = optimistic_begun w before k ticket s known step }
begun_tells w before k Single ticket s known free step = record { answer = ((refl, none_writing w before k known free), All-nil _, λ broken. refl); known = single_begun w before k ticket s known free step }

-- ---- none is named

-- a transaction is found as of its kind
found_so : (kind : Kind) (tx : Tx) → IsOfKind kind tx.marks → is_of_kind (Some kind) tx ≡ true
found_so Optimistic tx is = by tx.marks is
  where
    by : (marks : Option Marks) → IsOfKind Optimistic marks → not (is_none marks) ≡ true
    by None is = absurd is
    by (Some marks) is = refl
found_so Single tx is = by tx.marks is
  where
    by : (marks : Option Marks) → IsOfKind Single marks → is_none marks ≡ true
    by None is = refl
    by (Some marks) is = absurd is

-- one that is known by this name is open, and has the name where it is of the kind
never_named : (w : World) (before : List Reply) (k : Known) (name : ℕ) (kind : Option Kind) (tx : Transaction) → IsKnown w before k → All (λ g. is_transaction_named w name kind g ≡ false) w.going
    → ((g : Tx) → IsOfKind tx.kind g.marks → is_of_kind kind g ≡ true) → named k name ≡ Some tx → ⊥
never_named w before k name kind tx known none of_kind at =
    let found = known.found name tx at in
    let g = found.0 in
    let is = All-contains (IsGoing w before k) w.going g known.going found.1 in
    let same_tx : is.tx ≡ tx = same_Some is.tx tx (ap (λ (o : Option (Option Transaction)). unwrap_or o None) (sym is.at) ∙ ap (named k) found.2 ∙ at) in
    let here : (g.named.place == name) ≡ true = eq-eqb g.named.place name found.2 in
    let has : is_transaction_named w name kind g ≡ true =
    and_from (g.named.place == name) (is_of_kind kind (tx_of g) && is_open w.told.state.tickets (tx_of g).ticket.id) here
    (and_from (is_of_kind kind (tx_of g)) (is_open w.told.state.tickets (tx_of g).ticket.id)
    (of_kind (tx_of g) (subst (λ (t : Transaction). IsOfKind t.kind (tx_of g).marks) same_tx is.same.kind)) (ap is_some is.there)) in
    true≢false (sym has ∙ All-contains (λ h. is_transaction_named w name kind h ≡ false) w.going g none found.1)

-- so none is named
no_name : (w : World) (before : List Reply) (k : Known) (name : ℕ) → IsKnown w before k → All (λ g. is_transaction_named w name None g ≡ false) w.going → named k name ≡ None
no_name w before k name known none = by (named k name) refl
  where
    by : (o : Option Transaction) → named k name ≡ o → named k name ≡ None
    by None e = e
    by (Some tx) e = absurd (never_named w before k name None tx known none (λ g is. refl) e)

-- nor one of the kind
no_kind : (w : World) (before : List Reply) (k : Known) (name : ℕ) (kind : Kind) → IsKnown w before k → All (λ g. is_transaction_named w name (Some kind) g ≡ false) w.going
    → (tx : Transaction) → named k name ≡ Some tx → tx.kind ≢ kind
no_kind w before k name kind known none tx at same =
    never_named w before k name (Some kind) tx known none (λ g is. found_so kind g (subst (λ (x : Kind). IsOfKind x g.marks) same is)) at

-- a call that names a transaction names none that is open
names_none : (w : World) (before : List Reply) (k : Known) (call : TxCall) (name : ℕ) (kind : Option Kind) → IsKnown w before k → transaction_named call ≡ Some (name, kind) → All (λ g. is_transaction_named w name kind g ≡ false) w.going
    → NamesNone k call
names_none w before k (Within n c) name kind known is none =
    let same = some_pair_parts n name None kind is in
    no_name w before k n known (λ i d lt. (λ j. is_transaction_named w (same.0 j) (same.1 j) (get_or w.going i d)) ∙ none i d lt)
names_none w before k (Commit x n) name kind known is none =
    let same = some_pair_parts n name (Some x) kind is in
    no_kind w before k n x known (λ i d lt. (λ j. is_transaction_named w (same.0 j) (same.1 j) (get_or w.going i d)) ∙ none i d lt)
names_none w before k (Rollback n) name kind known is none =
    let same = some_pair_parts n name None kind is in
    no_name w before k n known (λ i d lt. (λ j. is_transaction_named w (same.0 j) (same.1 j) (get_or w.going i d)) ∙ none i d lt)
names_none w before k call name kind known is none = absurd (none-some (name, kind) is)

-- and leaves what is known
unknown_after : (k : Known) (call : TxCall) (name : ℕ) (kind : Option Kind) → transaction_named call ≡ Some (name, kind) → unchanged k false ≡ known_after k call (Refused SnapshotClosed)
unknown_after k (Within n c) name kind is = refl
unknown_after k (Commit Optimistic n) name kind is = refl
unknown_after k (Commit Single n) name kind is = refl
unknown_after k (Rollback n) name kind is = refl
unknown_after k call name kind is = absurd (none-some (name, kind) is)

pub unknown_tells : (w : World) (before : List Reply) (k : Known) (call : TxCall) (name : ℕ) (kind : Option Kind) → IsKnown w before k → transaction_named call ≡ Some (name, kind) → All (λ g. is_transaction_named w name kind g ≡ false) w.going
    → Tells w before k call (Refused SnapshotClosed)
unknown_tells w before k call name kind known is none = record {
  answer = (names_none w before k call name kind known is none, λ broken. refl);
  known = subst (IsKnown w (before ++ Refused SnapshotClosed ∷ [])) (unknown_after k call name kind is) (nothing_known w before k (Refused SnapshotClosed) known refl);
}
