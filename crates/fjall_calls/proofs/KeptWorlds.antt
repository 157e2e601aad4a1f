-- What is kept of a world along its steps: what its transactions heard is of their views, and those that committed stand in the history.
use Rattle.std.proofs.Common.{◌≡◌, ◌≤◌, ◌<◌, ⊎_elim, ℕ, ◌+◌, ◌==◌, ◌&&◌, Bool, true, false, if◌then◌else◌, List, [], ◌∷◌, ◌++◌, All, Option, None, Some, unwrap_or, length, nat_lt, refl, sym, ap, subst, ◌∙◌, arith}
use Rattle.std.proofs.lemmas.Bool.{true≢false}
use Rattle.std.proofs.lemmas.Bool.Decides.{nat_tests}
use Rattle.std.proofs.lemmas.List.Elements.{All-append, All-nil, All-push, All-weaker}
use Rattle.std.specs.Prelude.{is_some, slice_get}
use Rattle.std.specs.FinMap.{get}
use Rattle.fjall_base.specs.Store.{Store, map_at}
use Rattle.fjall_base.specs.declared.error.Error.{Error}
use Rattle.fjall_tx.specs.Marks.{Marks}
use Rattle.fjall_tx.specs.declared.outcome.CommitOutcome.{CommitOutcome}
use Rattle.fjall_tx.specs.Owns.{items_of, own_written}
use Rattle.fjall_history.specs.Histories.{History, number, view}
use Rattle.fjall_history.specs.Moves.{Rests}
use Rattle.fjall_history.specs.Queries.{Tells}
use Rattle.fjall_history.specs.Tickets.{Tickets, is_open}
use Rattle.fjall_history.specs.declared.reply.Reply.{Reply}
use Rattle.fjall_history.specs.declared.reply.Reply.TheVariants.{Opened, Refused}
use Rattle.fjall_history.specs.declared.ticket.Ticket.{Ticket}
use Rattle.fjall_history.specs.declared.ticket.View.TheVariants.{At}
use Rattle.fjall_history.proofs.Maps.{found_in}
use Rattle.fjall_history.proofs.Views.{number_grown, view_grown}
use Rattle.fjall_machine.specs.Machine.{State, Step, maps_in}
use Rattle.fjall_machine.specs.Places.{resolved}
use Rattle.fjall_machine.specs.declared.call.Call.{Call}
use Rattle.fjall_machine.specs.declared.call.Call.TheVariants.{CloseSnapshot, Snapshot}
use Rattle.fjall_machine.proofs.Moving.{step_moves}
use Rattle.fjall_core.specs.Transactions.{Tx, transaction_begun}
use Rattle.fjall_core.specs.Standing.{CommitStep, CoreState, accepted_of, gone_on, history_of}
use Rattle.fjall_calls.specs.declared.call.Kind.{Kind}
use Rattle.fjall_calls.specs.declared.call.TxCall.{TxCall}
use Rattle.fjall_calls.specs.declared.call.Within.{Within}
use Rattle.fjall_calls.specs.Acting.{Acts, AsksCore, AsksFor, AsksNothing, call_for, heard_by}
use Rattle.fjall_calls.specs.Names.{Takes, is_of_kind}
use Rattle.fjall_calls.specs.Steps.{IsBegun, IsEnded, IsHeldBack, IsNotBegun, IsRolledBack, IsUnknown, IsWithin, NoCall, OfCore, OneCall, TxRun, TxStep, first_marks, gone_by, gone_with, is_transaction_named}
use Rattle.fjall_calls.specs.Worlds.{Going, Gone, Heard, World, along}
use Rattle.fjall_calls.specs.Hearing.{IsOfView, StandsIn, tx_of}
use Rattle.fjall_calls.proofs.Answering.{heard_of_view, kept_of_views}
use Rattle.fjall_calls.proofs.Commits.{commit_goes_on, commit_stands_last}
use Rattle.fjall_calls.proofs.Following.{Follows, GoesOn, IsSound, goes_along, goes_nowhere, told_number, told_view}
use Rattle.fjall_calls.proofs.Lists.{of_others, of_taken, stays_at}
use Rattle.fjall_calls.proofs.Marking.{Keeps, keeps_answered}

-- A transaction that is open in the list: its ticket was given out, and reads, where it is open, at the instant that it says, which is
-- one of the history; and what it heard is of its view.
pub record IsKnown (t : CoreState) (g : Going) : Type 0 where
  pub given : (tx_of g).ticket.id < t.state.tickets.next
  pub within : (tx_of g).ticket.instant ≤ number (history_of t)
  pub reads : (instant : ℕ) → get t.state.tickets.instants (tx_of g).ticket.id ≡ Some instant → instant ≡ (tx_of g).ticket.instant
  pub heard : All (IsOfView (history_of t) (tx_of g)) g.heard

-- One that committed stands in the history, and its instant is one of it.
pub record HasCommitted (t : CoreState) (g : Gone) : Type 0 where
  pub within : (tx_of g.was).ticket.instant ≤ number (history_of t)
  pub stands : StandsIn (history_of t) g

-- What is told is sound, and this holds of all its transactions.
pub record IsKept (w : World) : Type 0 where
  pub sound : IsSound w.told
  pub going : All (IsKnown w.told) w.going
  pub gone : All (HasCommitted w.told) w.gone

-- ---- as what is told goes on

-- a view that stays answers as it did
viewed_on : (old new : History) (tx : Tx) → view new tx.ticket.instant ≡ view old tx.ticket.instant → (heard : List Heard)
    → All (IsOfView old tx) heard → All (IsOfView new tx) heard
viewed_on old new tx same heard all =
    All-weaker (IsOfView old tx) (IsOfView new tx) (λ one of. record {
      tells = subst (λ (s : Store). Tells one.query (map_at (own_written s.maps one.own) one.id) one.reply) (sym same) of.tells;
      marked = of.marked;
    }) heard all

known_on : (old new : CoreState) → Follows old new → (g : Going) → IsKnown old g → IsKnown new g
known_on old new follows g known =
    let tx = tx_of g in
    let lt = known.given in
    let up = follows.given in
    let le = known.within in
    let more = number_grown (history_of old) (history_of new) follows.grown in
    record {
      given = omega (arith, lt, up);
      within = omega (arith, le, more);
      reads = λ instant there. known.reads instant (follows.was_open tx.ticket.id instant known.given there);
      heard = viewed_on (history_of old) (history_of new) tx (view_grown (history_of old) (history_of new) tx.ticket.instant follows.grown le) g.heard known.heard;
    }

committed_on : (old new : CoreState) → Follows old new → (g : Gone) → HasCommitted old g → HasCommitted new g
committed_on old new follows g committed =
    let tx = tx_of g.was in
    let le = committed.within in
    let more = number_grown (history_of old) (history_of new) follows.grown in
    let (later, grown) = follows.grown in
    record {
      within = omega (arith, le, more);
      stands = record {
        here = ap (λ (h : History). slice_get h.accepted g.place) grown ∙ stays_at old.accepted later g.place (accepted_of tx.ticket.instant tx.marks (items_of tx.own)) committed.stands.here;
        heard = viewed_on (history_of old) (history_of new) tx (view_grown (history_of old) (history_of new) tx.ticket.instant follows.grown le) g.was.heard committed.stands.heard;
      };
    }

pub all_known_on : (old new : CoreState) → Follows old new → (going : List Going) → All (IsKnown old) going → All (IsKnown new) going
all_known_on old new follows going all = All-weaker (IsKnown old) (IsKnown new) (known_on old new follows) going all

pub all_committed_on : (old new : CoreState) → Follows old new → (gone : List Gone) → All (HasCommitted old) gone → All (HasCommitted new) gone
all_committed_on old new follows gone all = All-weaker (HasCommitted old) (HasCommitted new) (committed_on old new follows) gone all

-- ---- calls of the core

pub core_goes_on : (w : World) (call : Call) (reply : Reply) (s : State) → IsSound w.told → Step w.told.state call reply s → GoesOn w.told (gone_on w.told s)
core_goes_on w call reply s sound step = goes_along w.told s sound (step_moves w.told.state s call reply step)

kept_along : (w : World) (s : State) → IsKept w → GoesOn w.told (gone_on w.told s) → IsKept (along w s)
kept_along w s kept goes = record {
  sound = goes.sound;
  going = all_known_on w.told (gone_on w.told s) goes.follows w.going kept.going;
  gone = all_committed_on w.told (gone_on w.told s) goes.follows w.gone kept.gone;
}

-- ---- beginning

-- the ticket that was opened
pub same_ticket : (ticket other : Ticket) → Opened ticket ≡ Opened other → ticket ≡ other
same_ticket ticket other is = cc

known_begun : (w : World) (s : State) (place : ℕ) (marks : Option Marks) (ticket : Ticket) → IsSound w.told → GoesOn w.told (gone_on w.told s) → Step w.told.state Snapshot (Opened ticket) s
    → IsKnown (gone_on w.told s) (record { named = record { place = place; transaction = transaction_begun marks ticket }; heard = [] })
known_begun w s place marks ticket sound goes (none, ((told, opens), is)) =
    let old = w.told.state in
    let first : Ticket = record { id = old.tickets.next; instant = number old.history } in
    let same : ticket ≡ first = same_ticket ticket first told in
    let id : ticket.id ≡ old.tickets.next = ap (λ (t : Ticket). t.id) same in
    let instant : ticket.instant ≡ number old.history = ap (λ (t : Ticket). t.instant) same in
    let next : s.tickets.next ≡ old.tickets.next + 1 = ap (λ (k : Tickets). k.next) opens in
    let n = told_number w.told sound in
    let more = number_grown (history_of w.told) (history_of (gone_on w.told s)) goes.follows.grown in
    record {
      given = omega (arith, id, next);
      within = omega (arith, instant, n, more);
      reads = λ at there. ⊎_elim
          (λ e. let now = e.1 in omega (arith, now, instant))
          (λ was. let lt = (sound.sound ticket.id at was).0 in absurd (omega (arith, lt, id)))
          (found_in old.tickets.instants old.tickets.next (number old.history) ticket.id at (ap (λ (k : Tickets). get k.instants ticket.id) (sym opens) ∙ there));
      heard = All-nil (IsOfView (history_of (gone_on w.told s)) (transaction_begun marks ticket));
    }

-- ---- within

-- a ticket that is open reads at some instant
pub open_at : (t : Tickets) (id : ℕ) → is_open t id ≡ true → (instant : ℕ) × (get t.instants id ≡ Some instant)
open_at t id there = either (get t.instants id) refl
  where
    either : (o : Option ℕ) → get t.instants id ≡ o → (instant : ℕ) × (get t.instants id ≡ Some instant)
    either None e = absurd (true≢false (sym there ∙ ap is_some e))
    either (Some instant) e = (instant, e)

both : (a b : Bool) → (a && b) ≡ true → (a ≡ true) × (b ≡ true)
both true b e = (refl, e)
both false b e = absurd (true≢false (sym e))

-- one that is found by its name is of its kind, and its ticket is open
found_as : (w : World) (name : ℕ) (kind : Option Kind) (g : Going) → is_transaction_named w name kind g ≡ true → (is_of_kind kind (tx_of g) ≡ true) × (is_open w.told.state.tickets (tx_of g).ticket.id ≡ true)
found_as w name kind g found =
    let of_kind = is_of_kind kind (tx_of g) in
    let there = is_open w.told.state.tickets (tx_of g).ticket.id in
    both of_kind there (both (g.named.place == name) (of_kind && there) found).1

pub found_kind : (w : World) (name : ℕ) (kind : Option Kind) (g : Going) → is_transaction_named w name kind g ≡ true → is_of_kind kind (tx_of g) ≡ true
found_kind w name kind g found = (found_as w name kind g found).0

pub found_open : (w : World) (name : ℕ) (kind : Option Kind) (g : Going) → is_transaction_named w name kind g ≡ true → (instant : ℕ) × (get w.told.state.tickets.instants (tx_of g).ticket.id ≡ Some instant)
found_open w name kind g found = open_at w.told.state.tickets (tx_of g).ticket.id (found_as w name kind g found).1

-- what it asks of the core
pub asked_goes_on : (w : World) (tx : Tx) (call : Within) (made : List Call) (told : List Reply) (s : State) → IsSound w.told → AsksCore w.told.state tx call made told s → GoesOn w.told (gone_on w.told s)
asked_goes_on w tx call made told s sound AsksNothing = goes_along w.told w.told.state sound (Rests refl)
asked_goes_on w tx call made told s sound (AsksFor id query is reply t step) = core_goes_on w (call_for tx id query) reply t sound step

-- the maps of its view are those that its reads are of
shown_by : (w : World) (new : CoreState) (g : Going) (at : ℕ) → IsSound w.told → Follows w.told new → IsKnown w.told g → get w.told.state.tickets.instants (tx_of g).ticket.id ≡ Some at
    → (view (history_of new) (tx_of g).ticket.instant).maps ≡ maps_in w.told.state (At (tx_of g).ticket)
shown_by w new g at sound follows known there =
    let instant = (tx_of g).ticket.instant in
    ap (λ (s : Store). s.maps)
    (view_grown (history_of w.told) (history_of new) instant follows.grown known.within
    ∙ told_view w.told sound instant
    ∙ ap (view w.told.state.history) (sym (ap (λ (o : Option ℕ). unwrap_or o 0) there ∙ known.reads at there)))

known_by : (t : CoreState) (g : Going) (call : Within) (reply : Reply) (after : Tx) → IsKnown t g → Keeps (tx_of g) after → All (IsOfView (history_of t) after) (heard_by call (tx_of g).own reply)
    → IsKnown t (gone_by g call reply after)
known_by t g call reply after known keeps heard = record {
  given = subst (λ (k : Ticket). k.id < t.state.tickets.next) (sym keeps.ticket) known.given;
  within = subst (λ (k : Ticket). k.instant ≤ number (history_of t)) (sym keeps.ticket) known.within;
  reads = subst (λ (k : Ticket). (instant : ℕ) → get t.state.tickets.instants k.id ≡ Some instant → instant ≡ k.instant) (sym keeps.ticket) known.reads;
  heard = All-append (IsOfView (history_of t) after) g.heard (heard_by call (tx_of g).own reply) (kept_of_views (history_of t) (tx_of g) after g.heard keeps known.heard) heard;
}

known_within : (w : World) (g : Going) (at : ℕ) (call : Within) (reply : Reply) (made : List Call) (told : List Reply) (s : State) (after : Tx) → IsSound w.told → GoesOn w.told (gone_on w.told s)
    → IsKnown w.told g → get w.told.state.tickets.instants (tx_of g).ticket.id ≡ Some at → Acts w.told.state (tx_of g) call reply made told s after → IsKnown (gone_on w.told s) (gone_by g call reply after)
known_within w g at call reply made told s after sound goes known there acts =
    known_by (gone_on w.told s) g call reply after (known_on w.told (gone_on w.told s) goes.follows g known)
    (keeps_answered w.told.state (tx_of g) after call told reply acts.answers)
    (heard_of_view (history_of (gone_on w.told s)) w.told.state (tx_of g) (shown_by w (gone_on w.told s) g at sound goes.follows known there) after call told reply acts.answers)

-- ---- ending

-- what holds of those that committed, and of this one where its command was accepted
pub all_gone_with : (P : Gone → Type 0) (gone : List Gone) (g : Going) (old new : CoreState) → All P gone → (length old.accepted < length new.accepted → P (record { place = length old.accepted; was = g }))
    → All P (gone_with gone g old new)
all_gone_with P gone g old new all here = either (nat_lt (length old.accepted) (length new.accepted)) refl
  where
    one : Gone
    one = record { place = length old.accepted; was = g }

    either : (b : Bool) → nat_lt (length old.accepted) (length new.accepted) ≡ b → All P (if b then gone ++ one ∷ [] else gone)
    either true longer = All-push P gone one all (here (let lt : length old.accepted < length new.accepted = grind (arith, nat_tests) in lt))
    either false not_longer = all

committed_here : (w : World) (g : Going) (outcome : CommitOutcome Error) (new : CoreState) → Follows w.told new → IsKnown w.told g → CommitStep w.told (tx_of g) outcome new
    → length w.told.accepted < length new.accepted → HasCommitted new (record { place = length w.told.accepted; was = g })
committed_here w g outcome new follows known step longer =
    let now = known_on w.told new follows g known in
    record {
      within = now.within;
      stands = record { here = commit_stands_last w.told new (tx_of g) outcome known.reads step longer; heard = now.heard };
    }

-- behind a commit
pub kept_ended : (w : World) (kind : Kind) (name : ℕ) (g : Going) (others : List Going) (outcome : CommitOutcome Error) (new : CoreState) → IsKept w → Takes (is_transaction_named w name (Some kind)) w.going (Some g) others
    → CommitStep w.told (tx_of g) outcome new → IsKept (record w { told = new; going = others; gone = gone_with w.gone g w.told new })
kept_ended w kind name g others outcome new kept takes step =
    let goes = commit_goes_on w.told new (tx_of g) outcome kept.sound step in
    let known = of_taken (IsKnown w.told) (is_transaction_named w name (Some kind)) w.going others g takes kept.going in
    record {
      sound = goes.sound;
      going = all_known_on w.told new goes.follows others (of_others (IsKnown w.told) (is_transaction_named w name (Some kind)) w.going others g takes kept.going);
      gone = all_gone_with (HasCommitted new) w.gone g w.told new (all_committed_on w.told new goes.follows w.gone kept.gone) (committed_here w g outcome new goes.follows known step);
    }

-- ---- steps

-- a step goes on
pub step_goes_on : (w v : World) (before : List Reply) (call : TxCall) (reply : Reply) (made : List Call) (told : List Reply) → IsSound w.told → TxStep w before call reply made told v → GoesOn w.told v.told
step_goes_on w v before call reply made told sound (OfCore c r s step) = core_goes_on w (resolved before c) r s sound step
step_goes_on w v before call reply made told sound (IsHeldBack due) = goes_nowhere w.told sound
step_goes_on w v before call reply made told sound (IsNotBegun kind free error s step) = core_goes_on w Snapshot (Refused error) s sound step
step_goes_on w v before call reply made told sound (IsBegun kind free ticket s step) = core_goes_on w Snapshot (Opened ticket) s sound step
step_goes_on w v before call reply made told sound (IsUnknown c name kind is none) = goes_nowhere w.told sound
step_goes_on w v before call reply made told sound (IsWithin name c g others takes r m t s after acts) = asked_goes_on w (tx_of g) c m t s sound acts.asks
step_goes_on w v before call reply made told sound (IsEnded kind name g others takes outcome m t commits new step) = commit_goes_on w.told new (tx_of g) outcome sound step
step_goes_on w v before call reply made told sound (IsRolledBack name g others takes r s step) = core_goes_on w (CloseSnapshot (tx_of g).ticket) r s sound step

-- and keeps what is kept
pub kept_step : (w v : World) (before : List Reply) (call : TxCall) (reply : Reply) (made : List Call) (told : List Reply) → IsKept w → TxStep w before call reply made told v → IsKept v
kept_step w v before call reply made told kept (OfCore c r s step) = kept_along w s kept (core_goes_on w (resolved before c) r s kept.sound step)
kept_step w v before call reply made told kept (IsHeldBack due) = kept
kept_step w v before call reply made told kept (IsNotBegun kind free error s step) = kept_along w s kept (core_goes_on w Snapshot (Refused error) s kept.sound step)
kept_step w v before call reply made told kept (IsBegun kind free ticket s step) =
    let goes = core_goes_on w Snapshot (Opened ticket) s kept.sound step in
    let on = kept_along w s kept goes in
    record {
      sound = on.sound;
      going = All-push (IsKnown (gone_on w.told s)) w.going (record { named = record { place = length before; transaction = transaction_begun (first_marks kind) ticket }; heard = [] }) on.going
          (known_begun w s (length before) (first_marks kind) ticket kept.sound goes step);
      gone = on.gone;
    }
kept_step w v before call reply made told kept (IsUnknown c name kind is none) = kept
kept_step w v before call reply made told kept (IsWithin name c g others takes r m t s after acts) =
    let goes = asked_goes_on w (tx_of g) c m t s kept.sound acts.asks in
    let on = kept_along w s kept goes in
    let known = of_taken (IsKnown w.told) (is_transaction_named w name None) w.going others g takes kept.going in
    let (at, there) = found_open w name None g takes.0 in
    record {
      sound = on.sound;
      going = All-push (IsKnown (gone_on w.told s)) others (gone_by g c r after) (of_others (IsKnown (gone_on w.told s)) (is_transaction_named w name None) w.going others g takes on.going)
          (known_within w g at c r m t s after kept.sound goes known there acts);
      gone = on.gone;
    }
kept_step w v before call reply made told kept (IsEnded kind name g others takes outcome m t commits new step) = kept_ended w kind name g others outcome new kept takes step
kept_step w v before call reply made told kept (IsRolledBack name g others takes r s step) =
    let on = kept_along w s kept (core_goes_on w (CloseSnapshot (tx_of g).ticket) r s kept.sound step) in
    record {
      sound = on.sound;
      going = of_others (IsKnown (gone_on w.told s)) (is_transaction_named w name None) w.going others g takes on.going;
      gone = on.gone;
    }

pub kept_run : (w v : World) (before : List Reply) (calls : List TxCall) (replies : List Reply) (made : List Call) (told : List Reply) → IsKept w → TxRun w before calls replies made told v → IsKept v
kept_run w v before calls replies made told kept (NoCall u b) = kept
kept_run w v before calls replies made told kept (OneCall u mid x b call reply m t more r later heard step rest) =
    kept_run mid v (b ++ reply ∷ []) more r later heard (kept_step w mid b call reply m t kept step) rest
