-- What calls on tickets make of a state over which an index is kept.
use Rattle.std.proofs.Common.{◌≡◌, ◌<◌, inl, inr, ℕ, Bool, true, false, if◌then◌else◌, cond, List, [], ◌++◌, Option, None, Some, map, drop, length, unwrap_or, refl, sym, ◌∙◌, ap, subst, arith}
use Rattle.std.proofs.lemmas.List.{append-nil}
use Rattle.std.proofs.lemmas.Bool.Decides.{nat_tests}
use Rattle.std.proofs.Math.Seq.{drop-length}
use Rattle.std.specs.Cmp.{nat_cmp_total}
use Rattle.std.specs.FinMap.{get, get-insert}
use Rattle.std.specs.Ordering.{eq_by_cmp, nat_cmp}
use Rattle.fjall_base.specs.Store.{Command, Store}
use Rattle.fjall_base.specs.declared.error.Error.{Error}
use Rattle.fjall_base.specs.declared.error.Error.TheVariants.{Io, NumbersUsedUp, OutOfMemory, Poisoned, Storage, TooManyItems, ValueTooLong}
use Rattle.fjall_history.specs.Histories.{Accepted, History, commands_of, number, plain, view}
use Rattle.fjall_history.specs.Moves.{NoMove, OneMove}
use Rattle.fjall_history.specs.Tickets.{Tickets, opened}
use Rattle.fjall_history.specs.declared.reply.Reply.{Reply}
use Rattle.fjall_history.specs.declared.reply.Reply.TheVariants.{Opened, Refused}
use Rattle.fjall_history.specs.declared.ticket.Ticket.{Ticket}
use Rattle.fjall_history.specs.declared.ticket.View.TheVariants.{At}
use Rattle.fjall_history.proofs.Views.{view_of_all}
use Rattle.fjall_machine.specs.Shapes.{Open, OfTickets, TicketCall}
use Rattle.fjall_machine.specs.Machine.{MayFail, Refuses, State, StepOf, due, maps_in, present, times}
use Rattle.fjall_machine.proofs.Moving.{shape_moves}
use Rattle.fjall_core.specs.Crashes.{commands_asked, attempt, is_io}
use Rattle.fjall_core.specs.Durables.{Durable, Passes}
use Rattle.fjall_core.specs.Holding.{Held}
use Rattle.fjall_core.specs.Standing.{GoesOn, CoreState, gone_on}
use Rattle.fjall_core.specs.Transactions.{Kept}
use Rattle.fjall_index_entries.specs.Index.{FieldOf}
use Rattle.fjall_index.specs.Standing.{GoesOnIndexed, StandsIndexed}
use Rattle.fjall_index.proofs.Going.{none_tried, rests}

-- ---- tickets leave the history

failed_history : (s t : State) (call : TicketCall) (error : Error) → MayFail (OfTickets call) error s t → t.history ≡ s.history
failed_history s t call (Io kind) (inl (changes, fault)) = ap (λ (k : State). k.history) fault.is
failed_history s t call (Io kind) (inr (inl (reads, same))) = ap (λ (k : State). k.history) same
failed_history s t call (Io kind) (inr (inr fails)) = absurd fails
failed_history s t call OutOfMemory (takes, same) = ap (λ (k : State). k.history) same
failed_history s t call (Storage told) (is, damaged, same) = ap (λ (k : State). k.history) same
failed_history s t call ValueTooLong (long, same) = ap (λ (k : State). k.history) same
failed_history s t call Poisoned (late, same) = ap (λ (k : State). k.history) same
failed_history s t call NumbersUsedUp (used_up, same) = ap (λ (k : State). k.history) same
failed_history s t call TooManyItems (none_left, same) = ap (λ (k : State). k.history) same
failed_history s t call error none = absurd none

refused_history : (s t : State) (call : TicketCall) (error : Error) (first : Option Error) → Refuses first (OfTickets call) error s t → t.history ≡ s.history
refused_history s t call error (Some f) (is, same) = ap (λ (k : State). k.history) same
refused_history s t call error None fails = failed_history s t call error fails

pub ticket_history : (s t : State) (call : TicketCall) (reply : Reply) → StepOf s (OfTickets call) reply t → t.history ≡ s.history
ticket_history s t call (Refused error) step = refused_history s t call error (due s (OfTickets call)) step
ticket_history s t call reply step = ap (λ (k : State). k.history) step.1.1

tries_nothing : (s : State) (call : TicketCall) (reply : Reply) → attempt s (OfTickets call) reply ≡ []
tries_nothing s call (Refused error) = by (is_io error)
  where
    by : (io : Bool) → (if io then commands_asked s (OfTickets call) else []) ≡ []
    by true = refl
    by false = refl
tries_nothing s call reply = refl

-- what is told stays
pub same_told : (t : CoreState) (s : State) → s.history ≡ t.state.history → (gone_on t s).accepted ≡ t.accepted
same_told t s e =
    ap (λ (l : List Accepted). t.accepted ++ map plain (commands_of l)) (ap (λ (h : History). drop (length t.state.history.accepted) h.accepted) e ∙ drop-length t.state.history.accepted)
    ∙ append-nil t.accepted

-- ---- a ticket that was opened reads at the present

ticket_in : Reply → Ticket → Ticket
ticket_in (Opened ticket) other = ticket
ticket_in reply other = other

found_there : (tickets : Tickets) (instant : ℕ) → get (opened instant tickets).instants tickets.next ≡ Some instant
found_there tickets instant = get-insert nat_cmp_total tickets.instants tickets.next instant tickets.next ∙ by (eq_by_cmp nat_cmp tickets.next tickets.next) refl
  where
    by : (b : Bool) → eq_by_cmp nat_cmp tickets.next tickets.next ≡ b → cond b (Some instant) (get tickets.instants tickets.next) ≡ Some instant
    by true e = refl
    by false e = let bad : ⊥ = grind (arith, nat_tests, e) in absurd bad

pub opened_at : (s t : State) (ticket : Ticket) → StepOf s (OfTickets Open) (Opened ticket) t → get t.tickets.instants ticket.id ≡ Some (number t.history)
unfolding ticket_in
opened_at s t ticket step =
    let visible = number s.history in
    let is : ticket ≡ record { id = s.tickets.next; instant = visible } = ap (λ (r : Reply). ticket_in r ticket) step.1.0.0 in
    ap (λ (k : Ticket). get t.tickets.instants k.id) is ∙ ap (λ (k : Tickets). get k.instants s.tickets.next) step.1.0.1 ∙ found_there s.tickets visible
    ∙ ap (λ (h : History). Some (number h)) (sym (ticket_history s t Open (Opened ticket) step))

-- it was given out
pub opened_given : (s t : State) (ticket : Ticket) → StepOf s (OfTickets Open) (Opened ticket) t → ticket.id < t.tickets.next
unfolding ticket_in
opened_given s t ticket step =
    let visible = number s.history in
    let is : ticket ≡ record { id = s.tickets.next; instant = visible } = ap (λ (r : Reply). ticket_in r ticket) step.1.0.0 in
    let same = ap (λ (k : Ticket). k.id) is in
    let next = ap (λ (k : Tickets). k.next) step.1.0.1 in
    omega (arith, same, next)

-- it shows the present
pub opened_shows : (s t : State) (ticket : Ticket) → StepOf s (OfTickets Open) (Opened ticket) t → maps_in t (At ticket) ≡ (present t).maps
opened_shows s t ticket step =
    ap (λ (o : Option ℕ). (view t.history (unwrap_or o 0)).maps) (opened_at s t ticket step)
    ∙ ap (λ (store : Store). store.maps) (view_of_all t.history (number t.history) (omega arith))

-- ---- calls on tickets

module _ (field : FieldOf) (main index since : ℕ) where
  pub ticket_goes : (old new : Held) (before after : Kept) (t : CoreState) (d : Durable) (call : TicketCall) (reply : Reply) → StandsIndexed field main index since old before t d
      → GoesOn old t (OfTickets call) reply new after → (next : CoreState) × (e : Durable) × GoesOnIndexed field main index since [] t d next e new after × StepOf t.state (OfTickets call) reply next.state
  ticket_goes old new before after t d call reply all (s, stands, reads, step, led) =
      let (e, on, passes) = led d all.on in
      let same = ticket_history t.state s call reply step in
      let tried : Passes d [] e = subst (λ (l : List Command). Passes d l e) (tries_nothing t.state call reply) passes.0 in (
        gone_on t s,
        e,
        rests field main index since old new before after t (gone_on t s) d e [] all same (same_told t s same)
            (OneMove (times t.state) (times s) (times s) (shape_moves t.state s (OfTickets call) reply step) (NoMove (times s))) stands reads on (none_tried field main index since old before t d all) tried,
        step,
      )
