-- Of the single writer's transactions the one that is open is the one that is kept.
use Rattle.std.proofs.Common.{◌≡◌, ◌<◌, ◌+◌, ℕ, true, false, List, ◌∷◌, Option, None, Some, unwrap_or, refl, sym, ap, subst, ◌∙◌, arith}
use Rattle.std.specs.Prelude.{Contains, is_some}
use Rattle.std.specs.FinMap.{get}
use Rattle.std.proofs.lemmas.Bool.{true≢false}
use Rattle.std.proofs.lemmas.List.Elements.{All-cons, All-weaker}
use Rattle.fjall_base.specs.declared.error.Error.{Error}
use Rattle.fjall_tx.specs.declared.outcome.CommitOutcome.{CommitOutcome}
use Rattle.fjall_history.specs.Histories.{number}
use Rattle.fjall_history.specs.Moves.{Moves, NoMove, OneMove, Times}
use Rattle.fjall_history.specs.Tickets.{Tickets, is_open, opened}
use Rattle.fjall_history.specs.declared.reply.Reply.{Reply}
use Rattle.fjall_history.specs.declared.reply.Reply.TheVariants.{Done, Opened, Refused}
use Rattle.fjall_history.specs.declared.ticket.Ticket.{Ticket}
use Rattle.fjall_history.proofs.Moving.{given_up, was_open_before}
use Rattle.fjall_engine.specs.Holding.{Held}
use Rattle.fjall_machine.specs.Shapes.{CallShape, Close, OfTickets, Open}
use Rattle.fjall_machine.specs.Machine.{State, StepOf, times}
use Rattle.fjall_machine.proofs.Moving.{shape_moves}
use Rattle.fjall_core.specs.Commits.{change_of, is_writing}
use Rattle.fjall_core.specs.Standing.{CommitStep, IsCommitted, IsGone, IsIdle, IsMet, IsRefused, StandFor, CoreState}
use Rattle.fjall_core.specs.Transactions.{Kept, Tx}
use Rattle.fjall_core.specs.Writers.{AreWriters, IsWriter}

-- ---- along calls

open_before : (old new : Times) → Moves old new → (id : ℕ) → id < old.tickets.next → is_open new.tickets id ≡ true → is_open old.tickets id ≡ true
open_before old new moves id lt is = by (get new.tickets.instants id) refl is
  where
    by : (o : Option ℕ) → get new.tickets.instants id ≡ o → is_some o ≡ true → is_open old.tickets id ≡ true
    by None e there = absurd (true≢false (sym there))
    by (Some instant) e there = ap is_some (was_open_before old new (OneMove old new new moves (NoMove new)) id instant lt e)

writer_on : (old new : Times) → Moves old new → (writer : Option Ticket) (ticket : Ticket) → IsWriter old.tickets writer ticket → IsWriter new.tickets writer ticket
writer_on old new moves writer ticket is = record {
  given = let up = given_up old new moves in let lt = is.given in omega (arith, up, lt);
  kept = λ there. is.kept (open_before old new moves ticket.id is.given there);
}

pub writers_on : (old new : State) (shape : CallShape) (reply : Reply) (writer : Option Ticket) (began : List Ticket) → StepOf old shape reply new → AreWriters old.tickets writer began → AreWriters new.tickets writer began
writers_on old new shape reply writer began step are =
    All-weaker (λ (ticket : Ticket). IsWriter old.tickets writer ticket) (λ (ticket : Ticket). IsWriter new.tickets writer ticket) (writer_on (times old) (times new) (shape_moves old new shape reply step) writer) began are

pub writers_committed : (old new : CoreState) (tx : Tx) (outcome : CommitOutcome Error) (writer : Option Ticket) (began : List Ticket) → CommitStep old tx outcome new
    → AreWriters old.state.tickets writer began → AreWriters new.state.tickets writer began
writers_committed old new tx outcome writer began (IsGone none told same) are = subst (λ (t : CoreState). AreWriters t.state.tickets writer began) (sym same) are
writers_committed old new tx outcome writer began (IsIdle instant opened none told closes same) are = writers_on old.state new.state (OfTickets (Close tx.ticket.id)) Done writer began closes are
writers_committed old new tx outcome writer began (IsMet instant opened some meets told closes same) are = writers_on old.state new.state (OfTickets (Close tx.ticket.id)) Done writer began closes are
writers_committed old new tx outcome writer began (IsRefused instant opened some apart error told mid refused closes same) are =
    writers_on mid new.state (OfTickets (Close tx.ticket.id)) Done writer began closes (writers_on old.state mid (change_of tx) (Refused error) writer began refused are)
writers_committed old new tx outcome writer began (IsCommitted instant opened some apart told mid made closes grown) are =
    writers_on mid new.state (OfTickets (Close tx.ticket.id)) Done writer began closes (writers_on old.state mid (change_of tx) Done writer began made are)

-- ---- one more begins

-- none that began before is open, where none is kept that is open
none_open : (core : Held) (kept : Kept) (t : CoreState) (ticket : Ticket) → StandFor core kept t → is_writing core kept.writer ≡ false → IsWriter t.state.tickets kept.writer ticket → is_open t.state.tickets ticket.id ≡ true → ⊥
none_open core kept t ticket stands free is there =
    let open_there : is_writing core (Some ticket) ≡ true = subst (λ (k : Tickets). is_open k ticket.id ≡ true) stands.machine.remembered.tickets there in
    true≢false (sym open_there ∙ ap (is_writing core) (sym (is.kept there)) ∙ free)

pub one_more_writer : (core : Held) (kept : Kept) (t : CoreState) (s : State) (ticket : Ticket) (began : List Ticket) → StandFor core kept t → is_writing core kept.writer ≡ false
    → StepOf t.state (OfTickets Open) (Opened ticket) s → AreWriters t.state.tickets kept.writer began → AreWriters s.tickets (Some ticket) (ticket ∷ began)
one_more_writer core kept t s ticket began stands free step are =
    let moves = shape_moves t.state s (OfTickets Open) (Opened ticket) step in
    let told = step.1.0.0 in
    let same : ticket ≡ record { id = t.state.tickets.next; instant = number t.state.history } = cc told in
    let next : s.tickets.next ≡ t.state.tickets.next + 1 = ap (λ (k : Tickets). k.next) step.1.0.1 in
    let id : ticket.id ≡ t.state.tickets.next = ap (λ (x : Ticket). x.id) same in
    All-cons (λ (x : Ticket). IsWriter s.tickets (Some ticket) x) ticket began (record { given = omega (arith, next, id); kept = λ there. refl })
    (All-weaker (λ (x : Ticket). IsWriter t.state.tickets kept.writer x) (λ (x : Ticket). IsWriter s.tickets (Some ticket) x)
    (λ x is. record {
      given = let lt = is.given in omega (arith, next, lt);
      kept = λ there. absurd (none_open core kept t x stands free is (open_before (times t.state) (times s) moves x.id is.given there));
    }) began are)

-- ---- one alone

pub one_writer : (tickets : Tickets) (writer : Option Ticket) (began : List Ticket) → AreWriters tickets writer began → (a b : Ticket) → Contains began a → Contains began b
    → is_open tickets a.id ≡ true → is_open tickets b.id ≡ true → a ≡ b
one_writer tickets writer began are a b has_a has_b open_a open_b =
    let is_a = subst (λ (x : Ticket). IsWriter tickets writer x) has_a.2 (are has_a.0 a has_a.1) in
    let is_b = subst (λ (x : Ticket). IsWriter tickets writer x) has_b.2 (are has_b.0 b has_b.1) in
    ap (λ (o : Option Ticket). unwrap_or o a) (sym (is_a.kept open_a) ∙ is_b.kept open_b)
