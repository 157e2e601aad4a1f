-- What the calls of snapshots serve: tickets turn, and nothing else.
use Rattle.std.proofs.Common.{◌≡◌, ℕ, List, [], None, Some, Result, Ok, Err, IfOk, IfErr, OnOk, OnErr, refl, sym, ◌∙◌, ap, subst}
use Rattle.std.specs.FinMap.{get}
use Rattle.fjall_base.specs.Store.{kept}
use Rattle.fjall_base.specs.declared.error.Error.{Error}
use Rattle.fjall_files.proofs.Tidying.{stays_start}
use Rattle.fjall_table.specs.Blocks.{Entry}
use Rattle.fjall_trees.specs.MapTables.{store_with}
use Rattle.fjall_history.specs.declared.ticket.Ticket.{Ticket}
use Rattle.fjall_history.specs.declared.reply.Reply.{Reply}
use Rattle.fjall_history.specs.declared.reply.Reply.TheVariants.{Done, Number, Opened, Refused}
use Rattle.fjall_history.specs.Tickets.{Tickets, closed, closing_refusal, cloning_refusal, collected, opened, opening_refusal}
use Rattle.fjall_machine.specs.Shapes.{Clone, Close, Collect, OfTickets, Open, TicketCall}
use Rattle.fjall_machine.specs.Machine.{State}
use Rattle.fjall_machine.specs.Remembered.{IsDueOrMemory, Remembered, with_tickets}
use Rattle.fjall_engine.specs.Holding.{Held}
use Rattle.fjall_engine.specs.Crashes.{IsSync, attempt}
use Rattle.fjall_engine.specs.Durables.{Durable}
use Rattle.fjall_engine.specs.Standing.{Owes, Serves, StandsOn, reply_of, ticket_reply}
use Rattle.fjall_engine.proofs.ServedCalls.{Led, due_owes, due_serves, either_owes, either_serves, led_by, serves_by}
use Rattle.fjall_engine.proofs.TablesAtHome.{KeepsReads, carry_all, keeps_disk, outside_same}
use Rattle.fjall_engine.proofs.KeyspaceCalls.{Recounts, recount_leads}
use Rattle.fjall_engine.proofs.KnownCores.{knows_same}

-- the core with such tickets, and what it leads to
module _ (core : Held) (m : Remembered) (tickets : Tickets) (is : m ≡ with_tickets tickets core.memory) where
  abbrev pub turned : Held
  turned = record core { memory = m }

  pub same_tickets : m.tickets ≡ tickets
  same_tickets = ap (λ (x : Remembered). x.tickets) is

  pub all_else : turned ≡ record core { memory = with_tickets m.tickets core.memory }
  all_else = ap (λ (x : Remembered). record core { memory = x }) (is ∙ ap (λ (t : Tickets). with_tickets t core.memory) (sym same_tickets))

  recounts : (entries : ℕ → List (List Entry)) → Recounts entries core turned
  recounts entries = record {
    keyspaces = ap (λ (x : Remembered). x.keyspaces) is;
    next = ap (λ (x : Remembered). x.next) is;
    poisoned = ap (λ (x : Remembered). x.poisoned) is;
    store = ap (λ (x : Remembered). kept (store_with entries x.keyspaces x.trees)) (sym is);
    catalog = refl;
    journal = refl;
    journals = ap (λ (x : Remembered). x.journals) is;
    known = λ j t same. knows_same entries core turned j t (ap (λ (x : Remembered). x.trees) is) (ap (λ (x : Remembered). x.records) is);
  }

  pub turned_leads : (s : State) (d : Durable) (call : TicketCall) (reply : Reply) → attempt s (OfTickets call) reply ≡ [] → (IsSync s (OfTickets call) reply → ⊥) → StandsOn core s.parts.entries d → Led turned s d (OfTickets call) reply
  turned_leads s d call reply none unsynced on = led_by turned s d (OfTickets call) reply [] none unsynced (recount_leads s.parts.entries core turned d refl (recounts s.parts.entries) on)

  -- its disk keeps the tables
  pub turned_keeps : KeepsReads core turned
  turned_keeps = keeps_disk core turned refl (carry_all core.memory.trees turned.memory.trees (ap (λ (x : Remembered). x.trees) is)) (outside_same core turned (ap (λ (x : Remembered). x.poisoned) is) refl)

-- ---- a new ticket

pub opened_owes : (core : Held) (m : Remembered) (result : Result Ticket Error) → OnOk result (opening_refusal core.memory.tickets ≡ None) → IfOk result (λ ticket. ticket ≡ record { id = core.memory.tickets.next; instant = core.memory.next })
    → OnOk result (m ≡ with_tickets (opened core.memory.next core.memory.tickets) core.memory) → OnErr result (m ≡ core.memory) → IfErr result (IsDueOrMemory (opening_refusal core.memory.tickets))
    → Owes core (OfTickets Open) (ticket_reply result) (record core { memory = m })
opened_owes core m (Ok ticket) none told is same cause = (none, ((ap Opened told, same_tickets core m (opened core.memory.next core.memory.tickets) is), all_else core m (opened core.memory.next core.memory.tickets) is))
opened_owes core m (Err error) none told is same cause = subst (λ (x : Remembered). Owes core (OfTickets Open) (Refused error) (record core { memory = x })) (sym same) (either_owes core (OfTickets Open) error tt cause)

pub opened_serves : (core : Held) (m : Remembered) (result : Result Ticket Error) → OnOk result (opening_refusal core.memory.tickets ≡ None) → IfOk result (λ ticket. ticket ≡ record { id = core.memory.tickets.next; instant = core.memory.next })
    → OnOk result (m ≡ with_tickets (opened core.memory.next core.memory.tickets) core.memory) → OnErr result (m ≡ core.memory) → IfErr result (IsDueOrMemory (opening_refusal core.memory.tickets))
    → Serves core (OfTickets Open) (ticket_reply result) (record core { memory = m })
opened_serves core m (Ok ticket) none told is same cause =
    serves_by core (record core { memory = m }) (OfTickets Open) (Opened ticket) (opened_owes core m (Ok ticket) none told is same cause) (λ reads. reads) refl (stays_start core.disk) (turned_keeps core m (opened core.memory.next core.memory.tickets) is) (λ s d stands on tidy. refl)
    (λ s d stands on. turned_leads core m (opened core.memory.next core.memory.tickets) is s d Open (Opened ticket) refl (λ sync. sync) on)
opened_serves core m (Err error) none told is same cause = subst (λ (x : Remembered). Serves core (OfTickets Open) (Refused error) (record core { memory = x })) (sym same) (either_serves core (OfTickets Open) error tt cause)

-- ---- another one that reads where an open one does

pub cloned_owes : (core : Held) (m : Remembered) (id : ℕ) (result : Result Ticket Error) → OnOk result (cloning_refusal id core.memory.tickets ≡ None)
    → IfOk result (λ ticket. (ticket.id ≡ core.memory.tickets.next) × (get core.memory.tickets.instants id ≡ Some ticket.instant) × (m ≡ with_tickets (opened ticket.instant core.memory.tickets) core.memory)) → OnErr result (m ≡ core.memory)
    → IfErr result (IsDueOrMemory (cloning_refusal id core.memory.tickets)) → Owes core (OfTickets (Clone id)) (ticket_reply result) (record core { memory = m })
cloned_owes core m id (Ok ticket) none (given, there, is) same cause =
    (none, ((ticket.instant, there, ap (λ n. Opened (record { id = n; instant = ticket.instant })) given, same_tickets core m (opened ticket.instant core.memory.tickets) is), all_else core m (opened ticket.instant core.memory.tickets) is))
cloned_owes core m id (Err error) none told same cause = subst (λ (x : Remembered). Owes core (OfTickets (Clone id)) (Refused error) (record core { memory = x })) (sym same) (either_owes core (OfTickets (Clone id)) error tt cause)

pub cloned_serves : (core : Held) (m : Remembered) (id : ℕ) (result : Result Ticket Error) → OnOk result (cloning_refusal id core.memory.tickets ≡ None)
    → IfOk result (λ ticket. (ticket.id ≡ core.memory.tickets.next) × (get core.memory.tickets.instants id ≡ Some ticket.instant) × (m ≡ with_tickets (opened ticket.instant core.memory.tickets) core.memory)) → OnErr result (m ≡ core.memory)
    → IfErr result (IsDueOrMemory (cloning_refusal id core.memory.tickets)) → Serves core (OfTickets (Clone id)) (ticket_reply result) (record core { memory = m })
cloned_serves core m id (Ok ticket) none told same cause =
    serves_by core (record core { memory = m }) (OfTickets (Clone id)) (Opened ticket) (cloned_owes core m id (Ok ticket) none told same cause) (λ reads. reads) refl (stays_start core.disk) (turned_keeps core m (opened ticket.instant core.memory.tickets) told.2) (λ s d stands on tidy. refl)
    (λ s d stands on. turned_leads core m (opened ticket.instant core.memory.tickets) told.2 s d (Clone id) (Opened ticket) refl (λ sync. sync) on)
cloned_serves core m id (Err error) none told same cause = subst (λ (x : Remembered). Serves core (OfTickets (Clone id)) (Refused error) (record core { memory = x })) (sym same) (either_serves core (OfTickets (Clone id)) error tt cause)

-- ---- a closing, which takes no memory

pub closed_owes : (core : Held) (m : Remembered) (id : ℕ) (result : Result Unit Error) → OnOk result (closing_refusal id core.memory.tickets ≡ None) → OnOk result (m ≡ with_tickets (closed core.memory.next id core.memory.tickets) core.memory)
    → OnErr result (m ≡ core.memory) → IfErr result (λ error. closing_refusal id core.memory.tickets ≡ Some error) → Owes core (OfTickets (Close id)) (reply_of result) (record core { memory = m })
closed_owes core m id (Ok _) none is same cause = (none, ((refl, same_tickets core m (closed core.memory.next id core.memory.tickets) is), all_else core m (closed core.memory.next id core.memory.tickets) is))
closed_owes core m id (Err error) none is same cause = subst (λ (x : Remembered). Owes core (OfTickets (Close id)) (Refused error) (record core { memory = x })) (sym same) (due_owes core (OfTickets (Close id)) error cause)

pub closed_serves : (core : Held) (m : Remembered) (id : ℕ) (result : Result Unit Error) → OnOk result (closing_refusal id core.memory.tickets ≡ None) → OnOk result (m ≡ with_tickets (closed core.memory.next id core.memory.tickets) core.memory)
    → OnErr result (m ≡ core.memory) → IfErr result (λ error. closing_refusal id core.memory.tickets ≡ Some error) → Serves core (OfTickets (Close id)) (reply_of result) (record core { memory = m })
closed_serves core m id (Ok _) none is same cause =
    serves_by core (record core { memory = m }) (OfTickets (Close id)) Done (closed_owes core m id (Ok tt) none is same cause) (λ reads. reads) refl (stays_start core.disk) (turned_keeps core m (closed core.memory.next id core.memory.tickets) is) (λ s d stands on tidy. refl)
    (λ s d stands on. turned_leads core m (closed core.memory.next id core.memory.tickets) is s d (Close id) Done refl (λ sync. sync) on)
closed_serves core m id (Err error) none is same cause = subst (λ (x : Remembered). Serves core (OfTickets (Close id)) (Refused error) (record core { memory = x })) (sym same) (due_serves core (OfTickets (Close id)) error cause)

-- ---- a collection

pub collected_owes : (core : Held) (m : Remembered) (n : ℕ) → n ≡ (collected core.memory.next core.memory.tickets).watermark → m ≡ with_tickets (collected core.memory.next core.memory.tickets) core.memory
    → Owes core (OfTickets Collect) (Number n) (record core { memory = m })
collected_owes core m n told is =
    let same = same_tickets core m (collected core.memory.next core.memory.tickets) is in
    (refl, ((ap Number (told ∙ ap (λ (t : Tickets). t.watermark) (sym same)), same), all_else core m (collected core.memory.next core.memory.tickets) is))

pub collected_serves : (core : Held) (m : Remembered) (n : ℕ) → n ≡ (collected core.memory.next core.memory.tickets).watermark → m ≡ with_tickets (collected core.memory.next core.memory.tickets) core.memory
    → Serves core (OfTickets Collect) (Number n) (record core { memory = m })
collected_serves core m n told is =
    serves_by core (record core { memory = m }) (OfTickets Collect) (Number n) (collected_owes core m n told is) (λ reads. reads) refl (stays_start core.disk) (turned_keeps core m (collected core.memory.next core.memory.tickets) is) (λ s d stands on tidy. refl)
    (λ s d stands on. turned_leads core m (collected core.memory.next core.memory.tickets) is s d Collect (Number n) refl (λ sync. sync) on)
