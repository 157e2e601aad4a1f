-- The tickets with which transactions of the single writer began.
use Rattle.std.specs.Prelude.{◌≡◌, ◌<◌, All, List, Option, Some, true}
use Rattle.fjall_history.specs.Tickets.{Tickets, is_open}
use Rattle.fjall_history.specs.declared.ticket.Ticket.{Ticket}

-- One of them began with this ticket, where this one is kept as the single writer's: it was given out, and while it is open it is the one
-- that is kept.
pub record IsWriter (tickets : Tickets) (writer : Option Ticket) (ticket : Ticket) : Type 0 where
  pub given : ticket.id < tickets.next
  pub kept : is_open tickets ticket.id ≡ true → writer ≡ Some ticket

-- so did each of these
abbrev pub AreWriters : Tickets → Option Ticket → List Ticket → Type 0
AreWriters tickets writer began = All (λ ticket. IsWriter tickets writer ticket) began
