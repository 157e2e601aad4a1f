-- A core with its transactions, as a list of calls goes through it.
use Rattle.std.specs.Prelude.{ℕ, List, [], Option}
use Rattle.fjall_tx.specs.Owns.{Own}
use Rattle.fjall_history.specs.declared.ticket.Ticket.{Ticket}
use Rattle.fjall_history.specs.declared.reply.Reply.{Reply}
use Rattle.fjall_history.specs.Queries.{Query}
use Rattle.fjall_machine.specs.Machine.{State}
use Rattle.fjall_core.specs.Standing.{CoreState, gone_on}
use Rattle.fjall_calls.specs.declared.named.Named.{Named}

-- An answer that a transaction got to a query of a keyspace, and its own writes of then.
pub record Heard : Type 0 where
  pub id : ℕ
  pub query : Query
  pub own : Own
  pub reply : Reply

-- A transaction that is open in the list, and what it heard so far.
pub record Going : Type 0 where
  pub named : Named
  pub heard : List Heard

-- A transaction that committed in the list: what it was, and at which place of the history its command stands.
pub record Gone : Type 0 where
  pub place : ℕ
  pub was : Going

-- The state of the machine with what was accepted, the ticket of the single writer's transaction that was begun last, and the
-- transactions of the list: those that are open, and those that committed.
pub record World : Type 0 where
  pub told : CoreState
  pub writer : Option Ticket
  pub going : List Going
  pub gone : List Gone

-- as a list begins: no transaction of it is there
abbrev pub begins : CoreState → Option Ticket → World
begins told writer = record { told = told; writer = writer; going = []; gone = [] }

-- after calls of the core that commit no transaction
abbrev pub along : World → State → World
along w s = record w { told = gone_on w.told s }
