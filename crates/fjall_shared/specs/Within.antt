-- What a transaction reads under the lock.
use Rattle.std.specs.Prelude.{◌≡◌, ◌⊎◌, ℕ, Bool, IfSome, Option}
use Rattle.fjall_base.specs.Pairs.{Pairs}
use Rattle.fjall_base.specs.Store.{map_at}
use Rattle.fjall_base.specs.declared.error.Error.{Error}
use Rattle.fjall_base.specs.declared.error.Error.TheVariants.{OutOfMemory}
use Rattle.fjall_tx.specs.Owns.{own_written}
use Rattle.fjall_history.specs.Histories.{view}
use Rattle.fjall_history.specs.declared.reply.Reply.{Reply}
use Rattle.fjall_history.specs.declared.reply.Reply.TheVariants.{Refused}
use Rattle.fjall_machine.specs.Machine.{instant_of}
use Rattle.fjall_machine.specs.Shapes.{CallShape}
use Rattle.fjall_core.specs.Transactions.{Tx}
use Rattle.fjall_shared.specs.Does.{Does}
use Rattle.fjall_shared.specs.Locked.{Locked, list_of}

-- the map of a keyspace that a transaction sees: that of the list up to the instant at which it began, with its own writes applied
abbrev pub seen_in : Locked → Tx → ℕ → Pairs
seen_in l tx id = map_at (own_written (view (list_of l) (instant_of l.core.memory.tickets tx.ticket.id)).maps tx.own) id

-- A read within a transaction is one read of the engine in the transaction's view; a refusal is that one's, or memory is used up.
pub record ReadsOnce (honest : Bool) (old : Locked) (shape : CallShape) (error : Option Error) (new : Locked) : Type 0 where
  pub reply : Reply
  pub does : Does honest old shape reply new
  pub cause : IfSome error (λ e. (e ≡ OutOfMemory) ⊎ (reply ≡ Refused e))
