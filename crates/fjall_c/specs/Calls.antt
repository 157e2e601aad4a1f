-- What comes of the engine's calls that a session makes. Callers have the words of the engine's calls from here.
pub use Rattle.fjall_core.specs.CoreStanding.{number_reply, pairs_reply, reply_of, ticket_reply, value_reply}
pub use Rattle.fjall_history.specs.Queries.{Get, Page}
pub use Rattle.fjall_history.specs.declared.ticket.View.TheVariants.{At, Present}
pub use Rattle.fjall_journal.specs.Changes.{Items}
pub use Rattle.fjall_machine.specs.Shapes.{ByMode, Close, OfChange, OfCreation, OfPersist, OfRead, OfTickets, Open}
pub use Rattle.fjall_options.specs.Options.{default_options}
use Rattle.std.specs.Prelude.{ℕ, ◌≡◌, ◌⊎◌, Option, Some, None, Result, Err}
use Rattle.fjall_base.specs.Pairs.{Bytes}
use Rattle.fjall_base.specs.declared.error.Error.{Error}
use Rattle.fjall_base.specs.declared.error.Error.TheVariants.{OutOfMemory, Poisoned}
use Rattle.fjall_history.specs.declared.reply.Reply.{Reply}
use Rattle.fjall_history.specs.declared.ticket.View.{View}
use Rattle.fjall_journal.specs.declared.op.Op.TheVariants as ops
use Rattle.fjall_machine.specs.Shapes.{CallShape, of_write}
use Rattle.fjall_core.specs.CoreStanding.{Owes, Serves}
use Rattle.fjall_core.specs.Holding.{Held}
use Rattle.fjall_c.specs.Live.{Live}

-- one call of an engine over a disk that returns what it holds: a step of the machine, whose reply is owed
abbrev pub Makes : Held → CallShape → Reply → Held → Type 0
Makes old shape reply new = Serves old shape reply new × Owes old shape reply new

-- refused, since the database isn't open, or for want of memory before that is looked at
abbrev pub IsClosed : {T : Type 0} → Result T Error → Type 0
IsClosed result = (result ≡ Err Poisoned) ⊎ (result ≡ Err OutOfMemory)

-- A call of the engine, where the database is open, which leaves all else that it has; or nothing changes, for want of memory before. Where
-- it isn't open the call is refused.
abbrev pub Calls : {T : Type 0} → CallShape → (Result T Error → Reply) → Option Live → Option Live → Result T Error → Type 0
Calls shape reply (Some old) (Some new) result =
    (Makes old.engine shape (reply result) new.engine × (new ≡ record old { engine = new.engine })) ⊎ ((result ≡ Err OutOfMemory) × (new ≡ old))
Calls shape reply (Some old) None result = ⊥
Calls shape reply None new result = IsClosed result × (new ≡ None)

-- the call that gives a key a value
abbrev pub inserting : ℕ → Bytes → Bytes → CallShape
inserting id key value = of_write (id, key, ops.Put value)

-- the call that takes a key away
abbrev pub removing : ℕ → Bytes → CallShape
removing id key = of_write (id, key, ops.Remove)

-- what the snapshot of this id shows, by which alone it counts
abbrev pub seen_at : ℕ → View
seen_at id = At (record { id = id; instant = 0 })
