-- What transactions of a list heard and what came of them, as the history tells.
use Rattle.std.specs.Prelude.{◌≡◌, ⊤, ◌⊎◌, ℕ, All, List, [], ◌∷◌, ◌++◌, Option, None, Some, slice_get}
use Rattle.fjall_base.specs.Store.{map_at}
use Rattle.fjall_tx.specs.Owns.{items_of, own_written}
use Rattle.fjall_tx.specs.Marks.{Marks}
use Rattle.fjall_history.specs.Histories.{History, number, view}
use Rattle.fjall_history.specs.Queries.{Tells}
use Rattle.fjall_history.specs.declared.reply.Reply.{Reply}
use Rattle.fjall_history.specs.Asks.{IsMarked}
use Rattle.fjall_history.specs.Checked.{before}
use Rattle.fjall_history.specs.Serial.{serial_store}
use Rattle.fjall_core.specs.Transactions.{Tx}
use Rattle.fjall_core.specs.Standing.{accepted_of, history_of}
use Rattle.fjall_calls.specs.declared.call.Kind.TheVariants.{Single}
use Rattle.fjall_calls.specs.declared.call.TxCall.{TxCall}
use Rattle.fjall_calls.specs.declared.call.TxCall.TheVariants as calls
use Rattle.fjall_calls.specs.Steps.{TxStep}
use Rattle.fjall_calls.specs.Worlds.{Going, Gone, Heard, World}

abbrev pub tx_of : Going → Tx
tx_of g = g.named.transaction

-- the keys that the answer rests on are among what the transaction marked as read; the single writer's marks nothing
abbrev pub IsMarkedBy : Option Marks → Heard → Type 0
IsMarkedBy None h = ⊤
IsMarkedBy (Some marks) h = IsMarked marks.reads h.id h.query

-- The answer is that of the view at the instant at which the transaction began, with its own writes of then, and is marked.
pub record IsOfView (h : History) (tx : Tx) (heard : Heard) : Type 0 where
  pub tells : Tells heard.query (map_at (own_written (view h tx.ticket.instant).maps heard.own) heard.id) heard.reply
  pub marked : IsMarkedBy tx.marks heard

-- the answer is that of what the optimistic transactions before a place of the history, and they alone, make of the opened store, one
-- after another, with the transaction's own writes of then
abbrev pub IsOfThoseBefore : History → ℕ → Heard → Type 0
IsOfThoseBefore h place heard = Tells heard.query (map_at (own_written (serial_store (before h place)).maps heard.own) heard.id) heard.reply

-- A transaction that committed stands at its place of the history, as one command of its own writes, with the instant at which it
-- began and all that it marked; and each answer that it got was of its view.
pub record StandsIn (h : History) (g : Gone) : Type 0 where
  pub here : slice_get h.accepted g.place ≡ Some (accepted_of (tx_of g.was).ticket.instant (tx_of g.was).marks (items_of (tx_of g.was).own))
  pub heard : All (IsOfView h (tx_of g.was)) g.was.heard

-- a commit of the single writer's transaction
abbrev pub IsByWriter : TxCall → Type 0
IsByWriter (calls.Commit Single name) = ⊤
IsByWriter call = ⊥

-- Calls of a list one after another, where each that changes what is stored commits the single writer's transaction.
pub data WriterRun : World → List Reply → List TxCall → List Reply → World → Type 0 where
  NoMore : (w : World) (before : List Reply) → WriterRun w before [] [] w
  OneMore : (w mid v : World) (before : List Reply) (call : TxCall) (reply : Reply) (made : List _) (told : List Reply) (more : List TxCall) (replies : List Reply)
      (step : TxStep w before call reply made told mid) (through : IsByWriter call ⊎ (number (history_of mid.told) ≡ number (history_of w.told)))
      (rest : WriterRun mid (before ++ reply ∷ []) more replies v) → WriterRun w before (call ∷ more) (reply ∷ replies) v
