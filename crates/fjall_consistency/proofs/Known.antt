-- What is known of a list of calls, beside the world that an engine goes through.
use Rattle.std.proofs.Common.{◌≡◌, ◌≢◌, ◌⊎◌, ℕ, ◌-◌, ◌<◌, ◌≤◌, ◌^◌, true, List, [], ◌∷◌, ◌++◌, length, All, Option, None, Some, unwrap_or}
use Rattle.std.specs.Prelude.{Contains, slice_get}
use Rattle.std.specs.FinMap.{get}
use Rattle.fjall_base.specs.Store.{Store}
use Rattle.fjall_history.specs.declared.reply.Reply.{Reply}
use Rattle.fjall_history.specs.declared.ticket.Ticket.{Ticket}
use Rattle.fjall_history.specs.Histories.{view}
use Rattle.fjall_history.specs.Tickets.{is_open}
use Rattle.fjall_machine.specs.Machine.{State, present}
use Rattle.fjall_machine.specs.Places.{id_opened}
use Rattle.fjall_calls.specs.Standing.{history_of}
use Rattle.fjall_calls.specs.Hearing.{tx_of}
use Rattle.fjall_calls.specs.Worlds.{Going, World}
use Rattle.fjall_calls.proofs.KeptWorlds.{IsKept}
use Rattle.fjall_consistency.specs.Alike.{AreAlike}
use Rattle.fjall_calls.specs.declared.call.TxCall.{TxCall}
use Rattle.fjall_consistency.specs.Consistency.{IsAnswer, Known, Transaction, after, named}
use Rattle.fjall_consistency.proofs.Going.{IsSame}

-- no ticket has the greatest u64 as its id
abbrev pub no_id : ℕ
no_id = 2 ^ 64 - 1

-- The ticket of this id shows this store while it is open, and none once it is closed; no ticket at all has the greatest id.
pub record IsShown (s : State) (id : ℕ) (shows : Option Store) : Type 0 where
  pub given : (id < s.tickets.next) ⊎ (id ≡ no_id)
  pub there : (instant : ℕ) → get s.tickets.instants id ≡ Some instant → (store : Store) × (shows ≡ Some store) × AreAlike (view s.history instant) store
  pub closed : get s.tickets.instants id ≡ None → shows ≡ None

-- An open transaction is known under its place. Its ticket is open, and no call named a ticket of its id.
pub record IsGoing (w : World) (before : List Reply) (k : Known) (g : Going) : Type 0 where
  pub tx : Transaction
  pub at : slice_get k.transactions g.named.place ≡ Some (Some tx)
  pub there : get w.told.state.tickets.instants (tx_of g).ticket.id ≡ Some (tx_of g).ticket.instant
  pub unnamed : (place : ℕ) → id_opened (slice_get before place) ≡ (tx_of g).ticket.id → ⊥
  pub same : IsSame (history_of w.told) (tx_of g).ticket.instant (tx_of g).own (tx_of g).marks (tx_of g).mode tx

-- two transactions have other places and other tickets
abbrev pub AreTwo : Going → Going → Type 0
AreTwo g h = (g.named.place ≢ h.named.place) × ((tx_of g).ticket.id ≢ (tx_of h).ticket.id)

-- so it is of each two of these
abbrev pub AreApart : List Going → Type 0
AreApart [] = Unit {0}
AreApart (g ∷ others) = All (AreTwo g) others × AreApart others

-- one that marks nothing is the single writer's
abbrev pub IsWritersOwn : World → Going → Type 0
IsWritersOwn w g = (tx_of g).marks ≡ None → w.writer ≡ Some (tx_of g).ticket

-- The world stands behind calls that got these replies, of which this is known.
pub record IsKnown (w : World) (before : List Reply) (k : Known) : Type 0 where
  pub kept : IsKept w
  pub alike : AreAlike (present w.told.state) k.present
  pub small : w.told.state.tickets.next ≤ no_id
  pub undamaged : w.told.state.damaged ≡ []
  pub well : w.told.state.poisoned ≡ true → k.failed ≡ true
  pub broken : k.broken ≡ true → w.told.state.poisoned ≡ true
  pub snapshots : length k.snapshots ≡ length before
  pub transactions : length k.transactions ≡ length before
  pub shown : (place : ℕ) → IsShown w.told.state (id_opened (slice_get before place)) (unwrap_or (slice_get k.snapshots place) None)
  pub one_each : (place other : ℕ) → id_opened (slice_get before place) ≢ no_id → id_opened (slice_get before place) ≡ id_opened (slice_get before other) → place ≡ other
  pub going : All (IsGoing w before k) w.going
  pub apart : AreApart w.going
  pub found : (place : ℕ) (tx : Transaction) → named k place ≡ Some tx → (g : Going) × Contains w.going g × (g.named.place ≡ place)
  pub written : All (IsWritersOwn w) w.going
  pub writer_given : (ticket : Ticket) → w.writer ≡ Some ticket → ticket.id < w.told.state.tickets.next
  pub writer : (ticket : Ticket) → w.writer ≡ Some ticket → is_open w.told.state.tickets ticket.id ≡ true → (g : Going) × Contains w.going g × ((tx_of g).ticket ≡ ticket) × ((tx_of g).marks ≡ None)

-- A call was told what callers may rely on, and what is known after it stands beside the world after it.
pub record Tells (v : World) (before : List Reply) (k : Known) (call : TxCall) (reply : Reply) : Type 0 where
  pub answer : IsAnswer k call reply
  pub known : IsKnown v (before ++ reply ∷ []) (after k call reply)
