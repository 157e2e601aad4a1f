-- The names of transactions within a list of calls.
use Rattle.std.specs.Prelude.{◌≡◌, ℕ, ◌+◌, ◌==◌, ◌&&◌, Bool, true, false, not, List, ◌++◌, All, Option, None, Some, drop, is_none, slice_get, take}
use Rattle.fjall_history.specs.Tickets.{Tickets, is_open}
use Rattle.fjall_core.specs.Transactions.{Tx}
use Rattle.fjall_calls.specs.declared.call.Kind.{Kind}
use Rattle.fjall_calls.specs.declared.call.Kind.TheVariants.{Optimistic, Single}
use Rattle.fjall_calls.specs.declared.named.Named.{Named}

-- the kind of a transaction is this one, where one is asked for: the single writer's marks nothing
abbrev pub is_of_kind : Option Kind → Tx → Bool
is_of_kind None tx = true
is_of_kind (Some Optimistic) tx = not (is_none tx.marks)
is_of_kind (Some Single) tx = is_none tx.marks

-- it is the transaction of this name and kind, and open as long as its ticket is
abbrev pub is_wanted : Tickets → ℕ → Option Kind → Named → Bool
is_wanted tickets name kind named = (named.place == name) && (is_of_kind kind named.transaction && is_open tickets named.transaction.ticket.id)

-- What is found in a list, and what is left of it then: one that is wanted is taken out; or none is there.
abbrev pub Takes : {A : Type 0} → (A → Bool) → List A → Option A → List A → Type 0
Takes is old None new = All (λ one. is one ≡ false) old × (new ≡ old)
Takes is old (Some one) new = (is one ≡ true) × (at : ℕ) × (slice_get old at ≡ Some one) × (new ≡ take at old ++ drop (at + 1) old)
